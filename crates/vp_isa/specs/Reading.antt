-- The only instruction that 12 bytes can be, by their op. It need not be theirs: unused bytes are not looked at.
use Rattle.std.specs.Prelude.{ℕ, ◌==◌, nat_lt, List, take, drop, slice_index, ℤ, int_lt, Bool, true, false, Option, Some, None, if◌then◌else◌}
use Rattle.std.specs.Option.{option_map}
use Rattle.std.specs.Int.{w16, w32, w64, from_be_bytes, cast_signed}
use Rattle.vp_words.specs.Number.{minus_inf}
use Rattle.vp_words.specs.declared.record.Kind.{Kind}
use Rattle.vp_words.specs.declared.record.Kind.TheVariants as kind
use Rattle.vp_isa.specs.declared.instr.Mon.{Mon}
use Rattle.vp_isa.specs.declared.instr.Mon.TheVariants as mon
use Rattle.vp_isa.specs.declared.instr.Instr.{Instr}
use Rattle.vp_isa.specs.declared.instr.Instr.TheVariants.{Const, Copy, Neg, Min, Max, AddD, AddU, MulD, MulU, Jmp, Jge, Jgt, Jeq, Take, Act, Halt}

-- the number of 2 bytes, and of 4, from a place on
abbrev pub short_at : ℕ → List ℕ → ℕ
short_at at bytes = from_be_bytes w16 (take 2 (drop at bytes))

abbrev pub long_at : ℕ → List ℕ → ℕ
long_at at bytes = from_be_bytes w32 (take 4 (drop at bytes))

abbrev pub kind_of : ℕ → Option Kind
kind_of n = if n == 0 then Some kind.Init else if n == 1 then Some kind.Choice else if n == 2 then Some kind.Sense else None

abbrev pub flag_of : ℕ → Option Bool
flag_of n = if n == 0 then Some false else if n == 1 then Some true else None

-- a monitor with its number, its truth and its conjunct
abbrev pub mon_of : ℕ → ℕ → ℕ → Option Mon
mon_of n truth k =
    if n == 0 then option_map (λ unknown. mon.Init k unknown) (flag_of truth)
    else if n == 1 then option_map (λ unknown. mon.Plant k unknown) (flag_of truth)
    else if n == 2 then Some mon.Fallback
    else None

-- the word of bytes 4 to 11
abbrev pub word_at : List ℕ → ℤ
word_at bytes = cast_signed w64 (from_be_bytes w64 (drop 4 bytes))

-- the word of a number; only the least number of 64 bits has none
abbrev pub word_of : ℤ → Option ℤ
word_of z = if int_lt z minus_inf then None else Some z

-- the jump with the op, the cells and the target
abbrev pub jump_of : ℕ → ℕ → ℕ → ℕ → Option Instr
jump_of op a b t =
    if op == 10 then Some (Jmp t)
    else if op == 11 then Some (Jge a b t)
    else if op == 12 then Some (Jgt a b t)
    else if op == 13 then Some (Jeq a b t)
    else None

-- the instruction that writes cell d from cells a and b
abbrev pub write_of : ℕ → ℕ → ℕ → ℕ → Option Instr
write_of op d a b =
    if op == 2 then Some (Copy d a)
    else if op == 3 then Some (Neg d a)
    else if op == 4 then Some (Min d a b)
    else if op == 5 then Some (Max d a b)
    else if op == 6 then Some (AddD d a b)
    else if op == 7 then Some (AddU d a b)
    else if op == 8 then Some (MulD d a b)
    else if op == 9 then Some (MulU d a b)
    else None

-- TAKE, ACT or HALT, with byte 1
abbrev pub turn_of : ℕ → ℕ → ℕ → ℕ → Option Instr
turn_of op one d k =
    if op == 14 then option_map (λ kind. Take kind d) (kind_of one)
    else if op == 15 then option_map (λ fallback. Act fallback d) (flag_of one)
    else if op == 16 then option_map (λ mon. Halt mon) (mon_of one d k)
    else None

-- the instruction with these fields
abbrev pub instr_of : List ℕ → Option Instr
instr_of bytes =
    let op = slice_index bytes 0 in
    let front = short_at 2 bytes in
    let target = long_at 8 bytes in
    if op == 1 then option_map (λ w. Const front w) (word_of (word_at bytes))
    else if nat_lt op 10 then write_of op front (short_at 4 bytes) (short_at 6 bytes)
    else if nat_lt op 14 then jump_of op front (short_at 4 bytes) target
    else turn_of op (slice_index bytes 1) front target
