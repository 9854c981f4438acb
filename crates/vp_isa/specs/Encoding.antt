-- The 12 bytes of an instruction. Numbers have the greatest byte first.
use Rattle.std.specs.Prelude.{ℕ, ◌<◌, ◌^◌, ◌++◌, List, ◌∷◌, Bool, true, false}
use Rattle.std.specs.Int.{w16, w32, w64, to_be_bytes, cast_unsigned}
use Rattle.vp_words.specs.declared.record.Kind.{Kind}
use Rattle.vp_words.specs.declared.record.Kind.TheVariants as kind
use Rattle.vp_words.specs.Number.{IsWord}
use Rattle.vp_isa.specs.declared.instr.Mon.{Mon}
use Rattle.vp_isa.specs.declared.instr.Mon.TheVariants as mon
use Rattle.vp_isa.specs.declared.instr.Instr.{Instr}
use Rattle.vp_isa.specs.declared.instr.Instr.TheVariants.{Const, Copy, Neg, Min, Max, AddD, AddU, MulD, MulU, Jmp, Jge, Jgt, Jeq, Take, Act, Halt}

-- byte 1 of TAKE
abbrev pub kind_number : Kind → ℕ
kind_number kind.Init = 0
kind_number kind.Choice = 1
kind_number kind.Sense = 2

-- byte 1 of ACT, and the truth of HALT
abbrev pub flag_number : Bool → ℕ
flag_number false = 0
flag_number true = 1

-- byte 1 of HALT
abbrev pub mon_number : Mon → ℕ
mon_number (mon.Init k unknown) = 0
mon_number (mon.Plant k unknown) = 1
mon_number mon.Fallback = 2

-- the truth of HALT, 0 where the monitor has none
abbrev pub truth_number : Mon → ℕ
truth_number (mon.Init k unknown) = flag_number unknown
truth_number (mon.Plant k unknown) = flag_number unknown
truth_number mon.Fallback = 0

-- the conjunct of HALT, 0 where the monitor has none
abbrev pub conjunct_number : Mon → ℕ
conjunct_number (mon.Init k unknown) = k
conjunct_number (mon.Plant k unknown) = k
conjunct_number mon.Fallback = 0

-- bytes 4 to 11 as two numbers of 2 bytes and one of 4
abbrev pub operand_bytes : ℕ → ℕ → ℕ → List ℕ
operand_bytes a b t = to_be_bytes w16 a ++ to_be_bytes w16 b ++ to_be_bytes w32 t

-- the op, byte 1, the number of bytes 2 and 3, and bytes 4 to 11
abbrev pub instr_bytes : ℕ → ℕ → ℕ → List ℕ → List ℕ
instr_bytes op one front rest = op ∷ one ∷ to_be_bytes w16 front ++ rest

-- the bytes of an instruction
abbrev pub encoded : Instr → List ℕ
encoded (Const d w) = instr_bytes 1 0 d (to_be_bytes w64 (cast_unsigned w64 w))
encoded (Copy d a) = instr_bytes 2 0 d (operand_bytes a 0 0)
encoded (Neg d a) = instr_bytes 3 0 d (operand_bytes a 0 0)
encoded (Min d a b) = instr_bytes 4 0 d (operand_bytes a b 0)
encoded (Max d a b) = instr_bytes 5 0 d (operand_bytes a b 0)
encoded (AddD d a b) = instr_bytes 6 0 d (operand_bytes a b 0)
encoded (AddU d a b) = instr_bytes 7 0 d (operand_bytes a b 0)
encoded (MulD d a b) = instr_bytes 8 0 d (operand_bytes a b 0)
encoded (MulU d a b) = instr_bytes 9 0 d (operand_bytes a b 0)
encoded (Jmp t) = instr_bytes 10 0 0 (operand_bytes 0 0 t)
encoded (Jge a b t) = instr_bytes 11 0 a (operand_bytes b 0 t)
encoded (Jgt a b t) = instr_bytes 12 0 a (operand_bytes b 0 t)
encoded (Jeq a b t) = instr_bytes 13 0 a (operand_bytes b 0 t)
encoded (Take kind d) = instr_bytes 14 (kind_number kind) d (operand_bytes 0 0 0)
encoded (Act fallback d) = instr_bytes 15 (flag_number fallback) d (operand_bytes 0 0 0)
encoded (Halt mon) = instr_bytes 16 (mon_number mon) (truth_number mon) (operand_bytes 0 0 (conjunct_number mon))

-- the number of a conjunct has 4 bytes
abbrev pub IsMon : Mon → Type 0
IsMon (mon.Init k unknown) = k < 2 ^ 32
IsMon (mon.Plant k unknown) = k < 2 ^ 32
IsMon mon.Fallback = Unit {0}

-- each cell has 2 bytes, each target 4, and each word is one
abbrev pub IsInstr : Instr → Type 0
IsInstr (Const d w) = (d < 2 ^ 16) × IsWord w
IsInstr (Copy d a) = (d < 2 ^ 16) × (a < 2 ^ 16)
IsInstr (Neg d a) = (d < 2 ^ 16) × (a < 2 ^ 16)
IsInstr (Min d a b) = (d < 2 ^ 16) × (a < 2 ^ 16) × (b < 2 ^ 16)
IsInstr (Max d a b) = (d < 2 ^ 16) × (a < 2 ^ 16) × (b < 2 ^ 16)
IsInstr (AddD d a b) = (d < 2 ^ 16) × (a < 2 ^ 16) × (b < 2 ^ 16)
IsInstr (AddU d a b) = (d < 2 ^ 16) × (a < 2 ^ 16) × (b < 2 ^ 16)
IsInstr (MulD d a b) = (d < 2 ^ 16) × (a < 2 ^ 16) × (b < 2 ^ 16)
IsInstr (MulU d a b) = (d < 2 ^ 16) × (a < 2 ^ 16) × (b < 2 ^ 16)
IsInstr (Jmp t) = t < 2 ^ 32
IsInstr (Jge a b t) = (a < 2 ^ 16) × (b < 2 ^ 16) × (t < 2 ^ 32)
IsInstr (Jgt a b t) = (a < 2 ^ 16) × (b < 2 ^ 16) × (t < 2 ^ 32)
IsInstr (Jeq a b t) = (a < 2 ^ 16) × (b < 2 ^ 16) × (t < 2 ^ 32)
IsInstr (Take kind d) = d < 2 ^ 16
IsInstr (Act fallback d) = d < 2 ^ 16
IsInstr (Halt mon) = IsMon mon
