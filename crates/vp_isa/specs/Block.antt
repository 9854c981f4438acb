-- Blocks: instructions without jumps, as they act on the cells alone.
use Rattle.std.specs.Prelude.{ℕ, ◌+◌, ◌≡◌, ◌&&◌, Bool, true, false, List, [], ◌∷◌, ℤ, slice_get, Some}
use Rattle.vp_isa.specs.declared.instr.Instr.{Instr}
use Rattle.vp_isa.specs.declared.instr.Instr.TheVariants.{Jmp, Jge, Jgt, Jeq, Take, Act, Halt}
use Rattle.vp_isa.specs.declared.code.Code.{Code}
use Rattle.vp_isa.specs.Machine.{written}

-- an instruction that writes one cell and goes on
abbrev pub is_plain : Instr → Bool
is_plain (Jmp t) = false
is_plain (Jge a b t) = false
is_plain (Jgt a b t) = false
is_plain (Jeq a b t) = false
is_plain (Take kind d) = false
is_plain (Act fallback d) = false
is_plain (Halt mon) = false
is_plain _ = true

abbrev pub are_plain : List Instr → Bool
are_plain [] = true
are_plain (i ∷ is) = is_plain i && are_plain is

-- the cells after a block
abbrev pub after : List Instr → List ℤ → List ℤ
after [] c = c
after (i ∷ is) c = after is (written i c)

-- the instructions stand in the code from place p on
abbrev pub HasAt : Code → ℕ → List Instr → Type 0
HasAt code p [] = Unit {0}
HasAt code p (i ∷ is) = (slice_get code.instrs p ≡ Some i) × HasAt code (p + 1) is
