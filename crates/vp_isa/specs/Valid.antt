-- Which code a machine runs, and the first rule that other code breaks.
use Rattle.std.specs.Prelude.{ℕ, ◌+◌, ◌-◌, ◌<◌, ◌≤◌, ◌≡◌, ◌⊎◌, ◌==◌, ◌&&◌, max, not, nat_lt, nat_le, Bool, true, false, List, [], ◌∷◌, length, slice_get, Option, None, Some, IfSome, if◌then◌else◌}
use Rattle.vp_words.specs.declared.record.Counts.{Counts}
use Rattle.vp_words.specs.Record.{IsValid as AreCounts, field_count, is_valid}
use Rattle.vp_isa.specs.declared.instr.Instr.{Instr}
use Rattle.vp_isa.specs.declared.instr.Instr.TheVariants.{Const, Copy, Neg, Min, Max, AddD, AddU, MulD, MulU, Jmp, Jge, Jgt, Jeq, Take, Act, Halt}
use Rattle.vp_isa.specs.declared.code.Code.{Code}
use Rattle.vp_isa.specs.declared.code.CheckErr.{CheckErr}
use Rattle.vp_isa.specs.declared.code.CheckErr.TheVariants.{Size, Shape, Cell, Target, Back, Fall}

-- one past the greatest cell that an instruction uses, and 0 where it uses none
abbrev pub cells_used : Counts → Instr → ℕ
cells_used counts (Const d w) = d + 1
cells_used counts (Copy d a) = max d a + 1
cells_used counts (Neg d a) = max d a + 1
cells_used counts (Min d a b) = max d (max a b) + 1
cells_used counts (Max d a b) = max d (max a b) + 1
cells_used counts (AddD d a b) = max d (max a b) + 1
cells_used counts (AddU d a b) = max d (max a b) + 1
cells_used counts (MulD d a b) = max d (max a b) + 1
cells_used counts (MulU d a b) = max d (max a b) + 1
cells_used counts (Jmp t) = 0
cells_used counts (Jge a b t) = max a b + 1
cells_used counts (Jgt a b t) = max a b + 1
cells_used counts (Jeq a b t) = max a b + 1
cells_used counts (Take kind d) = d + field_count kind counts
cells_used counts (Act fallback d) = d + counts.controls
cells_used counts (Halt mon) = 0

-- the target of a jump
abbrev pub target_of : Instr → Option ℕ
target_of (Jmp t) = Some t
target_of (Jge a b t) = Some t
target_of (Jgt a b t) = Some t
target_of (Jeq a b t) = Some t
target_of i = None

-- an instruction that takes a record
abbrev pub is_take : Option Instr → Bool
is_take (Some (Take kind d)) = true
is_take i = false

-- an instruction after which the following one is never executed
abbrev pub never_falls : Option Instr → Bool
never_falls (Some (Jmp t)) = true
never_falls (Some (Halt mon)) = true
never_falls i = false

-- What holds of code that a machine runs.

-- a jump goes forward, or to the head
pub record TargetFits (code : Code) (at t : ℕ) : Type 0 where
  pub within : t < length code.instrs
  pub forward : (at < t) ⊎ (t ≡ code.head)

-- what each instruction of the code keeps
pub record IsFine (code : Code) (at : ℕ) (i : Instr) : Type 0 where
  pub cells : cells_used code.counts i ≤ code.cells
  pub target : IfSome (target_of i) (TargetFits code at)
  pub falls : at + 1 ≡ length code.instrs → never_falls (Some i) ≡ true

pub record IsValid (code : Code) : Type 0 where
  pub counts : AreCounts code.counts
  pub some : 0 < length code.instrs
  pub short : length code.instrs ≤ 65536
  pub small : code.cells ≤ 8192
  pub head : code.head < length code.instrs
  pub first : is_take (slice_get code.instrs 0) ≡ true
  pub at_head : is_take (slice_get code.instrs code.head) ≡ true
  pub each : (at : ℕ) (i : Instr) → slice_get code.instrs at ≡ Some i → IsFine code at i

-- The first rule that code breaks.

-- the sizes are within their limits
abbrev pub size_fits : Code → Bool
size_fits code =
    is_valid code.counts && (nat_le 1 (length code.instrs) && (nat_le (length code.instrs) 65536 && (nat_le code.cells 8192 && nat_lt code.head (length code.instrs))))

abbrev pub target_refusal : Code → ℕ → Option ℕ → Option CheckErr
target_refusal code at None = None
target_refusal code at (Some t) = if nat_le (length code.instrs) t then Some (Target at) else if nat_le t at && not (t == code.head) then Some (Back at) else None

-- what is wrong with the instruction at a place
abbrev pub refusal_at : Code → ℕ → Instr → Option CheckErr
refusal_at code at i = if nat_lt code.cells (cells_used code.counts i) then Some (Cell at) else target_refusal code at (target_of i)

abbrev pub first_of : Option CheckErr → Option CheckErr → Option CheckErr
first_of None other = other
first_of (Some e) other = Some e

-- the first refusal of instructions that stand from a place on
abbrev pub first_refusal : Code → ℕ → List Instr → Option CheckErr
first_refusal code at [] = None
first_refusal code at (i ∷ is) = first_of (refusal_at code at i) (first_refusal code (at + 1) is)

abbrev pub end_refusal : Code → Option CheckErr
end_refusal code = if never_falls (slice_get code.instrs (length code.instrs - 1)) then None else Some Fall

-- why code is refused, if it is
abbrev pub refusal : Code → Option CheckErr
refusal code =
    if not (size_fits code) then Some Size
    else if not (is_take (slice_get code.instrs 0)) then Some (Shape 0)
    else if not (is_take (slice_get code.instrs code.head)) then Some (Shape code.head)
    else first_of (first_refusal code 0 code.instrs) (end_refusal code)
