-- What the laws of the crates below say, as one premise of lemmas.
use Rattle.std.proofs.Common.{◌≡◌, ℕ, ◌+◌, ◌*◌, ◌≤◌, List, [], ◌∷◌, ◌++◌, length, map, Bool}
use Rattle.std.specs.Prelude.{ℤ}
use Rattle.vp_words.specs.declared.record.Counts.{Counts}
use Rattle.vp_words.specs.declared.record.Kind.{Kind}
use Rattle.vp_words.specs.declared.record.Kind.TheVariants.{Choice}
use Rattle.vp_words.specs.Record.{IsValid, field_count}
use Rattle.vp_isa.specs.declared.code.Code.{Code}
use Rattle.vp_isa.specs.declared.instr.Instr.TheVariants.{Jmp}
use Rattle.vp_isa.specs.Block.{HasAt}
use Rattle.vp_isa.specs.Machine.{MachineState}
use Rattle.vp_poly.specs.declared.mono.Term.{Term}
use Rattle.vp_interval.specs.Polynomial.{interval_of}
use Rattle.vp_interval.specs.Rounding.{Ends}
use Rattle.vp_sandbox.specs.Boxes.{boxes_of, first_next_state, first_state, placed, tested}
use Rattle.vp_sandbox.specs.Fits.{PolysFit, in_init}
use Rattle.vp_layout.specs.Blocks.{act_code, copies, take_code}
use Rattle.vp_layout.specs.Cells.{StandAt}
use Rattle.vp_layout.specs.Homes.{next_control_cell, next_state_cell, state_cell}
use Rattle.vp_layout.specs.Ties.{Acted, Keeping, Replies, Stands, Taken, Takes, accepted, standing}
use Rattle.vp_layout.proofs.Machines.{Runs}

pub record Known : Type 0 where
  pub runs : Runs
  -- records are taken, words become controls, and next states become states
  pub taken : (code : Code) (p : ℕ) (kind : Kind) (words : List ℤ) (boxes : List Ends) (m : MachineState) → IsValid code.counts → 68 ≤ code.cells → length words ≡ field_count kind code.counts
      → HasAt code p (take_code code.counts kind) → Stands code p boxes m → Taken code p kind words boxes m
  pub acts : (code : Code) (boxes : List Ends) (cells words : List ℤ) (p d : ℕ) (fallback : Bool) → IsValid code.counts → length words ≡ code.counts.controls
      → next_control_cell code.counts ≤ d → d + code.counts.controls ≤ code.cells → 68 ≤ code.cells → Keeping code boxes cells → StandAt cells d words
      → HasAt code p (act_code code.counts fallback d) → Acted code boxes words fallback (standing cells p) (p + length (act_code code.counts fallback d))
  pub states : (code : Code) (sense : ℕ) (boxes : List Ends) (cells words : List ℤ) (p : ℕ) → IsValid code.counts → Takes code sense → Keeping code boxes cells → 68 ≤ code.cells
      → length words ≡ 2 * code.counts.states → StandAt cells (next_state_cell code.counts) words
      → HasAt code p (copies (state_cell code.counts) (next_state_cell code.counts) (2 * code.counts.states) ++ Jmp code.head ∷ [])
      → Replies code sense (standing cells p) (accepted (placed (first_state code.counts) (boxes_of code.counts.states words) boxes))
  -- a choice keeps the intervals of the fallback
  pub fallback : (c : Counts) (boxes : List Ends) (words : List ℤ) (ps : List (List Term)) → first_next_state c ≤ length boxes → PolysFit (in_init c) ps
      → map (interval_of (tested c Choice words boxes)) ps ≡ map (interval_of boxes) ps
