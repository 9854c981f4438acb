-- One turn of a machine.
use Rattle.std.proofs.Common.{◌≡◌, ℕ, ◌+◌, ◌≤◌, ◌++◌, List, false, length, take, ap, ◌∙◌, subst}
use Rattle.std.specs.Prelude.{ℤ}
use Rattle.std.proofs.Math.Seq.{take-append_seam}
use Rattle.vp_isa.specs.declared.code.Code.{Code}
use Rattle.vp_isa.specs.Valid.{IsValid}
use Rattle.vp_isa.specs.Machine.{MachineState, step, run_to_stop, steps_to_stop, replied, HasDueCount, IsStanding}
use Rattle.vp_isa.proofs.Runs.{answer_stands, answer_bound}

-- the machine stands again after its turn
pub turn_stands : (code : Code) (words : List ℤ) (m first last : MachineState) → IsValid code → IsStanding code m → m.ended ≡ false → HasDueCount code m words
    → step code words m ≡ first → run_to_stop code (length code.instrs) first ≡ last → IsStanding code (replied last)
turn_stands code words m first last v s on due took ran =
    let e : run_to_stop code (length code.instrs) (step code words m) ≡ last = ap (run_to_stop code (length code.instrs)) took ∙ ran in
    subst (λ n. IsStanding code (replied n)) e (answer_stands code words m v s on due)

-- it has executed at most as many instructions as there are
pub turn_bound : (code : Code) (words : List ℤ) (m first : MachineState) (count : ℕ) → IsValid code → IsStanding code m → m.ended ≡ false
    → step code words m ≡ first → steps_to_stop code (length code.instrs) first ≡ count → count + 1 ≤ length code.instrs
turn_bound code words m first count v s on took ran =
    let e : steps_to_stop code (length code.instrs) (step code words m) ≡ count = ap (steps_to_stop code (length code.instrs)) took ∙ ran in
    subst (λ n. n + 1 ≤ length code.instrs) e (answer_bound code words m v s on)

-- cells that were written through a slice of them all
pub all_cells : (n : ℕ) (cells rest : List ℤ) → length cells ≡ n → take n (cells ++ rest) ≡ cells
all_cells n cells rest e = subst (λ k. take k (cells ++ rest) ≡ cells) e (take-append_seam cells rest)
