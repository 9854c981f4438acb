-- Runs of the machine that compose: whoever uses them counts no steps.
use Rattle.std.specs.Prelude.{ℕ, ◌+◌, ◌<◌, ◌≡◌, false, true, length}
use Rattle.vp_words.specs.Record.{is_violation}
use Rattle.vp_isa.specs.declared.code.Code.{Code}
use Rattle.vp_isa.specs.Machine.{MachineState, run_to_stop, stopped}

-- the machine comes from m to n, with no stop on the way
pub record Comes (code : Code) (m n : MachineState) : Type 0 where
  pub steps : ℕ
  pub by : (k : ℕ) → run_to_stop code (steps + k) m ≡ run_to_stop code k n

-- the machine comes from m to its next stop, which is n
pub record ComesToStop (code : Code) (m n : MachineState) : Type 0 where
  pub comes : Comes code m n
  pub stop : stopped code n ≡ true

-- a machine that isn't ended stands in the code
abbrev pub IsWithin : Code → MachineState → Type 0
IsWithin code m = m.ended ≡ false → m.place < length code.instrs

-- a machine at work on a record: it has all its cells, stands in the code until it is ended, and is
-- ended exactly where its reply is a violation
pub record IsAtWork (code : Code) (m : MachineState) : Type 0 where
  pub cells : length m.cells ≡ code.cells
  pub within : IsWithin code m
  pub ended : m.ended ≡ is_violation m.reply
