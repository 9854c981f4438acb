-- What the laws of the machine say, as one premise of lemmas.
use Rattle.std.specs.Prelude.{◌≡◌, ◌+◌, ◌++◌, ℕ, ℤ, List, [], length, true, false}
use Rattle.vp_isa.specs.declared.instr.Instr.{Instr}
use Rattle.vp_isa.specs.declared.code.Code.{Code}
use Rattle.vp_isa.specs.Valid.{IsValid}
use Rattle.vp_isa.specs.Machine.{MachineState, step, stopped, answer, replied, fresh, HasDueCount, IsReady, IsStanding}
use Rattle.vp_isa.specs.Block.{are_plain, after, HasAt}
use Rattle.vp_isa.specs.Runs.{Comes, ComesToStop}

-- runs compose, and a block without jumps is one
pub record Runs : Type 0 where
  pub none : (code : Code) (m : MachineState) → Comes code m m
  pub one : (code : Code) (m : MachineState) → stopped code m ≡ false → Comes code m (step code [] m)
  pub both : (code : Code) (a b c : MachineState) → Comes code a b → Comes code b c → Comes code a c
  pub block : (code : Code) (block : List Instr) (m : MachineState) → m.ended ≡ false → HasAt code m.place block → are_plain block ≡ true
      → Comes code m (record m { cells = after block m.cells; place = m.place + length block })
  pub piece : (code : Code) (before block behind : List Instr) → code.instrs ≡ before ++ (block ++ behind) → HasAt code (length before) block
  pub front : (code : Code) (p : ℕ) (a b : List Instr) → HasAt code p (a ++ b) → HasAt code p a
  pub back : (code : Code) (p : ℕ) (a b : List Instr) → HasAt code p (a ++ b) → HasAt code (p + length a) b

-- a run to a stop is the answer, and after each answer the machine stands
pub record Answers : Type 0 where
  pub reply : (code : Code) (words : List ℤ) (m n : MachineState) → IsReady code m → ComesToStop code (step code words m) n → (answer code words m).reply ≡ n.reply
  pub next : (code : Code) (words : List ℤ) (m n : MachineState) → IsReady code m → ComesToStop code (step code words m) n → (answer code words m).next ≡ replied n
  pub new : (code : Code) → IsValid code → IsStanding code (fresh code)
  pub stands : (code : Code) (words : List ℤ) (m : MachineState) → IsReady code m → HasDueCount code m words → IsStanding code (answer code words m).next
