-- What compiling a sandbox answers.
use Rattle.std.specs.Prelude.{◌≡◌, ◌<◌, ◌≤◌, length}
use Rattle.vp_words.specs.Exchanges.{Agree}
use Rattle.vp_isa.specs.declared.code.Code.{Code}
use Rattle.vp_isa.specs.Answering.{machine_of}
use Rattle.vp_sandbox.specs.declared.sandbox.Sandbox.{Sandbox}
use Rattle.vp_sandbox.specs.Answer.{sandbox_of}
use Rattle.vp_sandbox.specs.Sizes.{instruction_bound, cell_bound, saturated}
use Rattle.vp_gen.specs.declared.generate.GenErr.{GenErr}
use Rattle.vp_gen.specs.declared.generate.GenErr.TheVariants.{Long, Cells, Memory}

-- the code agrees with the sandbox, and is no larger than its sizes, which are within the limits
pub record IsCodeOf (s : Sandbox) (code : Code) : Type 0 where
  pub agrees : Agree (machine_of code) (sandbox_of s)
  pub instrs : length code.instrs ≤ instruction_bound s
  pub cells : code.cells ≤ cell_bound s
  pub short : saturated (instruction_bound s) ≤ 65536
  pub small : saturated (cell_bound s) ≤ 8192

-- when each refusal comes: too many instructions, else too many cells; memory may run out
abbrev pub Refuses : Sandbox → GenErr → Type 0
Refuses s (Long count) = (65536 < count) × (count ≡ saturated (instruction_bound s))
Refuses s (Cells count) = (saturated (instruction_bound s) ≤ 65536) × (8192 < count) × (count ≡ saturated (cell_bound s))
Refuses s Memory = Unit {0}
