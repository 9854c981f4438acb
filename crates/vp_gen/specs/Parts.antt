-- What private calls say of the parts of the code.
use Rattle.std.specs.Prelude.{◌≡◌, ℕ, ◌+◌, ◌*◌, ◌++◌, List, map}
use Rattle.vp_words.specs.declared.record.Kind.TheVariants as kind
use Rattle.vp_isa.specs.declared.instr.Instr.{Instr}
use Rattle.vp_logic.specs.Tree.{tree}
use Rattle.vp_sandbox.specs.declared.sandbox.Sandbox.{Sandbox}
use Rattle.vp_emit.specs.Draft.{Draft}
use Rattle.vp_layout.specs.declared.block.Monitor.TheVariants as monitor
use Rattle.vp_layout.specs.Blocks.{copies, take_code}
use Rattle.vp_layout.specs.Drafts.{Settles, mon_of}
use Rattle.vp_layout.specs.Homes.{homes_of, state_cell, next_state_cell}
use Rattle.vp_gen.specs.CheckCode.{checks_code}
use Rattle.vp_gen.specs.SandboxCode.{code_of, head_of, work_cell}

-- from place p: an init record is taken and tested
abbrev pub init_part : Sandbox → ℕ → List Instr
init_part s p = take_code s.counts kind.Init ++ checks_code (p + 5) work_cell (mon_of monitor.Init) 1 (map tree s.init) (homes_of s.counts)

-- from place p: a sensing is taken and tested, and the next states become the states
abbrev pub sense_part : Sandbox → ℕ → List Instr
sense_part s p =
    (take_code s.counts kind.Sense ++ checks_code (p + 5) work_cell (mon_of monitor.Plant) 1 (map tree s.plant) (homes_of s.counts))
    ++ copies (state_cell s.counts) (next_state_cell s.counts) (2 * s.counts.states)

-- what was pushed becomes the code of the sandbox, and this is its head
pub record IsWhole (s : Sandbox) (head : ℕ) (d : Draft) : Type 0 where
  pub head_is : head ≡ head_of s
  pub counts : d.counts ≡ s.counts
  pub settles : Settles d.places d.pushed (code_of s).instrs
