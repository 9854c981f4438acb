-- The parts of a machine as its state.
use Rattle.std.specs.Prelude.{ℕ, ℤ, false, List}
use Rattle.vp_words.specs.declared.record.Reply.{Reply}
use Rattle.vp_isa.specs.Machine.{Answer, MachineState}
use Rattle.vp_vm.specs.declared.execute.Position.{Position}
use Rattle.vp_vm.specs.declared.machine.VmReply.{VmReply}

-- cells, a place with whether a HALT was executed, and the reply so far
abbrev pub state : List ℤ → Position → Reply → MachineState
state cells at reply = record { cells = cells; place = at.place; reply = reply; ended = at.ended }

-- the same of a machine that isn't ended
abbrev pub going : List ℤ → ℕ → Reply → MachineState
going cells place reply = state cells (record { place = place; ended = false }) reply

-- a reply and the machine after it as an answer
abbrev pub answer_with : VmReply → MachineState → Answer
answer_with out next = record { reply = out.reply; next = next; ran = out.ran }
