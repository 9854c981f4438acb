-- A code as an answerer of records.
use Rattle.vp_words.specs.Answerer.{Answerer}
use Rattle.vp_isa.specs.declared.code.Code.{Code}
use Rattle.vp_isa.specs.Machine.{MachineState, answer, due_of, fresh}

-- a code answers each record as its machine does
abbrev pub machine_of : Code → Answerer MachineState
machine_of code = record {
  counts = code.counts;
  start = fresh code;
  due = λ m. due_of code m;
  reply = λ m words. (answer code words m).reply;
  next = λ m words. (answer code words m).next;
}
