-- The answer of a sandbox to a record.
use Rattle.std.specs.Prelude.{ℕ, List, map, replicate, drop, ℤ, pos, Bool, true, false, Option, None, Some}
use Rattle.vp_words.specs.declared.record.Due.{Due}
use Rattle.vp_words.specs.declared.record.Due.TheVariants as due
use Rattle.vp_words.specs.declared.record.Reply.{Reply}
use Rattle.vp_words.specs.declared.record.Reply.TheVariants as reply
use Rattle.vp_words.specs.declared.record.Why.{Why}
use Rattle.vp_words.specs.declared.record.Why.TheVariants as why
use Rattle.vp_words.specs.Record.{padded}
use Rattle.vp_words.specs.declared.record.Kind.TheVariants as kind
use Rattle.vp_words.specs.Answerer.{Answerer}
use Rattle.vp_logic.specs.Tree.{tree}
use Rattle.vp_interval.specs.declared.truth.Truth.{Truth}
use Rattle.vp_interval.specs.declared.truth.Truth.TheVariants.{Maybe, Yes}
use Rattle.vp_interval.specs.Formula.{truth, truths, first_from}
use Rattle.vp_interval.specs.Polynomial.{interval_of}
use Rattle.vp_interval.specs.Rounding.{Ends, point}
use Rattle.vp_sandbox.specs.declared.sandbox.Sandbox.{Sandbox}
use Rattle.vp_sandbox.specs.Boxes.{first_state, first_control, boxes_of, placed, point_words, tested}
use Rattle.vp_sandbox.specs.Sandbox.{State}

-- the reply to a record, and the next state
pub record Answered : Type 0 where
  pub reply : Reply
  pub next : State

-- nothing is due after a violation
abbrev pub violated : Why → List Ends → Answered
violated w boxes = record { reply = reply.Violation w; next = record { boxes = boxes; due = due.Ended } }

-- whether a truth is not known
abbrev pub is_unknown : Truth → Bool
is_unknown Maybe = true
is_unknown t = false

-- an init record sets the boxes of parameters, states and controls; it is Ok where every init conjunct
-- is Yes there, and else names the first that isn't
abbrev pub init_verdict : List Ends → Option (ℕ × Truth) → Answered
init_verdict boxes None = record { reply = reply.Ok; next = record { boxes = boxes; due = due.Choice } }
init_verdict boxes (Some r) = violated (why.Init r.0 (is_unknown r.1)) boxes

abbrev pub init_answer : Sandbox → List Ends → List ℤ → Answered
init_answer s old words =
    let boxes = tested s.counts kind.Init words old in
    init_verdict boxes (first_from 1 (truths boxes (map tree s.init)))

-- the actuated words become the controls
abbrev pub acted : Sandbox → List Ends → List ℤ → Bool → Answered
acted s boxes words fallback = record {
  reply = reply.Act (padded 16 words) s.counts.controls fallback;
  next = record { boxes = placed (first_control s.counts) (map point words) boxes; due = due.Sense };
}

-- the fallback is actuated where the interval of each of its polynomials has equal ends
abbrev pub fallback_verdict : Sandbox → List Ends → Option (List ℤ) → Answered
fallback_verdict s boxes None = violated why.Fallback boxes
fallback_verdict s boxes (Some words) = acted s boxes words true

-- a choice sets the next controls, and is actuated where the controller monitor is Yes
abbrev pub choice_verdict : Sandbox → List Ends → List Ends → List ℤ → Truth → Answered
choice_verdict s old boxes words Yes = acted s boxes words false
choice_verdict s old boxes words t = fallback_verdict s boxes (point_words (map (interval_of old) s.fallback))

abbrev pub choice_answer : Sandbox → List Ends → List ℤ → Answered
choice_answer s old words =
    let boxes = tested s.counts kind.Choice words old in
    choice_verdict s old boxes words (truth boxes (tree s.ctrl))

-- a sensing sets `tau` and the next states; it is Ok where every plant conjunct is Yes there, and the
-- new states become the states; else it names the first that isn't
abbrev pub sense_verdict : Sandbox → List Ends → List ℤ → Option (ℕ × Truth) → Answered
sense_verdict s boxes states None = record {
  reply = reply.Ok;
  next = record { boxes = placed (first_state s.counts) (boxes_of s.counts.states states) boxes; due = due.Choice };
}
sense_verdict s boxes states (Some r) = violated (why.Plant r.0 (is_unknown r.1)) boxes

abbrev pub sense_answer : Sandbox → List Ends → List ℤ → Answered
sense_answer s old words =
    let boxes = tested s.counts kind.Sense words old in
    sense_verdict s boxes (drop 2 words) (first_from 1 (truths boxes (map tree s.plant)))

-- the answer to the words of a record of the due kind; where nothing is due nothing changes
abbrev pub answered : Sandbox → State → List ℤ → Answered
answered s st words = by_due st.due
  where
    by_due : Due → Answered
    by_due due.Init = init_answer s st.boxes words
    by_due due.Choice = choice_answer s st.boxes words
    by_due due.Sense = sense_answer s st.boxes words
    by_due due.Ended = record { reply = reply.Ok; next = st }

-- at first an init record is due, and all boxes have both ends 0
abbrev pub start : State
start = record { boxes = replicate 32 (point (pos 0)); due = due.Init }

-- a sandbox as what answers the records of a run
abbrev pub sandbox_of : Sandbox → Answerer State
sandbox_of s = record {
  counts = s.counts;
  start = start;
  due = λ st. st.due;
  reply = λ st words. (answered s st words).reply;
  next = λ st words. (answered s st words).next;
}
