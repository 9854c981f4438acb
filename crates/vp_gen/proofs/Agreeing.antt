-- The code of a sandbox replies to each record as it does.
use Rattle.std.proofs.Common.{◌≡◌, List, length}
use Rattle.std.specs.Prelude.{ℤ, IsSomeAnd}
use Rattle.vp_words.specs.declared.record.Due.{Due}
use Rattle.vp_words.specs.declared.record.Due.TheVariants as due
use Rattle.vp_words.specs.Record.{field_count, kind_due}
use Rattle.vp_isa.specs.Machine.{MachineState, step}
use Rattle.vp_interval.specs.Rounding.{Ends}
use Rattle.vp_sandbox.specs.declared.sandbox.Sandbox.{Sandbox}
use Rattle.vp_sandbox.specs.Answer.{answered}
use Rattle.vp_layout.specs.Ties.{Replies, RepliesToAll, Tied}
use Rattle.vp_gen.specs.SandboxCode.{code_of, sense_of}
use Rattle.vp_gen.proofs.Known.{Known}
use Rattle.vp_gen.proofs.Loop.{Compiles, init_replies, choice_replies, sense_replies}

replies : (known : Known) (s : Sandbox) → Compiles s → (d : Due) (boxes : List Ends) (m : MachineState) (words : List ℤ) → Tied (code_of s) (sense_of s) d boxes m
    → IsSomeAnd (kind_due d) (λ kind. length words ≡ field_count kind s.counts) → Replies (code_of s) (sense_of s) (step (code_of s) words m) (answered s (record { boxes = boxes; due = d }) words)
replies known s ok due.Init boxes m words t h = init_replies known s boxes m words ok t h
replies known s ok due.Choice boxes m words t h = choice_replies known s boxes m words ok t h
replies known s ok due.Sense boxes m words t h = sense_replies known s boxes m words ok t h
replies known s ok due.Ended boxes m words t h = absurd h

pub replies_to_all : (known : Known) (s : Sandbox) → Compiles s → RepliesToAll s (code_of s) (sense_of s)
replies_to_all known s ok st m words t h = replies known s ok st.due st.boxes m words t h
