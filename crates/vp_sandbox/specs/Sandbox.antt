-- What a sandbox's state shows.
use Rattle.std.specs.Prelude.{List, map}
use Rattle.vp_words.specs.declared.record.Due.{Due}
use Rattle.vp_interval.specs.Interval.{ends}
use Rattle.vp_interval.specs.Rounding.{Ends}
use Rattle.vp_sandbox.specs.declared.sandbox.SandboxState.{SandboxState}

-- the box of each place, and what is due
pub record State : Type 0 where
  pub boxes : List Ends
  pub due : Due

-- the state without the proofs that its intervals carry
abbrev pub shown : SandboxState → State
shown st = record { boxes = map ends st.boxes; due = st.due }
