-- Which reports a sandbox may make.
use Rattle.std.specs.Prelude.{◌≡◌, ◌≢◌, ℕ, ◌-◌, List, [], ◌∷◌, map, slice_get, Bool, true, false, Some, ℤ, IsSomeAnd}
use Rattle.vp_words.specs.declared.record.Reply.{Reply}
use Rattle.vp_words.specs.declared.record.Reply.TheVariants as reply
use Rattle.vp_words.specs.declared.record.Why.TheVariants as why
use Rattle.vp_words.specs.Record.{kind_due}
use Rattle.vp_poly.specs.Value.{Point}
use Rattle.vp_logic.specs.Tree.{Tree, tree}
use Rattle.vp_logic.specs.Truth.{tree_holds}
use Rattle.vp_interval.specs.declared.truth.Truth.{Truth}
use Rattle.vp_interval.specs.declared.truth.Truth.TheVariants.{No, Maybe, Yes}
use Rattle.vp_interval.specs.Formula.{IsFirst, truth, truths}
use Rattle.vp_interval.specs.Represents.{RepresentEach}
use Rattle.vp_interval.specs.Rounding.{Ends}
use Rattle.vp_stream.specs.Answers.{records_of}
use Rattle.vp_sandbox.specs.declared.sandbox.Sandbox.{Sandbox}
use Rattle.vp_sandbox.specs.Answer.{answered, sandbox_of, start}
use Rattle.vp_sandbox.specs.Boxes.{tested}
use Rattle.vp_sandbox.specs.Sandbox.{State}

-- the truth that a violation tells: not known, or false
abbrev pub told : Bool → Truth
told true = Maybe
told false = No

-- conjunct number k, from 1, has the truth over the boxes that is told, and all before it are Yes; where
-- that is `false`, the conjunct holds at no point that the boxes represent
pub record IsNamed (conjuncts : List Tree) (boxes : List Ends) (k : ℕ) (unknown : Bool) : Type 0 where
  pub first : IsFirst (truths boxes conjuncts) k (told unknown)
  pub fails : unknown ≡ false → (t : Tree) (z : Point) → slice_get conjuncts (k - 1) ≡ Some t →
      RepresentEach boxes z → tree_holds t z ≡ false

-- what a reply reports isn't Yes over the boxes of its record: the conjunct that a violation names; and
-- the controller's form, where the fallback is actuated or fails
abbrev pub IsRight : Sandbox → List Ends → Reply → Type 0
IsRight s boxes (reply.Violation (why.Init k unknown)) = IsNamed (map tree s.init) boxes k unknown
IsRight s boxes (reply.Violation (why.Plant k unknown)) = IsNamed (map tree s.plant) boxes k unknown
IsRight s boxes (reply.Violation why.Fallback) = truth boxes (tree s.ctrl) ≢ Yes
IsRight s boxes (reply.Act words len true) = truth boxes (tree s.ctrl) ≢ Yes
IsRight s boxes r = Unit {0}

-- each reply to these records is right
abbrev pub AreRight : Sandbox → State → List (List ℤ) → Type 0
AreRight s st [] = Unit {0}
AreRight s st (words ∷ more) =
    IsSomeAnd (kind_due st.due) (λ kind. IsRight s (tested s.counts kind words st.boxes) (answered s st words).reply)
    × AreRight s (answered s st words).next more

-- over every input no monitor that is Yes is reported
abbrev pub ReportsRightly : Sandbox → Type 0
ReportsRightly s = (bytes : List ℕ) → AreRight s start (records_of (sandbox_of s) bytes)
