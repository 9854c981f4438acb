-- What the laws of the crates below say.
use Rattle.std.proofs.Common.{◌≡◌, ℕ, ◌<◌, IsTrue, List, length, map, None, Some}
use Rattle.std.specs.Prelude.{◌↔◌, ℤ, All}
use Rattle.vp_words.specs.declared.record.Counts.{Counts}
use Rattle.vp_words.specs.declared.record.Kind.{Kind}
use Rattle.vp_words.specs.Exchanges.{AreDue, IsDueRecord, IsRecordOf, state_after}
use Rattle.vp_words.specs.Record.{IsValid, field_count, kind_due}
use Rattle.vp_terms.specs.Places.{has_variable, place, place_count}
use Rattle.vp_terms.specs.Rational.{Rational, Equals, whole}
use Rattle.vp_terms.specs.declared.expr.Places.{Places}
use Rattle.vp_terms.specs.declared.expr.Var.{Var}
use Rattle.vp_poly.specs.declared.mono.Term.{Term}
use Rattle.vp_poly.specs.Places.{AreBelow, places_for}
use Rattle.vp_poly.specs.Value.{Point, value_at}
use Rattle.vp_logic.specs.Tree.{Tree, tree}
use Rattle.vp_logic.specs.Truth.{parts_hold, tree_holds}
use Rattle.vp_interval.specs.declared.truth.Truth.{Truth}
use Rattle.vp_interval.specs.declared.truth.Truth.TheVariants.{Yes}
use Rattle.vp_interval.specs.Formula.{FormFits, IsFirst, PartsFit, first_from, truth, truths}
use Rattle.vp_interval.specs.Polynomial.{AreSmall, interval_of}
use Rattle.vp_interval.specs.Represents.{AreValid, RepresentEach, Represents}
use Rattle.vp_interval.specs.Rounding.{Ends, IsValid as IsInterval, point}
use Rattle.vp_interval.specs.Truth.{Tells}
use Rattle.vp_sandbox.specs.declared.sandbox.Sandbox.{Sandbox}
use Rattle.vp_sandbox.specs.Answer.{answered, sandbox_of, start}
use Rattle.vp_sandbox.specs.Boxes.{box_after, box_at, box_tested, tested}
use Rattle.vp_sandbox.specs.Fits.{Fits}
use Rattle.vp_sandbox.specs.Sandbox.{State}

-- variables have places of their own, and each place is some variable's
pub record Placed : Type 0 where
  pub in_range : (p : Places) (v : Var) → IsTrue (has_variable p v) → place p v < place_count p
  pub different : (p : Places) (v w : Var) → IsTrue (has_variable p v) → IsTrue (has_variable p w) → place p v ≡ place p w → v ≡ w
  pub used : (p : Places) (k : ℕ) → k < place_count p → (v : Var) × IsTrue (has_variable p v) × (place p v ≡ k)

-- the boxes of variables where a record is tested, and behind its reply
pub record BoxesSet : Type 0 where
  pub before : (c : Counts) (boxes : List Ends) → IsValid c → length boxes ≡ 32 → (kind : Kind) (words : List ℤ) → length words ≡ field_count kind c → (v : Var) → IsTrue (has_variable (places_for c) v) → box_at c (tested c kind words boxes) v ≡ box_tested c kind words boxes v
  pub behind : (s : Sandbox) (st : State) (kind : Kind) (words : List ℤ) → Fits s → length st.boxes ≡ 32 → kind_due st.due ≡ Some kind → length words ≡ field_count kind s.counts → (v : Var) → IsTrue (has_variable (places_for s.counts) v) → box_at s.counts (answered s st words).next.boxes v ≡ box_after s.counts kind (answered s st words).reply (tested s.counts kind words st.boxes) v

-- valid records keep boxes valid
pub record KeepsValid : Type 0 where
  pub before : (c : Counts) (kind : Kind) (words : List ℤ) (boxes : List Ends) → IsRecordOf c kind words → AreValid boxes → AreValid (tested c kind words boxes)
  pub behind : (s : Sandbox) (st : State) (words : List ℤ) → Fits s → length st.boxes ≡ 32 → AreValid st.boxes → IsDueRecord (sandbox_of s) st words → AreValid (answered s st words).next.boxes
  pub size : (s : Sandbox) (st : State) (words : List ℤ) → length (answered s st words).next.boxes ≡ length st.boxes
  pub size_tested : (c : Counts) (kind : Kind) (words : List ℤ) (boxes : List Ends) → length (tested c kind words boxes) ≡ length boxes
  pub always : (s : Sandbox) (records : List (List ℤ)) → Fits s → AreDue (sandbox_of s) start records → (length (state_after (sandbox_of s) start records).boxes ≡ 32) × AreValid (state_after (sandbox_of s) start records).boxes

-- the parts of a sandbox that fits may be told the truth of over 32 boxes
pub record MayBeTested : Type 0 where
  pub init : (s : Sandbox) → Fits s → PartsFit 32 (map tree s.init)
  pub ctrl : (s : Sandbox) → Fits s → FormFits 32 (tree s.ctrl)
  pub plant : (s : Sandbox) → Fits s → PartsFit 32 (map tree s.plant)
  pub places : (s : Sandbox) → Fits s → All (λ p. AreBelow 32 p) s.fallback
  pub small : (s : Sandbox) → Fits s → All (λ p. AreSmall p) s.fallback

-- what truths over boxes say
pub record Truthful : Type 0 where
  pub none : (ts : List Truth) → (first_from 1 ts ≡ None) ↔ All (λ t. t ≡ Yes) ts
  pub some : (ts : List Truth) (k : ℕ) (t : Truth) → first_from 1 ts ≡ Some (k, t) → IsFirst ts k t
  pub one : (boxes : List Ends) (n : Tree) (x : Point) → AreValid boxes → RepresentEach boxes x → FormFits (length boxes) n → Tells (truth boxes n) (tree_holds n x)
  pub all : (boxes : List Ends) (ns : List Tree) (x : Point) → AreValid boxes → RepresentEach boxes x → PartsFit (length boxes) ns → All (λ t. t ≡ Yes) (truths boxes ns) → IsTrue (parts_hold ns x)

-- what boxes represent
pub record Represented : Type 0 where
  pub some : (boxes : List Ends) → AreValid boxes → (x : Point) × RepresentEach boxes x
  pub word : (z : ℤ) → Represents (point z) (whole z)
  pub value : (v : Ends) (q : Rational) → IsInterval v.lo v.hi → v.lo ≡ v.hi → Represents v q → Equals q (whole v.lo)
  pub valid : (boxes : List Ends) (ts : List Term) → AreValid boxes → AreBelow (length boxes) ts → AreSmall ts → IsInterval (interval_of boxes ts).lo (interval_of boxes ts).hi
  pub values : (boxes : List Ends) (ts : List Term) (x : Point) → AreValid boxes → RepresentEach boxes x → AreBelow (length boxes) ts → AreSmall ts → Represents (interval_of boxes ts) (value_at ts x)

pub record Known : Type 0 where
  pub placed : Placed
  pub set : BoxesSet
  pub keeps : KeepsValid
  pub fits : MayBeTested
  pub truthful : Truthful
  pub represented : Represented
