-- What the truths of one record say at a point.
use Rattle.std.proofs.Common.{◌≡◌, ℕ, zero, suc, ◌-◌, Bool, true, false, IsTrue, List, [], ◌∷◌, length, None, Some, subst}
use Rattle.std.specs.Prelude.{slice_get}
use Rattle.vp_terms.proofs.Agreeing.{both}
use Rattle.vp_poly.specs.Value.{Point}
use Rattle.vp_logic.specs.Tree.{Tree}
use Rattle.vp_logic.specs.Truth.{parts_hold, tree_holds}
use Rattle.vp_interval.specs.declared.truth.Truth.{Truth}
use Rattle.vp_interval.specs.declared.truth.Truth.TheVariants.{No, Yes}
use Rattle.vp_interval.specs.Formula.{PartsFit, first_from, truth, truths}
use Rattle.vp_interval.specs.Represents.{AreValid, RepresentEach}
use Rattle.vp_interval.specs.Rounding.{Ends}
use Rattle.vp_interval.specs.Truth.{Tells}
use Rattle.vp_history.proofs.Known.{Truthful}

pub told_yes : (t : Truth) (b : Bool) → t ≡ Yes → Tells t b → b ≡ true
told_yes t b e h = let P : Truth → Type 0 = λ u. Tells u b in subst P e h

pub told_no : (t : Truth) (b : Bool) → t ≡ No → Tells t b → b ≡ false
told_no t b e h = let P : Truth → Type 0 = λ u. Tells u b in subst P e h

module _ (known : Truthful) (boxes : List Ends) (z : Point) (valid : AreValid boxes) (held : RepresentEach boxes z) where
  -- where no part is named, all hold
  pub none_named : (parts : List Tree) → PartsFit (length boxes) parts → first_from 1 (truths boxes parts) ≡ None → IsTrue (parts_hold parts z)
  none_named parts fits e = known.all boxes parts z valid held fits ((known.none (truths boxes parts)).0 e)

  -- where a part is No, not all hold
  pub one_fails : (parts : List Tree) (i : ℕ) → PartsFit (length boxes) parts → slice_get (truths boxes parts) i ≡ Some No → IsTrue (parts_hold parts z) → ⊥
  one_fails [] i fits e h = cc
  one_fails (t ∷ ts) zero fits e h =
      let n : truth boxes t ≡ No = cc in
      let f : tree_holds t z ≡ false = told_no (truth boxes t) (tree_holds t z) n (known.one boxes t z valid held fits.0) in
      let g : tree_holds t z ≡ true = (both (tree_holds t z) (parts_hold ts z) h).0 in
      cc
  one_fails (t ∷ ts) (suc i) fits e h = one_fails ts i fits.1 e (both (tree_holds t z) (parts_hold ts z) h).1

  pub named_fails : (parts : List Tree) (k : ℕ) → PartsFit (length boxes) parts → first_from 1 (truths boxes parts) ≡ Some (k, No) → IsTrue (parts_hold parts z) → ⊥
  named_fails parts k fits e h = one_fails parts (k - 1) fits (known.some (truths boxes parts) k No e).at h
