-- What fits a sandbox may be told the truth of, and its words have their places.
use Rattle.std.proofs.Common.{◌≡◌, ℕ, zero, suc, ◌+◌, ◌<◌, Bool, IsTrue, List, [], ◌∷◌, length, get_or, arith, ℤ}
use Rattle.vp_words.specs.Ends.{encloses}
use Rattle.vp_words.specs.Record.{pairs_then_finite}
use Rattle.vp_poly.specs.declared.mono.Term.{Term}
use Rattle.vp_poly.specs.Places.{AreBelow}
use Rattle.vp_logic.specs.Tree.{Tree, Trees, One, AllOf, AnyOf, None, Then}
use Rattle.std.proofs.lemmas.List.{length-map}
use Rattle.vp_terms.proofs.Agreeing.{both}
use Rattle.vp_interval.proofs.Fitting.{all_places, small_norm}
use Rattle.vp_interval.specs.Rounding.{point}
use Rattle.vp_interval.specs.Formula.{FormFits, MembersFit, PartsFit}
use Rattle.vp_interval.specs.Polynomial.{AreSmall}
use Rattle.vp_sandbox.specs.Boxes.{boxes_of}
use Rattle.vp_sandbox.specs.Fits.{PolyFits, TreeFits, TreesFit, EachFits, PolysFit}

poly_places : (allowed : ℕ → Bool) (p : List Term) → PolyFits allowed p → AreBelow 32 p
poly_places allowed p h = all_places p h.poly

poly_small : (allowed : ℕ → Bool) (p : List Term) → PolyFits allowed p → AreSmall p
poly_small allowed p h = small_norm p h.small

mutual
  form_at : (allowed : ℕ → Bool) (t : Tree) → TreeFits allowed t → FormFits 32 t
  form_at allowed (One a) h = record { places = poly_places allowed a.poly h; small = poly_small allowed a.poly h }
  form_at allowed (AllOf ns) h = members_at allowed ns h
  form_at allowed (AnyOf ns) h = members_at allowed ns h

  members_at : (allowed : ℕ → Bool) (ns : Trees) → TreesFit allowed ns → MembersFit 32 ns
  members_at allowed None h = tt
  members_at allowed (Then n ns) h = (form_at allowed n h.0, members_at allowed ns h.1)

pub form_fits : (n : ℕ) (allowed : ℕ → Bool) (t : Tree) → n ≡ 32 → TreeFits allowed t → FormFits n t
form_fits n allowed t e h = rw e (form_at allowed t h)

parts_at : (allowed : ℕ → Bool) (ts : List Tree) → EachFits allowed ts → PartsFit 32 ts
parts_at allowed [] h = tt
parts_at allowed (t ∷ ts) h = (form_at allowed t h.0, parts_at allowed ts h.1)

pub parts_fit : (n : ℕ) (allowed : ℕ → Bool) (ts : List Tree) → n ≡ 32 → EachFits allowed ts → PartsFit n ts
parts_fit n allowed ts e h = rw e (parts_at allowed ts h)

-- one of the fallback's polynomials
pub poly_fits : (allowed : ℕ → Bool) (ps : List (List Term)) (i : ℕ) (d : List Term) → i < length ps → PolysFit allowed ps → PolyFits allowed (get_or ps i d)
poly_fits allowed [] i d l h = absurd (omega arith)
poly_fits allowed (p ∷ ps) zero d l h = h.0
poly_fits allowed (p ∷ ps) (suc i) d l h = poly_fits allowed ps i d (omega arith) h.1

pub places_at : (n : ℕ) (allowed : ℕ → Bool) (p : List Term) → n ≡ 32 → PolyFits allowed p → AreBelow n p
places_at n allowed p e h = rw e (poly_places allowed p h)

pub small_at : (allowed : ℕ → Bool) (p : List Term) → PolyFits allowed p → AreSmall p
small_at allowed p h = poly_small allowed p h

-- each pair of words makes one box
pub boxes_length : (n : ℕ) (words : List ℤ) → IsTrue (pairs_then_finite n words) → length (boxes_of n words) + n ≡ length words
boxes_length zero words h = omega (arith, length-map words point)
boxes_length (suc n) [] h = absurd (cc)
boxes_length (suc n) (lo ∷ []) h = absurd (cc)
boxes_length (suc n) (lo ∷ hi ∷ words) h = let s = both (encloses lo hi) (pairs_then_finite n words) h in omega (arith, boxes_length n words s.1)
