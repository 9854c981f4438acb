-- What stands below the cells that have changed.
use Rattle.std.proofs.Common.{◌≡◌, ℕ, ◌<◌, ◌≤◌, List, [], ◌∷◌, refl, ap, ◌∙◌, arith}
use Rattle.std.specs.Prelude.{ℤ}
use Rattle.vp_interval.specs.Rounding.{Ends}
use Rattle.vp_layout.specs.declared.home.Home.{Home}
use Rattle.vp_layout.specs.Homes.{box_at, boxes_in}
use Rattle.vp_layout.specs.Cells.{HomesAreBelow, Constants, HomeIsBelow, Keeps}

pub both : {A B C : Type 0} (f : A → B → C) {x x' : A} {y y' : B} → x ≡ x' → y ≡ y' → f x y ≡ f x' y'
both f {x} {x'} {y} {y'} e g = ap (λ a. f a y) e ∙ ap (f x') g

abbrev pub boxed : ℤ → ℤ → Ends
boxed x y = record { lo = x; hi = y }

pub box_kept : (c c' : List ℤ) (d : ℕ) (v : Home) → Keeps d c c' → HomeIsBelow d v → box_at c' v ≡ box_at c v
box_kept c c' d v k b = both boxed (k.below v.lo b.lo) (k.below v.hi b.hi)

pub boxes_kept : (c c' : List ℤ) (d : ℕ) (hs : List Home) → Keeps d c c' → HomesAreBelow d hs → boxes_in c' hs ≡ boxes_in c hs
boxes_kept c c' d [] k b = refl
boxes_kept c c' d (h ∷ hs) k b = both cons (box_kept c c' d h k b.0) (boxes_kept c c' d hs k b.1)
  where
    cons : Ends → List Ends → List Ends
    cons x xs = x ∷ xs

pub below_more : (d e : ℕ) (v : Home) → d ≤ e → HomeIsBelow d v → HomeIsBelow e v
below_more d e v le b =
    let lo : v.lo < d = b.lo in
    let hi : v.hi < d = b.hi in
    record { lo = omega arith; hi = omega arith }

pub are_below_more : (d e : ℕ) (hs : List Home) → d ≤ e → HomesAreBelow d hs → HomesAreBelow e hs
are_below_more d e [] le b = tt
are_below_more d e (h ∷ hs) le b = (below_more d e h le b.0, are_below_more d e hs le b.1)

pub constants_kept : (d : ℕ) (c c' : List ℤ) → 67 < d → Keeps d c c' → Constants c → Constants c'
constants_kept d c c' h k s = record {
  zero_is = k.below 64 (omega arith) ∙ s.zero_is;
  one_is = k.below 65 (omega arith) ∙ s.one_is;
  two_is = k.below 66 (omega arith) ∙ s.two_is;
  minus_is = k.below 67 h ∙ s.minus_is;
}
