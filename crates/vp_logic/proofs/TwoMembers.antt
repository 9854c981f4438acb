-- The truth of two members.
use Rattle.std.proofs.Common.{◌≡◌, Bool, true, false, ◌&&◌, ◌||◌, ◌∙◌, refl, ap₂}

pub both_hold : (p q a b : Bool) → p ≡ a → q ≡ b → (p && (q && true)) ≡ (a && b)
both_hold p q a b e f = ap₂ (λ x y. x && (y && true)) e f ∙ last a b
  where
    last : (a b : Bool) → (a && (b && true)) ≡ (a && b)
    last true true = refl
    last true false = refl
    last false b = refl

pub either_holds : (p q a b : Bool) → p ≡ a → q ≡ b → (p || (q || false)) ≡ (a || b)
either_holds p q a b e f = ap₂ (λ x y. x || (y || false)) e f ∙ last a b
  where
    last : (a b : Bool) → (a || (b || false)) ≡ (a || b)
    last true b = refl
    last false true = refl
    last false false = refl
