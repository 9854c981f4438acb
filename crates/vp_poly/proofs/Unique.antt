-- A polynomial is known by its coefficients.
use Rattle.std.proofs.Common.{◌≡◌, ◌≢◌, Bool, true, false, cond, ◌==◌, List, [], ◌∷◌, refl, sym, ap, ◌∙◌, arith, ℤ, pos}
use Rattle.std.specs.Ordering.{ordering_reverse}
use Rattle.std.specs.declared.cmp.Ordering.{Ordering}
use Rattle.std.specs.declared.cmp.Ordering.TheVariants.{Less, Equal, Greater}
use Rattle.std.proofs.lemmas.Int.{ints}
use Rattle.std.proofs.lemmas.Bool.{eq-eqb, eqb-true}
use Rattle.vp_poly.specs.declared.mono.Mono.{Mono}
use Rattle.vp_poly.specs.declared.mono.Term.{Term}
use Rattle.vp_poly.specs.Poly.{Powers, mono_cmp, only_at, coef, IsBefore, IsOrdered}
use Rattle.vp_poly.proofs.PolyLaws.{mono_cmp_total, same_powers}
use Rattle.vp_poly.proofs.MergeLaws.{IsBefore-trans}

pub only_at-self : (p : Powers) (c : ℤ) → only_at p p c ≡ c
only_at-self [] c = refl
only_at-self (x ∷ p) c = rw (eq-eqb x x refl) (only_at-self p c)

pub only_at-other : (p q : Powers) (c : ℤ) → p ≢ q → only_at p q c ≡ pos 0
only_at-other [] [] c n = absurd (n refl)
only_at-other [] (y ∷ q) c n = refl
only_at-other (x ∷ p) [] c n = refl
only_at-other (x ∷ p) (y ∷ q) c n = case (x == y) refl (λ h. only_at-other p q c h)
  where
    case : (v : Bool) → (x == y) ≡ v → (p ≢ q → only_at p q c ≡ pos 0) → cond v (only_at p q c) (pos 0) ≡ pos 0
    case true t more = let e : x ≡ y = eqb-true x y t in more (λ h. n cc)
    case false t more = refl

pub apart : (m n : Mono) → mono_cmp m n ≡ Less → n.powers ≢ m.powers
apart m n h e =
    let self : mono_cmp m m ≡ Less = sym (ap (λ (p : Powers). mono_cmp m (record { powers = p })) e) ∙ h in
    let turned : Less ≡ Greater = sym self ∙ mono_cmp_total.antisymm m m ∙ ap ordering_reverse self in
    cc

-- nothing stands at a place before all of these
pub coef-before : (t : Term) (us : List Term) → IsBefore t us → coef us t.mono.powers ≡ pos 0
coef-before t [] b = refl
coef-before t (u ∷ us) b =
    let none = only_at-other u.mono.powers t.mono.powers u.coef (apart t.mono u.mono b.0) in
    let rest = coef-before t us b.1 in
    omega (arith, ints)

pub coef-first : (t : Term) (us : List Term) → IsBefore t us → coef (t ∷ us) t.mono.powers ≡ t.coef
coef-first t us b =
    let one = only_at-self t.mono.powers t.coef in
    let rest = coef-before t us b in
    omega (arith, ints)

back : (x y : Mono) → mono_cmp x y ≡ Greater → mono_cmp y x ≡ Less
back x y e = mono_cmp_total.antisymm y x ∙ ap ordering_reverse e

same_term : (x y : Term) → x.mono.powers ≡ y.mono.powers → x.coef ≡ y.coef → x ≡ y
same_term x y e f =
    let P : Powers → ℤ → Term = λ p c. record { mono = record { powers = p }; coef = c } in
    ap (λ (p : Powers). P p x.coef) e ∙ ap (P y.mono.powers) f

-- two polynomials with the same coefficients are the same list of terms
pub IsOrdered-unique : (xs ys : List Term) → IsOrdered xs → IsOrdered ys → ((m : Powers) → coef xs m ≡ coef ys m) → xs ≡ ys
IsOrdered-unique [] [] o p h = refl
IsOrdered-unique [] (y ∷ ys) o p h = absurd (p.0.not_zero (sym (h y.mono.powers ∙ coef-first y ys p.0.before)))
IsOrdered-unique (x ∷ xs) [] o p h = absurd (o.0.not_zero (sym (coef-first x xs o.0.before) ∙ h x.mono.powers))
IsOrdered-unique (x ∷ xs) (y ∷ ys) o p h = case (mono_cmp x.mono y.mono) refl (λ e. IsOrdered-unique xs ys o.1 p.1 e)
  where
    case : (v : Ordering) → mono_cmp x.mono y.mono ≡ v → (((m : Powers) → coef xs m ≡ coef ys m) → xs ≡ ys) → x ∷ xs ≡ y ∷ ys
    case Less e more =
        absurd (o.0.not_zero (sym (coef-first x xs o.0.before) ∙ h x.mono.powers ∙ coef-before x (y ∷ ys) (e, IsBefore-trans x y ys e p.0.before)))
    case Greater e more =
        absurd (p.0.not_zero (sym (coef-first y ys p.0.before) ∙ sym (h y.mono.powers) ∙ coef-before y (x ∷ xs) (back x.mono y.mono e, IsBefore-trans y x xs (back x.mono y.mono e) o.0.before)))
    case Equal e more =
        let places : x.mono.powers ≡ y.mono.powers = sym (same_powers x.mono y.mono e) in
        let sizes : x.coef ≡ y.coef = sym (coef-first x xs o.0.before) ∙ h x.mono.powers ∙ ap (coef (y ∷ ys)) places ∙ coef-first y ys p.0.before in
        let first = same_term x y places sizes in
        let rest = more (λ m.
        let all = h m in
        let one = ap (λ (t : Term). only_at t.mono.powers m t.coef) first in
        omega (arith, ints)) in
        cc
