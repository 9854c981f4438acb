-- The code of formulas has no jumps.
use Rattle.std.proofs.Common.{◌≡◌, ℕ, zero, suc, ◌+◌, ◌-◌, ◌%◌, nat_le, nat_eq, List, [], ◌∷◌, ◌++◌, Bool, true, false, ◌&&◌, refl, ap, ◌∙◌}
use Rattle.std.specs.Prelude.{if◌then◌else◌}
use Rattle.vp_isa.specs.declared.instr.Instr.{Instr}
use Rattle.vp_isa.specs.declared.instr.Instr.TheVariants.{Const}
use Rattle.vp_layout.specs.declared.home.Home.{Home}
use Rattle.vp_poly.specs.declared.mono.Term.{Term}
use Rattle.vp_logic.specs.declared.norm.Rel.{Rel}
use Rattle.vp_logic.specs.declared.norm.Rel.TheVariants.{Ge, Gt, Eq}
use Rattle.vp_logic.specs.Tree.{Tree, Trees, One, AllOf, AnyOf, None as Done, Then}
use Rattle.vp_isa.specs.Block.{are_plain, is_plain}
use Rattle.vp_gen.specs.PowerCode.{even_steps, even_code, power_code, first_code, times_code, factor_code}
use Rattle.vp_gen.specs.PolyCode.{has_factors, factors_code, front_code, scaled_code, term_code, sums_code, poly_code}
use Rattle.vp_layout.specs.Truths.{need, needs}
use Rattle.vp_gen.specs.FormCode.{rel_code, form_code, all_code, any_code}

plain-append : (a b : List Instr) → are_plain (a ++ b) ≡ are_plain a && are_plain b
plain-append [] b = refl
plain-append (i ∷ a) b = ap (λ x. is_plain i && x) (plain-append a b) ∙ and_on (is_plain i) (are_plain a) (are_plain b)
  where
    and_on : (x y z : Bool) → (x && (y && z)) ≡ ((x && y) && z)
    and_on true y z = refl
    and_on false y z = refl

plain-if : (b : Bool) (x y : List Instr) → are_plain x ≡ true → are_plain y ≡ true → are_plain (if b then x else y) ≡ true
plain-if true x y p q = p
plain-if false x y p q = q

plain-steps : (d n : ℕ) → are_plain (even_steps d n) ≡ true
plain-steps d zero = refl
plain-steps d (suc n) = simp (plain-append, plain-steps d n)

plain-even : (d n : ℕ) (v : Home) → are_plain (even_code d n v) ≡ true
plain-even d n v = simp plain-steps

plain-power : (d k : ℕ) (v : Home) → are_plain (power_code d k v) ≡ true
plain-power d k v = plain-if (nat_eq (k % 2) 0) _ _ (plain-even d (k - 2) v) (simp (plain-append, plain-steps))

plain-first : (d k : ℕ) (v : Home) → are_plain (first_code d k v) ≡ true
plain-first d k v = plain-if (nat_eq k 1) _ _ refl (plain-power d k v)

plain-times : (d k : ℕ) (v : Home) → are_plain (times_code d k v) ≡ true
plain-times d k v = plain-if (nat_eq k 1) _ _ refl (simp (plain-append, plain-power))

plain-factor : (d k : ℕ) (v : Home) → are_plain (factor_code d k v) ≡ true
plain-factor d k v = simp (plain-append, plain-times)

plain-one : (d k : ℕ) (h : Home) → are_plain (if nat_eq k 0 then [] else factor_code d k h) ≡ true
plain-one d k h = plain-if (nat_eq k 0) [] (factor_code d k h) refl (plain-factor d k h)

plain-factors : (d : ℕ) (ks : List ℕ) (hs : List Home) → are_plain (factors_code d ks hs) ≡ true
plain-factors d [] hs = refl
plain-factors d (k ∷ ks) [] = refl
plain-factors d (k ∷ ks) (h ∷ hs) = simp (plain-append, plain-one, plain-factors d ks hs)

plain-front : (d : ℕ) (ks : List ℕ) (hs : List Home) → are_plain (front_code d ks hs) ≡ true
plain-front d [] hs = refl
plain-front d (k ∷ ks) [] = refl
plain-front d (k ∷ ks) (h ∷ hs) = plain-if (nat_eq k 0) _ _ (plain-front d ks hs) (simp (plain-append, plain-first, plain-factors))

plain-term : (d : ℕ) (t : Term) (hs : List Home) → are_plain (term_code d t hs) ≡ true
plain-term d t hs = plain-if (has_factors t.mono.powers hs) (scaled_code d t hs) (Const d t.coef ∷ Const (d + 1) t.coef ∷ []) (simp (plain-append, plain-front)) refl

plain-sums : (d : ℕ) (ts : List Term) (hs : List Home) → are_plain (sums_code d ts hs) ≡ true
plain-sums d [] hs = refl
plain-sums d (t ∷ ts) hs = simp (plain-append, plain-term, plain-sums d ts hs)

pub plain-poly : (d : ℕ) (ts : List Term) (hs : List Home) → are_plain (poly_code d ts hs) ≡ true
plain-poly d [] hs = refl
plain-poly d (t ∷ ts) hs = simp (plain-append, plain-term, plain-sums)

plain-rel : (d : ℕ) (rel : Rel) → are_plain (rel_code d rel) ≡ true
plain-rel d Ge = refl
plain-rel d Gt = refl
plain-rel d Eq = refl

mutual
  pub plain-form : (n : Tree) (d : ℕ) (hs : List Home) → are_plain (form_code d n hs) ≡ true
  plain-form (One atom) d hs = simp (plain-append, plain-poly, plain-rel)
  plain-form (AllOf ns) d hs = plain-all ns d hs
  plain-form (AnyOf ns) d hs = plain-any ns d hs

  plain-all : (ns : Trees) (d : ℕ) (hs : List Home) → are_plain (all_code d ns hs) ≡ true
  plain-all Done d hs = refl
  plain-all (Then n ns) d hs =
      simp (
        plain-append,
        plain-if (nat_le (needs ns) (need n)) (form_code d n hs ++ all_code (d + 1) ns hs) (all_code d ns hs ++ form_code (d + 1) n hs)
            (simp (plain-append, plain-form n d hs, plain-all ns (d + 1) hs)) (simp (plain-append, plain-all ns d hs, plain-form n (d + 1) hs)),
      )

  plain-any : (ns : Trees) (d : ℕ) (hs : List Home) → are_plain (any_code d ns hs) ≡ true
  plain-any Done d hs = refl
  plain-any (Then n ns) d hs =
      simp (
        plain-append,
        plain-if (nat_le (needs ns) (need n)) (form_code d n hs ++ any_code (d + 1) ns hs) (any_code d ns hs ++ form_code (d + 1) n hs)
            (simp (plain-append, plain-form n d hs, plain-any ns (d + 1) hs)) (simp (plain-append, plain-any ns d hs, plain-form n (d + 1) hs)),
      )
