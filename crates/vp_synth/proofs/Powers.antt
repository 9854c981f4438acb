-- The powers of a monomial, one place at a time, and the terms of a polynomial.
use Rattle.std.proofs.Common.{◌≡◌, ℕ, zero, suc, ◌+◌, ◌<◌, min, Bool, true, false, List, [], ◌∷◌, ◌++◌, length, map, drop, get_or, refl, sym, ap, ◌∙◌, arith, drop-cons, append_assoc}
use Rattle.std.proofs.Math.Numerals.{add-one}
use Rattle.std.specs.Prelude.{String, string_bytes, nat_eq, if◌then◌else◌, int_lt, pos, Option, Some, slice_get, unwrap_or}
use Rattle.std.specs.declared.alloc.Global.{Global}
use Rattle.std.specs.List.{flat_map}
use Rattle.vp_poly.specs.declared.mono.Term.{Term}
use Rattle.vp_synth.proofs.Appending.{appended}
use Rattle.vp_synth.specs.Factors.{factors_behind, star_behind}
use Rattle.vp_synth.specs.Printing.{first_sign, later_sign, later_text, polynomial_text, power_text, power_texts, size_text}

-- the power of the place i is left out where its exponent is 0
pub power_next : (vs : List (String Global)) (ks : List ℕ) (i : ℕ) (d : String Global) (e : ℕ) → i < length vs → i < length ks →
    power_texts (map string_bytes (drop i vs)) (drop i ks) ≡
    (if nat_eq (get_or ks i e) 0 then power_texts (map string_bytes (drop (suc i) vs)) (drop (suc i) ks)
    else power_text (string_bytes (get_or vs i d)) (get_or ks i e) ∷ power_texts (map string_bytes (drop (suc i) vs)) (drop (suc i) ks))
power_next vs ks i d e h k = rw (drop-cons vs i d h) (rw (drop-cons ks i e k) refl)

pub no_powers : (ns : List (List ℕ)) → power_texts ns [] ≡ []
no_powers [] = refl
no_powers (n ∷ ns) = refl

-- behind the shorter list there are none
pub powers_end : (vs : List (String Global)) (ks : List ℕ) (i : ℕ) → i ≡ min (length vs) (length ks) → power_texts (map string_bytes (drop i vs)) (drop i ks) ≡ []
powers_end [] ks zero h = refl
powers_end [] ks (suc i) h = refl
powers_end (v ∷ vs) [] zero h = refl
powers_end (v ∷ vs) [] (suc i) h = no_powers (map string_bytes (drop i vs))
powers_end (v ∷ vs) (k ∷ ks) zero h = absurd (omega arith)
powers_end (v ∷ vs) (k ∷ ks) (suc i) h = powers_end vs ks i (omega arith)

-- one factor more
pub factors_next : (b : Bool) (t : List ℕ) (ts : List (List ℕ)) → factors_behind b (t ∷ ts) ≡ star_behind b ++ t ++ factors_behind true ts
factors_next true t ts = refl
factors_next false t ts = refl

pub factors_end : (b : Bool) → factors_behind b [] ≡ []
factors_end true = refl
factors_end false = refl

-- the text of a polynomial begins with its first term
pub begun : (vs : List (List ℕ)) (ts : List Term) (t : Term) (out new : List ℕ) → slice_get ts 0 ≡ Some t → new ≡ out ++ first_sign (int_lt t.coef (pos 0)) ++ size_text vs t →
    new ++ flat_map (later_text vs) (drop 1 ts) ≡ out ++ polynomial_text vs ts
begun vs [] t out new e f = absurd (cc)
begun vs (u ∷ us) t out new e f =
    let sign = first_sign (int_lt t.coef (pos 0)) in
    let rest = flat_map (later_text vs) us in
    let same : u ≡ t = ap (λ (o : Option Term). unwrap_or o t) e in
    let g : new ++ rest ≡ out ++ (sign ++ size_text vs t ++ rest) =
    ap (λ (l : List ℕ). l ++ rest) f ∙ (append_assoc (out ++ sign) (size_text vs t) rest ∙ (append_assoc out sign (size_text vs t ++ rest) ∙ ap (λ (l : List ℕ). out ++ l) (sym (append_assoc sign (size_text vs t) rest)))) in
    g ∙ ap (λ (w : Term). out ++ polynomial_text vs (w ∷ us)) (sym same)

-- and goes on with each later one
later_next : (vs : List (List ℕ)) (ts : List Term) (k : ℕ) (t : Term) → slice_get ts k ≡ Some t → flat_map (later_text vs) (drop k ts) ≡ later_text vs t ++ flat_map (later_text vs) (drop (suc k) ts)
later_next vs [] zero t e = absurd (cc)
later_next vs [] (suc k) t e = absurd (cc)
later_next vs (u ∷ us) zero t e = ap (λ (w : Term). later_text vs w ++ flat_map (later_text vs) us) (ap (λ (o : Option Term). unwrap_or o t) e)
later_next vs (u ∷ us) (suc k) t e = later_next vs us k t e

pub followed : (vs : List (List ℕ)) (ts : List Term) (k : ℕ) (t : Term) (out new all : List ℕ) → out ++ flat_map (later_text vs) (drop k ts) ≡ all → slice_get ts k ≡ Some t → new ≡ out ++ later_sign (int_lt t.coef (pos 0)) ++ size_text vs t →
    new ++ flat_map (later_text vs) (drop (k + 1) ts) ≡ all
followed vs ts k t out new all h e f =
    rw add-one (appended out new (later_text vs t) (flat_map (later_text vs) (drop k ts)) (flat_map (later_text vs) (drop (suc k) ts)) all h (later_next vs ts k t e) (f ∙ append_assoc out (later_sign (int_lt t.coef (pos 0))) (size_text vs t)))
