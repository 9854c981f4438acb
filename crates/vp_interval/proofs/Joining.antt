-- Members joined from left to right, one at a time.
use Rattle.std.proofs.Common.{◌≡◌, refl, sym, ap, ◌∙◌, ℕ, zero, suc, ◌+◌, ◌<◌, ◌≤◌, List, [], ◌∷◌, length, drop, get_or, map, Option, None, Some, arith, unwrap_or}
use Rattle.std.proofs.lemmas.List.{drop_all}
use Rattle.std.specs.List.{fold, reduce, slice_get}
use Rattle.std.proofs.lemmas.Option.{slice_get_within, get_or_from_slice_get}
use Rattle.std.proofs.Math.Seq.{drop-cons}
use Rattle.vp_interval.specs.Polynomial.{powers_of, joined}
use Rattle.vp_interval.specs.Rounding.{Ends, power}

-- what was joined so far, and further members
abbrev pub with_rest : (Ends → Ends → Ends) → Option Ends → List Ends → Option Ends
with_rest op None ws = reduce op ws
with_rest op (Some v) ws = Some (fold op v ws)

with_rest-more : (op : Ends → Ends → Ends) (o : Option Ends) (w : Ends) (ws : List Ends) → with_rest op (Some (joined op o w)) ws ≡ with_rest op o (w ∷ ws)
with_rest-more op None w ws = refl
with_rest-more op (Some v) w ws = refl

with_rest-nil : (op : Ends → Ends → Ends) (o : Option Ends) → with_rest op o [] ≡ o
with_rest-nil op None = refl
with_rest-nil op (Some v) = refl

-- a member more: what was joined goes over to the next
pub join_more : (op : Ends → Ends → Ends) (o : Option Ends) (w v : Ends) (ws us : List Ends) (whole : Option Ends) → v ≡ joined op o w → us ≡ w ∷ ws → with_rest op o us ≡ whole → with_rest op (Some v) ws ≡ whole
join_more op o w v ws us whole e f h = rw e (with_rest-more op o w ws ∙ ap (with_rest op o) (sym f) ∙ h)

pub join_all : (op : Ends → Ends → Ends) (o : Option Ends) (us : List Ends) (whole : Option Ends) → us ≡ [] → with_rest op o us ≡ whole → o ≡ whole
join_all op o us whole e h = sym (with_rest-nil op o) ∙ ap (with_rest op o) (sym e) ∙ h

-- the powers from a place on
powers_of-none : (es : List ℕ) → powers_of es [] ≡ []
powers_of-none [] = refl
powers_of-none (e ∷ es) = refl

skipped : (es : List ℕ) (bs : List Ends) (i : ℕ) → i < length es → get_or es i 0 ≡ 0 → powers_of (drop (suc i) es) (drop (suc i) bs) ≡ powers_of (drop i es) (drop i bs)
skipped [] bs i h e = absurd (omega arith)
skipped (zero ∷ es) [] zero h e = powers_of-none es
skipped (zero ∷ es) (b ∷ bs) zero h e = refl
skipped (suc n ∷ es) bs zero h e = absurd (omega arith)
skipped (n ∷ es) [] (suc i) h e = powers_of-none (drop (suc i) es) ∙ sym (powers_of-none (drop i es))
skipped (n ∷ es) (b ∷ bs) (suc i) h e = skipped es bs i (omega arith) e

taken : (es : List ℕ) (bs : List Ends) (i : ℕ) (d : Ends) → i < length es → i < length bs → 0 < get_or es i 0 → powers_of (drop i es) (drop i bs) ≡ power (get_or bs i d) (get_or es i 0) ∷ powers_of (drop (suc i) es) (drop (suc i) bs)
taken [] bs i d h k p = absurd (omega arith)
taken (e ∷ es) [] i d h k p = absurd (omega arith)
taken (zero ∷ es) (b ∷ bs) zero d h k p = absurd (omega arith)
taken (suc n ∷ es) (b ∷ bs) zero d h k p = refl
taken (e ∷ es) (b ∷ bs) (suc i) d h k p = taken es bs i d (omega arith) (omega arith) p

-- the same at the place after i, with the box and the exponent of place i
pub power_taken : (es : List ℕ) (bs : List Ends) (i j k : ℕ) (b w : Ends) → i < length es → i < length bs → j ≡ i + 1 → get_or es i 0 ≡ k → get_or bs i b ≡ b → 0 < k → w ≡ power b k →
    powers_of (drop i es) (drop i bs) ≡ w ∷ powers_of (drop j es) (drop j bs)
power_taken es bs i j k b w h l e f g p r =
    let n : suc i ≡ j = omega arith in
    let q : 0 < get_or es i 0 = omega arith in
    taken es bs i b h l q
    ∙ ap (λ v. v ∷ powers_of (drop (suc i) es) (drop (suc i) bs)) (ap (λ c. power c (get_or es i 0)) g ∙ ap (power b) f ∙ sym r)
    ∙ ap (λ m. w ∷ powers_of (drop m es) (drop m bs)) n

pub power_skipped : (es : List ℕ) (bs : List Ends) (i j : ℕ) → i < length es → j ≡ i + 1 → get_or es i 0 ≡ 0 → powers_of (drop j es) (drop j bs) ≡ powers_of (drop i es) (drop i bs)
power_skipped es bs i j h e f = let n : j ≡ suc i = omega arith in rw n (skipped es bs i h f)

-- the next of a list's members
pub next_member : {X : Type 0} (f : X → Ends) (xs : List X) (i j : ℕ) (x : X) → slice_get xs i ≡ Some x → j ≡ i + 1 → map f (drop i xs) ≡ f x ∷ map f (drop j xs)
next_member f xs i j x h e =
    let n : j ≡ suc i = omega arith in
    let inside = slice_get_within xs i x h in
    let at = get_or_from_slice_get xs i x x h in
    rw (n, drop-cons xs i x inside, at) refl

pub place_below : (n i e : ℕ) → (n ≤ i → e ≡ 0) → 0 < e → i < n
place_below n i e h p = grind arith

pub all_joined : {X : Type 0} (op : Ends → Ends → Ends) (f : X → Ends) (xs : List X) (k : ℕ) (o : Option Ends) (d : Ends) → length xs ≤ k → with_rest op o (map f (drop k xs)) ≡ reduce op (map f xs) → unwrap_or o d ≡ unwrap_or (reduce op (map f xs)) d
all_joined op f xs k o d h e = ap (λ p. unwrap_or p d) (join_all op o (map f (drop k xs)) (reduce op (map f xs)) (ap (map f) (drop_all k xs h)) e)
