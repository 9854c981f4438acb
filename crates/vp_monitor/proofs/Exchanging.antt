-- Renamings that exchange places.
use Rattle.std.proofs.Common.{◌≡◌, ◌≢◌, ◌⊎◌, inl, inr, ℕ, zero, suc, ◌+◌, ◌<◌, ◌≤◌, IsTrue, refl, sym, ap, ap₂, ◌∙◌, arith, length, get_or, set, List, [], ◌∷◌}
use Rattle.std.specs.Prelude.{slice_index}
use Rattle.std.specs.List.{range_with_len, swap}
use Rattle.std.proofs.lemmas.List.{ext_get_or, get_or_default, length-set, get_or-set_same, get_or-set_other}
use Rattle.std.proofs.lemmas.List.FromFn.{length-range_with_len, get_or-range_with_len, length-map-range_with_len, get_or-map-range_with_len}
use Rattle.std.proofs.lemmas.List.Edits.{length-swap}
use Rattle.std.proofs.lemmas.Bool.Decides.{nat_tests}
use Rattle.vp_terms.specs.Places.{place, place_count, has_variable}
use Rattle.vp_terms.specs.declared.expr.Places.{Places}
use Rattle.vp_terms.specs.declared.expr.Var.{Var}
use Rattle.vp_terms.specs.declared.expr.Var.TheVariants.{Param, State, Control, NextState, NextControl, Tau}
use Rattle.vp_terms.proofs.Standing.{below}
use Rattle.vp_terms.proofs.Spots.{place_is_below}
use Rattle.vp_poly.specs.Places.{IsRenaming}
use Rattle.vp_poly.specs.Points.{Sends}
use Rattle.vp_logic.specs.Renamed.{KeepsPlaces}
use Rattle.vp_monitor.specs.Exchange.{primed, actuated, exchanged, exchanging, priming, actuating}

-- ---- exchanging more places

exchanged_none : (k b i : ℕ) → exchanged k 0 b i ≡ i
exchanged_none k b i = grind (arith, nat_tests)

exchanged_other : (k n b i : ℕ) → i ≢ k + n → i ≢ k + b + n → n < b → exchanged k (suc n) b i ≡ exchanged k n b i
exchanged_other k n b i f g h = grind (arith, nat_tests)

exchanged_up : (k n b i : ℕ) → i ≡ k + n → n < b → exchanged k (suc n) b i ≡ exchanged k n b (k + b + n)
exchanged_up k n b i e h = grind (arith, nat_tests)

exchanged_down : (k n b i : ℕ) → i ≡ k + b + n → n < b → exchanged k (suc n) b i ≡ exchanged k n b (k + n)
exchanged_down k n b i e h = grind (arith, nat_tests)

at : (k n b i : ℕ) → i < 32 → get_or (exchanging k n b) i 0 ≡ exchanged k n b i
unfolding exchanging
at k n b i h = get_or-map-range_with_len (exchanged k n b) 0 32 i i 0 h (omega arith)

length_is : (k n b : ℕ) → length (exchanging k n b) ≡ 32
unfolding exchanging
length_is k n b = length-map-range_with_len (exchanged k n b) 0 32

same_or_not : (a b : ℕ) → (a ≡ b) ⊎ (a ≢ b)
same_or_not a b = grind arith

-- a list with two elements in each other's place
swapped_first : (xs : List ℕ) (i j : ℕ) → i ≢ j → i < length xs → j < length xs → get_or (swap xs i j) i 0 ≡ get_or xs j 0
swapped_first [] i j n h l = absurd (omega arith)
swapped_first (d ∷ ys) i j n h l =
    get_or-set_other (set (d ∷ ys) i (get_or (d ∷ ys) j d)) j i (get_or (d ∷ ys) i d) 0 n ∙ get_or-set_same (d ∷ ys) i (get_or (d ∷ ys) j d) 0 h ∙ get_or_default (d ∷ ys) j d 0 l

swapped_second : (xs : List ℕ) (i j : ℕ) → i < length xs → j < length xs → get_or (swap xs i j) j 0 ≡ get_or xs i 0
swapped_second [] i j h l = absurd (omega arith)
swapped_second (d ∷ ys) i j h l =
    let s = length-set (d ∷ ys) i (get_or (d ∷ ys) j d) in
    get_or-set_same (set (d ∷ ys) i (get_or (d ∷ ys) j d)) j (get_or (d ∷ ys) i d) 0 (omega arith) ∙ get_or_default (d ∷ ys) i d 0 h

swapped_other : (xs : List ℕ) (i j m : ℕ) → m ≢ i → m ≢ j → get_or (swap xs i j) m 0 ≡ get_or xs m 0
swapped_other [] i j m n o = refl
swapped_other (d ∷ ys) i j m n o =
    get_or-set_other (set (d ∷ ys) i (get_or (d ∷ ys) j d)) j m (get_or (d ∷ ys) i d) 0 o ∙ get_or-set_other (d ∷ ys) i m (get_or (d ∷ ys) j d) 0 n

exchanging_more : (k n b : ℕ) → n < b → k + b + n < 32 → exchanging k (suc n) b ≡ swap (exchanging k n b) (k + n) (k + b + n)
exchanging_more k n b h l =
    ext_get_or 0 (exchanging k (suc n) b) (swap (exchanging k n b) (k + n) (k + b + n)) (length_is k (suc n) b ∙ sym (length-swap (exchanging k n b) (k + n) (k + b + n) ∙ length_is k n b))
    (λ i g. each i (let e = length_is k (suc n) b in omega arith) (same_or_not i (k + n)) (same_or_not i (k + b + n)))
  where
    size : length (exchanging k n b) ≡ 32
    size = length_is k n b

    each : (i : ℕ) → i < 32 → (i ≡ k + n) ⊎ (i ≢ k + n) → (i ≡ k + b + n) ⊎ (i ≢ k + b + n) → get_or (exchanging k (suc n) b) i 0 ≡ get_or (swap (exchanging k n b) (k + n) (k + b + n)) i 0
    each i g (inl e) o =
        at k (suc n) b i g ∙ exchanged_up k n b i e h ∙ sym (at k n b (k + b + n) l)
        ∙ sym (swapped_first (exchanging k n b) (k + n) (k + b + n) (omega arith) (omega (arith, size)) (omega (arith, size))) ∙ ap (λ (j : ℕ). get_or (swap (exchanging k n b) (k + n) (k + b + n)) j 0) (sym e)
    each i g (inr f) (inl e) =
        at k (suc n) b i g ∙ exchanged_down k n b i e h ∙ sym (at k n b (k + n) (omega arith))
        ∙ sym (swapped_second (exchanging k n b) (k + n) (k + b + n) (omega (arith, size)) (omega (arith, size))) ∙ ap (λ (j : ℕ). get_or (swap (exchanging k n b) (k + n) (k + b + n)) j 0) (sym e)
    each i g (inr f) (inr e) =
        at k (suc n) b i g ∙ exchanged_other k n b i f e h ∙ sym (at k n b i g) ∙ sym (swapped_other (exchanging k n b) (k + n) (k + b + n) i f e)

exchanging_none : (k b : ℕ) → exchanging k 0 b ≡ range_with_len 0 32
exchanging_none k b =
    ext_get_or 0 (exchanging k 0 b) (range_with_len 0 32) (length_is k 0 b ∙ sym (length-range_with_len 0 32))
    (λ i g. let e = length_is k 0 b in let h : i < 32 = omega arith in at k 0 b i h ∙ exchanged_none k b i ∙ sym (get_or-range_with_len 0 32 i 0 h ∙ omega arith))

-- what is known of renamings
pub record Renames : Type 0 where
  pub none : IsRenaming (range_with_len 0 32)
  pub exchanged : (to : List ℕ) (i j : ℕ) → i < 32 → j < 32 → IsRenaming to → IsRenaming (swap to i j)

pub exchanging_renames : Renames → (k n b : ℕ) → n ≤ b → k + b + n ≤ 32 → IsRenaming (exchanging k n b)
exchanging_renames r k zero b l f = rw (exchanging_none k b) r.none
exchanging_renames r k (suc n) b l f = rw (exchanging_more k n b (omega arith) (omega arith)) (r.exchanged (exchanging k n b) (k + n) (k + b + n) (omega arith) (omega arith) (exchanging_renames r k n b (omega arith) (omega arith)))

-- ---- as the call makes the list

pub keeps_places : (k b : ℕ) → KeepsPlaces (exchanging k 0 b)
keeps_places k b = λ i h. at k 0 b i h ∙ exchanged_none k b i

pub started : (to : List ℕ) (k b n : ℕ) → n ≡ 0 → length to ≡ 32 → ((i : ℕ) → i < 32 → get_or to i 0 ≡ i) → to ≡ exchanging k n b
started to k b n z l h =
    ext_get_or 0 to (range_with_len 0 32) (l ∙ sym (length-range_with_len 0 32)) (λ i g. let e : i < 32 = omega arith in h i e ∙ sym (get_or-range_with_len 0 32 i 0 e ∙ omega arith))
    ∙ sym (exchanging_none k b) ∙ ap (λ (m : ℕ). exchanging k m b) (sym z)

pub stepped : (to us : List ℕ) (k n m b i j : ℕ) → to ≡ exchanging k n b → i ≡ k + n → j ≡ i + b → m ≡ suc n → n < b → k + b + n < 32 → us ≡ swap to i j → us ≡ exchanging k m b
stepped to us k n m b i j e f g q l h s =
    s ∙ ap (λ (x : List ℕ). swap x i j) e ∙ ap₂ (λ (x y : ℕ). swap (exchanging k n b) x y) f (let r : j ≡ k + b + n = omega arith in r) ∙ sym (exchanging_more k n b l h) ∙ ap (λ (x : ℕ). exchanging k x b) (sym q)

-- ---- which variables are sent where

below_first : (k n b i : ℕ) → i < k → exchanged k n b i ≡ i
below_first k n b i h = grind (arith, nat_tests)

in_first : (k n b i : ℕ) → k ≤ i → i < k + n → exchanged k n b i ≡ i + b
in_first k n b i h l = grind (arith, nat_tests)

between : (k n b i : ℕ) → k + n ≤ i → i < k + b → exchanged k n b i ≡ i
between k n b i h l = grind (arith, nat_tests)

in_second : (k n b i j : ℕ) → n ≤ b → j + b ≡ i → k ≤ j → j < k + n → exchanged k n b i ≡ j
in_second k n b i j f e h l = grind (arith, nat_tests)

behind : (k n b i : ℕ) → n ≤ b → k + b + n ≤ i → exchanged k n b i ≡ i
behind k n b i f h = grind (arith, nat_tests)

looked_up : (k n b i : ℕ) → i < 32 → slice_index (exchanging k n b) i ≡ exchanged k n b i
unfolding exchanging
looked_up k n b i h = get_or-map-range_with_len (exchanged k n b) 0 32 i i 0 h (omega arith)

pub priming_sends : (p : Places) → place_count p ≤ 32 → Sends p (priming p) primed
priming_sends p few = record { inside = inside; each = each }
  where
    inside : (v : Var) → IsTrue (has_variable p v) → IsTrue (has_variable p (primed v))
    inside (Param i) h = h
    inside (State i) h = h
    inside (Control i) h = h
    inside (NextState i) h = h
    inside (NextControl i) h = h
    inside Tau h = h

    there : (v : Var) → IsTrue (has_variable p v) → exchanged p.params (p.states + p.controls) (p.states + p.controls) (place p v) ≡ place p (primed v)
    there (Param i) h = let b = below i p.params h in below_first p.params (p.states + p.controls) (p.states + p.controls) (place p (Param i)) b
    there (State i) h = let b = below i p.states h in let e = in_first p.params (p.states + p.controls) (p.states + p.controls) (place p (State i)) (omega arith) (omega arith) in omega (arith, e)
    there (Control i) h = let b = below i p.controls h in let e = in_first p.params (p.states + p.controls) (p.states + p.controls) (place p (Control i)) (omega arith) (omega arith) in omega (arith, e)
    there (NextState i) h = let b = below i p.states h in in_second p.params (p.states + p.controls) (p.states + p.controls) (place p (NextState i)) (p.params + i) (omega arith) (omega arith) (omega arith) (omega arith)
    there (NextControl i) h = let b = below i p.controls h in in_second p.params (p.states + p.controls) (p.states + p.controls) (place p (NextControl i)) (p.params + p.states + i) (omega arith) (omega arith) (omega arith) (omega arith)
    there Tau h = behind p.params (p.states + p.controls) (p.states + p.controls) (place p Tau) (omega arith) (omega arith)

    each : (v : Var) → IsTrue (has_variable p v) → slice_index (priming p) (place p v) ≡ place p (primed v)
    each v h = let b = place_is_below p v h in looked_up _ _ _ (place p v) (omega arith) ∙ there v h

pub actuating_sends : (p : Places) → place_count p ≤ 32 → Sends p (actuating p) actuated
actuating_sends p few = record { inside = inside; each = each }
  where
    inside : (v : Var) → IsTrue (has_variable p v) → IsTrue (has_variable p (actuated v))
    inside (Param i) h = h
    inside (State i) h = h
    inside (Control i) h = h
    inside (NextState i) h = h
    inside (NextControl i) h = h
    inside Tau h = h

    there : (v : Var) → IsTrue (has_variable p v) → exchanged (p.params + p.states) p.controls (p.states + p.controls) (place p v) ≡ place p (actuated v)
    there (Param i) h = let b = below i p.params h in below_first (p.params + p.states) p.controls (p.states + p.controls) (place p (Param i)) (omega arith)
    there (State i) h = let b = below i p.states h in below_first (p.params + p.states) p.controls (p.states + p.controls) (place p (State i)) (omega arith)
    there (Control i) h = let b = below i p.controls h in let e = in_first (p.params + p.states) p.controls (p.states + p.controls) (place p (Control i)) (omega arith) (omega arith) in omega (arith, e)
    there (NextState i) h = let b = below i p.states h in between (p.params + p.states) p.controls (p.states + p.controls) (place p (NextState i)) (omega arith) (omega arith)
    there (NextControl i) h = let b = below i p.controls h in in_second (p.params + p.states) p.controls (p.states + p.controls) (place p (NextControl i)) (p.params + p.states + i) (omega arith) (omega arith) (omega arith) (omega arith)
    there Tau h = behind (p.params + p.states) p.controls (p.states + p.controls) (place p Tau) (omega arith) (omega arith)

    each : (v : Var) → IsTrue (has_variable p v) → slice_index (actuating p) (place p v) ≡ place p (actuated v)
    each v h = let b = place_is_below p v h in looked_up _ _ _ (place p v) (omega arith) ∙ there v h
