-- Boxes at their places.
use Rattle.std.proofs.Common.{◌≡◌, ◌≢◌, ℕ, zero, suc, ◌+◌, ◌-◌, ◌≤◌, IsTrue, List, [], ◌∷◌, length, map, take, drop, get_or, refl, sym, ap, subst, ◌∙◌, arith, ℤ}
use Rattle.std.specs.Prelude.{slice_set}
use Rattle.std.proofs.Math.Numerals.{add-one}
use Rattle.std.proofs.Math.Seq.{take-length}
use Rattle.vp_words.specs.Ends.{encloses}
use Rattle.vp_words.specs.Record.{pairs_then_finite}
use Rattle.vp_terms.proofs.Agreeing.{both}
use Rattle.vp_interval.specs.declared.interval.Interval.{Interval}
use Rattle.vp_interval.specs.Interval.{ends}
use Rattle.vp_interval.specs.Rounding.{Ends, point}
use Rattle.vp_sandbox.specs.Boxes.{boxes_of, placed}

-- one box written is one more at its place
pub ends-written : (bs : List Interval) (k : ℕ) (v : Interval) → map ends (slice_set bs k v) ≡ slice_set (map ends bs) k (ends v)
ends-written [] k v = refl
ends-written (b ∷ bs) zero v = refl
ends-written (b ∷ bs) (suc k) v = ap (λ (l : List Ends). ends b ∷ l) (ends-written bs k v)

pub placed-next : (k : ℕ) (v : Interval) (vs : List Ends) (bs new : List Interval) → map ends new ≡ placed (k + 1) vs (map ends (slice_set bs k v)) → map ends new ≡ placed k (ends v ∷ vs) (map ends bs)
placed-next k v vs bs new e =
    let f : placed (k + 1) vs (map ends (slice_set bs k v)) ≡ placed (suc k) vs (slice_set (map ends bs) k (ends v)) = rw (add-one, ends-written bs k v) refl in
    e ∙ f

-- a list is its first words and the rest
pub one_first : (ws : List ℤ) (w : ℤ) → 1 ≤ length ws → w ≡ get_or ws 0 w → ws ≡ w ∷ take (length ws - 1) (drop 1 ws)
one_first [] w h e = absurd (omega arith)
one_first (x ∷ xs) w h e =
    let n : length (x ∷ xs) - 1 ≡ length xs = omega arith in
    rw (n, take-length xs) (ap (λ (z : ℤ). z ∷ xs) (sym e))

pub two_first : (ws : List ℤ) (v w : ℤ) → 2 ≤ length ws → v ≡ get_or ws 0 v → w ≡ get_or ws 1 w → ws ≡ v ∷ w ∷ take (length ws - 2) (drop 2 ws)
two_first [] v w h e f = absurd (omega arith)
two_first (x ∷ []) v w h e f = absurd (omega arith)
two_first (x ∷ y ∷ zs) v w h e f =
    let n : length (x ∷ y ∷ zs) - 2 ≡ length zs = omega arith in
    rw (n, take-length zs) (ap (λ (z : ℤ). z ∷ y ∷ zs) (sym e) ∙ ap (λ (z : ℤ). v ∷ z ∷ zs) (sym f))

-- the words of the first pair and of those behind it
pairs_of : (n : ℕ) (v w : ℤ) (rest : List ℤ) → n ≢ 0 → IsTrue (pairs_then_finite n (v ∷ w ∷ rest)) → IsTrue (encloses v w) × IsTrue (pairs_then_finite (n - 1) rest)
pairs_of zero v w rest h p = absurd (h refl)
pairs_of (suc n) v w rest h p =
    let e : suc n - 1 ≡ n = omega arith in
    let s = both (encloses v w) (pairs_then_finite n rest) p in
    (s.0, rw e s.1)

boxes_first : (n : ℕ) (v w : ℤ) (rest : List ℤ) → n ≢ 0 → boxes_of n (v ∷ w ∷ rest) ≡ record { lo = v; hi = w } ∷ boxes_of (n - 1) rest
boxes_first zero v w rest h = absurd (h refl)
boxes_first (suc n) v w rest h = let e : suc n - 1 ≡ n = omega arith in rw e refl

module _ (n : ℕ) (ws : List ℤ) (v w : ℤ) (some : n ≢ 0) (two : 2 ≤ length ws) (first : v ≡ get_or ws 0 v) (second : w ≡ get_or ws 1 w) where
  pub pair_encloses : IsTrue (pairs_then_finite n ws) → IsTrue (encloses v w)
  pair_encloses h = let k = rw (two_first ws v w two first second) at h in (pairs_of n v w (take (length ws - 2) (drop 2 ws)) some k).0

  pub pair_rest : IsTrue (pairs_then_finite n ws) → IsTrue (pairs_then_finite (n - 1) (take (length ws - 2) (drop 2 ws)))
  pair_rest h =
      let P : List ℤ → Type 0 = λ l. IsTrue (pairs_then_finite n l) in
      (pairs_of n v w (take (length ws - 2) (drop 2 ws)) some (subst P (two_first ws v w two first second) h)).1

  pub pair_boxes : boxes_of n ws ≡ record { lo = v; hi = w } ∷ boxes_of (n - 1) (take (length ws - 2) (drop 2 ws))
  pair_boxes = ap (boxes_of n) (two_first ws v w two first second) ∙ boxes_first n v w (take (length ws - 2) (drop 2 ws)) some

  pub pair_room : (k : ℕ) → k + length (boxes_of n ws) ≤ 32 → k + 1 + length (boxes_of (n - 1) (take (length ws - 2) (drop 2 ws))) ≤ 32
  pair_room k h = let e = ap length pair_boxes in omega arith

  pub pair_placed : (k : ℕ) (b : Interval) (bs new : List Interval) → ends b ≡ record { lo = v; hi = w } → map ends new ≡ placed (k + 1) (boxes_of (n - 1) (take (length ws - 2) (drop 2 ws))) (map ends (slice_set bs k b)) → map ends new ≡ placed k (boxes_of n ws) (map ends bs)
  pair_placed k b bs new e f =
      placed-next k b (boxes_of (n - 1) (take (length ws - 2) (drop 2 ws))) bs new f
      ∙ ap (λ (z : Ends). placed k (z ∷ boxes_of (n - 1) (take (length ws - 2) (drop 2 ws))) (map ends bs)) e
      ∙ ap (λ (l : List Ends). placed k l (map ends bs)) (sym pair_boxes)

pub point_placed : (ws : List ℤ) (w : ℤ) (k : ℕ) (b : Interval) (bs new : List Interval) → 1 ≤ length ws → w ≡ get_or ws 0 w → ends b ≡ point w → map ends new ≡ placed (k + 1) (map point (take (length ws - 1) (drop 1 ws))) (map ends (slice_set bs k b)) → map ends new ≡ placed k (map point ws) (map ends bs)
point_placed ws w k b bs new h e f g =
    placed-next k b (map point (take (length ws - 1) (drop 1 ws))) bs new g
    ∙ ap (λ (z : Ends). placed k (z ∷ map point (take (length ws - 1) (drop 1 ws))) (map ends bs)) f
    ∙ ap (λ (l : List ℤ). placed k (map point l) (map ends bs)) (sym (one_first ws w h e))
