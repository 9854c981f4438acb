-- Where boxes stand after a record, and that those of valid records are valid.
use Rattle.std.proofs.Common.{◌≡◌, refl, sym, ◌∙◌, ap, ℕ, zero, suc, ◌+◌, ◌*◌, ◌<◌, ◌≤◌, true, IsTrue, ℤ, pos, List, [], ◌∷◌, length, map, take, drop, get_or, Some, arith}
use Rattle.std.specs.Prelude.{slice_set}
use Rattle.std.specs.List.{All, list_all, slice_get}
use Rattle.std.proofs.lemmas.Int.{ints}
use Rattle.std.proofs.lemmas.List.{get_or-set_same, get_or-set_other, length-set, get_or-map, length-map}
use Rattle.std.proofs.lemmas.List.Elements.{All-nil, All-cons, All-head, All-tail, All-set}
use Rattle.std.proofs.lemmas.Option.{slice_get-get_or}
use Rattle.vp_words.specs.Ends.{encloses}
use Rattle.vp_words.specs.Number.{IsWord, IsFinite, is_finite}
use Rattle.vp_words.specs.Record.{pairs_then_finite}
use Rattle.vp_terms.proofs.Agreeing.{both}
use Rattle.vp_interval.specs.Rounding.{Ends, IsValid, point}
use Rattle.vp_interval.proofs.Points.{valid_point}
use Rattle.vp_sandbox.specs.Boxes.{boxes_of, placed, pair_at}

-- ---- lookups

pub placed_length : (k : ℕ) (vs boxes : List Ends) → length (placed k vs boxes) ≡ length boxes
placed_length k [] boxes = refl
placed_length k (v ∷ vs) boxes = placed_length (suc k) vs (slice_set boxes k v) ∙ length-set boxes k v

placed_low : (k : ℕ) (vs boxes : List Ends) (j : ℕ) (d : Ends) → j < k → get_or (placed k vs boxes) j d ≡ get_or boxes j d
placed_low k [] boxes j d h = refl
placed_low k (v ∷ vs) boxes j d h = placed_low (suc k) vs (slice_set boxes k v) j d (omega arith) ∙ get_or-set_other boxes k j v d (λ e. absurd (omega arith))

placed_high : (k : ℕ) (vs boxes : List Ends) (j : ℕ) (d : Ends) → k + length vs ≤ j → get_or (placed k vs boxes) j d ≡ get_or boxes j d
placed_high k [] boxes j d h = refl
placed_high k (v ∷ vs) boxes j d h = placed_high (suc k) vs (slice_set boxes k v) j d (omega arith) ∙ get_or-set_other boxes k j v d (λ e. absurd (omega arith))

placed_here : (k : ℕ) (vs boxes : List Ends) (j i : ℕ) (d : Ends) → j ≡ k + i → i < length vs → j < length boxes → get_or (placed k vs boxes) j d ≡ get_or vs i d
placed_here k [] boxes j i d e h l = absurd (omega arith)
placed_here k (v ∷ vs) boxes j zero d e h l =
    let f : k ≡ j = omega arith in
    placed_low (suc k) vs (slice_set boxes k v) j d (omega arith) ∙ ap (λ (n : ℕ). get_or (slice_set boxes n v) j d) f ∙ get_or-set_same boxes j v d l
placed_here k (v ∷ vs) boxes j (suc i) d e h l = placed_here (suc k) vs (slice_set boxes k v) j i d (omega arith) (omega arith) (let n = length-set boxes k v in omega arith)

-- a box that is neither before nor behind those that are placed, and one that is
pub found_here : (k : ℕ) (vs boxes : List Ends) (j i : ℕ) (v : Ends) → j ≡ k + i → i < length vs → j < length boxes → get_or vs i v ≡ v → slice_get (placed k vs boxes) j ≡ Some v
found_here k vs boxes j i v e h l f =
    let n = placed_length k vs boxes in
    slice_get-get_or (placed k vs boxes) j v (omega arith) ∙ ap Some (placed_here k vs boxes j i v e h l ∙ f)

nothing : Ends
nothing = point (pos 0)

kept : (k : ℕ) (vs boxes : List Ends) (j : ℕ) → j < length boxes → get_or (placed k vs boxes) j nothing ≡ get_or boxes j nothing → slice_get (placed k vs boxes) j ≡ slice_get boxes j
kept k vs boxes j l e =
    let n = placed_length k vs boxes in
    slice_get-get_or (placed k vs boxes) j nothing (omega arith) ∙ ap Some e ∙ sym (slice_get-get_or boxes j nothing l)

pub kept_low : (k : ℕ) (vs boxes : List Ends) (j : ℕ) → j < length boxes → j < k → slice_get (placed k vs boxes) j ≡ slice_get boxes j
kept_low k vs boxes j l h = kept k vs boxes j l (placed_low k vs boxes j nothing h)

pub kept_high : (k : ℕ) (vs boxes : List Ends) (j : ℕ) → j < length boxes → k + length vs ≤ j → slice_get (placed k vs boxes) j ≡ slice_get boxes j
kept_high k vs boxes j l h = kept k vs boxes j l (placed_high k vs boxes j nothing h)

-- ---- the boxes that words are

pub boxes_size : (n : ℕ) (words : List ℤ) → 2 * n ≤ length words → length (boxes_of n words) + n ≡ length words
boxes_size zero words l = omega (arith, length-map words point)
boxes_size (suc n) [] l = absurd (omega arith)
boxes_size (suc n) (lo ∷ []) l = absurd (omega arith)
boxes_size (suc n) (lo ∷ hi ∷ words) l = omega (arith, boxes_size n words (omega arith))

pub boxes_pair : (n : ℕ) (words : List ℤ) (i : ℕ) (d : Ends) → i < n → 2 * n ≤ length words → get_or (boxes_of n words) i d ≡ pair_at words i
boxes_pair zero words i d h l = absurd (omega arith)
boxes_pair (suc n) [] i d h l = absurd (omega arith)
boxes_pair (suc n) (lo ∷ []) i d h l = absurd (omega arith)
boxes_pair (suc n) (lo ∷ hi ∷ words) zero d h l = refl
boxes_pair (suc n) (lo ∷ hi ∷ words) (suc i) d h l =
    let e : 2 * suc i ≡ suc (suc (2 * i)) = omega arith in
    let f : suc (suc (2 * i)) + 1 ≡ suc (suc (2 * i + 1)) = omega arith in
    let r : get_or (boxes_of n words) i d ≡ pair_at words i = boxes_pair n words i d (omega arith) (omega arith) in
    r ∙ rw (e, f) refl

pub boxes_word : (n : ℕ) (words : List ℤ) (i : ℕ) (d : Ends) → 2 * n + i < length words → get_or (boxes_of n words) (n + i) d ≡ point (get_or words (2 * n + i) (pos 0))
boxes_word zero words i d h =
    let e : 0 + i ≡ i = omega arith in
    rw e (get_or-map point words i (pos 0) d (omega arith))
boxes_word (suc n) [] i d h = absurd (omega arith)
boxes_word (suc n) (lo ∷ []) i d h = absurd (omega arith)
boxes_word (suc n) (lo ∷ hi ∷ words) i d h =
    let e : suc n + i ≡ suc (n + i) = omega arith in
    let f : 2 * suc n + i ≡ suc (suc (2 * n + i)) = omega arith in
    rw (e, f) (boxes_word n words i d (omega arith))

pub points_word : (words : List ℤ) (i : ℕ) (d : Ends) → i < length words → get_or (map point words) i d ≡ point (get_or words i (pos 0))
points_word words i d h = get_or-map point words i (pos 0) d h

-- the words behind the first two
pub pair_behind : (words : List ℤ) (i : ℕ) → pair_at (drop 2 words) i ≡ pair_at words (suc i)
pair_behind [] i = refl
pair_behind (lo ∷ []) i =
    let e : 2 * suc i ≡ suc (suc (2 * i)) = omega arith in
    let f : suc (suc (2 * i)) + 1 ≡ suc (suc (2 * i + 1)) = omega arith in
    rw (e, f) refl
pair_behind (lo ∷ hi ∷ words) i =
    let e : 2 * suc i ≡ suc (suc (2 * i)) = omega arith in
    let f : suc (suc (2 * i)) + 1 ≡ suc (suc (2 * i + 1)) = omega arith in
    rw (e, f) refl

pub pair_front : (words : List ℤ) → pair_at (take 2 words) 0 ≡ pair_at words 0
pair_front [] = refl
pair_front (lo ∷ []) = refl
pair_front (lo ∷ hi ∷ words) = refl

-- ---- validity

abbrev pub is_valid : Ends → Type 0
is_valid v = IsValid v.lo v.hi

pub placed_all : (P : Ends → Type 0) (k : ℕ) (vs boxes : List Ends) → All P vs → All P boxes → All P (placed k vs boxes)
placed_all P k [] boxes h b = b
placed_all P k (v ∷ vs) boxes h b = placed_all P (suc k) vs (slice_set boxes k v) (All-tail P v vs h) (All-set P boxes k v (All-head P v vs h) b)

told_finite : (w : ℤ) → is_finite w ≡ true → IsFinite w
told_finite w h = (grind (arith, ints), grind (arith, ints))

pub points_valid : (words : List ℤ) → IsTrue (list_all is_finite words) → All is_valid (map point words)
points_valid [] h = All-nil is_valid
points_valid (w ∷ words) h =
    let s = both (is_finite w) (list_all is_finite words) h in
    All-cons is_valid (point w) (map point words) (valid_point w (told_finite w s.0)) (points_valid words s.1)

pub boxes_valid : (n : ℕ) (words : List ℤ) → All IsWord words → IsTrue (pairs_then_finite n words) → All is_valid (boxes_of n words)
boxes_valid zero words h p = points_valid words p
boxes_valid (suc n) [] h p = All-nil is_valid
boxes_valid (suc n) (lo ∷ []) h p = All-nil is_valid
boxes_valid (suc n) (lo ∷ hi ∷ words) h p =
    let s = both (encloses lo hi) (pairs_then_finite n words) p in
    let rest = All-tail IsWord lo (hi ∷ words) h in
    All-cons is_valid (record { lo = lo; hi = hi }) (boxes_of n words) (record { low_word = All-head IsWord lo (hi ∷ words) h; high_word = All-head IsWord hi words rest; enclosed = s.0 })
    (boxes_valid n words (All-tail IsWord hi words rest) s.1)

-- those of a sensing are its time's and its states'
pub sensed_all : (P : Ends → Type 0) (n : ℕ) (words : List ℤ) → All P (boxes_of (suc n) words) → All P (boxes_of 1 (take 2 words)) × All P (boxes_of n (drop 2 words))
sensed_all P zero [] h = (All-nil P, All-nil P)
sensed_all P (suc n) [] h = (All-nil P, All-nil P)
sensed_all P zero (lo ∷ []) h = (All-nil P, All-nil P)
sensed_all P (suc n) (lo ∷ []) h = (All-nil P, All-nil P)
sensed_all P n (lo ∷ hi ∷ words) h =
    let v : Ends = record { lo = lo; hi = hi } in
    (All-cons P v [] (All-head P v (boxes_of n words) h) (All-nil P), All-tail P v (boxes_of n words) h)
