-- The code of a polynomial leaves its interval.
use Rattle.std.proofs.Common.{◌≡◌, ℕ, ◌+◌, ◌<◌, ◌≤◌, List, [], ◌∷◌, ◌++◌, length, Bool, true, false, not, ◌||◌, nat_eq, Option, Some, None, refl, sym, ap, ◌∙◌, arith, append_assoc}
use Rattle.std.specs.Prelude.{ℤ, pos, slice_set, if◌then◌else◌}
use Rattle.vp_words.specs.Number.{lower_sum, upper_sum}
use Rattle.vp_isa.specs.declared.instr.Instr.{Instr}
use Rattle.vp_isa.specs.declared.instr.Instr.TheVariants.{Const}
use Rattle.vp_layout.specs.declared.home.Home.{Home}
use Rattle.vp_poly.specs.declared.mono.Term.{Term}
use Rattle.vp_interval.specs.Rounding.{Ends, point, product, sum}
use Rattle.vp_gen.proofs.Values.{power, times_factors, front, times_point, of_term, add_terms, of_poly}
use Rattle.vp_isa.specs.Machine.{cell}
use Rattle.vp_isa.specs.Block.{after}
use Rattle.vp_layout.specs.Homes.{box_at, boxes_in}
use Rattle.vp_layout.specs.Blocks.{product_code}
use Rattle.vp_gen.specs.PowerCode.{home, first_code, factor_code}
use Rattle.vp_gen.specs.PolyCode.{has_factors, factors_code, front_code, scaled_code, term_code, added_code, sums_code, poly_code}
use Rattle.vp_layout.specs.Cells.{HomesAreBelow, Keeps, Leaves}
use Rattle.vp_layout.proofs.Writes.{wrote, leaves_from, after-append}
use Rattle.vp_layout.proofs.Kept.{both, boxed, are_below_more, boxes_kept}
use Rattle.vp_layout.proofs.Products.{multiplied, multiplied_leaves}
use Rattle.vp_gen.proofs.Powers.{Fits, first_leaves, factor_leaves}

pub fits_after : (c c' : List ℤ) (d n : ℕ) → Fits d n c → Keeps d c c' → Fits d n c'
fits_after c c' d n f k =
    let room : d + n < length c = f.room in
    let len : length c' ≡ length c = k.same_length in
    record { above = f.above; room = omega arith; zero_is = k.below 64 f.above ∙ f.zero_is }

pub fits_in : (c : List ℤ) (d n e m : ℕ) → d ≤ e → e + m ≤ d + n → Fits d n c → Fits e m c
fits_in c d n e m le h f =
    let room : d + n < length c = f.room in
    let above : 64 < d = f.above in
    record { above = omega arith; room = omega arith; zero_is = f.zero_is }

-- one factor, unless its exponent is 0
factor_step : (b : Bool) (c : List ℤ) (d : ℕ) (w : Ends) (x : List Instr) → Leaves d w c (after x c)
    → Leaves d (if b then box_at c (home d) else w) c (after (if b then [] else x) c)
factor_step true c d w x l = record { low = refl; high = refl; keeps = record { same_length = refl; below = λ i h. refl } }
factor_step false c d w x l = l

factors_leave : (c : List ℤ) (d : ℕ) (ks : List ℕ) (hs : List Home) → Fits d 7 c → HomesAreBelow d hs
    → Leaves d (times_factors (box_at c (home d)) ks (boxes_in c hs)) c (after (factors_code d ks hs) c)
factors_leave c d [] hs f b = record { low = refl; high = refl; keeps = record { same_length = refl; below = λ i h. refl } }
factors_leave c d (k ∷ ks) [] f b = record { low = refl; high = refl; keeps = record { same_length = refl; below = λ i h. refl } }
factors_leave c d (k ∷ ks) (h ∷ hs) f b =
    let x = if nat_eq k 0 then [] else factor_code d k h in
    let c1 = after x c in
    let one = factor_step (nat_eq k 0) c d _ _ (factor_leaves c d k h f b.0) in
    let here : box_at c1 (home d) ≡ (if nat_eq k 0 then box_at c (home d) else product (box_at c (home d)) (power (box_at c h) k)) =
    both boxed one.low one.high in
    let rest = factors_leave c1 d ks hs (fits_after c c1 d 7 f one.keeps) b.1 in
    let same = both (λ v boxes. times_factors v ks boxes) here (boxes_kept c c1 d hs one.keeps b.1) in
    rw after-append (leaves_from c c1 _ d d _ _ (omega arith) one.keeps rest same)

-- what the code of a term's powers leaves
abbrev Fronts : Bool → Option Ends → (Ends → Type 0) → Type 0
Fronts any None P = any ≡ false
Fronts any (Some w) P = (any ≡ true) × P w

front_leaves : (c : List ℤ) (d : ℕ) (ks : List ℕ) (hs : List Home) → Fits d 7 c → HomesAreBelow d hs
    → Fronts (has_factors ks hs) (front ks (boxes_in c hs)) (λ w. Leaves d w c (after (front_code d ks hs) c))
front_leaves c d [] hs f b = refl
front_leaves c d (k ∷ ks) [] f b = refl
front_leaves c d (k ∷ ks) (h ∷ hs) f b = case (nat_eq k 0) (front_leaves c d ks hs f b.1)
  where
    c1 : List ℤ
    c1 = after (first_code d k h) c

    started : Leaves d (times_factors (power (box_at c h) k) ks (boxes_in c hs)) c (after (first_code d k h ++ factors_code d ks hs) c)
    started =
        let first = first_leaves c d k h (fits_in c d 7 d 5 (omega arith) (omega arith) f) b.0 in
        let rest = factors_leave c1 d ks hs (fits_after c c1 d 7 f first.keeps) b.1 in
        let here : box_at c1 (home d) ≡ power (box_at c h) k = both boxed first.low first.high in
        let same = both (λ v boxes. times_factors v ks boxes) here (boxes_kept c c1 d hs first.keeps b.1) in
        rw after-append (leaves_from c c1 _ d d _ _ (omega arith) first.keeps rest same)

    case : (t : Bool) → Fronts (has_factors ks hs) (front ks (boxes_in c hs)) (λ w. Leaves d w c (after (front_code d ks hs) c))
        → Fronts (not t || has_factors ks hs)
        (if t then front ks (boxes_in c hs) else Some (times_factors (power (box_at c h) k) ks (boxes_in c hs)))
        (λ w. Leaves d w c (after (if t then front_code d ks hs else (first_code d k h ++ factors_code d ks hs)) c))
    case true later = later
    case false later = (refl, started)

-- two constants
constants : (c : List ℤ) (d : ℕ) (z : ℤ) → d + 1 < length c → Leaves d (point z) c (after (Const d z ∷ Const (d + 1) z ∷ []) c)
constants c d z room =
    let c1 = slice_set c d z in
    let one = wrote c d z (omega arith) in
    let r1 : d + 1 < length c1 = omega (arith, one.same_length) in
    let two = wrote c1 (d + 1) z r1 in
    record {
      low = two.others d (omega arith) ∙ one.here;
      high = two.here;
      keeps = record { same_length = two.same_length ∙ one.same_length; below = λ i h. two.others i (omega arith) ∙ one.others i (omega arith) };
    }

-- a product of the cells d + 2 and d + 3 and a number
scaled_leaves : (c c1 : List ℤ) (d : ℕ) (w : Ends) (z : ℤ) → d + 9 < length c → Leaves (d + 2) w c c1
    → Leaves d (product w (point z)) c
    (after (Const (d + 4) z ∷ [] ++ product_code d (d + 5) (record { lo = d + 2; hi = d + 3 }) (record { lo = d + 4; hi = d + 4 })) c1)
scaled_leaves c c1 d w z room l =
    let v : Home = record { lo = d + 2; hi = d + 3 } in
    let p : Home = record { lo = d + 4; hi = d + 4 } in
    let c2 = slice_set c1 (d + 4) z in
    let len : length c1 ≡ length c = l.keeps.same_length in
    let one = wrote c1 (d + 4) z (omega arith) in
    let len2 : length c2 ≡ length c1 = one.same_length in
    let m = multiplied c2 d (d + 5) v p (omega arith) (omega arith) (omega arith) (omega arith)
    (record { lo_d = omega arith; lo_t = omega arith; hi_d = omega arith; hi_t = omega arith })
    (record { lo_d = omega arith; lo_t = omega arith; hi_d = omega arith; hi_t = omega arith })
    (record { lo_d = omega arith; lo_t = omega arith; hi_d = omega arith; hi_t = omega arith })
    (record { lo_d = omega arith; lo_t = omega arith; hi_d = omega arith; hi_t = omega arith }) in
    let next : d + 2 + 1 ≡ d + 3 = omega arith in
    let same_v : box_at c2 v ≡ w = both boxed (one.others (d + 2) (omega arith) ∙ l.low)
    (one.others (d + 3) (omega arith) ∙ ap (cell c1) (sym next) ∙ l.high) in
    let same_p : box_at c2 p ≡ point z = both boxed one.here one.here in
    let k : Keeps d c c2 = record {
      same_length = len2 ∙ len;
      below = λ i h. one.others i (omega arith) ∙ l.keeps.below i (omega arith);
    } in
    leaves_from c c2 _ d d _ _ (omega arith) k (multiplied_leaves c2 _ d (d + 5) _ (omega arith) m) (both product same_v same_p)

term_case : (any : Bool) (o : Option Ends) (c : List ℤ) (d : ℕ) (z : ℤ) (x y : List Instr)
    → Fronts any o (λ w. Leaves d (product w (point z)) c (after x c)) → Leaves d (point z) c (after y c)
    → Leaves d (times_point o (point z)) c (after (if any then x else y) c)
term_case any None c d z x y f l = rw f l
term_case any (Some w) c d z x y f l = rw f.0 f.1

fronts_map : (any : Bool) (o : Option Ends) (P Q : Ends → Type 0) → ((w : Ends) → P w → Q w) → Fronts any o P → Fronts any o Q
fronts_map any None P Q g f = f
fronts_map any (Some w) P Q g f = (f.0, g w f.1)

pub term_leaves : (c : List ℤ) (d : ℕ) (t : Term) (hs : List Home) → Fits d 9 c → HomesAreBelow d hs
    → Leaves d (of_term t (boxes_in c hs)) c (after (term_code d t hs) c)
term_leaves c d t hs f b =
    let room : d + 9 < length c = f.room in
    let P : Ends → Type 0 = λ w. Leaves (d + 2) w c (after (front_code (d + 2) t.mono.powers hs) c) in
    let Q : Ends → Type 0 = λ w. Leaves d (product w (point t.coef)) c (after (scaled_code d t hs) c) in
    let fr = front_leaves c (d + 2) t.mono.powers hs (fits_in c d 9 (d + 2) 7 (omega arith) (omega arith) f) (are_below_more d (d + 2) hs (omega arith) b) in
    let c1 = after (front_code (d + 2) t.mono.powers hs) c in
    let g : (w : Ends) → P w → Q w = λ w l. joined d (product w (point t.coef)) (front_code (d + 2) t.mono.powers hs) _ _ c (scaled_leaves c c1 d w t.coef room l) in
    term_case (has_factors t.mono.powers hs) (front t.mono.powers (boxes_in c hs)) c d t.coef _ _
    (fronts_map _ (front t.mono.powers (boxes_in c hs)) P Q g fr) (constants c d t.coef (omega arith))
  where
    joined : (d : ℕ) (v : Ends) (x y z : List Instr) (c : List ℤ) → Leaves d v c (after (y ++ z) (after x c)) → Leaves d v c (after (x ++ y ++ z) c)
    joined d v x y z c l = rw (append_assoc x y z, after-append x (y ++ z) c) l

-- a sum of the cells d and d + 1 and the cells d + 2 and d + 3
added_leaves : (c : List ℤ) (d : ℕ) (t : Term) (hs : List Home) → Fits d 11 c → HomesAreBelow d hs
    → Leaves d (sum (box_at c (home d)) (of_term t (boxes_in c hs))) c (after (added_code d t hs) c)
added_leaves c d t hs f b =
    let room : d + 11 < length c = f.room in
    let c1 = after (term_code (d + 2) t hs) c in
    let l = term_leaves c (d + 2) t hs (fits_in c d 11 (d + 2) 9 (omega arith) (omega arith) f) (are_below_more d (d + 2) hs (omega arith) b) in
    let len : length c1 ≡ length c = l.keeps.same_length in
    let next : d + 2 + 1 ≡ d + 3 = omega arith in
    let c2 = slice_set c1 d (lower_sum (cell c1 d) (cell c1 (d + 2))) in
    let one = wrote c1 d (lower_sum (cell c1 d) (cell c1 (d + 2))) (omega arith) in
    let len2 : length c2 ≡ length c1 = one.same_length in
    let two = wrote c2 (d + 1) (upper_sum (cell c2 (d + 1)) (cell c2 (d + 3))) (omega arith) in
    let low : Leaves d (sum (box_at c (home d)) (of_term t (boxes_in c hs))) c (slice_set c2 (d + 1) (upper_sum (cell c2 (d + 1)) (cell c2 (d + 3)))) = record {
      low = two.others d (omega arith) ∙ one.here ∙ both lower_sum (l.keeps.below d (omega arith)) l.low;
      high = two.here ∙ both upper_sum (one.others (d + 1) (omega arith) ∙ l.keeps.below (d + 1) (omega arith))
          (one.others (d + 3) (omega arith) ∙ ap (cell c1) (sym next) ∙ l.high);
      keeps = record {
        same_length = two.same_length ∙ len2 ∙ len;
        below = λ i h. two.others i (omega arith) ∙ one.others i (omega arith) ∙ l.keeps.below i (omega arith);
      };
    } in
    rw after-append low

pub sums_leave : (c : List ℤ) (d : ℕ) (ts : List Term) (hs : List Home) → Fits d 11 c → HomesAreBelow d hs
    → Leaves d (add_terms (box_at c (home d)) ts (boxes_in c hs)) c (after (sums_code d ts hs) c)
sums_leave c d [] hs f b = record { low = refl; high = refl; keeps = record { same_length = refl; below = λ i h. refl } }
sums_leave c d (t ∷ ts) hs f b =
    let c1 = after (added_code d t hs) c in
    let one = added_leaves c d t hs f b in
    let rest = sums_leave c1 d ts hs (fits_after c c1 d 11 f one.keeps) b in
    let here : box_at c1 (home d) ≡ sum (box_at c (home d)) (of_term t (boxes_in c hs)) = both boxed one.low one.high in
    let same = both (λ v boxes. add_terms v ts boxes) here (boxes_kept c c1 d hs one.keeps b) in
    rw after-append (leaves_from c c1 _ d d _ _ (omega arith) one.keeps rest same)

-- the code of a polynomial leaves its interval in the cells d and d + 1, and the cells below d as they were
pub poly_leaves : (c : List ℤ) (d : ℕ) (ts : List Term) (hs : List Home) → Fits d 11 c → HomesAreBelow d hs
    → Leaves d (of_poly ts (boxes_in c hs)) c (after (poly_code d ts hs) c)
poly_leaves c d [] hs f b = let room : d + 11 < length c = f.room in constants c d (pos 0) (omega arith)
poly_leaves c d (t ∷ ts) hs f b =
    let c1 = after (term_code d t hs) c in
    let one = term_leaves c d t hs (fits_in c d 11 d 9 (omega arith) (omega arith) f) b in
    let rest = sums_leave c1 d ts hs (fits_after c c1 d 11 f one.keeps) b in
    let here : box_at c1 (home d) ≡ of_term t (boxes_in c hs) = both boxed one.low one.high in
    let same = both (λ v boxes. add_terms v ts boxes) here (boxes_kept c c1 d hs one.keeps b) in
    rw after-append (leaves_from c c1 _ d d _ _ (omega arith) one.keeps rest same)
