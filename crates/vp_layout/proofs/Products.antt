-- The code of a product.
use Rattle.std.proofs.Common.{◌≡◌, ◌≢◌, ℕ, ◌+◌, ◌<◌, List, length, sym, ap, ◌∙◌, arith}
use Rattle.std.specs.Prelude.{ℤ, slice_set}
use Rattle.std.specs.Int.{int_min, int_max}
use Rattle.std.proofs.lemmas.Int.{ints, clamps}
use Rattle.vp_words.specs.Number.{lower_product, upper_product}
use Rattle.vp_layout.specs.declared.home.Home.{Home}
use Rattle.vp_interval.specs.Rounding.{Ends, product}
use Rattle.vp_isa.specs.Machine.{cell}
use Rattle.vp_isa.specs.Block.{after}
use Rattle.vp_layout.specs.Homes.{box_at}
use Rattle.vp_layout.specs.Blocks.{product_code, lower_code}
use Rattle.vp_layout.specs.Cells.{IsApart, Leaves, LeavesUsing}
use Rattle.vp_layout.proofs.Writes.{wrote}
use Rattle.vp_layout.proofs.Kept.{both, boxed}

-- cell d is z, and of the others at most cell t has changed
pub record Folds (d t : ℕ) (z : ℤ) (c c' : List ℤ) : Type 0 where
  pub same_length : length c' ≡ length c
  pub here : cell c' d ≡ z
  pub others : (i : ℕ) → i ≢ d → i ≢ t → cell c' i ≡ cell c i

-- a product into cell t, and the pick of it and cell d
abbrev corner_cells : (pick f : ℤ → ℤ → ℤ) (c : List ℤ) (d t a b : ℕ) → List ℤ
corner_cells pick f c d t a b =
    let c1 = slice_set c t (f (cell c a) (cell c b)) in slice_set c1 d (pick (cell c1 d) (cell c1 t))

corner : (pick f : ℤ → ℤ → ℤ) (c : List ℤ) (d t a b : ℕ) → d ≢ t → d < length c → t < length c
    → Folds d t (pick (cell c d) (f (cell c a) (cell c b))) c (corner_cells pick f c d t a b)
corner pick f c d t a b ne hd ht =
    let c1 = slice_set c t (f (cell c a) (cell c b)) in
    let one = wrote c t (f (cell c a) (cell c b)) ht in
    let within : d < length c1 = omega (arith, one.same_length) in
    let two = wrote c1 d (pick (cell c1 d) (cell c1 t)) within in
    record {
      same_length = two.same_length ∙ one.same_length;
      here = two.here ∙ ap (λ x. pick x (cell c1 t)) (one.others d ne) ∙ ap (pick (cell c d)) one.here;
      others = λ i nd nt. two.others i nd ∙ one.others i nt;
    }

-- one more corner, of cells that the first ones left alone
corner_on : (pick f : ℤ → ℤ → ℤ) (c c1 : List ℤ) (d t a b : ℕ) (z : ℤ) → d ≢ t → d < length c → t < length c
    → a ≢ d → a ≢ t → b ≢ d → b ≢ t → Folds d t z c c1
    → Folds d t (pick z (f (cell c a) (cell c b))) c (corner_cells pick f c1 d t a b)
corner_on pick f c c1 d t a b z ne hd ht ad at bd bt one =
    let hd1 : d < length c1 = omega (arith, one.same_length) in
    let ht1 : t < length c1 = omega (arith, one.same_length) in
    let two = corner pick f c1 d t a b ne hd1 ht1 in
    record {
      same_length = two.same_length ∙ one.same_length;
      here = two.here ∙ ap (λ x. pick x (f (cell c1 a) (cell c1 b))) one.here
          ∙ ap (λ x. pick z (f x (cell c1 b))) (one.others a ad at) ∙ ap (λ y. pick z (f (cell c a) y)) (one.others b bd bt);
      others = λ i nd nt. two.others i nd nt ∙ one.others i nd nt;
    }

-- picks from the four numbers that f gives of the ends
abbrev corners : (ℤ → ℤ → ℤ) → (ℤ → ℤ → ℤ) → Ends → Ends → ℤ
corners pick f v w = pick (pick (pick (f v.lo w.lo) (f v.lo w.hi)) (f v.hi w.lo)) (f v.hi w.hi)

abbrev four_cells : (pick f : ℤ → ℤ → ℤ) (c : List ℤ) (d t : ℕ) (v w : Home) → List ℤ
four_cells pick f c d t v w =
    let c0 = slice_set c d (f (cell c v.lo) (cell c w.lo)) in
    let c1 = corner_cells pick f c0 d t v.lo w.hi in
    let c2 = corner_cells pick f c1 d t v.hi w.lo in
    corner_cells pick f c2 d t v.hi w.hi

four : (pick f : ℤ → ℤ → ℤ) (c : List ℤ) (d t : ℕ) (v w : Home) → d ≢ t → d < length c → t < length c → IsApart d t v → IsApart d t w
    → Folds d t (corners pick f (box_at c v) (box_at c w)) c (four_cells pick f c d t v w)
four pick f c d t v w ne hd ht av aw =
    let c0 = slice_set c d (f (cell c v.lo) (cell c w.lo)) in
    let start = wrote c d (f (cell c v.lo) (cell c w.lo)) hd in
    let first : Folds d t (f (cell c v.lo) (cell c w.lo)) c c0 =
    record { same_length = start.same_length; here = start.here; others = λ i nd nt. start.others i nd } in
    let c1 = corner_cells pick f c0 d t v.lo w.hi in
    let second = corner_on pick f c c0 d t v.lo w.hi _ ne hd ht av.lo_d av.lo_t aw.hi_d aw.hi_t first in
    let c2 = corner_cells pick f c1 d t v.hi w.lo in
    let third = corner_on pick f c c1 d t v.hi w.lo _ ne hd ht av.hi_d av.hi_t aw.lo_d aw.lo_t second in
    corner_on pick f c c2 d t v.hi w.hi _ ne hd ht av.hi_d av.hi_t aw.hi_d aw.hi_t third

min_four : (a b c d : ℤ) → int_min (int_min (int_min a b) c) d ≡ int_min (int_min a b) (int_min c d)
min_four a b c d = omega (arith, ints, clamps)

max_four : (a b c d : ℤ) → int_max (int_max (int_max a b) c) d ≡ int_max (int_max a b) (int_max c d)
max_four a b c d = omega (arith, ints, clamps)

pub multiplied : (c : List ℤ) (d t : ℕ) (v w : Home) → t ≢ d → t ≢ d + 1 → d + 1 < length c → t < length c
    → IsApart d t v → IsApart d t w → IsApart (d + 1) t v → IsApart (d + 1) t w
    → LeavesUsing d t (product (box_at c v) (box_at c w)) c (after (product_code d t v w) c)
multiplied c d t v w td te he ht av aw bv bw =
    let dt : d ≢ t = λ e. td (sym e) in
    let et : d + 1 ≢ t = λ e. te (sym e) in
    let hd : d < length c = omega arith in
    let c1 = after (lower_code d t v w) c in
    let low = four int_min lower_product c d t v w dt hd ht av aw in
    let he1 : d + 1 < length c1 = omega (arith, low.same_length) in
    let ht1 : t < length c1 = omega (arith, low.same_length) in
    let high = four int_max upper_product c1 (d + 1) t v w et he1 ht1 bv bw in
    let same_v : box_at c1 v ≡ box_at c v = both boxed (low.others v.lo av.lo_d av.lo_t) (low.others v.hi av.hi_d av.hi_t) in
    let same_w : box_at c1 w ≡ box_at c w = both boxed (low.others w.lo aw.lo_d aw.lo_t) (low.others w.hi aw.hi_d aw.hi_t) in
    let nd : d ≢ d + 1 = omega arith in
    let a = box_at c v in
    let b = box_at c w in
    record {
      same_length = high.same_length ∙ low.same_length;
      low = high.others d nd dt ∙ low.here ∙ min_four (lower_product a.lo b.lo) (lower_product a.lo b.hi) (lower_product a.hi b.lo) (lower_product a.hi b.hi);
      high = high.here ∙ both (corners int_max upper_product) same_v same_w
          ∙ max_four (upper_product a.lo b.lo) (upper_product a.lo b.hi) (upper_product a.hi b.lo) (upper_product a.hi b.hi);
      others = λ i ni ne nt. high.others i ne nt ∙ low.others i ni nt;
    }

pub multiplied_leaves : (c c' : List ℤ) (d t : ℕ) (z : Ends) → d + 1 < t → LeavesUsing d t z c c' → Leaves d z c c'
multiplied_leaves c c' d t z h m = record {
  low = m.low;
  high = m.high;
  keeps = record { same_length = m.same_length; below = λ i l. m.others i (omega arith) (omega arith) (omega arith) };
}
