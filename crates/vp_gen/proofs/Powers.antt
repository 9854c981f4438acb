-- The code of powers.
use Rattle.std.proofs.Common.{◌≡◌, ◌≢◌, ℕ, zero, suc, ◌+◌, ◌-◌, ◌%◌, ◌<◌, List, [], ◌∷◌, ◌++◌, length, Bool, true, false, nat_eq, refl, sym, ap, ◌∙◌, arith}
use Rattle.std.specs.Prelude.{ℤ, pos, neg_ℤ, slice_set, if◌then◌else◌}
use Rattle.std.specs.Int.{int_max}
use Rattle.vp_words.specs.Number.{lower_product, upper_product}
use Rattle.vp_isa.specs.declared.instr.Instr.{Instr}
use Rattle.vp_isa.specs.declared.instr.Instr.TheVariants.{Copy}
use Rattle.vp_layout.specs.declared.home.Home.{Home}
use Rattle.vp_interval.specs.Rounding.{Ends, product}
use Rattle.vp_gen.proofs.Values.{times_over, even_power, power}
use Rattle.vp_isa.specs.Machine.{cell}
use Rattle.vp_isa.specs.Block.{after}
use Rattle.vp_layout.specs.Homes.{box_at}
use Rattle.vp_layout.specs.Blocks.{product_code}
use Rattle.vp_gen.specs.PowerCode.{home, even_start, even_steps, even_code, power_code, first_code, times_code, factor_code}
use Rattle.vp_layout.specs.Cells.{HomeIsBelow, Keeps, Leaves}
use Rattle.vp_layout.proofs.Writes.{Wrote, wrote, keeps_fewer, leaves_from, after-append}
use Rattle.vp_layout.proofs.Kept.{both, boxed, box_kept}
use Rattle.vp_layout.proofs.Products.{multiplied, multiplied_leaves}

-- a second write of one cell
wrote_again : (d : ℕ) (x y : ℤ) (c c1 c2 : List ℤ) → Wrote d x c c1 → Wrote d y c1 c2 → Wrote d y c c2
wrote_again d x y c c1 c2 f g = record {
  same_length = g.same_length ∙ f.same_length;
  here = g.here;
  others = λ i ne. g.others i ne ∙ f.others i ne;
}

wrote_at : (c : List ℤ) (d : ℕ) (z z' : ℤ) → d < length c → z ≡ z' → Wrote d z' c (slice_set c d z)
wrote_at c d z z' h e = let w = wrote c d z h in record { same_length = w.same_length; here = w.here ∙ e; others = w.others }

-- an even power so far: its ends, and those of its base
pub record Even (d : ℕ) (lo hi a b : ℤ) (c c' : List ℤ) : Type 0 where
  pub low : cell c' d ≡ lo
  pub high : cell c' (d + 1) ≡ hi
  pub base_low : cell c' (d + 2) ≡ a
  pub base_high : cell c' (d + 3) ≡ b
  pub keeps : Keeps d c c'

-- the low end of the base, in cell e
base_low : (c : List ℤ) (e : ℕ) (v : Home) → e < length c → v.lo ≢ e → 64 ≢ e → cell c 64 ≡ pos 0
    → let c1 = slice_set c e (neg_ℤ (cell c v.hi)) in
    let c2 = slice_set c1 e (int_max (cell c1 v.lo) (cell c1 e)) in
    Wrote e (int_max (int_max (cell c v.lo) (neg_ℤ (cell c v.hi))) (pos 0)) c (slice_set c2 e (int_max (cell c2 e) (cell c2 64)))
base_low c e v he lo zero_apart zero_is =
    let c1 = slice_set c e (neg_ℤ (cell c v.hi)) in
    let c2 = slice_set c1 e (int_max (cell c1 v.lo) (cell c1 e)) in
    let one = wrote c e (neg_ℤ (cell c v.hi)) he in
    let he1 : e < length c1 = omega (arith, one.same_length) in
    let two = wrote_at c1 e _ (int_max (cell c v.lo) (neg_ℤ (cell c v.hi))) he1 (both int_max (one.others v.lo lo) one.here) in
    let both_ = wrote_again e _ _ c c1 c2 one two in
    let he2 : e < length c2 = omega (arith, both_.same_length) in
    let three = wrote_at c2 e _ (int_max (int_max (cell c v.lo) (neg_ℤ (cell c v.hi))) (pos 0)) he2
    (both int_max both_.here (both_.others 64 zero_apart ∙ zero_is)) in
    wrote_again e _ _ c c2 _ both_ three

-- its high end, in cell e
base_high : (c : List ℤ) (e : ℕ) (v : Home) → e < length c → v.hi ≢ e
    → let c1 = slice_set c e (neg_ℤ (cell c v.lo)) in
    Wrote e (int_max (neg_ℤ (cell c v.lo)) (cell c v.hi)) c (slice_set c1 e (int_max (cell c1 e) (cell c1 v.hi)))
base_high c e v he hi =
    let c1 = slice_set c e (neg_ℤ (cell c v.lo)) in
    let one = wrote c e (neg_ℤ (cell c v.lo)) he in
    let he1 : e < length c1 = omega (arith, one.same_length) in
    let two = wrote_at c1 e _ (int_max (neg_ℤ (cell c v.lo)) (cell c v.hi)) he1 (both int_max one.here (one.others v.hi hi)) in
    wrote_again e _ _ c c1 _ one two

-- the ends of the base, and their squares
even_started : (c : List ℤ) (d : ℕ) (v : Home) → d + 3 < length c → v.lo < d → v.hi < d → 64 < d → cell c 64 ≡ pos 0
    → let a = int_max (int_max (cell c v.lo) (neg_ℤ (cell c v.hi))) (pos 0) in
    let b = int_max (neg_ℤ (cell c v.lo)) (cell c v.hi) in
    Even d (lower_product a a) (upper_product b b) a b c (after (even_start d v) c)
even_started c d v room lo hi above zero_is =
    let a = int_max (int_max (cell c v.lo) (neg_ℤ (cell c v.hi))) (pos 0) in
    let b = int_max (neg_ℤ (cell c v.lo)) (cell c v.hi) in
    let c1 = slice_set c (d + 2) (neg_ℤ (cell c v.hi)) in
    let c2 = slice_set c1 (d + 2) (int_max (cell c1 v.lo) (cell c1 (d + 2))) in
    let c3 = slice_set c2 (d + 2) (int_max (cell c2 (d + 2)) (cell c2 64)) in
    let c4 = slice_set c3 (d + 3) (neg_ℤ (cell c3 v.lo)) in
    let c5 = slice_set c4 (d + 3) (int_max (cell c4 (d + 3)) (cell c4 v.hi)) in
    let c6 = slice_set c5 d (lower_product (cell c5 (d + 2)) (cell c5 (d + 2))) in
    let c7 = slice_set c6 (d + 1) (upper_product (cell c6 (d + 3)) (cell c6 (d + 3))) in
    let r2 : d + 2 < length c = omega arith in
    let low : Wrote (d + 2) a c c3 = base_low c (d + 2) v r2 (omega arith) (omega arith) zero_is in
    let r3 : d + 3 < length c3 = omega (arith, low.same_length) in
    let nlo : v.lo ≢ d + 2 = omega arith in
    let nhi : v.hi ≢ d + 2 = omega arith in
    let high0 = base_high c3 (d + 3) v r3 (omega arith) in
    let b_is : int_max (neg_ℤ (cell c3 v.lo)) (cell c3 v.hi) ≡ b =
    both int_max (ap neg_ℤ (low.others v.lo nlo)) (low.others v.hi nhi) in
    let n23 : d + 2 ≢ d + 3 = omega arith in
    let n2d : d + 2 ≢ d = omega arith in
    let n3d : d + 3 ≢ d = omega arith in
    let n2e : d + 2 ≢ d + 1 = omega arith in
    let n3e : d + 3 ≢ d + 1 = omega arith in
    let nde : d ≢ d + 1 = omega arith in
    let a5 : cell c5 (d + 2) ≡ a = high0.others (d + 2) n23 ∙ low.here in
    let b5 : cell c5 (d + 3) ≡ b = high0.here ∙ b_is in
    let r5 : d < length c5 = omega (arith, high0.same_length, low.same_length) in
    let six = wrote c5 d (lower_product (cell c5 (d + 2)) (cell c5 (d + 2))) r5 in
    let b6 : cell c6 (d + 3) ≡ b = six.others (d + 3) n3d ∙ b5 in
    let r6 : d + 1 < length c6 = omega (arith, six.same_length, high0.same_length, low.same_length) in
    let seven = wrote c6 (d + 1) (upper_product (cell c6 (d + 3)) (cell c6 (d + 3))) r6 in
    record {
      low = seven.others d nde ∙ six.here ∙ both lower_product a5 a5;
      high = seven.here ∙ both upper_product b6 b6;
      base_low = seven.others (d + 2) n2e ∙ six.others (d + 2) n2d ∙ a5;
      base_high = seven.others (d + 3) n3e ∙ b6;
      keeps = record {
        same_length = seven.same_length ∙ six.same_length ∙ high0.same_length ∙ low.same_length;
        below = λ i h. seven.others i (omega arith) ∙ six.others i (omega arith) ∙ high0.others i (omega arith) ∙ low.others i (omega arith);
      };
    }

-- one more product at each end
even_stepped : (c0 c : List ℤ) (d : ℕ) (lo hi a b : ℤ) → d + 3 < length c0 → Even d lo hi a b c0 c
    → Even d (lower_product lo a) (upper_product hi b) a b c0
    (let c1 = slice_set c d (lower_product (cell c d) (cell c (d + 2))) in
    slice_set c1 (d + 1) (upper_product (cell c1 (d + 1)) (cell c1 (d + 3))))
even_stepped c0 c d lo hi a b room e =
    let c1 = slice_set c d (lower_product (cell c d) (cell c (d + 2))) in
    let r : d < length c = omega (arith, e.keeps.same_length) in
    let one = wrote c d (lower_product (cell c d) (cell c (d + 2))) r in
    let r1 : d + 1 < length c1 = omega (arith, one.same_length, e.keeps.same_length) in
    let two = wrote c1 (d + 1) (upper_product (cell c1 (d + 1)) (cell c1 (d + 3))) r1 in
    let n2d : d + 2 ≢ d = omega arith in
    let n3d : d + 3 ≢ d = omega arith in
    let n2e : d + 2 ≢ d + 1 = omega arith in
    let n3e : d + 3 ≢ d + 1 = omega arith in
    let nde : d ≢ d + 1 = omega arith in
    let ned : d + 1 ≢ d = omega arith in
    record {
      low = two.others d nde ∙ one.here ∙ both lower_product e.low e.base_low;
      high = two.here ∙ both upper_product (one.others (d + 1) ned ∙ e.high) (one.others (d + 3) n3d ∙ e.base_high);
      base_low = two.others (d + 2) n2e ∙ one.others (d + 2) n2d ∙ e.base_low;
      base_high = two.others (d + 3) n3e ∙ one.others (d + 3) n3d ∙ e.base_high;
      keeps = record {
        same_length = two.same_length ∙ one.same_length ∙ e.keeps.same_length;
        below = λ i h. two.others i (omega arith) ∙ one.others i (omega arith) ∙ e.keeps.below i h;
      };
    }

even_goes_on : (c0 c : List ℤ) (d : ℕ) (a b : ℤ) (n : ℕ) → d + 3 < length c0 → Even d (lower_product a a) (upper_product b b) a b c0 c
    → Even d (times_over lower_product a n) (times_over upper_product b n) a b c0 (after (even_steps d n) c)
even_goes_on c0 c d a b zero room e = e
even_goes_on c0 c d a b (suc n) room e =
    let more = even_stepped c0 (after (even_steps d n) c) d _ _ a b room (even_goes_on c0 c d a b n room e) in
    rw after-append more

even_leaves : (c : List ℤ) (d n : ℕ) (v : Home) → d + 3 < length c → v.lo < d → v.hi < d → 64 < d → cell c 64 ≡ pos 0
    → Leaves d (even_power (box_at c v) n) c (after (even_code d n v) c)
even_leaves c d n v room lo hi above zero_is =
    let e = even_goes_on c (after (even_start d v) c) d _ _ n room (even_started c d v room lo hi above zero_is) in
    record { low = e.low; high = e.high; keeps = e.keeps }

-- what the code of a power needs: cell 64 holds 0, below d, and there are cells up to d + n
pub record Fits (d n : ℕ) (c : List ℤ) : Type 0 where
  pub above : 64 < d
  pub room : d + n < length c
  pub zero_is : cell c 64 ≡ pos 0

-- a power from the second on, as one of the two cases
abbrev from_second : Ends → ℕ → Ends
from_second v k = if nat_eq (k % 2) 0 then even_power v (k - 2) else product v (even_power v (k - 3))

even_power_leaves : (c : List ℤ) (d n : ℕ) (v : Home) → Fits d 3 c → HomeIsBelow d v → Leaves d (even_power (box_at c v) n) c (after (even_code d n v) c)
even_power_leaves c d n v f b = even_leaves c d n v f.room b.lo b.hi f.above f.zero_is

odd_power_leaves : (c : List ℤ) (d n : ℕ) (v : Home) → Fits d 5 c → HomeIsBelow d v
    → Leaves d (product (box_at c v) (even_power (box_at c v) n)) c
    (after (even_code (d + 2) n v ++ product_code d (d + 4) v (record { lo = d + 2; hi = d + 3 })) c)
odd_power_leaves c d n v f b =
    let e : Home = record { lo = d + 2; hi = d + 3 } in
    let c1 = after (even_code (d + 2) n v) c in
    let room : d + 5 < length c = f.room in
    let f2 : Fits (d + 2) 3 c = record { above = omega arith; room = omega arith; zero_is = f.zero_is } in
    let vlo : v.lo < d = b.lo in
    let vhi : v.hi < d = b.hi in
    let even = even_power_leaves c (d + 2) n v f2 (record { lo = omega arith; hi = omega arith }) in
    let len : length c1 ≡ length c = even.keeps.same_length in
    let same_v : box_at c1 v ≡ box_at c v = box_kept c c1 d v (keeps_fewer d (d + 2) c c1 (omega arith) even.keeps) b in
    let next : d + 2 + 1 ≡ d + 3 = omega arith in
    let same_e : box_at c1 e ≡ even_power (box_at c v) n = both boxed even.low (ap (cell c1) (sym next) ∙ even.high) in
    let m = multiplied c1 d (d + 4) v e (omega arith) (omega arith) (omega arith) (omega arith)
    (record { lo_d = omega arith; lo_t = omega arith; hi_d = omega arith; hi_t = omega arith })
    (record { lo_d = omega arith; lo_t = omega arith; hi_d = omega arith; hi_t = omega arith })
    (record { lo_d = omega arith; lo_t = omega arith; hi_d = omega arith; hi_t = omega arith })
    (record { lo_d = omega arith; lo_t = omega arith; hi_d = omega arith; hi_t = omega arith }) in
    let l = multiplied_leaves c1 _ d (d + 4) _ (omega arith) m in
    rw after-append (leaves_from c c1 _ d (d + 2) _ _ (omega arith) even.keeps l (both product same_v same_e))

-- two copies
copied : (c : List ℤ) (d : ℕ) (v : Home) → d + 1 < length c → v.hi ≢ d
    → Leaves d (box_at c v) c (after (Copy d v.lo ∷ Copy (d + 1) v.hi ∷ []) c)
copied c d v room apart =
    let c1 = slice_set c d (cell c v.lo) in
    let one = wrote c d (cell c v.lo) (omega arith) in
    let r1 : d + 1 < length c1 = omega (arith, one.same_length) in
    let two = wrote c1 (d + 1) (cell c1 v.hi) r1 in
    record {
      low = two.others d (omega arith) ∙ one.here;
      high = two.here ∙ one.others v.hi apart;
      keeps = record { same_length = two.same_length ∙ one.same_length; below = λ i h. two.others i (omega arith) ∙ one.others i (omega arith) };
    }

-- either of two blocks
either : (b : Bool) (c : List ℤ) (d : ℕ) (v w : Ends) (x y : List Instr) → Leaves d v c (after x c) → Leaves d w c (after y c)
    → Leaves d (if b then v else w) c (after (if b then x else y) c)
either true c d v w x y l m = l
either false c d v w x y l m = m

power_leaves : (c : List ℤ) (d k : ℕ) (v : Home) → Fits d 5 c → HomeIsBelow d v
    → Leaves d (from_second (box_at c v) k) c (after (power_code d k v) c)
power_leaves c d k v f b =
    let room : d + 5 < length c = f.room in
    let f3 : Fits d 3 c = record { above = f.above; room = omega arith; zero_is = f.zero_is } in
    either (nat_eq (k % 2) 0) c d _ _ _ _ (even_power_leaves c d (k - 2) v f3 b) (odd_power_leaves c d (k - 3) v f b)

pub first_leaves : (c : List ℤ) (d k : ℕ) (v : Home) → Fits d 5 c → HomeIsBelow d v
    → Leaves d (power (box_at c v) k) c (after (first_code d k v) c)
first_leaves c d k v f b =
    let room : d + 5 < length c = f.room in
    let hi : v.hi < d = b.hi in
    either (nat_eq k 1) c d _ _ _ _ (copied c d v (omega arith) (omega arith)) (power_leaves c d k v f b)

-- a product in the cells d + 4 and d + 5, with the cells below d + 2 as they were
record Aside (d : ℕ) (v : Ends) (c c' : List ℤ) : Type 0 where
  low : cell c' (d + 4) ≡ v.lo
  high : cell c' (d + 5) ≡ v.hi
  keeps : Keeps (d + 2) c c'

product_aside : (c c1 : List ℤ) (d : ℕ) (w : Home) (x : Ends) → d + 6 < length c → Keeps (d + 2) c c1
    → w.lo < d + 4 → w.hi < d + 4 → box_at c1 w ≡ x
    → Aside d (product (box_at c (home d)) x) c (after (product_code (d + 4) (d + 6) (home d) w) c1)
product_aside c c1 d w x room k lo hi is =
    let len : length c1 ≡ length c = k.same_length in
    let m = multiplied c1 (d + 4) (d + 6) (home d) w (omega arith) (omega arith) (omega arith) (omega arith)
    (record { lo_d = omega arith; lo_t = omega arith; hi_d = omega arith; hi_t = omega arith })
    (record { lo_d = omega arith; lo_t = omega arith; hi_d = omega arith; hi_t = omega arith })
    (record { lo_d = omega arith; lo_t = omega arith; hi_d = omega arith; hi_t = omega arith })
    (record { lo_d = omega arith; lo_t = omega arith; hi_d = omega arith; hi_t = omega arith }) in
    let same : box_at c1 (home d) ≡ box_at c (home d) = both boxed (k.below d (omega arith)) (k.below (d + 1) (omega arith)) in
    let all : product (box_at c1 (home d)) (box_at c1 w) ≡ product (box_at c (home d)) x = both product same is in
    let next : d + 4 + 1 ≡ d + 5 = omega arith in
    record {
      low = m.low ∙ ap (λ i. i.lo) all;
      high = ap (cell (after (product_code (d + 4) (d + 6) (home d) w) c1)) (sym next) ∙ m.high ∙ ap (λ i. i.hi) all;
      keeps = record {
        same_length = m.same_length ∙ k.same_length;
        below = λ i h. m.others i (omega arith) (omega arith) (omega arith) ∙ k.below i h;
      };
    }

aside_either : (b : Bool) (c : List ℤ) (d : ℕ) (v w : Ends) (x y : List Instr) → Aside d v c (after x c) → Aside d w c (after y c)
    → Aside d (if b then v else w) c (after (if b then x else y) c)
aside_either true c d v w x y l m = l
aside_either false c d v w x y l m = m

times_aside : (c : List ℤ) (d k : ℕ) (v : Home) → Fits d 7 c → HomeIsBelow d v
    → Aside d (product (box_at c (home d)) (power (box_at c v) k)) c (after (times_code d k v) c)
times_aside c d k v f b =
    let e : Home = record { lo = d + 2; hi = d + 3 } in
    let room : d + 7 < length c = f.room in
    let lo : v.lo < d = b.lo in
    let hi : v.hi < d = b.hi in
    let c1 = after (power_code (d + 2) k v) c in
    let f2 : Fits (d + 2) 5 c = record { above = omega arith; room = omega arith; zero_is = f.zero_is } in
    let p = power_leaves c (d + 2) k v f2 (record { lo = omega arith; hi = omega arith }) in
    let next : d + 2 + 1 ≡ d + 3 = omega arith in
    let same : box_at c1 e ≡ from_second (box_at c v) k = both boxed p.low (ap (cell c1) (sym next) ∙ p.high) in
    let none : Keeps (d + 2) c c = record { same_length = refl; below = λ i h. refl } in
    let one = product_aside c c d v (box_at c v) (omega arith) none (omega arith) (omega arith) refl in
    let two = product_aside c c1 d e (from_second (box_at c v) k) (omega arith) p.keeps (omega arith) (omega arith) same in
    let two' : Aside d (product (box_at c (home d)) (from_second (box_at c v) k)) c
    (after (power_code (d + 2) k v ++ product_code (d + 4) (d + 6) (home d) e) c) = rw after-append two in
    push (nat_eq k 1) c d (box_at c (home d)) _ _ _ _ one two'
  where
    push : (t : Bool) (c : List ℤ) (d : ℕ) (u v w : Ends) (x y : List Instr) → Aside d (product u v) c (after x c) → Aside d (product u w) c (after y c)
        → Aside d (product u (if t then v else w)) c (after (if t then x else y) c)
    push true c d u v w x y l m = l
    push false c d u v w x y l m = m

pub factor_leaves : (c : List ℤ) (d k : ℕ) (v : Home) → Fits d 7 c → HomeIsBelow d v
    → Leaves d (product (box_at c (home d)) (power (box_at c v) k)) c (after (factor_code d k v) c)
factor_leaves c d k v f b =
    let room : d + 7 < length c = f.room in
    let c1 = after (times_code d k v) c in
    let a = times_aside c d k v f b in
    let r1 : d + 1 < length c1 = omega (arith, a.keeps.same_length) in
    let there : Home = record { lo = d + 4; hi = d + 5 } in
    let l = copied c1 d there r1 (omega arith) in
    rw after-append (leaves_from c c1 _ d (d + 2) _ _ (omega arith) a.keeps l (both boxed a.low a.high))
