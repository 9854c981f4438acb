-- The code of a formula leaves its truth.
use Rattle.std.proofs.Common.{◌≡◌, ◌≢◌, ℕ, ◌+◌, ◌<◌, ◌≤◌, nat_le, List, [], ◌∷◌, ◌++◌, length, Bool, true, false, refl, sym, ap, ◌∙◌, arith}
use Rattle.std.specs.Prelude.{ℤ, pos, negsuc, neg_ℤ, slice_set, if◌then◌else◌}
use Rattle.std.specs.Int.{int_min, int_max}
use Rattle.std.proofs.lemmas.Bool.Decides.{nat_tests}
use Rattle.vp_words.specs.Number.{lower_sum}
use Rattle.vp_isa.specs.declared.instr.Instr.{Instr}
use Rattle.vp_isa.specs.declared.instr.Instr.TheVariants.{Min, Max}
use Rattle.vp_layout.specs.declared.home.Home.{Home}
use Rattle.vp_logic.specs.declared.norm.Rel.{Rel}
use Rattle.vp_logic.specs.declared.norm.Rel.TheVariants.{Ge, Gt, Eq}
use Rattle.vp_logic.specs.declared.norm.Atom.{Atom}
use Rattle.vp_logic.specs.Tree.{Tree, Trees, One, AllOf, AnyOf, None as Done, Then}
use Rattle.vp_interval.specs.declared.truth.Truth.{Truth}
use Rattle.vp_interval.specs.declared.truth.Truth.TheVariants.{No, Maybe, Yes}
use Rattle.vp_interval.specs.Rounding.{Ends}
use Rattle.vp_interval.specs.Polynomial.{interval_of}
use Rattle.vp_interval.specs.Truth.{least, greatest}
use Rattle.vp_interval.specs.Formula.{of_relation, truth, truth_of_all, truth_of_any}
use Rattle.vp_isa.specs.Machine.{cell}
use Rattle.vp_isa.specs.Block.{after}
use Rattle.vp_layout.specs.Homes.{boxes_in}
use Rattle.vp_gen.specs.PolyCode.{poly_code}
use Rattle.vp_layout.specs.Truths.{number, joint, need, needs}
use Rattle.vp_gen.specs.FormCode.{rel_code, atom_code, form_code, all_code, any_code}
use Rattle.vp_layout.specs.Cells.{Constants, HomesAreBelow, Keeps}
use Rattle.vp_layout.proofs.Writes.{wrote, keeps_all, keeps_on, keeps_fewer, after-append}
use Rattle.vp_layout.proofs.Kept.{both, are_below_more, boxes_kept, constants_kept}
use Rattle.vp_gen.proofs.Powers.{Fits}
use Rattle.vp_gen.proofs.Polys.{poly_leaves}
use Rattle.vp_gen.proofs.Values.{of_poly}
use Rattle.vp_gen.proofs.Bridges.{poly_is}
use Rattle.vp_gen.proofs.Rels.{ge_number, gt_number, eq_number}

-- what the code of a formula needs: room for n cells from d on
pub record Ready (d n : ℕ) (hs : List Home) (c : List ℤ) : Type 0 where
  pub above : 67 < d
  pub room : d + n < length c
  pub constants : Constants c
  pub homes : HomesAreBelow d hs

pub ready_after : (d n e m : ℕ) (hs : List Home) (c c' : List ℤ) → d ≤ e → e + m ≤ d + n → Ready d n hs c → Keeps d c c' → Ready e m hs c'
ready_after d n e m hs c c' le h r k =
    let room : d + n < length c = r.room in
    let len : length c' ≡ length c = k.same_length in
    let above : 67 < d = r.above in
    record {
      above = omega arith;
      room = omega arith;
      constants = constants_kept d c c' above k r.constants;
      homes = are_below_more d e hs le r.homes;
    }

-- the number z stands in cell d, and the cells below are as they were
pub record Holds (d : ℕ) (z : ℤ) (c c' : List ℤ) : Type 0 where
  pub here : cell c' d ≡ z
  pub keeps : Keeps d c c'

-- cell d is x and cell d + 3 is y, and no other cell has changed
record Two (d : ℕ) (x y : ℤ) (c c' : List ℤ) : Type 0 where
  same_length : length c' ≡ length c
  first : cell c' d ≡ x
  second : cell c' (d + 3) ≡ y
  others : (i : ℕ) → i ≢ d → i ≢ d + 3 → cell c' i ≡ cell c i

write_first : (d : ℕ) (x y z z' : ℤ) (c c' : List ℤ) → d + 3 < length c → Two d x y c c' → z ≡ z' → Two d z' y c (slice_set c' d z)
write_first d x y z z' c c' room t e =
    let len : length c' ≡ length c = t.same_length in
    let w = wrote c' d z (omega arith) in
    record {
      same_length = w.same_length ∙ len;
      first = w.here ∙ e;
      second = w.others (d + 3) (omega arith) ∙ t.second;
      others = λ i n m. w.others i n ∙ t.others i n m;
    }

write_second : (d : ℕ) (x y z z' : ℤ) (c c' : List ℤ) → d + 3 < length c → Two d x y c c' → z ≡ z' → Two d x z' c (slice_set c' (d + 3) z)
write_second d x y z z' c c' room t e =
    let len : length c' ≡ length c = t.same_length in
    let w = wrote c' (d + 3) z (omega arith) in
    record {
      same_length = w.same_length ∙ len;
      first = w.others d (omega arith) ∙ t.first;
      second = w.here ∙ e;
      others = λ i n m. w.others i m ∙ t.others i n m;
    }

two_holds : (d : ℕ) (x y z : ℤ) (c c' : List ℤ) → Two d x y c c' → x ≡ z → Holds d z c c'
two_holds d x y z c c' t e = record {
  here = t.first ∙ e;
  keeps = record { same_length = t.same_length; below = λ i h. t.others i (omega arith) (omega arith) };
}

-- the comparison's code, after that of its polynomial
rel_holds : (c : List ℤ) (d : ℕ) (rel : Rel) (v : Ends) → 67 < d → d + 3 < length c → Constants c
    → cell c (d + 1) ≡ v.lo → cell c (d + 2) ≡ v.hi → Holds d (number (of_relation rel v)) c (after (rel_code d rel) c)
rel_holds c d Ge v above room s low high =
    let lo = v.lo in
    let hi = v.hi in
    let x1 = int_max lo (negsuc 0) in
    let x = int_min x1 (pos 0) in
    let y1 = int_max hi x in
    let y = int_min y1 (pos 0) in
    let start : Two d (cell c d) (cell c (d + 3)) c c = record { same_length = refl; first = refl; second = refl; others = λ i n m. refl } in
    let c1 = slice_set c d (int_max (cell c (d + 1)) (cell c 67)) in
    let t1 : Two d x1 (cell c (d + 3)) c c1 = write_first d _ _ _ _ c c room start (both int_max low s.minus_is) in
    let c2 = slice_set c1 d (int_min (cell c1 d) (cell c1 64)) in
    let t2 : Two d x (cell c (d + 3)) c c2 = write_first d _ _ _ _ c c1 room t1 (both int_min t1.first (t1.others 64 (omega arith) (omega arith) ∙ s.zero_is)) in
    let c3 = slice_set c2 (d + 3) (int_max (cell c2 (d + 2)) (cell c2 d)) in
    let t3 : Two d x y1 c c3 = write_second d _ _ _ _ c c2 room t2 (both int_max (t2.others (d + 2) (omega arith) (omega arith) ∙ high) t2.first) in
    let c4 = slice_set c3 (d + 3) (int_min (cell c3 (d + 3)) (cell c3 64)) in
    let t4 : Two d x y c c4 = write_second d _ _ _ _ c c3 room t3 (both int_min t3.second (t3.others 64 (omega arith) (omega arith) ∙ s.zero_is)) in
    let c5 = slice_set c4 d (lower_sum (cell c4 d) (cell c4 (d + 3))) in
    let t5 : Two d (lower_sum x y) y c c5 = write_first d _ _ _ _ c c4 room t4 (both lower_sum t4.first t4.second) in
    let c6 = slice_set c5 d (lower_sum (cell c5 d) (cell c5 66)) in
    let t6 : Two d (lower_sum (lower_sum x y) (pos 2)) y c c6 = write_first d _ _ _ _ c c5 room t5 (both lower_sum t5.first (t5.others 66 (omega arith) (omega arith) ∙ s.two_is)) in
    two_holds d _ _ _ c c6 t6 (ge_number lo hi)
rel_holds c d Gt v above room s low high =
    let lo = v.lo in
    let hi = v.hi in
    let x1 = int_max lo (pos 0) in
    let x = int_min x1 (pos 1) in
    let y1 = int_max hi x in
    let y = int_min y1 (pos 1) in
    let start : Two d (cell c d) (cell c (d + 3)) c c = record { same_length = refl; first = refl; second = refl; others = λ i n m. refl } in
    let c1 = slice_set c d (int_max (cell c (d + 1)) (cell c 64)) in
    let t1 : Two d x1 (cell c (d + 3)) c c1 = write_first d _ _ _ _ c c room start (both int_max low s.zero_is) in
    let c2 = slice_set c1 d (int_min (cell c1 d) (cell c1 65)) in
    let t2 : Two d x (cell c (d + 3)) c c2 = write_first d _ _ _ _ c c1 room t1 (both int_min t1.first (t1.others 65 (omega arith) (omega arith) ∙ s.one_is)) in
    let c3 = slice_set c2 (d + 3) (int_max (cell c2 (d + 2)) (cell c2 d)) in
    let t3 : Two d x y1 c c3 = write_second d _ _ _ _ c c2 room t2 (both int_max (t2.others (d + 2) (omega arith) (omega arith) ∙ high) t2.first) in
    let c4 = slice_set c3 (d + 3) (int_min (cell c3 (d + 3)) (cell c3 65)) in
    let t4 : Two d x y c c4 = write_second d _ _ _ _ c c3 room t3 (both int_min t3.second (t3.others 65 (omega arith) (omega arith) ∙ s.one_is)) in
    let c5 = slice_set c4 d (lower_sum (cell c4 d) (cell c4 (d + 3))) in
    let t5 : Two d (lower_sum x y) y c c5 = write_first d _ _ _ _ c c4 room t4 (both lower_sum t4.first t4.second) in
    two_holds d _ _ _ c c5 t5 (gt_number lo hi)
rel_holds c d Eq v above room s low high =
    let lo = v.lo in
    let hi = v.hi in
    let y0 = cell c (d + 3) in
    let n = neg_ℤ hi in
    let y1 = int_min lo n in
    let y = int_max y1 (negsuc 0) in
    let v1 = int_max lo n in
    let v2 = int_max v1 (pos 0) in
    let v3 = int_min v2 (pos 1) in
    let v4 = neg_ℤ v3 in
    let v5 = lower_sum v4 v4 in
    let v6 = int_min v5 y in
    let start : Two d (cell c d) y0 c c = record { same_length = refl; first = refl; second = refl; others = λ i n m. refl } in
    let c1 = slice_set c d (neg_ℤ (cell c (d + 2))) in
    let t1 : Two d n y0 c c1 = write_first d _ _ _ _ c c room start (ap neg_ℤ high) in
    let c2 = slice_set c1 (d + 3) (int_min (cell c1 (d + 1)) (cell c1 d)) in
    let t2 : Two d n y1 c c2 = write_second d _ _ _ _ c c1 room t1 (both int_min (t1.others (d + 1) (omega arith) (omega arith) ∙ low) t1.first) in
    let c3 = slice_set c2 (d + 3) (int_max (cell c2 (d + 3)) (cell c2 67)) in
    let t3 : Two d n y c c3 = write_second d _ _ _ _ c c2 room t2 (both int_max t2.second (t2.others 67 (omega arith) (omega arith) ∙ s.minus_is)) in
    let c4 = slice_set c3 d (int_max (cell c3 (d + 1)) (cell c3 d)) in
    let t4 : Two d v1 y c c4 = write_first d _ _ _ _ c c3 room t3 (both int_max (t3.others (d + 1) (omega arith) (omega arith) ∙ low) t3.first) in
    let c5 = slice_set c4 d (int_max (cell c4 d) (cell c4 64)) in
    let t5 : Two d v2 y c c5 = write_first d _ _ _ _ c c4 room t4 (both int_max t4.first (t4.others 64 (omega arith) (omega arith) ∙ s.zero_is)) in
    let c6 = slice_set c5 d (int_min (cell c5 d) (cell c5 65)) in
    let t6 : Two d v3 y c c6 = write_first d _ _ _ _ c c5 room t5 (both int_min t5.first (t5.others 65 (omega arith) (omega arith) ∙ s.one_is)) in
    let c7 = slice_set c6 d (neg_ℤ (cell c6 d)) in
    let t7 : Two d v4 y c c7 = write_first d _ _ _ _ c c6 room t6 (ap neg_ℤ t6.first) in
    let c8 = slice_set c7 d (lower_sum (cell c7 d) (cell c7 d)) in
    let t8 : Two d v5 y c c8 = write_first d _ _ _ _ c c7 room t7 (both lower_sum t7.first t7.first) in
    let c9 = slice_set c8 d (int_min (cell c8 d) (cell c8 (d + 3))) in
    let t9 : Two d v6 y c c9 = write_first d _ _ _ _ c c8 room t8 (both int_min t8.first t8.second) in
    let c10 = slice_set c9 d (lower_sum (cell c9 d) (cell c9 66)) in
    let t10 : Two d (lower_sum v6 (pos 2)) y c c10 = write_first d _ _ _ _ c c9 room t9 (both lower_sum t9.first (t9.others 66 (omega arith) (omega arith) ∙ s.two_is)) in
    two_holds d _ _ _ c c10 t10 (eq_number lo hi)

-- an atom's truth
atom_holds : (c : List ℤ) (d : ℕ) (atom : Atom) (hs : List Home) → Ready d 12 hs c
    → Holds d (number (of_relation atom.rel (interval_of (boxes_in c hs) atom.poly))) c (after (atom_code d atom hs) c)
atom_holds c d atom hs r =
    let room : d + 12 < length c = r.room in
    let above : 67 < d = r.above in
    let c1 = after (poly_code (d + 1) atom.poly hs) c in
    let f : Fits (d + 1) 11 c = record { above = omega arith; room = omega arith; zero_is = r.constants.zero_is } in
    let l = poly_leaves c (d + 1) atom.poly hs f (are_below_more d (d + 1) hs (omega arith) r.homes) in
    let len : length c1 ≡ length c = l.keeps.same_length in
    let k : Keeps d c c1 = keeps_fewer d (d + 1) c c1 (omega arith) l.keeps in
    let next : d + 1 + 1 ≡ d + 2 = omega arith in
    let h = rel_holds c1 d atom.rel _ above (omega arith) (constants_kept d c c1 above k r.constants) l.low (ap (cell c1) (sym next) ∙ l.high) in
    let value : number (of_relation atom.rel (of_poly atom.poly (boxes_in c hs))) ≡ number (of_relation atom.rel (interval_of (boxes_in c hs) atom.poly)) =
    ap (λ v. number (of_relation atom.rel v)) (poly_is atom.poly (boxes_in c hs)) in
    rw after-append (record { here = h.here ∙ value; keeps = keeps_on d c c1 _ k h.keeps })

-- two truths and one of both
pair_holds : (pick : ℤ → ℤ → ℤ) (c c1 c2 : List ℤ) (d : ℕ) (x y z : ℤ) → d + 1 < length c
    → Holds d x c c1 → Holds (d + 1) y c1 c2 → pick x y ≡ z → Holds d z c (slice_set c2 d (pick (cell c2 d) (cell c2 (d + 1))))
pair_holds pick c c1 c2 d x y z room h g e =
    let len1 : length c1 ≡ length c = h.keeps.same_length in
    let len2 : length c2 ≡ length c1 = g.keeps.same_length in
    let w = wrote c2 d (pick (cell c2 d) (cell c2 (d + 1))) (omega arith) in
    record {
      here = w.here ∙ both pick (g.keeps.below d (omega arith) ∙ h.here) g.here ∙ e;
      keeps = record {
        same_length = w.same_length ∙ len2 ∙ len1;
        below = λ i l. w.others i (omega arith) ∙ g.keeps.below i (omega arith) ∙ h.keeps.below i l;
      };
    }

min_least : (s t : Truth) → int_min (number s) (number t) ≡ number (least s t)
min_least No No = refl
min_least No Maybe = refl
min_least No Yes = refl
min_least Maybe No = refl
min_least Maybe Maybe = refl
min_least Maybe Yes = refl
min_least Yes No = refl
min_least Yes Maybe = refl
min_least Yes Yes = refl

least_turned : (s t : Truth) → int_min (number t) (number s) ≡ number (least s t)
least_turned No No = refl
least_turned No Maybe = refl
least_turned No Yes = refl
least_turned Maybe No = refl
least_turned Maybe Maybe = refl
least_turned Maybe Yes = refl
least_turned Yes No = refl
least_turned Yes Maybe = refl
least_turned Yes Yes = refl

max_greatest : (s t : Truth) → int_max (number s) (number t) ≡ number (greatest s t)
max_greatest No No = refl
max_greatest No Maybe = refl
max_greatest No Yes = refl
max_greatest Maybe No = refl
max_greatest Maybe Maybe = refl
max_greatest Maybe Yes = refl
max_greatest Yes No = refl
max_greatest Yes Maybe = refl
max_greatest Yes Yes = refl

greatest_turned : (s t : Truth) → int_max (number t) (number s) ≡ number (greatest s t)
greatest_turned No No = refl
greatest_turned No Maybe = refl
greatest_turned No Yes = refl
greatest_turned Maybe No = refl
greatest_turned Maybe Maybe = refl
greatest_turned Maybe Yes = refl
greatest_turned Yes No = refl
greatest_turned Yes Maybe = refl
greatest_turned Yes Yes = refl

one_constant : (c : List ℤ) (d : ℕ) (z : ℤ) → d < length c → Holds d z c (slice_set c d z)
one_constant c d z h = let w = wrote c d z h in
    record { here = w.here; keeps = record { same_length = w.same_length; below = λ i l. w.others i (omega arith) } }

-- which of two formulas comes first, and the room that both need
pub order : (a s n : ℕ) → joint a s ≤ n → n < 65536 → (nat_le s a ≡ true → (a ≤ n) × (s + 1 ≤ n)) × (nat_le s a ≡ false → (s ≤ n) × (a + 1 ≤ n))
order a s n h small = (λ e. (grind (arith, nat_tests), grind (arith, nat_tests)), λ e. (grind (arith, nat_tests), grind (arith, nat_tests)))

-- what a block of a formula does, from any cells
abbrev Leaving : ℕ → ℕ → List Home → List Instr → (List Ends → Truth) → Type 0
Leaving d n hs code truth = (c : List ℤ) → Ready d (n + 12) hs c → Holds d (number (truth (boxes_in c hs))) c (after code c)

-- two formulas in either order
pairs : (b : Bool) (pick : ℤ → ℤ → ℤ) (join : Truth → Truth → Truth) (i : Instr) (d a s n : ℕ) (hs : List Home) (x x' y y' : List Instr) (t u : List Ends → Truth)
    → ((c : List ℤ) → after (i ∷ []) c ≡ slice_set c d (pick (cell c d) (cell c (d + 1))))
    → ((p q : Truth) → pick (number p) (number q) ≡ number (join p q)) → ((p q : Truth) → pick (number q) (number p) ≡ number (join p q))
    → (b ≡ true → (a ≤ n) × (s + 1 ≤ n)) × (b ≡ false → (s ≤ n) × (a + 1 ≤ n))
    → Leaving d a hs x t → Leaving (d + 1) a hs x' t → Leaving d s hs y u → Leaving (d + 1) s hs y' u
    → Leaving d n hs ((if b then (x ++ y') else (y ++ x')) ++ i ∷ []) (λ boxes. join (t boxes) (u boxes))
pairs true pick join i d a s n hs x x' y y' t u writes straight turned o lx lx' ly ly' c r =
    let le = o.0 refl in
    let le0 : a ≤ n = le.0 in
    let le1 : s + 1 ≤ n = le.1 in
    let room : d + (n + 12) < length c = r.room in
    let c1 = after x c in
    let h = lx c (ready_after d (n + 12) d (a + 12) hs c c (omega arith) (omega arith) r (keeps_all d c)) in
    let g = ly' c1 (ready_after d (n + 12) (d + 1) (s + 12) hs c c1 (omega arith) (omega arith) r h.keeps) in
    let same = boxes_kept c c1 d hs h.keeps r.homes in
    let p = pair_holds pick c c1 (after y' c1) d _ _ (number (join (t (boxes_in c hs)) (u (boxes_in c hs)))) (omega arith) h g
    (ap (λ boxes. pick (number (t (boxes_in c hs))) (number (u boxes))) same ∙ straight _ _) in
    rw (after-append, after-append, writes) p
pairs false pick join i d a s n hs x x' y y' t u writes straight turned o lx lx' ly ly' c r =
    let le = o.1 refl in
    let le0 : s ≤ n = le.0 in
    let le1 : a + 1 ≤ n = le.1 in
    let room : d + (n + 12) < length c = r.room in
    let c1 = after y c in
    let h = ly c (ready_after d (n + 12) d (s + 12) hs c c (omega arith) (omega arith) r (keeps_all d c)) in
    let g = lx' c1 (ready_after d (n + 12) (d + 1) (a + 12) hs c c1 (omega arith) (omega arith) r h.keeps) in
    let same = boxes_kept c c1 d hs h.keeps r.homes in
    let p = pair_holds pick c c1 (after x' c1) d _ _ (number (join (t (boxes_in c hs)) (u (boxes_in c hs)))) (omega arith) h g
    (ap (λ boxes. pick (number (u (boxes_in c hs))) (number (t boxes))) same ∙ turned _ _) in
    rw (after-append, after-append, writes) p

pub joint_bounds : (a s : ℕ) → joint a s < 65536 → (a < 65536) × (s < 65536)
joint_bounds a s h = (grind (arith, nat_tests), grind (arith, nat_tests))

pub fst_small : (n : Tree) (ns : Trees) → joint (need n) (needs ns) < 65536 → need n < 65536
fst_small n ns h = (joint_bounds (need n) (needs ns) h).0

pub snd_small : (n : Tree) (ns : Trees) → joint (need n) (needs ns) < 65536 → needs ns < 65536
snd_small n ns h = (joint_bounds (need n) (needs ns) h).1

-- the code of a formula leaves its truth's number in cell d, and the cells below d as they were
mutual
  pub form_holds : (n : Tree) (d : ℕ) (hs : List Home) → need n < 65536 → Leaving d (need n) hs (form_code d n hs) (λ b. truth b n)
  form_holds (One atom) d hs small c r =
      atom_holds c d atom hs (ready_after d 13 d 12 hs c c (omega arith) (omega arith) r (keeps_all d c))
  form_holds (AllOf ns) d hs small c r = all_hold ns d hs small c r
  form_holds (AnyOf ns) d hs small c r = any_holds ns d hs small c r

  pub all_hold : (ns : Trees) (d : ℕ) (hs : List Home) → needs ns < 65536 → Leaving d (needs ns) hs (all_code d ns hs) (λ b. truth_of_all b ns)
  all_hold Done d hs small = λ c r. let room : d + 12 < length c = r.room in one_constant c d (pos 2) (omega arith)
  all_hold (Then n ns) d hs small =
      let o = order (need n) (needs ns) (joint (need n) (needs ns)) (omega arith) small in
      pairs (nat_le (needs ns) (need n)) int_min least (Min d d (d + 1)) d (need n) (needs ns) _ hs (form_code d n hs) (form_code (d + 1) n hs) (all_code d ns hs) (all_code (d + 1) ns hs) (λ b. truth b n) (λ b. truth_of_all b ns)
      (λ c. refl) min_least least_turned o
      (form_holds n d hs (fst_small n ns small)) (form_holds n (d + 1) hs (fst_small n ns small)) (all_hold ns d hs (snd_small n ns small)) (all_hold ns (d + 1) hs (snd_small n ns small))

  pub any_holds : (ns : Trees) (d : ℕ) (hs : List Home) → needs ns < 65536 → Leaving d (needs ns) hs (any_code d ns hs) (λ b. truth_of_any b ns)
  any_holds Done d hs small = λ c r. let room : d + 12 < length c = r.room in one_constant c d (pos 0) (omega arith)
  any_holds (Then n ns) d hs small =
      let o = order (need n) (needs ns) (joint (need n) (needs ns)) (omega arith) small in
      pairs (nat_le (needs ns) (need n)) int_max greatest (Max d d (d + 1)) d (need n) (needs ns) _ hs (form_code d n hs) (form_code (d + 1) n hs) (any_code d ns hs) (any_code (d + 1) ns hs) (λ b. truth b n) (λ b. truth_of_any b ns)
      (λ c. refl) max_greatest greatest_turned o
      (form_holds n d hs (fst_small n ns small)) (form_holds n (d + 1) hs (fst_small n ns small)) (any_holds ns d hs (snd_small n ns small)) (any_holds ns (d + 1) hs (snd_small n ns small))
