-- The cells that the code uses.
use Rattle.std.proofs.Common.{◌≡◌, ℕ, zero, suc, ◌+◌, ◌-◌, ◌%◌, ◌<◌, ◌≤◌, nat_le, nat_eq, List, [], ◌∷◌, ◌++◌, Bool, true, false, refl, arith}
use Rattle.std.specs.Prelude.{if◌then◌else◌}
use Rattle.vp_words.specs.declared.record.Counts.{Counts}
use Rattle.vp_isa.specs.declared.instr.Instr.{Instr}
use Rattle.vp_isa.specs.declared.instr.Instr.TheVariants.{Const}
use Rattle.vp_isa.specs.Valid.{cells_used}
use Rattle.vp_poly.specs.declared.mono.Term.{Term}
use Rattle.vp_logic.specs.declared.norm.Rel.{Rel}
use Rattle.vp_logic.specs.declared.norm.Rel.TheVariants.{Ge, Gt, Eq}
use Rattle.vp_logic.specs.Tree.{Tree, Trees, One, AllOf, AnyOf, None as Done, Then}
use Rattle.vp_layout.specs.declared.home.Home.{Home}
use Rattle.vp_gen.specs.PowerCode.{home, even_start, even_steps, even_code, power_code, first_code, times_code, factor_code}
use Rattle.vp_gen.specs.PolyCode.{has_factors, factors_code, front_code, scaled_code, term_code, added_code, sums_code, poly_code}
use Rattle.vp_layout.specs.Truths.{joint, need, needs}
use Rattle.vp_gen.specs.FormCode.{rel_code, form_code, all_code, any_code}
use Rattle.vp_layout.specs.Blocks.{copies, product_code}
use Rattle.vp_layout.specs.Cells.{HomeIsBelow, HomesAreBelow}
use Rattle.vp_layout.proofs.Kept.{below_more, are_below_more}
use Rattle.vp_gen.proofs.Formulas.{order, fst_small, snd_small}

-- the instructions use cells below n alone
abbrev pub Low : Counts → ℕ → List Instr → Type 0
Low c n [] = Unit {0}
Low c n (i ∷ is) = (cells_used c i ≤ n) × Low c n is

pub low-append : (c : Counts) (n : ℕ) (a b : List Instr) → Low c n a → Low c n b → Low c n (a ++ b)
low-append c n [] b l m = m
low-append c n (i ∷ a) b l m = (l.0, low-append c n a b l.1 m)

low-if : (c : Counts) (n : ℕ) (t : Bool) (x y : List Instr) → Low c n x → Low c n y → Low c n (if t then x else y)
low-if c n true x y l m = l
low-if c n false x y l m = m

low-product : (c : Counts) (n d t : ℕ) (v w : Home) → d + 1 < n → t < n → HomeIsBelow n v → HomeIsBelow n w → Low c n (product_code d t v w)
low-product c n d t v w hd ht bv bw =
    let a : v.lo < n = bv.lo in
    let b : v.hi < n = bv.hi in
    let e : w.lo < n = bw.lo in
    let f : w.hi < n = bw.hi in (
      omega arith,
      (
        omega arith,
        (
          omega arith,
          (
            omega arith,
            (
              omega arith,
              (
                omega arith,
                (
                  omega arith,
                  (omega arith, (omega arith, (omega arith, (omega arith, (omega arith, (omega arith, (omega arith, tt))))))),
                ),
              ),
            ),
          ),
        ),
      ),
    )

low-start : (c : Counts) (n d : ℕ) (v : Home) → 64 < d → d + 3 < n → HomeIsBelow d v → Low c n (even_start d v)
low-start c n d v above room b =
    let lo : v.lo < d = b.lo in
    let hi : v.hi < d = b.hi in
    (omega arith, (omega arith, (omega arith, (omega arith, (omega arith, (omega arith, (omega arith, tt)))))))

low-steps : (c : Counts) (n d k : ℕ) → d + 3 < n → Low c n (even_steps d k)
low-steps c n d zero room = tt
low-steps c n d (suc k) room = low-append c n (even_steps d k) _ (low-steps c n d k room) (omega arith, (omega arith, tt))

low-even : (c : Counts) (n d k : ℕ) (v : Home) → 64 < d → d + 3 < n → HomeIsBelow d v → Low c n (even_code d k v)
low-even c n d k v above room b = low-append c n (even_start d v) _ (low-start c n d v above room b) (low-steps c n d k room)

low-power : (c : Counts) (n d k : ℕ) (v : Home) → 64 < d → d + 5 < n → HomeIsBelow d v → Low c n (power_code d k v)
low-power c n d k v above room b =
    low-if c n (nat_eq (k % 2) 0) _ _ (low-even c n d (k - 2) v above (omega arith) b)
    (low-append c n (even_code (d + 2) (k - 3) v) _ (low-even c n (d + 2) (k - 3) v (omega arith) (omega arith) (below_more d (d + 2) v (omega arith) b))
    (low-product c n d (d + 4) v (record { lo = d + 2; hi = d + 3 }) (omega arith) (omega arith) (below_more d n v (omega arith) b) (record { lo = omega arith; hi = omega arith })))

low-first : (c : Counts) (n d k : ℕ) (v : Home) → 64 < d → d + 5 < n → HomeIsBelow d v → Low c n (first_code d k v)
low-first c n d k v above room b =
    let lo : v.lo < d = b.lo in
    let hi : v.hi < d = b.hi in
    low-if c n (nat_eq k 1) _ _ (omega arith, (omega arith, tt)) (low-power c n d k v above room b)

low-times : (c : Counts) (n d k : ℕ) (v : Home) → 64 < d → d + 7 < n → HomeIsBelow d v → Low c n (times_code d k v)
low-times c n d k v above room b =
    let here : HomeIsBelow n (home d) = record { lo = omega arith; hi = omega arith } in
    low-if c n (nat_eq k 1) _ _ (low-product c n (d + 4) (d + 6) (home d) v (omega arith) (omega arith) here (below_more d n v (omega arith) b))
    (low-append c n (power_code (d + 2) k v) _ (low-power c n (d + 2) k v (omega arith) (omega arith) (below_more d (d + 2) v (omega arith) b))
    (low-product c n (d + 4) (d + 6) (home d) (record { lo = d + 2; hi = d + 3 }) (omega arith) (omega arith) here (record { lo = omega arith; hi = omega arith })))

low-factor : (c : Counts) (n d k : ℕ) (v : Home) → 64 < d → d + 7 < n → HomeIsBelow d v → Low c n (factor_code d k v)
low-factor c n d k v above room b = low-append c n (times_code d k v) _ (low-times c n d k v above room b) (omega arith, (omega arith, tt))

low-factors : (c : Counts) (n d : ℕ) (ks : List ℕ) (hs : List Home) → 64 < d → d + 7 < n → HomesAreBelow d hs → Low c n (factors_code d ks hs)
low-factors c n d [] hs above room b = tt
low-factors c n d (k ∷ ks) [] above room b = tt
low-factors c n d (k ∷ ks) (h ∷ hs) above room b =
    low-append c n (if nat_eq k 0 then [] else factor_code d k h) _ (low-if c n (nat_eq k 0) [] (factor_code d k h) tt (low-factor c n d k h above room b.0))
    (low-factors c n d ks hs above room b.1)

low-front : (c : Counts) (n d : ℕ) (ks : List ℕ) (hs : List Home) → 64 < d → d + 7 < n → HomesAreBelow d hs → Low c n (front_code d ks hs)
low-front c n d [] hs above room b = tt
low-front c n d (k ∷ ks) [] above room b = tt
low-front c n d (k ∷ ks) (h ∷ hs) above room b =
    low-if c n (nat_eq k 0) (front_code d ks hs) (first_code d k h ++ factors_code d ks hs) (low-front c n d ks hs above room b.1)
    (low-append c n (first_code d k h) _ (low-first c n d k h above (omega arith) b.0) (low-factors c n d ks hs above room b.1))

low-term : (c : Counts) (n d : ℕ) (t : Term) (hs : List Home) → 64 < d → d + 9 < n → HomesAreBelow d hs → Low c n (term_code d t hs)
low-term c n d t hs above room b =
    low-if c n (has_factors t.mono.powers hs) (scaled_code d t hs) (Const d t.coef ∷ Const (d + 1) t.coef ∷ [])
    (low-append c n (front_code (d + 2) t.mono.powers hs ++ Const (d + 4) t.coef ∷ []) _
    (low-append c n (front_code (d + 2) t.mono.powers hs) _ (low-front c n (d + 2) t.mono.powers hs (omega arith) (omega arith) (are_below_more d (d + 2) hs (omega arith) b)) (omega arith, tt))
    (low-product c n d (d + 5) (record { lo = d + 2; hi = d + 3 }) (record { lo = d + 4; hi = d + 4 }) (omega arith) (omega arith) (record { lo = omega arith; hi = omega arith }) (record { lo = omega arith; hi = omega arith })))
    (omega arith, (omega arith, tt))

low-sums : (c : Counts) (n d : ℕ) (ts : List Term) (hs : List Home) → 64 < d → d + 11 < n → HomesAreBelow d hs → Low c n (sums_code d ts hs)
low-sums c n d [] hs above room b = tt
low-sums c n d (t ∷ ts) hs above room b =
    low-append c n (added_code d t hs) _
    (low-append c n (term_code (d + 2) t hs) _ (low-term c n (d + 2) t hs (omega arith) (omega arith) (are_below_more d (d + 2) hs (omega arith) b)) (omega arith, (omega arith, tt)))
    (low-sums c n d ts hs above room b)

pub low-poly : (c : Counts) (n d : ℕ) (ts : List Term) (hs : List Home) → 64 < d → d + 11 < n → HomesAreBelow d hs → Low c n (poly_code d ts hs)
low-poly c n d [] hs above room b = (omega arith, (omega arith, tt))
low-poly c n d (t ∷ ts) hs above room b = low-append c n (term_code d t hs) _ (low-term c n d t hs above (omega arith) b) (low-sums c n d ts hs above room b)

low-rel : (c : Counts) (n d : ℕ) (rel : Rel) → 67 < d → d + 3 < n → Low c n (rel_code d rel)
low-rel c n d Ge above room = (omega arith, (omega arith, (omega arith, (omega arith, (omega arith, (omega arith, tt))))))
low-rel c n d Gt above room = (omega arith, (omega arith, (omega arith, (omega arith, (omega arith, tt)))))
low-rel c n d Eq above room =
    (omega arith, (omega arith, (omega arith, (omega arith, (omega arith, (omega arith, (omega arith, (omega arith, (omega arith, (omega arith, tt))))))))))

-- two forms in either order
low-pair : (c : Counts) (n : ℕ) (t : Bool) (i : Instr) (d a s m : ℕ) (x x' y y' : List Instr) → d + (m + 12) < n → cells_used c i ≤ n
    → (t ≡ true → (a ≤ m) × (s + 1 ≤ m)) × (t ≡ false → (s ≤ m) × (a + 1 ≤ m))
    → (d + (a + 12) < n → Low c n x) → (d + 1 + (a + 12) < n → Low c n x') → (d + (s + 12) < n → Low c n y) → (d + 1 + (s + 12) < n → Low c n y')
    → Low c n ((if t then (x ++ y') else (y ++ x')) ++ i ∷ [])
low-pair c n true i d a s m x x' y y' room hi o lx lx' ly ly' =
    let le = o.0 refl in
    let le0 : a ≤ m = le.0 in
    let le1 : s + 1 ≤ m = le.1 in
    low-append c n (x ++ y') _ (low-append c n x y' (lx (omega arith)) (ly' (omega arith))) (hi, tt)
low-pair c n false i d a s m x x' y y' room hi o lx lx' ly ly' =
    let le = o.1 refl in
    let le0 : s ≤ m = le.0 in
    let le1 : a + 1 ≤ m = le.1 in
    low-append c n (y ++ x') _ (low-append c n y x' (ly (omega arith)) (lx' (omega arith))) (hi, tt)

mutual
  pub low-form : (t : Tree) (c : Counts) (n d : ℕ) (hs : List Home) → need t < 65536 → 67 < d → HomesAreBelow d hs → d + (need t + 12) < n → Low c n (form_code d t hs)
  low-form (One atom) c n d hs small above b room =
      low-append c n (poly_code (d + 1) atom.poly hs) _ (low-poly c n (d + 1) atom.poly hs (omega arith) (omega arith) (are_below_more d (d + 1) hs (omega arith) b))
      (low-rel c n d atom.rel above (omega arith))
  low-form (AllOf ns) c n d hs small above b room = low-all ns c n d hs small above b room
  low-form (AnyOf ns) c n d hs small above b room = low-any ns c n d hs small above b room

  low-all : (ns : Trees) (c : Counts) (n d : ℕ) (hs : List Home) → needs ns < 65536 → 67 < d → HomesAreBelow d hs → d + (needs ns + 12) < n → Low c n (all_code d ns hs)
  low-all Done c n d hs small above b room = (omega arith, tt)
  low-all (Then t ns) c n d hs small above b room =
      let o = order (need t) (needs ns) (joint (need t) (needs ns)) (omega arith) small in
      let b' = are_below_more d (d + 1) hs (omega arith) b in
      low-pair c n (nat_le (needs ns) (need t)) _ d (need t) (needs ns) (joint (need t) (needs ns)) (form_code d t hs) (form_code (d + 1) t hs) (all_code d ns hs) (all_code (d + 1) ns hs) room (omega (arith, room)) o
      (low-form t c n d hs (fst_small t ns small) above b) (low-form t c n (d + 1) hs (fst_small t ns small) (omega arith) b')
      (low-all ns c n d hs (snd_small t ns small) above b) (low-all ns c n (d + 1) hs (snd_small t ns small) (omega arith) b')

  low-any : (ns : Trees) (c : Counts) (n d : ℕ) (hs : List Home) → needs ns < 65536 → 67 < d → HomesAreBelow d hs → d + (needs ns + 12) < n → Low c n (any_code d ns hs)
  low-any Done c n d hs small above b room = (omega arith, tt)
  low-any (Then t ns) c n d hs small above b room =
      let o = order (need t) (needs ns) (joint (need t) (needs ns)) (omega arith) small in
      let b' = are_below_more d (d + 1) hs (omega arith) b in
      low-pair c n (nat_le (needs ns) (need t)) _ d (need t) (needs ns) (joint (need t) (needs ns)) (form_code d t hs) (form_code (d + 1) t hs) (any_code d ns hs) (any_code (d + 1) ns hs) room (omega (arith, room)) o
      (low-form t c n d hs (fst_small t ns small) above b) (low-form t c n (d + 1) hs (fst_small t ns small) (omega arith) b')
      (low-any ns c n d hs (snd_small t ns small) above b) (low-any ns c n (d + 1) hs (snd_small t ns small) (omega arith) b')

pub low-copies : (c : Counts) (n to from k : ℕ) → to + k ≤ n → from + k ≤ n → Low c n (copies to from k)
low-copies c n to from zero h g = tt
low-copies c n to from (suc k) h g = (omega arith, low-copies c n (to + 1) (from + 1) k (omega arith) (omega arith))
