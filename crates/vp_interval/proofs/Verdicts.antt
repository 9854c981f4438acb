-- What the truth of a normal form tells, and the first truth that isn't Yes.
use Rattle.std.proofs.Common.{◌≡◌, ◌≢◌, refl, sym, ap, ◌∙◌, subst, Bool, true, false, ◌&&◌, ◌||◌, if◌then◌else◌, ℕ, zero, suc, ◌+◌, ◌-◌, ◌*◌, ◌<◌, ◌≤◌, List, [], ◌∷◌, length, get_or, drop, map, All, Option, None, Some, IsNone, IsTrue, arith, ℤ, pos, negsuc, int_le, int_lt, ◌*ℤ◌, ◌≤ℤ◌, ◌<ℤ◌, ◌↔◌}
use Rattle.std.proofs.lemmas.Int.{ints}
use Rattle.std.proofs.lemmas.List.Elements.{All-nil, All-cons, All-head, All-tail}
use Rattle.std.proofs.lemmas.List.{length-map, drop_all}
use Rattle.std.proofs.Math.ListN.{get_or-map}
use Rattle.std.proofs.Math.Seq.{drop-cons}
use Rattle.std.specs.List.{slice_get}
use Rattle.std.specs.Ordering.{int_eq}
use Rattle.vp_words.specs.Number.{IsWord, IsFinite, inf, minus_inf}
use Rattle.vp_words.proofs.Pairs.{pair_parts}
use Rattle.vp_words.proofs.Products.{mul_pos_le}
use Rattle.vp_terms.specs.Rational.{Rational}
use Rattle.vp_poly.specs.Value.{Point, value_at}
use Rattle.vp_logic.specs.declared.norm.Rel.{Rel}
use Rattle.vp_logic.specs.declared.norm.Rel.TheVariants.{Ge, Gt, Eq}
use Rattle.vp_logic.specs.declared.norm.Norm.{Norm}
use Rattle.vp_logic.specs.Tree.{tree, Tree, Trees, One, AllOf, AnyOf, None as Done, Then}
use Rattle.vp_logic.specs.Truth.{rel_holds, tree_holds, all_hold, any_holds, parts_hold}
use Rattle.vp_interval.specs.declared.truth.Truth.{Truth}
use Rattle.vp_interval.specs.declared.truth.Truth.TheVariants.{No, Maybe, Yes}
use Rattle.vp_interval.specs.Formula.{FormFits, MembersFit, PartsFit, of_relation, truth, truth_of_all, truth_of_any, truths, first_from, IsFirst}
use Rattle.vp_interval.specs.Polynomial.{interval_of}
use Rattle.vp_interval.specs.Represents.{Represents, RepresentEach, AreValid}
use Rattle.vp_interval.specs.Rounding.{IsValid, Ends}
use Rattle.vp_interval.specs.Truth.{Tells, least, greatest}
use Rattle.vp_interval.specs.declared.interval.Interval.{Interval}
use Rattle.vp_interval.specs.Interval.{ends}
use Rattle.vp_interval.proofs.Terms.{polynomial_holds, valid_ends}

-- the sign of a number over d that stands between the ends
record Between (a b n : ℤ) (d : ℕ) : Type 0 where
  some : 0 < d
  low : pos 0 ≤ℤ a → (a *ℤ pos d) ≤ℤ n
  high : b ≤ℤ pos 0 → n ≤ℤ (b *ℤ pos d)

between : (v : Ends) (q : Rational) → IsValid v.lo v.hi → Represents v q → Between v.lo v.hi q.num q.den
between v q h k = record {
  some = q.positive;
  low = λ p. k.low (finite_above v.lo h.low_word p parts.1);
  high = λ p. k.high (finite_below v.hi h.high_word p parts.2);
}
  where
    parts : (v.lo ≤ℤ v.hi) × (v.lo ≢ inf) × (v.hi ≢ minus_inf)
    parts = pair_parts v.lo v.hi h.enclosed

    finite_above : (a : ℤ) → IsWord a → pos 0 ≤ℤ a → a ≢ inf → IsFinite a
    finite_above a w p n = (omega (arith, ints), omega (arith, ints))

    finite_below : (b : ℤ) → IsWord b → b ≤ℤ pos 0 → b ≢ minus_inf → IsFinite b
    finite_below b w p n = (omega (arith, ints), omega (arith, ints))

not_negative : (a b n : ℤ) (d : ℕ) → Between a b n d → pos 0 ≤ℤ a → pos 0 ≤ℤ n
not_negative a b n d h p = let l = h.low p in omega (arith, ints, mul_pos_le (pos 0) a d p)

positive : (a b n : ℤ) (d : ℕ) → Between a b n d → pos 0 <ℤ a → pos 0 <ℤ n
positive a b n d h p = let s = h.some in let l = h.low (omega (arith, ints)) in omega (arith, ints, mul_pos_le (pos 1) a d (omega (arith, ints)))

not_positive : (a b n : ℤ) (d : ℕ) → Between a b n d → b ≤ℤ pos 0 → n ≤ℤ pos 0
not_positive a b n d h p = let l = h.high p in omega (arith, ints, mul_pos_le b (pos 0) d p)

negative : (a b n : ℤ) (d : ℕ) → Between a b n d → b <ℤ pos 0 → n <ℤ pos 0
negative a b n d h p = let s = h.some in let l = h.high (omega (arith, ints)) in omega (arith, ints, mul_pos_le b (negsuc 0) d (omega (arith, ints)))

tells_at_least : (a b n : ℤ) (d : ℕ) → Between a b n d → Tells (if int_le (pos 0) a then Yes else (if int_lt b (pos 0) then No else Maybe)) (int_le (pos (0 * d)) (n *ℤ pos 1))
tells_at_least a b n d h = by_tests (int_le (pos 0) a) (int_lt b (pos 0)) refl refl
  where
    by_tests : (p q : Bool) → int_le (pos 0) a ≡ p → int_lt b (pos 0) ≡ q → Tells (if p then Yes else (if q then No else Maybe)) (int_le (pos (0 * d)) (n *ℤ pos 1))
    by_tests true q e f = let s = not_negative a b n d h (grind (arith, ints)) in grind (arith, ints)
    by_tests false true e f = let s = negative a b n d h (grind (arith, ints)) in grind (arith, ints)
    by_tests false false e f = tt

tells_above : (a b n : ℤ) (d : ℕ) → Between a b n d → Tells (if int_lt (pos 0) a then Yes else (if int_le b (pos 0) then No else Maybe)) (int_lt (pos (0 * d)) (n *ℤ pos 1))
tells_above a b n d h = by_tests (int_lt (pos 0) a) (int_le b (pos 0)) refl refl
  where
    by_tests : (p q : Bool) → int_lt (pos 0) a ≡ p → int_le b (pos 0) ≡ q → Tells (if p then Yes else (if q then No else Maybe)) (int_lt (pos (0 * d)) (n *ℤ pos 1))
    by_tests true q e f = let s = positive a b n d h (grind (arith, ints)) in grind (arith, ints)
    by_tests false true e f = let s = not_positive a b n d h (grind (arith, ints)) in grind (arith, ints)
    by_tests false false e f = tt

tells_equal : (a b n : ℤ) (d : ℕ) → Between a b n d → Tells (if int_eq a (pos 0) && int_eq b (pos 0) then Yes else (if int_lt (pos 0) a || int_lt b (pos 0) then No else Maybe)) (int_eq (n *ℤ pos 1) (pos (0 * d)))
tells_equal a b n d h = by_tests (int_eq a (pos 0)) (int_eq b (pos 0)) (int_lt (pos 0) a) (int_lt b (pos 0)) refl refl refl refl
  where
    apart_above : int_lt (pos 0) a ≡ true → int_eq (n *ℤ pos 1) (pos (0 * d)) ≡ false
    apart_above e = let s = positive a b n d h (grind (arith, ints)) in grind (arith, ints)

    apart_below : int_lt b (pos 0) ≡ true → int_eq (n *ℤ pos 1) (pos (0 * d)) ≡ false
    apart_below e = let s = negative a b n d h (grind (arith, ints)) in grind (arith, ints)

    strict : (p q : Bool) → int_lt (pos 0) a ≡ p → int_lt b (pos 0) ≡ q → Tells (if p || q then No else Maybe) (int_eq (n *ℤ pos 1) (pos (0 * d)))
    strict true q e f = apart_above e
    strict false true e f = apart_below f
    strict false false e f = tt

    by_tests : (p q r s : Bool) → int_eq a (pos 0) ≡ p → int_eq b (pos 0) ≡ q → int_lt (pos 0) a ≡ r → int_lt b (pos 0) ≡ s → Tells (if p && q then Yes else (if r || s then No else Maybe)) (int_eq (n *ℤ pos 1) (pos (0 * d)))
    by_tests true true r s e f g i = let low = not_negative a b n d h (grind (arith, ints)) in let high = not_positive a b n d h (grind (arith, ints)) in grind (arith, ints)
    by_tests true false r s e f g i = strict r s g i
    by_tests false q r s e f g i = strict r s g i

relation_tells : (r : Rel) (v : Ends) (q : Rational) → IsValid v.lo v.hi → Represents v q → Tells (of_relation r v) (rel_holds r q)
relation_tells Ge v q h k = tells_at_least v.lo v.hi q.num q.den (between v q h k)
relation_tells Gt v q h k = tells_above v.lo v.hi q.num q.den (between v q h k)
relation_tells Eq v q h k = tells_equal v.lo v.hi q.num q.den (between v q h k)

-- lists of truths
both_tell : (s t : Truth) (a b : Bool) → Tells s a → Tells t b → Tells (least s t) (a && b)
both_tell No t a b h k = rw h refl
both_tell Maybe No a b h k = rw k (false_right a)
  where
    false_right : (a : Bool) → (a && false) ≡ false
    false_right true = refl
    false_right false = refl
both_tell Maybe Maybe a b h k = tt
both_tell Maybe Yes a b h k = tt
both_tell Yes t a b h k = rw h k

either_tells : (s t : Truth) (a b : Bool) → Tells s a → Tells t b → Tells (greatest s t) (a || b)
either_tells No t a b h k = rw h k
either_tells Maybe No a b h k = tt
either_tells Maybe Maybe a b h k = tt
either_tells Maybe Yes a b h k = rw k (true_right a)
  where
    true_right : (a : Bool) → (a || true) ≡ true
    true_right true = refl
    true_right false = refl
either_tells Yes t a b h k = rw h refl

mutual
  pub truth_tells : (bs : List Ends) (n : Tree) (x : Point) → AreValid bs → RepresentEach bs x → FormFits (length bs) n → Tells (truth bs n) (tree_holds n x)
  truth_tells bs (One atom) x a r f =
      let h = polynomial_holds bs atom.poly x a r f.places f.small in
      relation_tells atom.rel (interval_of bs atom.poly) (value_at atom.poly x) h.valid h.represents
  truth_tells bs (AllOf ns) x a r f = all_tell bs ns x a r f
  truth_tells bs (AnyOf ns) x a r f = any_tells bs ns x a r f

  all_tell : (bs : List Ends) (ns : Trees) (x : Point) → AreValid bs → RepresentEach bs x → MembersFit (length bs) ns → Tells (truth_of_all bs ns) (all_hold ns x)
  all_tell bs Done x a r f = refl
  all_tell bs (Then n ns) x a r f = both_tell (truth bs n) (truth_of_all bs ns) (tree_holds n x) (all_hold ns x) (truth_tells bs n x a r f.0) (all_tell bs ns x a r f.1)

  any_tells : (bs : List Ends) (ns : Trees) (x : Point) → AreValid bs → RepresentEach bs x → MembersFit (length bs) ns → Tells (truth_of_any bs ns) (any_holds ns x)
  any_tells bs Done x a r f = refl
  any_tells bs (Then n ns) x a r f = either_tells (truth bs n) (truth_of_any bs ns) (tree_holds n x) (any_holds ns x) (truth_tells bs n x a r f.0) (any_tells bs ns x a r f.1)

-- the first that isn't Yes
is_yes : Truth → Type 0
is_yes t = t ≡ Yes

pub none_first : (k : ℕ) (ts : List Truth) → first_from k ts ≡ None → All (λ t. t ≡ Yes) ts
unfolding is_yes
none_first k [] e = All-nil is_yes
none_first k (No ∷ ts) e = absurd (cc)
none_first k (Maybe ∷ ts) e = absurd (cc)
none_first k (Yes ∷ ts) e = All-cons is_yes Yes ts refl (none_first (suc k) ts e)

pub first_none : (k : ℕ) (ts : List Truth) → All (λ t. t ≡ Yes) ts → first_from k ts ≡ None
unfolding is_yes
first_none k [] h = refl
first_none k (No ∷ ts) h = let e = All-head is_yes No ts h in absurd (cc)
first_none k (Maybe ∷ ts) h = let e = All-head is_yes Maybe ts h in absurd (cc)
first_none k (Yes ∷ ts) h = first_none (suc k) ts (All-tail is_yes Yes ts h)

record IsFirstFrom (k : ℕ) (ts : List Truth) (n : ℕ) (t : Truth) : Type 0 where
  some : k ≤ n
  at : slice_get ts (n - k) ≡ Some t
  not_yes : t ≢ Yes
  before : (i : ℕ) → i + k < n → slice_get ts i ≡ Some Yes

first_here : (k n : ℕ) (s t : Truth) (ts : List Truth) → s ≢ Yes → k ≡ n → s ≡ t → IsFirstFrom k (s ∷ ts) n t
first_here k n s t ts h e f = record { some = omega arith; at = let z : n - k ≡ 0 = omega arith in rw z (ap Some f); not_yes = λ g. h (f ∙ g); before = λ i l. absurd (omega arith) }

first_later : (k n : ℕ) (t : Truth) (ts : List Truth) → IsFirstFrom (suc k) ts n t → IsFirstFrom k (Yes ∷ ts) n t
first_later k n t ts h = record {
  some = let s = h.some in omega arith;
  at = let s = h.some in let z : n - k ≡ suc (n - suc k) = omega arith in rw z h.at;
  not_yes = h.not_yes;
  before = earlier;
}
  where
    earlier : (i : ℕ) → i + k < n → slice_get (Yes ∷ ts) i ≡ Some Yes
    earlier zero l = refl
    earlier (suc i) l = h.before i (omega arith)

some_first : (k : ℕ) (ts : List Truth) (r : ℕ × Truth) → first_from k ts ≡ Some r → IsFirstFrom k ts r.0 r.1
some_first k [] r e = absurd (cc)
some_first k (No ∷ ts) r e = first_here k r.0 No r.1 ts (λ g. absurd (cc)) (ap (λ o. number_of o k) e) (ap (λ o. truth_in o No) e)
  where
    number_of : Option (ℕ × Truth) → ℕ → ℕ
    number_of None d = d
    number_of (Some (k, t)) d = k

    truth_in : Option (ℕ × Truth) → Truth → Truth
    truth_in None d = d
    truth_in (Some (k, t)) d = t
some_first k (Maybe ∷ ts) r e = first_here k r.0 Maybe r.1 ts (λ g. absurd (cc)) (let h : (k, Maybe) ≡ r = cc in ap (λ (p : ℕ × Truth). p.0) h) (let h : (k, Maybe) ≡ r = cc in ap (λ (p : ℕ × Truth). p.1) h)
some_first k (Yes ∷ ts) r e = first_later k r.0 r.1 ts (some_first (suc k) ts r e)

-- the answer of the first, in its three ways
pub none_exactly : (o : Option (ℕ × Truth)) (ts : List Truth) → o ≡ first_from 1 ts → IsNone o ↔ All (λ t. t ≡ Yes) ts
none_exactly None ts e = (λ _. none_first 1 ts (sym e), λ _. refl)
none_exactly (Some r) ts e = (λ n. absurd (cc), λ a. let f = first_none 1 ts a in absurd (cc))

pub some_exactly : (k : ℕ) (t : Truth) (ts : List Truth) → Some (k, t) ≡ first_from 1 ts → IsFirst ts k t
some_exactly k t ts e = let h = some_first 1 ts (k, t) (sym e) in record { some = h.some; at = h.at; not_yes = h.not_yes; before = h.before }

-- where each part is Yes, each holds
part_holds : (bs : List Ends) (n : Tree) (x : Point) → AreValid bs → RepresentEach bs x → FormFits (length bs) n → truth bs n ≡ Yes → IsTrue (tree_holds n x)
part_holds bs n x a r f e = rw e at (truth_tells bs n x a r f)

pub all_parts_hold : (bs : List Ends) (ns : List Tree) (x : Point) → AreValid bs → RepresentEach bs x → PartsFit (length bs) ns → All (λ t. t ≡ Yes) (truths bs ns) → IsTrue (parts_hold ns x)
unfolding is_yes
all_parts_hold bs [] x a r f y = refl
all_parts_hold bs (n ∷ ns) x a r f y =
    let first = part_holds bs n x a r f.0 (All-head is_yes (truth bs n) (truths bs ns) y) in
    rw first (all_parts_hold bs ns x a r f.1 (All-tail is_yes (truth bs n) (truths bs ns) y))

-- one part more
first_step : (k : ℕ) (t : Truth) (ts : List Truth) → t ≡ Yes → first_from k (t ∷ ts) ≡ first_from (suc k) ts
first_step k t ts e = rw e refl

first_stop : (k : ℕ) (t : Truth) (ts : List Truth) → t ≢ Yes → first_from k (t ∷ ts) ≡ Some (k, t)
first_stop k No ts h = refl
first_stop k Maybe ts h = refl
first_stop k Yes ts h = absurd (h refl)

-- the part at an index
part_at : (ps : List Norm) (i : ℕ) (n : Norm) → n ≡ get_or ps i n → get_or (map tree ps) i (tree n) ≡ tree n
part_at ps i n e = get_or-map tree ps i n ∙ ap tree (sym e)

inside : (ps : List Norm) (i : ℕ) → i < length ps → i < length (map tree ps)
inside ps i h = rw length-map h

next_truth : (bs : List Ends) (ps : List Norm) (i j : ℕ) (n : Norm) (t : Truth) → j ≡ i + 1 → n ≡ get_or ps i n → i < length ps → t ≡ truth bs (tree n) → truths bs (drop i (map tree ps)) ≡ t ∷ truths bs (drop j (map tree ps))
next_truth bs ps i j n t e f h g =
    let m : j ≡ suc i = omega arith in
    let here = inside ps i h in
    rw (m, drop-cons (map tree ps) i (tree n) here, part_at ps i n f, g) refl

pub found : (bs : List Ends) (ps : List Norm) (i j : ℕ) (n : Norm) (t : Truth) (all : List Truth) → j ≡ i + 1 → n ≡ get_or ps i n → i < length ps → t ≡ truth bs (tree n) → t ≢ Yes → first_from j (truths bs (drop i (map tree ps))) ≡ first_from 1 all → Some (j, t) ≡ first_from 1 all
found bs ps i j n t all e f h g y k = sym (ap (first_from j) (next_truth bs ps i j n t e f h g) ∙ first_stop j t (truths bs (drop j (map tree ps))) y) ∙ k

pub passed : (bs : List Ends) (ps : List Norm) (i j : ℕ) (n : Norm) (t : Truth) (all : List Truth) → j ≡ i + 1 → n ≡ get_or ps i n → i < length ps → t ≡ truth bs (tree n) → t ≡ Yes → first_from j (truths bs (drop i (map tree ps))) ≡ first_from 1 all → first_from (j + 1) (truths bs (drop j (map tree ps))) ≡ first_from 1 all
passed bs ps i j n t all e f h g y k =
    let m : j + 1 ≡ suc j = omega arith in
    rw m (sym (ap (first_from j) (next_truth bs ps i j n t e f h g) ∙ first_step j t (truths bs (drop j (map tree ps))) y) ∙ k)

pub none_left : (bs : List Ends) (ps : List Norm) (i j : ℕ) (all : List Truth) → length ps ≤ i → first_from j (truths bs (drop i (map tree ps))) ≡ first_from 1 all → None ≡ first_from 1 all
none_left bs ps i j all h k = sym (ap (λ ns. first_from j (truths bs ns)) (drop_all i (map tree ps) (rw length-map h))) ∙ k

pub all_hold_in : (boxes : List Interval) (ns : List Tree) (x : Point) → RepresentEach (map ends boxes) x → PartsFit (length boxes) ns → None ≡ first_from 1 (truths (map ends boxes) ns) → IsTrue (parts_hold ns x)
all_hold_in boxes ns x r f e =
    all_parts_hold (map ends boxes) ns x (valid_ends boxes) r (subst (λ k. PartsFit k ns) (sym (length-map boxes ends)) f) (none_first 1 (truths (map ends boxes) ns) (sym e))
