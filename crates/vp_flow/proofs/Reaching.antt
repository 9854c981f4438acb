-- Which states reach which.
use Rattle.std.proofs.Common.{◌≡◌, ◌⊎◌, inl, inr, ◌↔◌, ℕ, zero, suc, ◌+◌, ◌≤◌, ◌<◌, Bool, true, false, cond, ◌&&◌, ◌||◌, ◌==◌, nat_lt, IsTrue, List, refl, sym, ap, ◌∙◌, subst, arith}
use Rattle.std.proofs.lemmas.Bool.{eqb-true, eqb-false}
use Rattle.std.proofs.lemmas.Bool.Decides.{nat_tests}
use Rattle.vp_terms.specs.declared.expr.Places.{Places}
use Rattle.vp_poly.specs.declared.mono.Term.{Term}
use Rattle.vp_flow.specs.Sides.{side, occurs, uses, Reaches}
use Rattle.vp_flow.specs.Order.{via, count_below, rank}
use Rattle.vp_flow.specs.Sides.Reaches.{Once, Again}

or_left : (a b : Bool) → a ≡ true → (a || b) ≡ true
or_left true b e = refl
or_left false b e = absurd (cc)

or_right : (a b : Bool) → b ≡ true → (a || b) ≡ true
or_right true b e = refl
or_right false b e = e

or_cases : (a b : Bool) → (a || b) ≡ true → (a ≡ true) ⊎ (b ≡ true)
or_cases true b e = inl refl
or_cases false b e = inr e

and_left : (a b : Bool) → (a && b) ≡ true → a ≡ true
and_left true b e = refl
and_left false b e = e

and_right : (a b : Bool) → (a && b) ≡ true → b ≡ true
and_right true b e = e
and_right false b e = absurd (cc)

and_both : (a b : Bool) → a ≡ true → b ≡ true → (a && b) ≡ true
and_both true b e f = f
and_both false b e f = absurd (cc)

into : (u : ℕ → ℕ → Bool) (k i : ℕ) → via u (suc k) i k ≡ true → via u k i k ≡ true
into u k i e = elim (or_cases (via u k i k) (via u k i k && via u k k k) e) [ inl a ↦ a | inr b ↦ and_left (via u k i k) (via u k k k) b ]

out_of : (u : ℕ → ℕ → Bool) (k j : ℕ) → via u (suc k) k j ≡ true → via u k k j ≡ true
out_of u k j e = elim (or_cases (via u k k j) (via u k k k && via u k k j) e) [ inl a ↦ a | inr b ↦ and_right (via u k k k) (via u k k j) b ]

past_k : (u : ℕ → ℕ → Bool) (k i j : ℕ) → via u k i k ≡ true → via u k k j ≡ true → via u (suc k) i j ≡ true
past_k u k i j a b = or_right (via u k i j) (via u k i k && via u k k j) (and_both (via u k i k) (via u k k j) a b)

-- two ways that meet below k are one
pub through : (u : ℕ → ℕ → Bool) (k i x j : ℕ) → x < k → via u k i x ≡ true → via u k x j ≡ true → via u k i j ≡ true
through u zero i x j lt p q = absurd (omega arith)
through u (suc k) i x j lt p q = case (x == k) refl (λ a b c less. through u k a b c less)
  where
    case : (v : Bool) → (x == k) ≡ v → ((a b c : ℕ) → b < k → via u k a b ≡ true → via u k b c ≡ true → via u k a c ≡ true) → via u (suc k) i j ≡ true
    case true t more =
        let e : x ≡ k = eqb-true x k t in
        past_k u k i j (into u k i (subst (λ (n : ℕ). via u (suc k) i n ≡ true) e p)) (out_of u k j (subst (λ (n : ℕ). via u (suc k) n j ≡ true) e q))
    case false t more =
        let ne = eqb-false x k t in
        let less : x < k = omega arith in
        elim (or_cases (via u k i x) (via u k i k && via u k k x) p) [
          | inl a ↦ elim (or_cases (via u k x j) (via u k x k && via u k k j) q) [
            | inl b ↦ or_left (via u k i j) (via u k i k && via u k k j) (more i x j less a b)
            | inr b ↦ past_k u k i j (more i x k less a (and_left (via u k x k) (via u k k j) b)) (and_right (via u k x k) (via u k k j) b)
          ]
          | inr a ↦ elim (or_cases (via u k x j) (via u k x k && via u k k j) q) [
            | inl b ↦ past_k u k i j (and_left (via u k i k) (via u k k x) a) (more k x j less (and_right (via u k i k) (via u k k x) a) b)
            | inr b ↦ past_k u k i j (and_left (via u k i k) (via u k k x) a) (and_right (via u k x k) (via u k k j) b)
          ]
        ]

directly : (u : ℕ → ℕ → Bool) (k i j : ℕ) → u i j ≡ true → via u k i j ≡ true
directly u zero i j e = e
directly u (suc k) i j e = or_left (via u k i j) (via u k i k && via u k k j) (directly u k i j e)

joined : (p : Places) (ss : List (List Term)) (i j k : ℕ) → Reaches p ss i j → Reaches p ss j k → Reaches p ss i k
joined p ss i j k (Once a b e) q = Again i j k e q
joined p ss i j k (Again a b c e rest) q = Again i b k e (joined p ss b j k rest q)

truth : (b : Bool) → IsTrue b → b ≡ true
truth b t = t

true_is : (b : Bool) → b ≡ true → IsTrue b
true_is b e = e

sound : (p : Places) (ss : List (List Term)) (k i j : ℕ) → via (uses p ss) k i j ≡ true → Reaches p ss i j
sound p ss zero i j e = Once i j (true_is (uses p ss i j) e)
sound p ss (suc k) i j e = elim (or_cases (via (uses p ss) k i j) (via (uses p ss) k i k && via (uses p ss) k k j) e) [
  | inl a ↦ sound p ss k i j a
  | inr b ↦ joined p ss i k j (sound p ss k i k (and_left (via (uses p ss) k i k) (via (uses p ss) k k j) b)) (sound p ss k k j (and_right (via (uses p ss) k i k) (via (uses p ss) k k j) b))
]

pub below : (p : Places) (ss : List (List Term)) (i j : ℕ) → uses p ss i j ≡ true → j < p.states
below p ss i j e = lt_of j p.states (and_left (nat_lt j p.states) (occurs p j (side ss i)) e)
  where
    lt_of : (x y : ℕ) → nat_lt x y ≡ true → x < y
    lt_of x y t = grind (arith, nat_tests)

complete : (p : Places) (ss : List (List Term)) (i j : ℕ) → Reaches p ss i j → via (uses p ss) p.states i j ≡ true
complete p ss i j (Once a b e) = directly (uses p ss) p.states i j (truth (uses p ss i j) e)
complete p ss i j (Again a x b e rest) =
    through (uses p ss) p.states i x j (below p ss i x (truth (uses p ss i x) e)) (directly (uses p ss) p.states i x (truth (uses p ss i x) e)) (complete p ss x j rest)

-- the states that reach each other are those that the steps through all states find
pub reaching : (p : Places) (ss : List (List Term)) (i j : ℕ) → (via (uses p ss) p.states i j ≡ true) ↔ Reaches p ss i j
reaching p ss i j = (sound p ss p.states i j, complete p ss i j)

-- ---- ranks fall along uses

more_count : (n : ℕ) (f g : ℕ → Bool) → ((j : ℕ) → j < n → f j ≡ true → g j ≡ true) → count_below n f ≤ count_below n g
more_count zero f g h = omega arith
more_count (suc n) f g h = let a = more_count n f g (λ j lt. h j (omega arith)) in let b = one (f n) (g n) (h n (omega arith)) in omega arith
  where
    one : (v w : Bool) → (v ≡ true → w ≡ true) → cond v 1 0 ≤ cond w 1 0
    one true true h = omega arith
    one true false h = absurd (let e = h refl in cc)
    one false w h = omega arith

less_count : (n x : ℕ) (f g : ℕ → Bool) → ((j : ℕ) → j < n → f j ≡ true → g j ≡ true) → x < n → f x ≡ false → g x ≡ true → count_below n f < count_below n g
less_count zero x f g h lt e d = absurd (omega arith)
less_count (suc n) x f g h lt e d = case (x == n) refl (λ less. less_count n x f g (λ j j_lt. h j (omega arith)) less e d)
  where
    one : (v w : Bool) → (v ≡ true → w ≡ true) → cond v 1 0 ≤ cond w 1 0
    one true true h = omega arith
    one true false h = absurd (let e = h refl in cc)
    one false w h = omega arith

    case : (v : Bool) → (x == n) ≡ v → (x < n → count_below n f < count_below n g) → count_below n f + cond (f n) 1 0 < count_below n g + cond (g n) 1 0
    case true t more =
        let s : x ≡ n = eqb-true x n t in
        let a = more_count n f g (λ j lt. h j (omega arith)) in
        let b : ◌≡◌ {A = ℕ} (cond (f n) 1 0) 0 = ap (λ (v : Bool). cond v 1 0) (sym (ap f s) ∙ e) in
        let c : ◌≡◌ {A = ℕ} (cond (g n) 1 0) 1 = ap (λ (v : Bool). cond v 1 0) (sym (ap g s) ∙ d) in
        omega arith
    case false t more =
        let ne = eqb-false x n t in
        let a = more (omega arith) in
        let b = one (f n) (g n) (h n (omega arith)) in
        omega arith

-- where no state reaches itself, a state reaches more states than one that it uses
pub rank-falls : (p : Places) (ss : List (List Term)) (i j : ℕ) → j < p.states → via (uses p ss) p.states j j ≡ false → uses p ss i j ≡ true → rank p ss j < rank p ss i
rank-falls p ss i j lt none e =
    less_count p.states j (via (uses p ss) p.states j) (via (uses p ss) p.states i)
    (λ x x_lt more. through (uses p ss) p.states i j x lt (directly (uses p ss) p.states i j e) more) lt none (directly (uses p ss) p.states i j e)

not_reached : (p : Places) (ss : List (List Term)) (j : ℕ) → (Reaches p ss j j → ⊥) → (v : Bool) → via (uses p ss) p.states j j ≡ v → v ≡ false
not_reached p ss j h true e = absurd (h (sound p ss p.states j j e))
not_reached p ss j h false e = refl

pub falling : (p : Places) (ss : List (List Term)) (i j : ℕ) → j < p.states → (Reaches p ss j j → ⊥) → IsTrue (uses p ss i j) → rank p ss j < rank p ss i
falling p ss i j lt h e = rank-falls p ss i j lt (not_reached p ss j h (via (uses p ss) p.states j j) refl) (truth (uses p ss i j) e)
