-- What stands for the variables where states are replaced.
use Rattle.std.proofs.Common.{◌≡◌, ℕ, zero, suc, ◌+◌, ◌-◌, ◌<◌, ◌≤◌, Bool, true, false, not, ◌&&◌, IsTrue, pos, List, [], ◌∷◌, ◌++◌, length, slice_get, take, drop, refl, sym, ap, ap₂, ◌∙◌, subst, arith, All, nat_lt}
use Rattle.std.specs.Prelude.{Option, Some, None, IfSome, unwrap_or}
use Rattle.std.proofs.lemmas.Option.{slice_get-get_or, slice_get-map}
use Rattle.std.proofs.lemmas.List.{length-append}
use Rattle.std.proofs.lemmas.List.Elements.{All-append, All-drop, All-take}
use Rattle.std.proofs.lemmas.List.FromFn.{get_or-range_with_len, length-map-range_with_len, length-range_with_len}
use Rattle.std.proofs.lemmas.Bool.Decides.{nat_tests}
use Rattle.std.specs.List.{range_with_len}
use Rattle.std.specs.Option.{option_map}
use Rattle.vp_words.specs.declared.record.Counts.{Counts}
use Rattle.vp_terms.specs.Control.{Values}
use Rattle.vp_terms.specs.Meaning.{Assignment}
use Rattle.vp_terms.specs.Places.{place, place_count, has_variable}
use Rattle.vp_terms.specs.declared.expr.Places.{Places}
use Rattle.vp_terms.specs.declared.expr.Var.{Var}
use Rattle.vp_terms.specs.declared.expr.Var.TheVariants.{Param, State, Control, NextState, NextControl, Tau}
use Rattle.vp_terms.specs.Rational.{Rational, Equals, whole}
use Rattle.vp_terms.specs.declared.package.Package.{Package}
use Rattle.vp_terms.proofs.RationalLaws.{Equals-product, Equals-refl, Equals-sym, chain}
use Rattle.vp_terms.proofs.Spots.{place_is_below}
use Rattle.vp_terms.proofs.Standing.{below}
use Rattle.vp_poly.specs.declared.scaled.Scaled.{Scaled}
use Rattle.vp_poly.specs.Canonical.{IsEntry, IsEnvironment, StandsAt, StandsWithin, itself, own_weights, selves, variables, weights_of}
use Rattle.vp_poly.specs.Coefficient.{Coefficients}
use Rattle.vp_poly.specs.Places.{HaveOnly, places_for}
use Rattle.vp_poly.specs.Points.{IsAt}
use Rattle.vp_poly.specs.Times.{HasCoefficients, IsTimes}
use Rattle.vp_poly.specs.Value.{Point, value_at}
use Rattle.vp_poly.specs.Weights.{Weights, weight_at, weight_one, weight_zero}
use Rattle.vp_flow.specs.Outcome.{AreFlows}
use Rattle.vp_flow.specs.Sides.{model}
use Rattle.vp_flow.specs.Solution.{with_flows}
use Rattle.vp_monitor.specs.Plant.{flow_coefficients, flow_weights}
use Rattle.vp_monitor.specs.Standing.{AreSelves, Flowing, flowed, is_state, with_states}

-- ---- lookups in joined lists

slice_get-left : {A : Type 0} (xs ys : List A) (i : ℕ) → i < length xs → slice_get (xs ++ ys) i ≡ slice_get xs i
slice_get-left [] ys i h = absurd (omega arith)
slice_get-left (x ∷ xs) ys zero h = refl
slice_get-left (x ∷ xs) ys (suc i) h = slice_get-left xs ys i (omega arith)

slice_get-right : {A : Type 0} (xs ys : List A) (i j : ℕ) → j ≡ length xs + i → slice_get (xs ++ ys) j ≡ slice_get ys i
slice_get-right [] ys i j h = ap (slice_get ys) (let e : j ≡ i = omega arith in e)
slice_get-right (x ∷ xs) ys i zero h = absurd (omega arith)
slice_get-right (x ∷ xs) ys i (suc j) h = slice_get-right xs ys i j (omega arith)

pub slice_get-take : {A : Type 0} (n : ℕ) (xs : List A) (i : ℕ) → i < n → slice_get (take n xs) i ≡ slice_get xs i
slice_get-take zero xs i h = absurd (omega arith)
slice_get-take (suc n) [] i h = refl
slice_get-take (suc n) (x ∷ xs) zero h = refl
slice_get-take (suc n) (x ∷ xs) (suc i) h = slice_get-take n xs i (omega arith)

pub slice_get-drop : {A : Type 0} (n : ℕ) (xs : List A) (i j : ℕ) → j ≡ n + i → slice_get (drop n xs) i ≡ slice_get xs j
slice_get-drop zero xs i j h = ap (slice_get xs) (let e : i ≡ j = omega arith in e)
slice_get-drop (suc n) [] i j h = refl
slice_get-drop (suc n) (x ∷ xs) i zero h = absurd (omega arith)
slice_get-drop (suc n) (x ∷ xs) i (suc j) h = slice_get-drop n xs i j (omega arith)

pub length-front : {A : Type 0} (n : ℕ) (xs : List A) → n ≤ length xs → length (take n xs) ≡ n
length-front zero xs h = refl
length-front (suc n) [] h = absurd (omega arith)
length-front (suc n) (x ∷ xs) h = ap suc (length-front n xs (omega arith))

length-back : {A : Type 0} (n : ℕ) (xs : List A) → length (drop n xs) ≡ length xs - n
length-back zero xs = omega arith
length-back (suc n) [] = omega arith
length-back (suc n) (x ∷ xs) = length-back n xs ∙ (let e : length xs - n ≡ suc (length xs) - suc n = omega arith in e)

-- ---- what stands for a variable

-- the states' own list where the variable is a state, and else `env`
pub chosen : Places → List Scaled → List Scaled → Var → Option Scaled
chosen p env states (Param i) = slice_get env (place p (Param i))
chosen p env states (State i) = slice_get states i
chosen p env states (Control i) = slice_get env (place p (Control i))
chosen p env states (NextState i) = slice_get env (place p (NextState i))
chosen p env states (NextControl i) = slice_get env (place p (NextControl i))
chosen p env states Tau = slice_get env (place p Tau)

module _ (p : Places) (env states : List Scaled) (size : length env ≡ place_count p) (count : length states ≡ p.states) where
  front : length (take p.params env) ≡ p.params
  front = length-front p.params env (omega (arith, size))

  before : length (take p.params env ++ states) ≡ p.params + p.states
  before = length-append (take p.params env) states ∙ ap₂ (λ (m n : ℕ). m + n) front count

  behind : (k : ℕ) → p.params + p.states ≤ k → slice_get (with_states p env states) k ≡ slice_get env k
  behind k h =
      slice_get-right (take p.params env ++ states) (drop (p.params + p.states) env) (k - (p.params + p.states)) k (let b = before in omega arith)
      ∙ slice_get-drop (p.params + p.states) env (k - (p.params + p.states)) k (omega arith)

  pub found : (v : Var) → IsTrue (has_variable p v) → slice_get (with_states p env states) (place p v) ≡ chosen p env states v
  unfolding chosen
  found (Param i) h =
      let b = below i p.params h in
      slice_get-left (take p.params env ++ states) (drop (p.params + p.states) env) i (let e = before in omega arith)
      ∙ slice_get-left (take p.params env) states i (let f = front in omega arith) ∙ slice_get-take p.params env i b
  found (State i) h =
      let b = below i p.states h in
      slice_get-left (take p.params env ++ states) (drop (p.params + p.states) env) (p.params + i) (let e = before in omega arith)
      ∙ slice_get-right (take p.params env) states i (p.params + i) (let f = front in omega arith)
  found (Control i) h = behind (place p (Control i)) (omega arith)
  found (NextState i) h = behind (place p (NextState i)) (omega arith)
  found (NextControl i) h = behind (place p (NextControl i)) (omega arith)
  found Tau h = behind (place p Tau) (omega arith)

  pub elsewhere : (v : Var) → IsTrue (has_variable p v) → is_state v ≡ false → slice_get (with_states p env states) (place p v) ≡ slice_get env (place p v)
  unfolding chosen
  elsewhere (Param i) h n = found (Param i) h
  elsewhere (State i) h n = absurd (cc)
  elsewhere (Control i) h n = found (Control i) h
  elsewhere (NextState i) h n = found (NextState i) h
  elsewhere (NextControl i) h n = found (NextControl i) h
  elsewhere Tau h n = found Tau h

  -- a property of what stands for a variable
  pub entry : (P : Scaled → Type 0) (v : Var) → IsTrue (has_variable p v) → IfSome (chosen p env states v) P → IfSome (slice_get (with_states p env states) (place p v)) P
  entry P v h k = subst (λ (o : Option Scaled). IfSome o P) (sym (found v h)) k

  pub whole_size : length (with_states p env states) ≡ place_count p
  whole_size =
      let e = before in
      let b = length-back (p.params + p.states) env in
      length-append (take p.params env ++ states) (drop (p.params + p.states) env) ∙ (omega (arith, e, b, size))

  -- what holds of each state's and of each other variable's, by the variable
  pub each : (P : Var → Scaled → Type 0) → ((v : Var) → IsTrue (has_variable p v) → is_state v ≡ false → IfSome (slice_get env (place p v)) (P v)) →
      ((i : ℕ) → i < p.states → IfSome (slice_get states i) (P (State i))) → (v : Var) → IsTrue (has_variable p v) → IfSome (slice_get (with_states p env states) (place p v)) (P v)
  unfolding chosen
  each P others own (Param i) h = entry (P (Param i)) (Param i) h (others (Param i) h refl)
  each P others own (State i) h = entry (P (State i)) (State i) h (own i (below i p.states h))
  each P others own (Control i) h = entry (P (Control i)) (Control i) h (others (Control i) h refl)
  each P others own (NextState i) h = entry (P (NextState i)) (NextState i) h (others (NextState i) h refl)
  each P others own (NextControl i) h = entry (P (NextControl i)) (NextControl i) h (others (NextControl i) h refl)
  each P others own Tau h = entry (P Tau) Tau h (others Tau h refl)

  pub environment : All (IsEntry (place_count p)) env → All (IsEntry (place_count p)) states → IsEnvironment (place_count p) (with_states p env states)
  environment e s = record {
    size = whole_size;
    entries = All-append (IsEntry (place_count p)) (take p.params env ++ states) (drop (p.params + p.states) env) (All-append (IsEntry (place_count p)) (take p.params env) states (All-take (IsEntry (place_count p)) p.params env e) s)
        (All-drop (IsEntry (place_count p)) (p.params + p.states) env e);
  }

-- ---- the weight of what stands for a variable

pub weight_from : (p : Places) (env : List Scaled) (v : Var) (w : Weights) → IfSome (slice_get env (place p v)) (λ s. s.weight ≡ w) → place p v < length env → weight_at p (weights_of env) v ≡ w
weight_from p env v w h l =
    ap (λ (o : Option Weights). unwrap_or o weight_zero) (slice_get-map (λ (s : Scaled). s.weight) env (place p v))
    ∙ weighed (slice_get env (place p v)) h (λ e. absurd (let q = e in some_there (place p v) env l e))
  where
    some_there : (k : ℕ) (xs : List Scaled) → k < length xs → slice_get xs k ≡ None → ⊥
    some_there k [] h e = absurd (omega arith)
    some_there zero (x ∷ xs) h e = absurd (cc)
    some_there (suc k) (x ∷ xs) h e = some_there k xs (omega arith) e

    weighed : (o : Option Scaled) → IfSome o (λ s. s.weight ≡ w) → (o ≡ None → ⊥) → unwrap_or (option_map (λ (s : Scaled). s.weight) o) weight_zero ≡ w
    weighed None h n = absurd (n refl)
    weighed (Some s) h n = h

-- a variable that stands for itself
pub own_at : (n k : ℕ) → k < n → slice_get (selves n) k ≡ Some (itself k)
own_at n k h =
    let l = length-range_with_len 0 n in
    let e : 0 + k ≡ k = omega arith in
    slice_get-map itself (range_with_len 0 n) k
    ∙ ap (option_map itself) (slice_get-get_or (range_with_len 0 n) k 0 (omega arith) ∙ ap Some (get_or-range_with_len 0 n k 0 h ∙ e))

pub own_weight_is : (p : Places) (v : Var) → IsTrue (has_variable p v) → weight_at p (own_weights (place_count p)) v ≡ weight_one
own_weight_is p v h =
    let b = place_is_below p v h in
    weight_from p (selves (place_count p)) v weight_one (subst (λ (o : Option Scaled). IfSome o (λ s. s.weight ≡ weight_one)) (sym (own_at (place_count p) (place p v) b)) refl)
    (subst (λ (n : ℕ). place p v < n) (sym (length-map-range_with_len itself 0 (place_count p))) b)

-- ---- the flows of a package

pub own_coefficients : (p : Places) (f : ℕ → Coefficients) (v : Var) → is_state v ≡ false → with_flows p f v ≡ variables p v
own_coefficients p f (Param i) h = refl
own_coefficients p f (State i) h = absurd (cc)
own_coefficients p f (Control i) h = refl
own_coefficients p f (NextState i) h = refl
own_coefficients p f (NextControl i) h = refl
own_coefficients p f Tau h = refl

pub own_values : (x : Values) (a : Assignment) (v : Var) → is_state v ≡ false → Equals (flowed x a v) (a v)
own_values x a (Param i) h = Equals-refl (a (Param i))
own_values x a (State i) h = absurd (cc)
own_values x a (Control i) h = Equals-refl (a (Control i))
own_values x a (NextState i) h = Equals-refl (a (NextState i))
own_values x a (NextControl i) h = Equals-refl (a (NextControl i))
own_values x a Tau h = Equals-refl (a Tau)

times_same : (d : ℕ) (v q r : Rational) → Equals q r → IsTimes d v q → IsTimes d v r
times_same d v q r e t = record { same = chain t.same (Equals-product _ _ _ _ (Equals-refl (whole (pos d))) e) }

pub yes : (i n : ℕ) → i < n → IsTrue (nat_lt i n)
yes i n h = grind (arith, nat_tests)

some_mapped : {P Q : Scaled → Type 0} → ((s : Scaled) → P s → Q s) → (o : Option Scaled) → IfSome o P → IfSome o Q
some_mapped f None h = h
some_mapped f (Some s) h = f s h

module _ (pkg : Package) (counts : Counts) (same : places_for counts ≡ model pkg) (env flows : List Scaled) (plain : AreSelves counts env) (are : AreFlows pkg flows) where
  size_is : length env ≡ place_count (places_for counts)
  size_is = plain.environment.size

  count_is : length flows ≡ (places_for counts).states
  count_is = are.count ∙ sym (ap (λ (p : Places). p.states) same)

  inside : (v : Var) → IsTrue (has_variable (places_for counts) v) → place (places_for counts) v < length (with_states (places_for counts) env flows)
  inside v h = let b = place_is_below (places_for counts) v h in subst (λ (n : ℕ). place (places_for counts) v < n) (sym (whole_size (places_for counts) env flows size_is count_is)) b

  own_weight_there : (v : Var) → IsTrue (has_variable (places_for counts) v) → IfSome (slice_get env (place (places_for counts) v)) (λ s. s.weight ≡ weight_one)
  own_weight_there v h =
      let b = place_is_below (places_for counts) v h in
      subst (λ (o : Option Scaled). IfSome o (λ s. s.weight ≡ weight_one)) (sym (ap (λ (xs : List Scaled). slice_get xs (place (places_for counts) v)) plain.exact ∙ own_at (place_count (places_for counts)) (place (places_for counts) v) b)) refl

  pub flowing : Flowing (places_for counts) (with_states (places_for counts) env flows) (flow_coefficients pkg are.heights) (flow_weights are.sides are.heights)
  unfolding chosen
  flowing = record {
    stand_for = record {
      each = each (places_for counts) env flows size_is count_is (λ v s. HasCoefficients s.weight.den s.poly (with_flows (places_for counts) (flow_coefficients pkg are.heights) v))
          (λ v h n. subst (λ (f : Coefficients). IfSome (slice_get env (place (places_for counts) v)) (λ s. HasCoefficients s.weight.den s.poly f)) (sym (own_coefficients (places_for counts) (flow_coefficients pkg are.heights) v n)) (plain.stand_for.each v h))
          (λ i h. some_mapped (λ s k. k.canonical.coefficients) (slice_get flows i) (are.each i));
    };
    states = λ i h.
        weight_from (places_for counts) (with_states (places_for counts) env flows) (State i) (flow_weights are.sides are.heights i)
        (entry (places_for counts) env flows size_is count_is (λ s. s.weight ≡ flow_weights are.sides are.heights i) (State i) (yes i (places_for counts).states h) (some_mapped (λ s k. k.weight) (slice_get flows i) (are.each i)))
        (inside (State i) (yes i (places_for counts).states h));
    others = λ v h n.
        weight_from (places_for counts) (with_states (places_for counts) env flows) v weight_one
        (subst (λ (o : Option Scaled). IfSome o (λ s. s.weight ≡ weight_one)) (sym (elsewhere (places_for counts) env flows size_is count_is v h n)) (own_weight_there v h))
        (inside v h);
  }

  -- at a point, where x are the values of the flows
  pub flowing_at : (z : Point) (a : Assignment) (x : Values) → IsAt (places_for counts) z a → ((i : ℕ) → i < (places_for counts).states → IfSome (slice_get flows i) (λ s. IsTimes s.weight.den (value_at s.poly z) (x i))) →
      StandsAt (places_for counts) (with_states (places_for counts) env flows) z (flowed x a)
  flowing_at z a x at h = record {
    each = each (places_for counts) env flows size_is count_is (λ v s. IsTimes s.weight.den (value_at s.poly z) (flowed x a v))
        (λ v k n. some_mapped (λ s m. times_same s.weight.den (value_at s.poly z) (a v) (flowed x a v) (Equals-sym _ _ (own_values x a v n)) m) (slice_get env (place (places_for counts) v)) ((plain.stand_at z a at).each v k)) h;
  }

-- places alone that pass
module _ (counts : Counts) (env states : List Scaled) (plain : AreSelves counts env) (count : length states ≡ (places_for counts).states) (used : Var → Bool) (allowed : ℕ → Bool) (in_model : (v : Var) → IsTrue (used v) → IsTrue (has_variable (places_for counts) v)) (others : (v : Var) → IsTrue (used v) → is_state v ≡ false → IsTrue (allowed (place (places_for counts) v))) (own : (i : ℕ) → i < (places_for counts).states → IfSome (slice_get states i) (λ s. HaveOnly allowed s.poly)) where
  both : (b c : Bool) → IsTrue b → c ≡ false → IsTrue (b && not c)
  both true true h n = absurd (cc)
  both true false h n = refl
  both false c h n = absurd (cc)

  left : (b c : Bool) → IsTrue (b && not c) → IsTrue b
  left true c h = refl
  left false c h = absurd (cc)

  right : (b c : Bool) → IsTrue (b && not c) → c ≡ false
  right true true h = absurd (cc)
  right true false h = refl
  right false c h = absurd (cc)

  no_state_within : (v : Var) → IsTrue (used v) → is_state v ≡ false → IfSome (slice_get (with_states (places_for counts) env states) (place (places_for counts) v)) (λ s. HaveOnly allowed s.poly)
  no_state_within v u n =
      subst (λ (o : Option Scaled). IfSome o (λ s. HaveOnly allowed s.poly)) (sym (elsewhere (places_for counts) env states plain.environment.size count v (in_model v u) n))
      ((plain.within (λ t. used t && not (is_state t)) allowed (λ t k. others t (left (used t) (is_state t) k) (right (used t) (is_state t) k))).each v (both (used v) (is_state v) u n))

  within_at : (v : Var) → IsTrue (used v) → IfSome (slice_get (with_states (places_for counts) env states) (place (places_for counts) v)) (λ s. HaveOnly allowed s.poly)
  unfolding chosen
  within_at (Param i) u = no_state_within (Param i) u refl
  within_at (State i) u = entry (places_for counts) env states plain.environment.size count (λ s. HaveOnly allowed s.poly) (State i) (in_model (State i) u) (own i (below i (places_for counts).states (in_model (State i) u)))
  within_at (Control i) u = no_state_within (Control i) u refl
  within_at (NextState i) u = no_state_within (NextState i) u refl
  within_at (NextControl i) u = no_state_within (NextControl i) u refl
  within_at Tau u = no_state_within Tau u refl

  pub states_within : StandsWithin (places_for counts) (with_states (places_for counts) env states) used allowed
  states_within = record { each = within_at }
