-- What stands for the variables where each state stands for its next value.
use Rattle.std.proofs.Common.{◌≡◌, ℕ, ◌+◌, ◌-◌, ◌<◌, Bool, false, IsTrue, List, length, take, drop, slice_get, refl, sym, ap, ◌∙◌, subst, arith, All}
use Rattle.std.specs.Prelude.{Option, IfSome}
use Rattle.vp_words.specs.declared.record.Counts.{Counts}
use Rattle.vp_terms.specs.Meaning.{Assignment, value}
use Rattle.vp_terms.specs.Places.{has_variable, place, place_count}
use Rattle.vp_terms.specs.WellFormed.{in_domain, is_allowed}
use Rattle.vp_terms.specs.declared.expr.Places.{Places}
use Rattle.vp_terms.specs.declared.expr.Expr.{Expr}
use Rattle.vp_terms.specs.declared.expr.Expr.TheVariants.{Var as Variable}
use Rattle.vp_terms.specs.declared.expr.Var.{Var}
use Rattle.vp_terms.specs.declared.expr.Var.TheVariants.{Param, State, Control, NextState, NextControl, Tau}
use Rattle.vp_terms.proofs.Spots.{place_is_below}
use Rattle.vp_poly.specs.declared.scaled.Scaled.{Scaled}
use Rattle.vp_poly.specs.Canonical.{IsEntry, IsEnvironment, StandsAt, StandsFor, StandsWithin, own_weights, variables, weights_of}
use Rattle.vp_poly.specs.Coefficient.{coefficients}
use Rattle.vp_poly.specs.Places.{HaveOnly, places_for}
use Rattle.vp_poly.specs.Points.{IsAt}
use Rattle.vp_poly.specs.Times.{HasCoefficients, IsTimes}
use Rattle.vp_poly.specs.Value.{Point, value_at}
use Rattle.vp_poly.specs.Weights.{weight_at, weight_in, weight_one}
use Rattle.vp_monitor.specs.Meaning.{AllowsPlant, is_in_plant}
use Rattle.vp_monitor.specs.Plant.{arriving}
use Rattle.vp_monitor.specs.Standing.{AreSelves, is_state, with_states}
use Rattle.vp_monitor.proofs.States.{each, environment, length-front, own_at, own_weight_is, slice_get-drop, slice_get-take, states_within, weight_from, whole_size, yes}
use Rattle.std.proofs.lemmas.List.Elements.{All-drop, All-take}
use Rattle.std.proofs.lemmas.List.{length-drop}

own_arriving : (v : Var) → is_state v ≡ false → arriving v ≡ Variable v
own_arriving (Param i) h = refl
own_arriving (State i) h = absurd (cc)
own_arriving (Control i) h = refl
own_arriving (NextState i) h = refl
own_arriving (NextControl i) h = refl
own_arriving Tau h = refl

-- the weight of what a variable is replaced by
replaced_weight : (p : Places) (v : Var) → IsTrue (has_variable p v) → weight_in p (own_weights (place_count p)) (arriving v) ≡ weight_one
replaced_weight p (Param i) h = own_weight_is p (Param i) h
replaced_weight p (State i) h = own_weight_is p (NextState i) h
replaced_weight p (Control i) h = own_weight_is p (Control i) h
replaced_weight p (NextState i) h = own_weight_is p (NextState i) h
replaced_weight p (NextControl i) h = own_weight_is p (NextControl i) h
replaced_weight p Tau h = own_weight_is p Tau h

-- a variable of the domain is replaced by one of the plant
arrived_allowed : (p : Places) (v : Var) → IsTrue (is_allowed in_domain p v) → is_state v ≡ false → IsTrue (is_in_plant p v)
arrived_allowed p (Param i) h n = h
arrived_allowed p (State i) h n = absurd (cc)
arrived_allowed p (Control i) h n = h
arrived_allowed p (NextState i) h n = absurd (cc)
arrived_allowed p (NextControl i) h n = absurd (cc)
arrived_allowed p Tau h n = refl

module _ (counts : Counts) (env next : List Scaled) (plain : AreSelves counts env) (is : next ≡ take (places_for counts).states (drop ((places_for counts).params + (places_for counts).states + (places_for counts).controls) env)) where
  size : length env ≡ place_count (places_for counts)
  size = plain.environment.size

  rest : length (drop ((places_for counts).params + (places_for counts).states + (places_for counts).controls) env) ≡ length env - ((places_for counts).params + (places_for counts).states + (places_for counts).controls)
  rest = length-drop ((places_for counts).params + (places_for counts).states + (places_for counts).controls) env

  count : length next ≡ (places_for counts).states
  count = ap length is ∙ length-front (places_for counts).states (drop ((places_for counts).params + (places_for counts).states + (places_for counts).controls) env) (let r = rest in let s = size in omega arith)

  there : (i : ℕ) → i < (places_for counts).states → slice_get next i ≡ slice_get env (place (places_for counts) (NextState i))
  there i h =
      ap (λ (xs : List Scaled). slice_get xs i) is ∙ slice_get-take (places_for counts).states (drop ((places_for counts).params + (places_for counts).states + (places_for counts).controls) env) i h
      ∙ slice_get-drop ((places_for counts).params + (places_for counts).states + (places_for counts).controls) env i (place (places_for counts) (NextState i)) refl

  pub arriving_environment : IsEnvironment (place_count (places_for counts)) (with_states (places_for counts) env next)
  arriving_environment =
      environment (places_for counts) env next size count plain.environment.entries
      (subst (All (IsEntry (place_count (places_for counts)))) (sym is) (All-take (IsEntry (place_count (places_for counts))) (places_for counts).states (drop ((places_for counts).params + (places_for counts).states + (places_for counts).controls) env)
      (All-drop (IsEntry (place_count (places_for counts))) ((places_for counts).params + (places_for counts).states + (places_for counts).controls) env plain.environment.entries)))

  pub arriving_for : StandsFor (places_for counts) (with_states (places_for counts) env next) (λ v. coefficients (variables (places_for counts)) (arriving v))
  arriving_for = record {
    each = each (places_for counts) env next size count (λ v s. HasCoefficients s.weight.den s.poly (coefficients (variables (places_for counts)) (arriving v)))
        (λ v h n. subst (λ (e : Expr). IfSome (slice_get env (place (places_for counts) v)) (λ s. HasCoefficients s.weight.den s.poly (coefficients (variables (places_for counts)) e))) (sym (own_arriving v n)) (plain.stand_for.each v h))
        (λ i h. subst (λ (o : Option Scaled). IfSome o (λ s. HasCoefficients s.weight.den s.poly (variables (places_for counts) (NextState i)))) (sym (there i h)) (plain.stand_for.each (NextState i) (yes i (places_for counts).states h)));
  }

  pub arriving_at : (z : Point) (a : Assignment) → IsAt (places_for counts) z a → StandsAt (places_for counts) (with_states (places_for counts) env next) z (λ v. value (arriving v) a)
  arriving_at z a at = record {
    each = each (places_for counts) env next size count (λ v s. IsTimes s.weight.den (value_at s.poly z) (value (arriving v) a))
        (λ v h n. subst (λ (e : Expr). IfSome (slice_get env (place (places_for counts) v)) (λ s. IsTimes s.weight.den (value_at s.poly z) (value e a))) (sym (own_arriving v n)) ((plain.stand_at z a at).each v h))
        (λ i h. subst (λ (o : Option Scaled). IfSome o (λ s. IsTimes s.weight.den (value_at s.poly z) (a (NextState i)))) (sym (there i h)) ((plain.stand_at z a at).each (NextState i) (yes i (places_for counts).states h)));
  }

  one_weight : (v : Var) → IsTrue (has_variable (places_for counts) v) → IfSome (slice_get env (place (places_for counts) v)) (λ s. s.weight ≡ weight_one)
  one_weight v h =
      let b = place_is_below (places_for counts) v h in
      subst (λ (o : Option Scaled). IfSome o (λ s. s.weight ≡ weight_one)) (sym (ap (λ (xs : List Scaled). slice_get xs (place (places_for counts) v)) plain.exact ∙ own_at (place_count (places_for counts)) (place (places_for counts) v) b)) refl

  pub arriving_weights : (v : Var) → IsTrue (has_variable (places_for counts) v) → weight_at (places_for counts) (weights_of (with_states (places_for counts) env next)) v ≡ weight_in (places_for counts) (own_weights (place_count (places_for counts))) (arriving v)
  arriving_weights v h =
      weight_from (places_for counts) (with_states (places_for counts) env next) v weight_one
      (each (places_for counts) env next size count (λ u s. s.weight ≡ weight_one) (λ u k n. one_weight u k)
      (λ i k. subst (λ (o : Option Scaled). IfSome o (λ s. s.weight ≡ weight_one)) (sym (there i k)) (one_weight (NextState i) (yes i (places_for counts).states k))) v h)
      (let b = place_is_below (places_for counts) v h in subst (λ (n : ℕ). place (places_for counts) v < n) (sym (whole_size (places_for counts) env next size count)) b)
      ∙ sym (replaced_weight (places_for counts) v h)

  pub arriving_within : ((v : Var) → IsTrue (is_allowed in_domain (places_for counts) v) → IsTrue (has_variable (places_for counts) v)) → (allowed : ℕ → Bool) → AllowsPlant (places_for counts) allowed → StandsWithin (places_for counts) (with_states (places_for counts) env next) (is_allowed in_domain (places_for counts)) allowed
  arriving_within in_model allowed h =
      states_within counts env next plain count (is_allowed in_domain (places_for counts)) allowed in_model
      (λ v u n. h v (arrived_allowed (places_for counts) v u n))
      (λ i k. subst (λ (o : Option Scaled). IfSome o (λ s. HaveOnly allowed s.poly)) (sym (there i k)) ((plain.within (is_in_plant (places_for counts)) allowed h).each (NextState i) (yes i (places_for counts).states k)))
