-- All conjuncts of the plant, and their refusals.
use Rattle.std.proofs.Common.{◌≡◌, ℕ, zero, suc, Bool, true, false, IsTrue, List, [], ◌∷◌, ◌++◌, length, map, slice_get, refl, sym, ap, ◌∙◌, subst, arith, All}
use Rattle.std.specs.Prelude.{IfSome}
use Rattle.std.proofs.lemmas.List.{map-append}
use Rattle.vp_words.specs.declared.record.Counts.{Counts}
use Rattle.vp_terms.specs.Places.{has_variable}
use Rattle.vp_terms.specs.WellFormed.{in_domain, is_allowed}
use Rattle.vp_terms.specs.declared.expr.Places.{Places}
use Rattle.vp_terms.specs.declared.expr.Var.{Var}
use Rattle.vp_terms.specs.declared.expr.Var.TheVariants.{Param, State, Control, NextState, NextControl, Tau}
use Rattle.vp_terms.specs.declared.package.Package.{Package}
use Rattle.vp_poly.specs.declared.canonical.PolyErr.{PolyErr}
use Rattle.vp_poly.specs.declared.canonical.PolyErr.TheVariants as poly
use Rattle.vp_poly.specs.declared.scaled.Scaled.{Scaled}
use Rattle.vp_poly.specs.Canonical.{StandsWithin}
use Rattle.vp_poly.specs.Places.{HaveOnly, places_for}
use Rattle.vp_logic.specs.declared.norm.Norm.{Norm}
use Rattle.vp_logic.specs.Sized.{EachHasOnly, EachIsSized}
use Rattle.vp_logic.specs.Tree.{Tree, tree}
use Rattle.vp_flow.specs.Outcome.{AreFlows}
use Rattle.vp_flow.specs.Placed.{AllowsFlows}
use Rattle.vp_flow.specs.Sides.{model}
use Rattle.vp_monitor.specs.declared.error.MonErr.{MonErr}
use Rattle.vp_monitor.specs.declared.error.MonErr.TheVariants.{Wide, Paths, Hidden, NotLinear, Cycle, Fraction, Cases, Memory}
use Rattle.vp_monitor.specs.declared.error.Place.TheVariants as at
use Rattle.vp_monitor.specs.Errors.{Tells, of_poly}
use Rattle.vp_monitor.specs.Meaning.{AllowsPlant, is_in_plant}
use Rattle.vp_monitor.specs.Plant.{AreAllSlackConjuncts, AreDomainConjuncts, ArePlantConjuncts, AreTimeConjuncts, arrived, flow_coefficients, flow_weights}
use Rattle.vp_monitor.specs.Refusals.{FlowPasses, IsFirstSlackOver, IsTimeOver, PlantPasses, RefusesPlant, SlackFitsBelow, TimePasses, fits_in}
use Rattle.vp_monitor.specs.Slack.{TellsSlack}
use Rattle.vp_monitor.specs.Standing.{AreSelves, with_states}
use Rattle.vp_monitor.proofs.Parting.{EachIsSized-append}
use Rattle.vp_monitor.proofs.Slacks.{EachHasOnly-append}
use Rattle.vp_monitor.proofs.States.{states_within}

-- ---- lists

pub joined_all : (time slack domain one all : List Norm) → one ≡ time ++ slack → all ≡ one ++ domain → map tree all ≡ map tree time ++ map tree slack ++ map tree domain
joined_all time slack domain one all e f = ap (map tree) f ∙ map-append tree one domain ∙ ap (λ (ts : List Tree). ts ++ map tree domain) (ap (map tree) e ∙ map-append tree time slack)

pub all_sized : (n : ℕ) (t s d all : List Tree) → all ≡ t ++ s ++ d → EachIsSized n t → EachIsSized n s → EachIsSized n d → EachIsSized n all
all_sized n t s d all e h k l = subst (EachIsSized n) (sym e) (EachIsSized-append n (t ++ s) d (EachIsSized-append n t s h k) l)

pub all_only : (allowed : ℕ → Bool) (t s d all : List Tree) → all ≡ t ++ s ++ d → EachHasOnly allowed t → EachHasOnly allowed s → EachHasOnly allowed d → EachHasOnly allowed all
all_only allowed t s d all e h k l = subst (EachHasOnly allowed) (sym e) (EachHasOnly-append allowed (t ++ s) d (EachHasOnly-append allowed t s h k) l)

all_at : {A : Type 0} (P : A → Type 0) (xs : List A) (i : ℕ) → All P xs → IfSome (slice_get xs i) P
all_at P [] i h = tt
all_at P (x ∷ xs) zero h = h zero x (omega arith)
all_at P (x ∷ xs) (suc i) h = all_at P xs i (λ k d l. h (suc k) d (omega arith))

-- ---- places

flows_in_plant : (p : Places) (v : Var) → IsTrue (is_allowed in_domain p v) → IsTrue (is_in_plant p v)
flows_in_plant p (Param i) h = h
flows_in_plant p (State i) h = h
flows_in_plant p (Control i) h = h
flows_in_plant p (NextState i) h = absurd (cc)
flows_in_plant p (NextControl i) h = absurd (cc)
flows_in_plant p Tau h = refl

plant_in_model : (p : Places) (v : Var) → IsTrue (is_in_plant p v) → IsTrue (has_variable p v)
plant_in_model p (Param i) h = h
plant_in_model p (State i) h = h
plant_in_model p (Control i) h = h
plant_in_model p (NextState i) h = h
plant_in_model p (NextControl i) h = absurd (cc)
plant_in_model p Tau h = refl

pub flowing_within : (c : Counts) (env flows : List Scaled) → AreSelves c env → length flows ≡ (places_for c).states → ((allowed : ℕ → Bool) → AllowsFlows (places_for c) allowed → All (λ (s : Scaled). HaveOnly allowed s.poly) flows) →
    (allowed : ℕ → Bool) → AllowsPlant (places_for c) allowed → StandsWithin (places_for c) (with_states (places_for c) env flows) (is_in_plant (places_for c)) allowed
flowing_within c env flows plain count only allowed h =
    states_within c env flows plain count (is_in_plant (places_for c)) allowed (plant_in_model (places_for c)) (λ v u n. h v u)
    (λ i l. all_at (λ (s : Scaled). HaveOnly allowed s.poly) flows i (only allowed (λ v a. h v (flows_in_plant (places_for c) v a))))

-- ---- the conjuncts of a package, what passes, and what is refused

module _ (pkg : Package) (c : Counts) (flows : List Scaled) (same : places_for c ≡ model pkg) (are : AreFlows pkg flows) where
  passing : FlowPasses pkg
  passing = record { flows = flows; are_flows = are }

  pub plant_conjuncts_are : (time slack domain all : List Tree) → all ≡ time ++ slack ++ domain → AreTimeConjuncts (places_for c) pkg.plant time → AreAllSlackConjuncts (places_for c) (flow_coefficients pkg are.heights) (flow_weights are.sides are.heights) 0 pkg.plant.slack slack →
      AreDomainConjuncts (places_for c) pkg.plant domain → ArePlantConjuncts pkg all
  plant_conjuncts_are time slack domain all e t s d = record {
    flows = flows;
    are_flows = are;
    time = time;
    slack = slack;
    domain = domain;
    are = e;
    are_time = subst (λ (p : Places). AreTimeConjuncts p pkg.plant time) same t;
    are_slack = subst (λ (p : Places). AreAllSlackConjuncts p (flow_coefficients pkg are.heights) (flow_weights are.sides are.heights) 0 pkg.plant.slack slack) same s;
    are_domain = subst (λ (p : Places). AreDomainConjuncts p pkg.plant domain) same d;
  }

  pub plant_passes : TimePasses (places_for c) pkg.plant → SlackFitsBelow (places_for c) (flow_weights are.sides are.heights) pkg.plant.slack (length pkg.plant.slack) → fits_in (places_for c) (arrived pkg.plant) ≡ true → PlantPasses pkg
  unfolding passing
  plant_passes t s d = record {
    slack = record {
      flow = passing;
      time = subst (λ (p : Places). TimePasses p pkg.plant) same t;
      slack = subst (λ (p : Places). SlackFitsBelow p (flow_weights are.sides are.heights) pkg.plant.slack (length pkg.plant.slack)) same s;
    };
    domain = subst (λ (p : Places). fits_in p (arrived pkg.plant) ≡ true) same d;
  }

  pub time_refuses : (e : PolyErr) → (e ≡ poly.Wide → IsTimeOver (places_for c) pkg.plant) → RefusesPlant pkg (of_poly at.Time e)
  time_refuses poly.Wide h = (passing, subst (λ (p : Places). IsTimeOver p pkg.plant) same (h refl))
  time_refuses poly.Memory h = tt

  pub slack_refuses : TimePasses (places_for c) pkg.plant → (e : MonErr) → TellsSlack (places_for c) (flow_weights are.sides are.heights) pkg.plant.slack e → RefusesPlant pkg e
  unfolding passing
  slack_refuses t (Wide at.Init) h = absurd h
  slack_refuses t (Wide at.Inv) h = absurd h
  slack_refuses t (Wide at.Safe) h = absurd h
  slack_refuses t (Wide at.Ctrl) h = absurd h
  slack_refuses t (Wide (at.Flow i)) h = absurd h
  slack_refuses t (Wide at.Time) h = absurd h
  slack_refuses t (Wide (at.Slack i)) h =
      (passing, subst (λ (p : Places). TimePasses p pkg.plant) same t, subst (λ (p : Places). IsFirstSlackOver p (flow_weights are.sides are.heights) pkg.plant.slack i) same h)
  slack_refuses t (Wide at.Domain) h = absurd h
  slack_refuses t (Wide (at.Fallback k)) h = absurd h
  slack_refuses t (Paths k) h = absurd h
  slack_refuses t (Hidden k) h = absurd h
  slack_refuses t (NotLinear k) h = absurd h
  slack_refuses t (Cycle k) h = absurd h
  slack_refuses t (Fraction k) h = absurd h
  slack_refuses t (Cases k j) h = absurd h
  slack_refuses t Memory h = tt

  pub domain_refuses : TimePasses (places_for c) pkg.plant → SlackFitsBelow (places_for c) (flow_weights are.sides are.heights) pkg.plant.slack (length pkg.plant.slack) → (e : MonErr) → Tells at.Domain (fits_in (places_for c) (arrived pkg.plant) ≡ false) e → RefusesPlant pkg e
  unfolding passing
  domain_refuses t s (Wide q) h = subst (λ r. RefusesPlant pkg (Wide r)) (sym h.0) (
    record {
      flow = passing;
      time = subst (λ (p : Places). TimePasses p pkg.plant) same t;
      slack = subst (λ (p : Places). SlackFitsBelow p (flow_weights are.sides are.heights) pkg.plant.slack (length pkg.plant.slack)) same s;
    },
    subst (λ (p : Places). fits_in p (arrived pkg.plant) ≡ false) same h.1,
  )
  domain_refuses t s (Paths k) h = absurd h
  domain_refuses t s (Hidden k) h = absurd h
  domain_refuses t s (NotLinear k) h = absurd h
  domain_refuses t s (Cycle k) h = absurd h
  domain_refuses t s (Fraction k) h = absurd h
  domain_refuses t s (Cases k j) h = absurd h
  domain_refuses t s Memory h = tt
