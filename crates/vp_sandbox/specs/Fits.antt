-- Sandboxes that fit: small polynomials, each with the variables that may stand there.
use Rattle.std.specs.Prelude.{◌≡◌, ⊤, ℕ, ◌<◌, ◌≤◌, ◌^◌, ◌==◌, Bool, ◌&&◌, ◌||◌, nat_lt, nat_le, Some, List, [], ◌∷◌, length, map}
use Rattle.vp_words.specs.declared.record.Counts.{Counts}
use Rattle.vp_words.specs.declared.record.Kind.{Kind}
use Rattle.vp_words.specs.declared.record.Due.{Due}
use Rattle.vp_words.specs.declared.record.Due.TheVariants.{Ended}
use Rattle.vp_words.specs.Record.{IsValid, kind_due}
use Rattle.vp_poly.specs.declared.mono.Term.{Term}
use Rattle.vp_poly.specs.Places.{HaveOnly}
use Rattle.vp_poly.specs.Poly.{IsPoly, norm, degree}
use Rattle.vp_logic.specs.Tree.{Tree, Trees, One, AllOf, AnyOf, None, Then, tree}
use Rattle.vp_sandbox.specs.declared.sandbox.Sandbox.{Sandbox}
use Rattle.vp_sandbox.specs.Boxes.{first_next_state, first_next_control, tau_place}

-- parameters, states and controls
abbrev pub in_init : Counts → ℕ → Bool
in_init c k = nat_lt k (first_next_state c)

-- these and next controls
abbrev pub in_ctrl : Counts → ℕ → Bool
in_ctrl c k = nat_lt k (first_next_state c) || (nat_le (first_next_control c) k && nat_lt k (tau_place c))

-- parameters, states, controls, next states and `tau`
abbrev pub in_plant : Counts → ℕ → Bool
in_plant c k = nat_lt k (first_next_control c) || k == tau_place c

-- a polynomial with these places, a norm below 2^62 and a degree of at most 12
pub record PolyFits (allowed : ℕ → Bool) (p : List Term) : Type 0 where
  pub poly : IsPoly p
  pub places : HaveOnly allowed p
  pub small : norm p < 2 ^ 62
  pub low : degree p ≤ 12

-- and so each atom of a form
abbrev mutual
  pub TreeFits : (ℕ → Bool) → Tree → Type 0
  TreeFits allowed (One a) = PolyFits allowed a.poly
  TreeFits allowed (AllOf ns) = TreesFit allowed ns
  TreeFits allowed (AnyOf ns) = TreesFit allowed ns

  pub TreesFit : (ℕ → Bool) → Trees → Type 0
  TreesFit allowed None = ⊤
  TreesFit allowed (Then n ns) = TreeFits allowed n × TreesFit allowed ns

-- and so each form of a list
abbrev pub EachFits : (ℕ → Bool) → List Tree → Type 0
EachFits allowed [] = ⊤
EachFits allowed (t ∷ ts) = TreeFits allowed t × EachFits allowed ts

-- and so each polynomial of a list
abbrev pub PolysFit : (ℕ → Bool) → List (List Term) → Type 0
PolysFit allowed [] = ⊤
PolysFit allowed (p ∷ ps) = PolyFits allowed p × PolysFit allowed ps

-- a sandbox that fits
pub record Fits (s : Sandbox) : Type 0 where
  pub counts : IsValid s.counts
  pub init_few : length s.init < 2 ^ 32
  pub init : EachFits (in_init s.counts) (map tree s.init)
  pub ctrl : TreeFits (in_ctrl s.counts) (tree s.ctrl)
  pub plant_few : length s.plant < 2 ^ 32
  pub plant : EachFits (in_plant s.counts) (map tree s.plant)
  pub fallback_count : length s.fallback ≡ s.counts.controls
  pub fallback : PolysFit (in_init s.counts) s.fallback

-- a record of this kind is due, or nothing is
abbrev pub IsDue : Due → Kind → Type 0
IsDue Ended k = ⊤
IsDue d k = kind_due d ≡ Some k
