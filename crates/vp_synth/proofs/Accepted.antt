-- What is made of a package, against its text.
use Rattle.std.proofs.Common.{◌≡◌, ◌≢◌, inl, inr, ℕ, List, ap, ◌∙◌, sym, subst}
use Rattle.std.specs.List.{All}
use Rattle.vp_terms.specs.declared.expr.Places.{Places}
use Rattle.vp_terms.specs.declared.package.Cert.{Cert}
use Rattle.vp_terms.specs.declared.package.Package.{Package}
use Rattle.vp_flow.specs.Sides.{model}
use Rattle.vp_poly.specs.Places.{places_for}
use Rattle.vp_poly.specs.Value.{Point}
use Rattle.vp_monitor.specs.Monitors.{AreMonitors}
use Rattle.vp_monitor.specs.Obligations.{AreNeverMet, AreObligations, HasFewCases}
use Rattle.vp_monitor.specs.Refusals.{Passes as PassesMonitors}
use Rattle.vp_monitor.specs.declared.types.Monitors.{Monitors}
use Rattle.vp_monitor.specs.declared.types.Obligation.{Obligation}
use Rattle.vp_read.specs.Reading.{IsPackage}
use Rattle.vp_sandbox.specs.declared.sandbox.Sandbox.{Sandbox}
use Rattle.vp_synth.specs.Accepting.{Accepts, AreMadeOf, IsPrepared}
use Rattle.vp_synth.specs.Certifying.{Certifies, RefusesCerts, all_cases}
use Rattle.vp_synth.specs.Going.{NeverHold}
use Rattle.vp_synth.specs.Sandboxes.{IsMadeOf}
use Rattle.vp_synth.specs.Stages.{Certified, IsRefused, Split}
use Rattle.vp_synth.specs.declared.refusal.Refusal.{Refusal}
use Rattle.vp_synth.specs.declared.refusal.Refusal.TheVariants.{Memory}
use Rattle.vp_synth.proofs.Made.{never_met}

pub are_made : (pkg : Package) (m : Monitors) (os ps : List Obligation) (s : Sandbox) → ps ≡ os → PassesMonitors pkg → AreMonitors pkg m → AreObligations pkg m os → All HasFewCases os → IsMadeOf m s → AreMadeOf pkg ps s
are_made pkg m os ps s q passes are obligations few made =
    subst (λ (l : List Obligation). AreMadeOf pkg l s) (sym q) (record { has = record { monitors = m; has = record { passes = passes; are = are }; are = obligations; few = few }; made = made })

-- the places of a package's sandbox are those of its model
pub own_places : (pkg : Package) (os : List Obligation) (s : Sandbox) → AreMadeOf pkg os s → places_for s.counts ≡ model pkg
own_places pkg os s h = ap places_for h.made.counts ∙ h.has.has.are.places

abbrev pub prepared : (text : List ℕ) (pkg : Package) (os : List Obligation) (s : Sandbox) → IsPackage text pkg → AreMadeOf pkg os s → IsPrepared text pkg
prepared text pkg os s is h = record { is = is; obligations = os; has = h.has }

-- a fact on obligations and certificates that were lent
of_own : (P : Places → List Obligation → List Cert → Type 0) (pkg : Package) (os ps : List Obligation) (s : Sandbox) (cs : List Cert) → ps ≡ os → cs ≡ pkg.certs → AreMadeOf pkg os s → P (places_for s.counts) ps cs → P (model pkg) os pkg.certs
of_own P pkg os ps s cs p q h k =
    subst (λ (l : List Cert). P (model pkg) os l) q (subst (λ (l : List Obligation). P (model pkg) l cs) p (subst (λ (l : Places). P l ps cs) (own_places pkg os s h) k))

pub accepted : (text : List ℕ) (pkg : Package) (os ps : List Obligation) (s : Sandbox) (cs : List Cert) → ps ≡ os → cs ≡ pkg.certs → IsPackage text pkg → AreMadeOf pkg os s → Certifies (places_for s.counts) (all_cases ps) cs → Accepts text pkg
accepted text pkg os ps s cs p q is h k = record {
  prepared = prepared text pkg os s is h;
  certified = of_own (λ l us ds. Certifies l (all_cases us) ds) pkg os ps s cs p q h k;
}

-- what refuses a text up to its cases refuses it
pub refused_before : (text : List ℕ) (r : Refusal) → IsRefused Split text r → IsRefused Certified text r
refused_before text r (inl h) = inl h
refused_before text r (inr h) = inr (inl h)

pub refused_behind : (text : List ℕ) (pkg : Package) (os ps : List Obligation) (s : Sandbox) (cs : List Cert) (r : Refusal) → ps ≡ os → cs ≡ pkg.certs → IsPackage text pkg → AreMadeOf pkg os s → r ≢ Memory → RefusesCerts (places_for s.counts) (all_cases ps) cs r → IsRefused Certified text r
refused_behind text pkg os ps s cs r p q is h n k = inr (inr (n, pkg, prepared text pkg os s is h, of_own (λ l us ds. RefusesCerts l (all_cases us) ds r) pkg os ps s cs p q h k))

-- by an error that was passed on
pub refused_by : (text : List ℕ) (pkg : Package) (os ps : List Obligation) (s : Sandbox) (cs : List Cert) (r e : Refusal) → ps ≡ os → cs ≡ pkg.certs → IsPackage text pkg → AreMadeOf pkg os s → r ≡ e → (e ≢ Memory → RefusesCerts (places_for s.counts) (all_cases ps) cs e) → r ≢ Memory → IsRefused Certified text r
refused_by text pkg os ps s cs r e p q is h d k n =
    refused_behind text pkg os ps s cs r p q is h n (subst (RefusesCerts (places_for s.counts) (all_cases ps) cs) (sym d) (k (λ m. n (d ∙ m))))

-- obligations whose cases never hold
pub own_never_met : (os ps : List Obligation) → ps ≡ os → ((x : Point) → NeverHold x (all_cases ps)) → AreNeverMet os
own_never_met os ps p h = subst AreNeverMet p (never_met ps h)
