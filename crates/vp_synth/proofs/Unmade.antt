-- Packages with one tree have the same monitors and obligations, or one refusal of these.
use Rattle.std.proofs.Common.{◌≡◌, ◌≢◌, inl, inr, List, [], ◌∷◌, ◌++◌, refl, ap, ◌∙◌}
use Rattle.std.specs.List.{All}
use Rattle.vp_terms.specs.Packages.{package_tree}
use Rattle.vp_terms.specs.WellFormed.{IsWellFormed}
use Rattle.vp_terms.specs.declared.package.Package.{Package}
use Rattle.vp_terms.specs.declared.package.Part.{Part}
use Rattle.vp_logic.specs.Cases.{Case, lists}
use Rattle.vp_logic.specs.declared.norm.Atom.{Atom}
use Rattle.vp_monitor.specs.Monitors.{AreMonitors}
use Rattle.vp_monitor.specs.Obligations.{AreObligations, HasFewCases, RefusesCases}
use Rattle.vp_monitor.specs.Refusals.{Passes, Refuses}
use Rattle.vp_monitor.specs.Same.{SameMonitors, SameObligation, SameObligations}
use Rattle.vp_monitor.specs.declared.error.MonErr.{MonErr}
use Rattle.vp_monitor.specs.declared.error.MonErr.TheVariants.{Memory}
use Rattle.vp_monitor.specs.declared.types.Monitors.{Monitors}
use Rattle.vp_monitor.specs.declared.types.Obligation.{Obligation}
use Rattle.vp_synth.specs.Accepting.{HasMonitors, HasObligations}
use Rattle.vp_synth.specs.Certifying.{NumberedCase, all_cases, cases_of, numbered}
use Rattle.vp_synth.specs.Stages.{RefusesPackage}

-- what is known of monitors and obligations
pub record MonitorLaws : Type 0 where
  pub monitors : (p q : Package) → package_tree p ≡ package_tree q → (m : Monitors) → AreMonitors p m → AreMonitors q m
  pub passes : (p q : Package) → package_tree p ≡ package_tree q → Passes p → Passes q
  pub refuses : (p q : Package) → package_tree p ≡ package_tree q → (e : MonErr) → Refuses p e → Refuses q e
  pub obligations : (p q : Package) → package_tree p ≡ package_tree q → (m : Monitors) (os : List Obligation) → AreObligations p m os → AreObligations q m os
  pub cases : (p q : Package) → package_tree p ≡ package_tree q → (m : Monitors) (e : MonErr) → RefusesCases p m e → RefusesCases q m e
  pub same : (pkg : Package) → IsWellFormed pkg → (m n : Monitors) → AreMonitors pkg m → AreMonitors pkg n → SameMonitors m n
  pub alone : (pkg : Package) → IsWellFormed pkg → (e : MonErr) → Passes pkg → Refuses pkg e → e ≡ Memory
  pub one : (pkg : Package) → IsWellFormed pkg → (e f : MonErr) → e ≢ Memory → f ≢ Memory → Refuses pkg e → Refuses pkg f → e ≡ f
  pub same_obligations : (pkg : Package) (m n : Monitors) → SameMonitors m n → (os ps : List Obligation) → AreObligations pkg m os → AreObligations pkg n ps → SameObligations os ps
  pub few_alone : (pkg : Package) (m n : Monitors) → SameMonitors m n → (os : List Obligation) → AreObligations pkg m os → All HasFewCases os → (e : MonErr) → RefusesCases pkg n e → e ≡ Memory
  pub one_case : (pkg : Package) (m n : Monitors) → SameMonitors m n → (e f : MonErr) → e ≢ Memory → f ≢ Memory → RefusesCases pkg m e → RefusesCases pkg n f → e ≡ f

-- ---- monitors

pub same_monitors : MonitorLaws → (p q : Package) → package_tree p ≡ package_tree q → IsWellFormed q → (m n : Monitors) → HasMonitors p m → HasMonitors q n → SameMonitors m n
same_monitors l p q e good m n h k = l.same q good m n (l.monitors p q e m h.are) k.are

pub one_unmade : MonitorLaws → (p q : Package) → package_tree p ≡ package_tree q → IsWellFormed q → (e f : MonErr) → e ≢ Memory → f ≢ Memory → RefusesPackage p e → RefusesPackage q f → e ≡ f
one_unmade l p q t good e f n o (inl h) (inl k) = l.one q good e f n o (l.refuses p q t e h) k
one_unmade l p q t good e f n o (inl h) (inr k) = absurd (n (l.alone q good e k.1.passes (l.refuses p q t e h)))
one_unmade l p q t good e f n o (inr h) (inl k) = absurd (o (l.alone q good f (l.passes p q t h.1.passes) k))
one_unmade l p q t good e f n o (inr h) (inr k) = l.one_case q h.0 k.0 (same_monitors l p q t good h.0 k.0 h.1 k.1) e f n o (l.cases p q t h.0 e h.2) k.2

-- ---- obligations

pub none_unmade : MonitorLaws → (p q : Package) → package_tree p ≡ package_tree q → IsWellFormed q → (os : List Obligation) (e : MonErr) → e ≢ Memory → HasObligations p os → RefusesPackage q e → ⊥
none_unmade l p q t good os e n h (inl k) = n (l.alone q good e (l.passes p q t h.has.passes) k)
none_unmade l p q t good os e n h (inr k) =
    n (l.few_alone q h.monitors k.0 (same_monitors l p q t good h.monitors k.0 h.has k.1) os (l.obligations p q t h.monitors os h.are) h.few e k.2)

pub same_obligations : MonitorLaws → (p q : Package) → package_tree p ≡ package_tree q → IsWellFormed q → (os ps : List Obligation) → HasObligations p os → HasObligations q ps → SameObligations os ps
same_obligations l p q t good os ps h k =
    l.same_obligations q h.monitors k.monitors (same_monitors l p q t good h.monitors k.monitors h.has k.has) os ps (l.obligations p q t h.monitors os h.are) k.are

same_numbered : (o r : Obligation) → SameObligation o r → cases_of o ≡ cases_of r
same_numbered o r h =
    ap (λ (part : Part). numbered part o.atoms 1 (lists o.cases)) h.part
    ∙ (ap (λ (atoms : List Atom). numbered r.part atoms 1 (lists o.cases)) h.atoms ∙ ap (λ (cs : List Case). numbered r.part r.atoms 1 cs) h.cases)

pub same_cases : (os ps : List Obligation) → SameObligations os ps → all_cases os ≡ all_cases ps
same_cases [] [] h = refl
same_cases [] (r ∷ ps) h = absurd h
same_cases (o ∷ os) [] h = absurd h
same_cases (o ∷ os) (r ∷ ps) h = ap (λ (ds : List NumberedCase). ds ++ all_cases os) (same_numbered o r h.0) ∙ ap (λ (ds : List NumberedCase). cases_of r ++ ds) (same_cases os ps h.1)
