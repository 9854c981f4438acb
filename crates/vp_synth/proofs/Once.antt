-- A package has one sandbox and one listing, but for boxes.
use Rattle.std.proofs.Common.{◌≡◌, ℕ, List, [], ◌∷◌, ◌++◌, map, refl, sym, ap, ◌∙◌}
use Rattle.std.specs.List.{flat_map}
use Rattle.vp_terms.specs.Packages.{PackageTree, package_tree}
use Rattle.vp_terms.specs.WellFormed.{IsWellFormed}
use Rattle.vp_terms.specs.declared.package.Names.{Names}
use Rattle.vp_terms.specs.declared.package.Package.{Package}
use Rattle.vp_terms.specs.declared.package.Part.{Part}
use Rattle.vp_logic.specs.Cases.{Case, lists}
use Rattle.vp_logic.specs.Tree.{Tree, AllOf, AnyOf, conjuncts_of, members}
use Rattle.vp_logic.specs.declared.norm.Atom.{Atom}
use Rattle.vp_ctrl.specs.Paths.{parts_of}
use Rattle.vp_ctrl.specs.declared.path.Path.{Path}
use Rattle.vp_monitor.specs.Obligations.{path_tree}
use Rattle.vp_monitor.specs.Same.{SameMonitors, SameObligation, SameObligations}
use Rattle.vp_monitor.specs.declared.types.Monitors.{Monitors}
use Rattle.vp_monitor.specs.declared.types.Obligation.{Obligation}
use Rattle.vp_sandbox.specs.declared.sandbox.Sandbox.{Sandbox}
use Rattle.vp_synth.specs.Accepting.{AreMadeOf}
use Rattle.vp_synth.specs.Listing.{lines_of, listing, obligation_lines}
use Rattle.vp_synth.specs.Printing.{variable_names}
use Rattle.vp_synth.specs.Sandboxes.{IsMadeOf, SameParts}
use Rattle.vp_synth.proofs.Unmade.{MonitorLaws, same_monitors, same_obligations}

-- the forms of paths are made of their parts
path_forms : (xs : List Path) → map path_tree xs ≡ map (λ (ts : List Tree). AllOf (members ts)) (map parts_of xs)
path_forms [] = refl
path_forms (x ∷ xs) = ap (λ (ts : List Tree). path_tree x ∷ ts) (path_forms xs)

same_parts : (m n : Monitors) (s t : Sandbox) → SameMonitors m n → IsMadeOf m s → IsMadeOf n t → SameParts s t
same_parts m n s t e h k = record {
  counts = h.counts ∙ (e.counts ∙ sym k.counts);
  init = h.init ∙ (ap conjuncts_of e.init ∙ sym k.init);
  ctrl = h.ctrl ∙ (ap (λ (ts : List Tree). AnyOf (members ts)) (path_forms m.paths ∙ (ap (map (λ (ts : List Tree). AllOf (members ts))) e.paths ∙ sym (path_forms n.paths))) ∙ sym k.ctrl);
  plant = h.plant ∙ (e.plant ∙ sym k.plant);
  fallback = h.fallback ∙ (e.fallback ∙ sym k.fallback);
}

pub one_sandbox : MonitorLaws → (p q : Package) → package_tree p ≡ package_tree q → IsWellFormed q → (os ps : List Obligation) (s t : Sandbox) → AreMadeOf p os s → AreMadeOf q ps t → SameParts s t
one_sandbox l p q e good os ps s t h k = same_parts h.has.monitors k.has.monitors s t (same_monitors l p q e good h.has.monitors k.has.monitors h.has.has k.has.has) h.made k.made

same_lines : (vs : List (List ℕ)) (o r : Obligation) → SameObligation o r → lines_of vs o ≡ lines_of vs r
same_lines vs o r h =
    ap (λ (part : Part). obligation_lines vs part o.atoms 1 (lists o.cases)) h.part
    ∙ (ap (λ (atoms : List Atom). obligation_lines vs r.part atoms 1 (lists o.cases)) h.atoms ∙ ap (λ (cs : List Case). obligation_lines vs r.part r.atoms 1 cs) h.cases)

all_lines : (vs : List (List ℕ)) (os ps : List Obligation) → SameObligations os ps → flat_map (lines_of vs) os ≡ flat_map (lines_of vs) ps
all_lines vs [] [] h = refl
all_lines vs [] (r ∷ ps) h = absurd h
all_lines vs (o ∷ os) [] h = absurd h
all_lines vs (o ∷ os) (r ∷ ps) h = ap (λ (l : List ℕ). l ++ flat_map (lines_of vs) os) (same_lines vs o r h.0) ∙ ap (λ (l : List ℕ). lines_of vs r ++ l) (all_lines vs os ps h.1)

listed : (names : Names) (s t : Sandbox) (os ps : List Obligation) → SameParts s t → SameObligations os ps → listing names s os ≡ listing names t ps
listed names s t os ps h k = rw h.counts (rw h.init (rw h.ctrl (rw h.plant (rw h.fallback (rw (all_lines (variable_names names) os ps k) refl)))))

pub one_listing : MonitorLaws → (p q : Package) → package_tree p ≡ package_tree q → IsWellFormed q → (os ps : List Obligation) (s t : Sandbox) → AreMadeOf p os s → AreMadeOf q ps t → listing p.names s os ≡ listing q.names t ps
one_listing l p q e good os ps s t h k =
    listed p.names s t os ps (one_sandbox l p q e good os ps s t h k) (same_obligations l p q e good os ps h.has k.has)
    ∙ ap (λ (names : Names). listing names t ps) (ap (λ (u : PackageTree). u.names) e)
