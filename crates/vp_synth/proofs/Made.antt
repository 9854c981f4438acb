-- What is made of a package.
use Rattle.std.proofs.Common.{◌≡◌, ℕ, ◌+◌, ◌<◌, ◌^◌, Bool, true, false, ◌&&◌, IsTrue, List, [], ◌∷◌, ◌++◌, length, refl, sym, ap, ◌∙◌, subst, arith}
use Rattle.std.specs.List.{All, list_all}
use Rattle.std.proofs.lemmas.List.{length-map}
use Rattle.std.proofs.lemmas.List.Elements.{All-nil, All-cons, All-head, All-tail}
use Rattle.vp_terms.specs.Certificates.{IsCertificate}
use Rattle.vp_terms.specs.WellFormed.{is_good_cert}
use Rattle.vp_terms.specs.declared.expr.Places.{Places}
use Rattle.vp_terms.specs.declared.package.Cert.{Cert}
use Rattle.vp_terms.specs.declared.package.Package.{Package}
use Rattle.vp_terms.specs.declared.package.Part.{Part}
use Rattle.vp_terms.specs.declared.prog.Prog.{Prog}
use Rattle.vp_poly.specs.Value.{Point}
use Rattle.vp_logic.specs.Cases.{AreWithin, Case, case_holds, lists, part_cases_from}
use Rattle.vp_logic.specs.declared.norm.Atom.{Atom}
use Rattle.vp_logic.specs.Tree.{Tree, all_atoms, tree}
use Rattle.vp_ctrl.specs.declared.path.Path.{Path}
use Rattle.vp_ctrl.specs.Paths.{ArePaths}
use Rattle.vp_ctrl.specs.Ways.{Way, way_count, ways}
use Rattle.vp_monitor.specs.Obligations.{AreNeverMet, AreObligationsOf, HasFewCases, HasSmallAtoms, IsNeverMet, path_tree}
use Rattle.vp_monitor.specs.declared.types.Obligation.{Obligation}
use Rattle.vp_sandbox.specs.declared.sandbox.Sandbox.{Sandbox}
use Rattle.vp_synth.specs.Accepting.{AreMadeOf}
use Rattle.vp_synth.specs.Certifying.{NumberedCase, all_cases, cases_of, numbered}
use Rattle.vp_synth.specs.Going.{IsGoodCert, IsSplit, NeverHold}
use Rattle.vp_synth.specs.Listing.{disjuncts_of}
use Rattle.vp_synth.proofs.Listed.{paths_are}

-- ---- what is listed

-- there are at most 256 paths
pub few_paths : (pkg : Package) (os : List Obligation) (s : Sandbox) → ((g : Prog) → length (ways g) ≡ way_count g) → ((p : Places) (ws : List Way) (xs : List Path) → ArePaths p ws xs → length xs ≡ length ws) →
    AreMadeOf pkg os s → length (disjuncts_of (tree s.ctrl)) < 2 ^ 32
few_paths pkg os s counted bounded h =
    let m = h.has.monitors in
    let e = ap length (paths_are m s h.made) ∙ length-map m.paths path_tree in
    omega (arith, e, bounded _ _ m.paths h.has.has.are.paths, counted pkg.ctrl, h.has.has.passes.before.ctrl.few)

-- the places of each case are those of atoms
pub all_within : (f : Part → List Tree) (ps : List Part) (os : List Obligation) → ((ts : List Tree) → AreWithin (length (all_atoms ts)) (part_cases_from 0 ts)) →
    AreObligationsOf f ps os → All (λ (o : Obligation). AreWithin (length o.atoms) (lists o.cases)) os
all_within f [] [] w h = All-nil (λ (o : Obligation). AreWithin (length o.atoms) (lists o.cases))
all_within f [] (o ∷ os) w h = absurd h
all_within f (p ∷ ps) [] w h = absurd h
all_within f (p ∷ ps) (o ∷ os) w h =
    All-cons (λ (o : Obligation). AreWithin (length o.atoms) (lists o.cases)) o os
    (subst (λ (cs : List Case). AreWithin (length o.atoms) cs) (sym h.0.cases) (subst (λ (l : List Atom). AreWithin (length l) (part_cases_from 0 (f p))) (sym h.0.atoms) (w (f p))))
    (all_within f ps os w h.1)

-- ---- what is certified

pub all_split : (n : ℕ) (os : List Obligation) → All (HasSmallAtoms n) os → All HasFewCases os → All IsSplit os
all_split n os h f = λ i d l.
    let s = h i d l in
    record { places = s.within; polynomials = λ j e k. (s.sized j e k).poly; small = λ j e k. (s.sized j e k).small; few = f i d l }

both : (a b : Bool) → IsTrue (a && b) → IsTrue a × IsTrue b
both true b h = (refl, h)
both false b h = absurd (cc)

pub good_certs : (p : Places) (cs : List Cert) → All IsCertificate cs → IsTrue (list_all (is_good_cert p) cs) → All (IsGoodCert p) cs
good_certs p [] f g = All-nil (IsGoodCert p)
good_certs p (c ∷ cs) f g =
    let h = both (is_good_cert p c) (list_all (is_good_cert p) cs) g in
    All-cons (IsGoodCert p) c cs (record { form = All-head IsCertificate c cs f; good = h.0 }) (good_certs p cs (All-tail IsCertificate c cs f) h.1)

-- ---- what is never met

front : (x : Point) (ks bs : List NumberedCase) → NeverHold x (ks ++ bs) → NeverHold x ks
front x [] bs h = tt
front x (a ∷ ks) bs h = (h.0, front x ks bs h.1)

back : (x : Point) (ks bs : List NumberedCase) → NeverHold x (ks ++ bs) → NeverHold x bs
back x [] bs h = h
back x (a ∷ ks) bs h = back x ks bs h.1

each_never : (part : Part) (atoms : List Atom) (n : ℕ) (cs : List Case) → ((x : Point) → NeverHold x (numbered part atoms n cs)) → All (λ (c : Case). (z : Point) → case_holds atoms z c ≡ false) cs
each_never part atoms n [] h = All-nil (λ (c : Case). (z : Point) → case_holds atoms z c ≡ false)
each_never part atoms n (c ∷ cs) h = All-cons (λ (c : Case). (z : Point) → case_holds atoms z c ≡ false) c cs (λ z. (h z).0) (each_never part atoms (n + 1) cs (λ z. (h z).1))

pub never_met : (os : List Obligation) → ((x : Point) → NeverHold x (all_cases os)) → AreNeverMet os
never_met [] h = All-nil IsNeverMet
never_met (o ∷ os) h = All-cons IsNeverMet o os (each_never o.part o.atoms 1 (lists o.cases) (λ x. front x (cases_of o) (all_cases os) (h x))) (never_met os (λ x. back x (cases_of o) (all_cases os) (h x)))
