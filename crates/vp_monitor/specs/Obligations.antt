-- The four obligations: lists of parts that are never to hold together, and their cases.
use Rattle.std.specs.Prelude.{◌≡◌, ⊤, ℕ, suc, ◌<◌, ◌≤◌, ◌-◌, ◌^◌, min, ◌⊎◌, false, List, [], ◌∷◌, ◌++◌, length, map, All}
use Rattle.vp_terms.specs.declared.expr.Expr.{Expr}
use Rattle.vp_terms.specs.declared.expr.Expr.TheVariants.{Var as Variable}
use Rattle.vp_terms.specs.declared.expr.Places.{Places}
use Rattle.vp_terms.specs.declared.expr.Var.TheVariants.{NextControl}
use Rattle.vp_terms.specs.declared.formula.Cmp.TheVariants.{Eq}
use Rattle.vp_terms.specs.declared.formula.Formula.TheVariants.{Cmp as Compare}
use Rattle.vp_terms.specs.declared.package.Package.{Package}
use Rattle.vp_terms.specs.declared.package.Part.{Part}
use Rattle.vp_terms.specs.declared.package.Part.TheVariants.{Init, Safe, Step, Fallback}
use Rattle.vp_poly.specs.Places.{places_for}
use Rattle.vp_poly.specs.Value.{Point}
use Rattle.vp_logic.specs.Cases.{AreWithin, Case, case_holds, lists, part_cases_from, part_count}
use Rattle.vp_logic.specs.Renamed.{IsRenamed}
use Rattle.vp_logic.specs.Sized.{IsSizedAtom}
use Rattle.vp_logic.specs.Tree.{Tree, AllOf, AnyOf, all_atoms, members, negated, tree}
use Rattle.vp_ctrl.specs.declared.path.Path.{Path}
use Rattle.vp_ctrl.specs.Paths.{parts_of}
use Rattle.vp_monitor.specs.declared.error.MonErr.{MonErr}
use Rattle.vp_monitor.specs.declared.error.MonErr.TheVariants as err
use Rattle.vp_monitor.specs.declared.types.Monitors.{Monitors}
use Rattle.vp_monitor.specs.declared.types.Obligation.{Obligation}
use Rattle.vp_monitor.specs.Exchange.{actuating, priming}
use Rattle.vp_monitor.specs.Plant.{IsOwnNormal}

-- the `And` of a path's parts
abbrev pub path_tree : Path → Tree
path_tree path = AllOf (members (parts_of path))

-- each form renamed
abbrev pub EachIsRenamed : List ℕ → List Tree → List Tree → Type 0
EachIsRenamed to [] [] = ⊤
EachIsRenamed to [] (u ∷ us) = ⊥
EachIsRenamed to (t ∷ ts) [] = ⊥
EachIsRenamed to (t ∷ ts) (u ∷ us) = IsRenamed to t u × EachIsRenamed to ts us

-- the normal forms of `x@ = e` for the controls from number k on
abbrev pub AreEquations : Places → ℕ → List Expr → List Tree → Type 0
AreEquations p k [] [] = ⊤
AreEquations p k [] (t ∷ ts) = ⊥
AreEquations p k (e ∷ es) [] = ⊥
AreEquations p k (e ∷ es) (t ∷ ts) = IsOwnNormal p (Compare Eq (Variable (NextControl k)) e) t × AreEquations p (suc k) es ts

-- init; the negated invariant
abbrev pub init_parts : Monitors → List Tree
init_parts m = tree m.init ∷ negated (tree m.inv) ∷ []

-- the invariant; the negated `safe`
abbrev pub safe_parts : Monitors → List Tree
safe_parts m = tree m.inv ∷ negated (tree m.safe) ∷ []

-- the invariant; the `Or` of the paths; each plant conjunct with next controls; the negated invariant with
-- next states and next controls
pub record AreStepParts (m : Monitors) (parts : List Tree) : Type 0 where
  pub plant : List Tree
  pub inv : Tree
  pub is : parts ≡ tree m.inv ∷ AnyOf (members (map path_tree m.paths)) ∷ plant ++ negated inv ∷ []
  pub actuated : EachIsRenamed (actuating (places_for m.counts)) (map tree m.plant) plant
  pub primed : IsRenamed (priming (places_for m.counts)) (tree m.inv) inv

-- the invariant; `x@ = e` for each control; each path, negated
pub record AreFallbackParts (pkg : Package) (m : Monitors) (parts : List Tree) : Type 0 where
  pub equations : List Tree
  pub is : parts ≡ tree m.inv ∷ equations ++ map (λ path. negated (path_tree path)) m.paths
  pub are_equations : AreEquations (places_for m.counts) 0 pkg.fallback equations

-- the parts of the four
pub record PartLists (pkg : Package) (m : Monitors) : Type 0 where
  pub step : List Tree
  pub fallback : List Tree
  pub are_step : AreStepParts m step
  pub are_fallback : AreFallbackParts pkg m fallback

abbrev pub parts_for : {pkg : Package} {m : Monitors} → PartLists pkg m → Part → List Tree
parts_for {pkg} {m} l Init = init_parts m
parts_for {pkg} {m} l Safe = safe_parts m
parts_for {pkg} {m} l Step = l.step
parts_for {pkg} {m} l Fallback = l.fallback

-- the obligation of these parts: their atoms from left to right, and their cases
pub record IsObligation (part : Part) (parts : List Tree) (o : Obligation) : Type 0 where
  pub part_is : o.part ≡ part
  pub atoms : o.atoms ≡ all_atoms parts
  pub cases : lists o.cases ≡ part_cases_from 0 parts

-- one for each of these, in order
abbrev pub AreObligationsOf : (Part → List Tree) → List Part → List Obligation → Type 0
AreObligationsOf f [] [] = ⊤
AreObligationsOf f [] (o ∷ os) = ⊥
AreObligationsOf f (p ∷ ps) [] = ⊥
AreObligationsOf f (p ∷ ps) (o ∷ os) = IsObligation p (f p) o × AreObligationsOf f ps os

abbrev pub all_parts : List Part
all_parts = Init ∷ Safe ∷ Step ∷ Fallback ∷ []

-- the obligations of a package with these monitors
pub record AreObligations (pkg : Package) (m : Monitors) (os : List Obligation) : Type 0 where
  pub lists_of : PartLists pkg m
  pub are : AreObligationsOf (parts_for lists_of) all_parts os

-- no point meets all atoms of a case of any obligation
abbrev pub IsNeverMet : Obligation → Type 0
IsNeverMet o = All (λ (c : Case). (z : Point) → case_holds o.atoms z c ≡ false) (lists o.cases)

abbrev pub AreNeverMet : List Obligation → Type 0
AreNeverMet os = All IsNeverMet os

-- its atoms have small polynomials with places below n, and each place of a case is that of an atom
pub record HasSmallAtoms (n : ℕ) (o : Obligation) : Type 0 where
  pub sized : All (IsSizedAtom n) o.atoms
  pub within : AreWithin (length o.atoms) (lists o.cases)

-- it has at most 256 cases
abbrev pub HasFewCases : Obligation → Type 0
HasFewCases o = length (lists o.cases) ≤ 256

-- ---- refusals

-- memory ran out
abbrev pub IsMemory : MonErr → Type 0
IsMemory e = e ≡ err.Memory

-- the refusal tells that these parts have more than 256 cases
abbrev pub TellsCases : Part → List Tree → MonErr → Type 0
TellsCases part ts (err.Cases p count) = (p ≡ part) × (256 < part_count ts) × (count ≡ min (part_count ts) (2 ^ 64 - 1))
TellsCases part ts err.Memory = ⊤
TellsCases part ts e = ⊥

-- none of these has more than 256 cases
abbrev pub EachIsFew : (Part → List Tree) → List Part → Type 0
EachIsFew f ps = All (λ (p : Part). part_count (f p) ≤ 256) ps

-- the first of these with more than 256 cases, and their number, at most 2^64 - 1
abbrev pub IsFirstOver : (Part → List Tree) → List Part → Part → ℕ → Type 0
IsFirstOver f [] part count = ⊥
IsFirstOver f (p ∷ ps) part count =
    ((part ≡ p) × (256 < part_count (f p)) × (count ≡ min (part_count (f p)) (2 ^ 64 - 1)))
    ⊎ ((part_count (f p) ≤ 256) × IsFirstOver f ps part count)

-- the refusal is due; want of memory always may be
abbrev pub RefusesCases : Package → Monitors → MonErr → Type 0
RefusesCases pkg m (err.Cases part count) = (l : PartLists pkg m) × IsFirstOver (parts_for l) all_parts part count
RefusesCases pkg m err.Memory = ⊤
RefusesCases pkg m e = ⊥
