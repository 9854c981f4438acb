-- The listing of a package: its monitors, the cases of its obligations, and the sizes of its sandbox.
use Rattle.std.specs.Prelude.{ℕ, suc, List, [], ◌∷◌, ◌++◌, map, slice_get, codes, decimal}
use Rattle.std.specs.List.{flat_map}
use Rattle.std.specs.Option.{option_map_or}
use Rattle.vp_terms.specs.declared.package.Names.{Names}
use Rattle.vp_terms.specs.declared.package.Part.{Part}
use Rattle.vp_terms.specs.declared.package.Part.TheVariants.{Init, Safe, Step, Fallback}
use Rattle.vp_poly.specs.declared.mono.Term.{Term}
use Rattle.vp_logic.specs.declared.norm.Atom.{Atom}
use Rattle.vp_logic.specs.Cases.{Case, lists}
use Rattle.vp_logic.specs.Tree.{Tree, Trees, One, AllOf, AnyOf, None, Then, tree}
use Rattle.vp_monitor.specs.declared.types.Obligation.{Obligation}
use Rattle.vp_sandbox.specs.declared.sandbox.Sandbox.{Sandbox}
use Rattle.vp_sandbox.specs.Sizes.{cell_bound, instruction_bound, saturated}
use Rattle.vp_synth.specs.Printing.{atom_text, form_text, polynomial_text, variable_names}

-- ---- lines

-- of a form: its kind and its number
abbrev pub form_line : List (List ℕ) → List ℕ → ℕ → Tree → List ℕ
form_line variables kind k t = kind ++ codes " " ++ decimal k ++ codes " " ++ form_text variables t ++ codes "\n"

-- of these forms, with numbers from k on
abbrev pub form_lines : List (List ℕ) → List ℕ → ℕ → List Tree → List ℕ
form_lines variables kind k [] = []
form_lines variables kind k (t ∷ ts) = form_line variables kind k t ++ form_lines variables kind (suc k) ts

-- of a control's fallback
abbrev pub fallback_line : List (List ℕ) → List ℕ → List Term → List ℕ
fallback_line variables name p = codes "fallback " ++ name ++ codes " = " ++ polynomial_text variables p ++ codes "\n"

-- of these controls and polynomials, one for one
abbrev pub fallback_lines : List (List ℕ) → List (List ℕ) → List (List Term) → List ℕ
fallback_lines variables [] ps = []
fallback_lines variables (name ∷ names) [] = []
fallback_lines variables (name ∷ names) (p ∷ ps) = fallback_line variables name p ++ fallback_lines variables names ps

abbrev pub part_text : Part → List ℕ
part_text Init = codes "init"
part_text Safe = codes "safe"
part_text Step = codes "step"
part_text Fallback = codes "fallback"

-- of an atom of a case, with the case's number and the atom's label
abbrev pub atom_line : List (List ℕ) → Part → ℕ → ℕ → Atom → List ℕ
atom_line variables part n l a =
    codes "case " ++ part_text part ++ codes " " ++ decimal n ++ codes " " ++ decimal l ++ codes " " ++ atom_text variables a ++ codes "\n"

-- of the atoms at these places, with labels from l on
abbrev pub case_lines : List (List ℕ) → Part → ℕ → List Atom → ℕ → Case → List ℕ
case_lines variables part n atoms l [] = []
case_lines variables part n atoms l (k ∷ ks) =
    option_map_or (atom_line variables part n l) (slice_get atoms k) [] ++ case_lines variables part n atoms (suc l) ks

-- of the cases of an obligation, with numbers from n on
abbrev pub obligation_lines : List (List ℕ) → Part → List Atom → ℕ → List Case → List ℕ
obligation_lines variables part atoms n [] = []
obligation_lines variables part atoms n (c ∷ cs) =
    case_lines variables part n atoms 1 c ++ obligation_lines variables part atoms (suc n) cs

abbrev pub lines_of : List (List ℕ) → Obligation → List ℕ
lines_of variables o = obligation_lines variables o.part o.atoms 1 (lists o.cases)

abbrev pub size_line : ℕ → ℕ → List ℕ
size_line instrs cells = codes "size " ++ decimal instrs ++ codes " " ++ decimal cells ++ codes "\n"

-- ---- the listing

-- the members of an `Or`; any other form alone
abbrev pub each_member : Trees → List Tree
each_member None = []
each_member (Then n ns) = n ∷ each_member ns

abbrev pub disjuncts_of : Tree → List Tree
disjuncts_of (One a) = One a ∷ []
disjuncts_of (AllOf ns) = AllOf ns ∷ []
disjuncts_of (AnyOf ns) = each_member ns

-- of a sandbox over variables with these names, and obligations: the init conjuncts, the controller's
-- paths, the plant's conjuncts, the fallback, the cases, and the sizes
abbrev pub listing : Names → Sandbox → List Obligation → List ℕ
listing names s os =
    form_lines (variable_names names) (codes "init") 1 (map tree s.init)
    ++ form_lines (variable_names names) (codes "ctrl") 1 (disjuncts_of (tree s.ctrl))
    ++ form_lines (variable_names names) (codes "plant") 1 (map tree s.plant)
    ++ fallback_lines (variable_names names) names.controls s.fallback
    ++ flat_map (lines_of (variable_names names)) os
    ++ size_line (saturated (instruction_bound s)) (saturated (cell_bound s))
