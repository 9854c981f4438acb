-- The cases of a conjunction of normal forms.
use Rattle.std.specs.Prelude.{◌≡◌, ⊤, ℕ, ◌+◌, ◌-◌, ◌*◌, ◌^◌, ◌<◌, min, Vec, Bool, false, List, [], ◌∷◌, ◌++◌, length, map, slice_get, All}
use Rattle.std.specs.declared.alloc.Global.{Global}
use Rattle.std.specs.List.{list_all, flat_map}
use Rattle.std.specs.Option.{option_map_or}
use Rattle.vp_poly.specs.Value.{Point}
use Rattle.vp_logic.specs.declared.norm.Atom.{Atom}
use Rattle.vp_logic.specs.declared.splitting.CaseErr.{CaseErr}
use Rattle.vp_logic.specs.declared.splitting.CaseErr.TheVariants.{Many, Memory}
use Rattle.vp_logic.specs.Tree.{Tree, Trees, One, AllOf, AnyOf, None, Then, atoms_of}
use Rattle.vp_logic.specs.Truth.{atom_holds}

-- a case: places in the list of all atoms
abbrev pub Case : Type 0
Case = List ℕ

-- each of the first cases with each of the second, the second varying faster
abbrev pub joined : List Case → List Case → List Case
joined cs ds = flat_map (λ c. map (λ d. c ++ d) ds) cs

-- the cases of a form whose first atom has the place k: an atom has one case, itself; an `Or` has
-- those of its members in order; an `And` has all combinations, the last member varying fastest
abbrev mutual
  pub cases_from : ℕ → Tree → List Case
  cases_from k (One a) = (k ∷ []) ∷ []
  cases_from k (AllOf ns) = all_cases_from k ns
  cases_from k (AnyOf ns) = any_cases_from k ns

  pub all_cases_from : ℕ → Trees → List Case
  all_cases_from k None = [] ∷ []
  all_cases_from k (Then n ns) = joined (cases_from k n) (all_cases_from (k + length (atoms_of n)) ns)

  pub any_cases_from : ℕ → Trees → List Case
  any_cases_from k None = []
  any_cases_from k (Then n ns) = cases_from k n ++ any_cases_from (k + length (atoms_of n)) ns

-- the cases of a list of parts that all hold
abbrev pub part_cases_from : ℕ → List Tree → List Case
part_cases_from k [] = [] ∷ []
part_cases_from k (t ∷ ts) = joined (cases_from k t) (part_cases_from (k + length (atoms_of t)) ts)

-- how many cases there are: 1, the sum, and the product
abbrev mutual
  pub case_count : Tree → ℕ
  case_count (One a) = 1
  case_count (AllOf ns) = all_count ns
  case_count (AnyOf ns) = any_count ns

  pub all_count : Trees → ℕ
  all_count None = 1
  all_count (Then n ns) = case_count n * all_count ns

  pub any_count : Trees → ℕ
  any_count None = 0
  any_count (Then n ns) = case_count n + any_count ns

abbrev pub part_count : List Tree → ℕ
part_count [] = 1
part_count (t ∷ ts) = case_count t * part_count ts

-- whether all atoms of a case hold
abbrev pub case_holds : List Atom → Point → Case → Bool
case_holds atoms x c = list_all (λ k. option_map_or (λ a. atom_holds a x) (slice_get atoms k) false) c

-- each place of each case is below n
abbrev pub AreWithin : ℕ → List Case → Type 0
AreWithin n cs = All (λ c. All (λ k. k < n) c) cs

-- the lists in a list of vectors
abbrev pub lists : List (Vec ℕ Global) → List Case
lists vs = map (λ v. v.items) vs

-- a refusal of this number of cases: want of memory, or more than 256, with their number, at most 2^64 - 1
abbrev pub Refuses : ℕ → CaseErr → Type 0
Refuses n (Many count) = (256 < n) × (count ≡ min n (2 ^ 64 - 1))
Refuses n Memory = ⊤
