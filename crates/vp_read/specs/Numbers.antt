-- Maps from names to their numbers.
use Rattle.std.specs.Prelude.{ℕ, ◌≡◌, List, Option}
use Rattle.std.specs.Borrow.{Bor}
use Rattle.std.specs.Str.{bytes_eq}
use Rattle.indexmap.specs.IndexMap.{IndexMap, get_by}
use Rattle.vp_terms.specs.declared.package.Names.{Names}
use Rattle.vp_read.specs.Naming.{number_in}

-- the number that a map has for a name
abbrev pub number : {S : Type 0} → IndexMap (Bor (List ℕ)) ℕ S → List ℕ → Option ℕ
number m name = get_by (λ k. bytes_eq name k.now) m

-- a map has for each name that is lent its number in a list
abbrev pub Numbers : {S : Type 0} → List (List ℕ) → IndexMap (Bor (List ℕ)) ℕ S → Type 0
Numbers names m = (q : Bor (List ℕ)) → number m q.now ≡ number_in names q.now

-- maps that have for each name its number among the parameters, states and controls
abbrev pub AreNumbered : {S : Type 0} → Names → IndexMap (Bor (List ℕ)) ℕ S → IndexMap (Bor (List ℕ)) ℕ S → IndexMap (Bor (List ℕ)) ℕ S → Type 0
AreNumbered names params states controls = Numbers names.params params × Numbers names.states states × Numbers names.controls controls
