-- What private calls say to one another while they print the factors of a monomial.
use Rattle.std.specs.Prelude.{ℕ, Bool, true, false, List, [], ◌++◌, codes}
use Rattle.std.specs.List.{flat_map}
use Rattle.vp_synth.specs.Printing.{joined_by}

-- a star, where something stands before it
abbrev pub star_behind : Bool → List ℕ
star_behind true = codes "*"
star_behind false = []

-- factors behind others, or at the front
abbrev pub factors_behind : Bool → List (List ℕ) → List ℕ
factors_behind true ts = flat_map (λ t. codes "*" ++ t) ts
factors_behind false ts = joined_by (codes "*") ts
