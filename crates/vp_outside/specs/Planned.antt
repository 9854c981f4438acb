-- What an object in memory does at a call, by its plan.
use Rattle.std.specs.Prelude.{ℕ, ◌≡◌, ◌⊎◌, List, Contains, max, min, Option, None, Some}

-- no more than the cut, counted as at least 1, where there is one
abbrev pub cut_short : Option ℕ → ℕ → ℕ
cut_short None count = count
cut_short (Some cut) count = min count (max cut 1)

-- a load fails: its number stands in the plan, or no file was found
abbrev pub IsDueToFail : List ℕ → ℕ → Option (List ℕ) → Type 0
IsDueToFail fails call file = Contains fails call ⊎ (file ≡ None)
