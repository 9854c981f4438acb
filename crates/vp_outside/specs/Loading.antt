-- What a load gives of the files that a store tells.
use Rattle.std.specs.Prelude.{ℕ, ◌<◌, ◌≤◌, ◌≡◌, List, [], ◌∷◌, length, Option, None, Some, Result, Ok, Err, if◌then◌else◌}
use Rattle.std.specs.Str.{bytes_eq}
use Rattle.std.specs.Borrow.{Bor}
use Rattle.vp_outside.specs.declared.store.Loaded.{Loaded}
use Rattle.vp_outside.specs.declared.store.Loaded.TheVariants.{Whole, TooLong}
use Rattle.vp_outside.specs.declared.store.LoadErr.{LoadErr}

-- a name and a content
abbrev pub NamedFile : Type 0
NamedFile = List ℕ × List ℕ

-- the content of the first file with the name
abbrev pub file_named : List ℕ → List NamedFile → Option (List ℕ)
file_named name [] = None
file_named name (file ∷ files) = if bytes_eq file.0 name then Some file.1 else file_named name files

-- what a look-up lends is the content that it found
abbrev pub IsLookup : Option (Bor (List ℕ)) → Option (List ℕ) → Type 0
IsLookup None found = found ≡ None
IsLookup (Some bytes) found = found ≡ Some bytes.now

-- the whole file comes where it is short enough, and nothing where it is too long
abbrev pub Loads : Option (List ℕ) → ℕ → Result Loaded LoadErr → List ℕ → Type 0
Loads file max (Ok Whole) into = file ≡ Some into
Loads file max (Ok TooLong) into = (bytes : List ℕ) × (file ≡ Some bytes) × (max < length bytes)
Loads file max (Err e) into = Unit {0}

-- what is known of `into` without the files
abbrev pub FillsUpTo : ℕ → Result Loaded LoadErr → List ℕ → Type 0
FillsUpTo max (Ok Whole) into = length into ≤ max
FillsUpTo max (Ok TooLong) into = into ≡ []
FillsUpTo max (Err e) into = Unit {0}
