-- What finishing answers.
use Rattle.std.specs.Prelude.{ℕ, ◌≡◌, Option, Some, None, map, Result, Ok, Err}
use Rattle.vp_isa.specs.declared.code.Code.{Code}
use Rattle.vp_emit.specs.declared.builder.BuildErr.{BuildErr}
use Rattle.vp_emit.specs.declared.builder.BuildErr.TheVariants.{Unplaced, Memory}
use Rattle.vp_emit.specs.Targets.{resolved, first_unplaced}
use Rattle.vp_emit.specs.Draft.{Draft}

-- memory may run out; else the label is told that the earliest instruction whose label has no place uses
abbrev pub Fails : Option ℕ → BuildErr → Type 0
Fails o (Unplaced label) = o ≡ Some label
Fails o Memory = Unit {0}

-- the code is the pushed list, each label replaced by its place, and every label that is used has one
abbrev pub Finishes : Draft → ℕ → ℕ → Result Code BuildErr → Type 0
Finishes draft cells head (Ok code) =
    (first_unplaced draft.places draft.pushed ≡ None)
    × (code.counts ≡ draft.counts) × (code.cells ≡ cells) × (code.head ≡ head)
    × (code.instrs ≡ map (resolved draft.places) draft.pushed)
Finishes draft cells head (Err e) = Fails (first_unplaced draft.places draft.pushed) e
