-- Outcomes that can't be told apart by what their images do.
use Rattle.std.specs.Prelude.{◌≡◌, ◌⊎◌, ℕ, List}
use Rattle.vp_image.specs.Image.{image}
use Rattle.vp_isa.specs.Answering.{machine_of}
use Rattle.vp_isa.specs.declared.code.Code.{Code}
use Rattle.vp_stream.specs.Run.{run}
use Rattle.vp_cmd.specs.Outcomes.{Outcome, done}

-- the outcomes are the same, or images with one digest of codes that run alike over every input
abbrev pub AreAlike : Outcome → Outcome → Type 0
AreAlike d e = (d ≡ e) ⊎ ((code : Code) × (other : Code) × (digest : List ℕ) × (d ≡ done (image code digest)) × (e ≡ done (image other digest))
    × ((input : List ℕ) → run (machine_of code) input ≡ run (machine_of other) input))
