-- Cutting: an input in pieces, one after the other.
use Rattle.std.specs.Prelude.{ℕ, ◌≡◌, ◌++◌, List, [], ◌∷◌, Option}
use Rattle.vp_isa.specs.declared.code.Code.{Code}
use Rattle.vp_runner.specs.declared.ends.Fed.{Fed}
use Rattle.vp_runner.specs.declared.ends.Fed.TheVariants as fed
use Rattle.vp_runner.specs.Sessions.{Feeds, SessionState, StandsFor}

-- behind a call that goes on the others follow, and any other answer is the last
abbrev pub FollowedBy : Type 0 → Fed → Fed → Option (List ℕ) → Option (List ℕ) → Type 0
FollowedBy others fed.Going last mid now = others
FollowedBy others first last mid now = (last ≡ first) × (now ≡ mid)

-- pieces are fed one after the other behind these bytes, up to the end of the run: the last answer, the
-- session behind it and what was printed
abbrev pub FeedsAll : Fed → Code → List ℕ → List (List ℕ) → SessionState → Option (List ℕ) → Option (List ℕ) → Type 0
FeedsAll last code bytes [] s before now = (last ≡ fed.Going) × StandsFor code bytes s × (now ≡ before)
FeedsAll last code bytes (piece ∷ pieces) s before now = (first : Fed) × (t : SessionState) × (mid : Option (List ℕ))
    × Feeds first code bytes piece t before mid × FollowedBy (FeedsAll last code (bytes ++ piece) pieces s mid now) first last mid now
