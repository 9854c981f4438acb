use Rattle.std.proofs.Common.{◌≡◌, ◌∙◌, ℕ, ◌+◌, ◌<◌, arith, slice_index}
use Rattle.std.specs.List.{range_with_len}
use Rattle.std.proofs.lemmas.List.FromFn.{get_or-range_with_len}
use Rattle.vp_synth.proofs.sandbox.copied.Goals as goal

-- each place is sent to itself
kept : (k : ℕ) → k < 32 → slice_index (range_with_len 0 32) k ≡ k
kept k h = let e : 0 + k ≡ k = omega arith in get_or-range_with_len 0 32 k 0 h ∙ e

pub returns : goal.returns
returns c = c.rename.ensures.copy kept
