use Rattle.std.proofs.Common.{List, length, ◌++◌, ap, ℤ, pos}
use Rattle.std.proofs.lemmas.List.{drop-replicate}
use Rattle.vp_sandbox.proofs.answering.padded.Goals as goal

pub returns : goal.returns
returns c = rw c.copy_from_slice.ensures.after (ap (λ (l : List ℤ). c.args.words.now ++ l) (drop-replicate (length c.args.words.now) 16 (pos 0)))
