use Rattle.std.proofs.Common.{arith, ap, length}
use Rattle.vp_outside.proofs.Remaining.{left-given, left-at_end}
use Rattle.vp_outside.proofs.memory.source.MemSourceSource.read.Goals as goal

pub returns-clause-bytes : goal.returns-clause-bytes
returns-clause-bytes c =
    let left = rw c.get-2.ensures at c.from_place-left.ensures in
    let some = c.cut_count-count.ensures.some in
    (left-given c.args.self.now.at c.cut_count-count.result c.args.self.now.bytes _ (rw left at c.copy_front.ensures.copied), λ none filled. left-at_end c.args.self.now.at c.cut_count-count.result c.args.self.now.bytes none (λ more. some (omega (arith, ap length left))))
