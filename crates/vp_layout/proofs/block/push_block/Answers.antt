use Rattle.std.proofs.Common.{◌∙◌, ◌++◌, ap}
use Rattle.std.proofs.lemmas.List.{take_all}
use Rattle.vp_layout.proofs.Drafts.{block_pushed}
use Rattle.vp_layout.proofs.block.push_block.Goals as goal

pub returns-clause-appends : goal.returns-clause-appends
returns-clause-appends c = block_pushed c.args.b.now c.loop-instr.b c.loop-instr.instr-index c.args.block.now c.loop-instr-test.false c.requires.plain c.loop-instr.invariant

pub returns-clause-exact : goal.returns-clause-exact
returns-clause-exact c = c.loop-instr.invariant ∙ ap (λ x. record c.args.b.now { pushed = c.args.b.now.pushed ++ x }) (take_all c.loop-instr.instr-index c.args.block.now c.loop-instr-test.false)
