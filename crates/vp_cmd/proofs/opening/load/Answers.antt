use Rattle.vp_cmd.proofs.Files.{stored, too_long}
use Rattle.vp_cmd.proofs.opening.load.Goals as goal

pub returns-in-Ok-Whole-clause-loaded : goal.returns-in-Ok-Whole-clause-loaded
returns-in-Ok-Whole-clause-loaded g c =
    stored (g.St.Store.files c.args.store.now) c.args.name.now c.load.new.into.items c.args.limit
    (rw c.in-Ok-Whole.field-0-is at c.in-Ok-Whole.ensures.content) (rw c.in-Ok-Whole.field-0-is at c.in-Ok-Whole.ensures.bound)

pub returns-in-Ok-TooLong-clause-loaded : goal.returns-in-Ok-TooLong-clause-loaded
returns-in-Ok-TooLong-clause-loaded g c =
    too_long (g.St.Store.files c.args.store.now) c.args.name.now c.load.new.into.items c.args.limit
    (rw c.in-Ok-TooLong.field-0-is at c.in-Ok-TooLong.ensures.content)
