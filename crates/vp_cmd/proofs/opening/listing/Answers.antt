use Rattle.std.proofs.Common.{refl, sym, subst}
use Rattle.vp_cmd.specs.Dues.{package_limit}
use Rattle.vp_cmd.specs.Outcomes.{done}
use Rattle.vp_cmd.specs.Steps.{IsStored}
use Rattle.vp_cmd.proofs.Files.{list_due}
use Rattle.vp_cmd.proofs.opening.listing.Goals as goal

pub returns-clause-task : goal.returns-clause-task
returns-clause-task g c =
    let files = g.St.Store.files c.args.store.now in (
      refl,
      list_due files c.args.name.now c.deref.result.now (done c.in_ok-listed.field-0.items) (subst (IsStored files c.args.name.now package_limit) (sym c.deref.ensures.value) c.in_ok-text.ensures.opened)
          c.in_ok-listed.ensures.listed,
    )
