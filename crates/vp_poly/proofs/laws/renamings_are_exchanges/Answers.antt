use Rattle.vp_poly.proofs.Moving.{IsRenaming-none, IsRenaming-exchanged}
use Rattle.vp_poly.proofs.laws.renamings_are_exchanges.Goals as goal

pub returns : goal.returns
returns c = record { none = IsRenaming-none; exchanged = IsRenaming-exchanged }
