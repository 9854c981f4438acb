use Rattle.std.proofs.Common.{◌∙◌, sym}
use Rattle.vp_isa.proofs.Checking.{valid_from}
use Rattle.vp_isa.proofs.code.Checked.of.Goals as goal

pub invariant_of-result : goal.invariant_of-result
invariant_of-result c =
    let none = sym c.first_refusal_of.ensures ∙ c.in-None.is in
    (none, valid_from c.args.code none)
