use Rattle.std.proofs.Common.{sym, ◌∙◌}
use Rattle.vp_read.proofs.Drafting.{stray_stands}
use Rattle.vp_read.proofs.strays.check_variables.Goals as goal

pub string_of-requires : goal.string_of-requires
string_of-requires c =
    stray_stands c.args.text.now c.args.rule c.args.places 0 c.args.piece.now c.in-Some.span c.requires.within (sym c.first_stray.ensures ∙ c.in-Some.is)
