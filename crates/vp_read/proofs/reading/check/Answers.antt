use Rattle.std.proofs.Common.{sym, ◌∙◌}
use Rattle.vp_read.proofs.Drafting.{stray_within}
use Rattle.vp_read.proofs.reading.check.Goals as goal

pub string_of-requires : goal.string_of-requires
string_of-requires c =
    stray_within c.args.text.now c.places-places.result c.in-Some-first_stray_from.piece c.args.known.now c.from_fifth.result.now c.in-Some-first_stray_from.span c.from_fifth.ensures c.requires.within (sym c.in-Some-first_stray_from.is ∙ c.first_stray_from.ensures)
