use Rattle.std.proofs.Common.{map}
use Rattle.std.specs.Prelude.{string_bytes}
use Rattle.vp_synth.proofs.Lines.{atom_more}
use Rattle.vp_synth.proofs.listing.push_case.Goals as goal

pub loop-k-preserved : goal.loop-k-preserved
loop-k-preserved c = atom_more (map string_bytes c.args.variables.now) c.args.obligation.now.part c.args.number c.args.obligation.now.atoms c.get-atoms.result.now c.args.case.now c.loop-k.k c.index-atoms-place.result _ _ _ c.get-atoms.ensures c.loop-k-test.true c.requires c.index-atoms-place.is c.loop-k.invariant c.in_ok-push_case_atom.ensures
