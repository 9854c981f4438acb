use Rattle.std.proofs.Common.{map}
use Rattle.std.proofs.lemmas.List.{length-map}
use Rattle.vp_logic.specs.Tree.{tree}
use Rattle.vp_layout.specs.Drafts.{mon_of}
use Rattle.vp_gen.proofs.Listing.{checked_none, checked_room, checked_more, checked_all, need_at, small_at, mapped_at}
use Rattle.vp_gen.proofs.check.emit_checks.Goals as goal

pub loop-i-init : goal.loop-i-init
loop-i-init c = checked_none c.args.b.now (mon_of c.args.monitor) (map tree c.args.forms.now) c.args.homes.now c.requires.room

pub emit_check-requires-clause-room : goal.emit_check-requires-clause-room
emit_check-requires-clause-room c =
    let at = mapped_at tree c.args.forms.now c.loop-i.i c.index-forms-i.result c.loop-i-test.true c.index-forms-i.is in
    checked_room c.args.b.now c.loop-i.b (mon_of c.args.monitor) (map tree c.args.forms.now) c.args.homes.now c.loop-i.i (tree c.index-forms-i.result) at.0 at.1 c.loop-i.invariant

pub emit_check-requires-clause-need : goal.emit_check-requires-clause-need
emit_check-requires-clause-need c =
    let at = mapped_at tree c.args.forms.now c.loop-i.i c.index-forms-i.result c.loop-i-test.true c.index-forms-i.is in
    need_at (map tree c.args.forms.now) c.loop-i.i (tree c.index-forms-i.result) at.0 at.1 c.requires.need

pub emit_check-requires-clause-small : goal.emit_check-requires-clause-small
emit_check-requires-clause-small c =
    let at = mapped_at tree c.args.forms.now c.loop-i.i c.index-forms-i.result c.loop-i-test.true c.index-forms-i.is in
    small_at (map tree c.args.forms.now) c.loop-i.i (tree c.index-forms-i.result) at.0 at.1 c.requires.small

pub loop-i-preserved : goal.loop-i-preserved
loop-i-preserved c =
    let at = mapped_at tree c.args.forms.now c.loop-i.i c.index-forms-i.result c.loop-i-test.true c.index-forms-i.is in
    checked_more c.args.b.now c.loop-i.b c.emit_check.new.b (mon_of c.args.monitor) (map tree c.args.forms.now) c.args.homes.now c.loop-i.i (tree c.index-forms-i.result) at.0 at.1 c.loop-i.invariant c.in_ok-emit_check.ensures

pub returns : goal.returns
returns c = checked_all c.args.b.now c.loop-i.b (mon_of c.args.monitor) (map tree c.args.forms.now) c.args.homes.now c.loop-i.i (rw length-map c.loop-i-test.false) c.loop-i.invariant
