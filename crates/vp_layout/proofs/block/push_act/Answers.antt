use Rattle.std.proofs.Common.{◌≡◌, ◌∷◌, refl, arith}
use Rattle.vp_isa.specs.declared.instr.Instr.TheVariants.{Act}
use Rattle.vp_layout.specs.Homes.{control_cell}
use Rattle.vp_layout.specs.Blocks.{copies}
use Rattle.vp_layout.proofs.Cells.{plain-copies, length-copies}
use Rattle.vp_layout.proofs.Drafts.{fewer_room, plain_no_jumps}
use Rattle.vp_layout.proofs.block.push_act.Goals as goal

pub push_block-requires-clause-room : goal.push_block-requires-clause-room
push_block-requires-clause-room c =
    let e : c.deref.result.now ≡ Act c.args.fallback c.args.d ∷ copies (control_cell c.args.counts) c.args.d c.args.counts.controls =
    rw (c.deref.ensures.value, c.in_ok-emit_copies.ensures, c.in_ok-push.ensures.items, c.new-block.ensures.items, c.of.ensures.controls) refl in
    rw e (fewer_room c.args.b.now _ _ (omega (arith, length-copies (control_cell c.args.counts) c.args.d c.args.counts.controls)) c.requires.room)

pub push_block-requires-clause-plain : goal.push_block-requires-clause-plain
push_block-requires-clause-plain c =
    let e : c.deref.result.now ≡ Act c.args.fallback c.args.d ∷ copies (control_cell c.args.counts) c.args.d c.args.counts.controls =
    rw (c.deref.ensures.value, c.in_ok-emit_copies.ensures, c.in_ok-push.ensures.items, c.new-block.ensures.items, c.of.ensures.controls) refl in
    rw e (plain_no_jumps (copies (control_cell c.args.counts) c.args.d c.args.counts.controls) (plain-copies (control_cell c.args.counts) c.args.d c.args.counts.controls))

pub returns : goal.returns
returns c =
    let e : c.deref.result.now ≡ Act c.args.fallback c.args.d ∷ copies (control_cell c.args.counts) c.args.d c.args.counts.controls =
    rw (c.deref.ensures.value, c.in_ok-emit_copies.ensures, c.in_ok-push.ensures.items, c.new-block.ensures.items, c.of.ensures.controls) refl in
    rw (← e) c.push_block.ensures.appends
