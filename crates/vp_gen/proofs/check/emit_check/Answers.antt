use Rattle.std.proofs.Common.{◌≡◌, ◌+◌, refl, length, arith}
use Rattle.vp_logic.specs.Tree.{tree}
use Rattle.vp_sandbox.specs.Sizes.{form_size}
use Rattle.vp_gen.specs.FormCode.{form_code}
use Rattle.vp_layout.specs.Blocks.{yes_code}
use Rattle.vp_layout.specs.Drafts.{mon_of, Appends}
use Rattle.vp_gen.proofs.Plain.{plain-form}
use Rattle.vp_gen.proofs.Sizes.{length-form}
use Rattle.vp_layout.proofs.Drafts.{fewer_room, plain_no_jumps, room_after, on_ok, block_then}
use Rattle.vp_gen.proofs.check.emit_check.Goals as goal

pub push_block-requires-clause-room : goal.push_block-requires-clause-room
push_block-requires-clause-room c =
    let e : c.deref.result.now ≡ form_code 84 (tree c.args.form.now) c.args.homes.now = rw (c.deref.ensures.value, c.in_ok-emit_form.ensures, c.new-block.ensures.items) refl in
    rw e (fewer_room c.args.b.now (length (form_code 84 (tree c.args.form.now) c.args.homes.now)) (form_size (tree c.args.form.now) + 8)
    (omega (arith, length-form (tree c.args.form.now) 84 c.args.homes.now)) c.requires.room)

pub push_block-requires-clause-plain : goal.push_block-requires-clause-plain
push_block-requires-clause-plain c =
    let e : c.deref.result.now ≡ form_code 84 (tree c.args.form.now) c.args.homes.now = rw (c.deref.ensures.value, c.in_ok-emit_form.ensures, c.new-block.ensures.items) refl in
    rw e (plain_no_jumps (form_code 84 (tree c.args.form.now) c.args.homes.now) (plain-form (tree c.args.form.now) 84 c.args.homes.now))

pub push_yes-requires : goal.push_yes-requires
push_yes-requires c =
    let e : c.deref.result.now ≡ form_code 84 (tree c.args.form.now) c.args.homes.now = rw (c.deref.ensures.value, c.in_ok-emit_form.ensures, c.new-block.ensures.items) refl in
    room_after c.args.b.now c.push_block.new.b (λ p. c.deref.result.now) 4 (form_size (tree c.args.form.now) + 8) c.in_ok-push_block.ensures.appends c.requires.room
    (rw e (omega (arith, length-form (tree c.args.form.now) 84 c.args.homes.now)))

pub returns : goal.returns
returns c =
    let e : c.deref.result.now ≡ form_code 84 (tree c.args.form.now) c.args.homes.now = rw (c.deref.ensures.value, c.in_ok-emit_form.ensures, c.new-block.ensures.items) refl in
    on_ok c.push_yes.result _ _
    (λ (y : Appends c.push_block.new.b c.push_yes.new.b (λ p. yes_code p 84 (mon_of c.args.monitor c.args.k))).
    block_then c.args.b.now c.push_block.new.b c.push_yes.new.b c.deref.result.now (form_code 84 (tree c.args.form.now) c.args.homes.now) (λ p. yes_code p 84 (mon_of c.args.monitor c.args.k)) e c.in_ok-push_block.ensures.appends y)
    c.push_yes.ensures
