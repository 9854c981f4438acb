use Rattle.std.proofs.Common.{◌≡◌, ◌+◌, refl, length, arith}
use Rattle.vp_sandbox.specs.Sizes.{poly_size}
use Rattle.vp_gen.specs.PolyCode.{poly_code}
use Rattle.vp_gen.specs.SandboxCode.{same_code}
use Rattle.vp_layout.specs.Drafts.{Appends}
use Rattle.vp_gen.proofs.Plain.{plain-poly}
use Rattle.vp_gen.proofs.Sizes.{length-poly}
use Rattle.vp_layout.proofs.Drafts.{fewer_room, plain_no_jumps, room_after, on_ok, block_then}
use Rattle.vp_gen.proofs.check.emit_word.Goals as goal

pub push_block-requires-clause-room : goal.push_block-requires-clause-room
push_block-requires-clause-room c =
    let e : c.deref.result.now ≡ poly_code 84 c.args.p.now c.args.homes.now = rw (c.deref.ensures.value, c.in_ok-emit_poly.ensures, c.new-block.ensures.items) refl in
    rw e (fewer_room c.args.b.now (length (poly_code 84 c.args.p.now c.args.homes.now)) (poly_size c.args.p.now + 6)
    (omega (arith, length-poly 84 c.args.p.now c.args.homes.now)) c.requires.room)

pub push_block-requires-clause-plain : goal.push_block-requires-clause-plain
push_block-requires-clause-plain c =
    let e : c.deref.result.now ≡ poly_code 84 c.args.p.now c.args.homes.now = rw (c.deref.ensures.value, c.in_ok-emit_poly.ensures, c.new-block.ensures.items) refl in
    rw e (plain_no_jumps (poly_code 84 c.args.p.now c.args.homes.now) (plain-poly 84 c.args.p.now c.args.homes.now))

pub emit_same-requires : goal.emit_same-requires
emit_same-requires c =
    let e : c.deref.result.now ≡ poly_code 84 c.args.p.now c.args.homes.now = rw (c.deref.ensures.value, c.in_ok-emit_poly.ensures, c.new-block.ensures.items) refl in
    room_after c.args.b.now c.push_block.new.b (λ p. c.deref.result.now) 3 (poly_size c.args.p.now + 6) c.in_ok-push_block.ensures.appends c.requires.room
    (rw e (omega (arith, length-poly 84 c.args.p.now c.args.homes.now)))

pub returns : goal.returns
returns c =
    let e : c.deref.result.now ≡ poly_code 84 c.args.p.now c.args.homes.now = rw (c.deref.ensures.value, c.in_ok-emit_poly.ensures, c.new-block.ensures.items) refl in
    on_ok c.emit_same.result _ _
    (λ (y : Appends c.push_block.new.b c.emit_same.new.b (λ p. same_code p c.args.f)).
    block_then c.args.b.now c.push_block.new.b c.emit_same.new.b c.deref.result.now (poly_code 84 c.args.p.now c.args.homes.now) (λ p. same_code p c.args.f) e c.in_ok-push_block.ensures.appends y)
    c.emit_same.ensures
