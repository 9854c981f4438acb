use Rattle.std.proofs.Common.{◌≡◌, ◌+◌, ◌++◌, ◌∙◌, length, refl, ap, arith, append_assoc}
use Rattle.vp_words.specs.declared.record.Kind.TheVariants as kind
use Rattle.vp_logic.specs.Tree.{tree}
use Rattle.vp_sandbox.specs.Sizes.{form_size}
use Rattle.vp_emit.specs.Draft.{Draft}
use Rattle.vp_layout.specs.Blocks.{take_code}
use Rattle.vp_layout.specs.Homes.{homes_of}
use Rattle.vp_layout.proofs.Drafts.{on_ok, room_after, fewer_room, plain_no_jumps}
use Rattle.vp_gen.specs.FormCode.{form_code}
use Rattle.vp_gen.proofs.Plain.{plain-form}
use Rattle.vp_gen.proofs.Sizes.{length-form}
use Rattle.vp_gen.proofs.build.emit_test.Goals as goal

pub push_take-requires-clause-room : goal.push_take-requires-clause-room
push_take-requires-clause-room c = fewer_room c.args.b.now 5 (form_size (tree c.args.s.now.ctrl) + 5) (omega arith) c.requires.room

pub push_block-requires-clause-room : goal.push_block-requires-clause-room
push_block-requires-clause-room c =
    let s = c.args.s.now in
    let form = form_code 84 (tree s.ctrl) (homes_of s.counts) in
    let e : c.deref.result.now ≡ form = rw (c.deref.ensures.value, c.in_ok-emit_form.ensures, c.new-block.ensures.items, c.requires.homes) refl in
    rw e (room_after c.args.b.now c.push_take.new.b (λ p. take_code s.counts kind.Choice) (length form) (form_size (tree s.ctrl) + 5) c.in_ok-push_take.ensures.appends c.requires.room
    (omega (arith, length-form (tree s.ctrl) 84 (homes_of s.counts))))

pub push_block-requires-clause-plain : goal.push_block-requires-clause-plain
push_block-requires-clause-plain c =
    let s = c.args.s.now in
    let form = form_code 84 (tree s.ctrl) (homes_of s.counts) in
    let e : c.deref.result.now ≡ form = rw (c.deref.ensures.value, c.in_ok-emit_form.ensures, c.new-block.ensures.items, c.requires.homes) refl in
    rw e (plain_no_jumps form (plain-form (tree s.ctrl) 84 (homes_of s.counts)))

pub returns : goal.returns
returns c =
    let s = c.args.s.now in
    let a = c.args.b.now in
    let form = form_code 84 (tree s.ctrl) (homes_of s.counts) in
    let take = take_code s.counts kind.Choice in
    let e : c.deref.result.now ≡ form = rw (c.deref.ensures.value, c.in_ok-emit_form.ensures, c.new-block.ensures.items, c.requires.homes) refl in
    let b1 = c.push_take.new.b in
    on_ok c.push_block.result _ _
    (λ (y : c.push_block.new.b ≡ record b1 { pushed = b1.pushed ++ form }).
    y ∙ ap (λ (d : Draft). record d { pushed = d.pushed ++ form }) c.in_ok-push_take.ensures.exact ∙ ap (λ z. record a { pushed = z }) (append_assoc a.pushed take form))
    (rw e at c.push_block.ensures.exact)
