use Rattle.std.proofs.Common.{ℕ, ◌≡◌, ◌+◌, ◌*◌, ◌++◌, length, map, sum_by, refl, arith}
use Rattle.vp_words.specs.declared.record.Kind.TheVariants as kind
use Rattle.vp_logic.specs.Tree.{tree}
use Rattle.vp_sandbox.specs.Sizes.{form_size}
use Rattle.vp_layout.specs.declared.block.Monitor.TheVariants as monitor
use Rattle.vp_layout.specs.Blocks.{copies, take_code}
use Rattle.vp_layout.specs.Drafts.{mon_of, Appends, HasRoom}
use Rattle.vp_layout.specs.Homes.{homes_of, state_cell, next_state_cell}
use Rattle.vp_layout.proofs.Cells.{plain-copies, length-copies}
use Rattle.vp_layout.proofs.Drafts.{on_ok, appends_on, room_after, fewer_room, plain_no_jumps}
use Rattle.vp_gen.specs.CheckCode.{checks_code}
use Rattle.vp_gen.proofs.Validity.{length-checks}
use Rattle.vp_gen.proofs.build.emit_sense.Goals as goal

pub push_take-requires-clause-room : goal.push_take-requires-clause-room
push_take-requires-clause-room c =
    let s = c.args.s.now in
    fewer_room c.args.b.now 5 (5 + sum_by (λ t. form_size t + 8) (map tree s.plant) + 2 * s.counts.states) (omega arith) c.requires.room

pub emit_checks-requires-clause-room : goal.emit_checks-requires-clause-room
emit_checks-requires-clause-room c =
    let s = c.args.s.now in
    let all = sum_by (λ t. form_size t + 8) (map tree s.plant) in
    rw c.get.ensures (room_after c.args.b.now c.push_take.new.b (λ p. take_code s.counts kind.Sense) all (5 + all + 2 * s.counts.states) c.in_ok-push_take.ensures.appends c.requires.room (omega arith))

pub push_block-requires-clause-room : goal.push_block-requires-clause-room
push_block-requires-clause-room c =
    let s = c.args.s.now in
    let n = s.counts in
    let moves = copies (state_cell n) (next_state_cell n) (2 * n.states) in
    let e : c.deref.result.now ≡ moves =
    rw (c.deref.ensures.value, c.in_ok-emit_copies.ensures, c.new-block.ensures.items, c.of-cells.ensures.states, c.of-cells.ensures.next_states) refl in
    let ts = map tree s.plant in
    let g = λ (p : ℕ). checks_code p 84 (mon_of monitor.Plant) 1 ts (homes_of n) in
    let y : Appends c.push_take.new.b c.emit_checks.new.b g = rw (c.get.ensures, c.requires.homes) at c.in_ok-emit_checks.ensures in
    let all = sum_by (λ t. form_size t + 8) ts in
    let one : HasRoom c.push_take.new.b (all + 2 * n.states) = room_after c.args.b.now c.push_take.new.b (λ p. take_code n kind.Sense) (all + 2 * n.states) (5 + all + 2 * n.states) c.in_ok-push_take.ensures.appends c.requires.room (omega arith) in
    let two : HasRoom c.emit_checks.new.b (2 * n.states) =
    room_after c.push_take.new.b c.emit_checks.new.b g (2 * n.states) (all + 2 * n.states) y one
    (omega (arith, length-checks (length c.push_take.new.b.pushed) 1 (mon_of monitor.Plant) ts (homes_of n))) in
    rw e (fewer_room c.emit_checks.new.b (length moves) (2 * n.states) (omega (arith, length-copies (state_cell n) (next_state_cell n) (2 * n.states))) two)

pub push_block-requires-clause-plain : goal.push_block-requires-clause-plain
push_block-requires-clause-plain c =
    let n = c.args.s.now.counts in
    let moves = copies (state_cell n) (next_state_cell n) (2 * n.states) in
    let e : c.deref.result.now ≡ moves =
    rw (c.deref.ensures.value, c.in_ok-emit_copies.ensures, c.new-block.ensures.items, c.of-cells.ensures.states, c.of-cells.ensures.next_states) refl in
    rw e (plain_no_jumps moves (plain-copies (state_cell n) (next_state_cell n) (2 * n.states)))

pub returns : goal.returns
returns c =
    let s = c.args.s.now in
    let n = s.counts in
    let moves = copies (state_cell n) (next_state_cell n) (2 * n.states) in
    let e : c.deref.result.now ≡ moves =
    rw (c.deref.ensures.value, c.in_ok-emit_copies.ensures, c.new-block.ensures.items, c.of-cells.ensures.states, c.of-cells.ensures.next_states) refl in
    let f = λ (p : ℕ). take_code n kind.Sense in
    let g = λ (p : ℕ). checks_code p 84 (mon_of monitor.Plant) 1 (map tree s.plant) (homes_of n) in
    let k = λ (p : ℕ). moves in
    let y : Appends c.push_take.new.b c.emit_checks.new.b g = rw (c.get.ensures, c.requires.homes) at c.in_ok-emit_checks.ensures in
    let xy = appends_on c.args.b.now c.push_take.new.b c.emit_checks.new.b f g c.in_ok-push_take.ensures.appends y in
    on_ok c.push_block.result _ _
    (λ (z : Appends c.emit_checks.new.b c.push_block.new.b k). appends_on c.args.b.now c.emit_checks.new.b c.push_block.new.b (λ p. f p ++ g (p + length (f p))) k xy z)
    (rw e at c.push_block.ensures.appends)
