use Rattle.std.proofs.Common.{◌≡◌, ◌*◌, length, map, IsTrue, arith, rules}
use Rattle.vp_words.specs.Record.{pairs_then_finite}
use Rattle.vp_logic.specs.Tree.{tree}
use Rattle.vp_sandbox.specs.Fits.{in_plant}
use Rattle.vp_sandbox.proofs.Fitting.{parts_fit}
use Rattle.vp_sandbox.proofs.Rooms.{next_states_room, states_room}
use Rattle.vp_sandbox.proofs.answering.answer_sense.Goals as goal

pub set_boxes-requires-2-clause-room : goal.set_boxes-requires-2-clause-room
set_boxes-requires-2-clause-room c =
    let counts = c.args.s.now.counts in
    let states = c.split_at.result.1.now in
    let e : length states ≡ 2 * counts.states = omega (arith, c.split_at.ensures.back_len, c.requires.count) in
    let p : IsTrue (pairs_then_finite counts.states states) = search rules in
    rw c.first_next_state.ensures (next_states_room counts states c.requires.fits.counts e p)

pub first_not_yes-requires-clause-fits : goal.first_not_yes-requires-clause-fits
first_not_yes-requires-clause-fits c =
    rw c.get.ensures (parts_fit _ (in_plant c.args.s.now.counts) (map tree c.args.s.now.plant) c.set_boxes-2.ensures.size c.requires.fits.plant)

pub set_boxes-requires-in-None-clause-room : goal.set_boxes-requires-in-None-clause-room
set_boxes-requires-in-None-clause-room c =
    let counts = c.args.s.now.counts in
    let states = c.split_at.result.1.now in
    let e : length states ≡ 2 * counts.states = omega (arith, c.split_at.ensures.back_len, c.requires.count) in
    let p : IsTrue (pairs_then_finite counts.states states) = search rules in
    states_room counts states c.requires.fits.counts e p
