use Rattle.std.proofs.Common.{arith}
use Rattle.vp_sandbox.proofs.Placing.{pair_encloses, pair_rest, pair_room, pair_placed}
use Rattle.vp_sandbox.proofs.boxes.+set_boxes.Goals as goal

pub between-requires : goal.between-requires
between-requires t c = pair_encloses c.args.pairs c.args.words.now c.lo-item.result c.hi-item.result c.if-pairs-eq0.false c.in-len2-up.len_at_least c.lo-item.is c.hi-item.is c.requires.valid

pub set_boxes-requires : goal.set_boxes-requires
set_boxes-requires t c =
    let n = c.args.pairs in
    let ws = c.args.words.now in
    let v = c.lo-item.result in
    let w = c.hi-item.result in
    let some = c.if-pairs-eq0.false in
    let two = c.in-len2-up.len_at_least in
    let rest = pair_rest n ws v w some two c.lo-item.is c.hi-item.is c.requires.valid in
    let room = pair_room n ws v w some two c.lo-item.is c.hi-item.is c.args.place c.requires.room in
    let e = c.decreases in
    (omega arith, (rest, room))

pub returns-in-len2-up-clause-boxes : goal.returns-in-len2-up-clause-boxes
returns-in-len2-up-clause-boxes t c =
    pair_placed
    c.args.pairs
    c.args.words.now
    c.lo-item.result
    c.hi-item.result
    c.if-pairs-eq0.false
    c.in-len2-up.len_at_least
    c.lo-item.is
    c.hi-item.is
    c.args.place
    c.between.result
    c.args.boxes.now
    c.set_boxes.new.boxes
    c.between.ensures
    c.set_boxes.ensures.boxes
