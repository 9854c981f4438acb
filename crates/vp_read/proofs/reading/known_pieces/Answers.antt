use Rattle.std.proofs.Common.{arith}
use Rattle.vp_read.proofs.Drafting.{all_known, known_few, known_short, known_within}
use Rattle.vp_read.proofs.reading.known_pieces.Goals as goal

pub returns-clause-known : goal.returns-clause-known
returns-clause-known c = all_known c.args.text.now c.in_ok-scope.scope.names.now c.args.names.now c.args.pieces.now c.loop-piece.known.items c.loop-piece.piece-index (omega (arith, c.loop-piece.auto, c.loop-piece-test.false)) c.in_ok-scope.ensures c.loop-piece.invariant

pub returns-clause-count : goal.returns-clause-count
returns-clause-count c = known_few c.args.text.now c.args.names.now c.args.pieces.now c.loop-piece.known.items (all_known c.args.text.now c.in_ok-scope.scope.names.now c.args.names.now c.args.pieces.now c.loop-piece.known.items c.loop-piece.piece-index (omega (arith, c.loop-piece.auto, c.loop-piece-test.false)) c.in_ok-scope.ensures c.loop-piece.invariant)

pub returns-clause-within : goal.returns-clause-within
returns-clause-within c = known_within c.args.text.now c.args.names.now c.args.pieces.now c.loop-piece.known.items (all_known c.args.text.now c.in_ok-scope.scope.names.now c.args.names.now c.args.pieces.now c.loop-piece.known.items c.loop-piece.piece-index (omega (arith, c.loop-piece.auto, c.loop-piece-test.false)) c.in_ok-scope.ensures c.loop-piece.invariant) c.requires.within

pub returns-clause-short : goal.returns-clause-short
returns-clause-short c = known_short c.args.text.now c.args.names.now c.args.pieces.now c.loop-piece.known.items (all_known c.args.text.now c.in_ok-scope.scope.names.now c.args.names.now c.args.pieces.now c.loop-piece.known.items c.loop-piece.piece-index (omega (arith, c.loop-piece.auto, c.loop-piece-test.false)) c.in_ok-scope.ensures c.loop-piece.invariant) c.requires.short
