use Rattle.std.proofs.Common.{◌≡◌, map, take}
use Rattle.vp_read.specs.Pieces.{items}
use Rattle.vp_read.specs.Sections.{known_pieces}
use Rattle.vp_read.proofs.reading.known_pieces.Given as goal

abbrev pub invariant-loop-piece : goal.invariant-loop-piece
invariant-loop-piece l = map items l.known.items ≡ known_pieces l.text l.scope.names.now (map items (take l.piece-index l.pieces))
