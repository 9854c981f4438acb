use Rattle.vp_isa.proofs.Runs.{has_piece, has_front, has_back, after-append, plain-append}
use Rattle.vp_isa.proofs.laws.blocks_split.Goals as goal

pub returns : goal.returns
returns c = record { piece = has_piece; front = has_front; back = has_back; after = after-append; plain = plain-append }
