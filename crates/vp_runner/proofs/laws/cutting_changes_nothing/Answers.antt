use Rattle.vp_isa.specs.Answering.{machine_of}
use Rattle.vp_stream.proofs.Pieces.{pieces_add_their_join}
use Rattle.vp_runner.proofs.Cutting.{feeds_alike, feeds_all, finishes_alike}
use Rattle.vp_runner.proofs.laws.cutting_changes_nothing.Goals as goal

pub returns : goal.returns
returns c = record {
  text = λ code bytes pieces. pieces_add_their_join (machine_of code) pieces bytes;
  fed = λ last code bytes pieces s before now h. feeds_all pieces last code bytes s before now h;
  alike = λ last other code bytes pieces others s t told now now_other same never nor h k.
      feeds_alike code bytes pieces others last other s t told now now_other same never nor h k;
  finished = λ last other code bytes told now now_other never nor h k. finishes_alike last other code bytes told now now_other never nor h k;
}
