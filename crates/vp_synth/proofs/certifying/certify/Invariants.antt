use Rattle.std.proofs.Common.{drop}
use Rattle.std.specs.List.{All}
use Rattle.vp_poly.specs.Places.{places_for}
use Rattle.vp_synth.specs.Certifying.{all_cases}
use Rattle.vp_synth.specs.Going.{IsGoodCert, LeadsTo}
use Rattle.vp_synth.proofs.certifying.certify.Given as goal

abbrev pub invariant-loop-obligation : goal.invariant-loop-obligation
invariant-loop-obligation l = record {
  certs : All (IsGoodCert (places_for l.counts)) l.left;
  leads : LeadsTo (places_for l.counts) (all_cases l.obligations) l.certs (all_cases (drop l.obligation-index l.obligations)) l.left;
}
