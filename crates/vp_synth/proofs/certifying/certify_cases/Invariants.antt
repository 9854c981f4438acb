use Rattle.std.proofs.Common.{◌≡◌, ◌+◌, ◌++◌, List, drop}
use Rattle.std.specs.List.{All}
use Rattle.vp_poly.specs.Places.{places_for}
use Rattle.vp_logic.specs.Cases.{lists}
use Rattle.vp_synth.specs.Certifying.{NumberedCase, numbered}
use Rattle.vp_synth.specs.Going.{IsGoodCert, LeadsTo}
use Rattle.vp_synth.proofs.certifying.certify_cases.Given as goal

abbrev pub invariant-loop-case : goal.invariant-loop-case
invariant-loop-case l = record {
  number_is : l.number ≡ l.case-index + 1;
  certs : All (IsGoodCert (places_for l.counts)) l.left;
  leads : (ds : List NumberedCase) → LeadsTo (places_for l.counts) (numbered l.obligation.part l.obligation.atoms 1 (lists l.obligation.cases) ++ ds) l.certs (numbered l.obligation.part l.obligation.atoms l.number (lists (drop l.case-index l.case-items)) ++ ds) l.left;
}
