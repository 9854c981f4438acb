use Rattle.vp_poly.specs.Poly.{IsPoly}
use Rattle.vp_flow.specs.Assembly.{IsAssembled}
use Rattle.vp_flow.proofs.rates.Rates.assembled.Given as goal

abbrev pub invariant-loop-k : goal.invariant-loop-k
invariant-loop-k l = IsAssembled l.self l.parts l.k l.flow × IsPoly l.flow
