use Rattle.std.proofs.Common.{refl, subst, sym}
use Rattle.std.specs.List.{All}
use Rattle.std.proofs.lemmas.Result.{err_from_is_err_and}
use Rattle.vp_terms.specs.declared.expr.Places.{Places}
use Rattle.vp_flow.specs.Sides.{model}
use Rattle.vp_synth.specs.Going.{IsGoodCert}
use Rattle.vp_synth.proofs.Accepted.{own_places}
use Rattle.vp_synth.proofs.Made.{good_certs}
use Rattle.vp_synth.proofs.Refusing.{unmade}
use Rattle.vp_synth.proofs.accepting.made.Goals as goal

pub returns-in_err-obligations-clause-refused : goal.returns-in_err-obligations-clause-refused
returns-in_err-obligations-clause-refused c =
    let q = err_from_is_err_and c.from_residual-in_err-obligations.result c.from_residual-in_err-obligations.ensures.1 in
    rw q.1 (λ n. unmade c.args.text.now c.in_ok-package.package c.in_err-obligations.field-0.0 q.0 c.in_ok-package.ensures.exact c.in_err-obligations.ensures.refused q.2 n)

pub invariant_of-result : goal.invariant_of-result
invariant_of-result c = record { well_formed = ∣ c.in_ok-package.ensures.well_formed ∣₁; made = ∣ c.in_ok-obligations.ensures.made ∣₁ }

pub returns-clause-certs : goal.returns-clause-certs
returns-clause-certs c =
    subst (λ (p : Places). All (IsGoodCert p) c.in_ok-package.package.certs) (sym (own_places c.in_ok-package.package c.in_ok-obligations.obligations c.in_ok-obligations.sandbox c.in_ok-obligations.ensures.made))
    (good_certs (model c.in_ok-package.package) c.in_ok-package.package.certs c.in_ok-package.ensures.certificates c.in_ok-package.ensures.well_formed.certs)

pub returns-clause-flow : goal.returns-clause-flow
returns-clause-flow c = c.in_ok-obligations.ensures.flow refl
