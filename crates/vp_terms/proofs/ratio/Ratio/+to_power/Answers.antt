use Rattle.std.proofs.Common.{◌≡◌, ◌-◌, suc, None, refl, arith, rules}
use Rattle.vp_terms.specs.Meaning.{rational}
use Rattle.vp_terms.proofs.Evaluating.{power_zero, fewer_powers, power_exact, power_small, result_exact}
use Rattle.vp_terms.proofs.ratio.Ratio.+to_power.Goals as goal

pub returns-in_err-to_power-in_default-clause-small : goal.returns-in_err-to_power-in_default-clause-small
returns-in_err-to_power-in_default-clause-small t c =
    let fewer = fewer_powers (rational c.args.self) (c.args.exponent - 1) c.args.exponent (omega arith) in
    let none : c.from_residual.result ≡ None = search rules in (
      λ s. absurd (let p = rw none at s in cc),
      λ a. absurd (let p = c.in_err-to_power-in_default.ensures.small.1 (fewer a) in cc),
    )

pub returns-in-0-clause-small : goal.returns-in-0-clause-small
returns-in-0-clause-small t c = (λ s. power_zero (rational c.args.self) c.args.exponent (omega arith), λ s. refl)

pub returns-in_ok-to_power-in_default-clause-exact : goal.returns-in_ok-to_power-in_default-clause-exact
returns-in_ok-to_power-in_default-clause-exact t c =
    let e : c.args.exponent ≡ suc (c.args.exponent - 1) = omega arith in
    let r = power_exact (rational c.args.self) c.in_ok-to_power-in_default.field-0 (c.args.exponent - 1) c.times.result c.in_ok-to_power-in_default.ensures.exact c.times.ensures in
    rw e (result_exact _ c.times.result r)

pub returns-in_ok-to_power-in_default-clause-small : goal.returns-in_ok-to_power-in_default-clause-small
returns-in_ok-to_power-in_default-clause-small t c =
    let e : c.args.exponent ≡ suc (c.args.exponent - 1) = omega arith in
    let r = power_exact (rational c.args.self) c.in_ok-to_power-in_default.field-0 (c.args.exponent - 1) c.times.result c.in_ok-to_power-in_default.ensures.exact c.times.ensures in
    rw e (power_small (rational c.args.self) (c.args.exponent - 1) c.times.result (c.in_ok-to_power-in_default.ensures.small.0 refl) r)
