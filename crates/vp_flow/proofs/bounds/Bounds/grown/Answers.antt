use Rattle.std.proofs.Common.{ℕ, ◌+◌, ◌*◌, ◌≤◌, ◌^◌, ap, subst, ◌∙◌}
use Rattle.vp_flow.proofs.Growing.{over-answer, huge-factor, huge-norm_power, huge-terms_power, huge-scaled, huge-norm, huge-den, huge-terms, grown, same_times}
use Rattle.vp_flow.proofs.bounds.Bounds.grown.Goals as goal

pub returns-in_err-factor : goal.returns-in_err-factor
returns-in_err-factor c = over-answer c.args.self.now c.args.k c.from_residual.result c.from_residual.ensures (huge-factor c.args.self.now c.args.k c.requires.common (subst (λ (n : ℕ). 2 ^ 62 ≤ c.args.self.now.common * (n + 1)) c.from.ensures c.in_err-factor.ensures))

pub returns-in_err-norm_power : goal.returns-in_err-norm_power
returns-in_err-norm_power c = over-answer c.args.self.now c.args.k c.from_residual-in_err-norm_power.result c.from_residual-in_err-norm_power.ensures (huge-norm_power c.args.self.now c.args.k c.args.growth.now c.requires.before c.in_err-norm_power.ensures)

pub returns-in_err-terms_power : goal.returns-in_err-terms_power
returns-in_err-terms_power c = over-answer c.args.self.now c.args.k c.from_residual-in_err-terms_power.result c.from_residual-in_err-terms_power.ensures (huge-terms_power c.args.self.now c.args.k c.args.growth.now c.requires.before (subst (λ (n : ℕ). 2 ^ 62 ≤ c.args.growth.now.terms_power * n) c.from-2.ensures c.in_err-terms_power.ensures))

pub returns-in_err-scaled : goal.returns-in_err-scaled
returns-in_err-scaled c = over-answer c.args.self.now c.args.k c.from_residual-in_err-scaled.result c.from_residual-in_err-scaled.ensures (huge-scaled c.args.self.now c.args.k c.in_ok-factor.factor c.args.growth.now c.requires.before (same_times _ 1 _ _ _ c.from.ensures c.in_ok-factor.ensures.0) c.in_err-scaled.ensures)

pub returns-in_err-norm : goal.returns-in_err-norm
returns-in_err-norm c = over-answer c.args.self.now c.args.k c.from_residual-in_err-norm.result c.from_residual-in_err-norm.ensures (huge-norm c.args.self.now c.args.k c.in_ok-factor.factor c.in_ok-scaled.scaled c.in_ok-norm_power.norm_power c.args.growth.now c.requires.before (same_times _ 1 _ _ _ c.from.ensures c.in_ok-factor.ensures.0) c.in_ok-scaled.ensures.0 c.in_ok-norm_power.ensures.0 c.in_err-norm.ensures)

pub returns-in_err-den : goal.returns-in_err-den
returns-in_err-den c = over-answer c.args.self.now c.args.k c.from_residual-in_err-den.result c.from_residual-in_err-den.ensures (huge-den c.args.self.now c.args.k c.in_ok-factor.factor c.args.growth.now c.requires.before (same_times _ 1 _ _ _ c.from.ensures c.in_ok-factor.ensures.0) c.in_err-den.ensures)

pub returns-in_err-terms : goal.returns-in_err-terms
returns-in_err-terms c = over-answer c.args.self.now c.args.k c.from_residual-in_err-terms.result c.from_residual-in_err-terms.ensures (huge-terms c.args.self.now c.args.k c.in_ok-terms_power.terms_power c.args.growth.now c.requires.before (c.in_ok-terms_power.ensures.0 ∙ ap (λ (n : ℕ). c.args.growth.now.terms_power * n) c.from-2.ensures) c.in_err-terms.ensures)

pub returns : goal.returns
returns c =
    grown c.args.self.now c.args.k c.in_ok-factor.factor c.in_ok-scaled.scaled c.in_ok-norm_power.norm_power c.in_ok-terms_power.terms_power c.in_ok-norm.norm c.in_ok-den.den c.in_ok-terms.terms c.args.growth.now c.requires.before
    (same_times _ 1 _ _ _ c.from.ensures c.in_ok-factor.ensures.0) c.in_ok-scaled.ensures.0 c.in_ok-norm_power.ensures.0 (c.in_ok-terms_power.ensures.0 ∙ ap (λ (n : ℕ). c.args.growth.now.terms_power * n) c.from-2.ensures) c.in_ok-norm.ensures.0 c.in_ok-den.ensures.0 c.in_ok-terms.ensures.0
    c.in_ok-norm.ensures.1 c.in_ok-den.ensures.1 c.in_ok-terms.ensures.1
