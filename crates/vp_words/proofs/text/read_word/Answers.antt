use Rattle.std.proofs.Common.{rules, arith, Ok}
use Rattle.std.proofs.lemmas.Grind.{common_steps}
use Rattle.vp_words.specs.Number.{inf, minus_inf}
use Rattle.vp_words.specs.Text.{ReadsWord}
use Rattle.vp_words.proofs.Spelled.{reading_is_spelled}
use Rattle.vp_words.proofs.text.read_word.Goals as goal

pub returns-then-eq-clause-exact : goal.returns-then-eq-clause-exact
returns-then-eq-clause-exact c =
    let h : ReadsWord c.args.text.now (Ok inf) = search rules in
    reading_is_spelled c.args.text.now (Ok inf) h

pub returns-then-eq-2-clause-exact : goal.returns-then-eq-2-clause-exact
returns-then-eq-2-clause-exact c =
    let h : ReadsWord c.args.text.now (Ok minus_inf) = search rules in
    reading_is_spelled c.args.text.now (Ok minus_inf) h

pub returns-in_err-read_digits-in-45-clause-exact : goal.returns-in_err-read_digits-in-45-clause-exact
returns-in_err-read_digits-in-45-clause-exact c =
    let h : ReadsWord c.args.text.now c.from_residual.result = grind (arith, common_steps) in
    reading_is_spelled c.args.text.now c.from_residual.result h

pub returns-in_err-read_digits-in_default-clause-exact : goal.returns-in_err-read_digits-in_default-clause-exact
returns-in_err-read_digits-in_default-clause-exact c =
    let h : ReadsWord c.args.text.now c.from_residual-in_err-read_digits-in_default.result = grind (arith, common_steps) in
    reading_is_spelled c.args.text.now c.from_residual-in_err-read_digits-in_default.result h

pub returns-in_ok-read_digits-in-45-clause-exact : goal.returns-in_ok-read_digits-in-45-clause-exact
returns-in_ok-read_digits-in-45-clause-exact c =
    let h : ReadsWord c.args.text.now (Ok c.neg.result) = grind (arith, common_steps) in
    reading_is_spelled c.args.text.now (Ok c.neg.result) h

pub returns-in_ok-read_digits-in_default-clause-exact : goal.returns-in_ok-read_digits-in_default-clause-exact
returns-in_ok-read_digits-in_default-clause-exact c =
    let h : ReadsWord c.args.text.now (Ok c.finite-in_default.result) = grind (arith, common_steps) in
    reading_is_spelled c.args.text.now (Ok c.finite-in_default.result) h
