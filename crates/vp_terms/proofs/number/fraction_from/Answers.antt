use Rattle.std.proofs.Common.{◌≡◌, ◌-◌, ◌∙◌, sym, arith, take, drop, length, Some}
use Rattle.std.proofs.lemmas.Grind.{common_steps}
use Rattle.vp_terms.specs.Number.{read_on}
use Rattle.vp_terms.proofs.Tokens.{decimals_go_on}
use Rattle.vp_terms.proofs.number.fraction_from.Goals as goal

pub returns-in-46 : goal.returns-in-46
returns-in-46 c =
    let rest = c.args.rest.now in
    let read : read_on 0 c.args.front.now ≡ Some c.in_ok-whole.whole = sym c.read_digits.ensures ∙ c.in_ok-whole.was in
    let go = decimals_go_on c.in_ok-whole.whole c.args.front.now (take (length rest - 1) (drop 1 rest)) read in
    grind (arith, common_steps)
