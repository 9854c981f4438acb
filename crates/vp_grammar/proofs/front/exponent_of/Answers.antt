use Rattle.std.proofs.Common.{arith}
use Rattle.vp_grammar.proofs.front.exponent_of.Goals as goal

pub returns-in_err-number : goal.returns-in_err-number
returns-in_err-number c = rw c.from_residual.ensures (λ n rest h. c.in_err-number.ensures n rest (h.0, h.1, h.2))

pub returns-then-precedence_of-lt5 : goal.returns-then-precedence_of-lt5
returns-then-precedence_of-lt5 c =
    let h = c.in_ok-number.ensures in
    (h.0, h.1, h.2, omega (arith, c.if-number-le-LARGEST_EXPONENT.true), omega (arith, c.precedence_of.ensures, c.if-precedence_of-lt5.true))
