use Rattle.std.proofs.Common.{sym, ◌∙◌}
use Rattle.vp_read.proofs.Digits.{digit_step, other_step}
use Rattle.vp_read.proofs.spelling.are_digits.Goals as goal

pub returns-then-not-is_ascii_digit : goal.returns-then-not-is_ascii_digit
returns-then-not-is_ascii_digit c = sym (other_step c.loop-byte.byte-index c.args.text.now c.loop-byte-test.true (sym c.is_ascii_digit.ensures.value ∙ c.if-not-is_ascii_digit.true)) ∙ c.loop-byte.invariant

pub loop-byte-preserved : goal.loop-byte-preserved
loop-byte-preserved c = sym (digit_step c.loop-byte.byte-index c.args.text.now c.loop-byte-test.true (sym c.is_ascii_digit.ensures.value ∙ c.if-not-is_ascii_digit.false)) ∙ c.loop-byte.invariant
