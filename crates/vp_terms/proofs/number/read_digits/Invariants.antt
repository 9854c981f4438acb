use Rattle.std.proofs.Common.{◌≡◌, ◌^◌, ◌<◌, drop}
use Rattle.vp_terms.proofs.Reading.{read_rest}
use Rattle.vp_terms.proofs.number.read_digits.Given as goal

abbrev pub invariant-loop-digit : goal.invariant-loop-digit
invariant-loop-digit l = (read_rest l.number (drop l.digit-index l.digits) ≡ read_rest l.fn.before l.digits) × (l.number < 2 ^ 62)
