use Rattle.std.proofs.Common.{map, arith}
use Rattle.std.specs.Prelude.{string_bytes}
use Rattle.vp_synth.specs.Printing.{later_text}
use Rattle.vp_synth.proofs.Appending.{finished, pieces_end}
use Rattle.vp_synth.proofs.Powers.{begun, followed}
use Rattle.vp_synth.proofs.printing.push_polynomial.Goals as goal

pub loop-k-init : goal.loop-k-init
loop-k-init c = begun (map string_bytes c.args.variables.now) c.args.poly.now c.term-first.result _ _ c.term-first.ensures.exact (rw c.first_sign.ensures at c.in_ok-push_term.ensures)

pub loop-k-preserved : goal.loop-k-preserved
loop-k-preserved c = followed (map string_bytes c.args.variables.now) c.args.poly.now c.loop-k.k c.term-term.result _ _ _ c.loop-k.invariant c.term-term.ensures.exact (rw c.later_sign.ensures at c.in_ok-push_term-2.ensures)

pub returns : goal.returns
returns c = finished _ _ _ c.loop-k.invariant (pieces_end (later_text (map string_bytes c.args.variables.now)) c.args.poly.now c.loop-k.k (omega (arith, c.loop-k-test.false, c.len-k-end.ensures.count)))
