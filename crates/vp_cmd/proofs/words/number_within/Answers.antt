use Rattle.std.proofs.Common.{◌∙◌, arith}
use Rattle.vp_cmd.proofs.Numbers.{number_read}
use Rattle.vp_cmd.proofs.words.number_within.Goals as goal

-- src/words.rt:29:1
pub returns : goal.returns
returns c = c.ok.ensures.value ∙ number_read c.args.most c.args.text.now c.parse.result (omega arith) (λ e. grind (arith, c.if-starts_with.ensures.byte (omega arith) (omega arith))) c.parse.ensures.value.0
