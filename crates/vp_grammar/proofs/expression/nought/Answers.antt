use Rattle.std.proofs.Math.Path.{refl}
use Rattle.vp_terms.proofs.Numbers.{same_parts_same}
use Rattle.vp_grammar.specs.Grammar.{nought}
use Rattle.vp_grammar.proofs.expression.nought.Goals as goal

pub returns : goal.returns
returns c = same_parts_same _ nought refl refl
