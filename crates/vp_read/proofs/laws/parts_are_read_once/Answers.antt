use Rattle.vp_grammar.specs.Certificates.{SpellsCert}
use Rattle.vp_grammar.specs.FormulaReads.{SpellsFormula}
use Rattle.vp_grammar.specs.Reads.{Spells}
use Rattle.vp_read.proofs.OnePart.{read_once}
use Rattle.vp_read.proofs.OneTerminal.{TextsTell}
use Rattle.vp_read.proofs.laws.parts_are_read_once.Goals as goal

pub returns : goal.returns
returns c =
    let texts : TextsTell = record { numbers = c.texts_write_one_number.ensures; words = c.one_spelling.ensures } in
    record {
      formulas = λ text tokens names. read_once SpellsFormula text tokens names texts c.one_formula.ensures.whole;
      expressions = λ text tokens names. read_once Spells text tokens names texts c.one_expression.ensures;
      certificates = λ text tokens names. read_once SpellsCert text tokens names texts c.one_certificate.ensures;
    }
