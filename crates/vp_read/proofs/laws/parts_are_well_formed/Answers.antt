use Rattle.std.proofs.Common.{map, arith}
use Rattle.vp_terms.specs.Tree.{formula_tree}
use Rattle.vp_terms.specs.WellFormed.{in_certificate, places_of}
use Rattle.vp_grammar.specs.FormulaReads.{SpellsFormula}
use Rattle.vp_read.specs.Naming.{known}
use Rattle.vp_read.proofs.PartLaws.{part_certificate, part_small}
use Rattle.vp_read.proofs.laws.parts_are_well_formed.Goals as goal

pub returns : goal.returns
returns c = record {
  formulas = λ text tokens names f h.
      let ts = map (known text names) h.terminals in (
        c.whole_formulas.ensures.formulas in_certificate (places_of names) f ts h.form h.declared,
        omega (arith, c.whole_formulas.ensures.sizes f ts h.form, part_small SpellsFormula text tokens names (formula_tree f) h),
      );
  expressions = λ text tokens names e h. c.good_expressions.ensures.good in_certificate (places_of names) e (map (known text names) h.terminals) h.form h.declared;
  certificates = λ text tokens names d h. (
    c.good_certificates.ensures.variables (places_of names) d (map (known text names) h.terminals) h.form h.declared,
    part_certificate (record { whole = c.numbers_are_written.ensures.whole; form = c.good_certificates.ensures.form }) text tokens names d h,
  );
}
