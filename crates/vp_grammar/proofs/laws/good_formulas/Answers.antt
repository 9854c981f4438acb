use Rattle.std.proofs.Common.{◌≡◌, ◌+◌, length, [], ◌∷◌, sym, ◌∙◌, ap, arith}
use Rattle.std.specs.List.{list_all}
use Rattle.vp_terms.specs.WellFormed.{comparisons}
use Rattle.vp_grammar.specs.declared.terminal.Symbol.TheVariants.{Semicolon}
use Rattle.vp_grammar.specs.declared.terminal.Terminal.TheVariants.{Symbol}
use Rattle.vp_grammar.specs.Formulas.{or_formula, or_then}
use Rattle.vp_grammar.proofs.Good.{may_stand, is_good_condition, formula_size}
use Rattle.vp_grammar.proofs.GoodTrees.{good_formula_is, formula_spelt_good, comparisons_is, formula_small}
use Rattle.vp_grammar.proofs.Kept.{kept_condition}
use Rattle.vp_grammar.proofs.NoStrays.{all_stand}
use Rattle.vp_grammar.proofs.laws.good_formulas.Goals as goal

pub returns : goal.returns
returns c = record {
  conditions = λ w k p f ts s h.
      good_formula_is k p f ∙ ap (is_good_condition k p) s.2 ∙ (formula_spelt_good k p s.0 (Symbol Semicolon ∷ []) (ap (list_all (may_stand k p)) (sym s.1) ∙ all_stand k p 0 ts h)).0;
  kept = λ w k p f ts s d g. kept_condition k p w f ts s d g;
  sizes = λ w f ts s.
      (let a : comparisons f ≡ formula_size (or_formula s.0) = comparisons_is f ∙ ap formula_size s.2 in
      let b : length ts ≡ 1 + length (or_then s.0 (Symbol Semicolon ∷ [])) = ap length s.1 ∙ (omega arith) in
      omega (arith, formula_small s.0 (Symbol Semicolon ∷ [])));
}
