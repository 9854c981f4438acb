use Rattle.std.proofs.Common.{[], sym, ◌∙◌, ap}
use Rattle.std.specs.List.{list_all}
use Rattle.vp_grammar.proofs.Good.{may_stand, is_good_tree}
use Rattle.vp_grammar.proofs.GoodTrees.{good_expr_is, spelt_good}
use Rattle.vp_grammar.proofs.Kept.{kept_expression}
use Rattle.vp_grammar.proofs.NoStrays.{all_stand}
use Rattle.vp_grammar.proofs.laws.good_expressions.Goals as goal

pub returns-clause-good : goal.returns-clause-good
returns-clause-good c = λ k p e ts s h.
    good_expr_is k p e ∙ ap (is_good_tree k p) s.2 ∙ (spelt_good k p s.0 [] (ap (list_all (may_stand k p)) (sym s.1) ∙ all_stand k p 0 ts h)).0

pub returns-clause-kept : goal.returns-clause-kept
returns-clause-kept c = kept_expression
