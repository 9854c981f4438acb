use Rattle.std.proofs.Common.{◌≡◌, [], sym, ◌∙◌, arith}
use Rattle.vp_grammar.specs.Grammar.{expression_tree}
use Rattle.vp_grammar.proofs.Unique.{unique_expression}
use Rattle.vp_grammar.proofs.laws.one_expression.Goals as goal

pub returns : goal.returns
returns c = λ ts t u a b.
    let h : (expression_tree a.0 ≡ expression_tree b.0) × ([] ≡ []) = unique_expression a.0 b.0 [] [] (omega arith) (omega arith) (sym a.1 ∙ b.1) in
    a.2 ∙ h.0 ∙ sym b.2
