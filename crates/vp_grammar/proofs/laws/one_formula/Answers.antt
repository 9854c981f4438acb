use Rattle.std.proofs.Common.{◌≡◌, [], ◌∷◌, sym, ◌∙◌, arith}
use Rattle.vp_grammar.specs.Formulas.{or_formula}
use Rattle.vp_grammar.specs.declared.terminal.Symbol.TheVariants.{Semicolon}
use Rattle.vp_grammar.specs.declared.terminal.Terminal.TheVariants.{Symbol}
use Rattle.vp_grammar.proofs.Unique.{tail_of}
use Rattle.vp_grammar.proofs.FormulaUnique.{unique_or}
use Rattle.vp_grammar.proofs.laws.one_formula.Goals as goal

pub returns : goal.returns
returns c = record {
  whole = λ ts f g a b.
      (let h : (or_formula a.0 ≡ or_formula b.0) × ([] ≡ []) = unique_or a.0 b.0 [] [] (omega arith) (omega arith) (sym a.1 ∙ b.1) in
      a.2 ∙ h.0 ∙ sym b.2);
  piece = λ w ts f g a b.
      (let h : (or_formula a.0 ≡ or_formula b.0) × (Symbol Semicolon ∷ [] ≡ Symbol Semicolon ∷ []) = unique_or a.0 b.0 (Symbol Semicolon ∷ []) (Symbol Semicolon ∷ []) (omega arith) (omega arith) (tail_of _ _ _ _ (sym a.1 ∙ b.1)) in
      a.2 ∙ h.0 ∙ sym b.2);
}
