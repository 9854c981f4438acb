use Rattle.std.proofs.Common.{◌≡◌, [], ◌∷◌, sym, ◌∙◌, arith}
use Rattle.vp_grammar.specs.declared.terminal.Symbol.TheVariants as symbol
use Rattle.vp_grammar.specs.declared.terminal.Terminal.TheVariants as terminal
use Rattle.vp_grammar.specs.Controllers.{choice_tree}
use Rattle.vp_grammar.proofs.Unique.{tail_of}
use Rattle.vp_grammar.proofs.ControllerUnique.{unique_choice}
use Rattle.vp_grammar.proofs.controller_laws.one_controller.Goals as goal

pub returns : goal.returns
returns c = λ ts t u a b.
    let h : (choice_tree a.0 ≡ choice_tree b.0) × (terminal.Symbol symbol.Semicolon ∷ [] ≡ terminal.Symbol symbol.Semicolon ∷ []) = unique_choice a.0 b.0 (terminal.Symbol symbol.Semicolon ∷ []) (terminal.Symbol symbol.Semicolon ∷ []) (omega arith) (omega arith) (tail_of _ _ _ _ (sym a.1 ∙ b.1)) in
    a.2 ∙ h.0 ∙ sym b.2
