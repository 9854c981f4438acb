-- The heading of a package.
use Rattle.std.proofs.Common.{◌≡◌, ℕ, Bool, true, false, List, [], ◌∷◌, Decides, refl, ap, sym, ◌∙◌}
use Rattle.vp_grammar.specs.declared.terminal.Symbol.TheVariants as symbol
use Rattle.vp_lex.specs.declared.word.ReservedWord.TheVariants as word
use Rattle.vp_grammar.specs.declared.terminal.Terminal.{Terminal}
use Rattle.vp_grammar.specs.declared.terminal.Terminal.TheVariants as terminal
use Rattle.vp_grammar.specs.Front.{IsWholeFront}
use Rattle.vp_grammar.specs.Heading.{SpellsHeading}
use Rattle.vp_grammar.proofs.Unique.{tail_of}

pub heading_by_its_end : (ts rest more : List Terminal) (n : ℕ) (b : Bool) → ts ≡ terminal.Word word.Package ∷ rest → IsWholeFront rest n more → Decides b (more ≡ terminal.Symbol symbol.Semicolon ∷ []) → Decides b (SpellsHeading ts)
heading_by_its_end ts rest more n b e w d = (to, from)
  where
    to : b ≡ true → SpellsHeading ts
    to h = (w.0, e ∙ ap (λ (xs : List Terminal). terminal.Word word.Package ∷ xs) (w.1 ∙ ap (λ (xs : List Terminal). terminal.Number w.0 true ∷ xs) (d.0 h)))

    from : SpellsHeading ts → b ≡ true
    from h = d.1 (tail_of _ _ _ _ (sym w.1 ∙ tail_of _ _ _ _ (sym e ∙ h.1)))

pub no_whole_no_heading : (ts rest : List Terminal) → ts ≡ terminal.Word word.Package ∷ rest → ((n : ℕ) (more : List Terminal) → IsWholeFront rest n more → ⊥) → Decides false (SpellsHeading ts)
no_whole_no_heading ts rest e none = (λ f. absurd (cc), λ h. absurd (none _ _ (h.0, tail_of _ _ _ _ (sym e ∙ h.1), refl)))
