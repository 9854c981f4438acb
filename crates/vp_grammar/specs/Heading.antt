-- The heading of a package.
use Rattle.std.specs.Prelude.{◌≡◌, true, List, [], ◌∷◌}
use Rattle.vp_terms.specs.declared.ratio.Ratio.{Ratio}
use Rattle.vp_grammar.specs.declared.terminal.Symbol.TheVariants as symbol
use Rattle.vp_lex.specs.declared.word.ReservedWord.TheVariants as word
use Rattle.vp_grammar.specs.declared.terminal.Terminal.{Terminal}
use Rattle.vp_grammar.specs.declared.terminal.Terminal.TheVariants as terminal

-- "package" whole ";"
abbrev pub SpellsHeading : List Terminal → Type 0
SpellsHeading ts = (r : Ratio) × (ts ≡ terminal.Word word.Package ∷ terminal.Number r true ∷ terminal.Symbol symbol.Semicolon ∷ [])
