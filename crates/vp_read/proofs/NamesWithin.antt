-- The spans of listed names lie within the text.
use Rattle.std.proofs.Common.{Vec, Global, ℕ, ◌-◌, List, [], ◌∷◌, map, All, Option, sym, subst}
use Rattle.std.proofs.lemmas.List.Elements.{All-head, All-tail, All-cons, All-nil, All-map}
use Rattle.vp_terms.specs.declared.expr.Var.{Var}
use Rattle.vp_grammar.specs.declared.terminal.Span.{Span}
use Rattle.vp_lex.specs.declared.word.ReservedWord.{ReservedWord}
use Rattle.vp_grammar.specs.declared.terminal.Symbol.TheVariants as symbol
use Rattle.vp_grammar.specs.declared.terminal.Terminal.{Terminal}
use Rattle.vp_grammar.specs.declared.terminal.Terminal.TheVariants as terminal
use Rattle.vp_grammar.specs.Entries.{SpellsNames, names_then}
use Rattle.vp_read.specs.Naming.{IsWithin, StandsIn}
use Rattle.vp_read.specs.Pieces.{items, piece}
use Rattle.vp_read.proofs.Lists.{at_number}

spans_within : (text : List ℕ) (ns : List (Span × Option Var)) (rest : List Terminal) → All (StandsIn text) (names_then ns rest) → All (IsWithin text) (map (λ (k : Span × Option Var). k.0) ns)
spans_within text [] rest h = All-nil (IsWithin text)
spans_within text (n ∷ []) rest h = All-cons (IsWithin text) n.0 [] (All-head (StandsIn text) (terminal.Name n.0 n.1) rest h) (All-nil (IsWithin text))
spans_within text (n ∷ m ∷ ms) rest h =
    let more = names_then (m ∷ ms) rest in
    let behind = All-tail (StandsIn text) (terminal.Symbol symbol.Comma) more (All-tail (StandsIn text) (terminal.Name n.0 n.1) (terminal.Symbol symbol.Comma ∷ more) h) in
    All-cons (IsWithin text) n.0 (map (λ (k : Span × Option Var). k.0) (m ∷ ms)) (All-head (StandsIn text) (terminal.Name n.0 n.1) (terminal.Symbol symbol.Comma ∷ more) h) (spans_within text (m ∷ ms) rest behind)

pub listed_within : (text : List ℕ) (w : ReservedWord) (least : ℕ) (ts : List Terminal) (spans : List Span) → SpellsNames w least ts spans → All (StandsIn text) ts → All (IsWithin text) spans
listed_within text w least ts spans s h =
    let all : All (StandsIn text) (terminal.Word w ∷ names_then s.0 (terminal.Symbol symbol.Semicolon ∷ [])) = subst (All (StandsIn text)) s.1 h in
    subst (All (IsWithin text)) (sym s.2) (spans_within text s.0 _ (All-tail (StandsIn text) (terminal.Word w) _ all))

pub piece_within : (text : List ℕ) (ps : List (Vec Terminal Global)) (k : ℕ) → All (λ v. All (StandsIn text) v.items) ps → All (StandsIn text) (piece (map items ps) k)
piece_within text ps k h = at_number (All (StandsIn text)) (map items ps) (k - 1) [] (All-nil (StandsIn text)) (All-map (All (StandsIn text)) items ps h)
