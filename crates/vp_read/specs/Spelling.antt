-- What each token of a text stands for in the grammar.
use Rattle.std.specs.Prelude.{ℕ, ◌≡◌, ◌≢◌, ◌-◌, ◌⊎◌, List, [], ◌∷◌, take, drop, None, Some, Result, Ok, Err, codes}
use Rattle.std.specs.declared.vec.Vec.{Vec}
use Rattle.std.specs.declared.alloc.Global.{Global}
use Rattle.vp_terms.specs.declared.formula.Cmp.{Cmp}
use Rattle.vp_terms.specs.declared.formula.Cmp.TheVariants as cmp
use Rattle.vp_terms.specs.declared.expr.Var.TheVariants.{Tau}
use Rattle.vp_terms.specs.Number.{is_whole, number}
use Rattle.vp_terms.specs.Ratios.{IsNumber}
use Rattle.vp_lex.specs.declared.token.Token.{Token}
use Rattle.vp_lex.specs.declared.token.TokenKind.TheVariants as kind
use Rattle.vp_lex.specs.Reserved.{word_text}
use Rattle.vp_lex.specs.Tokens.{Tokenizes}
use Rattle.vp_read.specs.declared.fault.ReadErr.{ReadErr}
use Rattle.vp_read.specs.declared.fault.ReadErr.TheVariants as fault
use Rattle.vp_grammar.specs.declared.terminal.Span.{Span}
use Rattle.vp_lex.specs.declared.word.ReservedWord.TheVariants as word
use Rattle.vp_grammar.specs.declared.terminal.Symbol.{Symbol}
use Rattle.vp_grammar.specs.declared.terminal.Symbol.TheVariants as symbol
use Rattle.vp_grammar.specs.declared.terminal.Operator.{Operator}
use Rattle.vp_grammar.specs.declared.terminal.Operator.TheVariants as operator
use Rattle.vp_grammar.specs.declared.terminal.Terminal.{Terminal}
use Rattle.vp_grammar.specs.declared.terminal.Terminal.TheVariants as terminal

-- the bytes from one place of a text up to another
abbrev pub slice : List ℕ → ℕ → ℕ → List ℕ
slice text from to = take (to - from) (drop from text)

abbrev pub token_text : List ℕ → Token → List ℕ
token_text text t = slice text t.from t.to

abbrev pub span_text : List ℕ → Span → List ℕ
span_text text s = slice text s.from s.to

-- how a symbol, an operator and a comparison are spelled
abbrev pub symbol_text : Symbol → List ℕ
symbol_text symbol.Semicolon = codes ";"
symbol_text symbol.Comma = codes ","
symbol_text symbol.Open = codes "("
symbol_text symbol.Close = codes ")"
symbol_text symbol.SquareOpen = codes "["
symbol_text symbol.SquareClose = codes "]"
symbol_text symbol.BraceOpen = codes "{"
symbol_text symbol.BraceClose = codes "}"
symbol_text symbol.Choice = codes "++"
symbol_text symbol.Prime = codes "'"
symbol_text symbol.Assign = codes ":="
symbol_text symbol.Question = codes "?"
symbol_text symbol.Bang = codes "!"

abbrev pub operator_text : Operator → List ℕ
operator_text operator.Plus = codes "+"
operator_text operator.Minus = codes "-"
operator_text operator.Star = codes "*"
operator_text operator.Caret = codes "^"
operator_text operator.Ampersand = codes "&"
operator_text operator.Bar = codes "|"

abbrev pub compare_text : Cmp → List ℕ
compare_text cmp.Le = codes "<="
compare_text cmp.Lt = codes "<"
compare_text cmp.Ge = codes ">="
compare_text cmp.Gt = codes ">"
compare_text cmp.Eq = codes "="
compare_text cmp.Ne = codes "!="

-- the symbol spells these bytes
abbrev pub SpellsMark : List ℕ → Terminal → Type 0
SpellsMark bytes (terminal.Symbol s) = bytes ≡ symbol_text s
SpellsMark bytes (terminal.Operator o) = bytes ≡ operator_text o
SpellsMark bytes (terminal.Compare c) = bytes ≡ compare_text c
SpellsMark bytes t = ⊥

-- one of the symbols spells these bytes
abbrev pub IsMark : List ℕ → Type 0
IsMark bytes = ((s : Symbol) × (bytes ≡ symbol_text s)) ⊎ (((o : Operator) × (bytes ≡ operator_text o)) ⊎ ((c : Cmp) × (bytes ≡ compare_text c)))

abbrev pub span_of : Token → Span
span_of t = record { from = t.from; to = t.to }

-- the token stands for the terminal; no name has a variable yet, and the word `tau` is a variable
abbrev pub IsTerminal : List ℕ → Token → Terminal → Type 0
IsTerminal text t (terminal.Word w) = (t.kind ≡ kind.Word) × (token_text text t ≡ word_text w) × (w ≢ word.Tau)
IsTerminal text t (terminal.Symbol s) = (t.kind ≡ kind.Symbol) × (token_text text t ≡ symbol_text s)
IsTerminal text t (terminal.Operator o) = (t.kind ≡ kind.Symbol) × (token_text text t ≡ operator_text o)
IsTerminal text t (terminal.Compare c) = (t.kind ≡ kind.Symbol) × (token_text text t ≡ compare_text c)
IsTerminal text t (terminal.Number r w) = (t.kind ≡ kind.Number) × IsNumber (token_text text t) r × (w ≡ is_whole (token_text text t))
IsTerminal text t (terminal.Name s v) = (t.kind ≡ kind.Name) × (s ≡ span_of t) × (v ≡ None)
IsTerminal text t (terminal.Variable s v) = (s ≡ span_of t) × (((t.kind ≡ kind.Next) × (v ≡ None)) ⊎ ((t.kind ≡ kind.Word) × (token_text text t ≡ word_text word.Tau) × (v ≡ Some Tau)))

-- each token stands for the terminal at its place
abbrev pub AreTerminals : List ℕ → List Token → List Terminal → Type 0
AreTerminals text [] [] = Unit {0}
AreTerminals text (t ∷ ts) (x ∷ xs) = IsTerminal text t x × AreTerminals text ts xs
AreTerminals text ts xs = ⊥

-- a number that is refused: a part of its fraction is 2^62 or more, or its denominator is 0
abbrev pub IsBadNumber : List ℕ → Token → Type 0
IsBadNumber text t = (t.kind ≡ kind.Number) × (number (token_text text t) ≡ None)

-- the first refused number begins at this byte
abbrev pub IsFirstBad : List ℕ → List Token → ℕ → Type 0
IsFirstBad text [] at = ⊥
IsFirstBad text (t ∷ ts) at = (IsBadNumber text t × (at ≡ t.from)) ⊎ ((IsBadNumber text t → ⊥) × IsFirstBad text ts at)

-- the text has these tokens, and none of its numbers is refused
abbrev pub IsScanned : List ℕ → List Token → List Terminal → Type 0
IsScanned text tokens terminals = Tokenizes text (Ok tokens) × AreTerminals text tokens terminals

-- the terminals of the tokens, or where the first refused number begins
abbrev pub GivesTerminals : List ℕ → List Token → Result (Vec Terminal Global) ReadErr → Type 0
GivesTerminals text tokens (Ok v) = AreTerminals text tokens v.items
GivesTerminals text tokens (Err (fault.Number at)) = IsFirstBad text tokens at
GivesTerminals text tokens (Err fault.Memory) = Unit {0}
GivesTerminals text tokens (Err e) = ⊥
