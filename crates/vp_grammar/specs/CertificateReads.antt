-- What a reader of each part of a certificate answers.
use Rattle.std.specs.Prelude.{ℕ, ◌≡◌, ◌⊎◌, true, List, [], ◌∷◌}
use Rattle.vp_terms.specs.declared.ratio.Ratio.{Ratio}
use Rattle.vp_terms.specs.declared.package.Part.{Part}
use Rattle.vp_terms.specs.Tree.{ExprTree}
use Rattle.vp_grammar.specs.declared.terminal.Operator.TheVariants as operator
use Rattle.vp_grammar.specs.declared.terminal.Symbol.TheVariants as symbol
use Rattle.vp_lex.specs.declared.word.ReservedWord.TheVariants as word
use Rattle.vp_grammar.specs.declared.terminal.Terminal.{Terminal}
use Rattle.vp_grammar.specs.declared.terminal.Terminal.TheVariants as terminal
use Rattle.vp_grammar.specs.Reads.{IsExpression}
use Rattle.vp_grammar.specs.Front.{NotBegins, IsWholeFront}
use Rattle.vp_grammar.specs.EntryReads.{Goes, Behind, IsEnd, Listed}
use Rattle.vp_grammar.specs.Certificates.{label_of, part_word}
use Rattle.vp_terms.specs.Packages.{TermTree, Product, Squares, Multiple}

-- a label
abbrev pub IsLabel : List Terminal → ℕ → List Terminal → Type 0
IsLabel ts n rest = (r : Ratio) × (ts ≡ terminal.Number r true ∷ rest) × (n ≡ label_of r)

-- labels with `*` between and then ";"
abbrev pub IsProduct : List Terminal → List ℕ → List Terminal → Type 0
IsProduct = Listed IsLabel (terminal.Operator operator.Star)

-- [ "of" labels ] ";"
abbrev pub MaybeOf : List Terminal → List ℕ → List Terminal → Type 0
MaybeOf ts [] rest = IsEnd ts rest
MaybeOf ts (l ∷ ls) rest = (more : List Terminal) × (ts ≡ terminal.Word word.Of ∷ more) × IsProduct more (l ∷ ls) rest

-- "(" expr ")"
abbrev pub IsBracketed : List Terminal → ExprTree → List Terminal → Type 0
IsBracketed ts t rest = (more : List Terminal) × (ts ≡ terminal.Symbol symbol.Open ∷ more) × IsExpression more t (terminal.Symbol symbol.Close ∷ rest)

-- no "sq" stands in front
abbrev pub IsNoSquare : List Terminal → List Terminal → Type 0
IsNoSquare ts rest = (ts ≡ rest) × NotBegins (terminal.Word word.Sq) rest

-- { "sq" "(" expr ")" }, at which no further "sq" follows
abbrev pub AreSquares : List Terminal → List ExprTree → List Terminal → Type 0
AreSquares = Goes (Behind IsBracketed (terminal.Word word.Sq)) IsNoSquare

-- whole [ "of" labels ] ";"
pub record IsStrict (ts : List Terminal) (t : TermTree) (rest : List Terminal) : Type 0 where
  pub times : ℕ
  pub labels : List ℕ
  pub behind : List Terminal
  pub whole : IsWholeFront ts times behind
  pub product : MaybeOf behind labels rest
  pub is : t ≡ Product times labels

-- whole { "sq" "(" expr ")" } [ "of" labels ] ";"
pub record IsSum (ts : List Terminal) (t : TermTree) (rest : List Terminal) : Type 0 where
  pub times : ℕ
  pub squares : List ExprTree
  pub labels : List ℕ
  pub behind : List Terminal
  pub behind_squares : List Terminal
  pub whole : IsWholeFront ts times behind
  pub are_squares : AreSquares behind squares behind_squares
  pub product : MaybeOf behind_squares labels rest
  pub is : t ≡ Squares times squares labels

-- whole "times" "(" expr ")" ";"
pub record IsEquation (ts : List Terminal) (t : TermTree) (rest : List Terminal) : Type 0 where
  pub label : ℕ
  pub times : ExprTree
  pub behind : List Terminal
  pub is_label : IsLabel ts label (terminal.Word word.Times ∷ behind)
  pub bracketed : IsBracketed behind times (terminal.Symbol symbol.Semicolon ∷ rest)
  pub is : t ≡ Multiple label times

-- a term behind the first
abbrev pub IsLater : List Terminal → TermTree → List Terminal → Type 0
IsLater ts t rest = ((more : List Terminal) × (ts ≡ terminal.Word word.Sum ∷ more) × IsSum more t rest) ⊎ ((more : List Terminal) × (ts ≡ terminal.Word word.Eq ∷ more) × IsEquation more t rest)

-- "}" stands in front
abbrev pub IsClosed : List Terminal → List Terminal → Type 0
IsClosed ts rest = ts ≡ terminal.Symbol symbol.BraceClose ∷ rest

-- "pos" and the first term, the later ones, and "}"
abbrev pub AreTerms : List Terminal → List TermTree → List Terminal → Type 0
AreTerms ts [] rest = ⊥
AreTerms ts (t ∷ us) rest = (more : List Terminal) × (after : List Terminal) × (ts ≡ terminal.Word word.Pos ∷ more) × IsStrict more t after × Goes IsLater IsClosed after us rest

-- the part's word
abbrev pub IsPart : List Terminal → Part → List Terminal → Type 0
IsPart ts p rest = ts ≡ terminal.Word (part_word p) ∷ rest

-- "cert" part whole "{"
abbrev pub IsHead : List Terminal → Part → ℕ → List Terminal → Type 0
IsHead ts p n rest = (r : Ratio) × (ts ≡ terminal.Word word.Cert ∷ terminal.Word (part_word p) ∷ terminal.Number r true ∷ terminal.Symbol symbol.BraceOpen ∷ rest) × (n ≡ label_of r)
