-- The grammar of certificates.
use Rattle.std.specs.Prelude.{ℕ, ◌≡◌, ◌-◌, ◌^◌, Bool, true, not, ◌||◌, IsTrue, pos, List, [], ◌∷◌, map, min, unsigned_abs}
use Rattle.std.specs.List.{list_all}
use Rattle.std.specs.Ordering.{int_eq}
use Rattle.vp_terms.specs.declared.ratio.Ratio.{Ratio}
use Rattle.vp_terms.specs.declared.package.Part.{Part}
use Rattle.vp_terms.specs.declared.package.Part.TheVariants as part
use Rattle.vp_grammar.specs.declared.terminal.Operator.TheVariants as operator
use Rattle.vp_grammar.specs.declared.terminal.Symbol.TheVariants as symbol
use Rattle.vp_lex.specs.declared.word.ReservedWord.{ReservedWord}
use Rattle.vp_lex.specs.declared.word.ReservedWord.TheVariants as word
use Rattle.vp_grammar.specs.declared.terminal.Terminal.{Terminal}
use Rattle.vp_grammar.specs.declared.terminal.Terminal.TheVariants as terminal
use Rattle.vp_grammar.specs.Grammar.{Expression, expression_then, expression_tree}
use Rattle.vp_terms.specs.Packages.{TermTree, CertTree, Product, Squares, Multiple}

-- wholes with `*` between
abbrev pub labels_then : List Ratio → List Terminal → List Terminal
labels_then [] rest = rest
labels_then (r ∷ []) rest = terminal.Number r true ∷ rest
labels_then (r ∷ q ∷ qs) rest = terminal.Number r true ∷ terminal.Operator operator.Star ∷ labels_then (q ∷ qs) rest

-- nothing for no labels, or "of" and the labels
abbrev pub of_then : List Ratio → List Terminal → List Terminal
of_then [] rest = rest
of_then (r ∷ rs) rest = terminal.Word word.Of ∷ labels_then (r ∷ rs) rest

-- each "sq" "(" expr ")"
abbrev pub squares_then : List Expression → List Terminal → List Terminal
squares_then [] rest = rest
squares_then (e ∷ es) rest = terminal.Word word.Sq ∷ terminal.Symbol symbol.Open ∷ expression_then e (terminal.Symbol symbol.Close ∷ squares_then es rest)

-- "sum" whole { "sq" "(" expr ")" } [ "of" labels ] ";" | "eq" whole "times" "(" expr ")" ";"
pub data Later : Type 0 where
  Summed : Ratio → List Expression → List Ratio → Later
  Equated : Ratio → Expression → Later

abbrev pub later_then : Later → List Terminal → List Terminal
later_then (Summed r es ls) rest = terminal.Word word.Sum ∷ terminal.Number r true ∷ squares_then es (of_then ls (terminal.Symbol symbol.Semicolon ∷ rest))
later_then (Equated r e) rest = terminal.Word word.Eq ∷ terminal.Number r true ∷ terminal.Word word.Times ∷ terminal.Symbol symbol.Open ∷ expression_then e (terminal.Symbol symbol.Close ∷ terminal.Symbol symbol.Semicolon ∷ rest)

abbrev pub laters_then : List Later → List Terminal → List Terminal
laters_then [] rest = rest
laters_then (l ∷ ls) rest = later_then l (laters_then ls rest)

-- "cert" part whole "{" "pos" whole [ "of" labels ] ";" { later } "}" ";"
pub record CertForm : Type 0 where
  pub part : Part
  pub number : Ratio
  pub times : Ratio
  pub labels : List Ratio
  pub laters : List Later

abbrev pub part_word : Part → ReservedWord
part_word part.Init = word.Init
part_word part.Safe = word.Safe
part_word part.Step = word.Step
part_word part.Fallback = word.Fallback

abbrev pub cert_terminals : CertForm → List Terminal
cert_terminals c = terminal.Word word.Cert ∷ terminal.Word (part_word c.part) ∷ terminal.Number c.number true ∷ terminal.Symbol symbol.BraceOpen ∷ terminal.Word word.Pos ∷ terminal.Number c.times true ∷ of_then c.labels (terminal.Symbol symbol.Semicolon ∷ laters_then c.laters (terminal.Symbol symbol.BraceClose ∷ terminal.Symbol symbol.Semicolon ∷ []))

-- a label or a certificate's number; beyond 32 bits it is read as 2^32 - 1
abbrev pub label_of : Ratio → ℕ
label_of r = min (unsigned_abs r.num) (2 ^ 32 - 1)

abbrev pub later_tree : Later → TermTree
later_tree (Summed r es ls) = Squares (unsigned_abs r.num) (map expression_tree es) (map label_of ls)
later_tree (Equated r e) = Multiple (label_of r) (expression_tree e)

abbrev pub form_tree : CertForm → CertTree
form_tree c = record { part = c.part; number = label_of c.number; terms = Product (unsigned_abs c.times.num) (map label_of c.labels) ∷ map later_tree c.laters }

-- not a number with `/` or `.`
abbrev pub is_no_fraction : Terminal → Bool
is_no_fraction (terminal.Number r w) = w
is_no_fraction t = true

-- a number that is told as a whole is one
abbrev pub is_whole_number : Terminal → Bool
is_whole_number (terminal.Number r w) = not w || int_eq r.den (pos 1)
is_whole_number t = true

-- a whole certificate, in which every number is a whole
abbrev pub SpellsCert : List Terminal → CertTree → Type 0
SpellsCert ts t = (c : CertForm) × (ts ≡ cert_terminals c) × (t ≡ form_tree c) × IsTrue (list_all is_no_fraction ts)
