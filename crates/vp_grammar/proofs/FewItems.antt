-- A piece has no more items than terminals.
use Rattle.std.proofs.Common.{ℕ, ◌+◌, ◌≡◌, ◌≤◌, List, [], ◌∷◌, length, map, Option, ap, sym, ◌∙◌, arith}
use Rattle.std.proofs.lemmas.List.{length-map}
use Rattle.vp_terms.specs.declared.expr.Var.{Var}
use Rattle.vp_terms.specs.declared.expr.Expr.{Expr}
use Rattle.vp_terms.specs.declared.package.Slack.{Slack}
use Rattle.vp_terms.specs.Tree.{expr_tree}
use Rattle.vp_grammar.specs.declared.terminal.Span.{Span}
use Rattle.vp_grammar.specs.declared.terminal.Symbol.TheVariants as symbol
use Rattle.vp_lex.specs.declared.word.ReservedWord.{ReservedWord}
use Rattle.vp_lex.specs.declared.word.ReservedWord.TheVariants as word
use Rattle.vp_grammar.specs.declared.terminal.Terminal.{Terminal}
use Rattle.vp_grammar.specs.declared.terminal.Terminal.TheVariants as terminal
use Rattle.vp_grammar.specs.declared.entries.Mark.{Mark}
use Rattle.vp_grammar.specs.declared.entries.Mark.TheVariants as mark
use Rattle.vp_grammar.specs.Entries.{SpellsNames, SpellsEntries, SpellsBounds, Entries, LastEntry, Entry, Bounds, LastBound, Bound, names_then, mark_then, entries_then, entry_trees, bounds_then, bound_trees}
use Rattle.vp_terms.specs.Packages.{slack_tree}
use Rattle.vp_grammar.specs.Grammar.{expression_then}
use Rattle.vp_grammar.proofs.GoodTrees.{expression_longer}

names_few : (ns : List (Span × Option Var)) (rest : List Terminal) → length ns ≤ length (names_then ns rest)
names_few [] rest = omega arith
names_few (n ∷ []) rest = omega arith
names_few (n ∷ m ∷ ms) rest = omega (arith, names_few (m ∷ ms) rest)

pub few_names : (w : ReservedWord) (least : ℕ) (ts : List Terminal) (spans : List Span) → SpellsNames w least ts spans → length spans ≤ length ts
few_names w least ts spans s =
    let count : length spans ≡ length s.0 = ap length s.2 ∙ length-map s.0 (λ (n : Span × Option Var). n.0) in
    let whole : length ts ≡ length (names_then s.0 (terminal.Symbol symbol.Semicolon ∷ [])) + 1 = ap length s.1 ∙ (omega arith) in
    omega (arith, count, whole, names_few s.0 (terminal.Symbol symbol.Semicolon ∷ []))

marked_longer : (m : Mark) (ts : List Terminal) → length ts ≤ length (mark_then m ts)
marked_longer mark.Rate ts = omega arith
marked_longer mark.Setting ts = omega arith

entries_few : (m : Mark) (es : Entries) (rest : List Terminal) → length (entry_trees es) ≤ length (entries_then m es rest)
entries_few m (LastEntry s v e) rest = omega arith
entries_few m (Entry s v e es) rest = omega (arith, entries_few m es rest, expression_longer e (terminal.Symbol symbol.Comma ∷ entries_then m es rest), marked_longer m (expression_then e (terminal.Symbol symbol.Comma ∷ entries_then m es rest)))

pub few_entries : (w : ReservedWord) (m : Mark) (ts : List Terminal) (es : List Expr) → SpellsEntries w m ts (map expr_tree es) → length es ≤ length ts
few_entries w m ts es s =
    let count : length es ≡ length (entry_trees s.0) = sym (length-map es expr_tree) ∙ ap length s.2 in
    let whole : length ts ≡ length (entries_then m s.0 (terminal.Symbol symbol.Semicolon ∷ [])) + 1 = ap length s.1 ∙ (omega arith) in
    omega (arith, count, whole, entries_few m s.0 (terminal.Symbol symbol.Semicolon ∷ []))

bounds_few : (bs : Bounds) (rest : List Terminal) → length (bound_trees bs) ≤ length (bounds_then bs rest)
bounds_few (LastBound s v e f) rest = omega arith
bounds_few (Bound s v e f bs) rest =
    let behind = terminal.Symbol symbol.Comma ∷ bounds_then bs rest in
    omega (arith, bounds_few bs rest, expression_longer f behind, expression_longer e (terminal.Word word.To ∷ expression_then f behind))

pub few_bounds : (ts : List Terminal) (ss : List Slack) → SpellsBounds ts (map slack_tree ss) → length ss ≤ length ts
few_bounds ts ss s =
    let count : length ss ≡ length (bound_trees s.0) = sym (length-map ss slack_tree) ∙ ap length s.2 in
    let whole : length ts ≡ length (bounds_then s.0 (terminal.Symbol symbol.Semicolon ∷ [])) + 1 = ap length s.1 ∙ (omega arith) in
    omega (arith, count, whole, bounds_few s.0 (terminal.Symbol symbol.Semicolon ∷ []))
