-- Terminals are those of one controller at most.
use Rattle.std.proofs.Common.{◌≡◌, ◌<◌, List, ◌∷◌, Option, Bool, true, false, refl, ap, sym, ◌∙◌, arith}
use Rattle.vp_terms.specs.declared.expr.Var.{Var}
use Rattle.vp_terms.specs.Tree.{GivesAny, Passes}
use Rattle.vp_grammar.specs.declared.terminal.Symbol.TheVariants as symbol
use Rattle.vp_lex.specs.declared.word.ReservedWord.TheVariants as word
use Rattle.vp_grammar.specs.declared.terminal.Terminal.{Terminal}
use Rattle.vp_grammar.specs.declared.terminal.Terminal.TheVariants as terminal
use Rattle.vp_grammar.specs.Grammar.{Expression, expression_then, expression_tree}
use Rattle.vp_grammar.specs.Formulas.{Disjunction, or_then, or_formula}
use Rattle.vp_grammar.specs.Controllers.{Choice, Single, Several, Block, Braced, Statements, NoStatements, Stated, Statement, Freed, Assigned, Tested, Nested, Guarded, Forked, choice_then, block_then, statements_then, statement_then, control_of, choice_tree, block_tree, statements_tree, statement_tree, going, Ends}
use Rattle.vp_grammar.proofs.Unique.{tail_of, unique_expression}
use Rattle.vp_grammar.proofs.FormulaUnique.{unique_or, not_expression}

-- what a choice begins with
abbrev pub opens : List Terminal → Bool
opens (terminal.Symbol symbol.BraceOpen ∷ ts) = true
opens ts = false

choice_opens : (c : Choice) (r : List Terminal) → opens (choice_then c r) ≡ true
choice_opens (Single (Braced ss)) r = refl
choice_opens (Several (Braced ss) c) r = refl

pub not_choice : {P : Type 0} (c : Choice) (r s : List Terminal) → choice_then c r ≡ s → opens s ≡ false → P
not_choice c r s h k = let f : true ≡ false = sym (choice_opens c r) ∙ ap opens h ∙ k in absurd (cc)

-- what a statement begins with
abbrev pub begins_statement : List Terminal → Bool
begins_statement (terminal.Name s v ∷ ts) = true
begins_statement (terminal.Symbol symbol.Question ∷ ts) = true
begins_statement (terminal.Symbol symbol.BraceOpen ∷ ts) = true
begins_statement (terminal.Word word.If ∷ ts) = true
begins_statement ts = false

statement_begins : (s : Statement) (r : List Terminal) → begins_statement (statement_then s r) ≡ true
statement_begins (Freed s v) r = refl
statement_begins (Assigned s v e) r = refl
statement_begins (Tested f) r = refl
statement_begins (Nested (Single (Braced ss))) r = refl
statement_begins (Nested (Several (Braced ss) c)) r = refl
statement_begins (Guarded f b) r = refl
statement_begins (Forked f b c) r = refl

pub not_statement : {P : Type 0} (s : Statement) (r q : List Terminal) → statement_then s r ≡ q → begins_statement q ≡ false → P
not_statement s r q h k = let f : true ≡ false = sym (statement_begins s r) ∙ ap begins_statement h ∙ k in absurd (cc)

-- no statement goes on what stands before it
statement_stops : (s : Statement) (r : List Terminal) → going (statement_then s r) ≡ 0
statement_stops (Freed s v) r = refl
statement_stops (Assigned s v e) r = refl
statement_stops (Tested f) r = refl
statement_stops (Nested (Single (Braced ss))) r = refl
statement_stops (Nested (Several (Braced ss) c)) r = refl
statement_stops (Guarded f b) r = refl
statement_stops (Forked f b c) r = refl

statements_stop : (ss : Statements) (r : List Terminal) → going (statements_then ss (terminal.Symbol symbol.BraceClose ∷ r)) ≡ 0
statements_stop NoStatements r = refl
statements_stop (Stated s ss) r = statement_stops s (statements_then ss (terminal.Symbol symbol.BraceClose ∷ r))

ends_where : (s : Statement) (r : List Terminal) → going r ≡ 0 → Ends s r
ends_where (Freed s v) r e = tt
ends_where (Assigned s v x) r e = tt
ends_where (Tested f) r e = tt
ends_where (Nested c) r e = omega arith
ends_where (Guarded f b) r e = λ rest h. let k : going r ≡ 1 = ap going h in omega arith
ends_where (Forked f b c) r e = tt

pub ends : (s : Statement) (ss : Statements) (r : List Terminal) → Ends s (statements_then ss (terminal.Symbol symbol.BraceClose ∷ r))
ends s ss r = ends_where s _ (statements_stop ss r)

-- a part and the mark behind it
pub unique_given : (a b : Expression) (r s : List Terminal) → expression_then a (terminal.Symbol symbol.Semicolon ∷ r) ≡ expression_then b (terminal.Symbol symbol.Semicolon ∷ s) → (expression_tree a ≡ expression_tree b) × (r ≡ s)
unique_given a b r s e =
    let h : (expression_tree a ≡ expression_tree b) × (terminal.Symbol symbol.Semicolon ∷ r ≡ terminal.Symbol symbol.Semicolon ∷ s) = unique_expression a b (terminal.Symbol symbol.Semicolon ∷ r) (terminal.Symbol symbol.Semicolon ∷ s) (omega arith) (omega arith) e in
    (h.0, tail_of _ _ _ _ h.1)

pub unique_test : (a b : Disjunction) (r s : List Terminal) → or_then a (terminal.Symbol symbol.Semicolon ∷ r) ≡ or_then b (terminal.Symbol symbol.Semicolon ∷ s) → (or_formula a ≡ or_formula b) × (r ≡ s)
unique_test a b r s e =
    let h : (or_formula a ≡ or_formula b) × (terminal.Symbol symbol.Semicolon ∷ r ≡ terminal.Symbol symbol.Semicolon ∷ s) = unique_or a b (terminal.Symbol symbol.Semicolon ∷ r) (terminal.Symbol symbol.Semicolon ∷ s) (omega arith) (omega arith) e in
    (h.0, tail_of _ _ _ _ h.1)

pub unique_condition : (a b : Disjunction) (r s : List Terminal) → or_then a (terminal.Symbol symbol.SquareClose ∷ r) ≡ or_then b (terminal.Symbol symbol.SquareClose ∷ s) → (or_formula a ≡ or_formula b) × (r ≡ s)
unique_condition a b r s e =
    let h : (or_formula a ≡ or_formula b) × (terminal.Symbol symbol.SquareClose ∷ r ≡ terminal.Symbol symbol.SquareClose ∷ s) = unique_or a b (terminal.Symbol symbol.SquareClose ∷ r) (terminal.Symbol symbol.SquareClose ∷ s) (omega arith) (omega arith) e in
    (h.0, tail_of _ _ _ _ h.1)

mutual
  pub unique_choice : (a b : Choice) (r s : List Terminal) → going r < 2 → going s < 2 → choice_then a r ≡ choice_then b s → (choice_tree a ≡ choice_tree b) × (r ≡ s)
  unique_choice (Single a) (Single b) r s h k e = unique_block a b r s e
  unique_choice (Single a) (Several b d) r s h k e =
      let m : (block_tree a ≡ block_tree b) × (r ≡ terminal.Symbol symbol.Choice ∷ choice_then d s) = unique_block a b r (terminal.Symbol symbol.Choice ∷ choice_then d s) e in
      let n : going r ≡ 2 = ap going m.1 in absurd (omega arith)
  unique_choice (Several a c) (Single b) r s h k e =
      let m : (block_tree a ≡ block_tree b) × (terminal.Symbol symbol.Choice ∷ choice_then c r ≡ s) = unique_block a b (terminal.Symbol symbol.Choice ∷ choice_then c r) s e in
      let n : 2 ≡ going s = ap going m.1 in absurd (omega arith)
  unique_choice (Several a c) (Several b d) r s h k e =
      let m : (block_tree a ≡ block_tree b) × (terminal.Symbol symbol.Choice ∷ choice_then c r ≡ terminal.Symbol symbol.Choice ∷ choice_then d s) = unique_block a b (terminal.Symbol symbol.Choice ∷ choice_then c r) (terminal.Symbol symbol.Choice ∷ choice_then d s) e in
      let n : (choice_tree c ≡ choice_tree d) × (r ≡ s) = unique_choice c d r s h k (tail_of _ _ _ _ m.1) in
      let x : block_tree a ≡ block_tree b = m.0 in
      let y : choice_tree c ≡ choice_tree d = n.0 in
      (cc, n.1)

  pub unique_block : (a b : Block) (r s : List Terminal) → block_then a r ≡ block_then b s → (block_tree a ≡ block_tree b) × (r ≡ s)
  unique_block (Braced a) (Braced b) r s e = unique_statements a b r s (tail_of _ _ _ _ e)

  pub unique_statements : (a b : Statements) (r s : List Terminal) → statements_then a (terminal.Symbol symbol.BraceClose ∷ r) ≡ statements_then b (terminal.Symbol symbol.BraceClose ∷ s) → (statements_tree a ≡ statements_tree b) × (r ≡ s)
  unique_statements NoStatements NoStatements r s e = (refl, tail_of _ _ _ _ e)
  unique_statements NoStatements (Stated b bs) r s e = not_statement b _ _ (sym e) refl
  unique_statements (Stated a xs) NoStatements r s e = not_statement a _ _ e refl
  unique_statements (Stated a NoStatements) (Stated b NoStatements) r s e =
      let h : (statement_tree a ≡ statement_tree b) × (terminal.Symbol symbol.BraceClose ∷ r ≡ terminal.Symbol symbol.BraceClose ∷ s) = unique_statement a b (terminal.Symbol symbol.BraceClose ∷ r) (terminal.Symbol symbol.BraceClose ∷ s) (ends a NoStatements r) (ends b NoStatements s) e in
      (h.0, tail_of _ _ _ _ h.1)
  unique_statements (Stated a NoStatements) (Stated b (Stated d ds)) r s e =
      let h : (statement_tree a ≡ statement_tree b) × (terminal.Symbol symbol.BraceClose ∷ r ≡ statements_then (Stated d ds) (terminal.Symbol symbol.BraceClose ∷ s)) = unique_statement a b (terminal.Symbol symbol.BraceClose ∷ r) (statements_then (Stated d ds) (terminal.Symbol symbol.BraceClose ∷ s)) (ends a NoStatements r) (ends b (Stated d ds) s) e in
      not_statement d _ _ (sym h.1) refl
  unique_statements (Stated a (Stated c cs)) (Stated b NoStatements) r s e =
      let h : (statement_tree a ≡ statement_tree b) × (statements_then (Stated c cs) (terminal.Symbol symbol.BraceClose ∷ r) ≡ terminal.Symbol symbol.BraceClose ∷ s) = unique_statement a b (statements_then (Stated c cs) (terminal.Symbol symbol.BraceClose ∷ r)) (terminal.Symbol symbol.BraceClose ∷ s) (ends a (Stated c cs) r) (ends b NoStatements s) e in
      not_statement c _ _ h.1 refl
  unique_statements (Stated a (Stated c cs)) (Stated b (Stated d ds)) r s e =
      let h : (statement_tree a ≡ statement_tree b) × (statements_then (Stated c cs) (terminal.Symbol symbol.BraceClose ∷ r) ≡ statements_then (Stated d ds) (terminal.Symbol symbol.BraceClose ∷ s)) = unique_statement a b (statements_then (Stated c cs) (terminal.Symbol symbol.BraceClose ∷ r)) (statements_then (Stated d ds) (terminal.Symbol symbol.BraceClose ∷ s)) (ends a (Stated c cs) r) (ends b (Stated d ds) s) e in
      let k : (statements_tree (Stated c cs) ≡ statements_tree (Stated d ds)) × (r ≡ s) = unique_statements (Stated c cs) (Stated d ds) r s h.1 in
      let x : statement_tree a ≡ statement_tree b = h.0 in
      let y : statements_tree (Stated c cs) ≡ statements_tree (Stated d ds) = k.0 in
      (rw (x, y) refl, k.1)

  pub unique_statement : (a b : Statement) (r q : List Terminal) → Ends a r → Ends b q → statement_then a r ≡ statement_then b q → (statement_tree a ≡ statement_tree b) × (r ≡ q)
  unique_statement (Freed s u) (Freed t v) r q h k e = let w : u ≡ v = cc in (ap (λ (o : Option Var). GivesAny (control_of o)) w, cc)
  unique_statement (Freed s u) (Assigned t v y) r q h k e = not_expression y _ _ (sym (tail_of _ _ _ _ (tail_of _ _ _ _ e))) refl
  unique_statement (Freed s u) (Tested g) r q h k e = absurd (cc)
  unique_statement (Freed s u) (Nested d) r q h k e = not_choice d _ _ (sym e) refl
  unique_statement (Freed s u) (Guarded g b) r q h k e = absurd (cc)
  unique_statement (Freed s u) (Forked g b y) r q h k e = absurd (cc)
  unique_statement (Assigned s u x) (Freed t v) r q h k e = not_expression x _ _ (tail_of _ _ _ _ (tail_of _ _ _ _ e)) refl
  unique_statement (Assigned s u x) (Assigned t v y) r q h k e =
      let w : u ≡ v = cc in
      let m : (expression_tree x ≡ expression_tree y) × (r ≡ q) = unique_given x y r q (tail_of _ _ _ _ (tail_of _ _ _ _ e)) in
      let n : expression_tree x ≡ expression_tree y = m.0 in
      (rw (w, n) refl, m.1)
  unique_statement (Assigned s u x) (Tested g) r q h k e = absurd (cc)
  unique_statement (Assigned s u x) (Nested d) r q h k e = not_choice d _ _ (sym e) refl
  unique_statement (Assigned s u x) (Guarded g b) r q h k e = absurd (cc)
  unique_statement (Assigned s u x) (Forked g b y) r q h k e = absurd (cc)
  unique_statement (Tested f) (Freed t v) r q h k e = absurd (cc)
  unique_statement (Tested f) (Assigned t v y) r q h k e = absurd (cc)
  unique_statement (Tested f) (Tested g) r q h k e =
      let m : (or_formula f ≡ or_formula g) × (r ≡ q) = unique_test f g r q (tail_of _ _ _ _ e) in
      (ap Passes m.0, m.1)
  unique_statement (Tested f) (Nested d) r q h k e = not_choice d _ _ (sym e) refl
  unique_statement (Tested f) (Guarded g b) r q h k e = absurd (cc)
  unique_statement (Tested f) (Forked g b y) r q h k e = absurd (cc)
  unique_statement (Nested c) (Freed t v) r q h k e = not_choice c _ _ e refl
  unique_statement (Nested c) (Assigned t v y) r q h k e = not_choice c _ _ e refl
  unique_statement (Nested c) (Tested g) r q h k e = not_choice c _ _ e refl
  unique_statement (Nested c) (Nested d) r q h k e = unique_choice c d r q h k e
  unique_statement (Nested c) (Guarded g b) r q h k e = not_choice c _ _ e refl
  unique_statement (Nested c) (Forked g b y) r q h k e = not_choice c _ _ e refl
  unique_statement (Guarded f a) (Freed t v) r q h k e = absurd (cc)
  unique_statement (Guarded f a) (Assigned t v y) r q h k e = absurd (cc)
  unique_statement (Guarded f a) (Tested g) r q h k e = absurd (cc)
  unique_statement (Guarded f a) (Nested d) r q h k e = not_choice d _ _ (sym e) refl
  unique_statement (Guarded f a) (Guarded g b) r q h k e =
      let m : (or_formula f ≡ or_formula g) × (block_then a r ≡ block_then b q) = unique_condition f g (block_then a r) (block_then b q) (tail_of _ _ _ _ (tail_of _ _ _ _ e)) in
      let n : (block_tree a ≡ block_tree b) × (r ≡ q) = unique_block a b r q m.1 in
      let x : or_formula f ≡ or_formula g = m.0 in
      let y : block_tree a ≡ block_tree b = n.0 in
      (cc, n.1)
  unique_statement (Guarded f a) (Forked g b y) r q h k e =
      let m : (or_formula f ≡ or_formula g) × (block_then a r ≡ block_then b (terminal.Word word.Else ∷ block_then y q)) = unique_condition f g (block_then a r) (block_then b (terminal.Word word.Else ∷ block_then y q)) (tail_of _ _ _ _ (tail_of _ _ _ _ e)) in
      let n : (block_tree a ≡ block_tree b) × (r ≡ terminal.Word word.Else ∷ block_then y q) = unique_block a b r (terminal.Word word.Else ∷ block_then y q) m.1 in
      absurd (h _ n.1)
  unique_statement (Forked f a x) (Freed t v) r q h k e = absurd (cc)
  unique_statement (Forked f a x) (Assigned t v y) r q h k e = absurd (cc)
  unique_statement (Forked f a x) (Tested g) r q h k e = absurd (cc)
  unique_statement (Forked f a x) (Nested d) r q h k e = not_choice d _ _ (sym e) refl
  unique_statement (Forked f a x) (Guarded g b) r q h k e =
      let m : (or_formula f ≡ or_formula g) × (block_then a (terminal.Word word.Else ∷ block_then x r) ≡ block_then b q) = unique_condition f g (block_then a (terminal.Word word.Else ∷ block_then x r)) (block_then b q) (tail_of _ _ _ _ (tail_of _ _ _ _ e)) in
      let n : (block_tree a ≡ block_tree b) × (terminal.Word word.Else ∷ block_then x r ≡ q) = unique_block a b (terminal.Word word.Else ∷ block_then x r) q m.1 in
      absurd (k _ (sym n.1))
  unique_statement (Forked f a x) (Forked g b y) r q h k e =
      let m : (or_formula f ≡ or_formula g) × (block_then a (terminal.Word word.Else ∷ block_then x r) ≡ block_then b (terminal.Word word.Else ∷ block_then y q)) = unique_condition f g (block_then a (terminal.Word word.Else ∷ block_then x r)) (block_then b (terminal.Word word.Else ∷ block_then y q)) (tail_of _ _ _ _ (tail_of _ _ _ _ e)) in
      let n : (block_tree a ≡ block_tree b) × (terminal.Word word.Else ∷ block_then x r ≡ terminal.Word word.Else ∷ block_then y q) = unique_block a b (terminal.Word word.Else ∷ block_then x r) (terminal.Word word.Else ∷ block_then y q) m.1 in
      let o : (block_tree x ≡ block_tree y) × (r ≡ q) = unique_block x y r q (tail_of _ _ _ _ n.1) in
      let z : or_formula f ≡ or_formula g = m.0 in
      let w : block_tree a ≡ block_tree b = n.0 in
      let v : block_tree x ≡ block_tree y = o.0 in
      (cc, o.1)
