-- Controllers have the parts that are read of them.
use Rattle.std.proofs.Common.{◌≡◌, ◌≢◌, ℕ, ◌<◌, length, List, [], ◌∷◌, Option, Some, None, Result, Ok, Err, refl, ap, sym, ◌∙◌, arith}
use Rattle.vp_terms.specs.declared.expr.Var.{Var}
use Rattle.vp_terms.specs.Tree.{ExprTree, FormulaTree, ProgTree, Nothing, Gives, GivesAny, Passes, OneOf, Then, Where}
use Rattle.vp_grammar.specs.declared.terminal.Span.{Span}
use Rattle.vp_grammar.specs.declared.terminal.Operator.TheVariants as operator
use Rattle.vp_grammar.specs.declared.terminal.Symbol.TheVariants as symbol
use Rattle.vp_lex.specs.declared.word.ReservedWord.TheVariants as word
use Rattle.vp_grammar.specs.declared.terminal.Terminal.{Terminal}
use Rattle.vp_grammar.specs.declared.terminal.Terminal.TheVariants as terminal
use Rattle.vp_grammar.specs.declared.fault.ParseErr.{ParseErr}
use Rattle.vp_grammar.specs.declared.fault.ParseErr.TheVariants.{Form, Memory}
use Rattle.vp_grammar.specs.Grammar.{expression_tree}
use Rattle.vp_grammar.specs.Formulas.{or_then, or_formula}
use Rattle.vp_grammar.specs.Reads.{IsExpression, Fails, FailsAll, Reads, ReadsAll}
use Rattle.vp_grammar.specs.FormulaReads.{IsDisjunction, IsGroup}
use Rattle.vp_grammar.specs.Front.{NotBegins}
use Rattle.vp_grammar.specs.Controllers.{Choice, Single, Several, Block, Braced, Statements, NoStatements, Stated, Statement, Freed, Assigned, Tested, Nested, Guarded, Forked, choice_then, block_then, statements_then, statement_then, control_of, choice_tree, block_tree, statements_tree, statement_tree, going, Ends, IsChoice, IsBlock, AreStatements, AreSome, IsStatement, IsFreed, IsGiven, IsTest, IsElse, IsConditional, else_then, else_tree, ElseEnds, BeginsNothing, SpellsChoice, SpellsController}
use Rattle.vp_grammar.proofs.Unique.{tail_of, unique_expression}
use Rattle.vp_grammar.proofs.FormulaUnique.{unique_or, not_expression}
use Rattle.vp_grammar.proofs.ControllerUnique.{not_choice, ends, unique_condition, unique_choice, unique_block, unique_statement}
use Rattle.vp_grammar.proofs.Steps.{Has, fails}

-- what is given
pub given_has_expression : (c : ℕ) (ts : List Terminal) (t : ProgTree) (r : List Terminal) → IsGiven c ts t r → Has (IsExpression ts)
given_has_expression c ts t r h = (expression_tree h.0, terminal.Symbol symbol.Semicolon ∷ r, (h.0, h.1, refl, omega arith))

pub given_unclosed : (c : ℕ) (ts rest : List Terminal) (u : ExprTree) → IsExpression ts u rest → NotBegins (terminal.Symbol symbol.Semicolon) rest → (t : ProgTree) (r : List Terminal) → IsGiven c ts t r → ⊥
given_unclosed c ts rest u h none t r q =
    let k : (expression_tree h.0 ≡ expression_tree q.0) × (rest ≡ terminal.Symbol symbol.Semicolon ∷ r) = unique_expression h.0 q.0 rest (terminal.Symbol symbol.Semicolon ∷ r) h.3 (omega arith) (sym h.1 ∙ q.1) in
    none r k.1

-- tests
pub test_has_formula : (ts : List Terminal) (t : ProgTree) (r : List Terminal) → IsTest ts t r → Has (IsDisjunction ts)
test_has_formula ts t r h = (or_formula h.0, terminal.Symbol symbol.Semicolon ∷ r, (h.0, h.1, refl, omega arith))

pub test_unclosed : (ts rest : List Terminal) (u : FormulaTree) → IsDisjunction ts u rest → NotBegins (terminal.Symbol symbol.Semicolon) rest → (t : ProgTree) (r : List Terminal) → IsTest ts t r → ⊥
test_unclosed ts rest u h none t r q =
    let k : (or_formula h.0 ≡ or_formula q.0) × (rest ≡ terminal.Symbol symbol.Semicolon ∷ r) = unique_or h.0 q.0 rest (terminal.Symbol symbol.Semicolon ∷ r) h.3 (omega arith) (sym h.1 ∙ q.1) in
    none r k.1

-- choices
pub choice_has_block : (ts : List Terminal) (t : ProgTree) (r : List Terminal) → IsChoice ts t r → Has (IsBlock ts)
choice_has_block ts t r h = from h.0 h.1
  where
    from : (c : Choice) → ts ≡ choice_then c r → Has (IsBlock ts)
    from (Single b) e = (block_tree b, r, (b, e, refl))
    from (Several b c) e = (block_tree b, terminal.Symbol symbol.Choice ∷ choice_then c r, (b, e, refl))

pub choice_has_other : (ts rest more : List Terminal) (u : ProgTree) → IsBlock ts u rest → rest ≡ terminal.Symbol symbol.Choice ∷ more → (t : ProgTree) (r : List Terminal) → IsChoice ts t r → Has (IsChoice more)
choice_has_other ts rest more u h m t r q = from q.0 q.1 q.3
  where
    from : (c : Choice) → ts ≡ choice_then c r → going r < 2 → Has (IsChoice more)
    from (Single b) e p =
        let k : (block_tree h.0 ≡ block_tree b) × (rest ≡ r) = unique_block h.0 b rest r (sym h.1 ∙ e) in
        let l : 2 ≡ going r = sym (ap going m) ∙ ap going k.1 in absurd (omega arith)
    from (Several b c) e p =
        let k : (block_tree h.0 ≡ block_tree b) × (rest ≡ terminal.Symbol symbol.Choice ∷ choice_then c r) = unique_block h.0 b rest (terminal.Symbol symbol.Choice ∷ choice_then c r) (sym h.1 ∙ e) in
        (choice_tree c, r, (c, tail_of _ _ _ _ (sym m ∙ k.1), refl, p))

pub several : (ts rest more after : List Terminal) (t u : ProgTree) → IsBlock ts t rest → rest ≡ terminal.Symbol symbol.Choice ∷ more → IsChoice more u after → IsChoice ts (OneOf t u) after
several ts rest more after t u h m q =
    let x : t ≡ block_tree h.0 = h.2 in let y : u ≡ choice_tree q.0 = q.2 in
    (Several h.0 q.0, h.1 ∙ ap (λ (xs : List Terminal). block_then h.0 xs) (m ∙ ap (λ (xs : List Terminal). terminal.Symbol symbol.Choice ∷ xs) q.1), cc, q.3)

goes_no_further : (ts : List Terminal) → NotBegins (terminal.Symbol symbol.Choice) ts → going ts < 2
goes_no_further [] n = omega arith
goes_no_further (terminal.Symbol symbol.Choice ∷ ts) n = absurd (n ts refl)
goes_no_further (terminal.Word word.Else ∷ ts) n = omega arith
goes_no_further (_ ∷ ts) n = omega arith

pub single : (ts rest : List Terminal) (t : ProgTree) → IsBlock ts t rest → NotBegins (terminal.Symbol symbol.Choice) rest → IsChoice ts t rest
single ts rest t h n = (Single h.0, h.1, h.2, goes_no_further rest n)

-- blocks
block_has_statements : (ts more : List Terminal) → ts ≡ terminal.Symbol symbol.BraceOpen ∷ more → (t : ProgTree) (r : List Terminal) → IsBlock ts t r → Has (AreStatements more)
block_has_statements ts more m t r h = from h.0 h.1
  where
    from : (b : Block) → ts ≡ block_then b r → Has (AreStatements more)
    from (Braced ss) e = (statements_tree ss, r, (ss, tail_of _ _ _ _ (sym m ∙ e), refl))

braced : (ts more rest : List Terminal) (t : ProgTree) → ts ≡ terminal.Symbol symbol.BraceOpen ∷ more → AreStatements more t rest → IsBlock ts t rest
braced ts more rest t m h = (Braced h.0, m ∙ ap (λ (xs : List Terminal). terminal.Symbol symbol.BraceOpen ∷ xs) h.1, h.2)

pub reads_braced : {X : Type 0} (view : X → ProgTree) (rest : X → List Terminal) (ts more : List Terminal) (result : Result X ParseErr) → ts ≡ terminal.Symbol symbol.BraceOpen ∷ more → Reads view rest (AreStatements more) result → Reads view rest (IsBlock ts) result
reads_braced view rest ts more (Ok x) m h = braced ts more (rest x) (view x) m h
reads_braced view rest ts more (Err e) m h = fails (AreStatements more) (IsBlock ts) e (block_has_statements ts more m) h

pub no_block : (ts : List Terminal) → NotBegins (terminal.Symbol symbol.BraceOpen) ts → (t : ProgTree) (r : List Terminal) → IsBlock ts t r → ⊥
no_block ts none t r h = from h.0 h.1
  where
    from : (b : Block) → ts ≡ block_then b r → ⊥
    from (Braced ss) e = none _ e

-- statements
statements_have_some : (ts : List Terminal) → NotBegins (terminal.Symbol symbol.BraceClose) ts → (t : ProgTree) (r : List Terminal) → AreStatements ts t r → Has (AreSome ts)
statements_have_some ts none t r h = from h.0 h.1
  where
    from : (ss : Statements) → ts ≡ statements_then ss (terminal.Symbol symbol.BraceClose ∷ r) → Has (AreSome ts)
    from NoStatements e = absurd (none r e)
    from (Stated s ss) e = (statements_tree (Stated s ss), r, (s, ss, e, refl))

some : (ts rest : List Terminal) (t : ProgTree) → AreSome ts t rest → AreStatements ts t rest
some ts rest t h = (Stated h.0 h.1, h.2, h.3)

pub reads_some : {X : Type 0} (view : X → ProgTree) (rest : X → List Terminal) (ts : List Terminal) (result : Result X ParseErr) → NotBegins (terminal.Symbol symbol.BraceClose) ts → Reads view rest (AreSome ts) result → Reads view rest (AreStatements ts) result
reads_some view rest ts (Ok x) none h = some ts (rest x) (view x) h
reads_some view rest ts (Err e) none h = fails (AreSome ts) (AreStatements ts) e (statements_have_some ts none) h

pub some_have_one : (ts : List Terminal) (t : ProgTree) (r : List Terminal) → AreSome ts t r → Has (IsStatement ts)
some_have_one ts t r h = (statement_tree h.0, statements_then h.1 (terminal.Symbol symbol.BraceClose ∷ r), (h.0, h.2, refl, ends h.0 h.1 r))

pub some_have_others : (ts rest : List Terminal) (u : ProgTree) → IsStatement ts u rest → NotBegins (terminal.Symbol symbol.BraceClose) rest → (t : ProgTree) (r : List Terminal) → AreSome ts t r → Has (AreSome rest)
some_have_others ts rest u h none t r q = from q.0 q.1 q.2
  where
    from : (s : Statement) (ss : Statements) → ts ≡ statements_then (Stated s ss) (terminal.Symbol symbol.BraceClose ∷ r) → Has (AreSome rest)
    from s NoStatements e =
        let k : (statement_tree h.0 ≡ statement_tree s) × (rest ≡ terminal.Symbol symbol.BraceClose ∷ r) = unique_statement h.0 s rest (terminal.Symbol symbol.BraceClose ∷ r) h.3 (ends s NoStatements r) (sym h.1 ∙ e) in
        absurd (none r k.1)
    from s (Stated x xs) e =
        let k : (statement_tree h.0 ≡ statement_tree s) × (rest ≡ statements_then (Stated x xs) (terminal.Symbol symbol.BraceClose ∷ r)) = unique_statement h.0 s rest (statements_then (Stated x xs) (terminal.Symbol symbol.BraceClose ∷ r)) h.3 (ends s (Stated x xs) r) (sym h.1 ∙ e) in
        (statements_tree (Stated x xs), r, (x, xs, k.1, refl))

pub last : (ts rest after : List Terminal) (t : ProgTree) → IsStatement ts t rest → rest ≡ terminal.Symbol symbol.BraceClose ∷ after → AreSome ts t after
last ts rest after t h e = (h.0, NoStatements, h.1 ∙ ap (λ (xs : List Terminal). statement_then h.0 xs) e, h.2)

pub followed : (ts rest after : List Terminal) (t u : ProgTree) → IsStatement ts t rest → AreSome rest u after → AreSome ts (Then t u) after
followed ts rest after t u h q =
    let x : t ≡ statement_tree h.0 = h.2 in let y : u ≡ statements_tree (Stated q.0 q.1) = q.3 in
    (h.0, Stated q.0 q.1, h.1 ∙ ap (λ (xs : List Terminal). statement_then h.0 xs) q.2, rw (x, y) refl)

-- a control that is given any value
statement_has_freed : (ts more : List Terminal) (s : Span) (v : Option Var) → ts ≡ terminal.Name s v ∷ terminal.Symbol symbol.Assign ∷ terminal.Operator operator.Star ∷ more → (t : ProgTree) (r : List Terminal) → IsStatement ts t r → Has (IsFreed (control_of v) more)
statement_has_freed ts more s v m t r h = from h.0 h.1
  where
    from : (x : Statement) → ts ≡ statement_then x r → Has (IsFreed (control_of v) more)
    from (Freed y w) e = (GivesAny (control_of v), r, (tail_of _ _ _ _ (tail_of _ _ _ _ (tail_of _ _ _ _ (sym m ∙ e))), refl))
    from (Assigned y w x) e = not_expression x _ _ (tail_of _ _ _ _ (tail_of _ _ _ _ (sym e ∙ m))) refl
    from (Tested f) e = absurd (cc)
    from (Nested c) e = not_choice c _ _ (sym e ∙ m) refl
    from (Guarded f a) e = absurd (cc)
    from (Forked f a b) e = absurd (cc)

free : (ts more r : List Terminal) (s : Span) (v : Option Var) (t : ProgTree) → ts ≡ terminal.Name s v ∷ terminal.Symbol symbol.Assign ∷ terminal.Operator operator.Star ∷ more → IsFreed (control_of v) more t r → IsStatement ts t r
free ts more r s v t m h = (Freed s v, m ∙ ap (λ (xs : List Terminal). terminal.Name s v ∷ terminal.Symbol symbol.Assign ∷ terminal.Operator operator.Star ∷ xs) h.0, h.1, tt)

pub reads_freed : {X : Type 0} (view : X → ProgTree) (rest : X → List Terminal) (ts more : List Terminal) (s : Span) (v : Option Var) (result : Result X ParseErr) → ts ≡ terminal.Name s v ∷ terminal.Symbol symbol.Assign ∷ terminal.Operator operator.Star ∷ more → Reads view rest (IsFreed (control_of v) more) result → Reads view rest (IsStatement ts) result
reads_freed view rest ts more s v (Ok x) m h = free ts more (rest x) s v (view x) m h
reads_freed view rest ts more s v (Err e) m h = fails (IsFreed (control_of v) more) (IsStatement ts) e (statement_has_freed ts more s v m) h

-- a control that is given a value
statement_has_given : (ts more : List Terminal) (s : Span) (v : Option Var) → ts ≡ terminal.Name s v ∷ terminal.Symbol symbol.Assign ∷ more → NotBegins (terminal.Operator operator.Star) more → (t : ProgTree) (r : List Terminal) → IsStatement ts t r → Has (IsGiven (control_of v) more)
statement_has_given ts more s v m none t r h = from h.0 h.1
  where
    from : (x : Statement) → ts ≡ statement_then x r → Has (IsGiven (control_of v) more)
    from (Freed y w) e = absurd (none _ (tail_of _ _ _ _ (tail_of _ _ _ _ (sym m ∙ e))))
    from (Assigned y w x) e = (Gives (control_of v) (expression_tree x), r, (x, tail_of _ _ _ _ (tail_of _ _ _ _ (sym m ∙ e)), refl))
    from (Tested f) e = absurd (cc)
    from (Nested c) e = not_choice c _ _ (sym e ∙ m) refl
    from (Guarded f a) e = absurd (cc)
    from (Forked f a b) e = absurd (cc)

assigned : (ts more r : List Terminal) (s : Span) (v : Option Var) (t : ProgTree) → ts ≡ terminal.Name s v ∷ terminal.Symbol symbol.Assign ∷ more → IsGiven (control_of v) more t r → IsStatement ts t r
assigned ts more r s v t m h = (Assigned s v h.0, m ∙ ap (λ (xs : List Terminal). terminal.Name s v ∷ terminal.Symbol symbol.Assign ∷ xs) h.1, h.2, tt)

pub reads_given : {X : Type 0} (view : X → ProgTree) (rest : X → List Terminal) (ts more : List Terminal) (s : Span) (v : Option Var) (result : Result X ParseErr) → ts ≡ terminal.Name s v ∷ terminal.Symbol symbol.Assign ∷ more → NotBegins (terminal.Operator operator.Star) more → Reads view rest (IsGiven (control_of v) more) result → Reads view rest (IsStatement ts) result
reads_given view rest ts more s v (Ok x) m none h = assigned ts more (rest x) s v (view x) m h
reads_given view rest ts more s v (Err e) m none h = fails (IsGiven (control_of v) more) (IsStatement ts) e (statement_has_given ts more s v m none) h

-- a test
statement_has_test : (ts more : List Terminal) → ts ≡ terminal.Symbol symbol.Question ∷ more → (t : ProgTree) (r : List Terminal) → IsStatement ts t r → Has (IsTest more)
statement_has_test ts more m t r h = from h.0 h.1
  where
    from : (x : Statement) → ts ≡ statement_then x r → Has (IsTest more)
    from (Freed y w) e = absurd (cc)
    from (Assigned y w x) e = absurd (cc)
    from (Tested f) e = (Passes (or_formula f), r, (f, tail_of _ _ _ _ (sym m ∙ e), refl))
    from (Nested c) e = not_choice c _ _ (sym e ∙ m) refl
    from (Guarded f a) e = absurd (cc)
    from (Forked f a b) e = absurd (cc)

tested : (ts more r : List Terminal) (t : ProgTree) → ts ≡ terminal.Symbol symbol.Question ∷ more → IsTest more t r → IsStatement ts t r
tested ts more r t m h = (Tested h.0, m ∙ ap (λ (xs : List Terminal). terminal.Symbol symbol.Question ∷ xs) h.1, h.2, tt)

pub reads_test : {X : Type 0} (view : X → ProgTree) (rest : X → List Terminal) (ts more : List Terminal) (result : Result X ParseErr) → ts ≡ terminal.Symbol symbol.Question ∷ more → Reads view rest (IsTest more) result → Reads view rest (IsStatement ts) result
reads_test view rest ts more (Ok x) m h = tested ts more (rest x) (view x) m h
reads_test view rest ts more (Err e) m h = fails (IsTest more) (IsStatement ts) e (statement_has_test ts more m) h

-- an `if`
statement_has_conditional : (ts more : List Terminal) → ts ≡ terminal.Word word.If ∷ terminal.Symbol symbol.SquareOpen ∷ more → (t : ProgTree) (r : List Terminal) → IsStatement ts t r → Has (IsConditional more)
statement_has_conditional ts more m t r h = from h.0 h.1 h.3
  where
    from : (x : Statement) → ts ≡ statement_then x r → Ends x r → Has (IsConditional more)
    from (Freed y w) e p = absurd (cc)
    from (Assigned y w x) e p = absurd (cc)
    from (Tested f) e p = absurd (cc)
    from (Nested c) e p = not_choice c _ _ (sym e ∙ m) refl
    from (Guarded f a) e p = (Where (or_formula f) (block_tree a) Nothing, r, (f, a, None, tail_of _ _ _ _ (tail_of _ _ _ _ (sym m ∙ e)), refl, p))
    from (Forked f a b) e p = (Where (or_formula f) (block_tree a) (block_tree b), r, (f, a, Some b, tail_of _ _ _ _ (tail_of _ _ _ _ (sym m ∙ e)), refl, tt))

conditional : (ts more r : List Terminal) (t : ProgTree) → ts ≡ terminal.Word word.If ∷ terminal.Symbol symbol.SquareOpen ∷ more → IsConditional more t r → IsStatement ts t r
conditional ts more r t m h = from h.2 h.3 h.4 h.5
  where
    from : (b : Option Block) → more ≡ or_then h.0 (terminal.Symbol symbol.SquareClose ∷ block_then h.1 (else_then b r)) → t ≡ Where (or_formula h.0) (block_tree h.1) (else_tree b) → ElseEnds b r → IsStatement ts t r
    from None e k p = (Guarded h.0 h.1, m ∙ ap (λ (xs : List Terminal). terminal.Word word.If ∷ terminal.Symbol symbol.SquareOpen ∷ xs) e, k, p)
    from (Some b) e k p = (Forked h.0 h.1 b, m ∙ ap (λ (xs : List Terminal). terminal.Word word.If ∷ terminal.Symbol symbol.SquareOpen ∷ xs) e, k, tt)

pub reads_conditional : {X : Type 0} (view : X → ProgTree) (rest : X → List Terminal) (ts more : List Terminal) (result : Result X ParseErr) → ts ≡ terminal.Word word.If ∷ terminal.Symbol symbol.SquareOpen ∷ more → Reads view rest (IsConditional more) result → Reads view rest (IsStatement ts) result
reads_conditional view rest ts more (Ok x) m h = conditional ts more (rest x) (view x) m h
reads_conditional view rest ts more (Err e) m h = fails (IsConditional more) (IsStatement ts) e (statement_has_conditional ts more m) h

-- a choice
statement_has_choice : (ts : List Terminal) → BeginsNothing ts → (t : ProgTree) (r : List Terminal) → IsStatement ts t r → Has (IsChoice ts)
statement_has_choice ts none t r h = from h.0 h.1 h.3
  where
    from : (x : Statement) → ts ≡ statement_then x r → Ends x r → Has (IsChoice ts)
    from (Freed y w) e p = absurd (none.named y w _ e)
    from (Assigned y w x) e p = absurd (none.named y w _ e)
    from (Tested f) e p = absurd (none.tested _ e)
    from (Nested c) e p = (choice_tree c, r, (c, e, refl, p))
    from (Guarded f a) e p = absurd (none.branched _ e)
    from (Forked f a b) e p = absurd (none.branched _ e)

nested : (ts r : List Terminal) (t : ProgTree) → IsChoice ts t r → IsStatement ts t r
nested ts r t h = (Nested h.0, h.1, h.2, h.3)

pub reads_choice : {X : Type 0} (view : X → ProgTree) (rest : X → List Terminal) (ts : List Terminal) (result : Result X ParseErr) → BeginsNothing ts → Reads view rest (IsChoice ts) result → Reads view rest (IsStatement ts) result
reads_choice view rest ts (Ok x) none h = nested ts (rest x) (view x) h
reads_choice view rest ts (Err e) none h = fails (IsChoice ts) (IsStatement ts) e (statement_has_choice ts none) h

-- the parts of an `if`
pub conditional_has_condition : (ts : List Terminal) (t : ProgTree) (r : List Terminal) → IsConditional ts t r → Has (IsGroup ts)
conditional_has_condition ts t r h = (or_formula h.0, block_then h.1 (else_then h.2 r), (h.0, h.3, refl))

pub conditional_has_block : (ts rest : List Terminal) (u : FormulaTree) → IsGroup ts u rest → (t : ProgTree) (r : List Terminal) → IsConditional ts t r → Has (IsBlock rest)
conditional_has_block ts rest u h t r q =
    let k : (or_formula h.0 ≡ or_formula q.0) × (rest ≡ block_then q.1 (else_then q.2 r)) = unique_condition h.0 q.0 rest (block_then q.1 (else_then q.2 r)) (sym h.1 ∙ q.3) in
    (block_tree q.1, else_then q.2 r, (q.1, k.1, refl))

pub conditional_has_else : (ts rest more : List Terminal) (u : FormulaTree) (v : ProgTree) → IsGroup ts u rest → IsBlock rest v more → (t : ProgTree) (r : List Terminal) → IsConditional ts t r → Has (IsElse more)
conditional_has_else ts rest more u v h b t r q =
    let k : (or_formula h.0 ≡ or_formula q.0) × (rest ≡ block_then q.1 (else_then q.2 r)) = unique_condition h.0 q.0 rest (block_then q.1 (else_then q.2 r)) (sym h.1 ∙ q.3) in
    let l : (block_tree b.0 ≡ block_tree q.1) × (more ≡ else_then q.2 r) = unique_block b.0 q.1 more (else_then q.2 r) (sym b.1 ∙ k.1) in
    (else_tree q.2, r, (q.2, l.1, refl, q.5))

else_has_block : (ts more : List Terminal) → ts ≡ terminal.Word word.Else ∷ more → (t : ProgTree) (r : List Terminal) → IsElse ts t r → Has (IsBlock more)
else_has_block ts more m t r h = from h.0 h.1 h.3
  where
    from : (b : Option Block) → ts ≡ else_then b r → ElseEnds b r → Has (IsBlock more)
    from None e p = absurd (p more (sym e ∙ m))
    from (Some b) e p = (block_tree b, r, (b, tail_of _ _ _ _ (sym m ∙ e), refl))

else_block : (ts more r : List Terminal) (t : ProgTree) → ts ≡ terminal.Word word.Else ∷ more → IsBlock more t r → IsElse ts t r
else_block ts more r t m h = (Some h.0, m ∙ ap (λ (xs : List Terminal). terminal.Word word.Else ∷ xs) h.1, h.2, tt)

pub reads_else : {X : Type 0} (view : X → ProgTree) (rest : X → List Terminal) (ts more : List Terminal) (result : Result X ParseErr) → ts ≡ terminal.Word word.Else ∷ more → Reads view rest (IsBlock more) result → Reads view rest (IsElse ts) result
reads_else view rest ts more (Ok x) m h = else_block ts more (rest x) (view x) m h
reads_else view rest ts more (Err e) m h = fails (IsBlock more) (IsElse ts) e (else_has_block ts more m) h

-- all of the terminals
pub choice_fails_all : (ts : List Terminal) (e : ParseErr) → Fails (IsChoice ts) e → FailsAll (SpellsChoice ts) e
choice_fails_all ts Form h = λ t s. h t (terminal.Symbol symbol.Semicolon ∷ []) (s.0, s.1, s.2, omega arith)
choice_fails_all ts Memory h = tt

rest_of_choice : (ts rest : List Terminal) (u : ProgTree) → IsChoice ts u rest → (t : ProgTree) → SpellsChoice ts t → rest ≡ terminal.Symbol symbol.Semicolon ∷ []
rest_of_choice ts rest u h t s =
    let k : (choice_tree h.0 ≡ choice_tree s.0) × (rest ≡ terminal.Symbol symbol.Semicolon ∷ []) = unique_choice h.0 s.0 rest (terminal.Symbol symbol.Semicolon ∷ []) h.3 (omega arith) (sym h.1 ∙ s.1) in
    k.1

pub choice_unclosed : (ts rest : List Terminal) (u : ProgTree) → IsChoice ts u rest → NotBegins (terminal.Symbol symbol.Semicolon) rest → (t : ProgTree) → SpellsChoice ts t → ⊥
choice_unclosed ts rest u h none t s = none [] (rest_of_choice ts rest u h t s)

pub choice_not_all : (ts rest after : List Terminal) (u : ProgTree) → IsChoice ts u rest → rest ≡ terminal.Symbol symbol.Semicolon ∷ after → length after ≢ 0 → (t : ProgTree) → SpellsChoice ts t → ⊥
choice_not_all ts rest after u h e n t s = n (ap length (tail_of _ _ _ _ (sym e ∙ rest_of_choice ts rest u h t s)))

controller_has_choice : (ts more : List Terminal) → ts ≡ terminal.Word word.Ctrl ∷ more → (t : ProgTree) → SpellsController ts t → SpellsChoice more t
controller_has_choice ts more m t s = (s.0, tail_of _ _ _ _ (sym m ∙ s.1), s.2)

pub reads_controller : {X : Type 0} (view : X → ProgTree) (ts more : List Terminal) (result : Result X ParseErr) → ts ≡ terminal.Word word.Ctrl ∷ more → ReadsAll view (SpellsChoice more) result → ReadsAll view (SpellsController ts) result
reads_controller view ts more (Ok x) m h = (h.0, m ∙ ap (λ (xs : List Terminal). terminal.Word word.Ctrl ∷ xs) h.1, h.2)
reads_controller view ts more (Err Form) m h = λ t s. h t (controller_has_choice ts more m t s)
reads_controller view ts more (Err Memory) m h = tt

pub no_controller : (ts : List Terminal) → NotBegins (terminal.Word word.Ctrl) ts → (t : ProgTree) → SpellsController ts t → ⊥
no_controller ts none t s = none _ s.1
