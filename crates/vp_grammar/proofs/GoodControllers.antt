-- Terminals that may stand in a controller are those of a well formed one, and of one that is no larger.
use Rattle.std.proofs.Common.{◌≡◌, ◌+◌, ◌≤◌, length, List, [], ◌∷◌, false, ◌&&◌, IsTrue, nat_lt, Option, Some, None, refl, ap, sym, ◌∙◌, arith}
use Rattle.vp_terms.specs.declared.expr.Var.{Var}
use Rattle.vp_terms.specs.declared.expr.Var.TheVariants as variable
use Rattle.vp_terms.specs.declared.expr.Places.{Places}
use Rattle.vp_terms.specs.declared.prog.Prog.{Prog}
use Rattle.vp_terms.specs.declared.prog.Prog.TheVariants.{Skip, Assign, Any, Test, Choice' as ChoiceOf, Seq', If'}
use Rattle.vp_terms.specs.WellFormed.{in_model, is_good_prog, prog_comparisons}
use Rattle.vp_terms.specs.Tree.{prog_tree}
use Rattle.vp_grammar.specs.declared.terminal.Symbol.TheVariants as symbol
use Rattle.vp_lex.specs.declared.word.ReservedWord.TheVariants as word
use Rattle.vp_grammar.specs.declared.terminal.Terminal.{Terminal}
use Rattle.vp_grammar.specs.declared.terminal.Terminal.TheVariants as terminal
use Rattle.vp_grammar.specs.Grammar.{expression_then, expression_tree}
use Rattle.vp_grammar.specs.Formulas.{or_formula}
use Rattle.vp_grammar.specs.Controllers.{Choice, Single, Several, Block, Braced, Statements, NoStatements, Stated, Statement, Freed, Assigned, Tested, Nested, Guarded, Forked, choice_then, block_then, statements_then, statement_then, control_of, choice_tree, block_tree, statements_tree, statement_tree, SpellsController}
use Rattle.vp_grammar.specs.Strays.{is_control, assigns}
use Rattle.vp_grammar.proofs.Good.{may_control, may_stand, all_before, is_good_tree, is_good_condition, is_good_program, program_size}
use Rattle.vp_grammar.proofs.GoodTrees.{good_expr_is, good_formula_is, comparisons_is, both, and_both, Looks, LooksOver, expression_good, formula_good, expression_longer, formula_small}

-- programs with boxes and programs without
pub good_prog_is : (p : Places) (g : Prog) → is_good_prog p g ≡ is_good_program p (prog_tree g)
good_prog_is p Skip = refl
good_prog_is p (Assign c e) = ap (λ b. nat_lt c p.controls && b) (good_expr_is in_model p e)
good_prog_is p (Any c) = refl
good_prog_is p (Test f) = good_formula_is in_model p f
good_prog_is p (ChoiceOf l a r b) = let x = good_prog_is p a in let y = good_prog_is p b in cc
good_prog_is p (Seq' l a r b) = let x = good_prog_is p a in let y = good_prog_is p b in cc
good_prog_is p (If' f l a r b) = let x = good_formula_is in_model p f in let y = good_prog_is p a in let z = good_prog_is p b in cc

pub prog_comparisons_is : (g : Prog) → prog_comparisons g ≡ program_size (prog_tree g)
prog_comparisons_is Skip = refl
prog_comparisons_is (Assign c e) = refl
prog_comparisons_is (Any c) = refl
prog_comparisons_is (Test f) = comparisons_is f
prog_comparisons_is (ChoiceOf l a r b) = let x = prog_comparisons_is a in let y = prog_comparisons_is b in cc
prog_comparisons_is (Seq' l a r b) = let x = prog_comparisons_is a in let y = prog_comparisons_is b in cc
prog_comparisons_is (If' f l a r b) = let x = comparisons_is f in let y = prog_comparisons_is a in let z = prog_comparisons_is b in cc

-- a name before `:=` is a control's
control_good : (p : Places) (v : Option Var) → IsTrue (is_control p v) → IsTrue (nat_lt (control_of v) p.controls)
control_good p None h = absurd (cc)
control_good p (Some (variable.Param i)) h = absurd (cc)
control_good p (Some (variable.State i)) h = absurd (cc)
control_good p (Some (variable.Control i)) h = h
control_good p (Some (variable.NextState i)) h = absurd (cc)
control_good p (Some (variable.NextControl i)) h = absurd (cc)
control_good p (Some variable.Tau) h = absurd (cc)

-- and any other variable is one of the model's formulas
stands_in_model : (p : Places) (t : Terminal) (ts : List Terminal) → assigns ts ≡ false → IsTrue (may_control p t ts) → IsTrue (may_stand in_model p t)
stands_in_model p (terminal.Word w) ts e h = h
stands_in_model p (terminal.Symbol s) ts e h = h
stands_in_model p (terminal.Operator o) ts e h = h
stands_in_model p (terminal.Compare c) ts e h = h
stands_in_model p (terminal.Number r w) ts e h = h
stands_in_model p (terminal.Name s v) ts e h = rw e at h
stands_in_model p (terminal.Variable s v) ts e h = h

looks : (p : Places) → Looks in_model p assigns (may_control p)
looks p = record { operator = λ o ts. refl; close = λ ts. refl; stands = stands_in_model p }

looks_over : (p : Places) → LooksOver in_model p assigns (may_control p)
looks_over p = record { looks = looks p; compare = λ c ts. refl; square_close = λ ts. refl }

mutual
  pub choice_good : (p : Places) (c : Choice) (rest : List Terminal) → IsTrue (all_before (may_control p) (choice_then c rest)) → IsTrue (is_good_program p (choice_tree c)) × IsTrue (all_before (may_control p) rest)
  choice_good p (Single b) rest h = block_good p b rest h
  choice_good p (Several b c) rest h =
      let x : IsTrue (is_good_program p (block_tree b)) × IsTrue (all_before (may_control p) (terminal.Symbol symbol.Choice ∷ choice_then c rest)) = block_good p b (terminal.Symbol symbol.Choice ∷ choice_then c rest) h in
      let y : IsTrue (is_good_program p (choice_tree c)) × IsTrue (all_before (may_control p) rest) = choice_good p c rest x.1 in
      (and_both _ _ x.0 y.0, y.1)

  block_good : (p : Places) (b : Block) (rest : List Terminal) → IsTrue (all_before (may_control p) (block_then b rest)) → IsTrue (is_good_program p (block_tree b)) × IsTrue (all_before (may_control p) rest)
  block_good p (Braced ss) rest h = statements_good p ss (terminal.Symbol symbol.BraceClose ∷ rest) h

  statements_good : (p : Places) (ss : Statements) (rest : List Terminal) → IsTrue (all_before (may_control p) (statements_then ss rest)) → IsTrue (is_good_program p (statements_tree ss)) × IsTrue (all_before (may_control p) rest)
  statements_good p NoStatements rest h = (refl, h)
  statements_good p (Stated s NoStatements) rest h = statement_good p s rest h
  statements_good p (Stated s (Stated t ts)) rest h =
      let x : IsTrue (is_good_program p (statement_tree s)) × IsTrue (all_before (may_control p) (statements_then (Stated t ts) rest)) = statement_good p s (statements_then (Stated t ts) rest) h in
      let y : IsTrue (is_good_program p (statements_tree (Stated t ts))) × IsTrue (all_before (may_control p) rest) = statements_good p (Stated t ts) rest x.1 in
      (and_both _ _ x.0 y.0, y.1)

  statement_good : (p : Places) (s : Statement) (rest : List Terminal) → IsTrue (all_before (may_control p) (statement_then s rest)) → IsTrue (is_good_program p (statement_tree s)) × IsTrue (all_before (may_control p) rest)
  statement_good p (Freed s v) rest h =
      let x : IsTrue (is_control p v) × IsTrue (all_before (may_control p) rest) = both (is_control p v) (all_before (may_control p) rest) h in
      (control_good p v x.0, x.1)
  statement_good p (Assigned s v e) rest h =
      let x : IsTrue (is_control p v) × IsTrue (all_before (may_control p) (expression_then e (terminal.Symbol symbol.Semicolon ∷ rest))) = both (is_control p v) (all_before (may_control p) (expression_then e (terminal.Symbol symbol.Semicolon ∷ rest))) h in
      let y : IsTrue (is_good_tree in_model p (expression_tree e)) × IsTrue (all_before (may_control p) rest) = expression_good (looks p) e (terminal.Symbol symbol.Semicolon ∷ rest) refl x.1 in
      (and_both _ _ (control_good p v x.0) y.0, y.1)
  statement_good p (Tested f) rest h = formula_good (looks_over p) f (terminal.Symbol symbol.Semicolon ∷ rest) refl h
  statement_good p (Nested c) rest h = choice_good p c rest h
  statement_good p (Guarded f b) rest h =
      let x : IsTrue (is_good_condition in_model p (or_formula f)) × IsTrue (all_before (may_control p) (terminal.Symbol symbol.SquareClose ∷ block_then b rest)) = formula_good (looks_over p) f (terminal.Symbol symbol.SquareClose ∷ block_then b rest) refl h in
      let y : IsTrue (is_good_program p (block_tree b)) × IsTrue (all_before (may_control p) rest) = block_good p b rest x.1 in
      (and_both _ _ x.0 (and_both _ _ y.0 refl), y.1)
  statement_good p (Forked f b c) rest h =
      let x : IsTrue (is_good_condition in_model p (or_formula f)) × IsTrue (all_before (may_control p) (terminal.Symbol symbol.SquareClose ∷ block_then b (terminal.Word word.Else ∷ block_then c rest))) = formula_good (looks_over p) f (terminal.Symbol symbol.SquareClose ∷ block_then b (terminal.Word word.Else ∷ block_then c rest)) refl h in
      let y : IsTrue (is_good_program p (block_tree b)) × IsTrue (all_before (may_control p) (terminal.Word word.Else ∷ block_then c rest)) = block_good p b (terminal.Word word.Else ∷ block_then c rest) x.1 in
      let z : IsTrue (is_good_program p (block_tree c)) × IsTrue (all_before (may_control p) rest) = block_good p c rest y.1 in
      (and_both _ _ x.0 (and_both _ _ y.0 z.0), z.1)

-- a comparison or `true` takes a terminal at least
mutual
  pub choice_small : (c : Choice) (rest : List Terminal) → program_size (choice_tree c) + length rest ≤ length (choice_then c rest)
  choice_small (Single b) rest = block_small b rest
  choice_small (Several b c) rest = omega (arith, block_small b (terminal.Symbol symbol.Choice ∷ choice_then c rest), choice_small c rest)

  block_small : (b : Block) (rest : List Terminal) → program_size (block_tree b) + length rest ≤ length (block_then b rest)
  block_small (Braced ss) rest = omega (arith, statements_small ss (terminal.Symbol symbol.BraceClose ∷ rest))

  statements_small : (ss : Statements) (rest : List Terminal) → program_size (statements_tree ss) + length rest ≤ length (statements_then ss rest)
  statements_small NoStatements rest = omega arith
  statements_small (Stated s NoStatements) rest = statement_small s rest
  statements_small (Stated s (Stated t ts)) rest = omega (arith, statement_small s (statements_then (Stated t ts) rest), statements_small (Stated t ts) rest)

  statement_small : (s : Statement) (rest : List Terminal) → program_size (statement_tree s) + length rest ≤ length (statement_then s rest)
  statement_small (Freed s v) rest = omega arith
  statement_small (Assigned s v e) rest = omega (arith, expression_longer e (terminal.Symbol symbol.Semicolon ∷ rest))
  statement_small (Tested f) rest = omega (arith, formula_small f (terminal.Symbol symbol.Semicolon ∷ rest))
  statement_small (Nested c) rest = choice_small c rest
  statement_small (Guarded f b) rest = omega (arith, formula_small f (terminal.Symbol symbol.SquareClose ∷ block_then b rest), block_small b rest)
  statement_small (Forked f b c) rest = omega (arith, formula_small f (terminal.Symbol symbol.SquareClose ∷ block_then b (terminal.Word word.Else ∷ block_then c rest)), block_small b (terminal.Word word.Else ∷ block_then c rest), block_small c rest)

-- a controller whose terminals may all stand there
pub controller_good : (p : Places) (g : Prog) (ts : List Terminal) → SpellsController ts (prog_tree g) → IsTrue (all_before (may_control p) ts) → IsTrue (is_good_prog p g)
controller_good p g ts s h =
    let x : IsTrue (all_before (may_control p) (choice_then s.0 (terminal.Symbol symbol.Semicolon ∷ []))) = sym (ap (all_before (may_control p)) s.1) ∙ h in
    good_prog_is p g ∙ ap (is_good_program p) s.2 ∙ (choice_good p s.0 (terminal.Symbol symbol.Semicolon ∷ []) x).0

pub controller_small : (g : Prog) (ts : List Terminal) → SpellsController ts (prog_tree g) → prog_comparisons g ≤ length ts
controller_small g ts s =
    let x : prog_comparisons g ≡ program_size (choice_tree s.0) = prog_comparisons_is g ∙ ap program_size s.2 in
    let y : length ts ≡ length (terminal.Word word.Ctrl ∷ choice_then s.0 (terminal.Symbol symbol.Semicolon ∷ [])) = ap length s.1 in
    omega (arith, choice_small s.0 (terminal.Symbol symbol.Semicolon ∷ []))
