-- What a reader of each rule answers.
use Rattle.std.specs.Prelude.{◌≡◌, ◌<◌, List, [], Result, Ok, Err}
use Rattle.vp_grammar.specs.declared.terminal.Terminal.{Terminal}
use Rattle.vp_grammar.specs.declared.fault.ParseErr.{ParseErr}
use Rattle.vp_grammar.specs.declared.fault.ParseErr.TheVariants.{Form, Memory}
use Rattle.vp_grammar.specs.declared.front.Sign.{Sign}
use Rattle.vp_grammar.specs.declared.front.Sign.TheVariants.{Plus, Minus}
use Rattle.vp_terms.specs.Tree.{ExprTree, Sum, Difference}
use Rattle.vp_grammar.specs.Grammar.{Expression, Start, Term, Factor, Base, expression_then, start_then, term_then, factor_then, base_then, expression_tree, start_tree, term_tree, factor_tree, base_tree, precedence}

-- the terminals are those of a form and then the rest, at which no operator goes on
abbrev pub IsExpression : List Terminal → ExprTree → List Terminal → Type 0
IsExpression ts t rest = (e : Expression) × (ts ≡ expression_then e rest) × (t ≡ expression_tree e) × (precedence rest < 3)

abbrev pub IsStart : List Terminal → ExprTree → List Terminal → Type 0
IsStart ts t rest = (e : Start) × (ts ≡ start_then e rest) × (t ≡ start_tree e) × (precedence rest < 4)

abbrev pub IsTerm : List Terminal → ExprTree → List Terminal → Type 0
IsTerm ts t rest = (e : Term) × (ts ≡ term_then e rest) × (t ≡ term_tree e) × (precedence rest < 4)

abbrev pub IsFactor : List Terminal → ExprTree → List Terminal → Type 0
IsFactor ts t rest = (e : Factor) × (ts ≡ factor_then e rest) × (t ≡ factor_tree e) × (precedence rest < 5)

abbrev pub IsBase : List Terminal → ExprTree → List Terminal → Type 0
IsBase ts t rest = (e : Base) × (ts ≡ base_then e rest) × (t ≡ base_tree e)

abbrev pub joined_tree : Sign → ExprTree → ExprTree → ExprTree
joined_tree Plus a b = Sum a b
joined_tree Minus a b = Difference a b

-- A tree and a rest are found, or there are none.
abbrev pub Fails : {T : Type 0} → (T → List Terminal → Type 0) → ParseErr → Type 0
Fails {T} P Form = (t : T) (rest : List Terminal) → P t rest → ⊥
Fails P Memory = Unit {0}

abbrev pub Reads : {X T : Type 0} → (X → T) → (X → List Terminal) → (T → List Terminal → Type 0) → Result X ParseErr → Type 0
Reads view rest P (Ok x) = P (view x) (rest x)
Reads view rest P (Err e) = Fails P e

-- All of the terminals are those of an expression with this tree.
abbrev pub Spells : List Terminal → ExprTree → Type 0
Spells ts t = (e : Expression) × (ts ≡ expression_then e []) × (t ≡ expression_tree e)

abbrev pub FailsAll : {T : Type 0} → (T → Type 0) → ParseErr → Type 0
FailsAll {T} P Form = (t : T) → P t → ⊥
FailsAll P Memory = Unit {0}

abbrev pub ReadsAll : {X T : Type 0} → (X → T) → (T → Type 0) → Result X ParseErr → Type 0
ReadsAll view P (Ok x) = P (view x)
ReadsAll view P (Err e) = FailsAll P e
