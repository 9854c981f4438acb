-- Where no variable strays, each terminal may stand there.
use Rattle.std.proofs.Common.{ℕ, ◌+◌, ◌≡◌, Bool, true, false, ◌&&◌, IsTrue, List, [], ◌∷◌, Option, None, Some, if◌then◌else◌, refl}
use Rattle.std.specs.List.{list_all}
use Rattle.vp_terms.specs.declared.expr.Places.{Places}
use Rattle.vp_terms.specs.declared.well_formed.Kinds.{Kinds}
use Rattle.vp_terms.specs.WellFormed.{in_model}
use Rattle.vp_grammar.specs.declared.strays.Rule.{Rule}
use Rattle.vp_grammar.specs.declared.strays.Rule.TheVariants.{Plain, Controller}
use Rattle.vp_grammar.specs.declared.terminal.Span.{Span}
use Rattle.vp_grammar.specs.declared.terminal.Terminal.{Terminal}
use Rattle.vp_grammar.specs.declared.terminal.Terminal.TheVariants as terminal
use Rattle.vp_grammar.specs.Strays.{assigns, first_stray, is_control, is_due, is_known, is_set, kinds_of}
use Rattle.vp_grammar.proofs.Good.{all_before, may_control, may_enter, may_stand}

-- a variable in front is none that may not stand there
guard : (b : Bool) (o : Option Span) (s : Span) (c : Bool) → (if b then o else Some s) ≡ None → (o ≡ None → IsTrue c) → IsTrue (b && c)
guard true o s c e f = f e
guard false o s c e f = absurd (cc)

guard_entry : (l d b : Bool) (o : Option Span) (s : Span) (c : Bool) → (if (if l then d else b) then o else Some s) ≡ None → (o ≡ None → IsTrue c) → IsTrue ((if l then true else b) && c)
guard_entry true true b o s c e f = f e
guard_entry true false b o s c e f = absurd (cc)
guard_entry false d b o s c e f = guard b o s c e f

-- of variables of some kinds
pub all_stand : (k : Kinds) (p : Places) (i : ℕ) (ts : List Terminal) → first_stray (Plain k) p i ts ≡ None → IsTrue (list_all (may_stand k p) ts)
all_stand k p i [] e = refl
all_stand k p i (terminal.Name s v ∷ ts) e = guard (is_known k p v) (first_stray (Plain k) p i ts) s (list_all (may_stand k p) ts) e (λ f. all_stand k p i ts f)
all_stand k p i (terminal.Variable s v ∷ ts) e = guard (is_known k p v) (first_stray (Plain k) p i ts) s (list_all (may_stand k p) ts) e (λ f. all_stand k p i ts f)
all_stand k p i (terminal.Word w ∷ ts) e = all_stand k p i ts e
all_stand k p i (terminal.Symbol s ∷ ts) e = all_stand k p i ts e
all_stand k p i (terminal.Operator o ∷ ts) e = all_stand k p i ts e
all_stand k p i (terminal.Compare c ∷ ts) e = all_stand k p i ts e
all_stand k p i (terminal.Number r w ∷ ts) e = all_stand k p i ts e

-- in a controller
pub all_control : (p : Places) (i : ℕ) (ts : List Terminal) → first_stray Controller p i ts ≡ None → IsTrue (all_before (may_control p) ts)
all_control p i [] e = refl
all_control p i (terminal.Name s v ∷ ts) e = guard (if assigns ts then is_control p v else is_known in_model p v) (first_stray Controller p (if assigns ts then i + 1 else i) ts) s (all_before (may_control p) ts) e (λ f. all_control p (if assigns ts then i + 1 else i) ts f)
all_control p i (terminal.Variable s v ∷ ts) e = guard (is_known in_model p v) (first_stray Controller p i ts) s (all_before (may_control p) ts) e (λ f. all_control p i ts f)
all_control p i (terminal.Word w ∷ ts) e = all_control p i ts e
all_control p i (terminal.Symbol s ∷ ts) e = all_control p i ts e
all_control p i (terminal.Operator o ∷ ts) e = all_control p i ts e
all_control p i (terminal.Compare c ∷ ts) e = all_control p i ts e
all_control p i (terminal.Number r w ∷ ts) e = all_control p i ts e

-- in entries
pub all_enter : (r : Rule) (p : Places) (i : ℕ) (ts : List Terminal) → first_stray r p i ts ≡ None → IsTrue (all_before (may_enter (λ us. is_set r us) (kinds_of r) p) ts)
all_enter r p i [] e = refl
all_enter r p i (terminal.Name s v ∷ ts) e = guard_entry (is_set r ts) (is_due r p i v) (is_known (kinds_of r) p v) (first_stray r p (if is_set r ts then i + 1 else i) ts) s (all_before (may_enter (λ us. is_set r us) (kinds_of r) p) ts) e (λ f. all_enter r p (if is_set r ts then i + 1 else i) ts f)
all_enter r p i (terminal.Variable s v ∷ ts) e = guard (is_known (kinds_of r) p v) (first_stray r p i ts) s (all_before (may_enter (λ us. is_set r us) (kinds_of r) p) ts) e (λ f. all_enter r p i ts f)
all_enter r p i (terminal.Word w ∷ ts) e = all_enter r p i ts e
all_enter r p i (terminal.Symbol s ∷ ts) e = all_enter r p i ts e
all_enter r p i (terminal.Operator o ∷ ts) e = all_enter r p i ts e
all_enter r p i (terminal.Compare c ∷ ts) e = all_enter r p i ts e
all_enter r p i (terminal.Number n w ∷ ts) e = all_enter r p i ts e
