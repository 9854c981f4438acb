-- A program with what is left to run behind it.
use Rattle.std.specs.Prelude.{ℕ, ⊤, Bool, false, ◌||◌, ◌&&◌, true, IsTrue}
use Rattle.vp_terms.specs.Control.{Values, Same, Ctrl}
use Rattle.vp_terms.specs.Running.{may_give, may_change, KeepsGiven, RunIsSmall}
use Rattle.vp_terms.specs.WellFormed.{is_good_prog}
use Rattle.vp_terms.specs.declared.expr.Places.{Places}
use Rattle.vp_terms.specs.declared.prog.Prog.{Prog}
use Rattle.vp_terms.specs.declared.running.Rest.{Rest}
use Rattle.vp_terms.specs.declared.running.Rest.TheVariants.{End, Then'}

-- what is left to run leads from u to v
abbrev pub RestLeads : Rest → Values → Values → Values → Values → Type 0
RestLeads End p x u v = Same u v
RestLeads (Then' b l r) p x u v = (w : Values) × Ctrl b.now p x u w × RestLeads r p x w v

-- the program with the rest behind it leads from u to v
abbrev pub Leads : Prog → Rest → Values → Values → Values → Values → Type 0
Leads prog rest p x u v = (w : Values) × Ctrl prog p x u w × RestLeads rest p x w v

abbrev pub rest_may_change : Rest → ℕ → Bool
rest_may_change End k = false
rest_may_change (Then' b l r) k = may_change b.now k || rest_may_change r k

abbrev pub RestKeeps : Rest → Type 0
RestKeeps End = ⊤
RestKeeps (Then' b l r) = KeepsGiven b.now × RestKeeps r × ((k : ℕ) → IsTrue (may_give b.now k) → ¬ IsTrue (rest_may_change r k))

-- no control that `:= *` gave is changed again
pub record Keeps (prog : Prog) (rest : Rest) : Type 0 where
  pub first : KeepsGiven prog
  pub behind : RestKeeps rest
  pub apart : (k : ℕ) → IsTrue (may_give prog k) → ¬ IsTrue (rest_may_change rest k)

-- the runs of the rest meet small values
abbrev pub RestIsSmall : Rest → Values → Values → Values → Values → Type 0
RestIsSmall End p x v u = ⊤
RestIsSmall (Then' b l r) p x v u = RunIsSmall b.now p x v (RestIsSmall r p x v) u

-- the rest's programs are well formed
abbrev pub is_good_rest : Places → Rest → Bool
is_good_rest p End = true
is_good_rest p (Then' b l r) = is_good_prog p b.now && is_good_rest p r
