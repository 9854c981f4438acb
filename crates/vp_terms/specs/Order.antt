-- How numbers compare.
use Rattle.std.specs.Prelude.{Bool, not, ℤ, int_le, int_lt}
use Rattle.std.specs.Ordering.{int_eq}
use Rattle.vp_terms.specs.declared.formula.Cmp.{Cmp}
use Rattle.vp_terms.specs.declared.formula.Cmp.TheVariants.{Le, Lt, Ge, Gt, Eq, Ne}

-- whether two whole numbers compare so
abbrev pub orders : Cmp → ℤ → ℤ → Bool
orders Le a b = int_le a b
orders Lt a b = int_lt a b
orders Ge a b = int_le b a
orders Gt a b = int_lt b a
orders Eq a b = int_eq a b
orders Ne a b = not (int_eq a b)
