-- The sizes that bound the code of a sandbox.
use Rattle.std.specs.Prelude.{ℕ, zero, suc, ◌+◌, ◌*◌, ◌-◌, ◌^◌, min, List, map, sum, sum_by}
use Rattle.vp_words.specs.Record.{place_count}
use Rattle.vp_poly.specs.declared.mono.Term.{Term}
use Rattle.vp_logic.specs.Tree.{Tree, Trees, One, AllOf, AnyOf, None, Then, tree}
use Rattle.vp_sandbox.specs.declared.sandbox.Sandbox.{Sandbox}

-- the power x^k; the power 0 isn't there
abbrev pub power_size : ℕ → ℕ
power_size zero = 0
power_size (suc zero) = 16
power_size (suc (suc k)) = 2 * suc (suc k) + 32

abbrev pub term_size : Term → ℕ
term_size t = 2 + sum_by power_size t.mono.powers

abbrev pub poly_size : List Term → ℕ
poly_size p = 2 + sum_by (λ t. term_size t + 2) p

-- an atom, and a list of members
abbrev mutual
  pub form_size : Tree → ℕ
  form_size (One a) = poly_size a.poly + 10
  form_size (AllOf ns) = 2 + members_size ns
  form_size (AnyOf ns) = 2 + members_size ns

  pub members_size : Trees → ℕ
  members_size None = 0
  members_size (Then n ns) = form_size n + 2 + members_size ns

-- at most so many instructions: a bound over all numbers
abbrev pub instruction_bound : Sandbox → ℕ
instruction_bound s =
    64 + 8 * place_count s.counts
    + sum_by (λ t. form_size t + 8) (map tree s.init)
    + sum_by (λ t. form_size t + 8) (map tree s.plant)
    + form_size (tree s.ctrl)
    + sum_by (λ p. poly_size p + 6) s.fallback

-- the degrees of all terms of a polynomial, and of those of a form
abbrev pub degrees : List Term → ℕ
degrees p = sum_by (λ t. sum t.mono.powers) p

abbrev mutual
  pub form_degrees : Tree → ℕ
  form_degrees (One a) = degrees a.poly
  form_degrees (AllOf ns) = members_degrees ns
  form_degrees (AnyOf ns) = members_degrees ns

  pub members_degrees : Trees → ℕ
  members_degrees None = 0
  members_degrees (Then n ns) = form_degrees n + members_degrees ns

abbrev pub all_degrees : Sandbox → ℕ
all_degrees s =
    sum_by form_degrees (map tree s.init)
    + sum_by form_degrees (map tree s.plant)
    + form_degrees (tree s.ctrl)
    + sum_by degrees s.fallback

-- at most so many cells
abbrev pub cell_bound : Sandbox → ℕ
cell_bound s = 512 + 2 * all_degrees s

-- a number cut at 2^64 - 1
abbrev pub saturated : ℕ → ℕ
saturated n = min n (2 ^ 64 - 1)
