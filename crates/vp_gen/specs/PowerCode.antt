-- The instructions of powers.
use Rattle.std.specs.Prelude.{ℕ, zero, suc, ◌+◌, ◌-◌, ◌%◌, nat_eq, if◌then◌else◌, List, [], ◌∷◌, ◌++◌}
use Rattle.vp_isa.specs.declared.instr.Instr.{Instr}
use Rattle.vp_isa.specs.declared.instr.Instr.TheVariants.{Copy, Neg, Max, MulD, MulU}
use Rattle.vp_layout.specs.declared.home.Home.{Home}
use Rattle.vp_layout.specs.Homes.{zero_cell}
use Rattle.vp_layout.specs.Blocks.{product_code}

-- the home at cell d
abbrev pub home : ℕ → Home
home d = record { lo = d; hi = d + 1 }

-- the base's ends in the cells d + 2 and d + 3, and their squares in the cells d and d + 1
abbrev pub even_start : ℕ → Home → List Instr
even_start d v =
    Neg (d + 2) v.hi ∷ Max (d + 2) v.lo (d + 2) ∷ Max (d + 2) (d + 2) zero_cell ∷ Neg (d + 3) v.lo ∷ Max (d + 3) (d + 3) v.hi
    ∷ MulD d (d + 2) (d + 2) ∷ MulU (d + 1) (d + 3) (d + 3) ∷ []

abbrev pub even_steps : ℕ → ℕ → List Instr
even_steps d zero = []
even_steps d (suc n) = even_steps d n ++ MulD d d (d + 2) ∷ MulU (d + 1) (d + 1) (d + 3) ∷ []

abbrev pub even_code : ℕ → ℕ → Home → List Instr
even_code d n v = even_start d v ++ even_steps d n

abbrev pub power_code : ℕ → ℕ → Home → List Instr
power_code d k v =
    if nat_eq (k % 2) 0 then even_code d (k - 2) v
    else (even_code (d + 2) (k - 3) v ++ product_code d (d + 4) v (record { lo = d + 2; hi = d + 3 }))

abbrev pub first_code : ℕ → ℕ → Home → List Instr
first_code d k v = if nat_eq k 1 then Copy d v.lo ∷ Copy (d + 1) v.hi ∷ [] else power_code d k v

-- the product of the cells d and d + 1 and the power, by way of the cells above
abbrev pub times_code : ℕ → ℕ → Home → List Instr
times_code d k v =
    if nat_eq k 1 then product_code (d + 4) (d + 6) (home d) v
    else (power_code (d + 2) k v ++ product_code (d + 4) (d + 6) (home d) (record { lo = d + 2; hi = d + 3 }))

abbrev pub factor_code : ℕ → ℕ → Home → List Instr
factor_code d k v = times_code d k v ++ Copy d (d + 4) ∷ Copy (d + 1) (d + 5) ∷ []
