-- Pieces of code that every compiled code has.
use Rattle.std.specs.Prelude.{ℕ, zero, suc, ◌+◌, Bool, true, false, List, [], ◌∷◌, ◌++◌, pos, negsuc}
use Rattle.vp_words.specs.declared.record.Counts.{Counts}
use Rattle.vp_words.specs.declared.record.Kind.{Kind}
use Rattle.vp_isa.specs.declared.instr.Mon.{Mon}
use Rattle.vp_isa.specs.declared.instr.Instr.{Instr}
use Rattle.vp_isa.specs.declared.instr.Instr.TheVariants.{Const, Copy, Min, Max, MulD, MulU, Jge, Take, Act, Halt}
use Rattle.vp_layout.specs.declared.home.Home.{Home}
use Rattle.vp_layout.specs.Homes.{zero_cell, one_cell, two_cell, minus_cell, control_cell, record_cell}

-- one more product, and the lesser or greater of it and cell d
abbrev pub lower_corner : ℕ → ℕ → ℕ → ℕ → List Instr
lower_corner d t a b = MulD t a b ∷ Min d d t ∷ []

abbrev pub upper_corner : ℕ → ℕ → ℕ → ℕ → List Instr
upper_corner d t a b = MulU t a b ∷ Max d d t ∷ []

abbrev pub lower_code : ℕ → ℕ → Home → Home → List Instr
lower_code d t v w = MulD d v.lo w.lo ∷ (lower_corner d t v.lo w.hi ++ lower_corner d t v.hi w.lo ++ lower_corner d t v.hi w.hi)

abbrev pub upper_code : ℕ → ℕ → Home → Home → List Instr
upper_code d t v w = MulU d v.lo w.lo ∷ (upper_corner d t v.lo w.hi ++ upper_corner d t v.hi w.lo ++ upper_corner d t v.hi w.hi)

-- the product of the intervals at v and w, in the cells d and d + 1, by way of cell t
abbrev pub product_code : ℕ → ℕ → Home → Home → List Instr
product_code d t v w = lower_code d t v w ++ upper_code (d + 1) t v w

-- n cells from one place on are copied to another
abbrev pub copies : ℕ → ℕ → ℕ → List Instr
copies to from zero = []
copies to from (suc n) = Copy to from ∷ copies (to + 1) (from + 1) n

abbrev pub constants_code : List Instr
constants_code = Const zero_cell (pos 0) ∷ Const one_cell (pos 1) ∷ Const two_cell (pos 2) ∷ Const minus_cell (negsuc 0) ∷ []

-- a record is taken, and the constants are written anew
abbrev pub take_code : Counts → Kind → List Instr
take_code c kind = Take kind (record_cell kind c) ∷ constants_code

-- the words of an act from cell d on become the controls
abbrev pub act_code : Counts → Bool → ℕ → List Instr
act_code c fallback d = Act fallback d ∷ copies (control_cell c) d c.controls

-- from place q: goes on behind the test where the truth in cell d is Yes, and else ends
abbrev pub yes_code : ℕ → ℕ → (Bool → Mon) → List Instr
yes_code q d mon = Jge d two_cell (q + 4) ∷ Jge d one_cell (q + 3) ∷ Halt (mon false) ∷ Halt (mon true) ∷ []
