-- The instructions that check a list of formulas.
use Rattle.std.specs.Prelude.{ℕ, suc, ◌+◌, Bool, List, [], ◌∷◌, ◌++◌, length}
use Rattle.vp_isa.specs.declared.instr.Mon.{Mon}
use Rattle.vp_isa.specs.declared.instr.Instr.{Instr}
use Rattle.vp_layout.specs.declared.home.Home.{Home}
use Rattle.vp_logic.specs.Tree.{Tree}
use Rattle.vp_layout.specs.Blocks.{yes_code}
use Rattle.vp_gen.specs.FormCode.{form_code}

-- from place p: the truth of a form in cell d, and its test
abbrev pub check_code : ℕ → ℕ → (Bool → Mon) → Tree → List Home → List Instr
check_code p d mon n hs = form_code d n hs ++ yes_code (p + length (form_code d n hs)) d mon

-- and so each of these forms, the first of which has number k
abbrev pub checks_code : ℕ → ℕ → (ℕ → Bool → Mon) → ℕ → List Tree → List Home → List Instr
checks_code p d mon k [] hs = []
checks_code p d mon k (n ∷ ns) hs =
    check_code p d (mon k) n hs ++ checks_code (p + length (check_code p d (mon k) n hs)) d mon (suc k) ns hs
