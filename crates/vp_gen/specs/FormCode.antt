-- The instructions of formulas.
use Rattle.std.specs.Prelude.{ℕ, ◌+◌, nat_le, if◌then◌else◌, List, [], ◌∷◌, ◌++◌, pos}
use Rattle.vp_isa.specs.declared.instr.Instr.{Instr}
use Rattle.vp_isa.specs.declared.instr.Instr.TheVariants.{Const, Neg, Min, Max, AddD}
use Rattle.vp_layout.specs.declared.home.Home.{Home}
use Rattle.vp_logic.specs.declared.norm.Rel.{Rel}
use Rattle.vp_logic.specs.declared.norm.Rel.TheVariants.{Ge, Gt, Eq}
use Rattle.vp_logic.specs.declared.norm.Atom.{Atom}
use Rattle.vp_logic.specs.Tree.{Tree, Trees, One, AllOf, AnyOf, None as Done, Then}
use Rattle.vp_layout.specs.Homes.{zero_cell, one_cell, two_cell, minus_cell}
use Rattle.vp_gen.specs.PolyCode.{poly_code}
use Rattle.vp_layout.specs.Truths.{need, needs}

-- from the ends in the cells d + 1 and d + 2 to the truth in cell d
abbrev pub rel_code : ℕ → Rel → List Instr
rel_code d Ge =
    Max d (d + 1) minus_cell ∷ Min d d zero_cell ∷ Max (d + 3) (d + 2) d ∷ Min (d + 3) (d + 3) zero_cell ∷ AddD d d (d + 3)
    ∷ AddD d d two_cell ∷ []
rel_code d Gt =
    Max d (d + 1) zero_cell ∷ Min d d one_cell ∷ Max (d + 3) (d + 2) d ∷ Min (d + 3) (d + 3) one_cell ∷ AddD d d (d + 3) ∷ []
rel_code d Eq =
    Neg d (d + 2) ∷ Min (d + 3) (d + 1) d ∷ Max (d + 3) (d + 3) minus_cell ∷ Max d (d + 1) d ∷ Max d d zero_cell
    ∷ Min d d one_cell ∷ Neg d d ∷ AddD d d d ∷ Min d d (d + 3) ∷ AddD d d two_cell ∷ []

abbrev pub atom_code : ℕ → Atom → List Home → List Instr
atom_code d atom hs = poly_code (d + 1) atom.poly hs ++ rel_code d atom.rel

abbrev mutual
  pub form_code : ℕ → Tree → List Home → List Instr
  form_code d (One atom) hs = atom_code d atom hs
  form_code d (AllOf ns) hs = all_code d ns hs
  form_code d (AnyOf ns) hs = any_code d ns hs

  pub all_code : ℕ → Trees → List Home → List Instr
  all_code d Done hs = Const d (pos 2) ∷ []
  all_code d (Then n ns) hs =
      (if nat_le (needs ns) (need n) then (form_code d n hs ++ all_code (d + 1) ns hs) else (all_code d ns hs ++ form_code (d + 1) n hs))
      ++ Min d d (d + 1) ∷ []

  pub any_code : ℕ → Trees → List Home → List Instr
  any_code d Done hs = Const d (pos 0) ∷ []
  any_code d (Then n ns) hs =
      (if nat_le (needs ns) (need n) then (form_code d n hs ++ any_code (d + 1) ns hs) else (any_code d ns hs ++ form_code (d + 1) n hs))
      ++ Max d d (d + 1) ∷ []
