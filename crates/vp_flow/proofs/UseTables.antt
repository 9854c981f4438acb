-- The table of uses.
use Rattle.std.proofs.Common.{◌≡◌, ℕ, ◌<◌, Bool, true, ◌&&◌, nat_lt, List, length, get_or, sym, ap, ◌∙◌, arith}
use Rattle.std.proofs.lemmas.Bool.Decides.{nat_tests}
use Rattle.vp_terms.specs.declared.expr.Places.{Places}
use Rattle.vp_poly.specs.declared.scaled.Scaled.{Scaled}
use Rattle.vp_flow.specs.Sides.{occurs, polys, side, uses}
use Rattle.vp_flow.specs.Matrix.{HasCells}
use Rattle.vp_flow.proofs.SharingLaws.{polys-at}

test_on : (x y : ℕ) → x < y → nat_lt x y ≡ true
test_on x y lt = grind (arith, nat_tests)

pub use-row : (p : Places) (qs : List Scaled) (i : ℕ) (q : Scaled) (row : List Bool) → i < length qs → q ≡ get_or qs i q → HasCells p.states (λ j. occurs p j q.poly) row → HasCells p.states (uses p (polys qs) i) row
use-row p qs i q row lt e h = record {
  size = h.size;
  each = λ j j_lt.
      h.each j j_lt
      ∙ ap (λ (x : Scaled). occurs p j x.poly) e
      ∙ sym (ap (occurs p j) (polys-at qs i q lt))
      ∙ sym (ap (λ (v : Bool). v && occurs p j (side (polys qs) i)) (test_on j p.states j_lt));
}
