-- In which order the states are integrated, and up to which heights.
use Rattle.std.specs.Prelude.{◌≡◌, ℕ, ◌<◌, List, length, slice_index}
use Rattle.vp_terms.specs.declared.expr.Places.{Places}
use Rattle.vp_poly.specs.declared.mono.Term.{Term}
use Rattle.vp_flow.specs.Sides.{AreHeights}
use Rattle.vp_flow.specs.Order.{IsOrder}
use Rattle.vp_flow.specs.declared.schedule.Schedule.{Schedule}

-- each state is in the order, behind all that it uses, and the heights are those of the states
pub record IsSchedule (p : Places) (ss : List (List Term)) (s : Schedule) : Type 0 where
  pub order : IsOrder p ss s.order.items
  pub all : (j : ℕ) → j < p.states → (t : ℕ) × (t < length s.order.items) × (slice_index s.order.items t ≡ j)
  pub count : length s.heights.items ≡ p.states
  pub heights : AreHeights p ss (slice_index s.heights.items)
