-- The boxes that a record's words are have their places.
use Rattle.std.proofs.Common.{◌≡◌, ◌+◌, ◌*◌, ◌≤◌, IsTrue, List, length, arith, ℤ}
use Rattle.vp_words.specs.declared.record.Counts.{Counts}
use Rattle.vp_words.specs.Record.{IsValid, pairs_then_finite}
use Rattle.vp_sandbox.proofs.Fitting.{boxes_length}
use Rattle.vp_sandbox.specs.Boxes.{boxes_of, first_state, first_next_state}

pub init_room : (c : Counts) (words : List ℤ) → IsValid c → length words ≡ 2 * c.params + 2 * c.states + c.controls → IsTrue (pairs_then_finite (c.params + c.states) words) → 0 + length (boxes_of (c.params + c.states) words) ≤ 32
init_room c words h e p = omega (arith, h.2, e, boxes_length (c.params + c.states) words p)

module _ (c : Counts) (words : List ℤ) (h : IsValid c) (e : length words ≡ 2 * c.states) (p : IsTrue (pairs_then_finite c.states words)) where
  pub next_states_room : first_next_state c + length (boxes_of c.states words) ≤ 32
  next_states_room = omega (arith, h.2, e, boxes_length c.states words p)

  pub states_room : first_state c + length (boxes_of c.states words) ≤ 32
  states_room = omega (arith, h.2, e, boxes_length c.states words p)
