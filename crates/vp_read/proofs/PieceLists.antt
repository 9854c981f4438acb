-- Pieces that are vectors, and the piece of a number.
use Rattle.std.proofs.Common.{Vec, Global, ℕ, ◌+◌, ◌-◌, ◌≡◌, ◌<◌, ◌≤◌, List, [], ◌∷◌, drop, length, map, get_or, All, arith}
use Rattle.std.proofs.lemmas.List.Elements.{All-map}
use Rattle.vp_grammar.specs.declared.terminal.Terminal.{Terminal}
use Rattle.vp_read.specs.Pieces.{items, piece}
use Rattle.vp_read.proofs.Lists.{at_number, mapped_here}

pub piece_here : (ps : List (Vec Terminal Global)) (i : ℕ) (v : Vec Terminal Global) → i < length ps → v ≡ get_or ps i v → map items (drop i ps) ≡ items v ∷ map items (drop (i + 1) ps)
piece_here = mapped_here items

pub short_piece : (ps : List (Vec Terminal Global)) (k : ℕ) → All (λ v. length v.items ≤ 1048576) ps → length (piece (map items ps) k) ≤ 1048576
short_piece ps k h = at_number (λ (p : List Terminal). length p ≤ 1048576) (map items ps) (k - 1) [] (omega arith) (All-map (λ (p : List Terminal). length p ≤ 1048576) items ps h)
