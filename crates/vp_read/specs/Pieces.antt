-- The pieces of a text.
use Rattle.std.specs.Prelude.{ℕ, ◌+◌, ◌-◌, Bool, true, false, ◌&&◌, ◌||◌, nat_eq, nat_lt, List, [], ◌∷◌, length, max, slice_get, Option, None, Some, if◌then◌else◌}
use Rattle.std.specs.Option.{unwrap_or}
use Rattle.std.specs.declared.vec.Vec.{Vec}
use Rattle.std.specs.declared.alloc.Global.{Global}
use Rattle.vp_grammar.specs.declared.terminal.Symbol.TheVariants as symbol
use Rattle.vp_grammar.specs.declared.terminal.Terminal.{Terminal}
use Rattle.vp_grammar.specs.declared.terminal.Terminal.TheVariants as terminal

-- the bracket depth behind a terminal; it does not fall below 0
abbrev pub depth_behind : ℕ → Terminal → ℕ
depth_behind d (terminal.Symbol symbol.Open) = d + 1
depth_behind d (terminal.Symbol symbol.SquareOpen) = d + 1
depth_behind d (terminal.Symbol symbol.BraceOpen) = d + 1
depth_behind d (terminal.Symbol symbol.Close) = d - 1
depth_behind d (terminal.Symbol symbol.SquareClose) = d - 1
depth_behind d (terminal.Symbol symbol.BraceClose) = d - 1
depth_behind d t = d

abbrev pub is_semicolon : Terminal → Bool
is_semicolon (terminal.Symbol symbol.Semicolon) = true
is_semicolon t = false

-- a `;` at depth 0 ends a piece
abbrev pub ends : ℕ → Terminal → Bool
ends d t = nat_eq d 0 && is_semicolon t

-- a terminal more in front of the first piece
abbrev pub onto_first : Terminal → List (List Terminal) → List (List Terminal)
onto_first t [] = (t ∷ []) ∷ []
onto_first t (p ∷ ps) = (t ∷ p) ∷ ps

-- the pieces: each up to and with a `;` at depth 0; what follows the last such `;` is a last piece
abbrev pub cut : ℕ → List Terminal → List (List Terminal)
cut d [] = []
cut d (t ∷ ts) = if ends d t then (t ∷ []) ∷ cut 0 ts else onto_first t (cut (depth_behind d t) ts)

-- the greatest depth
abbrev pub greatest_depth : ℕ → List Terminal → ℕ
greatest_depth d [] = d
greatest_depth d (t ∷ ts) = max d (greatest_depth (depth_behind d t) ts)

-- more than 2,048 terminals, or more than 32 open brackets
abbrev pub is_deep : List Terminal → Bool
is_deep p = nat_lt 2048 (length p) || nat_lt 32 (greatest_depth 0 p)

-- the number of the first deep piece, where the first of these pieces has number k
abbrev pub first_deep : ℕ → List (List Terminal) → Option ℕ
first_deep k [] = None
first_deep k (p ∷ ps) = if is_deep p then Some k else first_deep (k + 1) ps

-- the piece of a number, from 1; behind the last stand empty ones
abbrev pub piece : List (List Terminal) → ℕ → List Terminal
piece ps k = unwrap_or (slice_get ps (k - 1)) []

-- a vector of terminals as a list
abbrev pub items : Vec Terminal Global → List Terminal
items v = v.items
