-- The loop that looks for a piece with a variable that may not stand there.
use Rattle.std.proofs.Common.{Vec, Global, ℕ, ◌+◌, ◌≡◌, ◌<◌, List, drop, length, map, get_or, None, Some, refl, ap, sym, ◌∙◌, arith}
use Rattle.std.proofs.Math.ListN.{drop_of_length-le}
use Rattle.vp_terms.specs.declared.expr.Places.{Places}
use Rattle.vp_grammar.specs.declared.terminal.Span.{Span}
use Rattle.vp_grammar.specs.declared.terminal.Terminal.{Terminal}
use Rattle.vp_grammar.specs.Strays.{first_stray}
use Rattle.vp_read.specs.Pieces.{items}
use Rattle.vp_read.specs.Reading.{first_stray_from, rule_of}
use Rattle.vp_read.proofs.PieceLists.{piece_here}

-- what is found from a piece on is what is found in all
abbrev pub PiecesFrom : Places → List (Vec Terminal Global) → ℕ → Type 0
PiecesFrom p ps i = first_stray_from p 5 (map items ps) ≡ first_stray_from p (i + 5) (map items (drop i ps))

pub piece_stray : (p : Places) (ps : List (Vec Terminal Global)) (i : ℕ) (v : Vec Terminal Global) (s : Span) → i < length ps → v ≡ get_or ps i v → first_stray (rule_of (i + 5)) p 0 (items v) ≡ Some s → PiecesFrom p ps i → Some (s, i + 5) ≡ first_stray_from p 5 (map items ps)
piece_stray p ps i v s h e f b = sym (b ∙ ap (first_stray_from p (i + 5)) (piece_here ps i v h e) ∙ rw f refl)

pub piece_fits : (p : Places) (ps : List (Vec Terminal Global)) (i : ℕ) (v : Vec Terminal Global) → i < length ps → v ≡ get_or ps i v → first_stray (rule_of (i + 5)) p 0 (items v) ≡ None → PiecesFrom p ps i → PiecesFrom p ps (i + 1)
piece_fits p ps i v h e f b = b ∙ ap (first_stray_from p (i + 5)) (piece_here ps i v h e) ∙ rw f (ap (λ (k : ℕ). first_stray_from p k (map items (drop (i + 1) ps))) (omega arith))

pub pieces_fit : (p : Places) (ps : List (Vec Terminal Global)) (i : ℕ) → i ≡ length ps → PiecesFrom p ps i → None ≡ first_stray_from p 5 (map items ps)
pieces_fit p ps i e b = sym (b ∙ ap (λ (qs : List (Vec Terminal Global)). first_stray_from p (i + 5) (map items qs)) (drop_of_length-le ps {i = i} (omega arith)))
