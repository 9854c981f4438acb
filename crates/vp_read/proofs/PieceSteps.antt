-- The loop that looks for the end of a piece, and the one that takes the depth.
use Rattle.std.proofs.Common.{Vec, Global, None, Some, map, ℕ, ◌+◌, ◌≡◌, ◌<◌, ◌≤◌, true, false, List, [], ◌∷◌, ◌++◌, take, drop, length, get_or, max, refl, ap, sym, ◌∙◌, arith, subst}
use Rattle.std.proofs.Math.Seq.{take-length}
use Rattle.std.proofs.Math.ListN.{drop_of_length-le}
use Rattle.std.proofs.lemmas.List.{take_more}
use Rattle.vp_grammar.specs.declared.terminal.Symbol.{Symbol}
use Rattle.vp_grammar.specs.declared.terminal.Symbol.TheVariants as symbol
use Rattle.vp_grammar.specs.declared.terminal.Terminal.{Terminal}
use Rattle.vp_grammar.specs.declared.terminal.Terminal.TheVariants as terminal
use Rattle.vp_read.proofs.Lists.{here}
use Rattle.vp_read.specs.Pieces.{cut, depth_behind, ends, first_deep, greatest_depth, is_deep, items, onto_first}

-- what a cut gives from a depth on, as its first piece and the others
abbrev pub begun : List Terminal → List (List Terminal) → List (List Terminal)
begun [] ps = ps
begun (t ∷ ts) ps = onto_first t (begun ts ps)

-- terminals in front of a first piece stand in it
pub onto_all : (ts p : List Terminal) (ps : List (List Terminal)) → begun ts (p ∷ ps) ≡ (ts ++ p) ∷ ps
onto_all [] p ps = refl
onto_all (t ∷ ts) p ps = ap (onto_first t) (onto_all ts p ps)

begun_more : (ts : List Terminal) (t : Terminal) (ps : List (List Terminal)) → begun (ts ++ t ∷ []) ps ≡ begun ts (onto_first t ps)
begun_more [] t ps = refl
begun_more (u ∷ us) t ps = ap (onto_first u) (begun_more us t ps)

begun_alone : (t : Terminal) (ts : List Terminal) → begun (t ∷ ts) [] ≡ (t ∷ ts) ∷ []
begun_alone t [] = refl
begun_alone t (u ∷ us) = ap (onto_first t) (begun_alone u us)

-- the invariant of the loop: what the terminals so far and the depth behind them make of the rest
abbrev pub IsBegun : List Terminal → ℕ → ℕ → Type 0
IsBegun ts i d = cut 0 ts ≡ begun (take i ts) (cut d (drop i ts))

pub piece_ends : (ts : List Terminal) (i d : ℕ) (z : Terminal) → i < length ts → IsBegun ts i d → ends d (get_or ts i z) ≡ true → cut 0 ts ≡ take (i + 1) ts ∷ cut 0 (drop (i + 1) ts)
piece_ends ts i d z h b f =
    let t = get_or ts i z in
    let step : cut d (t ∷ drop (i + 1) ts) ≡ (t ∷ []) ∷ cut 0 (drop (i + 1) ts) = rw f refl in
    b ∙ ap (λ (us : List Terminal). begun (take i ts) (cut d us)) (here ts i z h) ∙ ap (begun (take i ts)) step ∙ onto_all (take i ts) (t ∷ []) (cut 0 (drop (i + 1) ts)) ∙ ap (λ (us : List Terminal). us ∷ cut 0 (drop (i + 1) ts)) (sym (take_more ts i z h))

pub piece_goes_on : (ts : List Terminal) (i d k : ℕ) (z : Terminal) → i < length ts → IsBegun ts i d → ends d (get_or ts i z) ≡ false → k ≡ depth_behind d (get_or ts i z) → IsBegun ts (i + 1) k
piece_goes_on ts i d k z h b f g =
    let t = get_or ts i z in
    let step : cut d (t ∷ drop (i + 1) ts) ≡ onto_first t (cut k (drop (i + 1) ts)) = rw (f, g) refl in
    b ∙ ap (λ (us : List Terminal). begun (take i ts) (cut d us)) (here ts i z h) ∙ ap (begun (take i ts)) step ∙ sym (begun_more (take i ts) t (cut k (drop (i + 1) ts))) ∙ ap (λ (us : List Terminal). begun us (cut k (drop (i + 1) ts))) (sym (take_more ts i z h))

pub all_one_piece : (ts : List Terminal) (i d : ℕ) → 0 < length ts → i ≡ length ts → IsBegun ts i d → cut 0 ts ≡ take (length ts) ts ∷ cut 0 (drop (length ts) ts)
all_one_piece [] i d p e b = absurd (omega arith)
all_one_piece (t ∷ ts) i d p e b =
    let all : take (length (t ∷ ts)) (t ∷ ts) ≡ t ∷ ts = take-length (t ∷ ts) in
    let none : drop (length (t ∷ ts)) (t ∷ ts) ≡ [] = drop_of_length-le (t ∷ ts) {i = length (t ∷ ts)} (omega arith) in
    let whole : cut 0 (t ∷ ts) ≡ begun (take (length (t ∷ ts)) (t ∷ ts)) (cut d (drop (length (t ∷ ts)) (t ∷ ts))) = subst (λ (k : ℕ). IsBegun (t ∷ ts) k d) e b in
    whole ∙ ap (λ (us : List Terminal). begun us (cut d (drop (length (t ∷ ts)) (t ∷ ts)))) all ∙ ap (λ (us : List Terminal). begun (t ∷ ts) (cut d us)) none ∙ begun_alone t ts ∙ ap (λ (us : List Terminal). us ∷ []) (sym all) ∙ ap (λ (us : List Terminal). take (length (t ∷ ts)) (t ∷ ts) ∷ cut 0 us) (sym none)

pub depth_small : (d : ℕ) (t : Terminal) → depth_behind d t ≤ d + 1
depth_small d (terminal.Symbol s) = of_symbol s
  where
    of_symbol : (s : Symbol) → depth_behind d (terminal.Symbol s) ≤ d + 1
    of_symbol symbol.Semicolon = omega arith
    of_symbol symbol.Comma = omega arith
    of_symbol symbol.Open = omega arith
    of_symbol symbol.Close = omega arith
    of_symbol symbol.SquareOpen = omega arith
    of_symbol symbol.SquareClose = omega arith
    of_symbol symbol.BraceOpen = omega arith
    of_symbol symbol.BraceClose = omega arith
    of_symbol symbol.Choice = omega arith
    of_symbol symbol.Prime = omega arith
    of_symbol symbol.Assign = omega arith
    of_symbol symbol.Question = omega arith
    of_symbol symbol.Bang = omega arith
depth_small d (terminal.Word w) = omega arith
depth_small d (terminal.Operator o) = omega arith
depth_small d (terminal.Compare c) = omega arith
depth_small d (terminal.Number r w) = omega arith
depth_small d (terminal.Name s v) = omega arith
depth_small d (terminal.Variable s v) = omega arith

-- the loop that takes the greatest depth
pub at_least : (d : ℕ) (ts : List Terminal) → d ≤ greatest_depth d ts
at_least d [] = omega arith
at_least d (t ∷ ts) = omega arith

pub depth_step : (ts : List Terminal) (i d k g : ℕ) (z : Terminal) → i < length ts → k ≡ depth_behind d (get_or ts i z) → d ≤ g → greatest_depth 0 ts ≡ max g (greatest_depth d (drop i ts)) → greatest_depth 0 ts ≡ max (max g k) (greatest_depth k (drop (i + 1) ts))
depth_step ts i d k g z h e l b =
    let step : greatest_depth d (drop i ts) ≡ max d (greatest_depth k (drop (i + 1) ts)) = rw (here ts i z h, e) refl in
    let least : k ≤ greatest_depth k (drop (i + 1) ts) = at_least k (drop (i + 1) ts) in
    omega (arith, b, step, least, l)

pub depth_end : (ts : List Terminal) (i d g : ℕ) → i ≡ length ts → d ≤ g → greatest_depth 0 ts ≡ max g (greatest_depth d (drop i ts)) → g ≡ greatest_depth 0 ts
depth_end ts i d g e l b =
    let none : drop i ts ≡ [] = drop_of_length-le ts {i = i} (omega arith) in
    let last : greatest_depth d (drop i ts) ≡ d = rw none refl in
    omega (arith, b, last, l)

-- the loop that looks for a deep piece
abbrev pub DeepFrom : List (Vec Terminal Global) → ℕ → Type 0
DeepFrom ps i = first_deep 1 (map items ps) ≡ first_deep (i + 1) (map items (drop i ps))

pub deep_here : (ps : List (Vec Terminal Global)) (i : ℕ) (z : Vec Terminal Global) → i < length ps → is_deep (items (get_or ps i z)) ≡ true → DeepFrom ps i → Some (i + 1) ≡ first_deep 1 (map items ps)
deep_here ps i z h d b = sym (b ∙ ap (first_deep (i + 1)) (ap (map items) (here ps i z h)) ∙ rw d refl)

pub deep_on : (ps : List (Vec Terminal Global)) (i : ℕ) (z : Vec Terminal Global) → i < length ps → is_deep (items (get_or ps i z)) ≡ false → DeepFrom ps i → DeepFrom ps (i + 1)
deep_on ps i z h d b = b ∙ ap (first_deep (i + 1)) (ap (map items) (here ps i z h)) ∙ rw d refl

pub deep_end : (ps : List (Vec Terminal Global)) (i : ℕ) → i ≡ length ps → DeepFrom ps i → None ≡ first_deep 1 (map items ps)
deep_end ps i e b = sym (b ∙ ap (λ (qs : List (Vec Terminal Global)). first_deep (i + 1) (map items qs)) (drop_of_length-le ps {i = i} (omega arith)))
