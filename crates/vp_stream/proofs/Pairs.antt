-- One more pair of ends.
use Rattle.std.proofs.Common.{◌≡◌, ℕ, suc, ◌+◌, ◌-◌, ◌<◌, ◌≤◌, Bool, ℤ, List, [], ◌∷◌, get_or, length, take, drop, Some, ap, sym, ◌∙◌, arith}
use Rattle.std.specs.Prelude.{if◌then◌else◌}
use Rattle.vp_words.specs.Ends.{encloses}
use Rattle.vp_stream.specs.Reading.{first_empty}

first_pair : (n k : ℕ) (words front : List ℤ) (low high : ℤ) (t : Bool) → 2 ≤ length words → front ≡ take 2 words → low ≡ get_or front 0 low → high ≡ get_or front 1 high → t ≡ encloses low high
    → first_empty (suc n) k words ≡ (if t then first_empty n (k + 2) (drop 2 words) else Some k)
first_pair n k [] front low high t long f l h e = absurd (omega arith)
first_pair n k (x ∷ []) front low high t long f l h e = absurd (omega arith)
first_pair n k (x ∷ y ∷ words) front low high t long f l h e =
    let first : low ≡ x = l ∙ ap (λ p. get_or p 0 low) f in
    let second : high ≡ y = h ∙ ap (λ p. get_or p 1 high) f in
    let test : encloses x y ≡ t = ap (λ z. encloses z y) (sym first) ∙ ap (λ z. encloses low z) (sym second) ∙ sym e in
    ap (λ b. if b then first_empty n (k + 2) words else Some k) test

pub pair_step : (n at k : ℕ) (words front : List ℤ) (low high : ℤ) (t : Bool) → at < n → 2 ≤ length words → front ≡ take 2 words → low ≡ get_or front 0 low → high ≡ get_or front 1 high → t ≡ encloses low high
    → first_empty (n - at) k words ≡ (if t then first_empty (n - (at + 1)) (k + 2) (drop 2 words) else Some k)
pair_step n at k words front low high t lt long f l h e =
    let more : n - at ≡ suc (n - (at + 1)) = omega arith in
    ap (λ m. first_empty m k words) more ∙ first_pair (n - (at + 1)) k words front low high t long f l h e
