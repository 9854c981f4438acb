-- Runs of bytes that begin further behind.
use Rattle.std.proofs.Common.{ℕ, ◌+◌, ◌-◌, ◌≡◌, ◌≢◌, ◌<◌, ◌≤◌, Bool, true, false, not, nat_eq, List, length, drop, slice_index, sym, ap, ◌∙◌, arith, length-drop}
use Rattle.std.proofs.lemmas.List.{get_or-drop}
use Rattle.std.proofs.lemmas.Bool.Decides.{nat_tests}
use Rattle.vp_lex.specs.Bytes.{IsRun, IsCommentEnd}

pub at_drop : (text : List ℕ) (i j : ℕ) → slice_index (drop i text) j ≡ slice_index text (i + j)
at_drop text i j = grind (arith, get_or-drop {A = ℕ})

-- a run in front of what is behind a place is a run from that place on
pub run_behind : (test : ℕ → Bool) (text : List ℕ) (from n : ℕ) → from ≤ length text → IsRun test (drop from text) 0 n → IsRun test text from (from + n)
run_behind test text from n l r =
    let d : length (drop from text) ≡ length text - from = length-drop from text in
    let w : n ≤ length (drop from text) = r.within in
    record {
      forward = omega arith;
      within = omega arith;
      each = λ k p q.
          let e : from + (k - from) ≡ k = omega arith in
          let s : slice_index (drop from text) (k - from) ≡ slice_index text k = at_drop text from (k - from) ∙ ap (λ m. slice_index text m) e in
          ap test (sym s) ∙ r.each (k - from) (omega arith) (omega arith);
      ends = λ p. ap test (sym (at_drop text from n)) ∙ r.ends (omega arith);
    }

no_line_feed : (b : ℕ) → not (nat_eq b 10) ≡ true → b ≢ 10
no_line_feed b h = grind (arith, nat_tests)

line_feed : (b : ℕ) → not (nat_eq b 10) ≡ false → b ≡ 10
line_feed b h = grind (arith, nat_tests)

-- a comment goes up to the end of the line
pub comment_behind : (text : List ℕ) (from n : ℕ) → from < length text → IsRun (λ b. not (nat_eq b 10)) (drop (from + 1) text) 0 n → IsCommentEnd text from (from + 1 + n)
comment_behind text from n l r =
    let s = run_behind (λ b. not (nat_eq b 10)) text (from + 1) n (omega arith) r in
    record {
      forward = omega arith;
      within = s.within;
      each = λ k p q. no_line_feed (slice_index text k) (s.each k (omega arith) q);
      ends = λ p. line_feed (slice_index text (from + 1 + n)) (s.ends p);
    }
