-- Valid code is not refused.
use Rattle.std.proofs.Common.{◌≡◌, ◌⊎◌, inl, inr, ℕ, zero, suc, ◌+◌, ◌-◌, ◌<◌, ◌≤◌, nat_lt, nat_le, ◌==◌, not, ◌&&◌, Bool, true, false, cond, List, [], ◌∷◌, length, slice_get, Option, None, Some, IfSome, refl, ap, sym, ◌∙◌, arith}
use Rattle.std.proofs.lemmas.Bool.Decides.{nat_tests}
use Rattle.vp_words.specs.Record.{IsValid as AreCounts, is_valid, place_count}
use Rattle.vp_words.specs.declared.record.Counts.{Counts}
use Rattle.vp_isa.specs.declared.code.Code.{Code}
use Rattle.vp_isa.specs.declared.code.CheckErr.TheVariants.{Cell, Target, Back, Fall}
use Rattle.vp_isa.specs.declared.instr.Instr.{Instr}
use Rattle.vp_isa.specs.Valid.{TargetFits, IsFine, IsValid, never_falls, cells_used, target_of, target_refusal, refusal_at, first_refusal, end_refusal, size_fits, refusal}

le_true : (m n : ℕ) → m ≤ n → nat_le m n ≡ true
le_true m n h = grind (arith, nat_tests)

lt_true : (m n : ℕ) → m < n → nat_lt m n ≡ true
lt_true m n h = grind (arith, nat_tests)

le_false : (m n : ℕ) → n < m → nat_le m n ≡ false
le_false m n h = grind (arith, nat_tests)

lt_false : (m n : ℕ) → n ≤ m → nat_lt m n ≡ false
lt_false m n h = grind (arith, nat_tests)

and_true : (a b : Bool) → a ≡ true → b ≡ true → (a && b) ≡ true
and_true true b e f = f
and_true false b e f = absurd cc

counts_true : (c : Counts) → AreCounts c → is_valid c ≡ true
counts_true c v = and_true _ _ (le_true 1 c.states v.0) (and_true _ _ (le_true 1 c.controls v.1) (le_true (place_count c) 32 v.2))

sizes_true : (code : Code) → IsValid code → size_fits code ≡ true
sizes_true code v =
    and_true _ _ (counts_true code.counts v.counts)
    (and_true _ _ (le_true 1 (length code.instrs) (omega (arith, v.some)))
    (and_true _ _ (le_true (length code.instrs) 65536 v.short)
    (and_true _ _ (le_true code.cells 8192 v.small) (lt_true code.head (length code.instrs) v.head))))

target_none : (code : Code) (at : ℕ) (o : Option ℕ) → IfSome o (TargetFits code at) → target_refusal code at o ≡ None
target_none code at None h = refl
target_none code at (Some t) h =
    let inside : t < length code.instrs = h.within in
    by_end (nat_le (length code.instrs) t) (le_false (length code.instrs) t inside)
  where
    by_back : (a b : Bool) → ((a ≡ false) ⊎ (b ≡ true)) → cond (a && not b) (Some (Back at)) None ≡ None
    by_back false b e = refl
    by_back true true e = refl
    by_back true false e = elim e [ inl f ↦ absurd cc | inr f ↦ absurd cc ]

    back : (nat_le t at ≡ false) ⊎ ((t == code.head) ≡ true)
    back = elim h.forward [ inl f ↦ inl (le_false t at f) | inr f ↦ inr (grind (arith, nat_tests)) ]

    by_end : (b : Bool) → b ≡ false → cond b (Some (Target at)) (cond (nat_le t at && not (t == code.head)) (Some (Back at)) None) ≡ None
    by_end true e = absurd cc
    by_end false e = by_back (nat_le t at) (t == code.head) back

at_none : (code : Code) (at : ℕ) (i : Instr) → IsFine code at i → refusal_at code at i ≡ None
at_none code at i f = by_cells (nat_lt code.cells (cells_used code.counts i)) (lt_false code.cells (cells_used code.counts i) f.cells)
  where
    by_cells : (b : Bool) → b ≡ false → cond b (Some (Cell at)) (target_refusal code at (target_of i)) ≡ None
    by_cells true e = absurd cc
    by_cells false e = target_none code at (target_of i) f.target

all_none : (code : Code) (at : ℕ) (is : List Instr) → ((k : ℕ) (i : Instr) → slice_get is k ≡ Some i → refusal_at code (at + k) i ≡ None) → first_refusal code at is ≡ None
all_none code at [] h = refl
all_none code at (i ∷ is) h =
    let here : at + 0 ≡ at = omega arith in
    let one : refusal_at code at i ≡ None = ap (λ p. refusal_at code p i) (sym here) ∙ h 0 i refl in
    let rest : first_refusal code (at + 1) is ≡ None = all_none code (at + 1) is (λ k j e. ap (λ p. refusal_at code p j) (omega arith) ∙ h (suc k) j e) in
    rw (one, rest) refl

end_none : (code : Code) → IsValid code → end_refusal code ≡ None
end_none code v = by_get (slice_get code.instrs (length code.instrs - 1)) refl
  where
    never : (o : Option Instr) → never_falls o ≡ true → cond (never_falls o) None (Some Fall) ≡ None
    never o e = rw e refl

    gone : (is : List Instr) (k : ℕ) → k < length is → slice_get is k ≡ None → ⊥
    gone [] k lt e = absurd (omega arith)
    gone (i ∷ is) zero lt e = absurd cc
    gone (i ∷ is) (suc k) lt e = gone is k (omega arith) e

    by_get : (o : Option Instr) → slice_get code.instrs (length code.instrs - 1) ≡ o → cond (never_falls o) None (Some Fall) ≡ None
    by_get None e = let some : 0 < length code.instrs = v.some in absurd (gone code.instrs (length code.instrs - 1) (omega arith) e)
    by_get (Some i) e =
        let some : 0 < length code.instrs = v.some in
        never (Some i) ((v.each (length code.instrs - 1) i e).falls (omega arith))

pub unrefused : (code : Code) → IsValid code → refusal code ≡ None
unrefused code v =
    let each : first_refusal code 0 code.instrs ≡ None = all_none code 0 code.instrs (λ k i e. let at : 0 + k ≡ k = omega arith in ap (λ p. refusal_at code p i) at ∙ at_none code k i (v.each k i e)) in
    rw (sizes_true code v, v.first, v.at_head, each) (end_none code v)
