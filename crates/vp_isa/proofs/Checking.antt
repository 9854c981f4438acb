-- Code that breaks no rule is valid.
use Rattle.std.proofs.Common.{◌≡◌, ℕ, zero, suc, ◌+◌, ◌-◌, ◌<◌, ◌≤◌, nat_lt, not, Bool, true, false, cond, List, [], ◌∷◌, length, slice_get, Option, None, Some, IfSome, refl, ap, sym, ◌∙◌, arith}
use Rattle.std.proofs.lemmas.Bool.Decides.{nat_tests}
use Rattle.vp_words.specs.Record.{IsValid as AreCounts}
use Rattle.vp_isa.specs.declared.code.Code.{Code}
use Rattle.vp_isa.specs.declared.code.CheckErr.{CheckErr}
use Rattle.vp_isa.specs.declared.code.CheckErr.TheVariants.{Size, Shape, Cell, Fall}
use Rattle.vp_isa.specs.declared.instr.Instr.{Instr}
use Rattle.vp_isa.specs.Valid.{TargetFits, IsValid, is_take, never_falls, cells_used, target_of, target_refusal, refusal_at, first_of, first_refusal, end_refusal, size_fits, refusal}

none_of : (a b : Option CheckErr) → first_of a b ≡ None → (a ≡ None) × (b ≡ None)
none_of None b h = (refl, h)
none_of (Some x) b h = absurd cc

-- a test that would have refused passed
passed : (b : Bool) (x : CheckErr) (r : Option CheckErr) → cond (not b) (Some x) r ≡ None → (b ≡ true) × (r ≡ None)
passed true x r h = (refl, h)
passed false x r h = absurd cc

cells_from : (code : Code) (at : ℕ) (i : Instr) → refusal_at code at i ≡ None → (cells_used code.counts i ≤ code.cells) × (target_refusal code at (target_of i) ≡ None)
cells_from code at i h = by_cells (cells_used code.counts i) (target_refusal code at (target_of i)) h
  where
    by_cells : (used : ℕ) (r : Option CheckErr) → cond (nat_lt code.cells used) (Some (Cell at)) r ≡ None → (used ≤ code.cells) × (r ≡ None)
    by_cells used r h = grind (arith, nat_tests)

target_from : (code : Code) (at : ℕ) (target : Option ℕ) → target_refusal code at target ≡ None → IfSome target (TargetFits code at)
target_from code at None h = tt
target_from code at (Some t) h = record { within = grind (arith, nat_tests); forward = grind (arith, nat_tests) }

-- a test that has to pass
ends : (b : Bool) → cond b None (Some Fall) ≡ None → b ≡ true
ends true h = refl
ends false h = absurd cc

-- each instruction keeps the rules
each_from : (code : Code) (at : ℕ) (is : List Instr) → first_refusal code at is ≡ None → (k : ℕ) (i : Instr) → slice_get is k ≡ Some i → refusal_at code (at + k) i ≡ None
each_from code at [] h k i e = absurd cc
each_from code at (j ∷ is) h zero i e =
    let same : j ≡ i = cc in
    let here : at + 0 ≡ at = omega arith in
    rw (here, ← same) (none_of (refusal_at code at j) (first_refusal code (at + 1) is) h).0
each_from code at (j ∷ is) h (suc k) i e =
    let there : at + suc k ≡ (at + 1) + k = omega arith in
    rw there (each_from code (at + 1) is (none_of (refusal_at code at j) (first_refusal code (at + 1) is) h).1 k i e)

-- the last instruction is a jump or a halt
falls_from : (code : Code) (at : ℕ) (i : Instr) → end_refusal code ≡ None → slice_get code.instrs at ≡ Some i → at + 1 ≡ length code.instrs → never_falls (Some i) ≡ true
falls_from code at i h e last =
    let place : length code.instrs - 1 ≡ at = omega arith in
    ap never_falls (sym e) ∙ ap (λ k. never_falls (slice_get code.instrs k)) (sym place) ∙ ends (never_falls (slice_get code.instrs (length code.instrs - 1))) h

-- what the sizes say
record Sizes (code : Code) : Type 0 where
  counts : AreCounts code.counts
  some : 0 < length code.instrs
  short : length code.instrs ≤ 65536
  small : code.cells ≤ 8192
  head : code.head < length code.instrs

sizes_from : (code : Code) → size_fits code ≡ true → Sizes code
sizes_from code h = record {
  counts = (grind (arith, nat_tests), grind (arith, nat_tests), grind (arith, nat_tests));
  some = grind (arith, nat_tests);
  short = grind (arith, nat_tests);
  small = grind (arith, nat_tests);
  head = grind (arith, nat_tests);
}

pub valid_from : (code : Code) → refusal code ≡ None → IsValid code
valid_from code h =
    let sized = passed (size_fits code) Size _ h in
    let first = passed (is_take (slice_get code.instrs 0)) (Shape 0) _ sized.1 in
    let head = passed (is_take (slice_get code.instrs code.head)) (Shape code.head) _ first.1 in
    let rest = none_of (first_refusal code 0 code.instrs) (end_refusal code) head.1 in
    let sizes = sizes_from code sized.0 in
    record {
      counts = sizes.counts;
      some = sizes.some;
      short = sizes.short;
      small = sizes.small;
      head = sizes.head;
      first = first.0;
      at_head = head.0;
      each = λ at i e.
          let none : refusal_at code at i ≡ None = ap (λ k. refusal_at code k i) (omega arith) ∙ each_from code 0 code.instrs rest.0 at i e in
          let fits = cells_from code at i none in
          record {
            cells = fits.0;
            target = target_from code at (target_of i) fits.1;
            falls = falls_from code at i rest.1 e;
          };
    }
