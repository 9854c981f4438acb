-- The fallback's words.
use Rattle.std.proofs.Common.{◌≡◌, ℕ, suc, ◌+◌, ◌<◌, ◌≤◌, List, [], ◌∷◌, ◌++◌, length, map, Bool, true, false, Option, Some, None, refl, sym, ap, ◌∙◌, subst, arith, length-append}
use Rattle.std.specs.Prelude.{ℤ, slice_get, slice_set, if◌then◌else◌}
use Rattle.std.specs.Option.{option_map}
use Rattle.std.specs.Ordering.{int_eq}
use Rattle.vp_isa.specs.declared.code.Code.{Code}
use Rattle.vp_isa.specs.declared.instr.Mon.TheVariants as mon
use Rattle.vp_isa.specs.declared.instr.Instr.TheVariants.{Copy}
use Rattle.vp_isa.specs.Machine.{cell}
use Rattle.vp_isa.specs.Block.{after, HasAt}
use Rattle.vp_isa.specs.Runs.{Comes}
use Rattle.vp_poly.specs.declared.mono.Term.{Term}
use Rattle.vp_interval.specs.Rounding.{Ends}
use Rattle.vp_interval.specs.Polynomial.{interval_of}
use Rattle.vp_sandbox.specs.Boxes.{point_words}
use Rattle.vp_layout.specs.declared.home.Home.{Home}
use Rattle.vp_layout.specs.Cells.{HomesAreBelow, Keeps}
use Rattle.vp_layout.specs.Homes.{boxes_in}
use Rattle.vp_layout.proofs.Machines.{Runs}
use Rattle.vp_layout.specs.Ties.{Gains, standing}
use Rattle.vp_layout.proofs.Writes.{wrote, keeps_all, keeps_fewer}
use Rattle.vp_layout.proofs.Kept.{are_below_more, boxes_kept}
use Rattle.vp_layout.proofs.Running.{One, goes, halted_before, halts, jumps_same, one_before, then_words}
use Rattle.vp_gen.specs.PolyCode.{poly_code}
use Rattle.vp_gen.specs.SandboxCode.{same_code, word_code, words_code}
use Rattle.vp_gen.proofs.Bridges.{poly_is}
use Rattle.vp_gen.proofs.Values.{of_poly}
use Rattle.vp_gen.proofs.Powers.{Fits}
use Rattle.vp_gen.proofs.Polys.{poly_leaves}
use Rattle.vp_gen.proofs.Plain.{plain-poly}

same_leads : (law : Runs) (code : Code) (q f : ℕ) (c : List ℤ) (same : Bool) → f < 84 → 84 < length c → int_eq (cell c 84) (cell c 85) ≡ same
    → HasAt code q (same_code q f) → One code f c q (q + 3) same (cell c 84)
same_leads law code q f c true below room is h =
    let one = jumps_same law code 84 85 (q + 2) c q true h.0 is in
    let e : q + 1 + 1 ≡ q + 2 = omega arith in
    let at : slice_get code.instrs (q + 2) ≡ Some (Copy f 84) = ap (slice_get code.instrs) (sym e) ∙ h.1.1.0 in
    let c1 = slice_set c f (cell c 84) in
    let w = wrote c f (cell c 84) (omega arith) in
    let next : q + 2 + 1 ≡ q + 3 = omega arith in
    let two : Comes code (standing c (q + 2)) (standing c1 (q + 3)) = goes law code c (q + 2) (Copy f 84) _ at refl (ap (standing c1) next) in
    (c1, w.here, record { same_length = w.same_length; below = λ i lt. w.others i (omega arith) }, law.both code _ _ _ one two)
same_leads law code q f c false below room is h =
    let one = jumps_same law code 84 85 (q + 2) c q false h.0 is in
    halted_before law code _ _ mon.Fallback one (halts law code mon.Fallback c (q + 1) h.1.0)

word_leads : (law : Runs) (code : Code) (p f : ℕ) (q : List Term) (hs : List Home) (c : List ℤ) → f < 84 → Fits 84 11 c → HomesAreBelow 84 hs
    → HasAt code p (word_code p f q hs)
    → One code f c p (p + length (word_code p f q hs)) (int_eq (interval_of (boxes_in c hs) q).lo (interval_of (boxes_in c hs) q).hi) (interval_of (boxes_in c hs) q).lo
word_leads law code p f q hs c below fits homes h =
    let block = poly_code 84 q hs in
    let v = interval_of (boxes_in c hs) q in
    let r = p + length block in
    let c1 = after block c in
    let l = poly_leaves c 84 q hs fits homes in
    let is : of_poly q (boxes_in c hs) ≡ v = poly_is q (boxes_in c hs) in
    let low : cell c1 84 ≡ v.lo = l.low ∙ ap (λ x. x.lo) is in
    let high : cell c1 85 ≡ v.hi = l.high ∙ ap (λ x. x.hi) is in
    let runs = law.block code block (standing c p) refl (law.front code p block (same_code r f) h) (plain-poly 84 q hs) in
    let room : 84 + 11 < length c = fits.room in
    let len1 : length c1 ≡ length c = l.keeps.same_length in
    let test = same_leads law code r f c1 (int_eq v.lo v.hi) below (omega arith) (rw (low, high) refl) (law.back code p block (same_code r f) h) in
    let test' : One code f c1 r (r + 3) (int_eq v.lo v.hi) v.lo = subst (λ w. One code f c1 r (r + 3) (int_eq v.lo v.hi) w) low test in
    let len : r + 3 ≡ p + length (word_code p f q hs) = omega (arith, length-append block (same_code r f)) in
    subst (λ e. One code f c p e (int_eq v.lo v.hi) v.lo) len
    (one_before law code f c c1 p r (r + 3) _ _ (keeps_fewer f 84 c c1 (omega arith) l.keeps) runs test')

-- the words of a list
pub words_lead : (law : Runs) (code : Code) (p f : ℕ) (qs : List (List Term)) (hs : List Home) (c : List ℤ) → 67 < f → f + length qs ≤ 84 → Fits 84 11 c → HomesAreBelow 68 hs
    → HasAt code p (words_code p f qs hs)
    → Gains code f c p (p + length (words_code p f qs hs)) (point_words (map (interval_of (boxes_in c hs)) qs))
words_lead law code p f [] hs c above below fits homes h =
    let e : p ≡ p + 0 = omega arith in
    subst (λ q. Gains code f c p q (Some [])) e (record { cells = c; stand = tt; keeps = keeps_all f c; comes = law.none code (standing c p) })
words_lead law code p f (q ∷ qs) hs c above below fits homes h =
    let one = word_code p f q hs in
    let r = p + length one in
    let rest = words_code r (f + 1) qs hs in
    let v = interval_of (boxes_in c hs) q in
    let first = word_leads law code p f q hs c (omega arith) fits (are_below_more 68 84 hs (omega arith) homes) (law.front code p one rest h) in
    let others : Option (List ℤ) = point_words (map (interval_of (boxes_in c hs)) qs) in
    let next : (c1 : List ℤ) → Keeps f c c1 → Gains code (f + 1) c1 r (r + length rest) others =
    λ c1 kept.
    let kept' : Keeps 68 c c1 = keeps_fewer 68 f c c1 (omega arith) kept in
    let room : 84 + 11 < length c = fits.room in
    let len : length c1 ≡ length c = kept.same_length in
    let fits1 : Fits 84 11 c1 = record { above = fits.above; room = omega arith; zero_is = kept'.below 64 (omega arith) ∙ fits.zero_is } in
    subst (λ b. Gains code (f + 1) c1 r (r + length rest) (point_words (map (interval_of b) qs))) (boxes_kept c c1 68 hs kept' homes)
    (words_lead law code r (f + 1) qs hs c1 (omega arith) (omega arith) fits1 homes (law.back code p one rest h)) in
    let len : r + length rest ≡ p + length (one ++ rest) = omega (arith, length-append one rest) in
    subst (λ e. Gains code f c p e (point_words (v ∷ map (interval_of (boxes_in c hs)) qs))) len
    (then_words law code f c p r (r + length rest) (int_eq v.lo v.hi) v.lo others first next)

-- as many words as intervals
pub length-words : (vs : List Ends) (ws : List ℤ) → point_words vs ≡ Some ws → length ws ≡ length vs
length-words [] [] e = refl
length-words [] (w ∷ ws) e = absurd cc
length-words (v ∷ vs) ws e = by_same (int_eq v.lo v.hi) (point_words vs) (length-words vs) e
  where
    by_same : (b : Bool) (o : Option (List ℤ)) → ((us : List ℤ) → o ≡ Some us → length us ≡ length vs) → (if b then option_map (λ us. v.lo ∷ us) o else None) ≡ Some ws → length ws ≡ suc (length vs)
    by_same false o f g = absurd cc
    by_same true None f g = absurd cc
    by_same true (Some us) f g =
        let same : v.lo ∷ us ≡ ws = cc in
        ap length (sym same) ∙ ap suc (f us refl)
