-- Steps of emitting a choice.
use Rattle.std.proofs.Common.{◌≡◌, ℕ, ◌+◌, ◌*◌, ◌^◌, ◌<◌, ◌≤◌, List, [], ◌∷◌, ◌++◌, length, Option, Some, None, refl, ap, ◌∙◌, arith, append_assoc, length-append}
use Rattle.std.specs.Prelude.{slice_get, slice_set, sum_by}
use Rattle.std.proofs.Math.ListN.{length-set}
use Rattle.std.proofs.Math.Seq.{set-append_seam}
use Rattle.vp_isa.specs.declared.instr.Instr.{Instr}
use Rattle.vp_logic.specs.Tree.{tree}
use Rattle.vp_sandbox.specs.declared.sandbox.Sandbox.{Sandbox}
use Rattle.vp_sandbox.specs.Sizes.{form_size, poly_size}
use Rattle.vp_emit.specs.Draft.{Draft}
use Rattle.vp_layout.specs.Drafts.{Appends, HasRoom}
use Rattle.vp_layout.specs.Homes.{homes_of}
use Rattle.vp_layout.proofs.Drafts.{first_label, second_label, room_after}
use Rattle.vp_gen.specs.SandboxCode.{fallback_code, test_code}
use Rattle.vp_gen.proofs.Sizes.{length-form}
use Rattle.vp_gen.proofs.Validity.{length-fallback, length-test}

-- room after a block, two labels and one instruction
pub opened_room : (a d : Draft) (block : List Instr) (i : Instr) (n m : ℕ) → HasRoom a n → 2 ≤ length block → length block + 1 + m ≤ n
    → d.pushed ≡ (a.pushed ++ block) ++ i ∷ [] → d.places ≡ (a.places ++ None ∷ []) ++ None ∷ [] → HasRoom d m
opened_room a d block i n m r two le e f =
    let none : Option ℕ = None in
    let room : length a.pushed + n < 2 ^ 31 = r.room in
    let labels : length a.places ≤ length a.pushed + 1 = r.labels in
    let p : length d.pushed ≡ length a.pushed + length block + 1 = ap length e ∙ length-append (a.pushed ++ block) (i ∷ []) ∙ ap (λ k. k + 1) (length-append a.pushed block) in
    let q : length d.places ≡ length a.places + 1 + 1 = ap length f ∙ length-append (a.places ++ none ∷ []) (none ∷ []) ∙ ap (λ k. k + 1) (length-append a.places (none ∷ [])) in
    record { room = omega arith; labels = omega arith }

-- room after a jump and a placed label
pub placed_room : (a d : Draft) (i : Instr) (l : ℕ) (v : Option ℕ) (n m : ℕ) → HasRoom a n → 1 + m ≤ n → d.pushed ≡ a.pushed ++ i ∷ [] → d.places ≡ slice_set a.places l v → HasRoom d m
placed_room a d i l v n m r le e f =
    let room : length a.pushed + n < 2 ^ 31 = r.room in
    let labels : length a.places ≤ length a.pushed + 1 = r.labels in
    let p : length d.pushed ≡ length a.pushed + 1 = ap length e ∙ length-append a.pushed (i ∷ []) in
    let q : length d.places ≡ length a.places = ap length f ∙ length-set a.places l v in
    record { room = omega arith; labels = omega arith }

-- the two labels have no place yet
pub first_open : (xs w ps : List (Option ℕ)) (l : ℕ) → ps ≡ ((xs ++ None ∷ []) ++ None ∷ []) ++ w → l ≡ length xs → slice_get ps l ≡ Some None
first_open xs w ps l e f =
    let none : Option ℕ = None in
    let all : ps ≡ xs ++ none ∷ none ∷ w = e ∙ simp append_assoc in
    ap (λ z. slice_get z l) all ∙ first_label xs l none (none ∷ w) f

pub second_open : (xs w y ps qs : List (Option ℕ)) (l l' : ℕ) (v : Option ℕ) → ps ≡ ((xs ++ None ∷ []) ++ None ∷ []) ++ w → qs ≡ slice_set ps l v ++ y → l ≡ length xs → l' ≡ length xs + 1 → slice_get qs l' ≡ Some None
second_open xs w y ps qs l l' v e f g h =
    let none : Option ℕ = None in
    let all : ps ≡ xs ++ none ∷ none ∷ w = e ∙ simp append_assoc in
    let set_ : slice_set ps l v ≡ xs ++ v ∷ none ∷ w = ap (λ z. slice_set z l v) all ∙ ap (λ n. slice_set (xs ++ none ∷ none ∷ w) n v) g ∙ set-append_seam xs none (none ∷ w) v in
    let now : qs ≡ xs ++ v ∷ none ∷ (w ++ y) = f ∙ ap (λ z. z ++ y) set_ ∙ append_assoc xs (v ∷ none ∷ w) y in
    ap (λ z. slice_get z l') now ∙ ap (slice_get (xs ++ v ∷ none ∷ (w ++ y))) h ∙ second_label xs (length xs) v none (w ++ y) refl

-- what a choice needs room for
abbrev pub choice_room : Sandbox → ℕ
choice_room s = form_size (tree s.ctrl) + sum_by (λ p. poly_size p + 6) s.fallback + 2 * s.counts.controls + 12

test_some : (s : Sandbox) → 2 ≤ length (test_code s)
test_some s = omega (arith, length-test s)

-- room behind the test of a choice, two labels and a jump
pub asked_room : (s : Sandbox) (a d : Draft) (i : Instr) → HasRoom a (choice_room s) → d.pushed ≡ (a.pushed ++ test_code s) ++ i ∷ [] → d.places ≡ (a.places ++ None ∷ []) ++ None ∷ []
    → HasRoom d (sum_by (λ p. poly_size p + 6) s.fallback + 2 * s.counts.controls + 6)
asked_room s a d i r e f =
    opened_room a d (test_code s) i (choice_room s) (sum_by (λ p. poly_size p + 6) s.fallback + 2 * s.counts.controls + 6) r (test_some s)
    (omega (arith, length-test s, length-form (tree s.ctrl) 84 (homes_of s.counts))) e f

-- and behind the fallback
pub unchosen_room : (s : Sandbox) (d b : Draft) → HasRoom d (sum_by (λ p. poly_size p + 6) s.fallback + 2 * s.counts.controls + 6) → Appends d b (fallback_code s) → HasRoom b (s.counts.controls + 5)
unchosen_room s d b r x =
    room_after d b (fallback_code s) (s.counts.controls + 5) (sum_by (λ p. poly_size p + 6) s.fallback + 2 * s.counts.controls + 6) x r (omega (arith, length-fallback s (length d.pushed)))
