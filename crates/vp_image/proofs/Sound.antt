-- Bytes that are read as an image are that image.
use Rattle.std.proofs.Common.{◌≡◌, ◌+◌, ◌-◌, ◌*◌, ◌<◌, ◌≤◌, ℕ, List, [], ◌∷◌, ◌++◌, length, get_or, slice_index, take, drop, Option, Some, None, Result, Ok, Err, inl, inr, refl, sym, ap, subst, ◌∙◌, append_assoc, arith}
use Rattle.std.specs.Prelude.{codes, IfOk}
use Rattle.std.specs.List.{flat_map}
use Rattle.std.specs.Int.{w16, w32, to_be_bytes}
use Rattle.std.proofs.lemmas.Bool.{cases_lt}
use Rattle.std.proofs.lemmas.Nat.{be_bytes_2, be_bytes_4}
use Rattle.std.proofs.lemmas.List.{take_at, drop-drop, drop_more, take-append-drop, length-append, length-take, length-drop, get_or-drop, get_or-take, get_or_past}
use Rattle.sha2.specs.Sha256.{sha256}
use Rattle.vp_isa.specs.declared.instr.Instr.{Instr}
use Rattle.vp_isa.specs.declared.code.Code.{Code}
use Rattle.vp_isa.specs.declared.code.CheckErr.{CheckErr}
use Rattle.vp_isa.specs.Encoding.{encoded}
use Rattle.vp_isa.specs.Reading.{short_at, long_at}
use Rattle.vp_isa.specs.Valid.{refusal}
use Rattle.vp_image.specs.declared.image.ImageErr.{ImageErr}
use Rattle.vp_image.specs.Image.{body, image, count_of, sealed, package_digest, instrs_read, code_of, unless_refused, code_read, image_read, Gives}
use Rattle.vp_image.proofs.Instrs.{instrs_taken}
use Rattle.vp_image.proofs.Passing.{Passed, reads_passed}

abbrev pub IsBytes : List ℕ → Type 0
IsBytes bytes = (i : ℕ) → get_or bytes i 0 < 256

part_fits : (at n : ℕ) (bytes : List ℕ) → IsBytes bytes → IsBytes (take n (drop at bytes))
part_fits at n bytes h i =
    elim (cases_lt i n) [
      | inl lt ↦ rw (get_or-take n (drop at bytes) i 0 lt, get_or-drop at bytes i 0) (h (at + i))
      | inr le ↦ rw (get_or_past (take n (drop at bytes)) i 0 (omega (arith, length-take n (drop at bytes)))) (omega arith)
    ]

part_length : (at n : ℕ) (bytes : List ℕ) → at + n ≤ length bytes → length (take n (drop at bytes)) ≡ n
part_length at n bytes h = omega (arith, length-take n (drop at bytes), length-drop at bytes)

short_is : (at : ℕ) (bytes : List ℕ) → IsBytes bytes → at + 2 ≤ length bytes → take 2 (drop at bytes) ≡ to_be_bytes w16 (short_at at bytes)
short_is at bytes fits h = sym (be_bytes_2 (take 2 (drop at bytes)) (short_at at bytes) (part_length at 2 bytes h) (part_fits at 2 bytes fits) refl)

long_is : (at : ℕ) (bytes : List ℕ) → IsBytes bytes → at + 4 ≤ length bytes → take 4 (drop at bytes) ≡ to_be_bytes w32 (long_at at bytes)
long_is at bytes fits h = sym (be_bytes_4 (take 4 (drop at bytes)) (long_at at bytes) (part_length at 4 bytes h) (part_fits at 4 bytes fits) refl)

-- what stands at a place, before the rest
cut : (at n : ℕ) (bytes front back : List ℕ) → take n (drop at bytes) ≡ front → drop (at + n) bytes ≡ back → drop at bytes ≡ front ++ back
cut at n bytes front back h g =
    sym (take-append-drop n (drop at bytes))
    ∙ ap (λ b. b ++ drop n (drop at bytes)) h
    ∙ ap (λ b. front ++ b) (drop-drop n at bytes ∙ g)

-- three bytes
three : (at : ℕ) (bytes : List ℕ) → at + 3 ≤ length bytes → drop at bytes ≡ slice_index bytes at ∷ slice_index bytes (at + 1) ∷ slice_index bytes (at + 1 + 1) ∷ drop (at + 1 + 1 + 1) bytes
three at bytes h =
    drop_more bytes at 0 (omega arith)
    ∙ ap (λ b. slice_index bytes at ∷ b) (drop_more bytes (at + 1) 0 (omega arith))
    ∙ ap (λ b. slice_index bytes at ∷ slice_index bytes (at + 1) ∷ b) (drop_more bytes (at + 1 + 1) 0 (omega arith))

-- the bytes before the instructions
abbrev pub header : Code → List ℕ
header code =
    codes "VPHY" ++ to_be_bytes w16 1
    ++ (code.counts.params ∷ code.counts.states ∷ code.counts.controls ∷ [])
    ++ to_be_bytes w16 code.cells ++ to_be_bytes w32 code.head ++ to_be_bytes w32 (length code.instrs)

-- the bytes of the header, the instructions, and the digest of the package
parts : (bytes : List ℕ) (instrs : List Instr) → IsBytes bytes → Passed bytes → instrs_read (count_of bytes) 0 (drop 19 bytes) ≡ Ok instrs
    → bytes ≡ body (code_of bytes instrs) (package_digest bytes) ++ drop (length bytes - 32) bytes
parts bytes instrs fits p h =
    let n : ℕ = count_of bytes in
    let taken = instrs_taken n 0 (drop 19 bytes) instrs h in
    let last : List ℕ = drop (length bytes - 32) bytes in
    let end : drop (19 + 12 * n) bytes ≡ package_digest bytes ++ last =
    cut (19 + 12 * n) 32 bytes (package_digest bytes) last (ap (λ k. take 32 (drop k bytes)) (omega (arith, p.long))) (ap (λ k. drop k bytes) (omega (arith, p.long))) in
    let instrs_at : drop 19 bytes ≡ flat_map encoded instrs ++ (package_digest bytes ++ last) =
    taken.0 ∙ ap (λ b. flat_map encoded instrs ++ b) (drop-drop (12 * n) 19 bytes ∙ end) in
    let count : take 4 (drop 15 bytes) ≡ to_be_bytes w32 (length instrs) = long_is 15 bytes fits (omega (arith, p.long)) ∙ ap (to_be_bytes w32) (sym taken.1) in
    let counts_at = three 6 bytes (omega (arith, p.long)) in
    let from9 = cut 9 2 bytes _ _ (short_is 9 bytes fits (omega (arith, p.long)))
    (cut 11 4 bytes _ _ (long_is 11 bytes fits (omega (arith, p.long))) (cut 15 4 bytes _ _ count instrs_at)) in
    let from4 = cut 4 2 bytes _ _ (short_is 4 bytes fits (omega (arith, p.long)) ∙ ap (to_be_bytes w16) p.version) (counts_at ∙ ap (λ b. slice_index bytes 6 ∷ slice_index bytes 7 ∷ slice_index bytes 8 ∷ b) from9) in
    let front = cut 0 4 bytes _ _ p.magic from4 in
    front ∙ ap (λ b. header (code_of bytes instrs) ++ b) (sym (append_assoc (flat_map encoded instrs) (package_digest bytes) last))

-- the code, where it is accepted
record Accepted (bytes : List ℕ) (read : Result (List Instr) ImageErr) (x : Code × List ℕ) : Type 0 where
  instrs : List Instr
  are_read : read ≡ Ok instrs
  fine : refusal (code_of bytes instrs) ≡ None
  is : (code_of bytes instrs, package_digest bytes) ≡ x

accepted_from : (bytes : List ℕ) (read : Result (List Instr) ImageErr) (x : Code × List ℕ) → code_read bytes read ≡ Ok x → Accepted bytes read x
accepted_from bytes (Err e) x h = absurd cc
accepted_from bytes (Ok instrs) x h = by_refusal (refusal (code_of bytes instrs)) refl h
  where
    by_refusal : (o : Option CheckErr) → refusal (code_of bytes instrs) ≡ o → unless_refused (code_of bytes instrs) (package_digest bytes) o ≡ Ok x → Accepted bytes (Ok instrs) x
    by_refusal None e g = record { instrs = instrs; are_read = refl; fine = e; is = cc }
    by_refusal (Some r) e g = absurd cc

abbrev IsImage : List ℕ → Code × List ℕ → Type 0
IsImage bytes x = (bytes ≡ image x.0 x.1) × (refusal x.0 ≡ None)

sound_from : (bytes : List ℕ) (x : Code × List ℕ) → IsBytes bytes → image_read bytes ≡ Ok x → IsImage bytes x
sound_from bytes x fits h =
    let p = reads_passed bytes x h in
    let a = accepted_from bytes (instrs_read (count_of bytes) 0 (drop 19 bytes)) x p.1 in
    let front : List ℕ = body (code_of bytes a.instrs) (package_digest bytes) in
    let last : List ℕ = drop (length bytes - 32) bytes in
    let whole : bytes ≡ front ++ last = parts bytes a.instrs fits p.0 a.are_read in
    let size : length front ≡ length bytes - 32 =
    omega (arith, ap length whole, length-append front last, length-drop (length bytes - 32) bytes, p.0.long) in
    let same : sealed bytes ≡ front = ap (take (length bytes - 32)) whole ∙ take_at front last (length bytes - 32) size in
    let is : bytes ≡ image (code_of bytes a.instrs) (package_digest bytes) = whole ∙ ap (λ b. front ++ b) (p.0.digest ∙ ap sha256 same) in
    subst (IsImage bytes) a.is (is, a.fine)

pub is_sound : (bytes : List ℕ) (result : Result (Code × List ℕ) ImageErr) → IsBytes bytes → Gives result (image_read bytes)
    → IfOk result (λ read. (bytes ≡ image read.0 read.1) × (refusal read.0 ≡ None))
is_sound bytes (Ok x) fits h = sound_from bytes x fits (sym h)
is_sound bytes (Err e) fits h = tt
