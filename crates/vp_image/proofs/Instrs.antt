-- The bytes of instructions are read back, and only they are.
use Rattle.std.proofs.Common.{◌≡◌, ◌+◌, ◌*◌, ℕ, zero, suc, List, [], ◌∷◌, ◌++◌, length, take, drop, Bool, true, false, cond, Option, Some, None, Result, Ok, Err, refl, sym, ap, ◌∙◌, append_assoc, arith}
use Rattle.std.specs.Prelude.{option_and_then}
use Rattle.std.specs.List.{flat_map, AllByRecursion}
use Rattle.std.specs.Str.{bytes_eq}
use Rattle.std.proofs.lemmas.List.{take_at, drop_at, drop-drop, take-append-drop}
use Rattle.std.proofs.lemmas.Slice.Eq.{bytes_eq-Decides}
use Rattle.vp_isa.specs.declared.instr.Instr.{Instr}
use Rattle.vp_isa.specs.Decoding.{own_bytes, decoded}
use Rattle.vp_isa.specs.Encoding.{IsInstr, encoded}
use Rattle.vp_isa.specs.Reading.{instr_of}
use Rattle.vp_image.specs.declared.image.ImageErr.{ImageErr}
use Rattle.vp_image.specs.Image.{with_instr, instrs_read}

-- what the law of instructions says of their bytes
pub record AreOneInstr : Type 0 where
  pub long : (i : Instr) → length (encoded i) ≡ 12
  pub read : (i : Instr) → IsInstr i → decoded (encoded i) ≡ Some i

-- the instructions that stand at the front of the bytes are read
pub instrs_back : AreOneInstr → (instrs : List Instr) (at : ℕ) (rest : List ℕ) → AllByRecursion IsInstr instrs → instrs_read (length instrs) at (flat_map encoded instrs ++ rest) ≡ Ok instrs
instrs_back law [] at rest h = refl
instrs_back law (i ∷ is) at rest h =
    let more : List ℕ = flat_map encoded is ++ rest in
    let parts : flat_map encoded (i ∷ is) ++ rest ≡ encoded i ++ more = append_assoc (encoded i) (flat_map encoded is) rest in
    ap (λ b. instrs_read (suc (length is)) at b) parts
    ∙ ap (λ b. with_instr at (decoded b) (instrs_read (length is) (at + 1) (drop 12 (encoded i ++ more)))) (take_at (encoded i) more 12 (law.long i))
    ∙ ap (λ b. with_instr at (decoded (encoded i)) (instrs_read (length is) (at + 1) b)) (drop_at (encoded i) more 12 (law.long i))
    ∙ ap (λ o. with_instr at o (instrs_read (length is) (at + 1) more)) (law.read i h.0)
    ∙ ap (with_instr at (Some i)) (instrs_back law is (at + 1) rest h.1)

-- Bytes that are read are those of the instructions.

own_is : (bytes : List ℕ) (o : Option Instr) (i : Instr) → option_and_then (own_bytes bytes) o ≡ Some i → encoded i ≡ bytes
own_is bytes None i h = absurd cc
own_is bytes (Some j) i h = by_test (bytes_eq (encoded j) bytes) refl h
  where
    by_test : (b : Bool) → bytes_eq (encoded j) bytes ≡ b → cond b (Some j) None ≡ Some i → encoded i ≡ bytes
    by_test true e g = let same : j ≡ i = cc in ap encoded (sym same) ∙ (bytes_eq-Decides (encoded j) bytes).0 e
    by_test false e g = absurd cc

-- the first of the instructions, and those after it
record Split (at : ℕ) (o : Option Instr) (read : Result (List Instr) ImageErr) (instrs : List Instr) : Type 0 where
  first : Instr
  more : List Instr
  found : o ≡ Some first
  others : read ≡ Ok more
  whole : instrs ≡ first ∷ more

split_of : (at : ℕ) (o : Option Instr) (read : Result (List Instr) ImageErr) (instrs : List Instr) → with_instr at o read ≡ Ok instrs → Split at o read instrs
split_of at None read instrs h = absurd cc
split_of at (Some i) (Err e) instrs h = absurd cc
split_of at (Some i) (Ok is) instrs h = record { first = i; more = is; found = refl; others = refl; whole = cc }

pub instrs_taken : (n at : ℕ) (bytes : List ℕ) (instrs : List Instr) → instrs_read n at bytes ≡ Ok instrs → (bytes ≡ flat_map encoded instrs ++ drop (12 * n) bytes) × (length instrs ≡ n)
instrs_taken zero at bytes instrs h = let none : instrs ≡ [] = cc in rw none (refl, refl)
instrs_taken (suc n) at bytes instrs h =
    let s = split_of at (decoded (take 12 bytes)) (instrs_read n (at + 1) (drop 12 bytes)) instrs h in
    let rest = instrs_taken n (at + 1) (drop 12 bytes) s.more s.others in
    let front : encoded s.first ≡ take 12 bytes = own_is (take 12 bytes) (instr_of (take 12 bytes)) s.first s.found in
    let back : drop (12 * n) (drop 12 bytes) ≡ drop (12 * suc n) bytes = drop-drop (12 * n) 12 bytes ∙ ap (λ k. drop k bytes) (omega arith) in
    let parts : bytes ≡ (encoded s.first ++ flat_map encoded s.more) ++ drop (12 * suc n) bytes =
    sym (take-append-drop 12 bytes)
    ∙ ap (λ b. b ++ drop 12 bytes) (sym front)
    ∙ ap (λ b. encoded s.first ++ b) (rest.0 ∙ ap (λ b. flat_map encoded s.more ++ b) back)
    ∙ sym (append_assoc (encoded s.first) (flat_map encoded s.more) (drop (12 * suc n) bytes)) in
    rw s.whole (parts, omega (arith, rest.1))
