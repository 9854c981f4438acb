-- Reading instructions one after the other, as a loop does.
use Rattle.std.proofs.Common.{◌≡◌, ℕ, suc, ◌-◌, ◌+◌, ◌≤◌, ◌<◌, List, [], ◌∷◌, ◌++◌, take, drop, None, Some, Result, Ok, Err, refl, sym, ap, ◌∙◌, append_assoc, arith}
use Rattle.std.proofs.lemmas.List.{append-nil}
use Rattle.vp_isa.specs.declared.instr.Instr.{Instr}
use Rattle.vp_isa.specs.Decoding.{decoded}
use Rattle.vp_image.specs.declared.image.ImageErr.{ImageErr}
use Rattle.vp_image.specs.declared.image.ImageErr.TheVariants.{Instr as BadInstr}
use Rattle.vp_image.specs.Image.{with_instr, instrs_read}

-- instructions that were read, before those that are still read
abbrev pub with_front : List Instr → Result (List Instr) ImageErr → Result (List Instr) ImageErr
with_front front (Ok instrs) = Ok (front ++ instrs)
with_front front (Err e) = Err e

step : (n at : ℕ) (bytes : List ℕ) → at < n → instrs_read (n - at) at bytes ≡ with_instr at (decoded (take 12 bytes)) (instrs_read (n - (at + 1)) (at + 1) (drop 12 bytes))
step n at bytes h =
    let e : n - at ≡ suc (n - (at + 1)) = omega arith in
    ap (λ k. instrs_read k at bytes) e

regroup : (front : List Instr) (at : ℕ) (instr : Instr) (read : Result (List Instr) ImageErr) → with_front (front ++ instr ∷ []) read ≡ with_front front (with_instr at (Some instr) read)
regroup front at instr (Ok instrs) = ap Ok (append_assoc front (instr ∷ []) instrs)
regroup front at instr (Err e) = refl

-- one more instruction is read
pub goes_on : (n at : ℕ) (front : List Instr) (instr : Instr) (bytes : List ℕ) (whole : Result (List Instr) ImageErr) → at < n → decoded (take 12 bytes) ≡ Some instr
    → with_front front (instrs_read (n - at) at bytes) ≡ whole → with_front (front ++ instr ∷ []) (instrs_read (n - (at + 1)) (at + 1) (drop 12 bytes)) ≡ whole
goes_on n at front instr bytes whole h found was =
    let left = instrs_read (n - (at + 1)) (at + 1) (drop 12 bytes) in
    regroup front at instr left
    ∙ ap (λ o. with_front front (with_instr at o left)) (sym found)
    ∙ ap (with_front front) (sym (step n at bytes h))
    ∙ was

-- bytes that are no instruction are refused
pub fails : (n at : ℕ) (front : List Instr) (bytes : List ℕ) (whole : Result (List Instr) ImageErr) → at < n → decoded (take 12 bytes) ≡ None
    → with_front front (instrs_read (n - at) at bytes) ≡ whole → Err (BadInstr at) ≡ whole
fails n at front bytes whole h none was =
    let left = instrs_read (n - (at + 1)) (at + 1) (drop 12 bytes) in
    ap (λ o. with_front front (with_instr at o left)) (sym none)
    ∙ ap (with_front front) (sym (step n at bytes h))
    ∙ was

-- all are read
pub is_done : (n at : ℕ) (front : List Instr) (bytes : List ℕ) (whole : Result (List Instr) ImageErr) → n ≤ at
    → with_front front (instrs_read (n - at) at bytes) ≡ whole → Ok front ≡ whole
is_done n at front bytes whole h was =
    let e : n - at ≡ 0 = omega arith in
    ap Ok (sym (append-nil front)) ∙ ap (λ k. with_front front (instrs_read k at bytes)) (sym e) ∙ was
