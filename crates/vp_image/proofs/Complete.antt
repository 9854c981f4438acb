-- The image of checked code is read as that code.
use Rattle.std.proofs.Common.{◌≡◌, ◌+◌, ◌-◌, ◌*◌, ◌<◌, ◌^◌, ℕ, suc, not, List, [], ◌∷◌, ◌++◌, length, take, drop, Bool, true, false, cond, Option, Some, None, Result, Ok, refl, sym, ap, ◌∙◌, append_assoc, arith}
use Rattle.std.specs.List.{flat_map, AllByRecursion}
use Rattle.std.proofs.lemmas.Bool.Decides.{nat_tests}
use Rattle.std.proofs.lemmas.Nat.{from_be_bytes-to_be_bytes_2, from_be_bytes-to_be_bytes_4}
use Rattle.std.proofs.lemmas.List.{take_at, drop_at, length-append}
use Rattle.sha2.specs.Sha256.{sha256}
use Rattle.sha2.proofs.Facts256.{length-sha256}
use Rattle.vp_isa.specs.declared.instr.Instr.{Instr}
use Rattle.vp_isa.specs.declared.code.Code.{Code}
use Rattle.vp_isa.specs.declared.code.CheckErr.{CheckErr}
use Rattle.vp_isa.specs.declared.code.CheckErr.TheVariants.{Size}
use Rattle.vp_isa.specs.Encoding.{IsInstr, encoded}
use Rattle.vp_isa.specs.Reading.{long_at}
use Rattle.vp_isa.specs.Valid.{size_fits, refusal}
use Rattle.vp_image.specs.declared.image.ImageErr.{ImageErr}
use Rattle.vp_image.specs.Image.{body, image, count_of, image_length, package_digest, instrs_read, code_of, unless_refused, code_read, image_read, AreInstrs, IsContent}
use Rattle.vp_image.proofs.Instrs.{AreOneInstr, instrs_back}
use Rattle.vp_image.proofs.Sound.{header}
use Rattle.vp_image.proofs.Passing.{Passed, passed_reads}

-- the numbers of accepted code have a place in the header
record Ranges (code : Code) : Type 0 where
  cells : code.cells < 2 ^ 16
  head : code.head < 2 ^ 32
  count : length code.instrs < 2 ^ 32

fits_size : (b : Bool) (x : CheckErr) (o : Option CheckErr) → cond (not b) (Some x) o ≡ None → b ≡ true
fits_size true x o h = refl
fits_size false x o h = absurd cc

ranges_from : (code : Code) → refusal code ≡ None → Ranges code
ranges_from code h = by_size (fits_size (size_fits code) Size _ h)
  where
    by_size : size_fits code ≡ true → Ranges code
    by_size e = record { cells = grind (arith, nat_tests); head = grind (arith, nat_tests); count = grind (arith, nat_tests) }

instrs_length : AreOneInstr → (instrs : List Instr) → length (flat_map encoded instrs) ≡ 12 * length instrs
instrs_length law [] = refl
instrs_length law (i ∷ is) = omega (arith, length-append (encoded i) (flat_map encoded is), law.long i, instrs_length law is)

each_is : (instrs : List Instr) → AreInstrs instrs → AllByRecursion IsInstr instrs
each_is [] h = tt
each_is (i ∷ is) h = (h 0 i (omega arith), each_is is (λ k d l. h (suc k) d (omega (arith, l))))

-- an image by its parts
split : (code : Code) (digest : List ℕ) → image code digest ≡ header code ++ (flat_map encoded code.instrs ++ (digest ++ sha256 (body code digest)))
split code digest = ap (λ b. header code ++ b) (append_assoc (flat_map encoded code.instrs) digest (sha256 (body code digest)))

body_length : AreOneInstr → (code : Code) (digest : List ℕ) → length digest ≡ 32 → length (body code digest) ≡ 19 + 12 * length code.instrs + 32
body_length law code digest h = omega (arith, h, instrs_length law code.instrs, length-append (flat_map encoded code.instrs) digest)

image_size : AreOneInstr → (code : Code) (digest : List ℕ) → length digest ≡ 32 → length (image code digest) ≡ image_length (length code.instrs)
image_size law code digest h =
    omega (arith, body_length law code digest h, length-append (body code digest) (sha256 (body code digest)), length-sha256 (body code digest))

count_back : (code : Code) (digest : List ℕ) → Ranges code → count_of (image code digest) ≡ length code.instrs
count_back code digest r = from_be_bytes-to_be_bytes_4 (length code.instrs) r.count

digest_back : AreOneInstr → (code : Code) (digest : List ℕ) → length digest ≡ 32 → package_digest (image code digest) ≡ digest
digest_back law code digest h =
    let bytes : List ℕ = image code digest in
    let front : List ℕ = header code ++ flat_map encoded code.instrs in
    let last : List ℕ = sha256 (body code digest) in
    let place : length front ≡ length bytes - 64 =
    omega (arith, image_size law code digest h, instrs_length law code.instrs) in
    ap (λ b. take 32 (drop (length bytes - 64) b)) (split code digest)
    ∙ ap (take 32) (drop_at front (digest ++ last) (length bytes - 64) place)
    ∙ take_at digest last 32 h

code_back : (code : Code) (digest : List ℕ) → Ranges code → code_of (image code digest) code.instrs ≡ code
code_back code digest r =
    ap (λ cells. record { counts = code.counts; cells = cells; head = long_at 11 (image code digest); instrs = code.instrs }) (from_be_bytes-to_be_bytes_2 code.cells r.cells)
    ∙ ap (λ head. record { counts = code.counts; cells = code.cells; head = head; instrs = code.instrs }) (from_be_bytes-to_be_bytes_4 code.head r.head)

instrs_read_back : AreOneInstr → (code : Code) (digest : List ℕ) → AreInstrs code.instrs → Ranges code → instrs_read (count_of (image code digest)) 0 (drop 19 (image code digest)) ≡ Ok code.instrs
instrs_read_back law code digest are r =
    ap (λ n. instrs_read n 0 (drop 19 (image code digest))) (count_back code digest r)
    ∙ ap (λ b. instrs_read (length code.instrs) 0 (drop 19 b)) (split code digest)
    ∙ instrs_back law code.instrs 0 (digest ++ sha256 (body code digest)) (each_is code.instrs are)

passed : AreOneInstr → (code : Code) (digest : List ℕ) → length digest ≡ 32 → Ranges code → Passed (image code digest)
passed law code digest h r =
    let bytes : List ℕ = image code digest in
    let front : List ℕ = body code digest in
    let place : length front ≡ length bytes - 32 = omega (arith, body_length law code digest h, image_size law code digest h) in
    record {
      magic = refl;
      version = refl;
      long = image_size law code digest h ∙ ap image_length (sym (count_back code digest r));
      digest = drop_at front (sha256 front) (length bytes - 32) place ∙ ap sha256 (sym (take_at front (sha256 front) (length bytes - 32) place));
    }

pub image_back : AreOneInstr → (code : Code) (digest : List ℕ) → IsContent code digest → image_read (image code digest) ≡ Ok (code, digest)
image_back law code digest held =
    let bytes : List ℕ = image code digest in
    let r = ranges_from code held.accepted in
    passed_reads bytes (passed law code digest held.long r)
    ∙ ap (code_read bytes) (instrs_read_back law code digest held.instrs r)
    ∙ ap (λ k. unless_refused k (package_digest bytes) (refusal k)) (code_back code digest r)
    ∙ ap (λ d. unless_refused code d (refusal code)) (digest_back law code digest held.long)
    ∙ ap (unless_refused code digest) held.accepted

-- what reading gave is one code and digest
same_read : (x y : Code × List ℕ) (read : Result (Code × List ℕ) ImageErr) → read ≡ Ok x → read ≡ Ok y → x ≡ y
same_read x y read f g = cc

-- where each image is read back, no other code has that image
pub same_from_image : ((code : Code) (digest : List ℕ) → IsContent code digest → image_read (image code digest) ≡ Ok (code, digest))
    → (code other : Code) (digest other_digest : List ℕ) → IsContent code digest → IsContent other other_digest → image code digest ≡ image other other_digest → (code ≡ other) × (digest ≡ other_digest)
same_from_image back code other digest other_digest held other_held e =
    let same : (code, digest) ≡ (other, other_digest) =
    same_read (code, digest) (other, other_digest) (image_read (image code digest)) (back code digest held) (ap image_read e ∙ back other other_digest other_held) in
    (ap (λ (x : Code × List ℕ). x.0) same, ap (λ (x : Code × List ℕ). x.1) same)
