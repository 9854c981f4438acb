-- What the tests of the header and of the last digest say.
use Rattle.std.proofs.Common.{◌≡◌, ◌-◌, ◌≤◌, ℕ, nat_lt, nat_le, ◌==◌, not, ◌&&◌, ◌||◌, List, length, take, drop, Bool, true, false, cond, Result, Ok, Err, refl, ap, ◌∙◌, arith}
use Rattle.std.specs.Prelude.{codes}
use Rattle.std.specs.Str.{bytes_eq}
use Rattle.std.proofs.lemmas.Bool.{cond-false}
use Rattle.std.proofs.lemmas.Bool.Decides.{nat_tests}
use Rattle.std.proofs.lemmas.Slice.Eq.{bytes_eq-Decides}
use Rattle.sha2.specs.Sha256.{sha256}
use Rattle.vp_isa.specs.declared.code.Code.{Code}
use Rattle.vp_isa.specs.Reading.{short_at}
use Rattle.vp_image.specs.declared.image.ImageErr.{ImageErr}
use Rattle.vp_image.specs.declared.image.ImageErr.TheVariants.{Magic, Version, Length, Digest}
use Rattle.vp_image.specs.Image.{count_of, image_length, other_version, other_length, other_digest, sealed, instrs_read, code_read, image_read}

-- bytes that pass the tests
pub record Passed (bytes : List ℕ) : Type 0 where
  pub magic : take 4 bytes ≡ codes "VPHY"
  pub version : short_at 4 bytes ≡ 1
  pub long : length bytes ≡ image_length (count_of bytes)
  pub digest : drop (length bytes - 32) bytes ≡ sha256 (sealed bytes)

version_from : (len s : ℕ) → (nat_le 6 len && not (s == 1)) ≡ false → 6 ≤ len → s ≡ 1
version_from len s h g = grind (arith, nat_tests)

version_to : (len s : ℕ) → s ≡ 1 → (nat_le 6 len && not (s == 1)) ≡ false
version_to len s h = grind (arith, nat_tests)

length_from : (len want : ℕ) → (nat_lt len 19 || not (len == want)) ≡ false → len ≡ want
length_from len want h = grind (arith, nat_tests)

length_to : (len want : ℕ) → 19 ≤ len → len ≡ want → (nat_lt len 19 || not (len == want)) ≡ false
length_to len want g h = grind (arith, nat_tests)

-- a test that did not refuse
passes : {A : Type 0} (b : Bool) (e : ImageErr) (read : Result A ImageErr) (x : A) → cond b (Err e) read ≡ Ok x → (b ≡ false) × (read ≡ Ok x)
passes true e read x h = absurd cc
passes false e read x h = (refl, h)

not_false : (b : Bool) → not b ≡ false → b ≡ true
not_false true h = refl
not_false false h = absurd cc

-- bytes that are read pass, and their code is read
pub reads_passed : (bytes : List ℕ) (x : Code × List ℕ) → image_read bytes ≡ Ok x → Passed bytes × (code_read bytes (instrs_read (count_of bytes) 0 (drop 19 bytes)) ≡ Ok x)
unfolding image_read
reads_passed bytes x h =
    let magic = passes (not (bytes_eq (take 4 bytes) (codes "VPHY"))) Magic _ x h in
    let version = passes (other_version bytes) (Version (short_at 4 bytes)) _ x magic.1 in
    let size = passes (other_length bytes) Length _ x version.1 in
    let digest = passes (other_digest bytes) Digest _ x size.1 in
    let long : length bytes ≡ image_length (count_of bytes) = length_from (length bytes) (image_length (count_of bytes)) size.0 in (
      record {
        magic = (bytes_eq-Decides (take 4 bytes) (codes "VPHY")).0 (not_false _ magic.0);
        version = version_from (length bytes) (short_at 4 bytes) version.0 (omega (arith, long));
        long = long;
        digest = (bytes_eq-Decides (drop (length bytes - 32) bytes) (sha256 (sealed bytes))).0 (not_false _ digest.0);
      },
      digest.1,
    )

-- the code of bytes that pass is read
pub passed_reads : (bytes : List ℕ) → Passed bytes → image_read bytes ≡ code_read bytes (instrs_read (count_of bytes) 0 (drop 19 bytes))
unfolding image_read
passed_reads bytes p =
    cond-false _ _ _ (ap not ((bytes_eq-Decides (take 4 bytes) (codes "VPHY")).1 p.magic))
    ∙ cond-false _ _ _ (version_to (length bytes) (short_at 4 bytes) p.version)
    ∙ cond-false _ _ _ (length_to (length bytes) (image_length (count_of bytes)) (omega (arith, p.long)) p.long)
    ∙ cond-false _ _ _ (ap not ((bytes_eq-Decides (drop (length bytes - 32) bytes) (sha256 (sealed bytes))).1 p.digest))
