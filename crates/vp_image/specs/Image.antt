-- The bytes of an image, and what reading bytes as an image gives.
use Rattle.std.specs.Prelude.{ℕ, zero, suc, ◌+◌, ◌-◌, ◌*◌, ◌≡◌, ◌==◌, ◌&&◌, ◌||◌, ◌++◌, nat_lt, nat_le, not, Bool, false, List, [], ◌∷◌, length, take, drop, slice_index, Option, None, Some, Result, Ok, Err, if◌then◌else◌, codes}
use Rattle.std.specs.List.{flat_map, All}
use Rattle.std.specs.Int.{w16, w32, to_be_bytes}
use Rattle.std.specs.Str.{bytes_eq}
use Rattle.sha2.specs.Sha256.{sha256}
use Rattle.vp_isa.specs.declared.instr.Instr.{Instr}
use Rattle.vp_isa.specs.declared.code.Code.{Code}
use Rattle.vp_isa.specs.declared.code.CheckErr.{CheckErr}
use Rattle.vp_isa.specs.Decoding.{decoded}
use Rattle.vp_isa.specs.Encoding.{IsInstr, encoded}
use Rattle.vp_isa.specs.Reading.{long_at, short_at}
use Rattle.vp_isa.specs.Valid.{refusal}
use Rattle.vp_image.specs.declared.image.ImageErr.{ImageErr}
use Rattle.vp_image.specs.declared.image.ImageErr.TheVariants.{Magic, Version, Length, Digest, Instr as BadInstr, Check, Memory}

-- the bytes before the last digest: the magic, the version, the counts, the number of cells, the head,
-- the number of instructions, the instructions, the digest of the package
abbrev pub body : Code → List ℕ → List ℕ
body code digest =
    codes "VPHY" ++ to_be_bytes w16 1
    ++ (code.counts.params ∷ code.counts.states ∷ code.counts.controls ∷ [])
    ++ to_be_bytes w16 code.cells ++ to_be_bytes w32 code.head ++ to_be_bytes w32 (length code.instrs)
    ++ flat_map encoded code.instrs ++ digest

-- the bytes of an image: its last 32 are the digest of all before
abbrev pub image : Code → List ℕ → List ℕ
image code digest = body code digest ++ sha256 (body code digest)

-- the number of instructions that the header gives
abbrev pub count_of : List ℕ → ℕ
count_of bytes = long_at 15 bytes

-- the length that an image of so many instructions has
abbrev pub image_length : ℕ → ℕ
image_length count = 19 + 12 * count + 64

-- the version that the bytes give, where it is there, is another than 1
abbrev pub other_version : List ℕ → Bool
other_version bytes = nat_le 6 (length bytes) && not (short_at 4 bytes == 1)

abbrev pub other_length : List ℕ → Bool
other_length bytes = nat_lt (length bytes) 19 || not (length bytes == image_length (count_of bytes))

-- all bytes but the last digest
abbrev pub sealed : List ℕ → List ℕ
sealed bytes = take (length bytes - 32) bytes

abbrev pub other_digest : List ℕ → Bool
other_digest bytes = not (bytes_eq (drop (length bytes - 32) bytes) (sha256 (sealed bytes)))

-- the digest of the package
abbrev pub package_digest : List ℕ → List ℕ
package_digest bytes = take 32 (drop (length bytes - 64) bytes)

-- an instruction before those that follow it; the first that is none is refused with its number
abbrev pub with_instr : ℕ → Option Instr → Result (List Instr) ImageErr → Result (List Instr) ImageErr
with_instr at None instrs = Err (BadInstr at)
with_instr at (Some instr) (Err e) = Err e
with_instr at (Some instr) (Ok instrs) = Ok (instr ∷ instrs)

-- so many instructions of 12 bytes, the first of which has the number at
abbrev pub instrs_read : ℕ → ℕ → List ℕ → Result (List Instr) ImageErr
instrs_read zero at bytes = Ok []
instrs_read (suc n) at bytes = with_instr at (decoded (take 12 bytes)) (instrs_read n (at + 1) (drop 12 bytes))

-- the code that a header and instructions give
abbrev pub code_of : List ℕ → List Instr → Code
code_of bytes instrs = record {
  counts = record { params = slice_index bytes 6; states = slice_index bytes 7; controls = slice_index bytes 8 };
  cells = short_at 9 bytes;
  head = long_at 11 bytes;
  instrs = instrs;
}

abbrev pub unless_refused : Code → List ℕ → Option CheckErr → Result (Code × List ℕ) ImageErr
unless_refused code digest None = Ok (code, digest)
unless_refused code digest (Some e) = Err (Check e)

abbrev pub code_read : List ℕ → Result (List Instr) ImageErr → Result (Code × List ℕ) ImageErr
code_read bytes (Err e) = Err e
code_read bytes (Ok instrs) = let code = code_of bytes instrs in unless_refused code (package_digest bytes) (refusal code)

-- the header and the last digest are those of an image: what follows is read
pub record IsFramed (bytes : List ℕ) : Type 0 where
  pub magic : take 4 bytes ≡ codes "VPHY"
  pub version : other_version bytes ≡ false
  pub long : other_length bytes ≡ false
  pub digest : other_digest bytes ≡ false

-- the checked code and the package digest of an image, or the first refusal
unfoldable pub image_read : List ℕ → Result (Code × List ℕ) ImageErr
image_read bytes =
    if not (bytes_eq (take 4 bytes) (codes "VPHY")) then Err Magic
    else if other_version bytes then Err (Version (short_at 4 bytes))
    else if other_length bytes then Err Length
    else if other_digest bytes then Err Digest
    else code_read bytes (instrs_read (count_of bytes) 0 (drop 19 bytes))

-- the cells, the target and the word of each instruction have a place in its 12 bytes
abbrev pub AreInstrs : List Instr → Type 0
AreInstrs instrs = All IsInstr instrs

-- what an image holds: code that no rule refuses, of such instructions, and a digest of 32 bytes
pub record IsContent (code : Code) (digest : List ℕ) : Type 0 where
  pub instrs : AreInstrs code.instrs
  pub long : length digest ≡ 32
  pub accepted : refusal code ≡ None

-- what a call answered is what reading gives, unless memory ran out
abbrev pub Gives : {A : Type 0} → Result A ImageErr → Result A ImageErr → Type 0
Gives (Err Memory) read = Unit {0}
Gives result read = result ≡ read
