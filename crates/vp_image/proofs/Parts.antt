-- The code that is read, by what its check says.
use Rattle.std.proofs.Common.{◌≡◌, ℕ, List, drop, Option, Ok, sym, ap, ◌∙◌}
use Rattle.vp_isa.specs.declared.instr.Instr.{Instr}
use Rattle.vp_isa.specs.declared.code.Code.{Code}
use Rattle.vp_isa.specs.declared.code.CheckErr.{CheckErr}
use Rattle.vp_isa.specs.Valid.{refusal}
use Rattle.vp_image.specs.Image.{count_of, instrs_read, code_of, code_read, package_digest, unless_refused}

-- the bytes after the header, read as so many instructions
pub record AreRead (bytes : List ℕ) (count : ℕ) (rest : List ℕ) (instrs : List Instr) : Type 0 where
  pub counted : count ≡ count_of bytes
  pub follows : rest ≡ drop 19 bytes
  pub read : Ok instrs ≡ instrs_read count 0 rest

pub code_checked : (bytes : List ℕ) (count : ℕ) (rest : List ℕ) (code : Code) (instrs : List Instr) (o : Option CheckErr) → AreRead bytes count rest instrs → code ≡ code_of bytes instrs → refusal code ≡ o
    → unless_refused code (package_digest bytes) o ≡ code_read bytes (instrs_read (count_of bytes) 0 (drop 19 bytes))
code_checked bytes count rest code instrs o are same h =
    ap (unless_refused code (package_digest bytes)) (sym h)
    ∙ ap (λ k. unless_refused k (package_digest bytes) (refusal k)) same
    ∙ ap (code_read bytes) (are.read ∙ ap (λ n. instrs_read n 0 rest) are.counted ∙ ap (instrs_read (count_of bytes) 0) are.follows)
