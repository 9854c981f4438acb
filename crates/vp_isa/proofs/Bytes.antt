-- The bytes of an instruction are read back.
use Rattle.std.proofs.Common.{◌≡◌, ◌<◌, ◌^◌, ℕ, true, false, cond, Some, None, refl, sym, ap, ◌∙◌, arith}
use Rattle.std.specs.Prelude.{ℤ, int_lt, FitsSigned, option_and_then}
use Rattle.std.specs.Option.{option_map}
use Rattle.std.specs.Int.{w16, w32, w64, from_be_bytes, to_be_bytes, cast_signed, cast_unsigned}
use Rattle.std.proofs.lemmas.Nat.{from_be_bytes-to_be_bytes_2, from_be_bytes-to_be_bytes_4, from_be_bytes-to_be_bytes_8}
use Rattle.std.proofs.lemmas.Int.{ints, to_z-of_z}
use Rattle.std.proofs.lemmas.Slice.Eq.{bytes_eq-Decides}
use Rattle.vp_words.specs.Number.{IsWord, minus_inf}
use Rattle.vp_words.specs.declared.record.Kind.TheVariants as kind
use Rattle.vp_isa.specs.declared.instr.Mon.TheVariants as mon
use Rattle.vp_isa.specs.declared.instr.Instr.{Instr}
use Rattle.vp_isa.specs.declared.instr.Instr.TheVariants.{Const, Copy, Neg, Min, Max, AddD, AddU, MulD, MulU, Jmp, Jge, Jgt, Jeq, Take, Act, Halt}
use Rattle.vp_isa.specs.Decoding.{own_bytes, decoded}
use Rattle.vp_isa.specs.Encoding.{IsInstr, encoded}
use Rattle.vp_isa.specs.Reading.{word_of, instr_of}

-- two numbers of 2 bytes and then three, four are read back
two : (n : ℕ) → n < 2 ^ 16 → from_be_bytes w16 (to_be_bytes w16 n) ≡ n
two n h = from_be_bytes-to_be_bytes_2 n h

four : (n : ℕ) → n < 2 ^ 32 → from_be_bytes w32 (to_be_bytes w32 n) ≡ n
four n h = from_be_bytes-to_be_bytes_4 n h

-- a word is read back
word_back : (w : ℤ) → IsWord w → word_of (cast_signed w64 (from_be_bytes w64 (to_be_bytes w64 (cast_unsigned w64 w)))) ≡ Some w
word_back w h =
    let fits : FitsSigned w64 w = omega (arith, ints, h.0, h.1) in
    let same : cast_signed w64 (from_be_bytes w64 (to_be_bytes w64 (cast_unsigned w64 w))) ≡ w =
    ap (cast_signed w64) (from_be_bytes-to_be_bytes_8 (cast_unsigned w64 w) (below fits)) ∙ to_z-of_z w64 w fits in
    let high : int_lt w minus_inf ≡ false = grind (arith, ints) in
    ap word_of same ∙ ap (λ b. cond b None (Some w)) high
  where
    below : FitsSigned w64 w → cast_unsigned w64 w < 2 ^ 64
    below f = omega (arith, ints)

pub read_back : (i : Instr) → IsInstr i → instr_of (encoded i) ≡ Some i
read_back (Const d w) h = rw (two d h.0) (ap (option_map (λ x. Const d x)) (word_back w h.1))
read_back (Copy d a) h = simp (two d h.0, two a h.1)
read_back (Neg d a) h = simp (two d h.0, two a h.1)
read_back (Min d a b) h = simp (two d h.0, two a h.1, two b h.2)
read_back (Max d a b) h = simp (two d h.0, two a h.1, two b h.2)
read_back (AddD d a b) h = simp (two d h.0, two a h.1, two b h.2)
read_back (AddU d a b) h = simp (two d h.0, two a h.1, two b h.2)
read_back (MulD d a b) h = simp (two d h.0, two a h.1, two b h.2)
read_back (MulU d a b) h = simp (two d h.0, two a h.1, two b h.2)
read_back (Jmp t) h = simp (four t h)
read_back (Jge a b t) h = simp (two a h.0, two b h.1, four t h.2)
read_back (Jgt a b t) h = simp (two a h.0, two b h.1, four t h.2)
read_back (Jeq a b t) h = simp (two a h.0, two b h.1, four t h.2)
read_back (Take kind.Init d) h = simp (two d h)
read_back (Take kind.Choice d) h = simp (two d h)
read_back (Take kind.Sense d) h = simp (two d h)
read_back (Act true d) h = simp (two d h)
read_back (Act false d) h = simp (two d h)
read_back (Halt (mon.Init k true)) h = simp (four k h)
read_back (Halt (mon.Init k false)) h = simp (four k h)
read_back (Halt (mon.Plant k true)) h = simp (four k h)
read_back (Halt (mon.Plant k false)) h = simp (four k h)
read_back (Halt mon.Fallback) h = refl

-- the bytes of an instruction are no other's
pub same_from_bytes : (i j : Instr) → IsInstr i → IsInstr j → encoded i ≡ encoded j → i ≡ j
same_from_bytes i j f g e =
    let both : Some i ≡ Some j = sym (read_back i f) ∙ ap instr_of e ∙ read_back j g in
    cc

-- the bytes of an instruction are decoded as it
pub decoded_back : (i : Instr) → IsInstr i → decoded (encoded i) ≡ Some i
decoded_back i h =
    ap (option_and_then (own_bytes (encoded i))) (read_back i h)
    ∙ ap (λ b. cond b (Some i) None) ((bytes_eq-Decides (encoded i) (encoded i)).1 refl)
