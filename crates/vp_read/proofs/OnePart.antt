-- A part of a text is read in one way only.
use Rattle.std.proofs.Common.{ℕ, ◌≡◌, ◌≢◌, ◌⊎◌, inl, inr, Bool, true, false, List, map, Option, None, Some, Result, Ok, Err, refl, ap, sym, ◌∙◌, subst}
use Rattle.vp_terms.specs.declared.package.Names.{Names}
use Rattle.vp_terms.specs.WellFormed.{places_of}
use Rattle.vp_lex.specs.declared.token.Token.{Token}
use Rattle.vp_grammar.specs.declared.terminal.Span.{Span}
use Rattle.vp_grammar.specs.declared.terminal.Terminal.{Terminal}
use Rattle.vp_grammar.specs.Strays.{first_stray}
use Rattle.vp_read.specs.declared.fault.ReadErr.{ReadErr}
use Rattle.vp_read.specs.declared.fault.ReadErr.TheVariants as fault
use Rattle.vp_read.specs.Naming.{known}
use Rattle.vp_read.specs.Pieces.{is_deep}
use Rattle.vp_read.specs.Reading.{IsPart, IsReadOnce, RefusesPart, certificates}
use Rattle.vp_read.specs.Spelling.{AreTerminals, IsFirstBad, span_text}
use Rattle.vp_read.proofs.OneReading.{faults_alike, no_fault}
use Rattle.vp_read.proofs.OneTerminal.{TextsTell, bad_stands_not, one_bad, one_terminals}

module _ {T : Type 0} (Form : List Terminal → T → Type 0) (text : List ℕ) (tokens : List Token) (names : Names) (texts : TextsTell) (one : (ts : List Terminal) (t u : T) → Form ts t → Form ts u → t ≡ u) where
  abbrev ours : List Terminal → List Terminal
  ours ts = map (known text names) ts

  -- what the variables of a part say of it
  abbrev verdict : Option Span → Result (Unit {0}) ReadErr
  verdict None = Ok tt
  verdict (Some s) = Err (fault.Undeclared (span_text text s) 0)

  -- what comes of the terminals of a part: depth, no form, or what its variables say
  abbrev Formed : List Terminal → Result (Unit {0}) ReadErr → Type 0
  Formed ts r = (((t : T) → Form (ours ts) t → ⊥) × (r ≡ Err (fault.Section 0))) ⊎ (((t : T) × Form (ours ts) t) × (r ≡ verdict (first_stray certificates (places_of names) 0 (ours ts))))

  abbrev Stands : List Terminal → Result (Unit {0}) ReadErr → Type 0
  Stands ts r = ((is_deep ts ≡ true) × (r ≡ Err (fault.Deep 0))) ⊎ ((is_deep ts ≡ false) × Formed ts r)

  -- what comes of its tokens
  abbrev Comes : Result (Unit {0}) ReadErr → Type 0
  Comes r = ((at : ℕ) × IsFirstBad text tokens at × (r ≡ Err (fault.Number at))) ⊎ ((ts : List Terminal) × AreTerminals text tokens ts × Stands ts r)

  formed_once : (ts : List Terminal) (r s : Result (Unit {0}) ReadErr) → Formed ts r → Formed ts s → r ≡ s
  formed_once ts r s (inl a) (inl b) = a.1 ∙ sym b.1
  formed_once ts r s (inl a) (inr b) = absurd (a.0 b.0.0 b.0.1)
  formed_once ts r s (inr a) (inl b) = absurd (b.0 a.0.0 a.0.1)
  formed_once ts r s (inr a) (inr b) = a.1 ∙ sym b.1

  not_both : (b : Bool) → b ≡ true → b ≡ false → ⊥
  not_both b e f = absurd (cc)

  stands_once : (ts : List Terminal) (r s : Result (Unit {0}) ReadErr) → Stands ts r → Stands ts s → r ≡ s
  stands_once ts r s (inl a) (inl b) = a.1 ∙ sym b.1
  stands_once ts r s (inl a) (inr b) = absurd (not_both (is_deep ts) a.0 b.0)
  stands_once ts r s (inr a) (inl b) = absurd (not_both (is_deep ts) b.0 a.0)
  stands_once ts r s (inr a) (inr b) = formed_once ts r s a.1 b.1

  comes_once : (r s : Result (Unit {0}) ReadErr) → Comes r → Comes s → r ≡ s
  comes_once r s (inl a) (inl b) = a.2 ∙ ap (λ (n : ℕ). Err (fault.Number n)) (one_bad text tokens a.0 b.0 a.1 b.1) ∙ sym b.2
  comes_once r s (inl a) (inr b) = absurd (bad_stands_not text tokens b.0 a.0 a.1 b.1)
  comes_once r s (inr a) (inl b) = absurd (bad_stands_not text tokens a.0 b.0 b.1 a.1)
  comes_once r s (inr a) (inr b) = stands_once b.0 r s (subst (λ (ts : List Terminal). Stands ts r) (one_terminals texts text tokens a.0 b.0 a.1 b.1) a.2) b.2

  part_comes : (t : T) → IsPart Form text tokens names t → Comes (Ok tt)
  part_comes t h = inr (h.terminals, h.stand, inr (h.shallow, inr ((t, h.form), rw h.declared refl)))

  refusal_comes : (e : ReadErr) → RefusesPart Form text tokens names e → e ≢ fault.Memory → Comes (Err e)
  refusal_comes (fault.Number at) h m = inl (at, h, refl)
  refusal_comes (fault.Deep k) h m = inr (h.1.0, h.1.1, inl (h.1.2, ap (λ (n : ℕ). Err (fault.Deep n)) h.0))
  refusal_comes (fault.Section k) h m = inr (h.1.0, h.1.1, inr (h.1.2, inl (h.1.3, ap (λ (n : ℕ). Err (fault.Section n)) h.0)))
  refusal_comes (fault.Undeclared name k) h m = inr (h.1.0, h.1.1, inr (h.1.2, inr (h.1.3, rw h.1.4.1 (told name (span_text text h.1.4.0) k h.1.4.2 h.0))))
    where
      told : (a b : List ℕ) (n : ℕ) → a ≡ b → n ≡ 0 → ◌≡◌ {A = Result (Unit {0}) ReadErr} (Err (fault.Undeclared a n)) (Err (fault.Undeclared b 0))
      told a b n p q = ap (λ (z : List ℕ). Err (fault.Undeclared z n)) p ∙ ap (λ (j : ℕ). Err (fault.Undeclared b j)) q
  refusal_comes fault.Memory h m = absurd (m refl)
  refusal_comes (fault.Lex at) h m = absurd h
  refusal_comes (fault.Names n) h m = absurd h
  refusal_comes (fault.Twice name) h m = absurd h
  refusal_comes (fault.Entries n k) h m = absurd h

  pub read_once : IsReadOnce Form text tokens names
  read_once = record {
    refused = λ e f a b m n. faults_alike e f (Err e) (Err f) (comes_once (Err e) (Err f) (refusal_comes e a m) (refusal_comes f b n)) refl refl;
    apart = λ t e a b m. no_fault e (Ok tt) (Err e) (comes_once (Ok tt) (Err e) (part_comes t a) (refusal_comes e b m)) refl refl;
    alike = λ t u a b. one (ours b.terminals) t u (subst (λ (ts : List Terminal). Form (ours ts) t) (one_terminals texts text tokens a.terminals b.terminals a.stand b.stand) a.form) b.form;
  }
