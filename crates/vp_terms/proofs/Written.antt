-- A number token is digits, two runs of digits with `/` between, or two with `.` between.
use Rattle.std.proofs.Common.{◌≡◌, ℕ, ◌^◌, Bool, true, false, ◌&&◌, ◌==◌, IsTrue, List, [], ◌∷◌, ◌++◌, length, None, Some, if◌then◌else◌, refl, sym, ap, subst, ◌∙◌, arith, append-nil}
use Rattle.std.proofs.lemmas.Bool.Decides.{nat_tests}
use Rattle.std.proofs.Math.Numerals.{one-add}
use Rattle.std.specs.Prelude.{⊤}
use Rattle.std.specs.Option.{option_and_then}
use Rattle.std.specs.Char.{is_ascii_digit}
use Rattle.std.specs.Str.{all_ascii_digits}
use Rattle.std.specs.Str.Parse.{digits_value}
use Rattle.vp_terms.specs.Number.{is_whole, front_digits, behind_digits, with_rest, is_read, number_from, number, Writes, Whole, Quotient, Decimal}
use Rattle.vp_terms.proofs.Agreeing.{both}

-- nothing follows, or a byte that is no digit
abbrev ends : List ℕ → Type 0
ends [] = ⊤
ends (c ∷ cs) = is_ascii_digit c ≡ false

front_of : (ds rest : List ℕ) → all_ascii_digits ds ≡ true → ends rest → front_digits (ds ++ rest) ≡ ds
front_of [] [] h e = refl
front_of [] (c ∷ cs) h e = rw e refl
front_of (d ∷ ds) rest h e = let s = both (is_ascii_digit d) (all_ascii_digits ds) h in rw (s.0, one-add) (ap (λ (l : List ℕ). d ∷ l) (front_of ds rest s.1 e))

behind_of : (ds rest : List ℕ) → all_ascii_digits ds ≡ true → ends rest → behind_digits (ds ++ rest) ≡ rest
behind_of [] [] h e = refl
behind_of [] (c ∷ cs) h e = rw e refl
behind_of (d ∷ ds) rest h e = let s = both (is_ascii_digit d) (all_ascii_digits ds) h in rw (s.0, one-add) (behind_of ds rest s.1 e)

from_parts : (ds rest : List ℕ) → IsTrue (is_whole ds) → ends rest → number (ds ++ rest) ≡ number_from ds rest
from_parts ds rest h e = let s = both _ _ h in rw (front_of ds rest s.1 e, behind_of ds rest s.1 e) refl

kept : (f : ℕ × ℕ) → IsTrue (is_read f) → (if is_read f then Some f else None) ≡ Some f
kept f h = rw h refl

pub written_is_read : (text : List ℕ) (n d : ℕ) → Writes text n d → IsTrue (is_read (n, d)) → number text ≡ Some (n, d)
written_is_read _ _ _ (Whole ds h) r =
    let e : number (ds ++ []) ≡ number ds = ap number (append-nil ds) in
    sym e ∙ from_parts ds [] h tt ∙ (rw h (kept _ r))
written_is_read _ _ _ (Quotient ds es h k) r = from_parts ds (47 ∷ es) h refl ∙ (rw (h, k) (kept _ r))
written_is_read _ _ _ (Decimal ds es h k) r = from_parts ds (46 ∷ es) h refl ∙ (rw (h, k) (kept _ r))

-- digits alone are read as the number that they write, over 1
pub digits_are_read : (ds : List ℕ) → IsTrue (is_whole ds) → number ds ≡ (if is_read (digits_value 10 ds, 1) then Some (digits_value 10 ds, 1) else None)
digits_are_read ds h =
    let e : number (ds ++ []) ≡ number ds = ap number (append-nil ds) in
    sym e ∙ from_parts ds [] h tt ∙ (rw h refl)

split_first : (c : ℕ) (cs : List ℕ) → front_digits cs ++ behind_digits cs ≡ cs → (b : Bool) → is_ascii_digit c ≡ b → front_digits (c ∷ cs) ++ behind_digits (c ∷ cs) ≡ c ∷ cs
split_first c cs h true e = rw e (simp one-add (ap (λ (l : List ℕ). c ∷ l) h))
split_first c cs h false e = rw e refl

-- a text is its first digits and what follows them
split : (text : List ℕ) → front_digits text ++ behind_digits text ≡ text
split [] = refl
split (c ∷ cs) = split_first c cs (split cs) (is_ascii_digit c) refl

kept_parts : (f g : ℕ × ℕ) → (if is_read f then Some f else None) ≡ Some g → IsTrue (is_read f) × (f ≡ g)
kept_parts f g e = cases (is_read f) refl e
  where
    cases : (b : Bool) → is_read f ≡ b → (if b then Some f else None) ≡ Some g → IsTrue (is_read f) × (f ≡ g)
    cases true h e = (h, cc)
    cases false h e = absurd (cc)

-- what a fraction that is kept was made of
abbrev Made : List ℕ → List ℕ → ℕ × ℕ → Type 0
Made ds rest f = Writes (ds ++ rest) f.0 f.1 × IsTrue (is_read f)

made_over : (ds rest : List ℕ) (f g : ℕ × ℕ) → f ≡ g → Made ds rest f → Made ds rest g
made_over ds rest f g e m = subst (Made ds rest) e m

made : (ds rest : List ℕ) (g : ℕ × ℕ) → number_from ds rest ≡ Some g → Made ds rest g
made ds rest g e = cases (is_whole ds) refl rest e
  where
    marks : (m : ℕ) (es : List ℕ) → IsTrue (is_whole ds) → (a b : Bool) → (m == 47 && is_whole es) ≡ a → (m == 46 && is_whole es) ≡ b → option_and_then (λ f. if is_read f then Some f else None) (if a then Some (digits_value 10 ds, digits_value 10 es) else (if b then Some (digits_value 10 (ds ++ es), 10 ^ length es) else None)) ≡ Some g → Made ds (m ∷ es) g
    marks m es h true b p q e =
        let s = both (m == 47) (is_whole es) p in
        let n : m ≡ 47 = grind (arith, nat_tests) in
        let k = kept_parts _ g e in
        let P : ℕ → Type 0 = λ c. Made ds (c ∷ es) g in
        subst P (sym n) (made_over ds (47 ∷ es) _ g k.1 (Quotient ds es h s.1, k.0))
    marks m es h false true p q e =
        let s = both (m == 46) (is_whole es) q in
        let n : m ≡ 46 = grind (arith, nat_tests) in
        let k = kept_parts _ g e in
        let P : ℕ → Type 0 = λ c. Made ds (c ∷ es) g in
        subst P (sym n) (made_over ds (46 ∷ es) _ g k.1 (Decimal ds es h s.1, k.0))
    marks m es h false false p q e = absurd (cc)

    whole : IsTrue (is_whole ds) → (rest : List ℕ) → option_and_then (λ f. if is_read f then Some f else None) (with_rest ds rest) ≡ Some g → Made ds rest g
    whole h [] e =
        let k = kept_parts (digits_value 10 ds, 1) g e in
        let P : List ℕ → Type 0 = λ t. Writes t (digits_value 10 ds) 1 in
        made_over ds [] _ g k.1 (subst P (sym (append-nil ds)) (Whole ds h), k.0)
    whole h (m ∷ es) e = marks m es h _ _ refl refl e

    cases : (b : Bool) → is_whole ds ≡ b → (rest : List ℕ) → option_and_then (λ f. if is_read f then Some f else None) (if b then with_rest ds rest else None) ≡ Some g → Made ds rest g
    cases true h rest e = whole h rest e
    cases false h rest e = absurd (cc)

pub read_is_written : (text : List ℕ) (n d : ℕ) → number text ≡ Some (n, d) → Writes text n d × IsTrue (is_read (n, d))
read_is_written text n d e =
    let m = made (front_digits text) (behind_digits text) (n, d) e in
    let P : List ℕ → Type 0 = λ t. Writes t n d in
    (subst P (split text) m.0, m.1)
