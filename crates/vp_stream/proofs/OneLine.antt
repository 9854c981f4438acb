-- The line of a reply has one LF, at its end, so the lines of replies are told apart.
use Rattle.std.proofs.Common.{◌≡◌, ℕ, ◌-◌, ◌<◌, ◌≤◌, ◌^◌, ◌==◌, not, Bool, true, false, ℤ, List, [], ◌∷◌, ◌++◌, All, codes, length, take, drop, refl, ap, sym, ◌∙◌, append_assoc, arith, length-append}
use Rattle.std.specs.List.{flat_map, list_all, slice_split}
use Rattle.std.specs.Fmt.{decimal}
use Rattle.std.proofs.lemmas.Bool.{ne_eqb}
use Rattle.std.proofs.lemmas.List.{take_at}
use Rattle.std.proofs.lemmas.List.Elements.{All-nil, All-cons, All-head, All-tail, All-append, All-weaker}
use Rattle.std.proofs.lemmas.List.Splits.{slice_split_at}
use Rattle.vp_words.specs.declared.record.Reply.{Reply}
use Rattle.vp_words.specs.declared.record.Reply.TheVariants as reply
use Rattle.vp_words.specs.declared.record.Why.{Why}
use Rattle.vp_words.specs.declared.record.Why.TheVariants as why
use Rattle.vp_words.specs.Number.{IsWord}
use Rattle.vp_words.specs.Text.{IsVisible, TellsWords, word_text}
use Rattle.vp_stream.specs.Printing.{HasNumber, IsOneLine, IsReply, reply_line, source_text, spaced_word, truth_text, violation_line}
use Rattle.vp_stream.proofs.Telling.{number_visible, parts, reply_told}

abbrev IsNoLf : ℕ → Type 0
IsNoLf b = (b == 10) ≡ false

visible_free : (xs : List ℕ) → All IsVisible xs → All IsNoLf xs
visible_free xs all = All-weaker IsVisible IsNoLf (λ b v. ne_eqb b 10 (λ e. omega (arith, v.0, e))) xs all

free_cons : (b : ℕ) (bs : List ℕ) (t : Bool) → (b == 10) ≡ t → (list_all (λ x. not (x == 10)) bs ≡ true → All IsNoLf bs) → list_all (λ x. not (x == 10)) (b ∷ bs) ≡ true → All IsNoLf (b ∷ bs)
free_cons b bs true e rest h = absurd (cc)
free_cons b bs false e rest h = All-cons IsNoLf b bs e (rest (rw e at h))

-- a text that a test finds free of LFs
free : (xs : List ℕ) → list_all (λ b. not (b == 10)) xs ≡ true → All IsNoLf xs
free [] h = All-nil IsNoLf
free (b ∷ bs) h = free_cons b bs (b == 10) refl (free bs) h

-- a line, by what stands before its LF
abbrev EndsLine : List ℕ → Type 0
EndsLine text = (front : List ℕ) × All IsNoLf front × (text ≡ front ++ 10 ∷ [])

line_of : (front : List ℕ) → All IsNoLf front → EndsLine (front ++ 10 ∷ [])
line_of front all = (front, all, refl)

is_one_line : (text : List ℕ) → EndsLine text → IsOneLine text
is_one_line text line =
    let front = line.0 in
    let taken : take (length text - 1) text ≡ front = ap (λ l. take (length l - 1) l) line.2 ∙ take_at front (10 ∷ []) (length (front ++ 10 ∷ []) - 1) (omega (arith, length-append front (10 ∷ []))) in
    ap (slice_split (λ b. b == 10)) line.2 ∙ slice_split_at (λ b. b == 10) front 10 [] line.1 refl ∙ ap (λ l. l ∷ [] ∷ []) (sym taken)

words_free : (t : TellsWords) (words : List ℤ) → All IsWord words → All IsNoLf (flat_map spaced_word words)
words_free t [] all = All-nil IsNoLf
words_free t (word ∷ words) all =
    All-append IsNoLf (spaced_word word) (flat_map spaced_word words)
    (All-cons IsNoLf 32 (word_text word) refl (visible_free (word_text word) (t.visible word (All-head IsWord word words all))))
    (words_free t words (All-tail IsWord word words all))

source_free : (fallback : Bool) → All IsNoLf (source_text fallback)
source_free true = free (source_text true) refl
source_free false = free (source_text false) refl

-- a conjunct's line, where the monitor's name stands first
conjunct_line : (monitor : List ℕ) (k : ℕ) (unknown : Bool) → All IsNoLf monitor → k < 2 ^ 32 → EndsLine (monitor ++ decimal k ++ truth_text unknown)
conjunct_line monitor k true all small =
    let front = All-append IsNoLf monitor (decimal k) all (visible_free (decimal k) (number_visible k small)) in
    (_, All-append IsNoLf (monitor ++ decimal k) (codes " unknown") front (free (codes " unknown") refl), sym (append_assoc (monitor ++ decimal k) (codes " unknown") (10 ∷ [])))
conjunct_line monitor k false all small =
    let front = All-append IsNoLf monitor (decimal k) all (visible_free (decimal k) (number_visible k small)) in
    (_, All-append IsNoLf (monitor ++ decimal k) (codes " false") front (free (codes " false") refl), sym (append_assoc (monitor ++ decimal k) (codes " false") (10 ∷ [])))

violation_is_line : (w : Why) → HasNumber w → EndsLine (violation_line w)
violation_is_line (why.Init k unknown) h = conjunct_line (codes "violation init ") k unknown (free (codes "violation init ") refl) h
violation_is_line (why.Plant k unknown) h = conjunct_line (codes "violation plant ") k unknown (free (codes "violation plant ") refl) h
violation_is_line why.Fallback h = line_of (codes "violation fallback") (free (codes "violation fallback") refl)

reply_ends : (t : TellsWords) (r : Reply) → IsReply r → EndsLine (reply_line r)
reply_ends t reply.Ok h = line_of (codes "ok") (free (codes "ok") refl)
reply_ends t (reply.Act words len fallback) h = line_of _ (All-append IsNoLf (source_text fallback) (flat_map spaced_word (take len words)) (source_free fallback) (words_free t (take len words) h.1))
reply_ends t (reply.Violation w) h = violation_is_line w h

pub reply_is_line : (t : TellsWords) (r : Reply) → IsReply r → IsOneLine (reply_line r)
reply_is_line t r h = is_one_line (reply_line r) (reply_ends t r h)

some_text : (r : Reply) (rest : List ℕ) → EndsLine (reply_line r) → 1 ≤ length (reply_line r ++ rest)
some_text r rest line =
    let whole : length (reply_line r) ≡ length (line.0 ++ 10 ∷ []) = ap (λ l. length l) line.2 in
    omega (arith, whole, length-append (reply_line r) rest, length-append line.0 (10 ∷ []))

-- a line and what follows it, cut before its LF
line_then : (text rest : List ℕ) (line : EndsLine text) → text ++ rest ≡ line.0 ++ 10 ∷ rest
line_then text rest line = ap (λ l. l ++ rest) line.2 ∙ append_assoc line.0 (10 ∷ []) rest

is_lf : IsNoLf 10 → ⊥
is_lf h = absurd cc

pub replies_told : (t : TellsWords) (replies others : List Reply) → All IsReply replies → All IsReply others → flat_map reply_line replies ≡ flat_map reply_line others → replies ≡ others
replies_told t [] [] all_r all_o e = refl
replies_told t [] (o ∷ others) all_r all_o e =
    let some = some_text o (flat_map reply_line others) (reply_ends t o (All-head IsReply o others all_o)) in
    let none : 0 ≡ length (reply_line o ++ flat_map reply_line others) = ap (λ l. length l) e in
    absurd (omega (arith, some, none))
replies_told t (r ∷ replies) [] all_r all_o e =
    let some = some_text r (flat_map reply_line replies) (reply_ends t r (All-head IsReply r replies all_r)) in
    let none : length (reply_line r ++ flat_map reply_line replies) ≡ 0 = ap (λ l. length l) e in
    absurd (omega (arith, some, none))
replies_told t (r ∷ replies) (o ∷ others) all_r all_o e =
    let is_r = All-head IsReply r replies all_r in
    let is_o = All-head IsReply o others all_o in
    let n = reply_ends t r is_r in
    let m = reply_ends t o is_o in
    let cut = sym (line_then (reply_line r) (flat_map reply_line replies) n) ∙ e ∙ line_then (reply_line o) (flat_map reply_line others) m in
    let p = parts IsNoLf n.0 m.0 (flat_map reply_line replies) (flat_map reply_line others) 10 10 n.1 m.1 is_lf is_lf cut in
    let first : r ≡ o = reply_told t r o is_r is_o (n.2 ∙ ap (λ l. l ++ 10 ∷ []) p.0 ∙ sym m.2) in
    let rest : replies ≡ others = replies_told t replies others (All-tail IsReply r replies all_r) (All-tail IsReply o others all_o) (ap (λ l. drop 1 l) p.1) in
    rw (first, rest) refl
