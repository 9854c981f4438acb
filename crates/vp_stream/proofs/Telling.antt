-- What the line of a reply tells.
use Rattle.std.proofs.Common.{◌≡◌, ℕ, ◌-◌, ◌<◌, ◌≤◌, ◌^◌, Bool, true, false, ℤ, pos, List, [], ◌∷◌, ◌++◌, All, length, take, drop, get_or, replicate, refl, ap, sym, ◌∙◌, append_assoc, arith, length-append}
use Rattle.std.specs.List.{flat_map}
use Rattle.std.specs.Fmt.{decimal}
use Rattle.std.proofs.lemmas.Fmt.{decimal_injective, decimal_is_IsNumeral}
use Rattle.std.proofs.lemmas.List.{length-take, length-replicate}
use Rattle.std.proofs.lemmas.List.Elements.{All-nil, All-cons, All-head, All-tail}
use Rattle.std.proofs.lemmas.Str.Parse.{digit_from_value}
use Rattle.std.specs.Str.Parse.{AllDigits}
use Rattle.vp_words.specs.declared.record.Reply.{Reply}
use Rattle.vp_words.specs.declared.record.Reply.TheVariants as reply
use Rattle.vp_words.specs.declared.record.Why.{Why}
use Rattle.vp_words.specs.declared.record.Why.TheVariants as why
use Rattle.vp_words.specs.Number.{IsWord}
use Rattle.vp_words.specs.Record.{padded}
use Rattle.vp_words.specs.Text.{IsVisible, TellsWords, word_text}
use Rattle.vp_stream.specs.Printing.{HasNumber, IsReply, reply_line, source_text, spaced_word, truth_text, violation_line}

-- where texts are the same, so are their bytes
bytes_told : (i x y : ℕ) (s t : List ℕ) → s ≡ t → get_or s i 0 ≡ x → get_or t i 0 ≡ y → x ≡ y
bytes_told i x y s t e h k = sym h ∙ ap (λ l. get_or l i 0) e ∙ k

-- texts of such bytes end where the first other byte stands
pub parts : (P : ℕ → Type 0) (xs ys s t : List ℕ) (x y : ℕ) → All P xs → All P ys → (P x → ⊥) → (P y → ⊥) → xs ++ x ∷ s ≡ ys ++ y ∷ t → (xs ≡ ys) × (x ∷ s ≡ y ∷ t)
parts P [] [] s t x y all_x all_y not_x not_y e = (refl, e)
parts P [] (b ∷ ys) s t x y all_x all_y not_x not_y e =
    let h : x ≡ b = ap (λ l. get_or l 0 0) e in
    absurd (not_x (rw h (All-head P b ys all_y)))
parts P (a ∷ xs) [] s t x y all_x all_y not_x not_y e =
    let h : a ≡ y = ap (λ l. get_or l 0 0) e in
    absurd (not_y (rw (← h) (All-head P a xs all_x)))
parts P (a ∷ xs) (b ∷ ys) s t x y all_x all_y not_x not_y e =
    let h : a ≡ b = ap (λ l. get_or l 0 0) e in
    let r = parts P xs ys s t x y (All-tail P a xs all_x) (All-tail P b ys all_y) not_x not_y (ap (λ l. drop 1 l) e) in
    (rw (h, r.0) refl, r.1)

below_visible : (x : ℕ) → x < 33 → IsVisible x → ⊥
below_visible x h v = omega (arith, v.0)

-- what follows a word begins with a space or an LF
after_word : (words : List ℤ) → (x : ℕ) × (s : List ℕ) × (x < 33) × (flat_map spaced_word words ++ 10 ∷ [] ≡ x ∷ s)
after_word [] = (10, [], omega arith, refl)
after_word (word ∷ words) = (32, (word_text word ++ flat_map spaced_word words) ++ 10 ∷ [], omega arith, refl)

words_told : (t : TellsWords) (ws vs : List ℤ) → All IsWord ws → All IsWord vs → flat_map spaced_word ws ++ 10 ∷ [] ≡ flat_map spaced_word vs ++ 10 ∷ [] → ws ≡ vs
words_told t [] [] all_w all_v e = refl
words_told t [] (v ∷ vs) all_w all_v e = absurd (omega (arith, bytes_told 0 10 32 _ _ e refl refl))
words_told t (w ∷ ws) [] all_w all_v e = absurd (omega (arith, bytes_told 0 32 10 _ _ e refl refl))
words_told t (w ∷ ws) (v ∷ vs) all_w all_v e =
    let is_w = All-head IsWord w ws all_w in
    let is_v = All-head IsWord v vs all_v in
    let n = after_word ws in
    let m = after_word vs in
    let left = append_assoc (word_text w) (flat_map spaced_word ws) (10 ∷ []) ∙ ap (λ l. word_text w ++ l) n.3 in
    let right = append_assoc (word_text v) (flat_map spaced_word vs) (10 ∷ []) ∙ ap (λ l. word_text v ++ l) m.3 in
    let p = parts IsVisible (word_text w) (word_text v) n.1 m.1 n.0 m.0 (t.visible w is_w) (t.visible v is_v) (below_visible n.0 n.2) (below_visible m.0 m.2) (sym left ∙ ap (λ l. drop 1 l) e ∙ right) in
    let first = t.told w v is_w is_v p.0 in
    let rest = words_told t ws vs (All-tail IsWord w ws all_w) (All-tail IsWord v vs all_v) (n.3 ∙ p.1 ∙ sym m.3) in
    rw (first, rest) refl

source_told : (f g : Bool) (s t : List ℕ) → source_text f ++ s ≡ source_text g ++ t → (f ≡ g) × (s ≡ t)
source_told true true s t e = (refl, ap (λ l. drop 12 l) e)
source_told true false s t e = absurd (omega (arith, bytes_told 4 102 99 _ _ e refl refl))
source_told false true s t e = absurd (omega (arith, bytes_told 4 99 102 _ _ e refl refl))
source_told false false s t e = (refl, ap (λ l. drop 10 l) e)

-- an act's words with zeros behind them tell their number
act_len : (words : List ℤ) (len : ℕ) → len ≤ 16 → words ≡ padded 16 (take len words) → length (take len words) ≡ len
act_len words len le pad =
    let front : length (take len words) ≤ len = omega (arith, length-take len words) in
    let whole : length words ≡ 16 = ap (λ l. length l) pad ∙ length-append (take len words) (replicate (16 - length (take len words)) (pos 0)) ∙ omega (arith, length-replicate (16 - length (take len words)) (pos 0)) in
    omega (arith, length-take len words)

act_told : (t : TellsWords) (ws vs : List ℤ) (n m : ℕ) (f g : Bool) → IsReply (reply.Act ws n f) → IsReply (reply.Act vs m g) → reply_line (reply.Act ws n f) ≡ reply_line (reply.Act vs m g) → reply.Act ws n f ≡ reply.Act vs m g
act_told t ws vs n m f g a b e =
    let source = source_told f g _ _ (sym (append_assoc (source_text f) (flat_map spaced_word (take n ws)) (10 ∷ [])) ∙ e ∙ append_assoc (source_text g) (flat_map spaced_word (take m vs)) (10 ∷ [])) in
    let front = words_told t (take n ws) (take m vs) a.1 b.1 source.1 in
    let words : ws ≡ vs = a.2 ∙ ap (λ l. padded 16 l) front ∙ sym b.2 in
    let len : n ≡ m = sym (act_len ws n a.0 a.2) ∙ ap (λ l. length l) front ∙ act_len vs m b.0 b.2 in
    cc

digits_visible : (ds : List ℕ) → AllDigits 10 ds → All IsVisible ds
digits_visible [] h = All-nil IsVisible
digits_visible (c ∷ cs) h =
    let r = digit_from_value c h.0 in
    All-cons IsVisible c cs (omega arith, omega arith) (digits_visible cs h.1)

pub number_visible : (k : ℕ) → k < 2 ^ 32 → All IsVisible (decimal k)
number_visible k h = digits_visible (decimal k) ((decimal_is_IsNumeral k (omega arith)).0.1)

truth_told : (u v : Bool) → truth_text u ≡ truth_text v → u ≡ v
truth_told true true e = refl
truth_told true false e = absurd (omega (arith, bytes_told 1 117 102 _ _ e refl refl))
truth_told false true e = absurd (omega (arith, bytes_told 1 102 117 _ _ e refl refl))
truth_told false false e = refl

truth_begins : (u : Bool) → truth_text u ≡ 32 ∷ drop 1 (truth_text u)
truth_begins true = refl
truth_begins false = refl

conjunct_told : (k l : ℕ) (u v : Bool) → k < 2 ^ 32 → l < 2 ^ 32 → decimal k ++ truth_text u ≡ decimal l ++ truth_text v → (k ≡ l) × (u ≡ v)
conjunct_told k l u v small_k small_l e =
    let left = ap (λ t. decimal k ++ t) (truth_begins u) in
    let right = ap (λ t. decimal l ++ t) (truth_begins v) in
    let p = parts IsVisible (decimal k) (decimal l) _ _ 32 32 (number_visible k small_k) (number_visible l small_l) (below_visible 32 (omega arith)) (below_visible 32 (omega arith)) (sym left ∙ e ∙ right) in
    (decimal_injective k l (omega arith) (omega arith) p.0, truth_told u v (truth_begins u ∙ p.1 ∙ sym (truth_begins v)))

-- the byte behind `violation `
monitor_letter : Why → ℕ
monitor_letter (why.Init k unknown) = 105
monitor_letter (why.Plant k unknown) = 112
monitor_letter why.Fallback = 102

has_monitor_letter : (w : Why) → get_or (violation_line w) 10 0 ≡ monitor_letter w
unfolding monitor_letter
has_monitor_letter (why.Init k unknown) = refl
has_monitor_letter (why.Plant k unknown) = refl
has_monitor_letter why.Fallback = refl

same_monitor : (v w : Why) → violation_line v ≡ violation_line w → monitor_letter v ≡ monitor_letter w
same_monitor v w e = bytes_told 10 _ _ _ _ e (has_monitor_letter v) (has_monitor_letter w)

violation_told : (v w : Why) → HasNumber v → HasNumber w → violation_line v ≡ violation_line w → v ≡ w
unfolding monitor_letter
violation_told (why.Init k u) (why.Init l v) a b e = let p = conjunct_told k l u v a b (ap (λ t. drop 15 t) e) in rw (p.0, p.1) refl
violation_told (why.Init k u) (why.Plant l v) a b e = absurd (omega (arith, same_monitor (why.Init k u) (why.Plant l v) e))
violation_told (why.Init k u) why.Fallback a b e = absurd (omega (arith, same_monitor (why.Init k u) why.Fallback e))
violation_told (why.Plant k u) (why.Init l v) a b e = absurd (omega (arith, same_monitor (why.Plant k u) (why.Init l v) e))
violation_told (why.Plant k u) (why.Plant l v) a b e = let p = conjunct_told k l u v a b (ap (λ t. drop 16 t) e) in rw (p.0, p.1) refl
violation_told (why.Plant k u) why.Fallback a b e = absurd (omega (arith, same_monitor (why.Plant k u) why.Fallback e))
violation_told why.Fallback (why.Init l v) a b e = absurd (omega (arith, same_monitor why.Fallback (why.Init l v) e))
violation_told why.Fallback (why.Plant l v) a b e = absurd (omega (arith, same_monitor why.Fallback (why.Plant l v) e))
violation_told why.Fallback why.Fallback a b e = refl

first_letter : Reply → ℕ
first_letter reply.Ok = 111
first_letter (reply.Act words len fallback) = 97
first_letter (reply.Violation w) = 118

act_letter : (fallback : Bool) (s t : List ℕ) → get_or (source_text fallback ++ s ++ t) 0 0 ≡ 97
act_letter true s t = refl
act_letter false s t = refl

violation_letter : (w : Why) → get_or (violation_line w) 0 0 ≡ 118
violation_letter (why.Init k unknown) = refl
violation_letter (why.Plant k unknown) = refl
violation_letter why.Fallback = refl

has_first_letter : (r : Reply) → get_or (reply_line r) 0 0 ≡ first_letter r
unfolding first_letter
has_first_letter reply.Ok = refl
has_first_letter (reply.Act words len fallback) = act_letter fallback (flat_map spaced_word (take len words)) (10 ∷ [])
has_first_letter (reply.Violation w) = violation_letter w

same_letter : (a b : Reply) → reply_line a ≡ reply_line b → first_letter a ≡ first_letter b
same_letter a b e = bytes_told 0 _ _ _ _ e (has_first_letter a) (has_first_letter b)

pub reply_told : (t : TellsWords) (a b : Reply) → IsReply a → IsReply b → reply_line a ≡ reply_line b → a ≡ b
unfolding first_letter
reply_told t reply.Ok reply.Ok a b e = refl
reply_told t reply.Ok (reply.Act vs m g) a b e = absurd (omega (arith, same_letter reply.Ok (reply.Act vs m g) e))
reply_told t reply.Ok (reply.Violation w) a b e = absurd (omega (arith, same_letter reply.Ok (reply.Violation w) e))
reply_told t (reply.Act ws n f) reply.Ok a b e = absurd (omega (arith, same_letter (reply.Act ws n f) reply.Ok e))
reply_told t (reply.Act ws n f) (reply.Act vs m g) a b e = act_told t ws vs n m f g a b e
reply_told t (reply.Act ws n f) (reply.Violation w) a b e = absurd (omega (arith, same_letter (reply.Act ws n f) (reply.Violation w) e))
reply_told t (reply.Violation v) reply.Ok a b e = absurd (omega (arith, same_letter (reply.Violation v) reply.Ok e))
reply_told t (reply.Violation v) (reply.Act vs m g) a b e = absurd (omega (arith, same_letter (reply.Violation v) (reply.Act vs m g) e))
reply_told t (reply.Violation v) (reply.Violation w) a b e = ap reply.Violation (violation_told v w a b e)
