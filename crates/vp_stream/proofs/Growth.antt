-- More input adds to what was printed, and changes nothing of it.
use Rattle.std.proofs.Common.{◌≡◌, ℕ, ◌≤◌, ◌==◌, nat_lt, Bool, true, false, cond, List, [], ◌∷◌, ◌++◌, length, Result, Ok, Err, refl, ap, sym, ◌∙◌, append_assoc, append-nil, arith}
use Rattle.std.specs.List.{onto_first}
use Rattle.std.proofs.lemmas.Bool.{lt-ltb, ltb-true}
use Rattle.std.proofs.lemmas.Grind.{flat_map-append}
use Rattle.vp_words.specs.Answerer.{Answerer}
use Rattle.vp_stream.specs.declared.verdict.Ending.{Ending}
use Rattle.vp_stream.specs.Printing.{reply_line}
use Rattle.vp_words.specs.Exchanges.{Exchange}
use Rattle.vp_stream.specs.Run.{Standing, Walked, last_text, line_limit, reply_lines, bad_at, line_answer, held_answer, text_of, then_on, walk, lines_of, start_of, so_far}

-- the lines are never none
pub some_line : (bytes : List ℕ) → (line : List ℕ) × (lines : List (List ℕ)) × (lines_of bytes ≡ line ∷ lines)
some_line [] = ([], [], refl)
some_line (b ∷ bytes) = elim (b == 10) as (λ t. (line : List ℕ) × (lines : List (List ℕ)) × (cond t ([] ∷ lines_of bytes) (onto_first b (lines_of bytes)) ≡ line ∷ lines)) [
  | true ↦ ([], lines_of bytes, refl)
  | false ↦ let s = some_line bytes in (b ∷ s.0, s.1, ap (onto_first b) s.2)
]

-- these lines go on where those end: the last of those is the front of one of these
pub Extended : List (List ℕ) → List (List ℕ) → Type 0
Extended [] ps = ⊥
Extended (q ∷ qs) [] = ⊥
Extended (q ∷ qs) (held ∷ []) = length held ≤ length q
Extended (q ∷ qs) (line ∷ next ∷ ps) = (q ≡ line) × Extended qs (next ∷ ps)

extended_onto : (x : ℕ) (qs ps : List (List ℕ)) → Extended qs ps → Extended (onto_first x qs) (onto_first x ps)
unfolding Extended
extended_onto x [] ps e = absurd e
extended_onto x (q ∷ qs) [] e = absurd e
extended_onto x (q ∷ qs) (held ∷ []) e = omega arith
extended_onto x (q ∷ qs) (line ∷ next ∷ ps) e = (ap (λ l. x ∷ l) e.0, e.1)

-- the same with a whole line before both
extended_line : (qs ps : List (List ℕ)) → Extended qs ps → Extended ([] ∷ qs) ([] ∷ ps)
unfolding Extended
extended_line [] ps e = absurd e
extended_line (q ∷ qs) [] e = absurd e
extended_line (q ∷ qs) (p ∷ ps) e = (refl, e)

pub lines_extended : (a b : List ℕ) → Extended (lines_of (a ++ b)) (lines_of a)
unfolding Extended
lines_extended [] b = let s = some_line b in rw s.2 (omega arith)
lines_extended (x ∷ a) b =
    elim (x == 10) as (λ t. Extended (cond t ([] ∷ lines_of (a ++ b)) (onto_first x (lines_of (a ++ b)))) (cond t ([] ∷ lines_of a) (onto_first x (lines_of a)))) [
      | true ↦ extended_line _ _ (lines_extended a b)
      | false ↦ extended_onto x _ _ (lines_extended a b)
    ]

-- a walk that goes further: the same where the first has ended, and never other text
pub record Grows {State : Type 0} (w v : Walked State) : Type 0 where
  pub ended : (e : Ending) → w.stands ≡ Err e → v ≡ w
  pub more : (rest : List ℕ) × (text_of v ≡ text_of w ++ rest)

same_grows : {State : Type 0} (w : Walked State) → Grows w w
same_grows w = record { ended = λ e h. refl; more = ([], sym (append-nil (text_of w))) }

-- the lines of more answers
pub reply_lines-append : (first more : List Exchange) → reply_lines (first ++ more) ≡ reply_lines first ++ reply_lines more
reply_lines-append first more = flat_map-append (λ (x : Exchange). reply_line x.reply) first more

-- the text of what goes on
pub text_then : {State : Type 0} (answers : List Exchange) (s : Standing State) (on : Standing State → Walked State)
    → text_of (then_on answers (Ok s) on) ≡ reply_lines answers ++ text_of (on s)
text_then answers s on =
    ap (λ l. l ++ last_text (on s).stands) (reply_lines-append answers (on s).answers)
    ∙ append_assoc (reply_lines answers) (reply_lines (on s).answers) (last_text (on s).stands)

then_grows : {State : Type 0} (answers : List Exchange) (r : Result (Standing State) Ending) (f g : Standing State → Walked State) → ((t : Standing State) → Grows (f t) (g t)) → Grows (then_on answers r f) (then_on answers r g)
then_grows answers (Err e) f g h = same_grows _
then_grows answers (Ok t) f g h =
    let on = h t in
    record {
      ended = λ e d. ap (λ (u : Walked _). record { answers = answers ++ u.answers; stands = u.stands }) (on.ended e d);
      more = (
        on.more.0,
        text_then answers t g ∙ ap (λ l. reply_lines answers ++ l) on.more.1 ∙ sym (append_assoc (reply_lines answers) (text_of (f t)) on.more.0)
            ∙ ap (λ l. l ++ on.more.0) (sym (text_then answers t f)),
      );
    }

-- a line that is too long is bad, held or whole
pub held_long : {State : Type 0} (s : Standing State) (held : List ℕ) → nat_lt line_limit (length held) ≡ true → held_answer s held ≡ bad_at s
held_long s held h = rw h refl

pub long_line : {State : Type 0} (a : Answerer State) (s : Standing State) (line : List ℕ) → nat_lt line_limit (length line) ≡ true → line_answer a s line ≡ bad_at s
long_line a s line h = rw h refl

longer : (held line : List ℕ) → nat_lt line_limit (length held) ≡ true → length held ≤ length line → nat_lt line_limit (length line) ≡ true
longer held line h le = let lt = ltb-true _ _ h in lt-ltb line_limit (length line) (omega arith)

-- a held line that ended the run ends it also where more follows
held_grows : {State : Type 0} (a : Answerer State) (s : Standing State) (held q : List ℕ) (qs : List (List ℕ)) → length held ≤ length q → Grows (held_answer s held) (walk a s (q ∷ qs))
held_grows a s held q qs le = by qs (nat_lt line_limit (length held)) refl
  where
    by : (qs : List (List ℕ)) (t : Bool) → nat_lt line_limit (length held) ≡ t → Grows (held_answer s held) (walk a s (q ∷ qs))
    by qs false h = record { ended = λ e d. let ok = rw h at d in absurd cc; more = (text_of (walk a s (q ∷ qs)), rw h refl) }
    by [] true h = rw (held_long s held h, held_long s q (longer held q h le)) (same_grows _)
    by (r ∷ qs) true h = rw (held_long s held h, long_line a s q (longer held q h le)) (same_grows _)

pub walk_grows : {State : Type 0} (a : Answerer State) (qs ps : List (List ℕ)) (s : Standing State) → Extended qs ps → Grows (walk a s ps) (walk a s qs)
unfolding Extended
walk_grows a [] ps s e = absurd e
walk_grows a (q ∷ qs) [] s e = absurd e
walk_grows a (q ∷ qs) (held ∷ []) s e = held_grows a s held q qs e
walk_grows a (q ∷ []) (line ∷ next ∷ ps) s e = absurd e.1
walk_grows a (q ∷ r ∷ qs) (line ∷ next ∷ ps) s e =
    rw e.0 (then_grows (line_answer a s line).answers (line_answer a s line).stands (λ t. walk a t (next ∷ ps)) (λ t. walk a t (r ∷ qs)) (λ t. walk_grows a (r ∷ qs) (next ∷ ps) t e.1))

pub so_far_grows : {State : Type 0} (a : Answerer State) (front rest : List ℕ) → Grows (so_far a front) (so_far a (front ++ rest))
so_far_grows a front rest = walk_grows a _ _ (start_of a) (lines_extended front rest)
