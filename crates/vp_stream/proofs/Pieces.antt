-- What further bytes add, byte by byte, and that cutting does not matter.
use Rattle.std.proofs.Common.{◌≡◌, ℕ, ◌+◌, ◌<◌, ◌≤◌, ◌==◌, nat_lt, Bool, true, false, cond, List, [], ◌∷◌, ◌++◌, All, length, drop, Result, Ok, Err, refl, ap, sym, ◌∙◌, append_assoc, append-nil, arith, length-append}
use Rattle.std.proofs.lemmas.Bool.{eqb-true, le-ltb, lt-ltb, ltb-false, ltb-true}
use Rattle.std.proofs.Math.Seq.{drop-append_seam, drop-length}
use Rattle.std.proofs.lemmas.List.Elements.{All-nil, All-cons, All-append}
use Rattle.std.proofs.lemmas.List.Splits.{slice_split_at, slice_split_none}
use Rattle.vp_words.specs.Answerer.{Answerer}
use Rattle.vp_stream.specs.declared.verdict.Ending.{Ending}
use Rattle.vp_words.specs.Exchanges.{Exchange}
use Rattle.vp_stream.specs.Run.{Standing, Walked, held_answer, line_answer, line_limit, lines_of, bad_at, so_far, start_of, text_of, then_on, waiting, walk}
use Rattle.vp_stream.specs.declared.lines.LineTurn.TheVariants.{More, Line, TooLong}
use Rattle.vp_stream.specs.Pieces.{IsNoLf, added, byte_answer, held_after, held_of, joined, last_line, pieces_added, resumed, turn_of}
use Rattle.vp_stream.proofs.Growth.{some_line, held_long, so_far_grows, walk_grows, lines_extended}

none_at : (held : List ℕ) → All IsNoLf held → lines_of held ≡ held ∷ []
none_at held h = slice_split_none (λ b. b == 10) held h

line_at : (held more : List ℕ) → All IsNoLf held → lines_of (held ++ 10 ∷ more) ≡ held ∷ lines_of more
line_at held more h = slice_split_at (λ b. b == 10) held 10 more h refl

-- a held line that is not too long waits
pub waits : {State : Type 0} (s : Standing State) (held : List ℕ) → length held ≤ line_limit → held_answer s held ≡ waiting s
waits s held le = ap (λ t. cond t (bad_at s) (waiting s)) (le-ltb line_limit (length held) le)

-- no further bytes
pub resumed_nil : {State : Type 0} (a : Answerer State) (s : Standing State) (held : List ℕ) → All IsNoLf held → length held ≤ line_limit → resumed a s held [] ≡ waiting s
resumed_nil a s held free le = ap (λ l. walk a s (lines_of l)) (append-nil held) ∙ ap (walk a s) (none_at held free) ∙ waits s held le

-- a whole line
resumed_line : {State : Type 0} (a : Answerer State) (s : Standing State) (held more : List ℕ) → All IsNoLf held
    → resumed a s held (10 ∷ more) ≡ then_on (line_answer a s held).answers (line_answer a s held).stands (λ t. resumed a t [] more)
resumed_line a s held more free =
    let p = some_line more in
    ap (walk a s) (line_at held more free ∙ ap (λ ps. held ∷ ps) p.2)
    ∙ ap (λ ps. then_on (line_answer a s held).answers (line_answer a s held).stands (λ t. walk a t ps)) (sym p.2)

-- a line that is too long before its LF
long_front : {State : Type 0} (a : Answerer State) (s : Standing State) (held more : List ℕ) → All IsNoLf held → nat_lt line_limit (length held) ≡ true → resumed a s held more ≡ bad_at s
long_front a s held more free long =
    let alone : walk a s (lines_of held) ≡ bad_at s = ap (walk a s) (none_at held free) ∙ held_long s held long in
    (walk_grows a (lines_of (held ++ more)) (lines_of held) s (lines_extended held more)).ended _ (ap (λ (w : Walked _). w.stands) alone) ∙ alone

-- a byte that is no LF
resumed_byte : {State : Type 0} (a : Answerer State) (s : Standing State) (held : List ℕ) (byte : ℕ) (more : List ℕ) → All IsNoLf (held ++ byte ∷ [])
    → resumed a s held (byte ∷ more) ≡ then_on (held_answer s (held ++ byte ∷ [])).answers (held_answer s (held ++ byte ∷ [])).stands (λ t. resumed a t (held ++ byte ∷ []) more)
resumed_byte a s held byte more free = ap (λ l. walk a s (lines_of l)) (sym (append_assoc held (byte ∷ []) more)) ∙ by (nat_lt line_limit (length longer)) refl
  where
    longer : List ℕ
    longer = held ++ byte ∷ []

    by : (t : Bool) → nat_lt line_limit (length longer) ≡ t → resumed a s longer more ≡ then_on (held_answer s longer).answers (held_answer s longer).stands (λ t. resumed a t longer more)
    by true h = long_front a s longer more free h ∙ sym (ap (λ (w : Walked _). then_on w.answers w.stands (λ t. resumed a t longer more)) (held_long s longer h))
    by false h = sym (ap (λ t. then_on (cond t (bad_at s) (waiting s)).answers (cond t (bad_at s) (waiting s)).stands (λ t. resumed a t longer more)) h)

pub free_after : (held : List ℕ) (byte : ℕ) → All IsNoLf held → All IsNoLf (held_after held byte)
free_after held byte free = by (byte == 10) refl
  where
    by : (t : Bool) → (byte == 10) ≡ t → All IsNoLf (cond t [] (held ++ byte ∷ []))
    by true h = All-nil IsNoLf
    by false h = All-append IsNoLf held (byte ∷ []) free (All-cons IsNoLf byte [] h (All-nil IsNoLf))

-- the next byte, and then the others
pub resumed_cons : {State : Type 0} (a : Answerer State) (s : Standing State) (held : List ℕ) (byte : ℕ) (more : List ℕ) → All IsNoLf held
    → resumed a s held (byte ∷ more) ≡ then_on (byte_answer a s held byte).answers (byte_answer a s held byte).stands (λ t. resumed a t (held_after held byte) more)
resumed_cons a s held byte more free = by (byte == 10) refl (free_after held byte free)
  where
    by : (t : Bool) → (byte == 10) ≡ t → All IsNoLf (cond t [] (held ++ byte ∷ []))
        → resumed a s held (byte ∷ more) ≡ then_on (cond t (line_answer a s held) (held_answer s (held ++ byte ∷ []))).answers (cond t (line_answer a s held) (held_answer s (held ++ byte ∷ []))).stands (λ u. resumed a u (cond t [] (held ++ byte ∷ [])) more)
    by true h f = ap (λ b. resumed a s held (b ∷ more)) (eqb-true byte 10 h) ∙ resumed_line a s held more free
    by false h f = resumed_byte a s held byte more f

-- one answer more in front
then_twice : {State : Type 0} (first : List Exchange) (r : Result (Standing State) Ending) (w v : Standing State → Walked State) (t : Standing State) (on : Standing State → Walked State)
    → (then_on first r w).stands ≡ Ok t
    → ((u : Standing State) → (w u).stands ≡ Ok t → v u ≡ then_on (w u).answers (Ok t) on)
    → then_on first r v ≡ then_on (then_on first r w).answers (Ok t) on
then_twice first (Err e) w v t on h k = absurd cc
then_twice first (Ok u) w v t on h k =
    ap (λ (x : Walked _). record { answers = first ++ x.answers; stands = x.stands }) (k u h)
    ∙ ap (λ l. record { answers = l; stands = (on t).stands }) (sym (append_assoc first (w u).answers (on t).answers))

-- the line that is held behind further bytes
abbrev held_from : List ℕ → List ℕ → List ℕ
held_from held [] = held
held_from held (byte ∷ more) = held_from (held_after held byte) more

last_behind : (line : List ℕ) (bytes : List ℕ) → last_line (line ∷ lines_of bytes) ≡ last_line (lines_of bytes)
last_behind line bytes = let p = some_line bytes in ap (λ ps. last_line (line ∷ ps)) p.2 ∙ ap last_line (sym p.2)

-- one byte of it
held_byte : (byte : ℕ) (more held : List ℕ) → All IsNoLf held → held_from (held_after held byte) more ≡ held_of (held_after held byte ++ more)
    → held_from held (byte ∷ more) ≡ held_of (held ++ byte ∷ more)
held_byte byte more held free ih = by (byte == 10) refl ih
  where
    by : (t : Bool) → (byte == 10) ≡ t → held_from (cond t [] (held ++ byte ∷ [])) more ≡ held_of (cond t [] (held ++ byte ∷ []) ++ more)
        → held_from (cond t [] (held ++ byte ∷ [])) more ≡ held_of (held ++ byte ∷ more)
    by true h e = e ∙ sym (last_behind held more) ∙ ap last_line (sym (line_at held more free)) ∙ ap (λ b. held_of (held ++ b ∷ more)) (sym (eqb-true byte 10 h))
    by false h e = e ∙ ap held_of (append_assoc held (byte ∷ []) more)

-- the same where the byte is the first of the rest
pub held_step : (held : List ℕ) (byte : ℕ) (more : List ℕ) → All IsNoLf held → held_of (held_after held byte ++ more) ≡ held_of (held ++ byte ∷ more)
held_step held byte more free = by (byte == 10) refl
  where
    by : (t : Bool) → (byte == 10) ≡ t → held_of (cond t [] (held ++ byte ∷ []) ++ more) ≡ held_of (held ++ byte ∷ more)
    by true h = sym (last_behind held more) ∙ ap last_line (sym (line_at held more free)) ∙ ap (λ b. held_of (held ++ b ∷ more)) (sym (eqb-true byte 10 h))
    by false h = ap held_of (append_assoc held (byte ∷ []) more)

pub held_alone : (held : List ℕ) → All IsNoLf held → held_of (held ++ []) ≡ held
held_alone held free = ap held_of (append-nil held) ∙ ap last_line (none_at held free)

held_is : (bytes held : List ℕ) → All IsNoLf held → held_from held bytes ≡ held_of (held ++ bytes)
held_is [] held free = sym (ap held_of (append-nil held) ∙ ap last_line (none_at held free))
held_is (byte ∷ more) held free = held_byte byte more held free (held_is more (held_after held byte) (free_after held byte free))

free_from : (bytes held : List ℕ) → All IsNoLf held → All IsNoLf (held_from held bytes)
free_from [] held free = free
free_from (byte ∷ more) held free = free_from more (held_after held byte) (free_after held byte free)

held_from-append : (bytes piece held : List ℕ) → held_from held (bytes ++ piece) ≡ held_from (held_from held bytes) piece
held_from-append [] piece held = refl
held_from-append (byte ∷ more) piece held = held_from-append more piece (held_after held byte)

pub held_of-append : (bytes piece : List ℕ) → held_of (bytes ++ piece) ≡ held_of (held_of bytes ++ piece)
held_of-append bytes piece =
    let none = All-nil IsNoLf in
    sym (held_is (bytes ++ piece) [] none) ∙ held_from-append bytes piece [] ∙ held_is piece (held_from [] bytes) (free_from bytes [] none)
    ∙ ap (λ l. held_of (l ++ piece)) (held_is bytes [] none)

held_stands : {State : Type 0} (a : Answerer State) (s t : Standing State) (held piece : List ℕ) → All IsNoLf held → (resumed a s held []).stands ≡ Ok t
    → resumed a s held piece ≡ then_on (resumed a s held []).answers (Ok t) (λ u. resumed a u held piece)
held_stands a s t held piece free = by (nat_lt line_limit (length held)) refl
  where
    alone : resumed a s held [] ≡ held_answer s held
    alone = ap (λ l. walk a s (lines_of l)) (append-nil held) ∙ ap (walk a s) (none_at held free)

    by : (b : Bool) → nat_lt line_limit (length held) ≡ b → (resumed a s held []).stands ≡ Ok t
        → resumed a s held piece ≡ then_on (resumed a s held []).answers (Ok t) (λ u. resumed a u held piece)
    by true h e = let no = ap (λ (w : Walked _). w.stands) (sym (alone ∙ held_long s held h)) ∙ e in absurd cc
    by false h e =
        let is : resumed a s held [] ≡ waiting s = alone ∙ ap (λ b. cond b (bad_at s) (waiting s)) h in
        let same : Ok s ≡ Ok t = ap (λ (w : Walked _). w.stands) (sym is) ∙ e in
        ap (λ r. then_on [] r (λ u. resumed a u held piece)) same ∙ ap (λ (w : Walked _). then_on w.answers (Ok t) (λ u. resumed a u held piece)) (sym is)

-- where bytes have not ended the run, further bytes go on where they left it
pub resumed_more : {State : Type 0} (a : Answerer State) (bytes : List ℕ) (s t : Standing State) (held piece : List ℕ) → All IsNoLf held → (resumed a s held bytes).stands ≡ Ok t
    → resumed a s held (bytes ++ piece) ≡ then_on (resumed a s held bytes).answers (Ok t) (λ u. resumed a u (held_from held bytes) piece)
resumed_more a [] s t held piece free h = held_stands a s t held piece free h
resumed_more a (byte ∷ more) s t held piece free h =
    let ba = byte_answer a s held byte in
    let whole = resumed_cons a s held byte (more ++ piece) free in
    let front = resumed_cons a s held byte more free in
    whole
    ∙ then_twice ba.answers ba.stands (λ u. resumed a u (held_after held byte) more) (λ u. resumed a u (held_after held byte) (more ++ piece)) t (λ u. resumed a u (held_from (held_after held byte) more) piece)
    (ap (λ (w : Walked _). w.stands) (sym front) ∙ h)
    (λ u k. resumed_more a more u t (held_after held byte) piece (free_after held byte free) k)
    ∙ ap (λ (w : Walked _). then_on w.answers (Ok t) (λ u. resumed a u (held_from (held_after held byte) more) piece)) (sym front)

-- what a piece gives behind bytes that have not ended the run
pub so_far_resumes : {State : Type 0} (a : Answerer State) (bytes piece : List ℕ) (t : Standing State) → (so_far a bytes).stands ≡ Ok t
    → so_far a (bytes ++ piece) ≡ then_on (so_far a bytes).answers (Ok t) (λ u. resumed a u (held_of bytes) piece)
so_far_resumes a bytes piece t h =
    resumed_more a bytes (start_of a) t [] piece (All-nil IsNoLf) h
    ∙ ap (λ l. then_on (so_far a bytes).answers (Ok t) (λ u. resumed a u l piece)) (held_is bytes [] (All-nil IsNoLf))

-- the text so far of bytes with a piece begins with that of the bytes
pub added_is : {State : Type 0} (a : Answerer State) (bytes piece : List ℕ) → text_of (so_far a (bytes ++ piece)) ≡ text_of (so_far a bytes) ++ added a bytes piece
added_is a bytes piece =
    let g = (so_far_grows a bytes piece).more in
    g.1 ∙ ap (λ l. text_of (so_far a bytes) ++ l) (sym (ap (λ l. drop (length (text_of (so_far a bytes))) l) g.1 ∙ drop-append_seam (text_of (so_far a bytes)) g.0))

-- what each turn of an open line says
pub turn_more : {State : Type 0} (a : Answerer State) (s : Standing State) (held : List ℕ) (byte : ℕ) → More ≡ turn_of held byte
    → (byte_answer a s held byte ≡ waiting s) × (held_after held byte ≡ held ++ byte ∷ []) × (length held < line_limit)
turn_more a s held byte = by (byte == 10) (nat_lt (length held) line_limit) refl
  where
    by : (t u : Bool) → nat_lt (length held) line_limit ≡ u → More ≡ cond t Line (cond u More TooLong)
        → (cond t (line_answer a s held) (held_answer s (held ++ byte ∷ [])) ≡ waiting s) × (cond t [] (held ++ byte ∷ []) ≡ held ++ byte ∷ []) × (length held < line_limit)
    by true u h e = absurd cc
    by false false h e = absurd cc
    by false true h e =
        let lt = ltb-true (length held) line_limit h in
        (waits s (held ++ byte ∷ []) (omega (arith, lt, length-append held (byte ∷ []))), refl, lt)

pub turn_line : {State : Type 0} (a : Answerer State) (s : Standing State) (held : List ℕ) (byte : ℕ) → Line ≡ turn_of held byte
    → (byte_answer a s held byte ≡ line_answer a s held) × (held_after held byte ≡ [])
turn_line a s held byte = by (byte == 10) (nat_lt (length held) line_limit)
  where
    by : (t u : Bool) → Line ≡ cond t Line (cond u More TooLong)
        → (cond t (line_answer a s held) (held_answer s (held ++ byte ∷ [])) ≡ line_answer a s held) × (cond t [] (held ++ byte ∷ []) ≡ [])
    by true u e = (refl, refl)
    by false true e = absurd cc
    by false false e = absurd cc

pub turn_long : {State : Type 0} (a : Answerer State) (s : Standing State) (held : List ℕ) (byte : ℕ) → TooLong ≡ turn_of held byte → byte_answer a s held byte ≡ bad_at s
turn_long a s held byte = by (byte == 10) (nat_lt (length held) line_limit) refl
  where
    by : (t u : Bool) → nat_lt (length held) line_limit ≡ u → TooLong ≡ cond t Line (cond u More TooLong)
        → cond t (line_answer a s held) (held_answer s (held ++ byte ∷ [])) ≡ bad_at s
    by true u h e = absurd cc
    by false true h e = absurd cc
    by false false h e =
        let ge = ltb-false (length held) line_limit h in
        held_long s (held ++ byte ∷ []) (lt-ltb line_limit (length (held ++ byte ∷ [])) (omega (arith, ge, length-append held (byte ∷ []))))

then_waiting : {State : Type 0} (answers : List Exchange) (r : Result (Standing State) Ending) → then_on answers r (λ t. waiting t) ≡ record { answers = answers; stands = r }
then_waiting answers (Err e) = refl
then_waiting answers (Ok s) = ap (λ l. record { answers = l; stands = Ok s }) (append-nil answers)

-- one LF behind a line that is held
pub resumed_lf : {State : Type 0} (a : Answerer State) (s : Standing State) (held : List ℕ) → All IsNoLf held → resumed a s held (10 ∷ []) ≡ line_answer a s held
resumed_lf a s held free = resumed_line a s held [] free ∙ then_waiting (line_answer a s held).answers (line_answer a s held).stands

-- what two pieces add is what their join adds
pub added_more : {State : Type 0} (a : Answerer State) (bytes piece more : List ℕ) → added a bytes (piece ++ more) ≡ added a bytes piece ++ added a (bytes ++ piece) more
added_more a bytes piece more =
    let front = text_of (so_far a bytes) in
    let whole : text_of (so_far a (bytes ++ (piece ++ more))) ≡ front ++ (added a bytes piece ++ added a (bytes ++ piece) more) =
    ap (λ l. text_of (so_far a l)) (sym (append_assoc bytes piece more)) ∙ added_is a (bytes ++ piece) more
    ∙ ap (λ l. l ++ added a (bytes ++ piece) more) (added_is a bytes piece) ∙ append_assoc front (added a bytes piece) (added a (bytes ++ piece) more) in
    ap (λ l. drop (length front) l) whole ∙ drop-append_seam front (added a bytes piece ++ added a (bytes ++ piece) more)

-- no further bytes add nothing
pub nothing_added : {State : Type 0} (a : Answerer State) (bytes : List ℕ) → added a bytes [] ≡ []
nothing_added a bytes =
    let front = text_of (so_far a bytes) in
    ap (λ l. drop (length front) (text_of (so_far a l))) (append-nil bytes) ∙ drop-length front

-- pieces that join to the same bytes add the same
pub pieces_add_their_join : {State : Type 0} (a : Answerer State) (pieces : List (List ℕ)) (bytes : List ℕ) → pieces_added a bytes pieces ≡ added a bytes (joined pieces)
pieces_add_their_join a [] bytes = sym (nothing_added a bytes)
pieces_add_their_join a (piece ∷ pieces) bytes =
    ap (λ l. added a bytes piece ++ l) (pieces_add_their_join a pieces (bytes ++ piece)) ∙ sym (added_more a bytes piece (joined pieces))
