-- The loop over bytes: what was printed, and what the bytes that are left give.
use Rattle.std.proofs.Common.{◌≡◌, ℕ, ◌+◌, ◌<◌, ◌≤◌, List, [], ◌∷◌, ◌++◌, All, add-one, drop, drop-cons, get_or, length, take, Option, None, Some, Result, Ok, Err, refl, ap, sym, subst, ◌∙◌, append_assoc, append-nil, arith, length-append}
use Rattle.std.specs.Io.KnownBytes.{Appends}
use Rattle.std.proofs.Math.ListN.{drop_of_length-le}
use Rattle.std.proofs.Math.Seq.{take-append-add}
use Rattle.std.proofs.lemmas.List.{take-append-le}
use Rattle.vp_words.specs.Answerer.{Answerer}
use Rattle.vp_outside.specs.Content.{AppendsPart}
use Rattle.vp_outside.proofs.Known.{appends_more}
use Rattle.vp_stream.specs.declared.verdict.Ending.{Ending}
use Rattle.vp_stream.specs.Pieces.{IsNoLf, byte_answer, held_after, resumed}
use Rattle.vp_words.specs.Exchanges.{Exchange}
use Rattle.vp_stream.specs.Run.{Standing, Walked, ending_text, last_text, line_limit, reply_lines, text_of, then_on}
use Rattle.vp_stream.proofs.Growth.{reply_lines-append, text_then}
use Rattle.vp_stream.proofs.Pieces.{resumed_cons, resumed_nil}
use Rattle.vp_runner.specs.declared.walk.Halt.{Halt}
use Rattle.vp_runner.specs.declared.walk.Halt.TheVariants.{Ended, Failed}
use Rattle.vp_runner.specs.Progress.{Walks}

-- known bytes that grew by nothing
pub appends_nothing : (known : Option (List ℕ)) → Appends known known []
appends_nothing None = tt
appends_nothing (Some xs) = sym (append-nil xs)

-- a proper part of a text behind another is one of both
pub part_after : (x y z : Option (List ℕ)) (front text : List ℕ) → Appends x y front → AppendsPart y z text → AppendsPart x z (front ++ text)
part_after None y z front text h k = tt
part_after (Some xs) None z front text h k = absurd h
part_after (Some xs) (Some ys) None front text h k = absurd k
part_after (Some xs) (Some ys) (Some zs) front text h k = (
  length front + k.0,
  omega (arith, k.1, length-append front text),
  k.2 ∙ ap (λ l. l ++ take k.0 text) h ∙ append_assoc xs front (take k.0 text) ∙ ap (λ l. xs ++ l) (sym (take-append-add front text k.0)),
)

-- a proper part of a front is one of the whole
pub part_of_more : (x y : Option (List ℕ)) (front more : List ℕ) → AppendsPart x y front → AppendsPart x y (front ++ more)
part_of_more None y front more h = tt
part_of_more (Some xs) None front more h = absurd h
part_of_more (Some xs) (Some ys) front more h =
    let short : h.0 ≤ length front = omega (arith, h.1) in
    (h.0, omega (arith, h.1, length-append front more), h.2 ∙ ap (λ t. xs ++ t) (sym (take-append-le h.0 front more short)))

-- these answers were printed, and with what the bytes that are left give they are all that is due
pub record OnWay {State : Type 0} (a : Answerer State) (all : Walked State) (s : Standing State) (held left : List ℕ) (before now : Option (List ℕ)) : Type 0 where
  pub done : List Exchange
  pub printed : Appends before now (reply_lines done)
  pub is : all ≡ then_on done (Ok s) (λ t. resumed a t held left)

pub way_starts : {State : Type 0} (a : Answerer State) (s : Standing State) (held piece : List ℕ) (now : Option (List ℕ)) → OnWay a (resumed a s held piece) s held piece now now
way_starts a s held piece now = record { done = []; printed = appends_nothing now; is = refl }

-- behind one answer more
text_behind : {State : Type 0} (done : List Exchange) (w : Walked State) (s : Standing State) → w.stands ≡ Ok s → reply_lines (done ++ w.answers) ≡ reply_lines done ++ text_of w
text_behind done w s e =
    reply_lines-append done w.answers ∙ ap (λ l. reply_lines done ++ l) (sym (ap (λ r. reply_lines w.answers ++ last_text r) e ∙ append-nil (reply_lines w.answers)))

pub way_goes : {State T : Type 0} (a : Answerer State) (all : Walked State) (s t : Standing State) (held more : List ℕ) (byte : ℕ) (before now next : Option (List ℕ)) (d : T)
    → OnWay a all s held (byte ∷ more) before now → All IsNoLf held → ((byte_answer a s held byte).stands ≡ Ok t) × Appends now next (text_of (byte_answer a s held byte))
    → OnWay a all t (held_after held byte) more before next
way_goes {State = State} a all s t held more byte before now next d way free h =
    let ba = byte_answer a s held byte in
    let on : Standing State → Walked State = λ u. resumed a u (held_after held byte) more in
    record {
      done = way.done ++ ba.answers;
      printed = let P : List ℕ → Type 0 = λ l. Appends before next l in
          subst P (sym (text_behind way.done ba t h.0)) (appends_more before now next (reply_lines way.done) (text_of ba) way.printed h.1);
      is = way.is ∙ ap (λ (w : Walked State). then_on way.done (Ok s) (λ (u : Standing State). w)) (resumed_cons a s held byte more free)
          ∙ ap (λ (r : Result (Standing State) Ending). then_on way.done (Ok s) (λ (u : Standing State). then_on ba.answers r on)) h.0
          ∙ ap (λ (l : List Exchange). record { answers = l; stands = (on t).stands }) (sym (append_assoc way.done ba.answers (on t).answers));
    }

-- a text that ends with these answers, or goes on behind them
text_begins : {State : Type 0} (answers : List Exchange) (r : Result (Standing State) Ending) (on : Standing State → Walked State)
    → (more : List ℕ) × (text_of (then_on answers r on) ≡ (reply_lines answers ++ last_text r) ++ more)
text_begins answers (Err e) on = ([], sym (append-nil _))
text_begins answers (Ok s) on = (text_of (on s), text_then answers s on ∙ ap (λ l. l ++ text_of (on s)) (sym (append-nil (reply_lines answers))))

pub way_fails : {State : Type 0} (a : Answerer State) (all : Walked State) (s : Standing State) (held more : List ℕ) (byte : ℕ) (before now next : Option (List ℕ))
    → OnWay a all s held (byte ∷ more) before now → All IsNoLf held → AppendsPart now next (text_of (byte_answer a s held byte)) → AppendsPart before next (text_of all)
way_fails {State = State} a all s held more byte before now next way free h =
    let ba = byte_answer a s held byte in
    let on : Standing State → Walked State = λ u. resumed a u (held_after held byte) more in
    let begins = text_begins ba.answers ba.stands on in
    let text : text_of all ≡ reply_lines way.done ++ (text_of ba ++ begins.0) =
    ap text_of way.is ∙ text_then way.done s (λ (u : Standing State). resumed a u held (byte ∷ more))
    ∙ ap (λ (w : Walked State). reply_lines way.done ++ text_of w) (resumed_cons a s held byte more free)
    ∙ ap (λ l. reply_lines way.done ++ l) begins.1 in
    let P : List ℕ → Type 0 = λ l. AppendsPart before next l in
    subst P (sym text) (part_after before now next (reply_lines way.done) (text_of ba ++ begins.0) way.printed (part_of_more now next (text_of ba) begins.0 h))

pub way_ends : {State : Type 0} (a : Answerer State) (all : Walked State) (s : Standing State) (held more : List ℕ) (byte : ℕ) (e : Ending) (before now next : Option (List ℕ))
    → OnWay a all s held (byte ∷ more) before now → All IsNoLf held → ((byte_answer a s held byte).stands ≡ Err e) × Appends now next (text_of (byte_answer a s held byte))
    → (all.stands ≡ Err e) × Appends before next (text_of all)
way_ends {State = State} a all s held more byte e before now next way free h =
    let ba = byte_answer a s held byte in
    let on : Standing State → Walked State = λ u. resumed a u (held_after held byte) more in
    let is : all ≡ record { answers = way.done ++ ba.answers; stands = Err e } =
    way.is ∙ ap (λ (w : Walked State). then_on way.done (Ok s) (λ (u : Standing State). w)) (resumed_cons a s held byte more free)
    ∙ ap (λ (r : Result (Standing State) Ending). then_on way.done (Ok s) (λ (u : Standing State). then_on ba.answers r on)) h.0 in
    let text : text_of all ≡ reply_lines way.done ++ text_of ba =
    ap text_of is ∙ ap (λ l. l ++ ending_text e) (reply_lines-append way.done ba.answers) ∙ append_assoc (reply_lines way.done) (reply_lines ba.answers) (ending_text e)
    ∙ ap (λ (r : Result (Standing State) Ending). reply_lines way.done ++ (reply_lines ba.answers ++ last_text r)) (sym h.0) in
    let P : List ℕ → Type 0 = λ l. Appends before next l in
    (ap (λ (w : Walked _). w.stands) is, subst P (sym text) (appends_more before now next (reply_lines way.done) (text_of ba) way.printed h.1))

pub way_halts : {State T : Type 0} (a : Answerer State) (all : Walked State) (s t u : Standing State) (held more : List ℕ) (byte : ℕ) (r q : Result T Halt) (halt : Halt) (before now next : Option (List ℕ))
    → OnWay a all s held (byte ∷ more) before now → All IsNoLf held → q ≡ Err halt → r ≡ Err halt → Walks r (byte_answer a s held byte) t now next → Walks q all u before next
way_halts a all s t u held more byte r (Ok d) halt before now next way free p e h = absurd cc
way_halts a all s t u held more byte (Ok d) q halt before now next way free p e h = absurd cc
way_halts a all s t u held more byte (Err (Ended x)) (Err (Ended y)) halt before now next way free p e h =
    let same : x ≡ y = cc in
    way_ends a all s held more byte y before now next way free (h.0 ∙ ap (λ z. Err z) same, h.1)
way_halts a all s t u held more byte (Err Failed) (Err Failed) halt before now next way free p e h = way_fails a all s held more byte before now next way free h
way_halts a all s t u held more byte (Err (Ended x)) (Err Failed) halt before now next way free p e h = absurd cc
way_halts a all s t u held more byte (Err Failed) (Err (Ended y)) halt before now next way free p e h = absurd cc

-- the first of the bytes that are left
pub next_way : {State : Type 0} (a : Answerer State) (all : Walked State) (s : Standing State) (held piece : List ℕ) (i : ℕ) (before now : Option (List ℕ)) → i < length piece
    → OnWay a all s held (drop i piece) before now → OnWay a all s held (get_or piece i 0 ∷ drop (i + 1) piece) before now
next_way a all s held piece i before now lt way =
    let P : List ℕ → Type 0 = λ l. OnWay a all s held l before now in
    subst P (drop-cons piece i 0 lt ∙ ap (λ n. get_or piece i 0 ∷ drop n piece) (sym (add-one i))) way

-- no byte is left
pub last_way : {State : Type 0} (a : Answerer State) (all : Walked State) (s : Standing State) (held piece : List ℕ) (i : ℕ) (before now : Option (List ℕ)) → length piece ≤ i
    → OnWay a all s held (drop i piece) before now → OnWay a all s held [] before now
last_way a all s held piece i before now le way =
    let P : List ℕ → Type 0 = λ l. OnWay a all s held l before now in
    subst P (drop_of_length-le piece le) way

-- no byte is left
pub way_stops : {State : Type 0} (a : Answerer State) (all : Walked State) (s : Standing State) (held : List ℕ) (before now : Option (List ℕ))
    → OnWay a all s held [] before now → All IsNoLf held → length held ≤ line_limit → (all.stands ≡ Ok s) × Appends before now (text_of all)
way_stops {State = State} a all s held before now way free le =
    let is : all ≡ record { answers = way.done; stands = Ok s } =
    way.is ∙ ap (λ (w : Walked State). then_on way.done (Ok s) (λ (u : Standing State). w)) (resumed_nil a s held free le) ∙ ap (λ (l : List Exchange). record { answers = l; stands = Ok s }) (append-nil way.done) in
    let P : List ℕ → Type 0 = λ l. Appends before now l in
    (ap (λ (w : Walked _). w.stands) is, subst P (sym (ap text_of is ∙ append-nil (reply_lines way.done))) way.printed)
