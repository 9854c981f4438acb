-- Certificates: each part is read in one way, and the whole has each part.
use Rattle.std.proofs.Common.{◌≡◌, inl, inr, ℕ, ◌-◌, ◌^◌, min, unsigned_abs, List, [], ◌∷◌, ◌++◌, Result, Ok, Err, true, refl, ap, sym, ◌∙◌, subst}
use Rattle.vp_terms.specs.declared.ratio.Ratio.{Ratio}
use Rattle.vp_terms.specs.declared.package.Part.{Part}
use Rattle.vp_terms.specs.declared.package.Part.TheVariants as part
use Rattle.vp_terms.specs.Tree.{ExprTree}
use Rattle.vp_grammar.specs.declared.terminal.Operator.TheVariants as operator
use Rattle.vp_grammar.specs.declared.terminal.Symbol.TheVariants as symbol
use Rattle.vp_lex.specs.declared.word.ReservedWord.TheVariants as word
use Rattle.vp_grammar.specs.declared.terminal.Terminal.{Terminal}
use Rattle.vp_grammar.specs.declared.terminal.Terminal.TheVariants as terminal
use Rattle.vp_grammar.specs.declared.fault.ParseErr.{ParseErr}
use Rattle.vp_grammar.specs.declared.fault.ParseErr.TheVariants.{Form, Memory}
use Rattle.vp_grammar.specs.Reads.{IsExpression, Fails, Reads}
use Rattle.vp_grammar.specs.Front.{NotBegins, IsWholeFront}
use Rattle.vp_grammar.specs.EntryReads.{Goes, Behind}
use Rattle.vp_grammar.specs.Certificates.{label_of, part_word}
use Rattle.vp_terms.specs.Packages.{TermTree, Product, Squares, Multiple}
use Rattle.vp_grammar.specs.CertificateReads.{IsLabel, IsProduct, MaybeOf, IsBracketed, IsNoSquare, AreSquares, IsStrict, IsSum, IsEquation, IsLater, IsClosed, AreTerms, IsPart, IsHead}
use Rattle.vp_grammar.proofs.Unique.{tail_of}
use Rattle.vp_grammar.proofs.Lists.{Once, EndsOnce, Parts, SoFar, OtherThanEnd, listed_once, one_way, behind_once, steps_on, goes_on, ended}
use Rattle.vp_grammar.proofs.EntrySteps.{semicolon, expression_once}

abbrev pub star : Terminal
star = terminal.Operator operator.Star

abbrev pub sq : Terminal
sq = terminal.Word word.Sq

pub star_other : OtherThanEnd star
star_other r s e = absurd (cc)

-- numbers
pub label_of_whole : (ts : List Terminal) (n m : ℕ) (rest : List Terminal) → IsWholeFront ts n rest → m ≡ min n (2 ^ 32 - 1) → IsLabel ts m rest
label_of_whole ts n m rest h e = let k : n ≡ unsigned_abs h.0.num = h.2 in (h.0, h.1, e ∙ ap (λ (x : ℕ). min x (2 ^ 32 - 1)) k)

pub no_label : (ts : List Terminal) → ((n : ℕ) (rest : List Terminal) → IsWholeFront ts n rest → ⊥) → (n : ℕ) (rest : List Terminal) → IsLabel ts n rest → ⊥
no_label ts none n rest h = none (unsigned_abs h.0.num) rest (h.0, h.1, refl)

same_number : (q r : Ratio) (ts us : List Terminal) → terminal.Number q true ∷ ts ≡ terminal.Number r true ∷ us → q ≡ r
same_number q r ts us e = cc

pub whole_once : Once IsWholeFront
whole_once ts n m r s g h =
    let k : terminal.Number g.0 true ∷ r ≡ terminal.Number h.0 true ∷ s = sym g.1 ∙ h.1 in
    (g.2 ∙ ap (λ (q : Ratio). unsigned_abs q.num) (same_number g.0 h.0 r s k) ∙ sym h.2, tail_of _ _ _ _ k)

pub label_once : Once IsLabel
label_once ts n m r s g h =
    let k : terminal.Number g.0 true ∷ r ≡ terminal.Number h.0 true ∷ s = sym g.1 ∙ h.1 in
    (g.2 ∙ ap label_of (same_number g.0 h.0 r s k) ∙ sym h.2, tail_of _ _ _ _ k)

-- labels
pub product_once : Once IsProduct
product_once = listed_once IsLabel star label_once star_other

pub labels_once : Once MaybeOf
labels_once ts [] [] r s g h = (refl, tail_of _ _ _ _ (sym g ∙ h))
labels_once ts [] (v ∷ vs) r s g h = let e : semicolon ∷ r ≡ terminal.Word word.Of ∷ h.0 = sym g ∙ h.1 in absurd (cc)
labels_once ts (u ∷ us) [] r s g h = let e : semicolon ∷ s ≡ terminal.Word word.Of ∷ g.0 = sym h ∙ g.1 in absurd (cc)
labels_once ts (u ∷ us) (v ∷ vs) r s g h =
    let e : g.0 ≡ h.0 = tail_of _ _ _ _ (sym g.1 ∙ h.1) in
    let l : IsProduct g.0 (u ∷ us) r = g.2 in
    product_once h.0 (u ∷ us) (v ∷ vs) r s (subst (λ (x : List Terminal). IsProduct x (u ∷ us) r) e l) h.2

of_product : (ts more : List Terminal) (ls : List ℕ) (r : List Terminal) → ts ≡ terminal.Word word.Of ∷ more → IsProduct more ls r → MaybeOf ts ls r
of_product ts more [] r e h = absurd h
of_product ts more (l ∷ ls) r e h = (more, e, h)

product_of : (ts more : List Terminal) (ls : List ℕ) (r : List Terminal) → ts ≡ terminal.Word word.Of ∷ more → MaybeOf ts ls r → IsProduct more ls r
product_of ts more [] r e h = let k : terminal.Word word.Of ∷ more ≡ semicolon ∷ r = sym e ∙ h in absurd (cc)
product_of ts more (l ∷ ls) r e h =
    let k : h.0 ≡ more = tail_of _ _ _ _ (sym h.1 ∙ e) in
    let p : IsProduct h.0 (l ∷ ls) r = h.2 in
    subst (λ (x : List Terminal). IsProduct x (l ∷ ls) r) k p

pub reads_of : {X : Type 0} (view : X → List ℕ) (rest : X → List Terminal) (ts more : List Terminal) (result : Result X ParseErr) → ts ≡ terminal.Word word.Of ∷ more → Reads view rest (IsProduct more) result → Reads view rest (MaybeOf ts) result
reads_of view rest ts more (Ok x) e h = of_product ts more (view x) (rest x) e h
reads_of view rest ts more (Err Form) e h = λ t r q. h t r (product_of ts more t r e q)
reads_of view rest ts more (Err Memory) e h = tt

pub no_labels : (ts : List Terminal) → NotBegins semicolon ts → NotBegins (terminal.Word word.Of) ts → (ls : List ℕ) (r : List Terminal) → MaybeOf ts ls r → ⊥
no_labels ts none no_of [] r h = none r h
no_labels ts none no_of (l ∷ ls) r h = no_of h.0 h.1

-- brackets
inner_of : (ts more : List Terminal) (t : ExprTree) (r : List Terminal) → ts ≡ terminal.Symbol symbol.Open ∷ more → IsBracketed ts t r → IsExpression more t (terminal.Symbol symbol.Close ∷ r)
inner_of ts more t r e h =
    let k : h.0 ≡ more = tail_of _ _ _ _ (sym h.1 ∙ e) in
    let p : IsExpression h.0 t (terminal.Symbol symbol.Close ∷ r) = h.2 in
    subst (λ (x : List Terminal). IsExpression x t (terminal.Symbol symbol.Close ∷ r)) k p

pub bracketed_fails : (ts more : List Terminal) (e : ParseErr) → ts ≡ terminal.Symbol symbol.Open ∷ more → Fails (IsExpression more) e → Fails (IsBracketed ts) e
bracketed_fails ts more Form k f = λ t r h. f t (terminal.Symbol symbol.Close ∷ r) (inner_of ts more t r k h)
bracketed_fails ts more Memory k f = tt

pub unclosed : (ts more rest : List Terminal) (u : ExprTree) → ts ≡ terminal.Symbol symbol.Open ∷ more → IsExpression more u rest → NotBegins (terminal.Symbol symbol.Close) rest → (t : ExprTree) (r : List Terminal) → IsBracketed ts t r → ⊥
unclosed ts more rest u k g none t r h = none r (expression_once more u t rest (terminal.Symbol symbol.Close ∷ r) g (inner_of ts more t r k h)).1

pub closed : (ts more rest after : List Terminal) (t : ExprTree) → ts ≡ terminal.Symbol symbol.Open ∷ more → IsExpression more t rest → rest ≡ terminal.Symbol symbol.Close ∷ after → IsBracketed ts t after
closed ts more rest after t k g e = (more, k, subst (λ (x : List Terminal). IsExpression more t x) e g)

pub not_open : (ts : List Terminal) → NotBegins (terminal.Symbol symbol.Open) ts → (t : ExprTree) (r : List Terminal) → IsBracketed ts t r → ⊥
not_open ts none t r h = none h.0 h.1

pub bracketed_once : Once IsBracketed
bracketed_once ts t u r s g h =
    let k : (t ≡ u) × (terminal.Symbol symbol.Close ∷ r ≡ terminal.Symbol symbol.Close ∷ s) = expression_once g.0 t u (terminal.Symbol symbol.Close ∷ r) (terminal.Symbol symbol.Close ∷ s) g.2 (inner_of ts g.0 u s g.1 h) in
    (k.0, tail_of _ _ _ _ k.1)

-- squares
abbrev IsSquare : List Terminal → ExprTree → List Terminal → Type 0
IsSquare = Behind IsBracketed sq

square_once : Once IsSquare
square_once = behind_once IsBracketed sq bracketed_once

no_square_once : EndsOnce IsNoSquare
no_square_once ts r s g h = sym g.0 ∙ h.0

square_parts : Parts IsSquare IsNoSquare
square_parts ts t r s g h = h.1 g.0 (sym h.0 ∙ g.1)

abbrev pub SquaresSoFar : List Terminal → List ExprTree → List Terminal → Type 0
SquaresSoFar ts found at = SoFar (Behind IsBracketed sq) IsNoSquare (AreSquares ts) found at

pub squares_begin : (ts : List Terminal) → SquaresSoFar ts [] ts
squares_begin ts = record { forward = λ us rest g. g; backward = λ all rest w. (all, refl, w) }

pub square_more : (ts at more after : List Terminal) (found : List ExprTree) (t : ExprTree) → SquaresSoFar ts found at → at ≡ sq ∷ more → IsBracketed more t after → SquaresSoFar ts (found ++ t ∷ []) after
square_more ts at more after found t so_far e h = steps_on IsSquare IsNoSquare (AreSquares ts) square_once square_parts found at after t so_far (more, e, h)

no_square_next : (ts at more : List Terminal) (found : List ExprTree) → SquaresSoFar ts found at → at ≡ sq ∷ more → ((t : ExprTree) (r : List Terminal) → IsBracketed more t r → ⊥) → (all : List ExprTree) (rest : List Terminal) → AreSquares ts all rest → ⊥
no_square_next ts at more found so_far e none all rest w =
    let k : (t : ExprTree) × (r : List Terminal) × IsSquare at t r = goes_on IsSquare IsNoSquare (AreSquares ts) found at so_far (λ r f. f.1 more (sym f.0 ∙ e)) all rest w in
    let f : k.2.0 ≡ more = tail_of sq sq _ _ (sym k.2.1 ∙ e) in
    let l : IsBracketed k.2.0 k.0 k.1 = k.2.2 in
    none k.0 k.1 (subst (λ (x : List Terminal). IsBracketed x k.0 k.1) f l)

pub square_fails : (ts at more : List Terminal) (found : List ExprTree) (e : ParseErr) → SquaresSoFar ts found at → at ≡ sq ∷ more → Fails (IsBracketed more) e → Fails (AreSquares ts) e
square_fails ts at more found Form so_far e h = no_square_next ts at more found so_far e h
square_fails ts at more found Memory so_far e h = tt

pub squares_end : (ts at : List Terminal) (found : List ExprTree) → SquaresSoFar ts found at → NotBegins sq at → AreSquares ts found at
squares_end ts at found so_far none = ended IsSquare IsNoSquare (AreSquares ts) found at at so_far (refl, none)

pub squares_once : Once AreSquares
squares_once ts us vs r s g h = one_way IsSquare IsNoSquare square_once no_square_once square_parts us vs ts r s g h

-- what one part leaves is where the next begins
moved : {T : Type 0} (reading : List Terminal → T → List Terminal → Type 0) (at to : List Terminal) (t : T) (r : List Terminal) → at ≡ to → reading at t r → reading to t r
moved reading at to t r e h = subst (λ (x : List Terminal). reading x t r) e h

-- the first term
strict_labels : (ts behind : List Terminal) (n : ℕ) → IsWholeFront ts n behind → (t : TermTree) (r : List Terminal) → (h : IsStrict ts t r) → (n ≡ h.times) × MaybeOf behind h.labels r
strict_labels ts behind n g t r h =
    let k : (n ≡ h.times) × (behind ≡ h.behind) = whole_once ts n h.times behind h.behind g h.whole in
    (k.0, moved MaybeOf h.behind behind h.labels r (sym k.1) h.product)

pub no_strict : (ts : List Terminal) → ((n : ℕ) (r : List Terminal) → IsWholeFront ts n r → ⊥) → (t : TermTree) (r : List Terminal) → IsStrict ts t r → ⊥
no_strict ts none t r h = none h.times h.behind h.whole

pub strict_fails : (ts behind : List Terminal) (n : ℕ) (e : ParseErr) → IsWholeFront ts n behind → Fails (MaybeOf behind) e → Fails (IsStrict ts) e
strict_fails ts behind n Form g f = λ t r h. f h.labels r (strict_labels ts behind n g t r h).1
strict_fails ts behind n Memory g f = tt

pub strict_once : Once IsStrict
strict_once ts t u r s g h =
    let k : (g.times ≡ h.times) × MaybeOf g.behind h.labels s = strict_labels ts g.behind g.times g.whole u s h in
    let l : (g.labels ≡ h.labels) × (r ≡ s) = labels_once g.behind g.labels h.labels r s g.product k.1 in
    let a : g.times ≡ h.times = k.0 in let b : g.labels ≡ h.labels = l.0 in
    let c : t ≡ Product g.times g.labels = g.is in let d : u ≡ Product h.times h.labels = h.is in
    (cc, l.1)

-- sums
sum_squares : (ts behind : List Terminal) (n : ℕ) → IsWholeFront ts n behind → (t : TermTree) (r : List Terminal) → (h : IsSum ts t r) → (n ≡ h.times) × AreSquares behind h.squares h.behind_squares
sum_squares ts behind n g t r h =
    let k : (n ≡ h.times) × (behind ≡ h.behind) = whole_once ts n h.times behind h.behind g h.whole in
    (k.0, moved AreSquares h.behind behind h.squares h.behind_squares (sym k.1) h.are_squares)

sum_labels : (ts behind behind_squares : List Terminal) (n : ℕ) (es : List ExprTree) → IsWholeFront ts n behind → AreSquares behind es behind_squares → (t : TermTree) (r : List Terminal) → (h : IsSum ts t r) → (n ≡ h.times) × (es ≡ h.squares) × MaybeOf behind_squares h.labels r
sum_labels ts behind behind_squares n es g f t r h =
    let k : (n ≡ h.times) × AreSquares behind h.squares h.behind_squares = sum_squares ts behind n g t r h in
    let l : (es ≡ h.squares) × (behind_squares ≡ h.behind_squares) = squares_once behind es h.squares behind_squares h.behind_squares f k.1 in
    (k.0, l.0, moved MaybeOf h.behind_squares behind_squares h.labels r (sym l.1) h.product)

pub no_sum : (ts : List Terminal) → ((n : ℕ) (r : List Terminal) → IsWholeFront ts n r → ⊥) → (t : TermTree) (r : List Terminal) → IsSum ts t r → ⊥
no_sum ts none t r h = none h.times h.behind h.whole

pub sum_fails_squares : (ts behind : List Terminal) (n : ℕ) (e : ParseErr) → IsWholeFront ts n behind → Fails (AreSquares behind) e → Fails (IsSum ts) e
sum_fails_squares ts behind n Form g f = λ t r h. f h.squares h.behind_squares (sum_squares ts behind n g t r h).1
sum_fails_squares ts behind n Memory g f = tt

pub sum_fails_labels : (ts behind behind_squares : List Terminal) (n : ℕ) (es : List ExprTree) (e : ParseErr) → IsWholeFront ts n behind → AreSquares behind es behind_squares → Fails (MaybeOf behind_squares) e → Fails (IsSum ts) e
sum_fails_labels ts behind behind_squares n es Form g k f = λ t r h. f h.labels r (sum_labels ts behind behind_squares n es g k t r h).2
sum_fails_labels ts behind behind_squares n es Memory g k f = tt

pub sum_once : Once IsSum
sum_once ts t u r s g h =
    let k : (g.times ≡ h.times) × (g.squares ≡ h.squares) × MaybeOf g.behind_squares h.labels s = sum_labels ts g.behind g.behind_squares g.times g.squares g.whole g.are_squares u s h in
    let l : (g.labels ≡ h.labels) × (r ≡ s) = labels_once g.behind_squares g.labels h.labels r s g.product k.2 in
    let a : g.times ≡ h.times = k.0 in let b : g.labels ≡ h.labels = l.0 in let e : g.squares ≡ h.squares = k.1 in
    let c : t ≡ Squares g.times g.squares g.labels = g.is in let d : u ≡ Squares h.times h.squares h.labels = h.is in
    (cc, l.1)

-- equations
behind_label : (ts rest : List Terminal) (n : ℕ) → IsLabel ts n rest → (t : TermTree) (r : List Terminal) → (h : IsEquation ts t r) → (n ≡ h.label) × (rest ≡ terminal.Word word.Times ∷ h.behind)
behind_label ts rest n g t r h = label_once ts n h.label rest (terminal.Word word.Times ∷ h.behind) g h.is_label

behind_times : (ts rest more : List Terminal) (n : ℕ) → IsLabel ts n rest → rest ≡ terminal.Word word.Times ∷ more → (t : TermTree) (r : List Terminal) → (h : IsEquation ts t r) → (n ≡ h.label) × IsBracketed more h.times (semicolon ∷ r)
behind_times ts rest more n g e t r h =
    let k : (n ≡ h.label) × (rest ≡ terminal.Word word.Times ∷ h.behind) = behind_label ts rest n g t r h in
    let l : h.behind ≡ more = tail_of _ _ _ _ (sym k.1 ∙ e) in
    (k.0, moved IsBracketed h.behind more h.times (semicolon ∷ r) l h.bracketed)

pub no_equation : (ts : List Terminal) → ((n : ℕ) (r : List Terminal) → IsLabel ts n r → ⊥) → (t : TermTree) (r : List Terminal) → IsEquation ts t r → ⊥
no_equation ts none t r h = none h.label (terminal.Word word.Times ∷ h.behind) h.is_label

pub no_times : (ts rest : List Terminal) (n : ℕ) → IsLabel ts n rest → NotBegins (terminal.Word word.Times) rest → (t : TermTree) (r : List Terminal) → IsEquation ts t r → ⊥
no_times ts rest n g none t r h = none h.behind (behind_label ts rest n g t r h).1

pub equation_fails : (ts rest more : List Terminal) (n : ℕ) (e : ParseErr) → IsLabel ts n rest → rest ≡ terminal.Word word.Times ∷ more → Fails (IsBracketed more) e → Fails (IsEquation ts) e
equation_fails ts rest more n Form g k f = λ t r h. f h.times (semicolon ∷ r) (behind_times ts rest more n g k t r h).1
equation_fails ts rest more n Memory g k f = tt

pub not_ended : (ts rest more behind : List Terminal) (n : ℕ) (u : ExprTree) → IsLabel ts n rest → rest ≡ terminal.Word word.Times ∷ more → IsBracketed more u behind → NotBegins semicolon behind → (t : TermTree) (r : List Terminal) → IsEquation ts t r → ⊥
not_ended ts rest more behind n u g k b none t r h = none r (bracketed_once more u h.times behind (semicolon ∷ r) b (behind_times ts rest more n g k t r h).1).1

pub equation_of : (ts rest more behind after : List Terminal) (n : ℕ) (t : ExprTree) → IsLabel ts n rest → rest ≡ terminal.Word word.Times ∷ more → IsBracketed more t behind → behind ≡ semicolon ∷ after → IsEquation ts (Multiple n t) after
equation_of ts rest more behind after n t g k b e = record {
  label = n;
  times = t;
  behind = more;
  is_label = subst (λ (x : List Terminal). IsLabel ts n x) k g;
  bracketed = subst (λ (x : List Terminal). IsBracketed more t x) e b;
  is = refl;
}

pub equation_once : Once IsEquation
equation_once ts t u r s g h =
    let k : (g.label ≡ h.label) × IsBracketed g.behind h.times (semicolon ∷ s) = behind_times ts (terminal.Word word.Times ∷ g.behind) g.behind g.label g.is_label refl u s h in
    let l : (g.times ≡ h.times) × (semicolon ∷ r ≡ semicolon ∷ s) = bracketed_once g.behind g.times h.times (semicolon ∷ r) (semicolon ∷ s) g.bracketed k.1 in
    let a : g.label ≡ h.label = k.0 in let b : g.times ≡ h.times = l.0 in
    let c : t ≡ Multiple g.label g.times = g.is in let d : u ≡ Multiple h.label h.times = h.is in
    (cc, tail_of _ _ _ _ l.1)

-- later terms
abbrev LaterSum : List Terminal → TermTree → List Terminal → Type 0
LaterSum ts t r = (more : List Terminal) × (ts ≡ terminal.Word word.Sum ∷ more) × IsSum more t r

abbrev LaterEquation : List Terminal → TermTree → List Terminal → Type 0
LaterEquation ts t r = (more : List Terminal) × (ts ≡ terminal.Word word.Eq ∷ more) × IsEquation more t r

sum_of_later : (ts more : List Terminal) (t : TermTree) (r : List Terminal) → ts ≡ terminal.Word word.Sum ∷ more → IsLater ts t r → IsSum more t r
sum_of_later ts more t r e (inl h) = moved IsSum h.0 more t r (tail_of _ _ _ _ (sym h.1 ∙ e)) h.2
sum_of_later ts more t r e (inr h) = let k : terminal.Word word.Sum ∷ more ≡ terminal.Word word.Eq ∷ h.0 = sym e ∙ h.1 in absurd (cc)

equation_of_later : (ts more : List Terminal) (t : TermTree) (r : List Terminal) → ts ≡ terminal.Word word.Eq ∷ more → IsLater ts t r → IsEquation more t r
equation_of_later ts more t r e (inr h) = moved IsEquation h.0 more t r (tail_of _ _ _ _ (sym h.1 ∙ e)) h.2
equation_of_later ts more t r e (inl h) = let k : terminal.Word word.Eq ∷ more ≡ terminal.Word word.Sum ∷ h.0 = sym e ∙ h.1 in absurd (cc)

pub reads_sum : {X : Type 0} (view : X → TermTree) (rest : X → List Terminal) (ts more : List Terminal) (result : Result X ParseErr) → ts ≡ terminal.Word word.Sum ∷ more → Reads view rest (IsSum more) result → Reads view rest (IsLater ts) result
reads_sum view rest ts more (Ok x) e h = inl (more, e, h)
reads_sum view rest ts more (Err Form) e h = λ t r q. h t r (sum_of_later ts more t r e q)
reads_sum view rest ts more (Err Memory) e h = tt

pub reads_equation : {X : Type 0} (view : X → TermTree) (rest : X → List Terminal) (ts more : List Terminal) (result : Result X ParseErr) → ts ≡ terminal.Word word.Eq ∷ more → Reads view rest (IsEquation more) result → Reads view rest (IsLater ts) result
reads_equation view rest ts more (Ok x) e h = inr (more, e, h)
reads_equation view rest ts more (Err Form) e h = λ t r q. h t r (equation_of_later ts more t r e q)
reads_equation view rest ts more (Err Memory) e h = tt

pub no_later : (ts : List Terminal) → NotBegins (terminal.Word word.Sum) ts → NotBegins (terminal.Word word.Eq) ts → (t : TermTree) (r : List Terminal) → IsLater ts t r → ⊥
no_later ts no_sum no_eq t r (inl h) = no_sum h.0 h.1
no_later ts no_sum no_eq t r (inr h) = no_eq h.0 h.1

pub later_once : Once IsLater
later_once ts t u r s (inl g) h = sum_once g.0 t u r s g.2 (sum_of_later ts g.0 u s g.1 h)
later_once ts t u r s (inr g) h = equation_once g.0 t u r s g.2 (equation_of_later ts g.0 u s g.1 h)

later_parts : Parts IsLater IsClosed
later_parts ts t r s (inl g) h = let k : terminal.Word word.Sum ∷ g.0 ≡ terminal.Symbol symbol.BraceClose ∷ s = sym g.1 ∙ h in absurd (cc)
later_parts ts t r s (inr g) h = let k : terminal.Word word.Eq ∷ g.0 ≡ terminal.Symbol symbol.BraceClose ∷ s = sym g.1 ∙ h in absurd (cc)

closed_once : EndsOnce IsClosed
closed_once ts r s g h = tail_of (terminal.Symbol symbol.BraceClose) (terminal.Symbol symbol.BraceClose) _ _ (sym g ∙ h)

-- all terms
abbrev pub TermsSoFar : List Terminal → List TermTree → List Terminal → Type 0
TermsSoFar ts found at = SoFar IsLater IsClosed (AreTerms ts) found at

strict_of : (ts more : List Terminal) (t : TermTree) (us : List TermTree) (r : List Terminal) → ts ≡ terminal.Word word.Pos ∷ more → (h : AreTerms ts (t ∷ us) r) → IsStrict more t h.1
strict_of ts more t us r e h = moved IsStrict h.0 more t h.1 (tail_of _ _ _ _ (sym h.2 ∙ e)) h.3

pub terms_begin : (ts more at : List Terminal) (t : TermTree) → ts ≡ terminal.Word word.Pos ∷ more → IsStrict more t at → TermsSoFar ts (t ∷ []) at
terms_begin ts more at t e h = record {
  forward = λ us rest g. (more, at, e, h, g);
  backward = λ all rest w. back all rest w;
}
  where
    back : (all : List TermTree) (rest : List Terminal) → AreTerms ts all rest → (us : List TermTree) × (all ≡ (t ∷ []) ++ us) × Goes IsLater IsClosed at us rest
    back [] rest w = absurd w
    back (u ∷ us) rest w =
        let k : (u ≡ t) × (w.1 ≡ at) = strict_once more u t w.1 at (strict_of ts more u us rest e w) h in
        let l : Goes IsLater IsClosed w.1 us rest = w.4 in
        (us, ap (λ (x : TermTree). x ∷ us) k.0, subst (λ (x : List Terminal). Goes IsLater IsClosed x us rest) k.1 l)

pub no_pos : (ts : List Terminal) → NotBegins (terminal.Word word.Pos) ts → (all : List TermTree) (r : List Terminal) → AreTerms ts all r → ⊥
no_pos ts none [] r h = h
no_pos ts none (t ∷ us) r h = none h.0 h.2

no_first : (ts more : List Terminal) → ts ≡ terminal.Word word.Pos ∷ more → ((t : TermTree) (r : List Terminal) → IsStrict more t r → ⊥) → (all : List TermTree) (r : List Terminal) → AreTerms ts all r → ⊥
no_first ts more e none [] r h = h
no_first ts more e none (t ∷ us) r h = none t h.1 (strict_of ts more t us r e h)

pub terms_fail_first : (ts more : List Terminal) (e : ParseErr) → ts ≡ terminal.Word word.Pos ∷ more → Fails (IsStrict more) e → Fails (AreTerms ts) e
terms_fail_first ts more Form e f = no_first ts more e f
terms_fail_first ts more Memory e f = tt

pub term_more : (ts at after : List Terminal) (found : List TermTree) (t : TermTree) → TermsSoFar ts found at → IsLater at t after → TermsSoFar ts (found ++ t ∷ []) after
term_more ts at after found t so_far h = steps_on IsLater IsClosed (AreTerms ts) later_once later_parts found at after t so_far h

no_next : (ts at : List Terminal) (found : List TermTree) → TermsSoFar ts found at → NotBegins (terminal.Symbol symbol.BraceClose) at → ((t : TermTree) (r : List Terminal) → IsLater at t r → ⊥) → (all : List TermTree) (r : List Terminal) → AreTerms ts all r → ⊥
no_next ts at found so_far unclosed_yet none all r w =
    let k : (t : TermTree) × (s : List Terminal) × IsLater at t s = goes_on IsLater IsClosed (AreTerms ts) found at so_far unclosed_yet all r w in
    none k.0 k.1 k.2

pub terms_fail_next : (ts at : List Terminal) (found : List TermTree) (e : ParseErr) → TermsSoFar ts found at → NotBegins (terminal.Symbol symbol.BraceClose) at → Fails (IsLater at) e → Fails (AreTerms ts) e
terms_fail_next ts at found Form so_far unclosed_yet f = no_next ts at found so_far unclosed_yet f
terms_fail_next ts at found Memory so_far unclosed_yet f = tt

pub terms_end : (ts at rest : List Terminal) (found : List TermTree) → TermsSoFar ts found at → at ≡ terminal.Symbol symbol.BraceClose ∷ rest → AreTerms ts found rest
terms_end ts at rest found so_far e = ended IsLater IsClosed (AreTerms ts) found at rest so_far e

pub terms_once : Once AreTerms
terms_once ts [] vs r s g h = absurd g
terms_once ts (u ∷ us) [] r s g h = absurd h
terms_once ts (u ∷ us) (v ∷ vs) r s g h =
    let k : (v ≡ u) × (h.1 ≡ g.1) = strict_once g.0 v u h.1 g.1 (strict_of ts g.0 v vs s g.2 h) g.3 in
    let l : Goes IsLater IsClosed h.1 vs s = h.4 in
    let m : (us ≡ vs) × (r ≡ s) = one_way IsLater IsClosed later_once closed_once later_parts us vs g.1 r s g.4 (subst (λ (x : List Terminal). Goes IsLater IsClosed x vs s) k.1 l) in
    let a : v ≡ u = k.0 in let b : us ≡ vs = m.0 in
    (cc, m.1)

-- the head
pub head_of : (ts more behind last rest : List Terminal) (p : Part) (n : ℕ) → ts ≡ terminal.Word word.Cert ∷ more → IsPart more p behind → IsLabel behind n last → last ≡ terminal.Symbol symbol.BraceOpen ∷ rest → IsHead ts p n rest
head_of ts more behind last rest p n a b c d = (c.0, a ∙ ap (λ (xs : List Terminal). terminal.Word word.Cert ∷ xs) (b ∙ ap (λ (xs : List Terminal). terminal.Word (part_word p) ∷ xs) (c.1 ∙ ap (λ (xs : List Terminal). terminal.Number c.0 true ∷ xs) d)), c.2)

part_of_word : (p q : Part) → part_word p ≡ part_word q → p ≡ q
part_of_word part.Init part.Init e = refl
part_of_word part.Init part.Safe e = absurd (cc)
part_of_word part.Init part.Step e = absurd (cc)
part_of_word part.Init part.Fallback e = absurd (cc)
part_of_word part.Safe part.Init e = absurd (cc)
part_of_word part.Safe part.Safe e = refl
part_of_word part.Safe part.Step e = absurd (cc)
part_of_word part.Safe part.Fallback e = absurd (cc)
part_of_word part.Step part.Init e = absurd (cc)
part_of_word part.Step part.Safe e = absurd (cc)
part_of_word part.Step part.Step e = refl
part_of_word part.Step part.Fallback e = absurd (cc)
part_of_word part.Fallback part.Init e = absurd (cc)
part_of_word part.Fallback part.Safe e = absurd (cc)
part_of_word part.Fallback part.Step e = absurd (cc)
part_of_word part.Fallback part.Fallback e = refl

behind_cert : (ts more : List Terminal) (p : Part) (n : ℕ) (r : List Terminal) → ts ≡ terminal.Word word.Cert ∷ more → (h : IsHead ts p n r) → IsPart more p (terminal.Number h.0 true ∷ terminal.Symbol symbol.BraceOpen ∷ r)
behind_cert ts more p n r a h = tail_of _ _ _ _ (sym a ∙ h.1)

pub no_part : (ts more : List Terminal) → ts ≡ terminal.Word word.Cert ∷ more → ((p : Part) (r : List Terminal) → IsPart more p r → ⊥) → (p : Part) (n : ℕ) (r : List Terminal) → IsHead ts p n r → ⊥
no_part ts more a none p n r h = none p (terminal.Number h.0 true ∷ terminal.Symbol symbol.BraceOpen ∷ r) (behind_cert ts more p n r a h)

behind_part : (ts more behind : List Terminal) (q p : Part) (n : ℕ) (r : List Terminal) → ts ≡ terminal.Word word.Cert ∷ more → IsPart more q behind → (h : IsHead ts p n r) → behind ≡ terminal.Number h.0 true ∷ terminal.Symbol symbol.BraceOpen ∷ r
behind_part ts more behind q p n r a b h = tail_of _ _ _ _ (sym b ∙ behind_cert ts more p n r a h)

pub no_number : (ts more behind : List Terminal) (q : Part) → ts ≡ terminal.Word word.Cert ∷ more → IsPart more q behind → ((n : ℕ) (r : List Terminal) → IsLabel behind n r → ⊥) → (p : Part) (n : ℕ) (r : List Terminal) → IsHead ts p n r → ⊥
no_number ts more behind q a b none p n r h = none (label_of h.0) (terminal.Symbol symbol.BraceOpen ∷ r) (h.0, behind_part ts more behind q p n r a b h, refl)

pub no_brace : (ts more behind last : List Terminal) (q : Part) (m : ℕ) → ts ≡ terminal.Word word.Cert ∷ more → IsPart more q behind → IsLabel behind m last → NotBegins (terminal.Symbol symbol.BraceOpen) last → (p : Part) (n : ℕ) (r : List Terminal) → IsHead ts p n r → ⊥
no_brace ts more behind last q m a b c none p n r h = none r (tail_of _ _ _ _ (sym c.1 ∙ behind_part ts more behind q p n r a b h))

pub head_once : (ts : List Terminal) (p q : Part) (n m : ℕ) (r s : List Terminal) → IsHead ts p n r → IsHead ts q m s → (p ≡ q) × (n ≡ m) × (r ≡ s)
head_once ts p q n m r s g h =
    let e : terminal.Word (part_word p) ∷ terminal.Number g.0 true ∷ terminal.Symbol symbol.BraceOpen ∷ r ≡ terminal.Word (part_word q) ∷ terminal.Number h.0 true ∷ terminal.Symbol symbol.BraceOpen ∷ s = tail_of _ _ _ _ (sym g.1 ∙ h.1) in
    let w : part_word p ≡ part_word q = cc in
    let f : terminal.Number g.0 true ∷ terminal.Symbol symbol.BraceOpen ∷ r ≡ terminal.Number h.0 true ∷ terminal.Symbol symbol.BraceOpen ∷ s = tail_of _ _ _ _ e in
    (part_of_word p q w, g.2 ∙ ap label_of (same_number g.0 h.0 _ _ f) ∙ sym h.2, tail_of _ _ _ _ (tail_of _ _ _ _ f))
