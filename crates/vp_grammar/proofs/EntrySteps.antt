-- Names, entries and bounds: each is read in one way, and the whole has each part.
use Rattle.std.proofs.Common.{◌≡◌, ℕ, ◌≤◌, length, List, [], ◌∷◌, map, Option, Result, Ok, Err, refl, ap, sym, ◌∙◌, arith, subst}
use Rattle.std.proofs.lemmas.List.{length-map}
use Rattle.vp_terms.specs.declared.expr.Var.{Var}
use Rattle.vp_terms.specs.Tree.{ExprTree}
use Rattle.vp_grammar.specs.declared.terminal.Span.{Span}
use Rattle.vp_grammar.specs.declared.terminal.Symbol.TheVariants as symbol
use Rattle.vp_lex.specs.declared.word.ReservedWord.{ReservedWord}
use Rattle.vp_lex.specs.declared.word.ReservedWord.TheVariants as word
use Rattle.vp_grammar.specs.declared.terminal.Terminal.{Terminal}
use Rattle.vp_grammar.specs.declared.terminal.Terminal.TheVariants as terminal
use Rattle.vp_grammar.specs.declared.fault.ParseErr.{ParseErr}
use Rattle.vp_grammar.specs.declared.fault.ParseErr.TheVariants.{Form, Memory}
use Rattle.vp_grammar.specs.declared.entries.Mark.{Mark}
use Rattle.vp_grammar.specs.declared.entries.Mark.TheVariants.{Rate, Setting}
use Rattle.vp_grammar.specs.Grammar.{expression_then, expression_tree}
use Rattle.vp_grammar.specs.Reads.{IsExpression, Fails, Reads}
use Rattle.vp_grammar.specs.Front.{NotBegins}
use Rattle.vp_grammar.specs.Entries.{names_then, mark_then, Entries, LastEntry, Entry, entries_then, entry_trees, Bounds, LastBound, Bound, bounds_then, bound_trees, SpellsNames, SpellsEntries, SpellsBounds, SpellsTimes}
use Rattle.vp_grammar.specs.EntryReads.{Listed, IsName, MaybeNames, IsMarked, IsEntry, IsPair, IsBounded, IsBound}
use Rattle.vp_grammar.proofs.Unique.{tail_of, unique_expression}
use Rattle.vp_grammar.proofs.Lists.{Once, OtherThanEnd, Piece, listed_once, behind_listed}

abbrev pub comma : Terminal
comma = terminal.Symbol symbol.Comma

abbrev pub semicolon : Terminal
semicolon = terminal.Symbol symbol.Semicolon

pub comma_other : OtherThanEnd comma
comma_other r s e = absurd (cc)

-- names
pub name_once : Once IsName
name_once ts t u r s g h = let e : terminal.Name t g.0 ∷ r ≡ terminal.Name u h.0 ∷ s = sym g.1 ∙ h.1 in (cc, cc)

-- marks
unmark : (m : Mark) (r s : List Terminal) → mark_then m r ≡ mark_then m s → r ≡ s
unmark Rate r s e = tail_of _ _ _ _ (tail_of _ _ _ _ e)
unmark Setting r s e = tail_of _ _ _ _ e

pub marked_once : (m : Mark) (ts r s : List Terminal) → IsMarked m ts r → IsMarked m ts s → r ≡ s
marked_once m ts r s g h = unmark m r s (tail_of _ _ _ _ (sym g.2 ∙ h.2))

-- entries
pub entry_of : (m : Mark) (ts more rest : List Terminal) (t : ExprTree) → IsMarked m ts more → IsExpression more t rest → IsEntry m ts t rest
entry_of m ts more rest t g h = (g.0, g.1, h.0, g.2 ∙ ap (λ (xs : List Terminal). terminal.Name g.0 g.1 ∷ mark_then m xs) h.1, h.2, h.3)

pub of_entry : (m : Mark) (ts more rest : List Terminal) (t : ExprTree) → IsMarked m ts more → IsEntry m ts t rest → IsExpression more t rest
of_entry m ts more rest t g h = (h.2, marked_once m ts more (expression_then h.2 rest) g (h.0, h.1, h.3), h.4, h.5)

pub reads_entry : {X : Type 0} (view : X → ExprTree) (rest : X → List Terminal) (m : Mark) (ts more : List Terminal) (result : Result X ParseErr) → IsMarked m ts more → Reads view rest (IsExpression more) result → Reads view rest (IsEntry m ts) result
reads_entry view rest m ts more (Ok x) g h = entry_of m ts more (rest x) (view x) g h
reads_entry view rest m ts more (Err Form) g h = λ t r q. h t r (of_entry m ts more r t g q)
reads_entry view rest m ts more (Err Memory) g h = tt

pub no_entry : (m : Mark) (ts : List Terminal) → ((r : List Terminal) → IsMarked m ts r → ⊥) → (t : ExprTree) (r : List Terminal) → IsEntry m ts t r → ⊥
no_entry m ts none t r h = none (expression_then h.2 r) (h.0, h.1, h.3)

pub expression_once : (ts : List Terminal) (t u : ExprTree) (r s : List Terminal) → IsExpression ts t r → IsExpression ts u s → (t ≡ u) × (r ≡ s)
expression_once ts t u r s g h =
    let k : (expression_tree g.0 ≡ expression_tree h.0) × (r ≡ s) = unique_expression g.0 h.0 r s g.3 h.3 (sym g.1 ∙ h.1) in
    (g.2 ∙ k.0 ∙ sym h.2, k.1)

pub entry_once : (m : Mark) → Once (IsEntry m)
entry_once m ts t u r s g h =
    expression_once (expression_then g.2 r) t u r s (g.2, refl, g.4, g.5) (of_entry m ts (expression_then g.2 r) s u (g.0, g.1, g.3) h)

-- pairs
pub pair_fails_low : (ts : List Terminal) (e : ParseErr) → Fails (IsExpression ts) e → Fails (IsPair ts) e
pair_fails_low ts Form f = λ t r h. f (expression_tree h.0) (terminal.Word word.To ∷ expression_then h.1 r) (h.0, h.2, refl, omega arith)
pair_fails_low ts Memory f = tt

after_low : (ts rest r : List Terminal) (u : ExprTree) (t : ExprTree × ExprTree) → IsExpression ts u rest → (h : IsPair ts t r) → (u ≡ expression_tree h.0) × (rest ≡ terminal.Word word.To ∷ expression_then h.1 r)
after_low ts rest r u t g h = expression_once ts u (expression_tree h.0) rest (terminal.Word word.To ∷ expression_then h.1 r) g (h.0, h.2, refl, omega arith)

pub pair_fails_high : (ts rest more : List Terminal) (u : ExprTree) (e : ParseErr) → IsExpression ts u rest → rest ≡ terminal.Word word.To ∷ more → Fails (IsExpression more) e → Fails (IsPair ts) e
pair_fails_high ts rest more u Form g k f = λ t r h. f (expression_tree h.1) r (h.1, tail_of _ _ _ _ (sym k ∙ (after_low ts rest r u t g h).1), refl, h.4)
pair_fails_high ts rest more u Memory g k f = tt

pub no_pair : (ts rest : List Terminal) (u : ExprTree) → IsExpression ts u rest → NotBegins (terminal.Word word.To) rest → (t : ExprTree × ExprTree) (r : List Terminal) → IsPair ts t r → ⊥
no_pair ts rest u g none t r h = none (expression_then h.1 r) (after_low ts rest r u t g h).1

pub pair_of : (ts rest more after : List Terminal) (t u : ExprTree) → IsExpression ts t rest → rest ≡ terminal.Word word.To ∷ more → IsExpression more u after → IsPair ts (t, u) after
pair_of ts rest more after t u g k h =
    let x : t ≡ expression_tree g.0 = g.2 in let y : u ≡ expression_tree h.0 = h.2 in
    (g.0, h.0, g.1 ∙ ap (λ (xs : List Terminal). expression_then g.0 xs) (k ∙ ap (λ (xs : List Terminal). terminal.Word word.To ∷ xs) h.1), cc, h.3)

pub pair_once : (ts : List Terminal) (t u : ExprTree × ExprTree) (r s : List Terminal) → IsPair ts t r → IsPair ts u s → (t ≡ u) × (r ≡ s)
pair_once ts t u r s g h =
    let k : (expression_tree g.0 ≡ expression_tree h.0) × (terminal.Word word.To ∷ expression_then g.1 r ≡ terminal.Word word.To ∷ expression_then h.1 s) = after_low ts (terminal.Word word.To ∷ expression_then g.1 r) s (expression_tree g.0) u (g.0, g.2, refl, omega arith) h in
    let l : (expression_tree g.1 ≡ expression_tree h.1) × (r ≡ s) = unique_expression g.1 h.1 r s g.4 h.4 (tail_of _ _ _ _ k.1) in
    let a : expression_tree g.0 ≡ expression_tree h.0 = k.0 in let b : expression_tree g.1 ≡ expression_tree h.1 = l.0 in
    let x : t ≡ (expression_tree g.0, expression_tree g.1) = g.3 in let y : u ≡ (expression_tree h.0, expression_tree h.1) = h.3 in
    (cc, l.1)

-- bounds
bounded_once : (ts r s : List Terminal) → IsBounded ts r → IsBounded ts s → r ≡ s
bounded_once ts r s g h = tail_of _ _ _ _ (tail_of _ _ _ _ (sym g.2 ∙ h.2))

of_bound : (ts more r : List Terminal) (t : ExprTree × ExprTree) → IsBounded ts more → IsBound ts t r → IsPair more t r
of_bound ts more r t g h = let p : IsPair h.0 t r = h.2 in subst (λ (xs : List Terminal). IsPair xs t r) (bounded_once ts h.0 more h.1 g) p

pub bound_fails : (ts more : List Terminal) (e : ParseErr) → IsBounded ts more → Fails (IsPair more) e → Fails (IsBound ts) e
bound_fails ts more Form g f = λ t r h. f t r (of_bound ts more r t g h)
bound_fails ts more Memory g f = tt

pub no_bound : (ts : List Terminal) → ((r : List Terminal) → IsBounded ts r → ⊥) → (t : ExprTree × ExprTree) (r : List Terminal) → IsBound ts t r → ⊥
no_bound ts none t r h = none h.0 h.1

pub bound_once : Once IsBound
bound_once ts t u r s g h = pair_once g.0 t u r s g.2 (of_bound ts g.0 s u g.1 h)

-- lists of names
pub names_once : Once MaybeNames
names_once ts [] [] r s g h = (refl, tail_of _ _ _ _ (sym g ∙ h))
names_once ts [] (v ∷ vs) r s g h = let e : semicolon ∷ r ≡ terminal.Name v h.1.0 ∷ h.0 = sym g ∙ h.1.1 in absurd (cc)
names_once ts (u ∷ us) [] r s g h = let e : semicolon ∷ s ≡ terminal.Name u g.1.0 ∷ g.0 = sym h ∙ g.1.1 in absurd (cc)
names_once ts (u ∷ us) (v ∷ vs) r s g h = listed_once IsName comma name_once comma_other ts (u ∷ us) (v ∷ vs) r s g h

pub maybe_some : (ts : List Terminal) (spans : List Span) (r : List Terminal) → Listed IsName comma ts spans r → MaybeNames ts spans r
maybe_some ts [] r h = absurd h
maybe_some ts (u ∷ us) r h = h

pub some_maybe : (ts : List Terminal) → NotBegins semicolon ts → (spans : List Span) (r : List Terminal) → MaybeNames ts spans r → Listed IsName comma ts spans r
some_maybe ts none [] r h = absurd (none r h)
some_maybe ts none (u ∷ us) r h = h

pub reads_maybe : {X : Type 0} (view : X → List Span) (rest : X → List Terminal) (ts : List Terminal) (result : Result X ParseErr) → NotBegins semicolon ts → Reads view rest (Listed IsName comma ts) result → Reads view rest (MaybeNames ts) result
reads_maybe view rest ts (Ok x) none h = maybe_some ts (view x) (rest x) h
reads_maybe view rest ts (Err Form) none h = λ t r q. h t r (some_maybe ts none t r q)
reads_maybe view rest ts (Err Memory) none h = tt

names_listed : (n : Span × Option Var) (ns : List (Span × Option Var)) (rest : List Terminal) → Listed IsName comma (names_then (n ∷ ns) (semicolon ∷ rest)) (map (λ m. m.0) (n ∷ ns)) rest
names_listed n [] rest = (semicolon ∷ rest, (n.1, refl), refl)
names_listed n (m ∷ ms) rest = (comma ∷ names_then (m ∷ ms) (semicolon ∷ rest), (n.1, refl), behind_listed IsName comma (names_then (m ∷ ms) (semicolon ∷ rest)) (map (λ k. k.0) (m ∷ ms)) rest (names_listed m ms rest))

abbrev IsNames : List Terminal → List Span → List Terminal → Type 0
IsNames ts spans rest = (ns : List (Span × Option Var)) × (ts ≡ names_then ns (semicolon ∷ rest)) × (spans ≡ map (λ m. m.0) ns)

listed_names : (ts : List Terminal) (spans : List Span) (rest : List Terminal) → Listed IsName comma ts spans rest → IsNames ts spans rest
listed_names ts [] rest w = absurd w
listed_names ts (u ∷ []) rest w = ((u, w.1.0) ∷ [], w.1.1 ∙ ap (λ (xs : List Terminal). terminal.Name u w.1.0 ∷ xs) w.2, refl)
listed_names ts (u ∷ v ∷ vs) rest w =
    let n : IsNames w.2.1.0 (v ∷ vs) rest = listed_names w.2.1.0 (v ∷ vs) rest (w.2.0, w.2.1.2, w.2.2) in
    let a : ts ≡ terminal.Name u w.1.0 ∷ comma ∷ w.2.1.0 = w.1.1 ∙ ap (λ (xs : List Terminal). terminal.Name u w.1.0 ∷ xs) w.2.1.1 in
    from n.0 n.2 (a ∙ ap (λ (xs : List Terminal). terminal.Name u w.1.0 ∷ comma ∷ xs) n.1)
  where
    from : (ns : List (Span × Option Var)) → v ∷ vs ≡ map (λ m. m.0) ns → ts ≡ terminal.Name u w.1.0 ∷ comma ∷ names_then ns (semicolon ∷ rest) → IsNames ts (u ∷ v ∷ vs) rest
    from [] e a = absurd (cc)
    from (m ∷ ms) e a = ((u, w.1.0) ∷ m ∷ ms, a, ap (λ (xs : List Span). u ∷ xs) e)

maybe_names : (ns : List (Span × Option Var)) (rest : List Terminal) → MaybeNames (names_then ns (semicolon ∷ rest)) (map (λ m. m.0) ns) rest
maybe_names [] rest = refl
maybe_names (n ∷ ns) rest = names_listed n ns rest

names_maybe : (ts : List Terminal) (spans : List Span) (rest : List Terminal) → MaybeNames ts spans rest → IsNames ts spans rest
names_maybe ts [] rest h = ([], h, refl)
names_maybe ts (u ∷ us) rest h = listed_names ts (u ∷ us) rest h

pub names_piece : (w : ReservedWord) (least : ℕ) (ts : List Terminal) (spans : List Span) → SpellsNames w least ts spans → Piece w MaybeNames [] ts spans × (least ≤ length spans)
names_piece w least ts spans h =
    let e : spans ≡ map (λ m. m.0) h.0 = h.2 in
    let l : least ≤ length h.0 = h.3 in
    rw e ((names_then h.0 (semicolon ∷ []), h.1, maybe_names h.0 []), rw (length-map h.0 (λ (m : Span × Option Var). m.0)) l)

pub piece_names : (w : ReservedWord) (least : ℕ) (ts : List Terminal) (spans : List Span) → Piece w MaybeNames [] ts spans → least ≤ length spans → SpellsNames w least ts spans
piece_names w least ts spans p l =
    let n : IsNames p.0 spans [] = names_maybe p.0 spans [] p.2 in
    let e : length spans ≡ length n.0 = ap length n.2 ∙ length-map n.0 (λ (m : Span × Option Var). m.0) in
    (n.0, p.1 ∙ ap (λ (xs : List Terminal). terminal.Word w ∷ xs) n.1, n.2, omega arith)

-- lists of entries
entries_listed : (m : Mark) (es : Entries) (rest : List Terminal) → Listed (IsEntry m) comma (entries_then m es (semicolon ∷ rest)) (entry_trees es) rest
entries_listed m (LastEntry s v e) rest = (semicolon ∷ rest, (s, v, e, refl, refl, omega arith), refl)
entries_listed m (Entry s v e es) rest = (comma ∷ entries_then m es (semicolon ∷ rest), (s, v, e, refl, refl, omega arith), behind_listed (IsEntry m) comma (entries_then m es (semicolon ∷ rest)) (entry_trees es) rest (entries_listed m es rest))

abbrev IsEntries : Mark → List Terminal → List ExprTree → List Terminal → Type 0
IsEntries m ts trees rest = (es : Entries) × (ts ≡ entries_then m es (semicolon ∷ rest)) × (trees ≡ entry_trees es)

listed_entries : (m : Mark) (ts : List Terminal) (trees : List ExprTree) (rest : List Terminal) → Listed (IsEntry m) comma ts trees rest → IsEntries m ts trees rest
listed_entries m ts [] rest w = absurd w
listed_entries m ts (t ∷ []) rest w =
    let i : IsEntry m ts t w.0 = w.1 in
    (LastEntry i.0 i.1 i.2, i.3 ∙ ap (λ (xs : List Terminal). terminal.Name i.0 i.1 ∷ mark_then m (expression_then i.2 xs)) w.2, ap (λ (x : ExprTree). x ∷ []) i.4)
listed_entries m ts (t ∷ u ∷ us) rest w =
    let n : IsEntries m w.2.1.0 (u ∷ us) rest = listed_entries m w.2.1.0 (u ∷ us) rest (w.2.0, w.2.1.2, w.2.2) in
    let i : IsEntry m ts t w.0 = w.1 in
    let a : t ≡ expression_tree i.2 = i.4 in let b : u ∷ us ≡ entry_trees n.0 = n.2 in
    (Entry i.0 i.1 i.2 n.0, i.3 ∙ ap (λ (xs : List Terminal). terminal.Name i.0 i.1 ∷ mark_then m (expression_then i.2 xs)) (w.2.1.1 ∙ ap (λ (xs : List Terminal). comma ∷ xs) n.1), cc)

pub entries_piece : (w : ReservedWord) (m : Mark) (ts : List Terminal) (trees : List ExprTree) → SpellsEntries w m ts trees → Piece w (Listed (IsEntry m) comma) [] ts trees
entries_piece w m ts trees h = let e : trees ≡ entry_trees h.0 = h.2 in rw e (entries_then m h.0 (semicolon ∷ []), h.1, entries_listed m h.0 [])

pub piece_entries : (w : ReservedWord) (m : Mark) (ts : List Terminal) (trees : List ExprTree) → Piece w (Listed (IsEntry m) comma) [] ts trees → SpellsEntries w m ts trees
piece_entries w m ts trees p =
    let n : IsEntries m p.0 trees [] = listed_entries m p.0 trees [] p.2 in
    (n.0, p.1 ∙ ap (λ (xs : List Terminal). terminal.Word w ∷ xs) n.1, n.2)

-- lists of bounds
bounds_listed : (bs : Bounds) (rest : List Terminal) → Listed IsBound comma (bounds_then bs (semicolon ∷ rest)) (bound_trees bs) rest
bounds_listed (LastBound s v e f) rest = (semicolon ∷ rest, (expression_then e (terminal.Word word.To ∷ expression_then f (semicolon ∷ rest)), (s, v, refl), (e, f, refl, refl, omega arith)), refl)
bounds_listed (Bound s v e f bs) rest = (comma ∷ bounds_then bs (semicolon ∷ rest), (expression_then e (terminal.Word word.To ∷ expression_then f (comma ∷ bounds_then bs (semicolon ∷ rest))), (s, v, refl), (e, f, refl, refl, omega arith)), behind_listed IsBound comma (bounds_then bs (semicolon ∷ rest)) (bound_trees bs) rest (bounds_listed bs rest))

abbrev IsBounds : List Terminal → List (ExprTree × ExprTree) → List Terminal → Type 0
IsBounds ts trees rest = (bs : Bounds) × (ts ≡ bounds_then bs (semicolon ∷ rest)) × (trees ≡ bound_trees bs)

bound_spelt : (ts after : List Terminal) (t : ExprTree × ExprTree) → (h : IsBound ts t after) → ts ≡ terminal.Name h.1.0 h.1.1 ∷ terminal.Word word.From ∷ expression_then h.2.0 (terminal.Word word.To ∷ expression_then h.2.1 after)
bound_spelt ts after t h = h.1.2 ∙ ap (λ (xs : List Terminal). terminal.Name h.1.0 h.1.1 ∷ terminal.Word word.From ∷ xs) h.2.2

listed_bounds : (ts : List Terminal) (trees : List (ExprTree × ExprTree)) (rest : List Terminal) → Listed IsBound comma ts trees rest → IsBounds ts trees rest
listed_bounds ts [] rest w = absurd w
listed_bounds ts (t ∷ []) rest w =
    let i : IsBound ts t w.0 = w.1 in
    (LastBound i.1.0 i.1.1 i.2.0 i.2.1, bound_spelt ts w.0 t i ∙ ap (λ (xs : List Terminal). terminal.Name i.1.0 i.1.1 ∷ terminal.Word word.From ∷ expression_then i.2.0 (terminal.Word word.To ∷ expression_then i.2.1 xs)) w.2, ap (λ (x : ExprTree × ExprTree). x ∷ []) i.2.3)
listed_bounds ts (t ∷ u ∷ us) rest w =
    let n : IsBounds w.2.1.0 (u ∷ us) rest = listed_bounds w.2.1.0 (u ∷ us) rest (w.2.0, w.2.1.2, w.2.2) in
    let i : IsBound ts t w.0 = w.1 in
    let a : t ≡ (expression_tree i.2.0, expression_tree i.2.1) = i.2.3 in let b : u ∷ us ≡ bound_trees n.0 = n.2 in
    (Bound i.1.0 i.1.1 i.2.0 i.2.1 n.0, bound_spelt ts w.0 t i ∙ ap (λ (xs : List Terminal). terminal.Name i.1.0 i.1.1 ∷ terminal.Word word.From ∷ expression_then i.2.0 (terminal.Word word.To ∷ expression_then i.2.1 xs)) (w.2.1.1 ∙ ap (λ (xs : List Terminal). comma ∷ xs) n.1), cc)

pub bounds_piece : (ts : List Terminal) (trees : List (ExprTree × ExprTree)) → SpellsBounds ts trees → Piece word.Slack (Listed IsBound comma) [] ts trees
bounds_piece ts trees h = let e : trees ≡ bound_trees h.0 = h.2 in rw e (bounds_then h.0 (semicolon ∷ []), h.1, bounds_listed h.0 [])

pub piece_bounds : (ts : List Terminal) (trees : List (ExprTree × ExprTree)) → Piece word.Slack (Listed IsBound comma) [] ts trees → SpellsBounds ts trees
piece_bounds ts trees p =
    let n : IsBounds p.0 trees [] = listed_bounds p.0 trees [] p.2 in
    (n.0, p.1 ∙ ap (λ (xs : List Terminal). terminal.Word word.Slack ∷ xs) n.1, n.2)

-- times
pub times_piece : (ts : List Terminal) (t : ExprTree × ExprTree) → SpellsTimes ts t → Piece word.Time IsPair (semicolon ∷ []) ts t
times_piece ts t h = (expression_then h.0 (terminal.Word word.To ∷ expression_then h.1 (semicolon ∷ [])), h.2, (h.0, h.1, refl, h.3, omega arith))

pub piece_times : (ts : List Terminal) (t : ExprTree × ExprTree) → Piece word.Time IsPair (semicolon ∷ []) ts t → SpellsTimes ts t
piece_times ts t p = (p.2.0, p.2.1, p.1 ∙ ap (λ (xs : List Terminal). terminal.Word word.Time ∷ xs) p.2.2, p.2.3)

pub entry_list_once : (m : Mark) → Once (Listed (IsEntry m) comma)
entry_list_once m = listed_once (IsEntry m) comma (entry_once m) comma_other

pub bound_list_once : Once (Listed IsBound comma)
bound_list_once = listed_once IsBound comma bound_once comma_other
