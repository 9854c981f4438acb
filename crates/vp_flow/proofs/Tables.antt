-- Tables that are made row by row.
use Rattle.std.proofs.Common.{◌≡◌, ℕ, zero, suc, ◌+◌, ◌<◌, Bool, true, false, ◌&&◌, ◌||◌, ◌==◌, List, [], ◌∷◌, ◌++◌, length, get_or, Option, slice_get, unwrap_or, refl, sym, ap, ◌∙◌, subst, arith}
use Rattle.std.proofs.lemmas.Bool.{eqb-true, eqb-false}
use Rattle.std.proofs.lemmas.List.{length-append}
use Rattle.std.proofs.lemmas.Option.{slice_get-get_or}
use Rattle.vp_flow.specs.Matrix.{HasCells, HasRows, IsMatrix, at, cell}

at-front : {X : Type 0} → (xs : List X) (x d : X) (k : ℕ) → k < length xs → unwrap_or (slice_get (xs ++ x ∷ []) k) d ≡ unwrap_or (slice_get xs k) d
at-front [] x d k lt = absurd (omega arith)
at-front (y ∷ xs) x d zero lt = refl
at-front (y ∷ xs) x d (suc k) lt = at-front xs x d k (omega arith)

at-end : {X : Type 0} → (xs : List X) (x d : X) (k : ℕ) → k ≡ length xs → unwrap_or (slice_get (xs ++ x ∷ []) k) d ≡ x
at-end [] x d zero e = refl
at-end [] x d (suc k) e = absurd (omega arith)
at-end (y ∷ xs) x d zero e = absurd (omega arith)
at-end (y ∷ xs) x d (suc k) e = at-end xs x d k (omega arith)

pub at-get : {X : Type 0} → (xs : List X) (x d : X) (k : ℕ) → k < length xs → x ≡ get_or xs k x → unwrap_or (slice_get xs k) d ≡ x
at-get {X = X} xs x d k lt e = ap (λ (o : Option X). unwrap_or o d) (slice_get-get_or xs k x lt) ∙ sym e

pub HasCells-none : (f : ℕ → Bool) (xs : List Bool) → xs ≡ [] → HasCells 0 f xs
HasCells-none f xs e = record { size = ap (λ (l : List Bool). length l) e; each = λ j lt. absurd (omega arith) }

pub HasCells-more : (n : ℕ) (f : ℕ → Bool) (xs new : List Bool) (x : Bool) → new ≡ xs ++ x ∷ [] → HasCells n f xs → x ≡ f n → HasCells (n + 1) f new
HasCells-more n f xs new x e h same =
    subst (λ (l : List Bool). HasCells (n + 1) f l) (sym e)
    (record { size = omega (arith, length-append xs (x ∷ []), h.size); each = λ j lt. here j lt (j == n) refl })
  where
    here : (j : ℕ) → j < n + 1 → (v : Bool) → (j == n) ≡ v → unwrap_or (slice_get (xs ++ x ∷ []) j) false ≡ f j
    here j lt true t = let s = eqb-true j n t in at-end xs x false j (s ∙ sym h.size) ∙ same ∙ sym (ap f s)
    here j lt false t = let ne = eqb-false j n t in let z = h.size in at-front xs x false j (omega arith) ∙ h.each j (omega arith)

pub HasRows-none : (w : ℕ) (f : ℕ → ℕ → Bool) (rows : List (List Bool)) → rows ≡ [] → HasRows 0 w f rows
HasRows-none w f rows e = record { count = ap (λ (l : List (List Bool)). length l) e; each = λ i lt. absurd (omega arith) }

pub HasRows-more : (n w : ℕ) (f : ℕ → ℕ → Bool) (rows new : List (List Bool)) (x : List Bool) → new ≡ rows ++ x ∷ [] → HasRows n w f rows → HasCells w (f n) x → HasRows (n + 1) w f new
HasRows-more n w f rows new x e h c =
    subst (λ (l : List (List Bool)). HasRows (n + 1) w f l) (sym e)
    (record { count = omega (arith, length-append rows (x ∷ []), h.count); each = λ i lt. here i lt (i == n) refl })
  where
    here : (i : ℕ) → i < n + 1 → (v : Bool) → (i == n) ≡ v → HasCells w (f i) (unwrap_or (slice_get (rows ++ x ∷ []) i) [])
    here i lt true t = let s = eqb-true i n t in subst (λ (l : List Bool). HasCells w (f i) l) (sym (at-end rows x [] i (s ∙ sym h.count))) (subst (λ (k : ℕ). HasCells w (f k) x) (sym s) c)
    here i lt false t = let ne = eqb-false i n t in let z = h.count in subst (λ (l : List Bool). HasCells w (f i) l) (sym (at-front rows x [] i (omega arith))) (h.each i (omega arith))

pub HasRows-matrix : (n : ℕ) (f : ℕ → ℕ → Bool) (rows : List (List Bool)) → HasRows n n f rows → IsMatrix n rows
HasRows-matrix n f rows h = record { count = h.count; sizes = λ i d lt. let c = h.count in subst (λ (l : List Bool). length l ≡ n) (ap (λ (o : Option (List Bool)). unwrap_or o []) (slice_get-get_or rows i d lt)) (h.each i (omega arith)).size }

pub row-size : (n : ℕ) (rows : List (List Bool)) (i : ℕ) (row own : List Bool) → IsMatrix n rows → i < n → row ≡ own → own ≡ get_or rows i own → (length row ≡ n) × (row ≡ unwrap_or (slice_get rows i) [])
row-size n rows i row own m lt e f =
    let c = m.count in
    let size : length own ≡ n = subst (λ (l : List Bool). length l ≡ n) (sym f) (m.sizes i own (omega arith)) in
    (ap (λ (l : List Bool). length l) e ∙ size, e ∙ f ∙ sym (ap (λ (o : Option (List Bool)). unwrap_or o []) (slice_get-get_or rows i own (omega arith))))

-- a row of cells through the state k
pub row-through : (n i k : ℕ) (rows : List (List Bool)) (row middle x : List Bool) → row ≡ unwrap_or (slice_get rows i) [] → middle ≡ unwrap_or (slice_get rows k) [] → length row ≡ n → HasCells (length row) (λ j. at row j || (at row k && at middle j)) x → HasCells n (λ j. cell rows i j || (cell rows i k && cell rows k j)) x
row-through n i k rows row middle x e f s h =
    let a = subst (λ (m : ℕ). HasCells m (λ j. at row j || (at row k && at middle j)) x) s h in
    let b = subst (λ (l : List Bool). HasCells n (λ j. at l j || (at l k && at middle j)) x) e a in
    subst (λ (l : List Bool). HasCells n (λ j. cell rows i j || (cell rows i k && at l j)) x) f b
