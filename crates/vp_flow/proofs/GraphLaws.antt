-- Tables of uses, ranks and cycles.
use Rattle.std.proofs.Common.{◌≡◌, ℕ, zero, suc, ◌+◌, ◌≤◌, ◌<◌, Bool, true, false, cond, ◌&&◌, ◌||◌, List, [], ◌∷◌, ◌++◌, length, drop, get_or, slice_index, refl, sym, ap, ◌∙◌, arith}
use Rattle.std.proofs.lemmas.List.{append_assoc, drop_more}
use Rattle.vp_flow.specs.Order.{IsByRank, count_below, via}
use Rattle.vp_flow.specs.Outcome.{named_where}

pub via-same : (u v : ℕ → ℕ → Bool) (n k : ℕ) → ((i j : ℕ) → i < n → j < n → u i j ≡ v i j) → k ≤ n → (i j : ℕ) → i < n → j < n → via u k i j ≡ via v k i j
via-same u v n zero h le i j i_lt j_lt = h i j i_lt j_lt
via-same u v n (suc k) h le i j i_lt j_lt =
    let here = via-same u v n k h (omega arith) i j i_lt j_lt in
    let to = via-same u v n k h (omega arith) i k i_lt (omega arith) in
    let from = via-same u v n k h (omega arith) k j (omega arith) j_lt in
    ap (λ (b : Bool). b || (via u k i k && via u k k j)) here
    ∙ ap (λ (b : Bool). via v k i j || (b && via u k k j)) to
    ∙ ap (λ (b : Bool). via v k i j || (via v k i k && b)) from

pub count-same : (n : ℕ) (f g : ℕ → Bool) → ((j : ℕ) → j < n → f j ≡ g j) → count_below n f ≡ count_below n g
count-same zero f g h = refl
count-same (suc n) f g h =
    ap (λ (k : ℕ). k + cond (f n) 1 0) (count-same n f g (λ j lt. h j (omega arith)))
    ∙ ap (λ (b : Bool). count_below n g + cond b 1 0) (h n (omega arith))

pub count-most : (n : ℕ) (f : ℕ → Bool) → count_below n f ≤ n
count-most zero f = omega arith
count-most (suc n) f = let more = count-most n f in let one = at (f n) in omega arith
  where
    at : (b : Bool) → cond b 1 0 ≤ 1
    at true = omega arith
    at false = omega arith

pub by-rank-same : (f g : ℕ → ℕ) (n : ℕ) (order : List ℕ) → ((j : ℕ) → j < n → f j ≡ g j) → IsByRank f n order → IsByRank g n order
by-rank-same f g n order h x = record {
  states = x.states;
  after = λ t j lt j_lt less.
      let a = h j j_lt in
      let b = h (slice_index order t) (x.states t lt) in
      x.after t j lt j_lt (omega (arith, a, b, less));
}

-- ---- the states that reach themselves

pub named-none : (t : ℕ → Bool) (k : ℕ) (xs : List (List ℕ)) → named_where t k xs ≡ [] → (i : ℕ) → i < length xs → t (k + i) ≡ false
named-none t k [] e i lt = absurd (omega arith)
named-none t k (x ∷ xs) e i lt = at (t k) refl e i lt (λ q j less. named-none t (suc k) xs q j less)
  where
    later : t k ≡ false → (i : ℕ) → i < suc (length xs) → ((j : ℕ) → j < length xs → t (suc k + j) ≡ false) → t (k + i) ≡ false
    later z zero lt more = let s : k + 0 ≡ k = omega arith in ap t s ∙ z
    later z (suc i) lt more = let s : k + suc i ≡ suc k + i = omega arith in ap t s ∙ more i (omega arith)

    at : (b : Bool) → t k ≡ b → cond b (x ∷ named_where t (suc k) xs) (named_where t (suc k) xs) ≡ [] → (i : ℕ) → i < suc (length xs) → (named_where t (suc k) xs ≡ [] → (j : ℕ) → j < length xs → t (suc k + j) ≡ false) → t (k + i) ≡ false
    at true s q i lt more = absurd (cc)
    at false s q i lt more = later s i lt (more q)

pub named-same : (t u : ℕ → Bool) (k : ℕ) (xs : List (List ℕ)) → ((i : ℕ) → i < k + length xs → t i ≡ u i) → named_where t k xs ≡ named_where u k xs
named-same t u k [] h = refl
named-same t u k (x ∷ xs) h =
    ap (λ (l : List (List ℕ)). cond (t k) (x ∷ l) l) (named-same t u (suc k) xs (λ i lt. h i (omega arith)))
    ∙ ap (λ (b : Bool). cond b (x ∷ named_where u (suc k) xs) (named_where u (suc k) xs)) (h k (omega arith))

-- one name more, where the state k passes
pub named-more : (t : ℕ → Bool) (k : ℕ) (all names : List (List ℕ)) (x : List ℕ) → k < length all → x ≡ get_or all k x → t k ≡ true → names ++ named_where t k (drop k all) ≡ named_where t 0 all → (names ++ x ∷ []) ++ named_where t (k + 1) (drop (k + 1) all) ≡ named_where t 0 all
named-more t k all names x lt e on h =
    append_assoc names (x ∷ []) (named_where t (k + 1) (drop (k + 1) all))
    ∙ ap (λ (l : List (List ℕ)). names ++ l) (sym (here ∙ ap (λ (y : List ℕ). y ∷ named_where t (k + 1) (drop (k + 1) all)) (sym e)))
    ∙ h
  where
    here : named_where t k (drop k all) ≡ get_or all k x ∷ named_where t (k + 1) (drop (k + 1) all)
    here =
        let s : suc k ≡ k + 1 = omega arith in
        ap (named_where t k) (drop_more all k x lt)
        ∙ ap (λ (b : Bool). cond b (get_or all k x ∷ named_where t (suc k) (drop (k + 1) all)) (named_where t (suc k) (drop (k + 1) all))) on
        ∙ ap (λ (n : ℕ). get_or all k x ∷ named_where t n (drop (k + 1) all)) s

pub named-skip : (t : ℕ → Bool) (k : ℕ) (all names : List (List ℕ)) (x : List ℕ) → k < length all → t k ≡ false → names ++ named_where t k (drop k all) ≡ named_where t 0 all → names ++ named_where t (k + 1) (drop (k + 1) all) ≡ named_where t 0 all
named-skip t k all names x lt off h =
    ap (λ (l : List (List ℕ)). names ++ l) (sym here) ∙ h
  where
    here : named_where t k (drop k all) ≡ named_where t (k + 1) (drop (k + 1) all)
    here =
        let s : suc k ≡ k + 1 = omega arith in
        ap (named_where t k) (drop_more all k x lt)
        ∙ ap (λ (b : Bool). cond b (get_or all k x ∷ named_where t (suc k) (drop (k + 1) all)) (named_where t (suc k) (drop (k + 1) all))) off
        ∙ ap (λ (n : ℕ). named_where t n (drop (k + 1) all)) s
