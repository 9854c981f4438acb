-- Lists gathered by an operation, and lists of factors.
use Rattle.std.proofs.Common.{◌≡◌, Bool, true, ℕ, ◌*◌, ◌+◌, ◌<◌, ◌≤◌, List, [], ◌∷◌, ◌++◌, length, map, max, min, take, drop, get_or, append_assoc, ◌⊎◌, inl, inr, refl, sym, ap, ap₂, ◌∙◌, subst, arith}
use Rattle.std.specs.List.{All}
use Rattle.std.proofs.Math.Nat.{mul-le-mul_left, mul-le-mul_right, le-max_right}
use Rattle.std.proofs.lemmas.List.Elements.{All-nil, All-cons}
use Rattle.std.proofs.lemmas.List.{map-append, map_more, take_more, take-append-drop}
use Rattle.vp_poly.specs.declared.scaled.Scaled.{Scaled}
use Rattle.vp_cert.specs.Bounds.{size_product, product_size}
use Rattle.vp_cert.specs.Capped.{IsWithinWeight, scaled_size}
use Rattle.vp_terms.specs.declared.expr.Places.{Places}
use Rattle.vp_terms.specs.declared.expr.Expr.{Expr}
use Rattle.vp_cert.specs.Certificate.{TermFactor, LabelAtoms, Size, expression_factor, factors, combined, label_factor, number_factor, squared}
use Rattle.vp_terms.specs.declared.package.CertTerm.TheVariants.{Sum}
use Rattle.std.specs.List.{list_all}
use Rattle.std.proofs.lemmas.List.Folds.{list_all_more}
use Rattle.vp_cert.specs.Factors.{AreTermFactors, IsTermFactor}

pub combined-append : {A : Type 0} (op : A → A → A) (a : A) (bs cs : List A) → combined op a (bs ++ cs) ≡ combined op (combined op a bs) cs
combined-append op a [] cs = refl
combined-append op a (b ∷ bs) cs = combined-append op (op b a) bs cs

-- one more, where each is made of something
pub combined-more : {A B : Type 0} (op : A → A → A) (a : A) (f : B → A) (bs : List B) (b : B) → combined op a (map f (bs ++ b ∷ [])) ≡ op (f b) (combined op a (map f bs))
combined-more op a f bs b = ap (λ l. combined op a l) (map-append f bs (b ∷ [])) ∙ combined-append op a (map f bs) (f b ∷ [])

pub AreTermFactors-append : (fs gs : List TermFactor) (ss ts : List Scaled) → AreTermFactors fs ss → AreTermFactors gs ts → AreTermFactors (fs ++ gs) (ss ++ ts)
AreTermFactors-append [] gs [] ts h k = k
AreTermFactors-append [] gs (s ∷ ss) ts h k = absurd h
AreTermFactors-append (f ∷ fs) gs [] ts h k = absurd h
AreTermFactors-append (f ∷ fs) gs (s ∷ ss) ts h k = (h.0, AreTermFactors-append fs gs ss ts h.1 k)

pub squared-append : {A : Type 0} (xs ys : List A) → squared (xs ++ ys) ≡ squared xs ++ squared ys
squared-append [] ys = refl
squared-append (a ∷ xs) ys = ap (λ l. a ∷ a ∷ l) (squared-append xs ys)

-- the factors of a list with one more
pub record Parted (fs : List TermFactor) (ss : List Scaled) (s : Scaled) : Type 0 where
  pub front : List TermFactor
  pub last : TermFactor
  pub is : fs ≡ front ++ last ∷ []
  pub are_factors : AreTermFactors front ss
  pub is_factor : IsTermFactor last s

pub parted : (fs : List TermFactor) (ss : List Scaled) (s : Scaled) → AreTermFactors fs (ss ++ s ∷ []) → Parted fs ss s
parted [] [] s h = absurd h
parted [] (t ∷ ss) s h = absurd h
parted (f ∷ []) [] s h = record { front = []; last = f; is = refl; are_factors = tt; is_factor = h.0 }
parted (f ∷ g ∷ fs) [] s h = absurd h.1
parted (f ∷ fs) (t ∷ ss) s h =
    let r = parted fs ss s h.1 in
    record { front = f ∷ r.front; last = r.last; is = ap (λ l. f ∷ l) r.is; are_factors = (h.0, r.are_factors); is_factor = r.is_factor }

-- ---- sizes only grow

grown : (n m : ℕ) → m ≤ max n 1 * m
grown n m = omega (arith, mul-le-mul_right m (le-max_right n 1))

pub record IsAtMost (a b : Size) : Type 0 where
  pub norm : a.norm ≤ b.norm
  pub terms : a.terms ≤ b.terms
  pub degree : a.degree ≤ b.degree

pub combined_grows : (a : Size) (ss : List Size) → IsAtMost a (combined size_product a ss)
combined_grows a [] = record { norm = omega arith; terms = omega arith; degree = omega arith }
combined_grows a (s ∷ ss) =
    let r = combined_grows (size_product s a) ss in
    record { norm = omega (arith, r.norm, grown s.norm a.norm); terms = omega (arith, r.terms, grown s.terms a.terms); degree = omega (arith, r.degree) }

pub size_grows : (ss ts : List Size) → IsAtMost (product_size ss) (product_size (ss ++ ts))
size_grows ss ts =
    let r = combined_grows (product_size ss) ts in
    let e = combined-append size_product (record { norm = 1; terms = 1; degree = 0 }) ss ts in
    rw e r

-- one more factor in a list of polynomials
pub size_more : (ss : List Scaled) (i : ℕ) (s : Scaled) → i < length ss → s ≡ get_or ss i s → product_size (map scaled_size (take (i + 1) ss)) ≡ size_product (scaled_size s) (product_size (map scaled_size (take i ss)))
size_more ss i s h e =
    ap (λ (l : List Scaled). product_size (map scaled_size l)) (take_more ss i s h ∙ ap (λ (t : Scaled). take i ss ++ t ∷ []) (sym e))
    ∙ combined-more size_product (record { norm = 1; terms = 1; degree = 0 }) scaled_size (take i ss) s

pub below_all : (ss : List Scaled) (i : ℕ) → IsAtMost (product_size (map scaled_size (take i ss))) (product_size (map scaled_size ss))
below_all ss i =
    subst (λ (l : List Scaled). IsAtMost (product_size (map scaled_size (take i ss))) (product_size (map scaled_size l))) (take-append-drop i ss)
    (subst (λ (l : List Size). IsAtMost (product_size (map scaled_size (take i ss))) (product_size l)) (sym (map-append scaled_size (take i ss) (drop i ss)))
    (size_grows (map scaled_size (take i ss)) (map scaled_size (drop i ss))))

le_or_lt : (a b : ℕ) → (a ≤ b) ⊎ (b < a)
le_or_lt a b = grind arith

-- a product that stops at a greatest number
pub cap_product : (n a m : ℕ) → min (min a m * max n 1) m ≡ min (max n 1 * a) m
cap_product n a m = capped (max n 1) a m (le-max_right n 1) (le_or_lt a m)
  where
    capped : (k a m : ℕ) → 1 ≤ k → (a ≤ m) ⊎ (m < a) → min (min a m * k) m ≡ min (k * a) m
    capped k a m h (inl l) = let e : min a m ≡ a = omega arith in ap (λ (z : ℕ). min (z * k) m) e ∙ ap (λ (z : ℕ). min z m) (let f : a * k ≡ k * a = omega arith in f)
    capped k a m h (inr l) =
        let e : min a m ≡ m = omega arith in
        let f = mul-le-mul_left m h in
        let g = mul-le-mul_right a h in
        ap (λ (z : ℕ). min (z * k) m) e ∙ (let r : min (m * k) m ≡ m = omega (arith, f) in r) ∙ sym (let r : min (k * a) m ≡ m = omega (arith, g) in r)

pub capped_norm : (ss : List Scaled) (i : ℕ) (s : Scaled) (n k r m : ℕ) → i < length ss → s ≡ get_or ss i s → n ≡ min (product_size (map scaled_size (take i ss))).norm m → k ≡ max s.weight.norm 1 → r ≡ min (n * k) m →
    r ≡ min (product_size (map scaled_size (take (i + 1) ss))).norm m
capped_norm ss i s n k r m h e a b c =
    c ∙ ap₂ (λ (x y : ℕ). min (x * y) m) a b ∙ cap_product s.weight.norm (product_size (map scaled_size (take i ss))).norm m ∙ sym (ap (λ (z : Size). min z.norm m) (size_more ss i s h e))

pub capped_terms : (ss : List Scaled) (i : ℕ) (s : Scaled) (n k r m : ℕ) → i < length ss → s ≡ get_or ss i s → n ≡ min (product_size (map scaled_size (take i ss))).terms m → k ≡ max s.weight.terms 1 → r ≡ min (n * k) m →
    r ≡ min (product_size (map scaled_size (take (i + 1) ss))).terms m
capped_terms ss i s n k r m h e a b c =
    c ∙ ap₂ (λ (x y : ℕ). min (x * y) m) a b ∙ cap_product s.weight.terms (product_size (map scaled_size (take i ss))).terms m ∙ sym (ap (λ (z : Size). min z.terms m) (size_more ss i s h e))

pub capped_degree : (ss : List Scaled) (i : ℕ) (s : Scaled) (n k r m : ℕ) → i < length ss → s ≡ get_or ss i s → n ≡ min (product_size (map scaled_size (take i ss))).degree m → k ≡ s.weight.degree → r ≡ min (n + k) m →
    r ≡ min (product_size (map scaled_size (take (i + 1) ss))).degree m
capped_degree ss i s n k r m h e a b c = let f = ap (λ (z : Size). z.degree) (size_more ss i s h e) in omega (arith, f)

-- the factors as polynomials keep within their weights
pub bounded : (fs : List TermFactor) (ss : List Scaled) → AreTermFactors fs ss → All IsWithinWeight ss
bounded [] [] h = All-nil IsWithinWeight
bounded [] (s ∷ ss) h = absurd h
bounded (f ∷ fs) [] h = absurd h
bounded (f ∷ fs) (s ∷ ss) h = All-cons IsWithinWeight s ss h.0.within (bounded fs ss h.1)

-- and have the sizes of the factors
pub sizes_are : (fs : List TermFactor) (ss : List Scaled) → AreTermFactors fs ss → map scaled_size ss ≡ map (λ (f : TermFactor). f.size) fs
sizes_are [] [] h = refl
sizes_are [] (s ∷ ss) h = absurd h
sizes_are (f ∷ fs) [] h = absurd h
sizes_are (f ∷ fs) (s ∷ ss) h = ap₂ (λ (a : Size) (l : List Size). a ∷ l) (same_size f.size s h.0.norm h.0.terms h.0.degree) (sizes_are fs ss h.1)
  where
    same_size : (z : Size) (s : Scaled) → s.weight.norm ≡ z.norm → s.weight.terms ≡ z.terms → s.weight.degree ≡ z.degree → scaled_size s ≡ z
    same_size z s a b c = rw (a, b, c) refl

-- a square gives two factors
pub squares_more : (p : Places) (es : List Expr) (i : ℕ) (e : Expr) (ss : List Scaled) (s t : Scaled) → i < length es → e ≡ get_or es i e → AreTermFactors (squared (map (expression_factor p) (take i es))) ss → IsTermFactor (expression_factor p e) s → t ≡ s →
    AreTermFactors (squared (map (expression_factor p) (take (i + 1) es))) ((ss ++ s ∷ []) ++ t ∷ [])
squares_more p es i e ss s t l f h g q =
    subst (λ (fs : List TermFactor). AreTermFactors fs ((ss ++ s ∷ []) ++ t ∷ [])) (sym front)
    (subst (λ (k : List Scaled). AreTermFactors (squared (map (expression_factor p) (take i es)) ++ expression_factor p e ∷ expression_factor p e ∷ []) k) (sym (append_assoc ss (s ∷ []) (t ∷ [])))
    (AreTermFactors-append (squared (map (expression_factor p) (take i es))) (expression_factor p e ∷ expression_factor p e ∷ []) ss (s ∷ t ∷ []) h (g, (subst (IsTermFactor (expression_factor p e)) (sym q) g, tt))))
  where
    front : squared (map (expression_factor p) (take (i + 1) es)) ≡ squared (map (expression_factor p) (take i es)) ++ expression_factor p e ∷ expression_factor p e ∷ []
    front =
        ap (λ (l : List Expr). squared (map (expression_factor p) l)) (take_more es i e l ∙ ap (λ (u : Expr). take i es ++ u ∷ []) (sym f))
        ∙ ap squared (map-append (expression_factor p) (take i es) (e ∷ [])) ∙ squared-append (map (expression_factor p) (take i es)) (expression_factor p e ∷ [])

pub fit_more : {X : Type 0} (f : X → Bool) (es : List X) (i : ℕ) (e : X) → i < length es → e ≡ get_or es i e → list_all f (take i es) ≡ true → f e ≡ true → list_all f (take (i + 1) es) ≡ true
fit_more f es i e l g h k = list_all_more f es i e l ∙ rw (h, ap f (sym g) ∙ k) refl

-- the factors of a sum, from their parts
pub sum_factors : (p : Places) (h : LabelAtoms) (n : ℕ) (es fs : List Expr) (ls ms : List ℕ) (all twice atoms front items : List Scaled) → fs ≡ es → ms ≡ ls → AreTermFactors (number_factor n ∷ []) all → AreTermFactors (squared (map (expression_factor p) fs)) twice → AreTermFactors (map (label_factor h) ms) atoms →
    front ≡ all ++ twice → items ≡ front ++ atoms → AreTermFactors (factors p h (Sum n es ls)) items
sum_factors p h n es fs ls ms all twice atoms front items e f a b c g i =
    subst (AreTermFactors (factors p h (Sum n es ls))) (sym (i ∙ ap (λ (l : List Scaled). l ++ atoms) g))
    (AreTermFactors-append (number_factor n ∷ squared (map (expression_factor p) es)) (map (label_factor h) ls) (all ++ twice) atoms
    (AreTermFactors-append (number_factor n ∷ []) (squared (map (expression_factor p) es)) all twice a (subst (λ (l : List Expr). AreTermFactors (squared (map (expression_factor p) l)) twice) e b))
    (subst (λ (l : List ℕ). AreTermFactors (map (label_factor h) l) atoms) f c))

-- one more factor
pub factors_more : {X : Type 0} (f : X → TermFactor) (xs : List X) (i : ℕ) (d : X) (ss : List Scaled) (s : Scaled) → i < length xs → AreTermFactors (map f (take i xs)) ss → IsTermFactor (f (get_or xs i d)) s → AreTermFactors (map f (take (i + 1) xs)) (ss ++ s ∷ [])
factors_more f xs i d ss s l h g =
    subst (λ (fs : List TermFactor). AreTermFactors fs (ss ++ s ∷ [])) (sym (map_more f xs i d l)) (AreTermFactors-append (map f (take i xs)) (f (get_or xs i d) ∷ []) ss (s ∷ []) h (g, tt))
