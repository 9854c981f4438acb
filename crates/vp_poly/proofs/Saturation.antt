-- What saturates was over before.
use Rattle.std.proofs.Common.{◌≡◌, ℕ, ◌+◌, ◌*◌, ◌/◌, ◌≤◌, ◌^◌, Bool, true, false, ◌&&◌, nat_lt, min, max, refl, sym, ap, ap₂, ◌∙◌, arith}
use Rattle.std.proofs.lemmas.Bool.Decides.{nat_tests}
use Rattle.vp_terms.specs.declared.expr.Var.{Var}
use Rattle.vp_terms.specs.declared.expr.Expr.{Expr}
use Rattle.vp_terms.specs.declared.expr.Expr.TheVariants.{Num, Var as Variable, Add', Sub', Mul', Pow'}
use Rattle.vp_poly.specs.Lcm.{lcm}
use Rattle.vp_poly.specs.Weights.{Weights, fits, norm_if, most, most_terms, weight, weight_sum, weight_product, weight_power}
use Rattle.vp_poly.specs.Unbounded.{exact_weight, exact_sum, exact_product, exact_power, all_fit}
use Rattle.vp_poly.proofs.WeighedLaws.{IsUnder-fits}

abbrev weights : ℕ → ℕ → ℕ → ℕ → Weights
weights n d g t = record { norm = n; den = d; degree = g; terms = t }

lt_capped : (n m b : ℕ) → b ≤ m → nat_lt (min n m) b ≡ nat_lt n b
lt_capped n m b le = grind (arith, nat_tests)

all_of : (a b c d x y z w : Bool) → a ≡ x → b ≡ y → c ≡ z → d ≡ w → (a && b && c && d) ≡ (x && y && z && w)
all_of a b c d x y z w e f g h = cc

-- a node with its numbers cut, where v says whether its parts fit
over_node : (v : Bool) (n d g h t : ℕ) → nat_lt g 13 ≡ nat_lt h 13 → fits (weights (norm_if v n) (min d most) g (min t most_terms)) ≡ (v && fits (weights n d h t))
over_node true n d g h t e =
    all_of _ _ _ _ _ _ _ _ (lt_capped n most (2 ^ 62) (omega arith)) (lt_capped d most (2 ^ 62) (omega arith)) e (lt_capped t most_terms 4097 (omega arith))
over_node false n d g h t e = refl

same_weights : (a b c d x y z w : ℕ) → a ≡ x → b ≡ y → c ≡ z → d ≡ w → weights a b c d ≡ weights x y z w
same_weights a b c d x y z w e f g h = cc

same_node : (v : Bool) (n d g h t : ℕ) → (g ≤ 12 → g ≡ h) → fits (weights (norm_if v n) (min d most) g (min t most_terms)) ≡ true → weights (norm_if v n) (min d most) g (min t most_terms) ≡ weights n d h t
same_node true n d g h t e f =
    let u = IsUnder-fits (weights (min n most) (min d most) g (min t most_terms)) f in
    let n' = u.norm in
    let d' = u.den in
    let t' = u.terms in
    same_weights _ _ _ _ _ _ _ _ (omega arith) (omega arith) (e u.degree) (omega arith)
same_node false n d g h t e f = let u = (IsUnder-fits (weights most (min d most) g (min t most_terms)) f).norm in absurd (omega arith)

degree_capped : (g : ℕ) → min g most_terms ≤ 12 → min g most_terms ≡ g
degree_capped g le = omega arith

-- ---- the three nodes

over_sum : (a b : Weights) → fits (weight_sum a b) ≡ (fits a && fits b && fits (exact_sum a b))
over_sum a b = over_node (fits a && fits b) (a.norm * (lcm a.den b.den / a.den) + b.norm * (lcm a.den b.den / b.den)) (lcm a.den b.den) (max a.degree b.degree) (max a.degree b.degree) (a.terms + b.terms) refl

same_sum : (a b : Weights) → fits (weight_sum a b) ≡ true → weight_sum a b ≡ exact_sum a b
same_sum a b f = same_node (fits a && fits b) (a.norm * (lcm a.den b.den / a.den) + b.norm * (lcm a.den b.den / b.den)) (lcm a.den b.den) (max a.degree b.degree) (max a.degree b.degree) (a.terms + b.terms) (λ _. refl) f

over_product : (a b : Weights) → fits (weight_product a b) ≡ (fits a && fits b && fits (exact_product a b))
over_product a b = over_node (fits a && fits b) (a.norm * b.norm) (a.den * b.den) (min (a.degree + b.degree) most_terms) (a.degree + b.degree) (a.terms * b.terms) (lt_capped (a.degree + b.degree) most_terms 13 (omega arith))

same_product : (a b : Weights) → fits (weight_product a b) ≡ true → weight_product a b ≡ exact_product a b
same_product a b f = same_node (fits a && fits b) (a.norm * b.norm) (a.den * b.den) (min (a.degree + b.degree) most_terms) (a.degree + b.degree) (a.terms * b.terms) (degree_capped (a.degree + b.degree)) f

over_power : (a : Weights) (k : ℕ) → fits (weight_power a k) ≡ (fits a && fits (exact_power a k))
over_power a k = over_node (fits a) (a.norm ^ k) (a.den ^ k) (min (k * a.degree) most_terms) (k * a.degree) (a.terms ^ k) (lt_capped (k * a.degree) most_terms 13 (omega arith))

same_power : (a : Weights) (k : ℕ) → fits (weight_power a k) ≡ true → weight_power a k ≡ exact_power a k
same_power a k f = same_node (fits a) (a.norm ^ k) (a.den ^ k) (min (k * a.degree) most_terms) (k * a.degree) (a.terms ^ k) (degree_capped (k * a.degree)) f

-- ---- all nodes

-- over by the cut weight exactly where some part is over by the other, and else the same
pub record Saturates (env : Var → Weights) (e : Expr) : Type 0 where
  pub over : fits (weight env e) ≡ all_fit env e
  pub same : fits (weight env e) ≡ true → weight env e ≡ exact_weight env e

first_two : (x y z : Bool) → (x && y && z) ≡ true → (x ≡ true) × (y ≡ true)
first_two true true z e = (refl, refl)
first_two true false z e = cc
first_two false y z e = cc

first_one : (x z : Bool) → (x && z) ≡ true → x ≡ true
first_one true z e = refl
first_one false z e = cc

joined : (x y : Bool) (f g : Weights) → (x ≡ true → y ≡ true → f ≡ g) → (x && y && fits f) ≡ (x && y && fits g)
joined true true f g h = ap fits (h refl refl)
joined true false f g h = refl
joined false y f g h = refl

joined_one : (x : Bool) (f g : Weights) → (x ≡ true → f ≡ g) → (x && fits f) ≡ (x && fits g)
joined_one true f g h = ap fits (h refl)
joined_one false f g h = refl

binary : (op exact : Weights → Weights → Weights) → ((a b : Weights) → fits (op a b) ≡ (fits a && fits b && fits (exact a b))) → ((a b : Weights) → fits (op a b) ≡ true → op a b ≡ exact a b) →
    (a b c d : Weights) (x y : Bool) → fits a ≡ x → fits b ≡ y → (fits a ≡ true → a ≡ c) → (fits b ≡ true → b ≡ d) →
    (fits (op a b) ≡ (x && y && fits (exact c d))) × (fits (op a b) ≡ true → op a b ≡ exact c d)
binary op exact over same a b c d x y e f g h = (
  over a b ∙ joined (fits a) (fits b) (exact a b) (exact c d) (λ p q. ap₂ exact (g p) (h q)) ∙ ap₂ (λ (u v : Bool). u && v && fits (exact c d)) e f,
  λ k. let parts = first_two (fits a) (fits b) (fits (exact a b)) (sym (over a b) ∙ k) in same a b k ∙ ap₂ exact (g parts.0) (h parts.1),
)

pub saturates : (env : Var → Weights) (e : Expr) → Saturates env e
saturates env (Num r) = record { over = refl; same = λ _. refl }
saturates env (Variable v) = record { over = refl; same = λ _. refl }
saturates env (Add' p e q f) =
    let a = saturates env e in
    let b = saturates env f in
    let r = binary weight_sum exact_sum over_sum same_sum (weight env e) (weight env f) (exact_weight env e) (exact_weight env f) (all_fit env e) (all_fit env f) a.over b.over a.same b.same in
    record { over = r.0; same = r.1 }
saturates env (Sub' p e q f) =
    let a = saturates env e in
    let b = saturates env f in
    let r = binary weight_sum exact_sum over_sum same_sum (weight env e) (weight env f) (exact_weight env e) (exact_weight env f) (all_fit env e) (all_fit env f) a.over b.over a.same b.same in
    record { over = r.0; same = r.1 }
saturates env (Mul' p e q f) =
    let a = saturates env e in
    let b = saturates env f in
    let r = binary weight_product exact_product over_product same_product (weight env e) (weight env f) (exact_weight env e) (exact_weight env f) (all_fit env e) (all_fit env f) a.over b.over a.same b.same in
    record { over = r.0; same = r.1 }
saturates env (Pow' p e n) =
    let a = saturates env e in
    record {
      over = over_power (weight env e) n ∙ joined_one (fits (weight env e)) (exact_power (weight env e) n) (exact_power (exact_weight env e) n) (λ h. ap (λ (w : Weights). exact_power w n) (a.same h)) ∙ ap (λ (u : Bool). u && fits (exact_power (exact_weight env e) n)) a.over;
      same = λ k. same_power (weight env e) n k ∙ ap (λ (w : Weights). exact_power w n) (a.same (first_one (fits (weight env e)) _ (sym (over_power (weight env e) n) ∙ k)));
    }
