-- Lists that are made from the front.
use Rattle.std.proofs.Common.{◌≡◌, ℕ, zero, suc, ◌+◌, ◌*◌, List, [], ◌∷◌, ◌++◌, refl, sym, ap, ◌∙◌, arith, append_assoc}
use Rattle.std.specs.Prelude.{replicate}
use Rattle.vp_isa.specs.declared.instr.Instr.{Instr}
use Rattle.vp_isa.specs.declared.instr.Instr.TheVariants.{Copy}
use Rattle.vp_layout.specs.declared.home.Home.{Home}
use Rattle.vp_layout.specs.Homes.{pair_homes, point_homes}
use Rattle.vp_layout.specs.Blocks.{copies}

pair_more : (at n : ℕ) → pair_homes at (n + 1) ≡ pair_homes at n ++ record { lo = at + 2 * n; hi = at + 2 * n + 1 } ∷ []
pair_more at zero = let here : at + 2 * 0 ≡ at = omega arith in ap (λ a. record { lo = a; hi = a + 1 } ∷ []) (sym here)
pair_more at (suc n) =
    let next : suc n + 1 ≡ suc (n + 1) = omega arith in
    let there : at + 2 + 2 * n ≡ at + 2 * suc n = omega arith in
    ap (pair_homes at) next ∙ ap (λ hs. record { lo = at; hi = at + 1 } ∷ hs) (pair_more (at + 2) n ∙ ap (λ a. pair_homes (at + 2) n ++ record { lo = a; hi = a + 1 } ∷ []) there)

-- one more home behind those so far
pub pair_step : (at i : ℕ) (start so_far more : List Home) → so_far ≡ start ++ pair_homes at i → more ≡ so_far ++ record { lo = at + 2 * i; hi = at + 2 * i + 1 } ∷ [] → more ≡ start ++ pair_homes at (i + 1)
pair_step at i start so_far more e f =
    f ∙ ap (λ hs. hs ++ record { lo = at + 2 * i; hi = at + 2 * i + 1 } ∷ []) e ∙ append_assoc start (pair_homes at i) _ ∙ ap (λ hs. start ++ hs) (sym (pair_more at i))

point_more : (at n : ℕ) → point_homes at (n + 1) ≡ point_homes at n ++ record { lo = at + n; hi = at + n } ∷ []
point_more at zero = let here : at + 0 ≡ at = omega arith in ap (λ a. record { lo = a; hi = a } ∷ []) (sym here)
point_more at (suc n) =
    let next : suc n + 1 ≡ suc (n + 1) = omega arith in
    let there : at + 1 + n ≡ at + suc n = omega arith in
    ap (point_homes at) next ∙ ap (λ hs. record { lo = at; hi = at } ∷ hs) (point_more (at + 1) n ∙ ap (λ a. point_homes (at + 1) n ++ record { lo = a; hi = a } ∷ []) there)

pub point_step : (at i : ℕ) (start so_far more : List Home) → so_far ≡ start ++ point_homes at i → more ≡ so_far ++ record { lo = at + i; hi = at + i } ∷ [] → more ≡ start ++ point_homes at (i + 1)
point_step at i start so_far more e f =
    f ∙ ap (λ hs. hs ++ record { lo = at + i; hi = at + i } ∷ []) e ∙ append_assoc start (point_homes at i) _ ∙ ap (λ hs. start ++ hs) (sym (point_more at i))

none_more : (h : Home) (n : ℕ) → replicate (n + 1) h ≡ replicate n h ++ h ∷ []
none_more h zero = refl
none_more h (suc n) = let next : suc n + 1 ≡ suc (n + 1) = omega arith in ap (λ k. replicate k h) next ∙ ap (λ hs. h ∷ hs) (none_more h n)

pub none_step : (h : Home) (i : ℕ) (start so_far more : List Home) → so_far ≡ start ++ replicate i h → more ≡ so_far ++ h ∷ [] → more ≡ start ++ replicate (i + 1) h
none_step h i start so_far more e f = f ∙ ap (λ hs. hs ++ h ∷ []) e ∙ append_assoc start (replicate i h) (h ∷ []) ∙ ap (λ hs. start ++ hs) (sym (none_more h i))

copies_more : (to from n : ℕ) → copies to from (n + 1) ≡ copies to from n ++ Copy (to + n) (from + n) ∷ []
copies_more to from zero =
    let a : to + 0 ≡ to = omega arith in let b : from + 0 ≡ from = omega arith in
    ap (λ x. Copy x from ∷ []) (sym a) ∙ ap (λ y. Copy (to + 0) y ∷ []) (sym b)
copies_more to from (suc n) =
    let next : suc n + 1 ≡ suc (n + 1) = omega arith in
    let a : to + 1 + n ≡ to + suc n = omega arith in
    let b : from + 1 + n ≡ from + suc n = omega arith in
    ap (copies to from) next ∙ ap (λ is. Copy to from ∷ is)
    (copies_more (to + 1) (from + 1) n ∙ ap (λ x. copies (to + 1) (from + 1) n ++ Copy x (from + 1 + n) ∷ []) a ∙ ap (λ y. copies (to + 1) (from + 1) n ++ Copy (to + suc n) y ∷ []) b)

pub copies_step : (to from i : ℕ) (start so_far more : List Instr) → so_far ≡ start ++ copies to from i → more ≡ so_far ++ Copy (to + i) (from + i) ∷ [] → more ≡ start ++ copies to from (i + 1)
copies_step to from i start so_far more e f =
    f ∙ ap (λ is. is ++ Copy (to + i) (from + i) ∷ []) e ∙ append_assoc start (copies to from i) _ ∙ ap (λ is. start ++ is) (sym (copies_more to from i))
