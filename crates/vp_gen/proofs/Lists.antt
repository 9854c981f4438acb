-- Lists that are made from the front.
use Rattle.std.proofs.Common.{◌≡◌, ℕ, ◌+◌, ◌<◌, ◌≤◌, List, [], ◌∷◌, ◌++◌, length, take, get_or, refl, sym, ap, ◌∙◌, arith, append_assoc}
use Rattle.std.specs.Prelude.{slice_get, Some}
use Rattle.std.proofs.lemmas.List.{take_more, length-take}
use Rattle.std.proofs.lemmas.Option.{slice_get_within, get_or_from_slice_get}
use Rattle.vp_isa.specs.declared.instr.Instr.{Instr}
use Rattle.vp_poly.specs.declared.mono.Term.{Term}
use Rattle.vp_layout.specs.declared.home.Home.{Home}
use Rattle.vp_layout.proofs.Drafts.{nil_right}
use Rattle.vp_gen.specs.PolyCode.{term_code, added_code, sums_code, poly_code}

sums_more : (d : ℕ) (ts : List Term) (t : Term) (hs : List Home) → sums_code d (ts ++ t ∷ []) hs ≡ sums_code d ts hs ++ added_code d t hs
sums_more d [] t hs = nil_right (added_code d t hs)
sums_more d (u ∷ us) t hs = ap (λ is. added_code d u hs ++ is) (sums_more d us t hs) ∙ sym (append_assoc (added_code d u hs) (sums_code d us hs) (added_code d t hs))

poly_more : (d : ℕ) (ts : List Term) (t : Term) (hs : List Home) → 1 ≤ length ts → poly_code d (ts ++ t ∷ []) hs ≡ poly_code d ts hs ++ added_code d t hs
poly_more d [] t hs h = absurd (omega arith)
poly_more d (u ∷ us) t hs h = ap (λ is. term_code d u hs ++ is) (sums_more d us t hs) ∙ sym (append_assoc (term_code d u hs) (sums_code d us hs) (added_code d t hs))

-- one more term
pub poly_step : (d k : ℕ) (p : List Term) (t : Term) (hs : List Home) (start so_far more : List Instr) → 1 ≤ k → slice_get p k ≡ Some t
    → so_far ≡ start ++ poly_code d (take k p) hs → more ≡ so_far ++ added_code d t hs → more ≡ start ++ poly_code d (take (k + 1) p) hs
poly_step d k p t hs start so_far more some at e f =
    let inside : k < length p = slice_get_within p k t at in
    let here : get_or p k t ≡ t = get_or_from_slice_get p k t t at in
    let longer : take (k + 1) p ≡ take k p ++ t ∷ [] = take_more p k t inside ∙ ap (λ u. take k p ++ u ∷ []) here in
    let count : 1 ≤ length (take k p) = simp length-take (omega arith) in
    f ∙ ap (λ is. is ++ added_code d t hs) e ∙ append_assoc start (poly_code d (take k p) hs) (added_code d t hs)
    ∙ ap (λ is. start ++ is) (sym (ap (λ ts. poly_code d ts hs) longer ∙ poly_more d (take k p) t hs count))
