-- The lines of a listing, one element at a time.
use Rattle.std.proofs.Common.{◌≡◌, ℕ, zero, suc, ◌+◌, ◌<◌, min, Vec, List, [], ◌∷◌, ◌++◌, length, map, drop, get_or, refl, sym, ap, subst, ◌∙◌, arith, drop-cons}
use Rattle.std.specs.List.{All}
use Rattle.std.proofs.lemmas.List.Elements.{All-head, All-tail}
use Rattle.vp_synth.proofs.Appending.{appended}
use Rattle.std.specs.Prelude.{String, string_bytes, Some, slice_get}
use Rattle.std.specs.declared.alloc.Global.{Global}
use Rattle.vp_terms.specs.declared.package.Part.{Part}
use Rattle.vp_poly.specs.declared.mono.Term.{Term}
use Rattle.vp_logic.specs.declared.norm.Atom.{Atom}
use Rattle.vp_logic.specs.Cases.{lists}
use Rattle.vp_synth.specs.Listing.{atom_line, case_lines, fallback_lines}

-- without polynomials there are no lines
no_values : (vs ns : List (List ℕ)) → fallback_lines vs ns [] ≡ []
no_values vs [] = refl
no_values vs (n ∷ ns) = refl

-- nor behind the shorter list
pub fallback_end : (vs : List (List ℕ)) (ns : List (String Global)) (ps : List (List Term)) (i : ℕ) → i ≡ min (length ns) (length ps) → fallback_lines vs (map string_bytes (drop i ns)) (drop i ps) ≡ []
fallback_end vs [] ps zero h = refl
fallback_end vs [] ps (suc i) h = refl
fallback_end vs (n ∷ ns) [] zero h = refl
fallback_end vs (n ∷ ns) [] (suc i) h = no_values vs (map string_bytes (drop i ns))
fallback_end vs (n ∷ ns) (p ∷ ps) zero h = absurd (omega arith)
fallback_end vs (n ∷ ns) (p ∷ ps) (suc i) h = fallback_end vs ns ps i (omega arith)

-- an atom that is lent is the one at its place
found : (atoms : List Atom) (k : ℕ) (a : Atom) → k < length atoms → a ≡ get_or atoms k a → slice_get atoms k ≡ Some a
found [] k a h e = absurd (omega arith)
found (b ∷ bs) zero a h e = ap Some (sym e)
found (b ∷ bs) (suc k) a h e = found bs k a (omega arith) e

-- the lines of a case go on with that of the next atom
pub atom_more : (vs : List (List ℕ)) (part : Part) (n : ℕ) (atoms lent : List Atom) (ks : List ℕ) (i : ℕ) (a : Atom) (out new all : List ℕ) → lent ≡ atoms → i < length ks → All (λ k. k < length atoms) ks → a ≡ get_or lent (get_or ks i 0) a →
    out ++ case_lines vs part n atoms (i + 1) (drop i ks) ≡ all → new ≡ out ++ atom_line vs part n (i + 1) a → new ++ case_lines vs part n atoms (i + 1 + 1) (drop (i + 1) ks) ≡ all
atom_more vs part n atoms lent ks i a out new all q h w e f g =
    let there = found atoms (get_or ks i 0) a (w i 0 h) (subst (λ (l : List Atom). a ≡ get_or l (get_or ks i 0) a) q e) in
    let next : case_lines vs part n atoms (i + 1) (drop i ks) ≡ atom_line vs part n (i + 1) a ++ case_lines vs part n atoms (suc (i + 1)) (drop (suc i) ks) = rw (drop-cons ks i 0 h) (rw there refl) in
    let number : suc (i + 1) ≡ i + 1 + 1 = omega arith in
    let place : suc i ≡ i + 1 = omega arith in
    let more : case_lines vs part n atoms (suc (i + 1)) (drop (suc i) ks) ≡ case_lines vs part n atoms (i + 1 + 1) (drop (i + 1) ks) =
    ap (λ (x : ℕ). case_lines vs part n atoms x (drop (suc i) ks)) number ∙ ap (λ (y : ℕ). case_lines vs part n atoms (i + 1 + 1) (drop y ks)) place in
    appended out new (atom_line vs part n (i + 1) a) (case_lines vs part n atoms (i + 1) (drop i ks)) (case_lines vs part n atoms (i + 1 + 1) (drop (i + 1) ks)) all f (next ∙ ap (λ (l : List ℕ). atom_line vs part n (i + 1) a ++ l) more) g

-- the places of each case are those of atoms
pub case_within : (n : ℕ) (vs us : List (Vec ℕ Global)) (i : ℕ) (v : Vec ℕ Global) → us ≡ vs → i < length us → v ≡ get_or us i v → All (λ c. All (λ k. k < n) c) (lists vs) → All (λ k. k < n) v.items
case_within n vs us i v q l e h = here us i l e (subst (λ (k : List (Vec ℕ Global)). All (λ c. All (λ k. k < n) c) (lists k)) (sym q) h)
  where
    here : (us : List (Vec ℕ Global)) (i : ℕ) → i < length us → v ≡ get_or us i v → All (λ c. All (λ k. k < n) c) (lists us) → All (λ k. k < n) v.items
    here [] i l e h = absurd (omega arith)
    here (w ∷ ws) zero l e h = subst (λ (u : Vec ℕ Global). All (λ k. k < n) u.items) (sym e) (All-head (λ c. All (λ k. k < n) c) w.items (lists ws) h)
    here (w ∷ ws) (suc i) l e h = here ws i (omega arith) e (All-tail (λ c. All (λ k. k < n) c) w.items (lists ws) h)
