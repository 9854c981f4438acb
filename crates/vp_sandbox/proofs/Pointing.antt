-- The words of boxes whose two ends are the same, one polynomial after another.
use Rattle.std.proofs.Common.{◌≡◌, ℕ, suc, ◌<◌, ◌≤◌, true, false, IsTrue, List, [], ◌∷◌, ◌++◌, length, map, take, drop, get_or, Option, Some, None, refl, sym, ap, ◌∙◌, arith, append_assoc, append-nil, drop-cons, length-set, take-suc-set, drop_of_length-le, ℤ}
use Rattle.std.specs.Prelude.{slice_set}
use Rattle.std.specs.List.{list_all}
use Rattle.std.specs.Option.{option_map}
use Rattle.std.specs.Ordering.{int_eq}
use Rattle.std.proofs.lemmas.Int.{ints}
use Rattle.vp_words.specs.Number.{IsFinite, is_finite}
use Rattle.vp_terms.proofs.Agreeing.{both}
use Rattle.vp_poly.specs.declared.mono.Term.{Term}
use Rattle.vp_interval.specs.Rounding.{Ends}
use Rattle.vp_sandbox.specs.Boxes.{point_words}

-- the words of the first boxes stand, and those of the others follow
pub record HasWords (f : List Term → Ends) (ps : List (List Term)) (i : ℕ) (ws : List ℤ) : Type 0 where
  pub size : length ws ≡ 16
  pub sofar : point_words (map f ps) ≡ option_map (λ (more : List ℤ). take i ws ++ more) (point_words (map f (drop i ps)))
  pub finite : IsTrue (list_all is_finite (take i ws))

nothing_before : (o : Option (List ℤ)) → o ≡ option_map (λ (more : List ℤ). more) o
nothing_before (Some ws) = refl
nothing_before None = refl

pub HasWords-none : (f : List Term → Ends) (ps : List (List Term)) (ws : List ℤ) → length ws ≡ 16 → HasWords f ps 0 ws
HasWords-none f ps ws e = record { size = e; sofar = nothing_before (point_words (map f ps)); finite = refl }

same_ends : (a b : ℤ) → a ≡ b → int_eq a b ≡ true
same_ends a b e = grind (arith, ints)

other_ends : (a b : ℤ) → (a ≡ b → ⊥) → int_eq a b ≡ false
other_ends a b e = grind (arith, ints)

first_apart : (v : Ends) (vs : List Ends) → (v.lo ≡ v.hi → ⊥) → point_words (v ∷ vs) ≡ None
first_apart v vs h = rw (other_ends v.lo v.hi h) refl

first_point : (v : Ends) (vs : List Ends) → v.lo ≡ v.hi → point_words (v ∷ vs) ≡ option_map (λ (ws : List ℤ). v.lo ∷ ws) (point_words vs)
first_point v vs h = rw (same_ends v.lo v.hi h) refl

one_joined : (before : List ℤ) (w : ℤ) (o : Option (List ℤ)) → option_map (λ (more : List ℤ). before ++ more) (option_map (λ (ws : List ℤ). w ∷ ws) o) ≡ option_map (λ (more : List ℤ). (before ++ (w ∷ [])) ++ more) o
one_joined before w (Some ws) = ap Some (sym (append_assoc before (w ∷ []) ws))
one_joined before w None = refl

all_and_one : (ws : List ℤ) (w : ℤ) → IsTrue (list_all is_finite ws) → IsTrue (is_finite w) → IsTrue (list_all is_finite (ws ++ (w ∷ [])))
all_and_one [] w h f = rw f refl
all_and_one (x ∷ xs) w h f = let s = both (is_finite x) (list_all is_finite xs) h in rw (s.0, all_and_one xs w s.1 f) refl

told_finite : (w : ℤ) → IsFinite w → IsTrue (is_finite w)
told_finite w h = grind (arith, ints)

module _ (f : List Term → Ends) (ps : List (List Term)) (i : ℕ) (ws : List ℤ) (p : List Term) (inside : i < length ps) (is : p ≡ get_or ps i p) (h : HasWords f ps i ws) where
  split : drop i ps ≡ p ∷ drop (suc i) ps
  split = drop-cons ps i p inside ∙ ap (λ (q : List Term). q ∷ drop (suc i) ps) (sym is)

  split_words : point_words (map f (drop i ps)) ≡ point_words (f p ∷ map f (drop (suc i) ps))
  split_words = ap (λ (l : List (List Term)). point_words (map f l)) split

  pub HasWords-stops : ((f p).lo ≡ (f p).hi → ⊥) → point_words (map f ps) ≡ None
  HasWords-stops apart =
      h.sofar ∙ ap (option_map (λ (more : List ℤ). take i ws ++ more)) (split_words ∙ first_apart (f p) (map f (drop (suc i) ps)) apart)

  pub HasWords-more : (w : ℤ) → i < 16 → (f p).lo ≡ (f p).hi → w ≡ (f p).lo → IsFinite w → HasWords f ps (suc i) (slice_set ws i w)
  HasWords-more w few same e fin =
      let t : take (suc i) (slice_set ws i w) ≡ take i ws ++ (w ∷ []) = take-suc-set ws i w (rw h.size few) in
      let rest = map f (drop (suc i) ps) in
      let one : point_words (f p ∷ rest) ≡ option_map (λ (l : List ℤ). w ∷ l) (point_words rest) = first_point (f p) rest same ∙ ap (λ (v : ℤ). option_map (λ (l : List ℤ). v ∷ l) (point_words rest)) (sym e) in
      record {
        size = omega (arith, h.size, length-set ws i w);
        sofar =
            h.sofar
            ∙ ap (option_map (λ (more : List ℤ). take i ws ++ more)) (split_words ∙ one)
            ∙ one_joined (take i ws) w (point_words rest)
            ∙ ap (λ (l : List ℤ). option_map (λ (more : List ℤ). l ++ more) (point_words rest)) (sym t);
        finite = rw t (all_and_one (take i ws) w h.finite (told_finite w fin));
      }

pub HasWords-all : (f : List Term → Ends) (ps : List (List Term)) (i : ℕ) (ws : List ℤ) → length ps ≤ i → HasWords f ps i ws → point_words (map f ps) ≡ Some (take i ws)
HasWords-all f ps i ws l h =
    h.sofar
    ∙ ap (λ (q : List (List Term)). option_map (λ (more : List ℤ). take i ws ++ more) (point_words (map f q))) (drop_of_length-le ps l)
    ∙ ap Some (append-nil (take i ws))
