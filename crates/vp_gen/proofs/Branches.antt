-- A branch over two labels, and the whole code.
use Rattle.std.proofs.Common.{◌≡◌, ℕ, ◌+◌, List, [], ◌∷◌, ◌++◌, length, Option, Some, None, refl, sym, ap, ◌∙◌, subst, arith, append_assoc, length-append}
use Rattle.std.specs.Prelude.{slice_get, slice_set}
use Rattle.vp_isa.specs.declared.instr.Instr.{Instr}
use Rattle.vp_isa.specs.declared.instr.Instr.TheVariants.{Jmp, Jge}
use Rattle.vp_emit.specs.Draft.{Draft}
use Rattle.vp_layout.specs.Drafts.{Settles, Appends}
use Rattle.vp_layout.proofs.Drafts.{settles_append, first_label, second_label, end_of, set_first, set_second}

-- what the branch becomes at place p
abbrev pub branch : List Instr → (ℕ → List Instr) → List Instr → ℕ → List Instr
branch block g act p =
    let q = p + length block + 1 in
    let chosen = q + length (g q) + 1 in
    block ++ (Jge 84 66 chosen ∷ (g q ++ (Jmp (chosen + length act) ∷ act)))

pub branch_appends : (a b1 b3 b5 b7 b8 b9 : Draft) (block act : List Instr) (g : ℕ → List Instr) (l l' : ℕ)
    → Appends a b1 (λ p. block) → l ≡ length b1.places → l' ≡ length b1.places + 1
    → b3.counts ≡ b1.counts → b3.pushed ≡ b1.pushed ++ Jge 84 66 l ∷ [] → b3.places ≡ b1.places ++ None ∷ None ∷ []
    → Appends b3 b5 g
    → b7.counts ≡ b5.counts → b7.pushed ≡ b5.pushed ++ Jmp l' ∷ [] → b7.places ≡ slice_set b5.places l (Some (length (b5.pushed ++ Jmp l' ∷ [])))
    → Appends b7 b8 (λ p. act)
    → b9.counts ≡ b8.counts → b9.pushed ≡ b8.pushed → b9.places ≡ slice_set b8.places l' (Some (length b8.pushed))
    → Appends a b9 (branch block g act)
branch_appends a b1 b3 b5 b7 b8 b9 block act g l l' x el el' c3 p3 q3 w c7 p7 q7 y c9 p9 q9 =
    let p = length a.pushed in
    let q = p + length block + 1 in
    let chosen = q + length (g q) + 1 in
    let end = chosen + length act in
    let n1 : length b1.pushed ≡ p + length block = end_of a b1 (λ r. block) x in
    let n3 : length b3.pushed ≡ q = ap length p3 ∙ length-append b1.pushed (Jge 84 66 l ∷ []) ∙ ap (λ n. n + 1) n1 in
    let n5 : length b5.pushed ≡ q + length (g q) = end_of b3 b5 g w ∙ ap (λ n. n + length (g n)) n3 in
    let n7' : length (b5.pushed ++ Jmp l' ∷ []) ≡ chosen = length-append b5.pushed (Jmp l' ∷ []) ∙ ap (λ n. n + 1) n5 in
    let n7 : length b7.pushed ≡ chosen = ap length p7 ∙ n7' in
    let n8 : length b8.pushed ≡ end = end_of b7 b8 (λ r. act) y ∙ ap (λ n. n + length act) n7 in
    let none : Option ℕ = None in
    let C : Option ℕ = Some chosen in
    let S : Option ℕ = Some end in
    let r5 : b5.places ≡ b1.places ++ none ∷ none ∷ w.labels = w.places ∙ ap (λ z. z ++ w.labels) q3 ∙ append_assoc b1.places (none ∷ none ∷ []) w.labels in
    let r7 : b7.places ≡ b1.places ++ C ∷ none ∷ w.labels =
    q7 ∙ ap (λ z. slice_set z l (Some (length (b5.pushed ++ Jmp l' ∷ [])))) r5 ∙ ap (λ n. slice_set (b1.places ++ none ∷ none ∷ w.labels) l (Some n)) n7'
    ∙ set_first b1.places (none ∷ w.labels) none C l el in
    let r8 : b8.places ≡ b1.places ++ C ∷ none ∷ (w.labels ++ y.labels) = y.places ∙ ap (λ z. z ++ y.labels) r7 ∙ append_assoc b1.places (C ∷ none ∷ w.labels) y.labels in
    let r9 : b9.places ≡ b1.places ++ C ∷ S ∷ (w.labels ++ y.labels) =
    q9 ∙ ap (λ z. slice_set z l' (Some (length b8.pushed))) r8 ∙ ap (λ n. slice_set (b1.places ++ C ∷ none ∷ (w.labels ++ y.labels)) l' (Some n)) n8
    ∙ set_second b1.places (w.labels ++ y.labels) C none S l' el' in
    let t5 : b5.pushed ≡ a.pushed ++ (x.added ++ (Jge 84 66 l ∷ w.added)) =
    w.pushed ∙ ap (λ z. z ++ w.added) (p3 ∙ ap (λ z. z ++ Jge 84 66 l ∷ []) x.pushed) ∙ simp append_assoc in
    let t9 : b9.pushed ≡ a.pushed ++ (x.added ++ (Jge 84 66 l ∷ (w.added ++ (Jmp l' ∷ y.added)))) =
    p9 ∙ y.pushed ∙ ap (λ z. z ++ y.added) (p7 ∙ ap (λ z. z ++ Jmp l' ∷ []) t5) ∙ simp append_assoc in
    record {
      added = x.added ++ (Jge 84 66 l ∷ (w.added ++ (Jmp l' ∷ y.added)));
      labels = x.labels ++ (C ∷ S ∷ (w.labels ++ y.labels));
      counts = c9 ∙ y.counts ∙ c7 ∙ w.counts ∙ c3 ∙ x.counts;
      pushed = t9;
      places = r9 ∙ ap (λ z. z ++ C ∷ S ∷ (w.labels ++ y.labels)) x.places ∙ append_assoc a.places x.labels (C ∷ S ∷ (w.labels ++ y.labels));
      few = omega (arith, length-append x.added (Jge 84 66 l ∷ (w.added ++ (Jmp l' ∷ y.added))), length-append w.added (Jmp l' ∷ y.added), length-append x.labels (C ∷ S ∷ (w.labels ++ y.labels)), length-append w.labels y.labels, x.few, w.few, y.few);
      own = λ front more s.
          let F = front ++ ((x.labels ++ (C ∷ S ∷ (w.labels ++ y.labels))) ++ more) in
          let f1 : F ≡ front ++ (x.labels ++ (C ∷ S ∷ ((w.labels ++ y.labels) ++ more))) = ap (λ z. front ++ z) (append_assoc x.labels (C ∷ S ∷ (w.labels ++ y.labels)) more) in
          let f2 : F ≡ (front ++ x.labels) ++ (C ∷ S ∷ ((w.labels ++ y.labels) ++ more)) = f1 ∙ sym (append_assoc front x.labels (C ∷ S ∷ ((w.labels ++ y.labels) ++ more))) in
          let f3 : F ≡ ((front ++ x.labels) ++ C ∷ S ∷ []) ++ (w.labels ++ (y.labels ++ more)) =
          f2 ∙ ap (λ z. (front ++ x.labels) ++ (C ∷ S ∷ z)) (append_assoc w.labels y.labels more) ∙ sym (append_assoc (front ++ x.labels) (C ∷ S ∷ []) (w.labels ++ (y.labels ++ more))) in
          let f4 : F ≡ (((front ++ x.labels) ++ C ∷ S ∷ []) ++ w.labels) ++ (y.labels ++ more) = f3 ∙ sym (append_assoc ((front ++ x.labels) ++ C ∷ S ∷ []) w.labels (y.labels ++ more)) in
          let s1 : length (front ++ x.labels) ≡ length b1.places = length-append front x.labels ∙ ap (λ n. n + length x.labels) s ∙ sym (length-append a.places x.labels) ∙ ap length (sym x.places) in
          let s3 : length ((front ++ x.labels) ++ C ∷ S ∷ []) ≡ length b3.places =
          length-append (front ++ x.labels) (C ∷ S ∷ []) ∙ ap (λ n. n + 2) s1 ∙ sym (length-append b1.places (none ∷ none ∷ [])) ∙ ap length (sym q3) in
          let s7 : length (((front ++ x.labels) ++ C ∷ S ∷ []) ++ w.labels) ≡ length b7.places =
          omega (arith, length-append ((front ++ x.labels) ++ C ∷ S ∷ []) w.labels, length-append (front ++ x.labels) (C ∷ S ∷ []), s1, ap length r7, length-append b1.places (C ∷ none ∷ w.labels)) in
          let jge : slice_get F l ≡ Some C = ap (λ z. slice_get z l) f2 ∙ first_label (front ++ x.labels) l C (S ∷ ((w.labels ++ y.labels) ++ more)) (el ∙ sym s1) in
          let jmp : slice_get F l' ≡ Some S = ap (λ z. slice_get z l') f2 ∙ ap (slice_get ((front ++ x.labels) ++ (C ∷ S ∷ ((w.labels ++ y.labels) ++ more)))) el'
          ∙ second_label (front ++ x.labels) (length b1.places) C S ((w.labels ++ y.labels) ++ more) (sym s1) in
          let X : Settles F x.added block = subst (λ z. Settles z x.added block) (sym f1) (x.own front (C ∷ S ∷ ((w.labels ++ y.labels) ++ more)) s) in
          let W : Settles F w.added (g q) = subst (λ n. Settles F w.added (g n)) n3 (subst (λ z. Settles z w.added (g (length b3.pushed))) (sym f3) (w.own ((front ++ x.labels) ++ C ∷ S ∷ []) (y.labels ++ more) s3)) in
          let Y : Settles F y.added act = subst (λ z. Settles z y.added act) (sym f4) (y.own (((front ++ x.labels) ++ C ∷ S ∷ []) ++ w.labels) more s7) in
          let J : Settles F (Jge 84 66 l ∷ []) (Jge 84 66 chosen ∷ []) = record { code_is = rw jge refl; placed = rw jge refl } in
          let K : Settles F (Jmp l' ∷ []) (Jmp end ∷ []) = record { code_is = rw jmp refl; placed = rw jmp refl } in
          settles_append F x.added (Jge 84 66 l ∷ (w.added ++ (Jmp l' ∷ y.added))) block (Jge 84 66 chosen ∷ (g q ++ (Jmp end ∷ act))) X
          (settles_append F (Jge 84 66 l ∷ []) (w.added ++ (Jmp l' ∷ y.added)) (Jge 84 66 chosen ∷ []) (g q ++ (Jmp end ∷ act)) J
          (settles_append F w.added (Jmp l' ∷ y.added) (g q) (Jmp end ∷ act) W (settles_append F (Jmp l' ∷ []) y.added (Jmp end ∷ []) act K Y)));
    }
