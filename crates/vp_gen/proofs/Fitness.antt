-- What the code needs of a sandbox that fits and is small enough.
use Rattle.std.proofs.Common.{◌≡◌, ℕ, ◌+◌, ◌*◌, ◌≤◌, Bool, List, [], ◌∷◌, ◌++◌, length, map, Option, Some, None, refl, sym, ap, ◌∙◌, subst, arith, append_assoc, length-append}
use Rattle.std.specs.Prelude.{sum_by, slice_get}
use Rattle.std.proofs.lemmas.List.{length-map}
use Rattle.std.proofs.lemmas.List.Sums.{sum_by-cons}
use Rattle.vp_words.specs.declared.record.Counts.{Counts}
use Rattle.vp_words.specs.declared.record.Kind.TheVariants as kind
use Rattle.vp_words.specs.Record.{place_count}
use Rattle.vp_isa.specs.declared.code.Code.{Code}
use Rattle.vp_isa.specs.declared.instr.Instr.{Instr}
use Rattle.vp_isa.specs.declared.instr.Instr.TheVariants.{Jmp}
use Rattle.vp_poly.specs.declared.mono.Term.{Term}
use Rattle.vp_logic.specs.Tree.{Tree, Trees, One, AllOf, AnyOf, None as Done, Then, tree}
use Rattle.vp_sandbox.specs.declared.sandbox.Sandbox.{Sandbox}
use Rattle.vp_sandbox.specs.Fits.{TreeFits, TreesFit, EachFits, PolysFit, Fits}
use Rattle.vp_sandbox.specs.Sizes.{form_size, poly_size, instruction_bound}
use Rattle.vp_emit.specs.Draft.{Draft}
use Rattle.vp_layout.specs.declared.block.Monitor.TheVariants as monitor
use Rattle.vp_layout.specs.Blocks.{copies, take_code}
use Rattle.vp_layout.specs.Drafts.{Settles, Appends, HasRoom, mon_of}
use Rattle.vp_layout.specs.Homes.{homes_of, state_cell, next_state_cell}
use Rattle.vp_layout.specs.Truths.{IsSmall, AreSmall, AllSmall, SmallPolys}
use Rattle.vp_layout.proofs.Cells.{length-copies}
use Rattle.vp_layout.proofs.Drafts.{settles_append, first_label, nil_right, end_of, label_room, room_after}
use Rattle.vp_layout.proofs.Counting.{few_truths, all_few}
use Rattle.vp_gen.specs.CheckCode.{checks_code}
use Rattle.vp_gen.specs.Parts.{init_part, sense_part}
use Rattle.vp_gen.specs.SandboxCode.{init_code, choice_code, head_of, sense_of, code_of}
use Rattle.vp_gen.proofs.Sizes.{length-form}
use Rattle.vp_gen.proofs.Validity.{length-checks, length-choice, length-fallback, length-test}
use Rattle.vp_gen.proofs.Loop.{Compiles, test_end}

mutual
  tree_small : (allowed : ℕ → Bool) (t : Tree) → TreeFits allowed t → IsSmall t
  tree_small allowed (One a) h = h.small
  tree_small allowed (AllOf ns) h = trees_small allowed ns h
  tree_small allowed (AnyOf ns) h = trees_small allowed ns h

  trees_small : (allowed : ℕ → Bool) (ns : Trees) → TreesFit allowed ns → AreSmall ns
  trees_small allowed Done h = tt
  trees_small allowed (Then n ns) h = (tree_small allowed n h.0, trees_small allowed ns h.1)

each_small : (allowed : ℕ → Bool) (ts : List Tree) → EachFits allowed ts → AllSmall ts
each_small allowed [] h = tt
each_small allowed (t ∷ ts) h = (tree_small allowed t h.0, each_small allowed ts h.1)

polys_small : (allowed : ℕ → Bool) (ps : List (List Term)) → PolysFit allowed ps → SmallPolys ps
polys_small allowed [] h = tt
polys_small allowed (p ∷ ps) h = (h.0.small, polys_small allowed ps h.1)

count_bound : (ts : List Tree) → length ts ≤ sum_by (λ t. form_size t + 8) ts
count_bound [] = omega arith
count_bound (t ∷ ts) = omega (arith, count_bound ts, sum_by-cons (λ t. form_size t + 8) t ts)

pub record Emits (s : Sandbox) : Type 0 where
  pub compiles : Compiles s
  pub init_sum : sum_by (λ t. form_size t + 8) (map tree s.init) ≤ 65536
  pub plant_sum : sum_by (λ t. form_size t + 8) (map tree s.plant) ≤ 65536
  pub ctrl_sum : form_size (tree s.ctrl) ≤ 65536
  pub words_sum : sum_by (λ p. poly_size p + 6) s.fallback ≤ 65536
  pub init_few : length s.init ≤ 65536
  pub plant_few : length s.plant ≤ 65536
  pub init_small : AllSmall (map tree s.init)
  pub plant_small : AllSmall (map tree s.plant)
  pub ctrl_small : IsSmall (tree s.ctrl)
  pub words_small : SmallPolys s.fallback
  pub controls : s.counts.controls ≤ 32
  pub states : s.counts.states ≤ 32

pub emits : (s : Sandbox) → Fits s → instruction_bound s ≤ 65536 → Emits s
emits s f h =
    let a : sum_by (λ t. form_size t + 8) (map tree s.init) ≤ 65536 = omega (arith, h) in
    let b : sum_by (λ t. form_size t + 8) (map tree s.plant) ≤ 65536 = omega (arith, h) in
    let c : form_size (tree s.ctrl) ≤ 65536 = omega (arith, h) in
    let v : place_count s.counts ≤ 32 = f.counts.2 in
    record {
      compiles = record { counts = f.counts; init = all_few (map tree s.init) a; ctrl = few_truths (tree s.ctrl) c; plant = all_few (map tree s.plant) b; words = f.fallback_count; fallback = f.fallback };
      init_sum = a;
      plant_sum = b;
      ctrl_sum = c;
      words_sum = omega (arith, h);
      init_few = omega (arith, a, count_bound (map tree s.init), length-map s.init tree);
      plant_few = omega (arith, b, count_bound (map tree s.plant), length-map s.plant tree);
      init_small = each_small _ (map tree s.init) f.init;
      plant_small = each_small _ (map tree s.plant) f.plant;
      ctrl_small = tree_small _ (tree s.ctrl) f.ctrl;
      words_small = polys_small _ s.fallback f.fallback;
      controls = omega arith;
      states = omega arith;
    }

-- The parts of the code, one after another.

choice_short : (s : Sandbox) → Emits s → length (choice_code s (head_of s)) ≤ 140000
choice_short s em =
    omega (
      arith,
      length-choice s,
      length-test s,
      length-form (tree s.ctrl) 84 (homes_of s.counts),
      em.ctrl_sum,
      length-fallback s (test_end s + 1),
      em.words_sum,
      em.controls,
    )

-- the draft behind the init part
pub record Begun (s : Sandbox) (d : Draft) : Type 0 where
  pub few : length d.places ≤ length d.pushed
  pub room : HasRoom d 800000
  pub at : length d.pushed ≡ head_of s

pub begun : (s : Sandbox) (d0 d1 : Draft) → Emits s → d0.pushed ≡ [] → d0.places ≡ [] → Appends d0 d1 (init_part s) → Begun s d1
begun s d0 d1 em z0 z1 x =
    let ts = map tree s.init in
    let l0 : length d0.pushed ≡ 0 = ap length z0 in
    let m0 : length d0.places ≡ 0 = ap length z1 in
    let r0 : HasRoom d0 1000000 = record { room = omega (arith, l0); labels = omega (arith, m0) } in
    let checks = checks_code (length d0.pushed + 5) 84 (mon_of monitor.Init) 1 ts (homes_of s.counts) in
    record {
      few = omega (arith, ap length x.places, ap length x.pushed, length-append d0.places x.labels, length-append d0.pushed x.added, x.few, l0, m0);
      room = room_after d0 d1 (init_part s) 800000 1000000 x r0
          (omega (arith, length-append (take_code s.counts kind.Init) checks, length-checks (length d0.pushed + 5) 1 (mon_of monitor.Init) ts (homes_of s.counts), em.init_sum));
      at = end_of d0 d1 (init_part s) x ∙ ap (λ k. k + length (init_part s k)) l0 ∙ omega arith;
    }

-- and behind its label, which has a place
pub headed : (s : Sandbox) (d1 d3 : Draft) → Begun s d1 → d3.pushed ≡ d1.pushed → d3.places ≡ d1.places ++ Some (length d1.pushed) ∷ [] → HasRoom d3 700000
headed s d1 d3 b e f =
    let none : Option ℕ = None in
    let more : length d3.places ≡ length d1.places + 1 = ap length f ∙ length-append d1.places (Some (length d1.pushed) ∷ []) in
    label_room d1 d3 none 800000 700000 b.room b.few (omega arith) e more

pub chosen_room : (s : Sandbox) (d1 d3 d4 : Draft) → Emits s → Begun s d1 → d3.pushed ≡ d1.pushed → HasRoom d3 700000 → Appends d3 d4 (choice_code s) → HasRoom d4 500000
chosen_room s d1 d3 d4 em b e r y =
    let at : length d3.pushed ≡ head_of s = ap length e ∙ b.at in
    let size : length (choice_code s (length d3.pushed)) + 500000 ≤ 700000 = omega (arith, ap (λ k. length (choice_code s k)) at, choice_short s em) in
    room_after d3 d4 (choice_code s) 500000 700000 y r size

pub sensed_room : (s : Sandbox) (d4 d5 : Draft) → Emits s → HasRoom d4 500000 → Appends d4 d5 (sense_part s) → HasRoom d5 1000
sensed_room s d4 d5 em r w =
    let n = s.counts in
    let us = map tree s.plant in
    let moves = copies (state_cell n) (next_state_cell n) (2 * n.states) in
    let checks = checks_code (length d4.pushed + 5) 84 (mon_of monitor.Plant) 1 us (homes_of n) in
    room_after d4 d5 (sense_part s) 1000 500000 w r
    (omega (
      arith,
      length-append (take_code n kind.Sense ++ checks) moves,
      length-append (take_code n kind.Sense) checks,
      length-checks (length d4.pushed + 5) 1 (mon_of monitor.Plant) us (homes_of n),
      em.plant_sum,
      length-copies (state_cell n) (next_state_cell n) (2 * n.states),
      em.states,
    ))

-- the three parts, and the jump back to the place of the first label between them
pub whole : (d0 d1 d3 d4 d5 : Draft) (l : ℕ) (f1 f4 f5 : ℕ → List Instr) (pushed : List Instr) (places : List (Option ℕ))
    → d0.pushed ≡ [] → d0.places ≡ [] → Appends d0 d1 f1 → l ≡ length d1.places → d3.pushed ≡ d1.pushed → d3.places ≡ d1.places ++ Some (length d1.pushed) ∷ []
    → Appends d3 d4 f4 → Appends d4 d5 f5 → pushed ≡ d5.pushed ++ Jmp l ∷ [] → places ≡ d5.places
    → Settles places pushed (f1 0 ++ (f4 (length (f1 0)) ++ (f5 (length (f1 0) + length (f4 (length (f1 0)))) ++ Jmp (length (f1 0)) ∷ [])))
whole d0 d1 d3 d4 d5 l f1 f4 f5 pushed places z0 z1 x el p3 q3 y w ep eq =
    let zero_at : length d0.pushed ≡ 0 = ap length z0 in
    let h = length (f1 0) in
    let e = h + length (f4 h) in
    let n1 : length d1.pushed ≡ h = end_of d0 d1 f1 x ∙ ap (λ n. n + length (f1 n)) zero_at ∙ omega arith in
    let n3 : length d3.pushed ≡ h = ap length p3 ∙ n1 in
    let n4 : length d4.pushed ≡ e = end_of d3 d4 f4 y ∙ ap (λ n. n + length (f4 n)) n3 in
    let H : Option ℕ = Some h in
    let r1 : d1.places ≡ x.labels = x.places ∙ ap (λ z. z ++ x.labels) z1 in
    let r3 : d3.places ≡ x.labels ++ H ∷ [] = q3 ∙ ap (λ z. z ++ Some (length d1.pushed) ∷ []) r1 ∙ ap (λ n. x.labels ++ Some n ∷ []) n1 in
    let all : places ≡ x.labels ++ (H ∷ (y.labels ++ w.labels)) =
    eq ∙ w.places ∙ ap (λ z. z ++ w.labels) (y.places ∙ ap (λ z. z ++ y.labels) r3) ∙ simp append_assoc in
    let F = x.labels ++ (H ∷ (y.labels ++ w.labels)) in
    let t1 : d1.pushed ≡ x.added = x.pushed ∙ ap (λ z. z ++ x.added) z0 in
    let code : pushed ≡ x.added ++ (y.added ++ (w.added ++ Jmp l ∷ [])) =
    ep ∙ ap (λ z. z ++ Jmp l ∷ []) (w.pushed ∙ ap (λ z. z ++ w.added) (y.pushed ∙ ap (λ z. z ++ y.added) (p3 ∙ t1))) ∙ simp append_assoc in
    let X : Settles F x.added (f1 0) = subst (λ n. Settles F x.added (f1 n)) zero_at (x.own [] (H ∷ (y.labels ++ w.labels)) (sym (ap length z1))) in
    let s3 : length (x.labels ++ H ∷ []) ≡ length d3.places = ap length (sym r3) in
    let fy : F ≡ (x.labels ++ H ∷ []) ++ (y.labels ++ w.labels) = sym (append_assoc x.labels (H ∷ []) (y.labels ++ w.labels)) in
    let Y : Settles F y.added (f4 h) = subst (λ n. Settles F y.added (f4 n)) n3 (subst (λ z. Settles z y.added (f4 (length d3.pushed))) (sym fy) (y.own (x.labels ++ H ∷ []) w.labels s3)) in
    let s4 : length ((x.labels ++ H ∷ []) ++ y.labels) ≡ length d4.places = ap length (ap (λ z. z ++ y.labels) (sym r3) ∙ sym y.places) in
    let fw : F ≡ ((x.labels ++ H ∷ []) ++ y.labels) ++ (w.labels ++ []) =
    fy ∙ sym (append_assoc (x.labels ++ H ∷ []) y.labels w.labels) ∙ ap (λ z. ((x.labels ++ H ∷ []) ++ y.labels) ++ z) (sym (nil_right w.labels)) in
    let W : Settles F w.added (f5 e) = subst (λ n. Settles F w.added (f5 n)) n4 (subst (λ z. Settles z w.added (f5 (length d4.pushed))) (sym fw) (w.own ((x.labels ++ H ∷ []) ++ y.labels) [] s4)) in
    let jmp : slice_get F l ≡ Some H = first_label x.labels l H (y.labels ++ w.labels) (el ∙ ap length r1) in
    let J : Settles F (Jmp l ∷ []) (Jmp h ∷ []) = record { code_is = rw jmp refl; placed = rw jmp refl } in
    let whole_ = settles_append F x.added (y.added ++ (w.added ++ Jmp l ∷ [])) (f1 0) (f4 h ++ (f5 e ++ Jmp h ∷ [])) X
    (settles_append F y.added (w.added ++ Jmp l ∷ []) (f4 h) (f5 e ++ Jmp h ∷ []) Y (settles_append F w.added (Jmp l ∷ []) (f5 e) (Jmp h ∷ []) W J)) in
    subst (λ z. Settles z pushed (f1 0 ++ (f4 h ++ (f5 e ++ Jmp h ∷ [])))) (sym all)
    (subst (λ z. Settles F z (f1 0 ++ (f4 h ++ (f5 e ++ Jmp h ∷ [])))) (sym code) whole_)

-- and so the code of the sandbox
pub whole_code : (s : Sandbox) (p : List (Option ℕ)) (pushed : List Instr)
    → Settles p pushed (init_part s 0 ++ (choice_code s (length (init_part s 0)) ++ (sense_part s (length (init_part s 0) + length (choice_code s (length (init_part s 0)))) ++ Jmp (length (init_part s 0)) ∷ [])))
    → Settles p pushed (code_of s).instrs
whole_code s p pushed h =
    let n = s.counts in
    let take = take_code n kind.Sense in
    let checks = checks_code (sense_of s + 5) 84 (mon_of monitor.Plant) 1 (map tree s.plant) (homes_of n) in
    let moves = copies (state_cell n) (next_state_cell n) (2 * n.states) in
    let jump = Jmp (head_of s) ∷ [] in
    let same : ((take ++ checks) ++ moves) ++ jump ≡ take ++ (checks ++ (moves ++ jump)) = append_assoc (take ++ checks) moves jump ∙ append_assoc take checks (moves ++ jump) in
    record { code_is = h.code_is ∙ ap (λ z. init_code s ++ (choice_code s (head_of s) ++ z)) same; placed = h.placed }

-- a code is its parts
pub code_from : (x y : Code) → x.counts ≡ y.counts → x.cells ≡ y.cells → x.head ≡ y.head → x.instrs ≡ y.instrs → x ≡ y
code_from x y a b c d =
    ap (λ k. code k x.cells x.head x.instrs) a ∙ ap (λ k. code y.counts k x.head x.instrs) b ∙ ap (λ k. code y.counts y.cells k x.instrs) c ∙ ap (code y.counts y.cells y.head) d
  where
    code : Counts → ℕ → ℕ → List Instr → Code
    code n cells head instrs = record { counts = n; cells = cells; head = head; instrs = instrs }
