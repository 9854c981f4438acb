-- The code of a sandbox is valid, and no longer than the bound.
use Rattle.std.proofs.Common.{◌≡◌, inl, inr, ℕ, zero, suc, ◌+◌, ◌*◌, ◌<◌, ◌≤◌, List, [], ◌∷◌, ◌++◌, length, map, Bool, true, false, ◌&&◌, Some, None, IfSome, refl, sym, ap, ◌∙◌, subst, arith, append_assoc, length-append, slice_get}
use Rattle.std.specs.Prelude.{sum_by}
use Rattle.std.proofs.lemmas.List.Sums.{sum_by-cons}
use Rattle.vp_isa.specs.declared.code.Code.{Code}
use Rattle.vp_isa.specs.declared.instr.Mon.{Mon}
use Rattle.vp_isa.specs.declared.instr.Instr.{Instr}
use Rattle.vp_isa.specs.declared.instr.Instr.TheVariants.{Jmp, Jge, Jgt, Jeq, Take, Act, Halt}
use Rattle.vp_words.specs.declared.record.Counts.{Counts}
use Rattle.vp_words.specs.declared.record.Kind.{Kind}
use Rattle.vp_words.specs.declared.record.Kind.TheVariants as kind
use Rattle.vp_words.specs.Record.{field_count}
use Rattle.vp_isa.specs.Valid.{TargetFits, IsValid, is_take, cells_used, target_of}
use Rattle.vp_isa.specs.Block.{is_plain, are_plain}
use Rattle.vp_poly.specs.declared.mono.Term.{Term}
use Rattle.vp_logic.specs.Tree.{Tree, tree}
use Rattle.vp_sandbox.specs.declared.sandbox.Sandbox.{Sandbox}
use Rattle.vp_sandbox.specs.Sizes.{poly_size, form_size, instruction_bound}
use Rattle.vp_layout.specs.declared.home.Home.{Home}
use Rattle.vp_layout.specs.Homes.{homes_of, record_cell, state_cell, control_cell, next_control_cell, next_state_cell}
use Rattle.vp_gen.specs.PolyCode.{poly_code}
use Rattle.vp_layout.specs.Truths.{need, AllNeed}
use Rattle.vp_gen.specs.FormCode.{form_code}
use Rattle.vp_gen.specs.CheckCode.{check_code, checks_code}
use Rattle.vp_layout.specs.declared.block.Monitor.TheVariants as monitor
use Rattle.vp_layout.specs.Blocks.{act_code, copies, constants_code, take_code, yes_code}
use Rattle.vp_layout.specs.Cells.{HomesAreBelow}
use Rattle.vp_layout.specs.Drafts.{mon_of}
use Rattle.vp_layout.proofs.Machines.{Runs}
use Rattle.vp_gen.specs.SandboxCode.{same_code, word_code, words_code, init_code, fallback_code, chosen_code, test_code, choice_code, sense_code, head_of, sense_of, code_of}
use Rattle.vp_layout.proofs.Kept.{are_below_more}
use Rattle.vp_layout.proofs.Cells.{length-copies, plain-copies}
use Rattle.vp_layout.proofs.Taking.{record_fits}
use Rattle.vp_gen.proofs.Plain.{plain-form, plain-poly}
use Rattle.vp_gen.proofs.Sizes.{length-poly, length-form}
use Rattle.vp_gen.proofs.Low.{Low, low-form, low-poly, low-copies}
use Rattle.vp_layout.proofs.HomeLaws.{cells_fit, homes_below}
use Rattle.vp_gen.proofs.Loop.{Compiles, has_choice, test_end, chosen_place, chosen_end, after_fallback, branches}

-- an instruction that may stand at a place, if it isn't the last
record Good (code : Code) (at : ℕ) (i : Instr) : Type 0 where
  cells : cells_used code.counts i ≤ code.cells
  target : IfSome (target_of i) (TargetFits code at)

-- and so each of these, from a place on
abbrev GoodFrom : Code → ℕ → List Instr → Type 0
GoodFrom code at [] = Unit {0}
GoodFrom code at (i ∷ is) = Good code at i × GoodFrom code (at + 1) is

good-append : (code : Code) (at : ℕ) (a b : List Instr) → GoodFrom code at a → GoodFrom code (at + length a) b → GoodFrom code at (a ++ b)
good-append code at [] b g h = let e : at + 0 ≡ at = omega arith in subst (λ p. GoodFrom code p b) e h
good-append code at (i ∷ a) b g h =
    let e : at + length (i ∷ a) ≡ at + 1 + length a = omega arith in
    (g.0, good-append code (at + 1) a b g.1 (subst (λ p. GoodFrom code p b) e h))

good_get : (code : Code) (at : ℕ) (is : List Instr) (k : ℕ) (i : Instr) → GoodFrom code at is → slice_get is k ≡ Some i → Good code (at + k) i
good_get code at [] k i g e = absurd cc
good_get code at (j ∷ is) zero i g e =
    let same : j ≡ i = cc in
    let here : at ≡ at + 0 = omega arith in
    subst (λ p. Good code p i) here (subst (λ x. Good code at x) same g.0)
good_get code at (j ∷ is) (suc k) i g e =
    let there : at + 1 + k ≡ at + suc k = omega arith in
    subst (λ p. Good code p i) there (good_get code (at + 1) is k i g.1 e)

plain_target : (i : Instr) → is_plain i ≡ true → target_of i ≡ None
plain_target (Jmp t) h = absurd cc
plain_target (Jge a b t) h = absurd cc
plain_target (Jgt a b t) h = absurd cc
plain_target (Jeq a b t) h = absurd cc
plain_target (Take k d) h = absurd cc
plain_target (Act f d) h = absurd cc
plain_target (Halt m) h = absurd cc
plain_target i h = refl

both_true : (a b : Bool) → (a && b) ≡ true → (a ≡ true) × (b ≡ true)
both_true true b h = (refl, h)
both_true false b h = absurd cc

plain_good : (code : Code) (at : ℕ) (is : List Instr) → are_plain is ≡ true → Low code.counts code.cells is → GoodFrom code at is
plain_good code at [] p l = tt
plain_good code at (i ∷ is) p l =
    let parts = both_true (is_plain i) (are_plain is) p in
    let none : target_of i ≡ None = plain_target i parts.0 in
    (record { cells = l.0; target = rw none tt }, plain_good code (at + 1) is parts.1 l.1)

-- a jump to a later place
later : (code : Code) (at t : ℕ) → at < t → t < length code.instrs → TargetFits code at t
later code at t lt inside = record { within = inside; forward = inl lt }

yes_good : (code : Code) (q : ℕ) (mon : Bool → Mon) → code.cells ≡ 512 → q + 4 < length code.instrs → GoodFrom code q (yes_code q 84 mon)
yes_good code q mon c inside = (
  record { cells = omega (arith, c); target = later code q (q + 4) (omega arith) inside },
  (
    record { cells = omega (arith, c); target = later code (q + 1) (q + 3) (omega arith) (omega arith) },
    (record { cells = omega arith; target = tt }, (record { cells = omega arith; target = tt }, tt)),
  ),
)

checks_good : (code : Code) (p k : ℕ) (mon : ℕ → Bool → Mon) (ns : List Tree) (hs : List Home) → code.cells ≡ 512 → AllNeed 16 ns → HomesAreBelow 65 hs
    → p + length (checks_code p 84 mon k ns hs) < length code.instrs → GoodFrom code p (checks_code p 84 mon k ns hs)
checks_good code p k mon [] hs c few b inside = tt
checks_good code p k mon (n ∷ ns) hs c few b inside =
    let le : need n ≤ 16 = few.0 in
    let form = form_code 84 n hs in
    let q = p + length form in
    let one = check_code p 84 (mon k) n hs in
    let rest = checks_code (p + length one) 84 mon (suc k) ns hs in
    let all = length-append one rest in
    let mine = length-append form (yes_code q 84 (mon k)) in
    let room : 84 + (need n + 12) < code.cells = omega (arith, c) in
    let low : Low code.counts code.cells form = low-form n code.counts code.cells 84 hs (omega arith) (omega arith) (are_below_more 65 84 hs (omega arith) b) room in
    let inside1 : q + 4 < length code.instrs = omega (arith, all, mine, inside) in
    let inside2 : p + length one + length rest < length code.instrs = omega (arith, all, inside) in
    good-append code p one rest
    (good-append code p form (yes_code q 84 (mon k)) (plain_good code p form (plain-form n 84 hs) low) (yes_good code q (mon k) c inside1))
    (checks_good code (p + length one) (suc k) mon ns hs c few.1 b inside2)

words_good : (code : Code) (p f : ℕ) (qs : List (List Term)) (hs : List Home) → code.cells ≡ 512 → f + length qs ≤ 84 → HomesAreBelow 65 hs
    → p + length (words_code p f qs hs) < length code.instrs → GoodFrom code p (words_code p f qs hs)
words_good code p f [] hs c below b inside = tt
words_good code p f (t ∷ qs) hs c below b inside =
    let block = poly_code 84 t hs in
    let q = p + length block in
    let one = word_code p f t hs in
    let rest = words_code (p + length one) (f + 1) qs hs in
    let all = length-append one rest in
    let mine = length-append block (same_code q f) in
    let low : Low code.counts code.cells block = low-poly code.counts code.cells 84 t hs (omega arith) (omega (arith, c)) (are_below_more 65 84 hs (omega arith) b) in
    let inside1 : q + 2 < length code.instrs = omega (arith, all, mine, inside) in
    let inside2 : p + length one + length rest < length code.instrs = omega (arith, all, inside) in
    let same : GoodFrom code q (same_code q f) = (
      record { cells = omega (arith, c); target = later code q (q + 2) (omega arith) inside1 },
      (record { cells = omega arith; target = tt }, (record { cells = omega (arith, c); target = tt }, tt)),
    ) in
    good-append code p one rest (good-append code p block (same_code q f) (plain_good code p block (plain-poly 84 t hs) low) same)
    (words_good code (p + length one) (f + 1) qs hs c (omega arith) b inside2)

-- The whole code.

pub length-checks : (p k : ℕ) (mon : ℕ → Bool → Mon) (ns : List Tree) (hs : List Home) → length (checks_code p 84 mon k ns hs) ≤ sum_by (λ t. form_size t + 8) ns
length-checks p k mon [] hs = omega arith
length-checks p k mon (n ∷ ns) hs =
    let form = form_code 84 n hs in
    let one = check_code p 84 (mon k) n hs in
    let rest = checks_code (p + length one) 84 mon (suc k) ns hs in
    omega (arith, length-append one rest, length-append form (yes_code (p + length form) 84 (mon k)), length-form n 84 hs, length-checks (p + length one) (suc k) mon ns hs, sum_by-cons (λ t. form_size t + 8) n ns)

pub length-words_code : (p f : ℕ) (qs : List (List Term)) (hs : List Home) → length (words_code p f qs hs) ≤ sum_by (λ t. poly_size t + 6) qs
length-words_code p f [] hs = omega arith
length-words_code p f (t ∷ qs) hs =
    let block = poly_code 84 t hs in
    let one = word_code p f t hs in
    let rest = words_code (p + length one) (f + 1) qs hs in
    omega (arith, length-append one rest, length-append block (same_code (p + length block) f), length-poly 84 t hs, length-words_code (p + length one) (f + 1) qs hs, sum_by-cons (λ u. poly_size u + 6) t qs)

-- the lengths of the parts
pub length-act : (n : Counts) (fallback : Bool) (d : ℕ) → length (act_code n fallback d) ≡ 1 + n.controls
length-act n fallback d = omega (arith, length-copies (control_cell n) d n.controls)

pub length-init : (s : Sandbox) → length (init_code s) ≡ 5 + length (checks_code 5 84 (mon_of monitor.Init) 1 (map tree s.init) (homes_of s.counts))
length-init s = length-append (take_code s.counts kind.Init) (checks_code 5 84 (mon_of monitor.Init) 1 (map tree s.init) (homes_of s.counts))

pub length-test : (s : Sandbox) → length (test_code s) ≡ 5 + length (form_code 84 (tree s.ctrl) (homes_of s.counts))
length-test s = length-append (take_code s.counts kind.Choice) (form_code 84 (tree s.ctrl) (homes_of s.counts))

pub length-fallback : (s : Sandbox) (p : ℕ) → length (fallback_code s p) ≤ sum_by (λ t. poly_size t + 6) s.fallback + 1 + s.counts.controls
length-fallback s p =
    let words = words_code p 68 s.fallback (homes_of s.counts) in
    omega (arith, length-append words (act_code s.counts true 68), length-act s.counts true 68, length-words_code p 68 s.fallback (homes_of s.counts))

pub length-choice : (s : Sandbox) → length (choice_code s (head_of s)) ≡ length (test_code s) + length (fallback_code s (test_end s + 1)) + s.counts.controls + 3
length-choice s =
    omega (
      arith,
      length-append (test_code s) (branches s),
      length-append (fallback_code s (test_end s + 1)) (after_fallback s),
      length-act s.counts false (next_control_cell s.counts),
    )

pub length-sense : (s : Sandbox) (p : ℕ) → length (sense_code s (head_of s) p) ≡ length (checks_code (p + 5) 84 (mon_of monitor.Plant) 1 (map tree s.plant) (homes_of s.counts)) + 2 * s.counts.states + 6
length-sense s p =
    let checks = checks_code (p + 5) 84 (mon_of monitor.Plant) 1 (map tree s.plant) (homes_of s.counts) in
    let moves = copies (state_cell s.counts) (next_state_cell s.counts) (2 * s.counts.states) in
    omega (
      arith,
      length-append (take_code s.counts kind.Sense) (checks ++ (moves ++ Jmp (head_of s) ∷ [])),
      length-append checks (moves ++ Jmp (head_of s) ∷ []),
      length-append moves (Jmp (head_of s) ∷ []),
      length-copies (state_cell s.counts) (next_state_cell s.counts) (2 * s.counts.states),
    )

length-code : (s : Sandbox) → length (code_of s).instrs ≡ head_of s + (length (choice_code s (head_of s)) + length (sense_code s (head_of s) (sense_of s)))
length-code s = omega (arith, length-append (init_code s) (choice_code s (head_of s) ++ sense_code s (head_of s) (sense_of s)), length-append (choice_code s (head_of s)) (sense_code s (head_of s) (sense_of s)))

-- the head is the place of an instruction
pub head_inside : (s : Sandbox) → head_of s < length (code_of s).instrs
head_inside s = omega (arith, length-code s, length-choice s)

pub code_bound : (s : Sandbox) → length (code_of s).instrs ≤ instruction_bound s
code_bound s =
    let n = s.counts in
    let a : length (code_of s).instrs ≡ head_of s + (length (choice_code s (head_of s)) + length (sense_code s (head_of s) (sense_of s))) = length-code s in
    let b : length (choice_code s (head_of s)) ≡ length (test_code s) + length (fallback_code s (test_end s + 1)) + n.controls + 3 = length-choice s in
    let c : length (sense_code s (head_of s) (sense_of s)) ≡ length (checks_code (sense_of s + 5) 84 (mon_of monitor.Plant) 1 (map tree s.plant) (homes_of n)) + 2 * n.states + 6 = length-sense s (sense_of s) in
    let d : head_of s ≡ 5 + length (checks_code 5 84 (mon_of monitor.Init) 1 (map tree s.init) (homes_of n)) = length-init s in
    let e : length (checks_code 5 84 (mon_of monitor.Init) 1 (map tree s.init) (homes_of n)) ≤ sum_by (λ t. form_size t + 8) (map tree s.init) = length-checks 5 1 (mon_of monitor.Init) (map tree s.init) (homes_of n) in
    let f : length (checks_code (sense_of s + 5) 84 (mon_of monitor.Plant) 1 (map tree s.plant) (homes_of n)) ≤ sum_by (λ t. form_size t + 8) (map tree s.plant) = length-checks (sense_of s + 5) 1 (mon_of monitor.Plant) (map tree s.plant) (homes_of n) in
    let t : length (test_code s) ≡ 5 + length (form_code 84 (tree s.ctrl) (homes_of n)) = length-test s in
    let g : length (form_code 84 (tree s.ctrl) (homes_of n)) ≤ form_size (tree s.ctrl) = length-form (tree s.ctrl) 84 (homes_of n) in
    let h : length (fallback_code s (test_end s + 1)) ≤ sum_by (λ t. poly_size t + 6) s.fallback + 1 + n.controls = length-fallback s (test_end s + 1) in
    whole n.params n.states n.controls _ _ _ _ _ _ _ _ _ _ _ _ _ a b c d e f t g h
  where
    whole : (p m k all head choice sense test form fallback init plant A B C D : ℕ) → all ≡ head + (choice + sense) → choice ≡ test + fallback + k + 3 → sense ≡ plant + 2 * m + 6 → head ≡ 5 + init
        → init ≤ A → plant ≤ B → test ≡ 5 + form → form ≤ C → fallback ≤ D + 1 + k → all ≤ 64 + 8 * (p + 2 * m + 2 * k + 1) + A + B + C + D
    whole p m k all head choice sense test form fallback init plant A B C D a b c d e f t g h = omega arith

-- the last instruction
record Ends (last : Instr) (is : List Instr) : Type 0 where
  front : List Instr
  is_end : is ≡ front ++ last ∷ []

ends_behind : (last : Instr) (a b : List Instr) → Ends last b → Ends last (a ++ b)
ends_behind last a b e = record { front = a ++ e.front; is_end = ap (λ x. a ++ x) e.is_end ∙ sym (append_assoc a e.front (last ∷ [])) }

seam : (xs : List Instr) (y : Instr) → slice_get (xs ++ y ∷ []) (length xs) ≡ Some y
seam [] y = refl
seam (x ∷ xs) y = seam xs y

ends_get : (last : Instr) (is : List Instr) (at : ℕ) (i : Instr) → Ends last is → slice_get is at ≡ Some i → at + 1 ≡ length is → i ≡ last
ends_get last is at i e g h =
    let len : length is ≡ length e.front + 1 = ap length e.is_end ∙ length-append e.front (last ∷ []) in
    let place : at ≡ length e.front = omega (arith, len, h) in
    let there : slice_get is at ≡ Some last = ap (λ x. slice_get x at) e.is_end ∙ ap (slice_get (e.front ++ last ∷ [])) place ∙ seam e.front last in
    let same : Some i ≡ Some last = sym g ∙ there in
    cc

code_ends : (s : Sandbox) → Ends (Jmp (head_of s)) (code_of s).instrs
code_ends s =
    let checks = checks_code (sense_of s + 5) 84 (mon_of monitor.Plant) 1 (map tree s.plant) (homes_of s.counts) in
    let moves = copies (state_cell s.counts) (next_state_cell s.counts) (2 * s.counts.states) in
    let one : Ends (Jmp (head_of s)) (Jmp (head_of s) ∷ []) = record { front = []; is_end = refl } in
    ends_behind _ (init_code s) _ (ends_behind _ (choice_code s (head_of s)) (sense_code s (head_of s) (sense_of s))
    (ends_behind _ (take_code s.counts kind.Sense) (checks ++ (moves ++ Jmp (head_of s) ∷ [])) (ends_behind _ checks _ (ends_behind _ moves _ one))))

-- a record is taken below the constants
take_good : (s : Sandbox) (p : ℕ) (k : Kind) → Compiles s → GoodFrom (code_of s) p (take_code s.counts k)
take_good s p k ok =
    let fit : record_cell k s.counts + field_count k s.counts ≤ 64 = record_fits s.counts k ok.counts in (
      record { cells = omega arith; target = tt },
      plain_good (code_of s) (p + 1) constants_code refl (omega arith, (omega arith, (omega arith, (omega arith, tt)))),
    )

init_good : (s : Sandbox) → Compiles s → head_of s < length (code_of s).instrs → GoodFrom (code_of s) 0 (init_code s)
init_good s ok inside =
    let checks = checks_code 5 84 (mon_of monitor.Init) 1 (map tree s.init) (homes_of s.counts) in
    let len : head_of s ≡ 5 + length checks = length-init s in
    good-append (code_of s) 0 (take_code s.counts kind.Init) checks (take_good s 0 kind.Init ok)
    (checks_good (code_of s) 5 1 (mon_of monitor.Init) (map tree s.init) (homes_of s.counts) refl ok.init (homes_below s.counts ok.counts) (omega (arith, len, inside)))

act_good : (s : Sandbox) (p d : ℕ) (fallback : Bool) → Compiles s → d + s.counts.controls ≤ 512 → GoodFrom (code_of s) p (act_code s.counts fallback d)
act_good s p d fallback ok room =
    let fit : next_state_cell s.counts + 2 * s.counts.states ≤ 64 = cells_fit s.counts ok.counts in (
      record { cells = room; target = tt },
      plain_good (code_of s) (p + 1) (copies (control_cell s.counts) d s.counts.controls) (plain-copies (control_cell s.counts) d s.counts.controls)
          (low-copies s.counts 512 (control_cell s.counts) d s.counts.controls (omega arith) room),
    )

choice_good : (s : Sandbox) → Compiles s → sense_of s < length (code_of s).instrs → GoodFrom (code_of s) (head_of s) (choice_code s (head_of s))
choice_good s ok inside =
    let code = code_of s in
    let n = s.counts in
    let fit : next_state_cell n + 2 * n.states ≤ 64 = cells_fit n ok.counts in
    let le : need (tree s.ctrl) ≤ 16 = ok.ctrl in
    let words_count : length s.fallback ≡ n.controls = ok.words in
    let form = form_code 84 (tree s.ctrl) (homes_of n) in
    let q = test_end s + 1 in
    let words = words_code q 68 s.fallback (homes_of n) in
    let act = act_code n true 68 in
    let fallback = fallback_code s q in
    let jump : Instr = Jmp (chosen_place s + length (chosen_code s)) in
    let end : chosen_place s + length (chosen_code s) ≡ sense_of s = chosen_end s in
    let size : length fallback ≡ length words + length act = length-append words act in
    let low = low-form (tree s.ctrl) n 512 84 (homes_of n) (omega arith) (omega arith) (are_below_more 65 84 (homes_of n) (omega arith) (homes_below n ok.counts)) (omega arith) in
    let test : GoodFrom code (head_of s) (test_code s) = good-append code (head_of s) (take_code n kind.Choice) form (take_good s (head_of s) kind.Choice ok)
    (plain_good code (head_of s + 5) form (plain-form (tree s.ctrl) 84 (homes_of n)) low) in
    let chosen_in : chosen_place s < length code.instrs = omega (arith, end, inside) in
    let words_in : q + length words < length code.instrs = omega (arith, size, chosen_in) in
    let sense_in : chosen_place s + length (chosen_code s) < length code.instrs = omega (arith, end, inside) in
    let mine : GoodFrom code q fallback = good-append code q words act
    (words_good code q 68 s.fallback (homes_of n) refl (omega (arith, words_count, fit)) (homes_below n ok.counts) words_in)
    (act_good s (q + length words) 68 true ok (omega (arith, fit))) in
    let skip : Good code (q + length fallback) jump = record { cells = omega arith; target = later code (q + length fallback) (chosen_place s + length (chosen_code s)) (omega arith) sense_in } in
    let ask : Good code (test_end s) (Jge 84 66 (chosen_place s)) = record { cells = omega arith; target = later code (test_end s) (chosen_place s) (omega arith) chosen_in } in
    good-append code (head_of s) (test_code s) (branches s) test
    (ask, good-append code q fallback (after_fallback s) mine (skip, act_good s (chosen_place s) (next_control_cell n) false ok (omega (arith, fit))))

sense_good : (s : Sandbox) → Compiles s → sense_of s + length (sense_code s (head_of s) (sense_of s)) ≡ length (code_of s).instrs → head_of s < length (code_of s).instrs
    → GoodFrom (code_of s) (sense_of s) (sense_code s (head_of s) (sense_of s))
sense_good s ok all inside =
    let code = code_of s in
    let n = s.counts in
    let fit : next_state_cell n + 2 * n.states ≤ 64 = cells_fit n ok.counts in
    let checks = checks_code (sense_of s + 5) 84 (mon_of monitor.Plant) 1 (map tree s.plant) (homes_of n) in
    let moves = copies (state_cell n) (next_state_cell n) (2 * n.states) in
    let size = length-sense s (sense_of s) in
    let checks_in : sense_of s + 5 + length checks < length code.instrs = omega (arith, size, all) in
    good-append code (sense_of s) (take_code n kind.Sense) (checks ++ (moves ++ Jmp (head_of s) ∷ [])) (take_good s (sense_of s) kind.Sense ok)
    (good-append code (sense_of s + 5) checks (moves ++ Jmp (head_of s) ∷ [])
    (checks_good code (sense_of s + 5) 1 (mon_of monitor.Plant) (map tree s.plant) (homes_of n) refl ok.plant (homes_below n ok.counts) checks_in)
    (good-append code (sense_of s + 5 + length checks) moves (Jmp (head_of s) ∷ [])
    (plain_good code (sense_of s + 5 + length checks) moves (plain-copies (state_cell n) (next_state_cell n) (2 * n.states)) (low-copies n 512 (state_cell n) (next_state_cell n) (2 * n.states) (omega (arith, fit)) (omega (arith, fit))))
    (record { cells = omega arith; target = record { within = inside; forward = inr refl } }, tt)))

pub code_valid : (law : Runs) (s : Sandbox) → Compiles s → length (code_of s).instrs ≤ 65536 → IsValid (code_of s)
code_valid law s ok short =
    let code = code_of s in
    let all = length-code s in
    let size = length-sense s (sense_of s) in
    let head_in : head_of s < length code.instrs = head_inside s in
    let sense_in : sense_of s < length code.instrs = omega (arith, all, size) in
    let whole : sense_of s + length (sense_code s (head_of s) (sense_of s)) ≡ length code.instrs = omega (arith, all) in
    let at : 0 + head_of s ≡ head_of s = omega arith in
    let rest = good-append code (head_of s) (choice_code s (head_of s)) (sense_code s (head_of s) (sense_of s)) (choice_good s ok sense_in) (sense_good s ok whole head_in) in
    let good : GoodFrom code 0 code.instrs = good-append code 0 (init_code s) (choice_code s (head_of s) ++ sense_code s (head_of s) (sense_of s)) (init_good s ok head_in)
    (subst (λ p. GoodFrom code p (choice_code s (head_of s) ++ sense_code s (head_of s) (sense_of s))) (sym at) rest) in
    record {
      counts = ok.counts;
      some = omega (arith, head_in);
      short = short;
      small = omega arith;
      head = head_in;
      first = refl;
      at_head = ap is_take (has_choice law s).0;
      each = λ p i e.
          let place : 0 + p ≡ p = omega arith in
          let g : Good code p i = subst (λ q. Good code q i) place (good_get code 0 code.instrs p i good e) in
          record {
            cells = g.cells;
            target = g.target;
            falls = λ last. let same : i ≡ Jmp (head_of s) = ends_get (Jmp (head_of s)) code.instrs p i (code_ends s) e last in rw same refl;
          };
    }
