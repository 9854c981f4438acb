use Rattle.std.proofs.Common.{ℕ, ◌≡◌, ◌∷◌, [], ◌+◌, ◌*◌, ◌++◌, ◌∙◌, length, sum_by, Option, Some, None, refl, sym, ap, arith, length-append, append_assoc}
use Rattle.std.specs.Prelude.{slice_set}
use Rattle.vp_isa.specs.declared.instr.Instr.{Instr}
use Rattle.vp_isa.specs.declared.instr.Instr.TheVariants.{Jge, Jmp}
use Rattle.vp_logic.specs.Tree.{tree}
use Rattle.vp_sandbox.specs.Sizes.{form_size, poly_size}
use Rattle.vp_emit.specs.Draft.{Draft}
use Rattle.vp_layout.specs.Drafts.{Appends}
use Rattle.vp_layout.specs.Homes.{homes_of}
use Rattle.vp_layout.proofs.Drafts.{block_appends, fewer_room, plain_no_jumps}
use Rattle.vp_gen.specs.FormCode.{form_code}
use Rattle.vp_gen.specs.SandboxCode.{fallback_code, chosen_code, test_code}
use Rattle.vp_gen.proofs.Plain.{plain-form}
use Rattle.vp_gen.proofs.Sizes.{length-form}
use Rattle.vp_gen.proofs.Validity.{length-test}
use Rattle.vp_gen.proofs.Branches.{branch_appends}
use Rattle.vp_gen.proofs.Choosing.{asked_room, choice_room, first_open, placed_room, second_open, unchosen_room}
use Rattle.vp_gen.proofs.build.emit_choice.Goals as goal

pub emit_test-requires-clause-room : goal.emit_test-requires-clause-room
emit_test-requires-clause-room c = fewer_room c.args.b.now (form_size (tree c.args.s.now.ctrl) + 5) (choice_room c.args.s.now) (omega arith) c.requires.room

pub push-requires : goal.push-requires
push-requires c =
    let s = c.args.s.now in
    let a = c.args.b.now in
    let p2 : length c.label-2.new.self.pushed ≡ length a.pushed + length (test_code s) =
    rw (c.in_ok-sense.ensures.state, c.in_ok-chosen.ensures.state, c.in_ok-emit_test.ensures) (length-append a.pushed (test_code s)) in
    omega (arith, p2, length-test s, length-form (tree s.ctrl) 84 (homes_of s.counts), c.requires.room.room)

pub emit_fallback-requires-clause-room : goal.emit_fallback-requires-clause-room
emit_fallback-requires-clause-room c =
    let s = c.args.s.now in
    let a = c.args.b.now in
    let i : Instr = Jge 84 66 c.in_ok-chosen.chosen in
    let d = c.push.new.self in
    let p3 : d.pushed ≡ (a.pushed ++ test_code s) ++ i ∷ [] = rw (c.in_ok-push.ensures, c.in_ok-sense.ensures.state, c.in_ok-chosen.ensures.state, c.in_ok-emit_test.ensures) refl in
    let q3 : d.places ≡ (a.places ++ None ∷ []) ++ None ∷ [] = rw (c.in_ok-push.ensures, c.in_ok-sense.ensures.state, c.in_ok-chosen.ensures.state, c.in_ok-emit_test.ensures) refl in
    fewer_room d (sum_by (λ p. poly_size p + 6) s.fallback + 1 + s.counts.controls) (sum_by (λ p. poly_size p + 6) s.fallback + 2 * s.counts.controls + 6) (omega arith)
    (asked_room s a d i c.requires.room p3 q3)

pub push-requires-2 : goal.push-requires-2
push-requires-2 c =
    let s = c.args.s.now in
    let a = c.args.b.now in
    let i : Instr = Jge 84 66 c.in_ok-chosen.chosen in
    let d = c.push.new.self in
    let p3 : d.pushed ≡ (a.pushed ++ test_code s) ++ i ∷ [] = rw (c.in_ok-push.ensures, c.in_ok-sense.ensures.state, c.in_ok-chosen.ensures.state, c.in_ok-emit_test.ensures) refl in
    let q3 : d.places ≡ (a.places ++ None ∷ []) ++ None ∷ [] = rw (c.in_ok-push.ensures, c.in_ok-sense.ensures.state, c.in_ok-chosen.ensures.state, c.in_ok-emit_test.ensures) refl in
    let r5 = unchosen_room s d c.emit_fallback.new.b (asked_room s a d i c.requires.room p3 q3) c.in_ok-emit_fallback.ensures in
    omega (arith, r5.room)

pub place-requires : goal.place-requires
place-requires c =
    let s = c.args.s.now in
    let a = c.args.b.now in
    let i : Instr = Jge 84 66 c.in_ok-chosen.chosen in
    let d = c.push.new.self in
    let p3 : d.pushed ≡ (a.pushed ++ test_code s) ++ i ∷ [] = rw (c.in_ok-push.ensures, c.in_ok-sense.ensures.state, c.in_ok-chosen.ensures.state, c.in_ok-emit_test.ensures) refl in
    let q3 : d.places ≡ (a.places ++ None ∷ []) ++ None ∷ [] = rw (c.in_ok-push.ensures, c.in_ok-sense.ensures.state, c.in_ok-chosen.ensures.state, c.in_ok-emit_test.ensures) refl in
    let none : Option ℕ = None in
    let el : c.in_ok-chosen.chosen ≡ length a.places = c.in_ok-chosen.ensures.label ∙ ap (λ (x : Draft). length x.places) c.in_ok-emit_test.ensures in
    let w : Appends d c.emit_fallback.new.b (fallback_code s) = c.in_ok-emit_fallback.ensures in
    let q5 : c.emit_fallback.new.b.places ≡ ((a.places ++ None ∷ []) ++ None ∷ []) ++ w.labels = w.places ∙ ap (λ z. z ++ w.labels) q3 in
    let q6 : c.push-2.new.self.places ≡ c.emit_fallback.new.b.places = ap (λ (x : Draft). x.places) c.in_ok-push-2.ensures in
    first_open a.places w.labels c.push-2.new.self.places c.in_ok-chosen.chosen (q6 ∙ q5) el

pub push_act-requires-clause-room : goal.push_act-requires-clause-room
push_act-requires-clause-room c =
    let s = c.args.s.now in
    let a = c.args.b.now in
    let i : Instr = Jge 84 66 c.in_ok-chosen.chosen in
    let d = c.push.new.self in
    let p3 : d.pushed ≡ (a.pushed ++ test_code s) ++ i ∷ [] = rw (c.in_ok-push.ensures, c.in_ok-sense.ensures.state, c.in_ok-chosen.ensures.state, c.in_ok-emit_test.ensures) refl in
    let q3 : d.places ≡ (a.places ++ None ∷ []) ++ None ∷ [] = rw (c.in_ok-push.ensures, c.in_ok-sense.ensures.state, c.in_ok-chosen.ensures.state, c.in_ok-emit_test.ensures) refl in
    let j : Instr = Jmp c.in_ok-sense.sense in
    let p7 : c.place.new.self.pushed ≡ c.emit_fallback.new.b.pushed ++ j ∷ [] = ap (λ (x : Draft). x.pushed) c.place.ensures ∙ ap (λ (x : Draft). x.pushed) c.in_ok-push-2.ensures in
    let q7 : c.place.new.self.places ≡ slice_set c.emit_fallback.new.b.places c.in_ok-chosen.chosen (Some (length (c.emit_fallback.new.b.pushed ++ j ∷ []))) =
    rw (c.place.ensures, c.in_ok-push-2.ensures) refl in
    let r5 = unchosen_room s d c.emit_fallback.new.b (asked_room s a d i c.requires.room p3 q3) c.in_ok-emit_fallback.ensures in
    placed_room c.emit_fallback.new.b c.place.new.self j c.in_ok-chosen.chosen _ (s.counts.controls + 5) (1 + s.counts.controls) r5 (omega arith) p7 q7

pub place-requires-2 : goal.place-requires-2
place-requires-2 c =
    let s = c.args.s.now in
    let a = c.args.b.now in
    let i : Instr = Jge 84 66 c.in_ok-chosen.chosen in
    let d = c.push.new.self in
    let p3 : d.pushed ≡ (a.pushed ++ test_code s) ++ i ∷ [] = rw (c.in_ok-push.ensures, c.in_ok-sense.ensures.state, c.in_ok-chosen.ensures.state, c.in_ok-emit_test.ensures) refl in
    let q3 : d.places ≡ (a.places ++ None ∷ []) ++ None ∷ [] = rw (c.in_ok-push.ensures, c.in_ok-sense.ensures.state, c.in_ok-chosen.ensures.state, c.in_ok-emit_test.ensures) refl in
    let none : Option ℕ = None in
    let el : c.in_ok-chosen.chosen ≡ length a.places = c.in_ok-chosen.ensures.label ∙ ap (λ (x : Draft). length x.places) c.in_ok-emit_test.ensures in
    let el' : c.in_ok-sense.sense ≡ length a.places + 1 =
    c.in_ok-sense.ensures.label ∙ ap (λ (x : Draft). length x.places) (c.in_ok-chosen.ensures.state ∙ ap (λ (x : Draft). record x { places = x.places ++ None ∷ [] }) c.in_ok-emit_test.ensures)
    ∙ length-append a.places (none ∷ []) in
    let w : Appends d c.emit_fallback.new.b (fallback_code s) = c.in_ok-emit_fallback.ensures in
    let q5 : c.emit_fallback.new.b.places ≡ ((a.places ++ None ∷ []) ++ None ∷ []) ++ w.labels = w.places ∙ ap (λ z. z ++ w.labels) q3 in
    let j : Instr = Jmp c.in_ok-sense.sense in
    let p7 : c.place.new.self.pushed ≡ c.emit_fallback.new.b.pushed ++ j ∷ [] = ap (λ (x : Draft). x.pushed) c.place.ensures ∙ ap (λ (x : Draft). x.pushed) c.in_ok-push-2.ensures in
    let q7 : c.place.new.self.places ≡ slice_set c.emit_fallback.new.b.places c.in_ok-chosen.chosen (Some (length (c.emit_fallback.new.b.pushed ++ j ∷ []))) =
    rw (c.place.ensures, c.in_ok-push-2.ensures) refl in
    let y : Appends c.place.new.self c.push_act.new.b (λ p. chosen_code s) = rw c.of.ensures.next_controls at c.in_ok-push_act.ensures in
    second_open a.places w.labels y.labels c.emit_fallback.new.b.places c.push_act.new.b.places c.in_ok-chosen.chosen c.in_ok-sense.sense _ q5
    (y.places ∙ ap (λ z. z ++ y.labels) q7) el el'

pub returns : goal.returns
returns c =
    let s = c.args.s.now in
    let a = c.args.b.now in
    let i : Instr = Jge 84 66 c.in_ok-chosen.chosen in
    let d = c.push.new.self in
    let p3 : d.pushed ≡ (a.pushed ++ test_code s) ++ i ∷ [] = rw (c.in_ok-push.ensures, c.in_ok-sense.ensures.state, c.in_ok-chosen.ensures.state, c.in_ok-emit_test.ensures) refl in
    let q3 : d.places ≡ (a.places ++ None ∷ []) ++ None ∷ [] = rw (c.in_ok-push.ensures, c.in_ok-sense.ensures.state, c.in_ok-chosen.ensures.state, c.in_ok-emit_test.ensures) refl in
    let none : Option ℕ = None in
    let el : c.in_ok-chosen.chosen ≡ length a.places = c.in_ok-chosen.ensures.label ∙ ap (λ (x : Draft). length x.places) c.in_ok-emit_test.ensures in
    let el' : c.in_ok-sense.sense ≡ length a.places + 1 =
    c.in_ok-sense.ensures.label ∙ ap (λ (x : Draft). length x.places) (c.in_ok-chosen.ensures.state ∙ ap (λ (x : Draft). record x { places = x.places ++ None ∷ [] }) c.in_ok-emit_test.ensures)
    ∙ length-append a.places (none ∷ []) in
    let w : Appends d c.emit_fallback.new.b (fallback_code s) = c.in_ok-emit_fallback.ensures in
    let q5 : c.emit_fallback.new.b.places ≡ ((a.places ++ None ∷ []) ++ None ∷ []) ++ w.labels = w.places ∙ ap (λ z. z ++ w.labels) q3 in
    let j : Instr = Jmp c.in_ok-sense.sense in
    let p7 : c.place.new.self.pushed ≡ c.emit_fallback.new.b.pushed ++ j ∷ [] = ap (λ (x : Draft). x.pushed) c.place.ensures ∙ ap (λ (x : Draft). x.pushed) c.in_ok-push-2.ensures in
    let q7 : c.place.new.self.places ≡ slice_set c.emit_fallback.new.b.places c.in_ok-chosen.chosen (Some (length (c.emit_fallback.new.b.pushed ++ j ∷ []))) =
    rw (c.place.ensures, c.in_ok-push-2.ensures) refl in
    let y : Appends c.place.new.self c.push_act.new.b (λ p. chosen_code s) = rw c.of.ensures.next_controls at c.in_ok-push_act.ensures in
    let b1 = c.emit_test.new.b in
    let form = form_code 84 (tree s.ctrl) (homes_of s.counts) in
    let x1 : Appends a b1 (λ p. test_code s) = block_appends a b1 (test_code s) (plain_no_jumps form (plain-form (tree s.ctrl) 84 (homes_of s.counts))) c.in_ok-emit_test.ensures in
    let same : length b1.places ≡ length a.places = ap (λ (x : Draft). length x.places) c.in_ok-emit_test.ensures in
    branch_appends a b1 d c.emit_fallback.new.b c.place.new.self c.push_act.new.b c.place-2.new.self (test_code s) (chosen_code s) (fallback_code s)
    c.in_ok-chosen.chosen c.in_ok-sense.sense
    x1 (el ∙ sym same) (el' ∙ ap (λ k. k + 1) (sym same))
    (rw (c.in_ok-push.ensures, c.in_ok-sense.ensures.state, c.in_ok-chosen.ensures.state) refl)
    (rw (c.in_ok-push.ensures, c.in_ok-sense.ensures.state, c.in_ok-chosen.ensures.state) refl)
    (ap (λ (x : Draft). x.places) (c.in_ok-push.ensures) ∙ rw (c.in_ok-sense.ensures.state, c.in_ok-chosen.ensures.state) (append_assoc b1.places (none ∷ []) (none ∷ [])))
    w
    (rw (c.place.ensures, c.in_ok-push-2.ensures) refl) p7 q7
    y
    (ap (λ (x : Draft). x.counts) c.place-2.ensures) (ap (λ (x : Draft). x.pushed) c.place-2.ensures) (ap (λ (x : Draft). x.places) c.place-2.ensures)
