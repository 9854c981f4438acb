use Rattle.std.proofs.Common.{ℕ, ◌≡◌, ◌∷◌, [], ◌+◌, ◌*◌, ◌++◌, ◌∙◌, length, map, sum_by, Option, Some, None, refl, ap, arith}
use Rattle.vp_isa.specs.declared.instr.Instr.TheVariants.{Jmp}
use Rattle.vp_logic.specs.Tree.{tree}
use Rattle.vp_sandbox.specs.Sizes.{form_size}
use Rattle.vp_emit.specs.Draft.{Draft}
use Rattle.vp_layout.specs.Drafts.{Appends, HasRoom}
use Rattle.vp_layout.proofs.Drafts.{fewer_room, first_label, one_placed}
use Rattle.vp_gen.specs.Parts.{init_part, sense_part}
use Rattle.vp_gen.specs.SandboxCode.{choice_code}
use Rattle.vp_gen.proofs.Choosing.{choice_room}
use Rattle.vp_gen.proofs.Fitness.{begun, chosen_room, emits, headed, sensed_room, whole, whole_code}
use Rattle.vp_gen.proofs.build.emit_rounds.Goals as goal

pub emit_init-requires-clause-room : goal.emit_init-requires-clause-room
emit_init-requires-clause-room c =
    let s = c.args.s.now in
    let em = emits s c.requires.fits c.requires.short in
    let d0 = c.args.b.now in
    let l0 : length d0.pushed ≡ 0 = ap (λ (d : Draft). length d.pushed) c.requires.empty in
    let m0 : length d0.places ≡ 0 = ap (λ (d : Draft). length d.places) c.requires.empty in
    record { room = omega (arith, l0, em.init_sum); labels = omega (arith, m0) }

pub emit_init-requires-clause-few : goal.emit_init-requires-clause-few
emit_init-requires-clause-few c = let em = emits c.args.s.now c.requires.fits c.requires.short in omega (arith, em.init_few)

pub emit_init-requires-clause-need : goal.emit_init-requires-clause-need
emit_init-requires-clause-need c = (emits c.args.s.now c.requires.fits c.requires.short).compiles.init

pub emit_init-requires-clause-small : goal.emit_init-requires-clause-small
emit_init-requires-clause-small c = (emits c.args.s.now c.requires.fits c.requires.short).init_small

pub label-requires : goal.label-requires
label-requires c =
    let s = c.args.s.now in
    let em = emits s c.requires.fits c.requires.short in
    let d0 = c.args.b.now in
    let d1 = c.emit_init.new.b in
    let z0 : d0.pushed ≡ [] = ap (λ (d : Draft). d.pushed) c.requires.empty in
    let z1 : d0.places ≡ [] = ap (λ (d : Draft). d.places) c.requires.empty in
    let x1 : Appends d0 d1 (init_part s) = c.in_ok-emit_init.ensures in
    let b1 = begun s d0 d1 em z0 z1 x1 in
    omega (arith, b1.few, b1.room.room)

pub place-requires : goal.place-requires
place-requires c =
    let d1 = c.emit_init.new.b in
    let none : Option ℕ = None in
    rw c.in_ok-start.ensures.state (first_label d1.places c.in_ok-start.start none [] c.in_ok-start.ensures.label)

pub emit_choice-requires-clause-room : goal.emit_choice-requires-clause-room
emit_choice-requires-clause-room c =
    let s = c.args.s.now in
    let em = emits s c.requires.fits c.requires.short in
    let d0 = c.args.b.now in
    let d1 = c.emit_init.new.b in
    let z0 : d0.pushed ≡ [] = ap (λ (d : Draft). d.pushed) c.requires.empty in
    let z1 : d0.places ≡ [] = ap (λ (d : Draft). d.places) c.requires.empty in
    let x1 : Appends d0 d1 (init_part s) = c.in_ok-emit_init.ensures in
    let b1 = begun s d0 d1 em z0 z1 x1 in
    let none : Option ℕ = None in
    let el : c.in_ok-start.start ≡ length d1.places = c.in_ok-start.ensures.label in
    let d3 = c.place.new.self in
    let p3 : d3.pushed ≡ d1.pushed = rw (c.place.ensures, c.in_ok-start.ensures.state) refl in
    let q3 : d3.places ≡ d1.places ++ Some (length d1.pushed) ∷ [] = rw (c.place.ensures, c.in_ok-start.ensures.state, el) (one_placed d1.places none (Some (length d1.pushed))) in
    let r3 : HasRoom d3 700000 = headed s d1 d3 b1 p3 q3 in
    fewer_room d3 (choice_room s) 700000 (omega (arith, em.ctrl_sum, em.words_sum, em.controls)) r3

pub emit_choice-requires-clause-need : goal.emit_choice-requires-clause-need
emit_choice-requires-clause-need c = (emits c.args.s.now c.requires.fits c.requires.short).compiles.ctrl

pub emit_choice-requires-clause-small : goal.emit_choice-requires-clause-small
emit_choice-requires-clause-small c = (emits c.args.s.now c.requires.fits c.requires.short).ctrl_small

pub emit_choice-requires-clause-polys : goal.emit_choice-requires-clause-polys
emit_choice-requires-clause-polys c = (emits c.args.s.now c.requires.fits c.requires.short).words_small

pub emit_sense-requires-clause-room : goal.emit_sense-requires-clause-room
emit_sense-requires-clause-room c =
    let s = c.args.s.now in
    let em = emits s c.requires.fits c.requires.short in
    let d0 = c.args.b.now in
    let d1 = c.emit_init.new.b in
    let z0 : d0.pushed ≡ [] = ap (λ (d : Draft). d.pushed) c.requires.empty in
    let z1 : d0.places ≡ [] = ap (λ (d : Draft). d.places) c.requires.empty in
    let x1 : Appends d0 d1 (init_part s) = c.in_ok-emit_init.ensures in
    let b1 = begun s d0 d1 em z0 z1 x1 in
    let none : Option ℕ = None in
    let el : c.in_ok-start.start ≡ length d1.places = c.in_ok-start.ensures.label in
    let d3 = c.place.new.self in
    let p3 : d3.pushed ≡ d1.pushed = rw (c.place.ensures, c.in_ok-start.ensures.state) refl in
    let q3 : d3.places ≡ d1.places ++ Some (length d1.pushed) ∷ [] = rw (c.place.ensures, c.in_ok-start.ensures.state, el) (one_placed d1.places none (Some (length d1.pushed))) in
    let r3 : HasRoom d3 700000 = headed s d1 d3 b1 p3 q3 in
    let d4 = c.emit_choice.new.b in
    let y : Appends d3 d4 (choice_code s) = c.in_ok-emit_choice.ensures in
    let r4 : HasRoom d4 500000 = chosen_room s d1 d3 d4 em b1 p3 r3 y in
    fewer_room d4 (5 + sum_by (λ t. form_size t + 8) (map tree s.plant) + 2 * s.counts.states) 500000 (omega (arith, em.plant_sum, em.states)) r4

pub emit_sense-requires-clause-few : goal.emit_sense-requires-clause-few
emit_sense-requires-clause-few c = let em = emits c.args.s.now c.requires.fits c.requires.short in omega (arith, em.plant_few)

pub emit_sense-requires-clause-need : goal.emit_sense-requires-clause-need
emit_sense-requires-clause-need c = (emits c.args.s.now c.requires.fits c.requires.short).compiles.plant

pub emit_sense-requires-clause-small : goal.emit_sense-requires-clause-small
emit_sense-requires-clause-small c = (emits c.args.s.now c.requires.fits c.requires.short).plant_small

pub push-requires : goal.push-requires
push-requires c =
    let s = c.args.s.now in
    let em = emits s c.requires.fits c.requires.short in
    let d0 = c.args.b.now in
    let d1 = c.emit_init.new.b in
    let z0 : d0.pushed ≡ [] = ap (λ (d : Draft). d.pushed) c.requires.empty in
    let z1 : d0.places ≡ [] = ap (λ (d : Draft). d.places) c.requires.empty in
    let x1 : Appends d0 d1 (init_part s) = c.in_ok-emit_init.ensures in
    let b1 = begun s d0 d1 em z0 z1 x1 in
    let none : Option ℕ = None in
    let el : c.in_ok-start.start ≡ length d1.places = c.in_ok-start.ensures.label in
    let d3 = c.place.new.self in
    let p3 : d3.pushed ≡ d1.pushed = rw (c.place.ensures, c.in_ok-start.ensures.state) refl in
    let q3 : d3.places ≡ d1.places ++ Some (length d1.pushed) ∷ [] = rw (c.place.ensures, c.in_ok-start.ensures.state, el) (one_placed d1.places none (Some (length d1.pushed))) in
    let r3 : HasRoom d3 700000 = headed s d1 d3 b1 p3 q3 in
    let d4 = c.emit_choice.new.b in
    let y : Appends d3 d4 (choice_code s) = c.in_ok-emit_choice.ensures in
    let r4 : HasRoom d4 500000 = chosen_room s d1 d3 d4 em b1 p3 r3 y in
    let r5 = sensed_room s d4 c.emit_sense.new.b em r4 c.in_ok-emit_sense.ensures in
    omega (arith, r5.room)

pub returns : goal.returns
returns c =
    let s = c.args.s.now in
    let em = emits s c.requires.fits c.requires.short in
    let d0 = c.args.b.now in
    let d1 = c.emit_init.new.b in
    let z0 : d0.pushed ≡ [] = ap (λ (d : Draft). d.pushed) c.requires.empty in
    let z1 : d0.places ≡ [] = ap (λ (d : Draft). d.places) c.requires.empty in
    let x1 : Appends d0 d1 (init_part s) = c.in_ok-emit_init.ensures in
    let b1 = begun s d0 d1 em z0 z1 x1 in
    let none : Option ℕ = None in
    let el : c.in_ok-start.start ≡ length d1.places = c.in_ok-start.ensures.label in
    let d3 = c.place.new.self in
    let p3 : d3.pushed ≡ d1.pushed = rw (c.place.ensures, c.in_ok-start.ensures.state) refl in
    let q3 : d3.places ≡ d1.places ++ Some (length d1.pushed) ∷ [] = rw (c.place.ensures, c.in_ok-start.ensures.state, el) (one_placed d1.places none (Some (length d1.pushed))) in
    let r3 : HasRoom d3 700000 = headed s d1 d3 b1 p3 q3 in
    let d4 = c.emit_choice.new.b in
    let y : Appends d3 d4 (choice_code s) = c.in_ok-emit_choice.ensures in
    let d5 = c.emit_sense.new.b in
    let w : Appends d4 d5 (sense_part s) = c.in_ok-emit_sense.ensures in
    let d6 = c.push.new.self in
    let p6 : d6.pushed ≡ d5.pushed ++ Jmp c.in_ok-start.start ∷ [] = ap (λ (d : Draft). d.pushed) c.in_ok-push.ensures in
    let q6 : d6.places ≡ d5.places = ap (λ (d : Draft). d.places) c.in_ok-push.ensures in
    record {
      head_is = c.count-head.ensures ∙ b1.at;
      counts = ap (λ (d : Draft). d.counts) c.in_ok-push.ensures ∙ w.counts ∙ y.counts ∙ rw (c.place.ensures, c.in_ok-start.ensures.state) x1.counts ∙ ap (λ (d : Draft). d.counts) c.requires.empty;
      settles = whole_code s d6.places d6.pushed (whole d0 d1 d3 d4 d5 c.in_ok-start.start (init_part s) (choice_code s) (sense_part s) d6.pushed d6.places z0 z1 x1 el p3 q3 y w p6 q6);
    }
