use Rattle.std.proofs.Common.{◌≡◌, ◌∙◌, length, Some, None, sym, ap, arith}
use Rattle.std.proofs.lemmas.List.{length-map}
use Rattle.vp_emit.specs.Targets.{resolved, first_unplaced}
use Rattle.vp_gen.specs.SandboxCode.{code_of}
use Rattle.vp_gen.proofs.Fitness.{code_from}
use Rattle.vp_gen.proofs.Validity.{head_inside}
use Rattle.vp_gen.proofs.build.build.Goals as goal

pub finish-requires : goal.finish-requires
finish-requires c =
    let s = c.args.s.now in
    let w = c.in_ok-head.ensures in
    let d = c.emit_rounds.new.b in
    omega (arith, w.head_is, ap length w.settles.code_is, length-map d.pushed (resolved d.places), head_inside s)

pub returns-in-Ok : goal.returns-in-Ok
returns-in-Ok c =
    let s = c.args.s.now in
    let w = c.in_ok-head.ensures in
    let made = c.in-Ok.ensures in
    code_from c.in-Ok.code (code_of s) (made.1 ∙ w.counts) made.2 (made.3 ∙ w.head_is) (made.4 ∙ w.settles.code_is)

pub unreachable-requires : goal.unreachable-requires
unreachable-requires c =
    let w = c.in_ok-head.ensures in
    let d = c.emit_rounds.new.b in
    let unplaced : first_unplaced d.places d.pushed ≡ Some c.in-Err-Unplaced.field-0-0 = rw c.in-Err-Unplaced.field-0-is at c.in-Err-Unplaced.ensures in
    let both_ : Some c.in-Err-Unplaced.field-0-0 ≡ None = sym unplaced ∙ w.settles.placed in
    absurd cc
