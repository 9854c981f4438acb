use Rattle.std.proofs.Common.{ℕ, ◌+◌, map, sum_by, arith}
use Rattle.vp_words.specs.declared.record.Kind.TheVariants as kind
use Rattle.vp_logic.specs.Tree.{tree}
use Rattle.vp_sandbox.specs.Sizes.{form_size}
use Rattle.vp_layout.specs.declared.block.Monitor.TheVariants as monitor
use Rattle.vp_layout.specs.Blocks.{take_code}
use Rattle.vp_layout.specs.Drafts.{mon_of, Appends}
use Rattle.vp_layout.specs.Homes.{homes_of}
use Rattle.vp_layout.proofs.Drafts.{appends_on, fewer_room, on_ok, room_after}
use Rattle.vp_gen.specs.CheckCode.{checks_code}
use Rattle.vp_gen.proofs.build.emit_init.Goals as goal

pub push_take-requires-clause-room : goal.push_take-requires-clause-room
push_take-requires-clause-room c = fewer_room c.args.b.now 5 (5 + sum_by (λ t. form_size t + 8) (map tree c.args.s.now.init)) (omega arith) c.requires.room

pub emit_checks-requires-clause-room : goal.emit_checks-requires-clause-room
emit_checks-requires-clause-room c =
    let s = c.args.s.now in
    let all = sum_by (λ t. form_size t + 8) (map tree s.init) in
    rw c.get.ensures (room_after c.args.b.now c.push_take.new.b (λ p. take_code s.counts kind.Init) all (5 + all) c.in_ok-push_take.ensures.appends c.requires.room (omega arith))

pub returns : goal.returns
returns c =
    let s = c.args.s.now in
    let f = λ (p : ℕ). take_code s.counts kind.Init in
    let g = λ (p : ℕ). checks_code p 84 (mon_of monitor.Init) 1 (map tree s.init) (homes_of s.counts) in
    on_ok c.emit_checks.result _ _
    (λ (y : Appends c.push_take.new.b c.emit_checks.new.b g). appends_on c.args.b.now c.push_take.new.b c.emit_checks.new.b f g c.in_ok-push_take.ensures.appends y)
    (rw (c.get.ensures, c.requires.homes) at c.emit_checks.ensures)
