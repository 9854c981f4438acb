use Rattle.std.proofs.Common.{ℕ, ◌+◌, length, sum_by, true, arith}
use Rattle.vp_sandbox.specs.Sizes.{poly_size}
use Rattle.vp_layout.specs.Blocks.{act_code}
use Rattle.vp_layout.specs.Drafts.{Appends}
use Rattle.vp_layout.specs.Homes.{homes_of}
use Rattle.vp_layout.proofs.Drafts.{on_ok, appends_on, room_after, fewer_room}
use Rattle.vp_gen.specs.SandboxCode.{words_code}
use Rattle.vp_gen.proofs.Validity.{length-words_code}
use Rattle.vp_gen.proofs.build.emit_fallback.Goals as goal

pub emit_words-requires-clause-room : goal.emit_words-requires-clause-room
emit_words-requires-clause-room c =
    let s = c.args.s.now in
    let ws = sum_by (λ p. poly_size p + 6) s.fallback in
    rw c.get.ensures (fewer_room c.args.b.now ws (ws + 1 + s.counts.controls) (omega arith) c.requires.room)

pub push_act-requires-clause-room : goal.push_act-requires-clause-room
push_act-requires-clause-room c =
    let s = c.args.s.now in
    let n = s.counts in
    let a = c.args.b.now in
    let ws = sum_by (λ p. poly_size p + 6) s.fallback in
    let words = λ (p : ℕ). words_code p 68 s.fallback (homes_of n) in
    let x : Appends a c.emit_words.new.b words = rw (c.get.ensures, c.requires.homes) at c.in_ok-emit_words.ensures in
    room_after a c.emit_words.new.b words (1 + n.controls) (ws + 1 + n.controls) x c.requires.room (omega (arith, length-words_code (length a.pushed) 68 s.fallback (homes_of n)))

pub returns : goal.returns
returns c =
    let s = c.args.s.now in
    let n = s.counts in
    let a = c.args.b.now in
    let words = λ (p : ℕ). words_code p 68 s.fallback (homes_of n) in
    let act = λ (p : ℕ). act_code n true 68 in
    let x : Appends a c.emit_words.new.b words = rw (c.get.ensures, c.requires.homes) at c.in_ok-emit_words.ensures in
    on_ok c.push_act.result _ _
    (λ (y : Appends c.emit_words.new.b c.push_act.new.b act). appends_on a c.emit_words.new.b c.push_act.new.b words act x y) c.push_act.ensures
