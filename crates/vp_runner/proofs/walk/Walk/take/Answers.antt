use Rattle.std.proofs.Common.{◌≡◌, ℕ, ◌+◌, ◌++◌, List, ◌∷◌, All, Ok, Err, ap, sym, subst, ◌∙◌, drop, drop-cons, add-one, get_or, arith}
use Rattle.std.specs.Io.KnownBytes.{Appends}
use Rattle.std.proofs.Math.ListN.{drop_of_length-le}
use Rattle.std.proofs.lemmas.Result.{err_from_is_err_and}
use Rattle.vp_words.specs.Answerer.{Answerer}
use Rattle.vp_isa.specs.Answering.{machine_of}
use Rattle.vp_isa.specs.Machine.{MachineState}
use Rattle.vp_stream.specs.Pieces.{IsNoLf, LineState, byte_answer, held_after, held_of, resumed}
use Rattle.vp_stream.specs.Run.{text_of}
use Rattle.vp_stream.proofs.Pieces.{free_after, held_alone, held_step}
use Rattle.vp_runner.specs.Progress.{Walks, answerer, standing}
use Rattle.vp_runner.proofs.Walking.{OnWay, last_way, next_way, way_goes, way_halts, way_stops}
use Rattle.vp_runner.proofs.walk.Walk.take.Goals as goal

pub returns-in_err-take_byte-clause-walk : goal.returns-in_err-take_byte-clause-walk
returns-in_err-take_byte-clause-walk g c =
    let p = err_from_is_err_and c.from_residual.result c.from_residual.ensures.1 in
    let piece = c.args.piece.now in
    let i = c.loop-byte.byte-index in
    let held = c.loop-byte.self.line.text in
    let s = standing c.loop-byte.self.progress in
    let same : answerer c.loop-byte.self.progress ≡ answerer c.args.self.now.progress = ap machine_of c.loop-byte.invariant.code in
    let P : Answerer MachineState → Type 0 = λ a. Walks c.take_byte.result (byte_answer a s held (get_or piece i 0)) (standing c.take_byte.new.self.progress) (g.Si.Sink.written c.loop-byte.sink) (g.Si.Sink.written c.take_byte.new.sink) in
    way_halts (answerer c.args.self.now.progress) _ s (standing c.take_byte.new.self.progress) (standing c.take_byte.new.self.progress) held (drop (i + 1) piece) (get_or piece i 0) c.take_byte.result c.from_residual.result p.0
    (g.Si.Sink.written c.args.sink.now) (g.Si.Sink.written c.loop-byte.sink) (g.Si.Sink.written c.take_byte.new.sink)
    (next_way (answerer c.args.self.now.progress) _ s held piece i _ _ c.loop-byte-test.true c.loop-byte.invariant.way)
    c.loop-byte.invariant.room.free p.1 (c.in_err-take_byte.was ∙ ap (λ h. Err h) (sym p.2)) (subst P same c.take_byte.ensures.walk)

pub loop-byte-preserved : goal.loop-byte-preserved
loop-byte-preserved g c =
    let piece = c.args.piece.now in
    let i = c.loop-byte.byte-index in
    let held = c.loop-byte.self.line.text in
    let s = standing c.loop-byte.self.progress in
    let t = standing c.take_byte.new.self.progress in
    let byte = get_or piece i 0 in
    let a = answerer c.args.self.now.progress in
    let same : answerer c.loop-byte.self.progress ≡ a = ap machine_of c.loop-byte.invariant.code in
    let line = c.in_ok-take_byte.ensures.line in
    let text : c.take_byte.new.self.line.text ≡ held_after held byte = ap (λ (x : LineState). x.text) line in
    let goes : Answerer MachineState → Type 0 = λ b. ((byte_answer b s held byte).stands ≡ Ok t) × Appends (g.Si.Sink.written c.loop-byte.sink) (g.Si.Sink.written c.take_byte.new.sink) (text_of (byte_answer b s held byte)) in
    let free : List ℕ → Type 0 = λ l. All IsNoLf l in
    let behind : List ℕ → Type 0 = λ l. OnWay a (resumed a (standing c.args.self.now.progress) c.args.self.now.line.text piece) t l (drop (i + 1) piece) (g.Si.Sink.written c.args.sink.now) (g.Si.Sink.written c.take_byte.new.sink) in
    record {
      room = record {
        unended = ap (λ (x : LineState). x.ended) line;
        free = subst free (sym text) (free_after held byte c.loop-byte.invariant.room.free);
        short = c.in_ok-take_byte.ensures.short;
        lines = omega (arith, c.in_ok-take_byte.ensures.lines, c.loop-byte.invariant.room.lines, c.loop-byte-test.true);
        rounds = c.in_ok-take_byte.ensures.rounds;
      };
      code = c.take_byte.ensures.code ∙ c.loop-byte.invariant.code;
      kept = c.in_ok-take_byte.ensures.cause ∙ c.loop-byte.invariant.kept;
      count = omega (arith, c.in_ok-take_byte.ensures.lines, c.loop-byte.invariant.count);
      held = ap (λ l. held_of (l ++ drop (i + 1) piece)) text ∙ held_step held byte (drop (i + 1) piece) c.loop-byte.invariant.room.free
          ∙ ap (λ l. held_of (held ++ l)) (sym (drop-cons piece i 0 c.loop-byte-test.true ∙ ap (λ n. byte ∷ drop n piece) (sym (add-one i)))) ∙ c.loop-byte.invariant.held;
      way = subst behind (sym text) (way_goes a _ s t held (drop (i + 1) piece) byte (g.Si.Sink.written c.args.sink.now) (g.Si.Sink.written c.loop-byte.sink) (g.Si.Sink.written c.take_byte.new.sink) c.in_ok-take_byte.field-0
          (next_way a _ s held piece i _ _ c.loop-byte-test.true c.loop-byte.invariant.way)
          c.loop-byte.invariant.room.free (subst goes same c.in_ok-take_byte.ensures.walk));
    }

pub returns-clause-walk : goal.returns-clause-walk
returns-clause-walk g c =
    way_stops (answerer c.args.self.now.progress) _ (standing c.loop-byte.self.progress) c.loop-byte.self.line.text (g.Si.Sink.written c.args.sink.now) (g.Si.Sink.written c.loop-byte.sink)
    (last_way (answerer c.args.self.now.progress) _ _ _ c.args.piece.now c.loop-byte.byte-index _ _ c.loop-byte-test.false c.loop-byte.invariant.way)
    c.loop-byte.invariant.room.free c.loop-byte.invariant.room.short

pub returns-clause-held : goal.returns-clause-held
returns-clause-held g c =
    sym (held_alone c.loop-byte.self.line.text c.loop-byte.invariant.room.free)
    ∙ ap (λ l. held_of (c.loop-byte.self.line.text ++ l)) (sym (drop_of_length-le c.args.piece.now c.loop-byte-test.false))
    ∙ c.loop-byte.invariant.held
