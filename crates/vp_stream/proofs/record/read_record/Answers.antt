use Rattle.std.proofs.Common.{◌≡◌, pos, length, drop, replicate, ap, sym, ◌∙◌, arith}
use Rattle.vp_stream.specs.Lines.{fields_of}
use Rattle.vp_stream.specs.Reading.{first_empty}
use Rattle.vp_stream.proofs.LineRecords.{read_words_are}
use Rattle.vp_stream.proofs.Valid.{record_is_valid}
use Rattle.vp_stream.proofs.record.read_record.Goals as goal

pub returns-clause-valid : goal.returns-clause-valid
returns-clause-valid c =
    let long : length c.read_words.new.words ≡ c.fields-len.result = omega (arith, c.read_words.auto.words, c.from-2.ensures) in
    record_is_valid c.args.counts c.args.due c.read_words.new.words _ c.fields-len.result c.pair_count.result (ap (λ n. drop n (replicate 64 (pos 0))) c.from-2.ensures) long c.fields-len.ensures.room
    c.fields-len.ensures.count c.pair_count.ensures.count c.pair_count.ensures.room
    (ap (λ n. first_empty n 1 c.read_words.new.words) (sym c.from-3.ensures) ∙ sym c.first_empty.ensures ∙ c.in_default-first_empty.is)

pub returns-clause-words : goal.returns-clause-words
returns-clause-words c =
    let long : length c.read_words.new.words ≡ c.fields-len.result = omega (arith, c.read_words.auto.words, c.from-2.ensures) in
    read_words_are c.args.counts c.args.due (fields_of c.in-Some.rest.now) c.read_words.new.words _ c.fields-len.result c.pair_count.result long
    c.fields-len.ensures.count c.pair_count.ensures.count c.pair_count.ensures.room
    (ap (λ n. first_empty n 1 c.read_words.new.words) (sym c.from-3.ensures) ∙ sym c.first_empty.ensures ∙ c.in_default-first_empty.is) c.in_ok-read_words.ensures
