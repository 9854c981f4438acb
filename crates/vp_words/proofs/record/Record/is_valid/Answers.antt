use Rattle.std.proofs.Common.{◌≡◌, ◌≤◌, length, take, drop, rules}
use Rattle.vp_words.specs.Record.{field_count}
use Rattle.vp_words.proofs.Padding.{record_from, record_to}
use Rattle.vp_words.proofs.record.Record.is_valid.Goals as goal

pub returns-then-are_zero : goal.returns-then-are_zero
returns-then-are_zero c =
    let r = c.args.self.now in
    let size : length r.words ≡ 64 = search rules in
    let count : r.len ≡ field_count r.kind c.args.counts = search rules in
    let room : r.len ≤ 64 = search rules in
    let front : c.split_at.result.0.now ≡ take r.len r.words = search rules in
    let back : c.split_at.result.1.now ≡ drop r.len r.words = search rules in (
      λ e. record_from c.args.counts r _ _ size room count front back (cc) (cc),
      λ h. let p = record_to c.args.counts r _ _ size room front back h in cc (p.1),
    )

pub returns-else-are_zero : goal.returns-else-are_zero
returns-else-are_zero c =
    let r = c.args.self.now in
    let size : length r.words ≡ 64 = search rules in
    let room : r.len ≤ 64 = search rules in
    let front : c.split_at.result.0.now ≡ take r.len r.words = search rules in
    let back : c.split_at.result.1.now ≡ drop r.len r.words = search rules in (
      λ e. absurd (cc),
      λ h. let p = record_to c.args.counts r _ _ size room front back h in cc (p.0),
    )
