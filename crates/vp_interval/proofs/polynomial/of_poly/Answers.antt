use Rattle.std.proofs.Common.{◌≡◌, refl, ap, ◌∙◌, ◌+◌, length, map, drop, arith, ◌≤◌, pos}
use Rattle.std.specs.List.{reduce}
use Rattle.std.specs.Option.{option_map}
use Rattle.vp_interval.specs.Interval.{ends}
use Rattle.vp_interval.specs.Polynomial.{joined, of_term, interval_of}
use Rattle.vp_interval.specs.Rounding.{sum, point}
use Rattle.vp_interval.proofs.Joining.{join_more, next_member, all_joined}
use Rattle.vp_interval.proofs.Terms.{represented_polynomial}
use Rattle.vp_interval.proofs.polynomial.of_poly.Goals as goal

pub loop-k-preserved : goal.loop-k-preserved
loop-k-preserved c =
    let bs = map ends c.args.boxes.now in
    let ts = c.args.p.now in
    let k = c.loop-k.k in
    join_more sum (option_map ends c.loop-k.total) (of_term bs c.term.result) (ends c.plus.result) (map (of_term bs) (drop (k + 1) ts)) (map (of_term bs) (drop k ts)) (reduce sum (map (of_term bs) ts))
    (c.plus.ensures ∙ ap (joined sum (option_map ends c.loop-k.total)) c.of_term.ensures) (next_member (of_term bs) ts k (k + 1) c.term.result c.term.ensures.exact refl) c.loop-k.invariant

pub returns-in-Some-clause-meaning : goal.returns-in-Some-clause-meaning
returns-in-Some-clause-meaning c = λ x h.
    let bs = map ends c.args.boxes.now in
    let done : length c.args.p.now ≤ c.loop-k.k = let stop = c.loop-k-test.false in let count = c.len-k-end.ensures.count in omega arith in
    let joined_all = all_joined sum (of_term bs) c.args.p.now c.loop-k.k (option_map ends c.loop-k.total) (point (pos 0)) done c.loop-k.invariant in
    let same : ends c.in-Some.total ≡ interval_of bs c.args.p.now = rw c.in-Some.is at joined_all in
    rw same (represented_polynomial c.args.boxes.now c.args.p.now x h c.requires.places c.requires.small)
