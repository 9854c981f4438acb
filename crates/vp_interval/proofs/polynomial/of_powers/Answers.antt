use Rattle.std.proofs.Common.{◌≡◌, refl, ap, ◌∙◌, sym, ◌+◌, ◌<◌, length, map, drop, get_or, arith}
use Rattle.std.proofs.Math.ListN.{get_or-map}
use Rattle.std.proofs.lemmas.List.{length-map}
use Rattle.std.specs.List.{reduce}
use Rattle.std.specs.Option.{option_map}
use Rattle.vp_interval.specs.Interval.{ends}
use Rattle.vp_interval.specs.Polynomial.{powers_of}
use Rattle.vp_interval.specs.Rounding.{product}
use Rattle.vp_interval.proofs.Joining.{with_rest, join_more, power_taken, power_skipped, place_below}
use Rattle.vp_interval.proofs.polynomial.of_powers.Goals.{then-power-gt0, else-power-gt0}
use Rattle.vp_interval.proofs.polynomial.of_powers.Goals as goal

pub loop-place-preserved : goal.loop-place-preserved
loop-place-preserved c =
    let es = c.args.powers.now in
    let bs = map ends c.args.boxes.now in
    let i = c.loop-place.place in
    let whole = reduce product (powers_of es bs) in
    let long = c.told-powers in
    let inside : i < length es = omega arith in
    elim c.if-power-gt0.branch [
      | then-power-gt0 w ↦
          let box = w.index-boxes-place.result in
          let positive = w.if-power-gt0.true in
          let below = place_below (length c.args.boxes.now) i (get_or es i 0) (c.requires.none i) positive in
          let in_map : i < length bs = rw length-map below in
          let at : get_or bs i (ends box) ≡ ends box = get_or-map ends c.args.boxes.now i box ∙ ap ends (sym w.index-boxes-place.is) in
          rw w.total-is
          (join_more product (option_map ends c.loop-place.total) (ends w.pow.result) (ends w.times.result) (powers_of (drop (i + 1) es) (drop (i + 1) bs)) (powers_of (drop i es) (drop i bs)) whole
          w.times.ensures (power_taken es bs i (i + 1) (get_or es i 0) (ends box) (ends w.pow.result) inside in_map refl refl at positive w.pow.ensures.exact) c.loop-place.invariant)
      | else-power-gt0 w ↦
          let zero = w.if-power-gt0.false in
          let none : get_or es i 0 ≡ 0 = omega arith in
          rw w.total-is (ap (with_rest product (option_map ends c.loop-place.total)) (power_skipped es bs i (i + 1) inside refl none) ∙ c.loop-place.invariant)
    ]
