use Rattle.std.proofs.Common.{List, ℕ, length, ap, ◌∙◌}
use Rattle.std.specs.Iterator.Adapters.{zip_first, zip_second}
use Rattle.std.specs.Slice.Iter.{iter_rest}
use Rattle.std.proofs.lemmas.Slice.Zip.{zip_end}
use Rattle.vp_synth.specs.Factors.{factors_behind}
use Rattle.vp_synth.proofs.Appending.{finished}
use Rattle.vp_synth.proofs.Powers.{factors_end, powers_end}
use Rattle.vp_synth.proofs.printing.push_powers.Goals as goal

pub returns : goal.returns
returns c =
    let same = c.into_iter-name-iterator.ensures.into_iter_gives in
    let first = ap (λ s. iter_rest (zip_first s)) same ∙ (ap iter_rest c.zip-name-items.ensures.first ∙ c.iter.ensures.rest) in
    let second = ap (λ s. iter_rest (zip_second s)) same ∙ c.zip-name-items.ensures.second.0 in
    let n = zip_end c.args.variables.now c.args.powers.now c.loop-name.yielded c.into_iter-name-iterator.result c.loop-name.name-iterator c.next.new.self c.next.result first second c.loop-name.yielded_by c.in-None.is c.next.ensures.steps in
    finished _ _ _ c.loop-name.invariant (ap (λ (ts : List (List ℕ)). factors_behind c.loop-name.between ts) (powers_end c.args.variables.now c.args.powers.now (length c.loop-name.yielded) n) ∙ factors_end c.loop-name.between)
