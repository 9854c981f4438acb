use Rattle.std.proofs.Common.{length, map, ap, ◌∙◌}
use Rattle.std.specs.Prelude.{string_bytes}
use Rattle.std.specs.Iterator.Adapters.{zip_first, zip_second}
use Rattle.std.specs.Slice.Iter.{iter_rest}
use Rattle.std.proofs.lemmas.Slice.Zip.{zip_end}
use Rattle.vp_synth.proofs.Appending.{finished}
use Rattle.vp_synth.proofs.Lines.{fallback_end}
use Rattle.vp_synth.proofs.listing.push_fallback.Goals as goal

pub returns : goal.returns
returns c =
    let same = c.into_iter-name-iterator.ensures.into_iter_gives in
    let first = ap (λ s. iter_rest (zip_first s)) same ∙ (ap iter_rest c.zip-name-items.ensures.first ∙ c.iter.ensures.rest) in
    let second = ap (λ s. iter_rest (zip_second s)) same ∙ c.zip-name-items.ensures.second.0 in
    let n = zip_end c.args.controls.now c.args.polys.now c.loop-name.yielded c.into_iter-name-iterator.result c.loop-name.name-iterator c.next.new.self c.next.result first second c.loop-name.yielded_by c.in-None.is c.next.ensures.steps in
    finished _ _ _ c.loop-name.invariant (fallback_end (map string_bytes c.args.variables.now) c.args.controls.now c.args.polys.now (length c.loop-name.yielded) n)
