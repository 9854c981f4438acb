use Rattle.std.proofs.Common.{◌++◌, take, string_bytes, Some, ap, sym, ◌∙◌}
use Rattle.vp_read.specs.Naming.{contains}
use Rattle.vp_read.proofs.AgainSteps.{texts, again_here, again_on}
use Rattle.vp_read.proofs.counts.first_again.Goals as goal

pub returns-then-stands : goal.returns-then-stands
returns-then-stands c =
    let before = texts c.args.first.now ++ texts c.args.second.now in
    let i = c.loop-i.i in
    let same = ap (λ s. contains (before ++ texts (take i c.args.names.now)) (string_bytes s)) (sym c.index-names-i.is) ∙ ap (contains (before ++ texts (take i c.args.names.now))) (sym c.as_str-name.ensures.value) ∙ sym c.stands.ensures ∙ c.if-stands.true in
    again_here before c.args.names.now i c.index-names-i.result c.loop-i-test.true same c.loop-i.invariant ∙ ap (λ s. Some (string_bytes s)) (sym c.index-names-i.is) ∙ ap Some (sym c.as_str-name.ensures.value)

pub loop-i-preserved : goal.loop-i-preserved
loop-i-preserved c =
    let before = texts c.args.first.now ++ texts c.args.second.now in
    let i = c.loop-i.i in
    let same = ap (λ s. contains (before ++ texts (take i c.args.names.now)) (string_bytes s)) (sym c.index-names-i.is) ∙ ap (contains (before ++ texts (take i c.args.names.now))) (sym c.as_str-name.ensures.value) ∙ sym c.stands.ensures ∙ c.if-stands.false in
    again_on before c.args.names.now i c.index-names-i.result c.loop-i-test.true same c.loop-i.invariant
