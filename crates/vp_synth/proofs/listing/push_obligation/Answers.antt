use Rattle.std.proofs.Common.{List, ℕ, length, sym, subst, ◌<◌}
use Rattle.std.specs.List.{All}
use Rattle.vp_synth.proofs.Lines.{case_within}
use Rattle.vp_synth.proofs.listing.push_obligation.Goals as goal

pub push_case-requires : goal.push_case-requires
push_case-requires c = subst (λ (l : List ℕ). All (λ k. k < length c.args.obligation.now.atoms) l) (sym c.deref.ensures.value) (case_within (length c.args.obligation.now.atoms) c.args.obligation.now.cases c.get-case-items.result.now c.loop-k.k c.case-item.result c.get-case-items.ensures c.loop-k-test.true c.case-item.is c.requires)
