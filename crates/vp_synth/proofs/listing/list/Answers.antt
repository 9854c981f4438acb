use Rattle.std.proofs.Math.Logic.{∥∥₁_elim}
use Rattle.std.proofs.Props.{props}
use Rattle.vp_monitor.specs.Obligations.{all_parts, parts_for}
use Rattle.vp_synth.proofs.Made.{all_within, few_paths}
use Rattle.vp_synth.proofs.listing.list.Goals as goal

pub push_controller-requires : goal.push_controller-requires
push_controller-requires c =
    record { few = ∥∥₁_elim c.args.p.now.made (hlevel props) (λ h. few_paths c.args.p.now.package c.args.p.now.obligations c.args.p.now.sandbox c.ways_are_counted.ensures c.paths_are_bounded.ensures.count h) }

pub push_obligations-requires : goal.push_obligations-requires
push_obligations-requires c = ∥∥₁_elim c.args.p.now.made (hlevel props) (λ h. rw c.get-4.ensures (all_within (parts_for h.has.are.lists_of) all_parts c.args.p.now.obligations c.cases_split_parts.ensures.places h.has.are.are))
