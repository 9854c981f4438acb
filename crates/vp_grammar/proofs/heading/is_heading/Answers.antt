use Rattle.vp_grammar.proofs.HeadingSteps.{heading_by_its_end, no_whole_no_heading}
use Rattle.vp_grammar.proofs.heading.is_heading.Goals as goal

pub returns-in-Some-whole : goal.returns-in-Some-whole
returns-in-Some-whole c =
    heading_by_its_end c.args.terminals.now c.in-Some.rest.now c.in-Some-whole.rest.now c.in-Some-whole.field-0-0 c.is_only.result c.in-Some.ensures c.in-Some-whole.ensures c.is_only.ensures

pub returns-in-None : goal.returns-in-None
returns-in-None c = no_whole_no_heading c.args.terminals.now c.in-Some.rest.now c.in-Some.ensures c.in-None.ensures
