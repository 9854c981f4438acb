use Rattle.vp_read.proofs.sections.is_heading.Goals as goal

pub returns-then-is_heading : goal.returns-then-is_heading
returns-then-is_heading c = (λ h. (c.is_heading.ensures.0 c.if-is_heading.true, c.is_second.ensures.0 h), λ h. c.is_second.ensures.1 h.1)
