use Rattle.vp_terms.proofs.Runs as runs
use Rattle.vp_terms.proofs.Programs.{Ctrl_over, Same-refl}
use Rattle.vp_terms.proofs.running.leads_to.Goals as goal

pub returns-clause-sound : goal.returns-clause-sound
returns-clause-sound c =
    λ p x u v s.
    runs.if_yes c.leads.result _ _ (λ l. Ctrl_over c.args.prog.now p x u u l.0 v (Same-refl u) l.2 l.1) (c.leads.ensures.sound p x u v s)

pub returns-clause-complete : goal.returns-clause-complete
returns-clause-complete c =
    λ p x u v s k.
    runs.if_held c.leads.result _ _ (λ h. (v, h, Same-refl v)) (c.leads.ensures.complete p x u v s (record { first = k; behind = tt; apart = λ i g h. absurd (cc) }))
