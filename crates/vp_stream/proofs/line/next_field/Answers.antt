use Rattle.std.proofs.Common.{arith}
use Rattle.std.proofs.lemmas.Bool.Decides.{nat_tests}
use Rattle.std.proofs.lemmas.List.{take_rest}
use Rattle.vp_stream.proofs.Fields.{field_some, field_none, no_fields, rest_shorter}
use Rattle.vp_stream.proofs.line.next_field.Goals as goal

pub returns-then-is_empty-clause-fields : goal.returns-then-is_empty-clause-fields
returns-then-is_empty-clause-fields c = no_fields c.args.line.now c.skip_blanks-rest.result.now c.skip_blanks-rest.ensures (grind (arith, nat_tests))

pub returns-in-Some-clause-fields : goal.returns-in-Some-clause-fields
returns-in-Some-clause-fields c = rw take_rest (field_some c.args.line.now c.skip_blanks-rest.result.now c.in-Some.end c.skip_blanks-rest.ensures (λ h. let f = c.is_empty.ensures in grind (arith, nat_tests)) c.in-Some.ensures.place)

pub returns-in-Some-clause-shorter : goal.returns-in-Some-clause-shorter
returns-in-Some-clause-shorter c = rw take_rest (rest_shorter c.args.line.now c.skip_blanks-rest.result.now c.in-Some.end c.skip_blanks-rest.ensures (λ h. let f = c.is_empty.ensures in grind (arith, nat_tests)))

pub returns-in-None-clause-fields : goal.returns-in-None-clause-fields
returns-in-None-clause-fields c = field_none c.args.line.now c.skip_blanks-rest.result.now c.skip_blanks-rest.ensures (λ h. let f = c.is_empty.ensures in grind (arith, nat_tests)) c.in-None.ensures.none
