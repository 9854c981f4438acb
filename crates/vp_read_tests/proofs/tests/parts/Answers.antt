use Rattle.vp_read.proofs.Parting.{all_consecutive}
use Rattle.vp_read_tests.proofs.tests.parts.Goals as goal

pub read_formula-formula-requires-clause-tokens : goal.read_formula-formula-requires-clause-tokens
read_formula-formula-requires-clause-tokens c =
    all_consecutive c.as_bytes-text.result.now c.in-Ok.found.items c.deref.result.now c.in-Ok.ensures.tokens c.deref.ensures.value

pub read_expr-expr-requires-clause-tokens : goal.read_expr-expr-requires-clause-tokens
read_expr-expr-requires-clause-tokens c =
    all_consecutive c.as_bytes-text.result.now c.in-Ok.found.items c.deref-2.result.now c.in-Ok.ensures.tokens c.deref-2.ensures.value

pub read_cert-cert-requires-clause-tokens : goal.read_cert-cert-requires-clause-tokens
read_cert-cert-requires-clause-tokens c =
    all_consecutive c.as_bytes-text.result.now c.in-Ok.found.items c.deref-3.result.now c.in-Ok.ensures.tokens c.deref-3.ensures.value
