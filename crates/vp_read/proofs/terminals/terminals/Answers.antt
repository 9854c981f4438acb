use Rattle.std.proofs.Common.{sym, subst, ◌+◌}
use Rattle.vp_lex.specs.declared.token.TokenKind.TheVariants.{Name}
use Rattle.vp_read.proofs.TerminalSteps.{Standing, stands_on}
use Rattle.vp_read.proofs.terminals.terminals.Goals as goal

pub loop-token-preserved : goal.loop-token-preserved
loop-token-preserved c =
    subst (λ xs. Standing c.args.text.now c.args.tokens.now (c.loop-token.token-index + 1) xs) (sym (c.in_ok-push-in-Some.ensures.items)) (stands_on c.args.text.now c.args.tokens.now c.loop-token.token-index c.loop-token.found.items (record { kind = Name; from = 0; to = 0 }) c.in-Some.terminal c.loop-token-test.true c.loop-token.invariant c.in-Some.ensures.0 c.in-Some.ensures.1)
