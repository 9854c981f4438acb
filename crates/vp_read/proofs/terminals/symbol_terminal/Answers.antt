use Rattle.std.proofs.Common.{◌-◌, drop, sym, subst}
use Rattle.vp_lex.specs.Tokens.{Spells}
use Rattle.vp_read.specs.Spelling.{IsMark}
use Rattle.vp_read.proofs.Marks.{spelled_mark}
use Rattle.vp_read.proofs.terminals.symbol_terminal.Goals as goal

pub mark_of-requires : goal.mark_of-requires
mark_of-requires c =
    let t = c.args.token in
    let bytes = drop t.from c.args.text.now in
    subst IsMark (sym c.token_text.ensures) (spelled_mark bytes (t.to - t.from) (subst (λ k. Spells k bytes (t.to - t.from)) c.requires.kind c.requires.token.longest.0))
