use Rattle.std.proofs.Common.{◌≤◌, length, All, ap, sym, subst, arith}
use Rattle.vp_lex.specs.Tokens.{IsToken}
use Rattle.vp_read.specs.Spelling.{AreTerminals}
use Rattle.vp_read.proofs.Scanned.{tokens_stand, terminals_few, pieces_stand, all_short}
use Rattle.vp_read.proofs.reading.read_pieces.Goals as goal

pub terminals-requires : goal.terminals-requires
terminals-requires c =
    subst (All (λ t. IsToken c.args.text.now t)) (sym c.deref.ensures.value) (tokens_stand c.args.text.now 0 c.in_ok-tokens.tokens.items (length c.args.text.now) c.in_ok-tokens.ensures.tokens)

pub cut-requires : goal.cut-requires
cut-requires c =
    let few = terminals_few c.args.text.now c.in_ok-tokens.tokens.items c.deref.result.now c.in_ok-terminals.terminals.items c.in_ok-tokens.ensures.tokens c.deref.ensures.value c.in_ok-terminals.ensures c.requires in
    let same = ap length c.deref-2.ensures.value in
    omega (arith, few, same)

pub first_deep-requires-clause-few : goal.first_deep-requires-clause-few
first_deep-requires-clause-few c =
    let few = terminals_few c.args.text.now c.in_ok-tokens.tokens.items c.deref.result.now c.in_ok-terminals.terminals.items c.in_ok-tokens.ensures.tokens c.deref.ensures.value c.in_ok-terminals.ensures c.requires in
    let same = ap length c.deref-2.ensures.value in
    let these = ap length c.deref-3.ensures.value in
    omega (arith, few, same, these, c.in_ok-pieces.ensures.few)

pub first_deep-requires-clause-short : goal.first_deep-requires-clause-short
first_deep-requires-clause-short c =
    let few = terminals_few c.args.text.now c.in_ok-tokens.tokens.items c.deref.result.now c.in_ok-terminals.terminals.items c.in_ok-tokens.ensures.tokens c.deref.ensures.value c.in_ok-terminals.ensures c.requires in
    let same = ap length c.deref-2.ensures.value in
    subst (All (λ v. length v.items ≤ 1048576)) (sym c.deref-3.ensures.value) (all_short c.in_ok-pieces.pieces.items (length c.deref-2.result.now) c.in_ok-pieces.ensures.short (omega (arith, few, same)))

pub returns-in-None-clause-tokens : goal.returns-in-None-clause-tokens
returns-in-None-clause-tokens c = tokens_stand c.args.text.now 0 c.in_ok-tokens.tokens.items (length c.args.text.now) c.in_ok-tokens.ensures.tokens

pub returns-in-None-clause-within : goal.returns-in-None-clause-within
returns-in-None-clause-within c =
    let text = c.args.text.now in
    let tokens = c.in_ok-tokens.tokens.items in
    let stand = subst (λ ts. AreTerminals text ts c.deref-2.result.now) c.deref.ensures.value (subst (AreTerminals text c.deref.result.now) (sym c.deref-2.ensures.value) c.in_ok-terminals.ensures) in
    pieces_stand text tokens c.deref-2.result.now c.in_ok-pieces.pieces.items (tokens_stand text 0 tokens (length text) c.in_ok-tokens.ensures.tokens) stand c.in_ok-pieces.ensures.pieces

pub returns-in-None-clause-few : goal.returns-in-None-clause-few
returns-in-None-clause-few c =
    let few = terminals_few c.args.text.now c.in_ok-tokens.tokens.items c.deref.result.now c.in_ok-terminals.terminals.items c.in_ok-tokens.ensures.tokens c.deref.ensures.value c.in_ok-terminals.ensures c.requires in
    let same = ap length c.deref-2.ensures.value in
    omega (arith, few, same, c.in_ok-pieces.ensures.few)

pub returns-in-None-clause-short : goal.returns-in-None-clause-short
returns-in-None-clause-short c =
    let few = terminals_few c.args.text.now c.in_ok-tokens.tokens.items c.deref.result.now c.in_ok-terminals.terminals.items c.in_ok-tokens.ensures.tokens c.deref.ensures.value c.in_ok-terminals.ensures c.requires in
    let same = ap length c.deref-2.ensures.value in
    all_short c.in_ok-pieces.pieces.items (length c.deref-2.result.now) c.in_ok-pieces.ensures.short (omega (arith, few, same))
