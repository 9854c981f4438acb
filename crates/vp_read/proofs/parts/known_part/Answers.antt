use Rattle.std.proofs.Common.{◌≡◌, length, map, All, refl, ap, sym, ◌∙◌, subst, arith}
use Rattle.vp_read.specs.Naming.{StandsIn, known}
use Rattle.vp_read.specs.Pieces.{is_deep}
use Rattle.vp_read.proofs.Scanned.{terminals_stand}
use Rattle.vp_read.proofs.Parting.{part_stands, known_stand, known_count, terminal_count}
use Rattle.vp_read.proofs.parts.known_part.Goals as goal

pub terminals-requires : goal.terminals-requires
terminals-requires c = part_stands c.args.text.now c.args.tokens.now c.requires.tokens

pub known_terminals-requires : goal.known_terminals-requires
known_terminals-requires c =
    subst (All (StandsIn c.args.text.now)) (sym c.deref-2.ensures.value) (terminals_stand c.args.text.now c.args.tokens.now c.in_ok-terminals.terminals.items (part_stands c.args.text.now c.args.tokens.now c.requires.tokens) c.in_ok-terminals.ensures)

pub returns-clause-within : goal.returns-clause-within
returns-clause-within c =
    known_stand c.args.text.now c.args.tokens.now c.args.names.now c.in_ok-terminals.terminals.items c.in_ok-known.known.items c.requires.tokens c.in_ok-terminals.ensures (subst (λ ts. c.in_ok-known.known.items ≡ map (known c.args.text.now c.args.names.now) ts) c.deref-2.ensures.value (subst (λ n. c.in_ok-known.known.items ≡ map (known c.args.text.now n) c.deref-2.result.now) c.in_ok-scope.ensures c.in_ok-known.ensures))

pub returns-clause-few : goal.returns-clause-few
returns-clause-few c =
    known_count c.args.text.now c.args.tokens.now c.args.names.now c.in_ok-terminals.terminals.items c.in_ok-known.known.items c.requires.tokens c.requires.length c.in_ok-terminals.ensures (subst (λ ts. c.in_ok-known.known.items ≡ map (known c.args.text.now c.args.names.now) ts) c.deref-2.ensures.value (subst (λ n. c.in_ok-known.known.items ≡ map (known c.args.text.now n) c.deref-2.result.now) c.in_ok-scope.ensures c.in_ok-known.ensures))

pub returns-clause-gives : goal.returns-clause-gives
returns-clause-gives c =
    (c.in_ok-terminals.terminals.items, c.in_ok-terminals.ensures, ap is_deep (sym c.deref.ensures.value) ∙ sym c.is_deep.ensures ∙ c.if-is_deep.false, subst (λ ts. c.in_ok-known.known.items ≡ map (known c.args.text.now c.args.names.now) ts) c.deref-2.ensures.value (subst (λ n. c.in_ok-known.known.items ≡ map (known c.args.text.now n) c.deref-2.result.now) c.in_ok-scope.ensures c.in_ok-known.ensures))

pub is_deep-requires : goal.is_deep-requires
is_deep-requires c = omega (arith, terminal_count c.args.text.now c.args.tokens.now c.in_ok-terminals.terminals.items c.requires.tokens c.requires.length c.in_ok-terminals.ensures, ap length c.deref.ensures.value)

pub returns-then-is_deep-clause-gives : goal.returns-then-is_deep-clause-gives
returns-then-is_deep-clause-gives c =
    (refl, (c.in_ok-terminals.terminals.items, c.in_ok-terminals.ensures, ap is_deep (sym c.deref.ensures.value) ∙ sym c.is_deep.ensures ∙ c.if-is_deep.true))
