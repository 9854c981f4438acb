use Rattle.std.proofs.Common.{Vec, Global, inl, inr, drop, map, refl, sym, subst}
use Rattle.std.proofs.lemmas.Result.{err_from_is_err_and}
use Rattle.vp_terms.specs.declared.expr.Expr.{Expr}
use Rattle.vp_terms.specs.declared.package.Slack.{Slack}
use Rattle.vp_terms.specs.Tree.{expr_tree, formula_tree, prog_tree}
use Rattle.vp_lex.specs.declared.word.ReservedWord.TheVariants as word
use Rattle.vp_grammar.specs.declared.entries.Mark.TheVariants as mark
use Rattle.vp_grammar.specs.FormulaReads.{SpellsFormulaPiece}
use Rattle.vp_grammar.specs.Controllers.{SpellsController}
use Rattle.vp_grammar.specs.Entries.{SpellsEntries, SpellsBounds, SpellsTimes}
use Rattle.vp_terms.specs.Packages.{slack_tree}
use Rattle.vp_terms.specs.Packages.{cert_tree}
use Rattle.vp_read.specs.Pieces.{items, piece}
use Rattle.vp_read.specs.Sections.{AreCerts, IsFirstNoCert, IsUnformedBody}
use Rattle.vp_read.proofs.SectionSteps.{tells, tells_more, behind_is}
use Rattle.vp_read.proofs.sections.body.Goals as goal

pub returns-in_err-init-clause-reads : goal.returns-in_err-init-clause-reads
returns-in_err-init-clause-reads c =
    let p = err_from_is_err_and c.from_residual.result c.from_residual.ensures.1 in
    rw (p.1, p.2) (tells formula_tree (SpellsFormulaPiece word.Init (piece (map items c.args.pieces.now) 5)) 5 (IsUnformedBody (map items c.args.pieces.now)) c.in_err-init.field-0.0 c.in_err-init.ensures (λ none. inl (λ x. none x.0 x.1, refl)))

pub returns-in_err-inv-clause-reads : goal.returns-in_err-inv-clause-reads
returns-in_err-inv-clause-reads c =
    let p = err_from_is_err_and c.from_residual-in_err-inv.result c.from_residual-in_err-inv.ensures.1 in
    rw (p.1, p.2) (tells formula_tree (SpellsFormulaPiece word.Inv (piece (map items c.args.pieces.now) 6)) 6 (IsUnformedBody (map items c.args.pieces.now)) c.in_err-inv.field-0.0 c.in_err-inv.ensures (λ none. inr ((formula_tree c.in_ok-init.init, c.in_ok-init.ensures), inl (λ x. none x.0 x.1, refl))))

pub returns-in_err-safe-clause-reads : goal.returns-in_err-safe-clause-reads
returns-in_err-safe-clause-reads c =
    let p = err_from_is_err_and c.from_residual-in_err-safe.result c.from_residual-in_err-safe.ensures.1 in
    rw (p.1, p.2) (tells formula_tree (SpellsFormulaPiece word.Safe (piece (map items c.args.pieces.now) 7)) 7 (IsUnformedBody (map items c.args.pieces.now)) c.in_err-safe.field-0.0 c.in_err-safe.ensures (λ none. inr ((formula_tree c.in_ok-init.init, c.in_ok-init.ensures), inr ((formula_tree c.in_ok-inv.inv, c.in_ok-inv.ensures), inl (λ x. none x.0 x.1, refl)))))

pub returns-in_err-ctrl-clause-reads : goal.returns-in_err-ctrl-clause-reads
returns-in_err-ctrl-clause-reads c =
    let p = err_from_is_err_and c.from_residual-in_err-ctrl.result c.from_residual-in_err-ctrl.ensures.1 in
    rw (p.1, p.2) (tells prog_tree (SpellsController (piece (map items c.args.pieces.now) 8)) 8 (IsUnformedBody (map items c.args.pieces.now)) c.in_err-ctrl.field-0.0 c.in_err-ctrl.ensures (λ none. inr ((formula_tree c.in_ok-init.init, c.in_ok-init.ensures), inr ((formula_tree c.in_ok-inv.inv, c.in_ok-inv.ensures), inr ((formula_tree c.in_ok-safe.safe, c.in_ok-safe.ensures), inl (λ x. none x.0 x.1, refl))))))

pub returns-in_err-low-clause-reads : goal.returns-in_err-low-clause-reads
returns-in_err-low-clause-reads c =
    let p = err_from_is_err_and c.from_residual-in_err-low.result c.from_residual-in_err-low.ensures.1 in
    rw (p.1, p.2) (tells (λ (x : Expr × Expr). (expr_tree x.0, expr_tree x.1)) (SpellsTimes (piece (map items c.args.pieces.now) 9)) 9 (IsUnformedBody (map items c.args.pieces.now)) c.in_err-low.field-0.0 c.in_err-low.ensures (λ none. inr ((formula_tree c.in_ok-init.init, c.in_ok-init.ensures), inr ((formula_tree c.in_ok-inv.inv, c.in_ok-inv.ensures), inr ((formula_tree c.in_ok-safe.safe, c.in_ok-safe.ensures), inr ((prog_tree c.in_ok-ctrl.ctrl, c.in_ok-ctrl.ensures), inl (λ x. none x.0 x.1, refl)))))))

pub returns-in_err-rates-clause-reads : goal.returns-in_err-rates-clause-reads
returns-in_err-rates-clause-reads c =
    let p = err_from_is_err_and c.from_residual-in_err-rates.result c.from_residual-in_err-rates.ensures.1 in
    rw (p.1, p.2) (tells (λ (v : Vec Expr Global). map expr_tree v.items) (SpellsEntries word.Flow mark.Rate (piece (map items c.args.pieces.now) 10)) 10 (IsUnformedBody (map items c.args.pieces.now)) c.in_err-rates.field-0.0 c.in_err-rates.ensures.reads (λ none. inr ((formula_tree c.in_ok-init.init, c.in_ok-init.ensures), inr ((formula_tree c.in_ok-inv.inv, c.in_ok-inv.ensures), inr ((formula_tree c.in_ok-safe.safe, c.in_ok-safe.ensures), inr ((prog_tree c.in_ok-ctrl.ctrl, c.in_ok-ctrl.ensures), inr (((expr_tree c.in_ok-low.low, expr_tree c.in_ok-low.high), c.in_ok-low.ensures), inl (λ x. none x.0 x.1, refl))))))))

pub returns-in_err-slack-clause-reads : goal.returns-in_err-slack-clause-reads
returns-in_err-slack-clause-reads c =
    let p = err_from_is_err_and c.from_residual-in_err-slack.result c.from_residual-in_err-slack.ensures.1 in
    rw (p.1, p.2) (tells (λ (v : Vec Slack Global). map slack_tree v.items) (SpellsBounds (piece (map items c.args.pieces.now) 11)) 11 (IsUnformedBody (map items c.args.pieces.now)) c.in_err-slack.field-0.0 c.in_err-slack.ensures.reads (λ none. inr ((formula_tree c.in_ok-init.init, c.in_ok-init.ensures), inr ((formula_tree c.in_ok-inv.inv, c.in_ok-inv.ensures), inr ((formula_tree c.in_ok-safe.safe, c.in_ok-safe.ensures), inr ((prog_tree c.in_ok-ctrl.ctrl, c.in_ok-ctrl.ensures), inr (((expr_tree c.in_ok-low.low, expr_tree c.in_ok-low.high), c.in_ok-low.ensures), inr ((map expr_tree c.in_ok-rates.rates.items, c.in_ok-rates.ensures.reads), inl (λ x. none x.0 x.1, refl)))))))))

pub returns-in_err-domain-clause-reads : goal.returns-in_err-domain-clause-reads
returns-in_err-domain-clause-reads c =
    let p = err_from_is_err_and c.from_residual-in_err-domain.result c.from_residual-in_err-domain.ensures.1 in
    rw (p.1, p.2) (tells formula_tree (SpellsFormulaPiece word.Domain (piece (map items c.args.pieces.now) 12)) 12 (IsUnformedBody (map items c.args.pieces.now)) c.in_err-domain.field-0.0 c.in_err-domain.ensures (λ none. inr ((formula_tree c.in_ok-init.init, c.in_ok-init.ensures), inr ((formula_tree c.in_ok-inv.inv, c.in_ok-inv.ensures), inr ((formula_tree c.in_ok-safe.safe, c.in_ok-safe.ensures), inr ((prog_tree c.in_ok-ctrl.ctrl, c.in_ok-ctrl.ensures), inr (((expr_tree c.in_ok-low.low, expr_tree c.in_ok-low.high), c.in_ok-low.ensures), inr ((map expr_tree c.in_ok-rates.rates.items, c.in_ok-rates.ensures.reads), inr ((map slack_tree c.in_ok-slack.slack.items, c.in_ok-slack.ensures.reads), inl (λ x. none x.0 x.1, refl))))))))))

pub returns-in_err-fallback-clause-reads : goal.returns-in_err-fallback-clause-reads
returns-in_err-fallback-clause-reads c =
    let p = err_from_is_err_and c.from_residual-in_err-fallback.result c.from_residual-in_err-fallback.ensures.1 in
    rw (p.1, p.2) (tells (λ (v : Vec Expr Global). map expr_tree v.items) (SpellsEntries word.Fallback mark.Setting (piece (map items c.args.pieces.now) 13)) 13 (IsUnformedBody (map items c.args.pieces.now)) c.in_err-fallback.field-0.0 c.in_err-fallback.ensures.reads (λ none. inr ((formula_tree c.in_ok-init.init, c.in_ok-init.ensures), inr ((formula_tree c.in_ok-inv.inv, c.in_ok-inv.ensures), inr ((formula_tree c.in_ok-safe.safe, c.in_ok-safe.ensures), inr ((prog_tree c.in_ok-ctrl.ctrl, c.in_ok-ctrl.ensures), inr (((expr_tree c.in_ok-low.low, expr_tree c.in_ok-low.high), c.in_ok-low.ensures), inr ((map expr_tree c.in_ok-rates.rates.items, c.in_ok-rates.ensures.reads), inr ((map slack_tree c.in_ok-slack.slack.items, c.in_ok-slack.ensures.reads), inr ((formula_tree c.in_ok-domain.domain, c.in_ok-domain.ensures), inl (λ x. none x.0 x.1, refl)))))))))))

pub returns-in_err-certs-clause-reads : goal.returns-in_err-certs-clause-reads
returns-in_err-certs-clause-reads c =
    let p = err_from_is_err_and c.from_residual-in_err-certs.result c.from_residual-in_err-certs.ensures.1 in
    rw (p.1, p.2) (tells_more (IsFirstNoCert 14 (map items c.behind.result.now)) (IsUnformedBody (map items c.args.pieces.now)) c.in_err-certs.field-0.0 c.in_err-certs.ensures (λ n b. inr ((formula_tree c.in_ok-init.init, c.in_ok-init.ensures), inr ((formula_tree c.in_ok-inv.inv, c.in_ok-inv.ensures), inr ((formula_tree c.in_ok-safe.safe, c.in_ok-safe.ensures), inr ((prog_tree c.in_ok-ctrl.ctrl, c.in_ok-ctrl.ensures), inr (((expr_tree c.in_ok-low.low, expr_tree c.in_ok-low.high), c.in_ok-low.ensures), inr ((map expr_tree c.in_ok-rates.rates.items, c.in_ok-rates.ensures.reads), inr ((map slack_tree c.in_ok-slack.slack.items, c.in_ok-slack.ensures.reads), inr ((formula_tree c.in_ok-domain.domain, c.in_ok-domain.ensures), inr ((map expr_tree c.in_ok-fallback.fallback.items, c.in_ok-fallback.ensures.reads), subst (λ qs. IsFirstNoCert 14 qs n) (behind_is c.args.pieces.now c.behind.result.now c.behind.ensures) b)))))))))))

pub returns-clause-reads : goal.returns-clause-reads
returns-clause-reads c = (
  refl,
  record {
    init = c.in_ok-init.ensures;
    inv = c.in_ok-inv.ensures;
    safe = c.in_ok-safe.ensures;
    ctrl = c.in_ok-ctrl.ensures;
    time = c.in_ok-low.ensures;
    flow = subst (λ es. SpellsEntries word.Flow mark.Rate (piece (map items c.args.pieces.now) 10) (map expr_tree es)) (sym c.of.ensures) c.in_ok-rates.ensures.reads;
    slack = subst (λ es. SpellsBounds (piece (map items c.args.pieces.now) 11) (map slack_tree es)) (sym c.of-2.ensures) c.in_ok-slack.ensures.reads;
    domain = c.in_ok-domain.ensures;
    fallback = subst (λ es. SpellsEntries word.Fallback mark.Setting (piece (map items c.args.pieces.now) 13) (map expr_tree es)) (sym c.of-3.ensures) c.in_ok-fallback.ensures.reads;
    certs = subst (λ es. AreCerts (drop 13 (map items c.args.pieces.now)) (map cert_tree es)) (sym c.of-4.ensures) (subst (λ qs. AreCerts qs (map cert_tree c.in_ok-certs.certs.items)) (behind_is c.args.pieces.now c.behind.result.now c.behind.ensures) c.in_ok-certs.ensures);
  },
)
