use Rattle.std.proofs.Common.{List, ℕ, ◌≡◌, true, false, inl, inr, map, refl, sym, subst}
use Rattle.std.proofs.lemmas.Result.{err_from_is_err_and}
use Rattle.vp_lex.specs.declared.word.ReservedWord.TheVariants as word
use Rattle.vp_read.specs.Pieces.{items, piece}
use Rattle.vp_read.specs.Sections.{IsHeading, IsListed, IsUnformedHead, spelled}
use Rattle.vp_read.proofs.SectionSteps.{tells}
use Rattle.vp_read.proofs.sections.head.Goals as goal

pub returns-then-not-is_heading-clause-reads : goal.returns-then-not-is_heading-clause-reads
returns-then-not-is_heading-clause-reads c =
    inl ((λ (h : IsHeading c.args.text.now c.args.tokens.now (piece (map items c.args.pieces.now) 1)). let t : c.is_heading.result ≡ true = c.is_heading.ensures.1 (subst (IsHeading c.args.text.now c.args.tokens.now) (sym c.piece.ensures) h) in let f : c.is_heading.result ≡ false = c.if-not-is_heading.true in absurd (cc)), refl)

pub returns-in_err-params-clause-reads : goal.returns-in_err-params-clause-reads
returns-in_err-params-clause-reads c =
    let ps = map items c.args.pieces.now in
    let p = err_from_is_err_and c.from_residual.result c.from_residual.ensures.1 in
    rw (p.1, p.2) (tells (λ (l : List (List ℕ)). l) (IsListed c.args.text.now word.Params 0 (piece ps 2)) 2 (IsUnformedHead c.args.text.now c.args.tokens.now ps) c.in_err-params.field-0.0 c.in_err-params.ensures.reads (λ none. inr (subst (IsHeading c.args.text.now c.args.tokens.now) c.piece.ensures (c.is_heading.ensures.0 c.if-not-is_heading.false), inl (λ x. none (spelled c.args.text.now x.0) (x.0, x.1, refl), refl))))

pub returns-in_err-states-clause-reads : goal.returns-in_err-states-clause-reads
returns-in_err-states-clause-reads c =
    let ps = map items c.args.pieces.now in
    let p = err_from_is_err_and c.from_residual-in_err-states.result c.from_residual-in_err-states.ensures.1 in
    rw (p.1, p.2) (tells (λ (l : List (List ℕ)). l) (IsListed c.args.text.now word.States 1 (piece ps 3)) 3 (IsUnformedHead c.args.text.now c.args.tokens.now ps) c.in_err-states.field-0.0 c.in_err-states.ensures.reads (λ none. inr (subst (IsHeading c.args.text.now c.args.tokens.now) c.piece.ensures (c.is_heading.ensures.0 c.if-not-is_heading.false), inr ((c.in_ok-params.ensures.reads.0, c.in_ok-params.ensures.reads.1), inl (λ x. none (spelled c.args.text.now x.0) (x.0, x.1, refl), refl)))))

pub returns-in_err-controls-clause-reads : goal.returns-in_err-controls-clause-reads
returns-in_err-controls-clause-reads c =
    let ps = map items c.args.pieces.now in
    let p = err_from_is_err_and c.from_residual-in_err-controls.result c.from_residual-in_err-controls.ensures.1 in
    rw (p.1, p.2) (tells (λ (l : List (List ℕ)). l) (IsListed c.args.text.now word.Controls 1 (piece ps 4)) 4 (IsUnformedHead c.args.text.now c.args.tokens.now ps) c.in_err-controls.field-0.0 c.in_err-controls.ensures.reads (λ none. inr (subst (IsHeading c.args.text.now c.args.tokens.now) c.piece.ensures (c.is_heading.ensures.0 c.if-not-is_heading.false), inr ((c.in_ok-params.ensures.reads.0, c.in_ok-params.ensures.reads.1), inr ((c.in_ok-states.ensures.reads.0, c.in_ok-states.ensures.reads.1), inl (λ x. none (spelled c.args.text.now x.0) (x.0, x.1, refl), refl))))))

pub returns-clause-reads : goal.returns-clause-reads
returns-clause-reads c = record {
  heading = subst (IsHeading c.args.text.now c.args.tokens.now) c.piece.ensures (c.is_heading.ensures.0 c.if-not-is_heading.false);
  param_spans = c.in_ok-params.ensures.reads.0;
  params = c.in_ok-params.ensures.reads.1;
  params_are = c.in_ok-params.ensures.reads.2;
  state_spans = c.in_ok-states.ensures.reads.0;
  states = c.in_ok-states.ensures.reads.1;
  states_are = c.in_ok-states.ensures.reads.2;
  control_spans = c.in_ok-controls.ensures.reads.0;
  controls = c.in_ok-controls.ensures.reads.1;
  controls_are = c.in_ok-controls.ensures.reads.2;
}
