use Rattle.std.proofs.Common.{◌≡◌, ◌≤◌, ◌∙◌, Some, None, refl, sym, ap, subst, arith}
use Rattle.vp_isa.specs.Valid.{IsValid, refusal}
use Rattle.vp_sandbox.specs.Sizes.{instruction_bound}
use Rattle.vp_layout.proofs.Machines.{Runs}
use Rattle.vp_gen.specs.SandboxCode.{code_of, sense_of}
use Rattle.vp_gen.specs.Compiled.{IsCodeOf}
use Rattle.vp_gen.proofs.Agreeing.{replies_to_all}
use Rattle.vp_gen.proofs.Fitness.{emits}
use Rattle.vp_gen.proofs.Known.{Known}
use Rattle.vp_gen.proofs.Loop.{takes}
use Rattle.vp_gen.proofs.Validity.{code_bound, code_valid}
use Rattle.vp_gen.proofs.generate.compile.Goals as goal

pub unreachable-requires : goal.unreachable-requires
unreachable-requires c =
    let s = c.args.s.now in
    let runs : Runs = record {
      none = c.runs_compose.ensures.none;
      one = c.runs_compose.ensures.one;
      both = c.runs_compose.ensures.both;
      block = c.block_is_run.ensures;
      piece = c.blocks_split.ensures.piece;
      front = c.blocks_split.ensures.front;
      back = c.blocks_split.ensures.back;
    } in
    let short : instruction_bound s ≤ 65536 = omega (arith, c.sizes-sizes.ensures.instrs, c.if-sizes-gt-INSTRS.false) in
    let em = emits s c.requires short in
    let bound = code_bound s in
    let valid : IsValid (code_of s) = code_valid runs s em.compiles (omega (arith, bound, short)) in
    let none : refusal c.in-Ok.code ≡ None = ap refusal c.in-Ok.ensures ∙ (c.rules_are_exact.ensures (code_of s)).0 valid in
    let some : refusal c.in-Ok.code ≡ Some c.in-Err.field-0 = c.in-Err.ensures in
    let both_ : Some c.in-Err.field-0 ≡ None = sym some ∙ none in
    absurd cc

pub returns : goal.returns
returns c =
    let s = c.args.s.now in
    let runs : Runs = record {
      none = c.runs_compose.ensures.none;
      one = c.runs_compose.ensures.one;
      both = c.runs_compose.ensures.both;
      block = c.block_is_run.ensures;
      piece = c.blocks_split.ensures.piece;
      front = c.blocks_split.ensures.front;
      back = c.blocks_split.ensures.back;
    } in
    let known : Known = record {
      runs = runs;
      taken = c.records_are_taken.ensures;
      acts = c.acts_become_controls.ensures;
      states = c.next_states_become_states.ensures;
      fallback = c.choices_keep_the_fallback.ensures;
    } in
    let short : instruction_bound s ≤ 65536 = omega (arith, c.sizes-sizes.ensures.instrs, c.if-sizes-gt-INSTRS.false) in
    let em = emits s c.requires short in
    let bound = code_bound s in
    let valid = code_valid runs s em.compiles (omega (arith, bound, short)) in
    let is : c.in-Ok-of.checked ≡ code_of s = c.in-Ok-of.ensures.0 ∙ c.in-Ok.ensures in
    subst (IsCodeOf s) (sym is) (record {
      agrees = c.codes_that_reply_agree.ensures s (code_of s) (sense_of s) valid (takes runs s) refl (replies_to_all known s em.compiles);
      instrs = bound;
      cells = omega arith;
      short = omega (arith, c.sizes-sizes.ensures.instrs, c.if-sizes-gt-INSTRS.false);
      small = omega (arith, c.sizes-sizes.ensures.cells, c.if-sizes-gt-CELLS.false);
    })
