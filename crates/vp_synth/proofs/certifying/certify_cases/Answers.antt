use Rattle.std.proofs.Common.{◌≡◌, List, ℕ, rules, drop, subst, sym, length, ◌++◌, ◌<◌, arith, true, false}
use Rattle.std.specs.List.{All}
use Rattle.vp_terms.specs.declared.package.Cert.{Cert}
use Rattle.vp_poly.specs.Places.{places_for}
use Rattle.vp_poly.specs.Value.{Point}
use Rattle.vp_logic.specs.declared.norm.Atom.{Atom}
use Rattle.vp_logic.specs.Cases.{case_holds, lists}
use Rattle.vp_cert.specs.Bounds.{is_within_bounds}
use Rattle.vp_cert.specs.Certificate.{Refutes, labelled}
use Rattle.vp_cert.specs.Refusals.{Refuses}
use Rattle.vp_synth.specs.Certifying.{numbered}
use Rattle.vp_synth.specs.Going.{LeadsTo}
use Rattle.vp_synth.proofs.Walking.{all_behind, at_case, case_fits, first_and_rest, lent, step, wrong_one}
use Rattle.vp_synth.proofs.certifying.certify_cases.Goals as goal

pub refutes-requires-clause-places : goal.refutes-requires-clause-places
refutes-requires-clause-places c =
    let h = case_fits (length c.args.obligation.now.atoms) c.args.obligation.now.cases c.get-case-items.result.now c.loop-case.case-index c.case-item.result c.get-case-items.ensures c.loop-case-test.true c.case-item.is c.requires.split.places in
    subst (λ (l : List ℕ). All (λ k. k < length c.get.result.now) l) (sym c.deref.ensures.value) (subst (λ (l : List Atom). All (λ k. k < length l) c.case-item.result.items) (sym c.get.ensures) h)

pub returns-in-Err-clause-refused : goal.returns-in-Err-clause-refused
returns-in-Err-clause-refused c =
    let p : c.cert-item.result.part ≡ c.args.obligation.now.part = search rules in
    let n : c.cert-item.result.number ≡ c.loop-case.number = search rules in
    λ ds _. wrong_one (places_for c.args.counts) _ _ c.args.certs.now _ _ c.cert-item.result (drop 1 c.loop-case.left.now) c.wrong.result c.in-Err.error
    (at_case c.args.obligation.now.part c.args.obligation.now.atoms c.loop-case.number c.get-case-items.result.now c.loop-case.case-index c.case-item.result ds c.loop-case-test.true c.case-item.is)
    (subst (λ (cs : List Cert). LeadsTo (places_for c.args.counts) (numbered c.args.obligation.now.part c.args.obligation.now.atoms 1 (lists c.args.obligation.now.cases) ++ ds) c.args.certs.now (numbered c.args.obligation.now.part c.args.obligation.now.atoms c.loop-case.number (lists (drop c.loop-case.case-index c.get-case-items.result.now)) ++ ds) cs)
    (first_and_rest c.loop-case.left.now c.cert-item.result c.in-len1-up.len_at_least c.cert-item.is) (c.loop-case.invariant.leads ds))
    (record { part = p; number = n })
    (lent (λ ms ps. Refuses (places_for c.args.counts) (labelled ms ps) c.cert-item.result.terms c.in-Err.error) c.args.obligation.now.atoms c.get.result.now c.case-item.result.items c.deref.result.now c.get.ensures c.deref.ensures.value c.in-Err.ensures.refused)
    c.wrong.ensures

pub loop-case-preserved : goal.loop-case-preserved
loop-case-preserved c =
    let p : c.cert-item.result.part ≡ c.args.obligation.now.part = search rules in
    let n : c.cert-item.result.number ≡ c.loop-case.number = search rules in
    let made = c.in_default-refutes.ensures in
    record {
      number_is = omega (arith, c.loop-case.invariant.number_is);
      certs = all_behind (places_for c.args.counts) c.loop-case.left.now c.behind-left.result.now c.behind-left.ensures c.loop-case.invariant.certs;
      leads = λ ds. step (places_for c.args.counts) c.args.obligation.now.part c.args.obligation.now.atoms _ c.args.certs.now c.loop-case.left.now c.behind-left.result.now c.loop-case.number c.get-case-items.result.now c.loop-case.case-index c.case-item.result c.cert-item.result ds c.loop-case-test.true c.case-item.is c.in-len1-up.len_at_least c.cert-item.is c.behind-left.ensures (c.loop-case.invariant.leads ds)
          (record {
            is_for = record { part = p; number = n };
            refutes = lent (λ ms ps. Refutes (places_for c.args.counts) (labelled ms ps) c.cert-item.result.terms) c.args.obligation.now.atoms c.get.result.now c.case-item.result.items c.deref.result.now c.get.ensures c.deref.ensures.value made.refutes;
            within = lent (λ ms ps. is_within_bounds (places_for c.args.counts) (labelled ms ps) c.cert-item.result.terms ≡ true) c.args.obligation.now.atoms c.get.result.now c.case-item.result.items c.deref.result.now c.get.ensures c.deref.ensures.value made.within;
          })
          (lent (λ ms ps. (x : Point) → case_holds ms x ps ≡ false) c.args.obligation.now.atoms c.get.result.now c.case-item.result.items c.deref.result.now c.get.ensures c.deref.ensures.value made.sound);
    }
