use Rattle.std.proofs.Common.{◌<◌, ◌≤◌, ◌^◌, List, length, map, refl, sym, subst}
use Rattle.std.proofs.lemmas.Result.{err_from_is_err_and}
use Rattle.vp_terms.specs.Places.{place_count}
use Rattle.vp_terms.specs.declared.package.Part.TheVariants as part
use Rattle.vp_poly.specs.Places.{places_for}
use Rattle.vp_logic.specs.Cases.{part_count}
use Rattle.vp_logic.specs.Tree.{Tree, all_atoms, tree}
use Rattle.vp_monitor.specs.Obligations.{RefusesCases, TellsCases}
use Rattle.vp_monitor.proofs.Bounding.{Bounds, fallback_few, init_few, safe_few, step_few}
use Rattle.vp_monitor.proofs.Four.{fallback_refuses, few_cases, four_are, four_few, four_small, init_refuses, part_lists, refused_so, safe_refuses, small_atoms, step_refuses, valid_counts}
use Rattle.vp_monitor.proofs.splitting.obligations.Goals as goal

pub step_parts-requires : goal.step_parts-requires
step_parts-requires c = valid_counts c.args.pkg.now c.args.m.now.counts c.requires.good c.requires.monitors.places

pub fallback_parts-requires-clause-valid : goal.fallback_parts-requires-clause-valid
fallback_parts-requires-clause-valid c = valid_counts c.args.pkg.now c.args.m.now.counts c.requires.good c.requires.monitors.places

pub obligation-requires : goal.obligation-requires
obligation-requires c =
    let law : Bounds = record {
      normal = c.normal_forms_have_few_atoms.ensures.normal;
      negates = c.normal_forms_have_few_atoms.ensures.negated;
      renamed = c.normal_forms_have_few_atoms.ensures.renamed;
      path_count = c.paths_are_bounded.ensures.count;
      path_atoms = c.paths_are_bounded.ensures.atoms;
      way_counts = c.ways_are_counted.ensures;
    } in
    subst (λ (ts : List Tree). length (all_atoms ts) < 2 ^ 32) (sym c.in_ok-of_init.ensures.parts) (init_few law c.args.pkg.now c.args.m.now c.requires.good c.requires.monitors c.requires.passes)

pub obligation-requires-2 : goal.obligation-requires-2
obligation-requires-2 c =
    let law : Bounds = record {
      normal = c.normal_forms_have_few_atoms.ensures.normal;
      negates = c.normal_forms_have_few_atoms.ensures.negated;
      renamed = c.normal_forms_have_few_atoms.ensures.renamed;
      path_count = c.paths_are_bounded.ensures.count;
      path_atoms = c.paths_are_bounded.ensures.atoms;
      way_counts = c.ways_are_counted.ensures;
    } in
    subst (λ (ts : List Tree). length (all_atoms ts) < 2 ^ 32) (sym c.in_ok-of_safe.ensures.parts) (safe_few law c.args.pkg.now c.args.m.now c.requires.good c.requires.monitors c.requires.passes)

pub obligation-requires-3 : goal.obligation-requires-3
obligation-requires-3 c =
    let law : Bounds = record {
      normal = c.normal_forms_have_few_atoms.ensures.normal;
      negates = c.normal_forms_have_few_atoms.ensures.negated;
      renamed = c.normal_forms_have_few_atoms.ensures.renamed;
      path_count = c.paths_are_bounded.ensures.count;
      path_atoms = c.paths_are_bounded.ensures.atoms;
      way_counts = c.ways_are_counted.ensures;
    } in
    step_few law c.args.pkg.now c.args.m.now c.requires.good c.requires.monitors c.requires.passes (map tree c.in_ok-of_step.of_step.items) c.in_ok-of_step.ensures.parts

pub obligation-requires-4 : goal.obligation-requires-4
obligation-requires-4 c =
    let law : Bounds = record {
      normal = c.normal_forms_have_few_atoms.ensures.normal;
      negates = c.normal_forms_have_few_atoms.ensures.negated;
      renamed = c.normal_forms_have_few_atoms.ensures.renamed;
      path_count = c.paths_are_bounded.ensures.count;
      path_atoms = c.paths_are_bounded.ensures.atoms;
      way_counts = c.ways_are_counted.ensures;
    } in
    fallback_few law c.args.pkg.now c.args.m.now c.requires.good c.requires.monitors c.requires.passes (map tree c.in_ok-of_fallback.of_fallback.items) c.in_ok-of_fallback.ensures.parts

pub returns-in_err-init-clause-refused : goal.returns-in_err-init-clause-refused
returns-in_err-init-clause-refused c =
    let q = err_from_is_err_and c.from_residual-in_err-init.result c.from_residual-in_err-init.ensures.1 in
    let l = part_lists c.args.pkg.now c.args.m.now (map tree c.in_ok-of_step.of_step.items) (map tree c.in_ok-of_fallback.of_fallback.items) c.in_ok-of_step.ensures.parts c.in_ok-of_fallback.ensures.parts in
    refused_so (RefusesCases c.args.pkg.now c.args.m.now) c.from_residual-in_err-init.result q.0 c.in_err-init.field-0.0 q.1 q.2
    (init_refuses c.args.pkg.now c.args.m.now l c.in_err-init.field-0.0 (subst (λ (ts : List Tree). TellsCases part.Init ts c.in_err-init.field-0.0) c.in_ok-of_init.ensures.parts c.in_err-init.ensures.refused))

pub returns-in_err-safe-clause-refused : goal.returns-in_err-safe-clause-refused
returns-in_err-safe-clause-refused c =
    let q = err_from_is_err_and c.from_residual-in_err-safe.result c.from_residual-in_err-safe.ensures.1 in
    let l = part_lists c.args.pkg.now c.args.m.now (map tree c.in_ok-of_step.of_step.items) (map tree c.in_ok-of_fallback.of_fallback.items) c.in_ok-of_step.ensures.parts c.in_ok-of_fallback.ensures.parts in
    refused_so (RefusesCases c.args.pkg.now c.args.m.now) c.from_residual-in_err-safe.result q.0 c.in_err-safe.field-0.0 q.1 q.2
    (safe_refuses c.args.pkg.now c.args.m.now l (subst (λ (ts : List Tree). part_count ts ≤ 256) c.in_ok-of_init.ensures.parts (c.in_ok-init.ensures.few refl)) c.in_err-safe.field-0.0 (subst (λ (ts : List Tree). TellsCases part.Safe ts c.in_err-safe.field-0.0) c.in_ok-of_safe.ensures.parts c.in_err-safe.ensures.refused))

pub returns-in_err-step-clause-refused : goal.returns-in_err-step-clause-refused
returns-in_err-step-clause-refused c =
    let q = err_from_is_err_and c.from_residual-in_err-step.result c.from_residual-in_err-step.ensures.1 in
    let l = part_lists c.args.pkg.now c.args.m.now (map tree c.in_ok-of_step.of_step.items) (map tree c.in_ok-of_fallback.of_fallback.items) c.in_ok-of_step.ensures.parts c.in_ok-of_fallback.ensures.parts in
    refused_so (RefusesCases c.args.pkg.now c.args.m.now) c.from_residual-in_err-step.result q.0 c.in_err-step.field-0.0 q.1 q.2
    (step_refuses c.args.pkg.now c.args.m.now l (subst (λ (ts : List Tree). part_count ts ≤ 256) c.in_ok-of_init.ensures.parts (c.in_ok-init.ensures.few refl)) (subst (λ (ts : List Tree). part_count ts ≤ 256) c.in_ok-of_safe.ensures.parts (c.in_ok-safe.ensures.few refl)) c.in_err-step.field-0.0 c.in_err-step.ensures.refused)

pub returns-in_err-fallback-clause-refused : goal.returns-in_err-fallback-clause-refused
returns-in_err-fallback-clause-refused c =
    let q = err_from_is_err_and c.from_residual-in_err-fallback.result c.from_residual-in_err-fallback.ensures.1 in
    let l = part_lists c.args.pkg.now c.args.m.now (map tree c.in_ok-of_step.of_step.items) (map tree c.in_ok-of_fallback.of_fallback.items) c.in_ok-of_step.ensures.parts c.in_ok-of_fallback.ensures.parts in
    refused_so (RefusesCases c.args.pkg.now c.args.m.now) c.from_residual-in_err-fallback.result q.0 c.in_err-fallback.field-0.0 q.1 q.2
    (fallback_refuses c.args.pkg.now c.args.m.now l (subst (λ (ts : List Tree). part_count ts ≤ 256) c.in_ok-of_init.ensures.parts (c.in_ok-init.ensures.few refl)) (subst (λ (ts : List Tree). part_count ts ≤ 256) c.in_ok-of_safe.ensures.parts (c.in_ok-safe.ensures.few refl)) (c.in_ok-step.ensures.few refl) c.in_err-fallback.field-0.0 c.in_err-fallback.ensures.refused)

pub returns-clause-exact : goal.returns-clause-exact
returns-clause-exact c =
    four_are c.args.pkg.now c.args.m.now (map tree c.in_ok-of_init.of_init.items) (map tree c.in_ok-of_safe.of_safe.items) (map tree c.in_ok-of_step.of_step.items) (map tree c.in_ok-of_fallback.of_fallback.items)
    c.in_ok-init.init c.in_ok-safe.safe c.in_ok-step.step c.in_ok-fallback.fallback c.in_ok-all.all.items c.in_ok-of_init.ensures.parts c.in_ok-of_safe.ensures.parts c.in_ok-of_step.ensures.parts c.in_ok-of_fallback.ensures.parts
    c.in_ok-init.ensures.exact c.in_ok-safe.ensures.exact c.in_ok-step.ensures.exact c.in_ok-fallback.ensures.exact c.in_ok-all.ensures

pub returns-clause-few : goal.returns-clause-few
returns-clause-few c =
    four_few c.in_ok-init.init c.in_ok-safe.safe c.in_ok-step.step c.in_ok-fallback.fallback c.in_ok-all.all.items c.in_ok-all.ensures
    (few_cases c.cases_split_parts.ensures.counted part.Init (map tree c.in_ok-of_init.of_init.items) c.in_ok-init.init c.in_ok-init.ensures.exact (c.in_ok-init.ensures.few refl))
    (few_cases c.cases_split_parts.ensures.counted part.Safe (map tree c.in_ok-of_safe.of_safe.items) c.in_ok-safe.safe c.in_ok-safe.ensures.exact (c.in_ok-safe.ensures.few refl))
    (few_cases c.cases_split_parts.ensures.counted part.Step (map tree c.in_ok-of_step.of_step.items) c.in_ok-step.step c.in_ok-step.ensures.exact (c.in_ok-step.ensures.few refl))
    (few_cases c.cases_split_parts.ensures.counted part.Fallback (map tree c.in_ok-of_fallback.of_fallback.items) c.in_ok-fallback.fallback c.in_ok-fallback.ensures.exact (c.in_ok-fallback.ensures.few refl))

pub returns-clause-inductive : goal.returns-clause-inductive
returns-clause-inductive c =
    λ flow mean never.
    c.unmet_obligations_make_invariants_inductive.ensures flow c.args.pkg.now c.args.m.now c.in_ok-all.all.items c.requires.good c.requires.monitors c.requires.passes c.requires.sized mean
    (four_are c.args.pkg.now c.args.m.now (map tree c.in_ok-of_init.of_init.items) (map tree c.in_ok-of_safe.of_safe.items) (map tree c.in_ok-of_step.of_step.items) (map tree c.in_ok-of_fallback.of_fallback.items)
    c.in_ok-init.init c.in_ok-safe.safe c.in_ok-step.step c.in_ok-fallback.fallback c.in_ok-all.all.items c.in_ok-of_init.ensures.parts c.in_ok-of_safe.ensures.parts c.in_ok-of_step.ensures.parts c.in_ok-of_fallback.ensures.parts
    c.in_ok-init.ensures.exact c.in_ok-safe.ensures.exact c.in_ok-step.ensures.exact c.in_ok-fallback.ensures.exact c.in_ok-all.ensures)
    never

pub returns-clause-claim : goal.returns-clause-claim
returns-clause-claim c =
    λ flow mean never.
    c.inductive_models_keep_their_claim.ensures flow c.args.pkg.now
    (c.unmet_obligations_make_invariants_inductive.ensures flow c.args.pkg.now c.args.m.now c.in_ok-all.all.items c.requires.good c.requires.monitors c.requires.passes c.requires.sized mean
    (four_are c.args.pkg.now c.args.m.now (map tree c.in_ok-of_init.of_init.items) (map tree c.in_ok-of_safe.of_safe.items) (map tree c.in_ok-of_step.of_step.items) (map tree c.in_ok-of_fallback.of_fallback.items)
    c.in_ok-init.init c.in_ok-safe.safe c.in_ok-step.step c.in_ok-fallback.fallback c.in_ok-all.all.items c.in_ok-of_init.ensures.parts c.in_ok-of_safe.ensures.parts c.in_ok-of_step.ensures.parts c.in_ok-of_fallback.ensures.parts
    c.in_ok-init.ensures.exact c.in_ok-safe.ensures.exact c.in_ok-step.ensures.exact c.in_ok-fallback.ensures.exact c.in_ok-all.ensures)
    never)

pub returns-clause-atoms : goal.returns-clause-atoms
returns-clause-atoms c =
    let n = place_count (places_for c.args.m.now.counts) in
    four_small n c.in_ok-init.init c.in_ok-safe.safe c.in_ok-step.step c.in_ok-fallback.fallback c.in_ok-all.all.items c.in_ok-all.ensures
    (small_atoms c.conjuncts_stay_small.ensures.atoms c.cases_split_parts.ensures.places n part.Init (map tree c.in_ok-of_init.of_init.items) c.in_ok-init.init c.in_ok-init.ensures.exact (c.in_ok-of_init.ensures.sized c.requires.sized))
    (small_atoms c.conjuncts_stay_small.ensures.atoms c.cases_split_parts.ensures.places n part.Safe (map tree c.in_ok-of_safe.of_safe.items) c.in_ok-safe.safe c.in_ok-safe.ensures.exact (c.in_ok-of_safe.ensures.sized c.requires.sized))
    (small_atoms c.conjuncts_stay_small.ensures.atoms c.cases_split_parts.ensures.places n part.Step (map tree c.in_ok-of_step.of_step.items) c.in_ok-step.step c.in_ok-step.ensures.exact (c.in_ok-of_step.ensures.sized c.requires.sized))
    (small_atoms c.conjuncts_stay_small.ensures.atoms c.cases_split_parts.ensures.places n part.Fallback (map tree c.in_ok-of_fallback.of_fallback.items) c.in_ok-fallback.fallback c.in_ok-fallback.ensures.exact (c.in_ok-of_fallback.ensures.sized c.requires.sized))
