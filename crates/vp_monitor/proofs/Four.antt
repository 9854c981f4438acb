-- The four obligations and their refusals.
use Rattle.std.proofs.Common.{◌≡◌, inl, inr, ℕ, ◌<◌, ◌≤◌, ◌-◌, ◌^◌, List, [], ◌∷◌, length, refl, sym, ap, ◌∙◌, subst, All}
use Rattle.std.specs.Prelude.{min, Result, Err, IfErr}
use Rattle.std.proofs.lemmas.List.Elements.{All-cons, All-nil}
use Rattle.vp_words.specs.declared.record.Counts.{Counts}
use Rattle.vp_words.specs.Record.{IsValid}
use Rattle.vp_terms.specs.Places.{place_count}
use Rattle.vp_terms.specs.WellFormed.{IsWellFormed}
use Rattle.vp_terms.specs.declared.expr.Places.{Places}
use Rattle.vp_terms.specs.declared.package.Part.{Part}
use Rattle.vp_terms.specs.declared.package.Part.TheVariants as part
use Rattle.vp_terms.specs.declared.package.Package.{Package}
use Rattle.vp_poly.specs.Places.{places_for}
use Rattle.vp_logic.specs.declared.norm.Atom.{Atom}
use Rattle.vp_logic.specs.Cases.{AreWithin, Case, lists, part_cases_from, part_count}
use Rattle.vp_logic.specs.Sized.{EachIsSized, IsSizedAtom}
use Rattle.vp_logic.specs.Tree.{Tree, all_atoms}
use Rattle.vp_monitor.specs.declared.error.MonErr.{MonErr}
use Rattle.vp_monitor.specs.declared.error.MonErr.TheVariants.{Wide, Paths, Hidden, NotLinear, Cycle, Fraction, Cases, Memory}
use Rattle.vp_monitor.specs.declared.types.Monitors.{Monitors}
use Rattle.vp_monitor.specs.declared.types.Obligation.{Obligation}
use Rattle.vp_flow.specs.Sides.{model}
use Rattle.vp_monitor.specs.Obligations.{AreFallbackParts, AreObligations, AreObligationsOf, AreStepParts, HasFewCases, HasSmallAtoms, IsFirstOver, IsObligation, PartLists, RefusesCases, TellsCases, all_parts, init_parts, parts_for, safe_parts}

module _ (pkg : Package) (m : Monitors) (l : PartLists pkg m) where
  refuses : (q : Part) → ((count : ℕ) → 256 < part_count (parts_for l q) → count ≡ min (part_count (parts_for l q)) (2 ^ 64 - 1) → IsFirstOver (parts_for l) all_parts q count) → (e : MonErr) → TellsCases q (parts_for l q) e → RefusesCases pkg m e
  refuses q f (Wide place) h = absurd h
  refuses q f (Paths count) h = absurd h
  refuses q f (Hidden name) h = absurd h
  refuses q f (NotLinear name) h = absurd h
  refuses q f (Cycle names) h = absurd h
  refuses q f (Fraction name) h = absurd h
  refuses q f (Cases p count) h = (l, subst (λ (r : Part). IsFirstOver (parts_for l) all_parts r count) (sym h.0) (f count h.1 h.2))
  refuses q f Memory h = tt

  pub init_refuses : (e : MonErr) → TellsCases part.Init (parts_for l part.Init) e → RefusesCases pkg m e
  init_refuses e h = refuses part.Init (λ count a b. inl (refl, a, b)) e h

  pub safe_refuses : part_count (parts_for l part.Init) ≤ 256 → (e : MonErr) → TellsCases part.Safe (parts_for l part.Safe) e → RefusesCases pkg m e
  safe_refuses i e h = refuses part.Safe (λ count a b. inr (i, inl (refl, a, b))) e h

  pub step_refuses : part_count (parts_for l part.Init) ≤ 256 → part_count (parts_for l part.Safe) ≤ 256 → (e : MonErr) → TellsCases part.Step l.step e → RefusesCases pkg m e
  step_refuses i s e h = refuses part.Step (λ count a b. inr (i, inr (s, inl (refl, a, b)))) e h

  pub fallback_refuses : part_count (parts_for l part.Init) ≤ 256 → part_count (parts_for l part.Safe) ≤ 256 → part_count l.step ≤ 256 → (e : MonErr) → TellsCases part.Fallback l.fallback e → RefusesCases pkg m e
  fallback_refuses i s t e h = refuses part.Fallback (λ count a b. inr (i, inr (s, inr (t, inl (refl, a, b))))) e h

pub small_atoms : ((n : ℕ) (ts : List Tree) → EachIsSized n ts → All (IsSizedAtom n) (all_atoms ts)) → ((ts : List Tree) → AreWithin (length (all_atoms ts)) (part_cases_from 0 ts)) →
    (n : ℕ) (q : Part) (ts : List Tree) (o : Obligation) → IsObligation q ts o → EachIsSized n ts → HasSmallAtoms n o
small_atoms sized within n q ts o h s = record {
  sized = subst (λ (atoms : List Atom). All (IsSizedAtom n) atoms) (sym h.atoms) (sized n ts s);
  within = subst (λ (atoms : List Atom). AreWithin (length atoms) (lists o.cases)) (sym h.atoms) (subst (λ (cs : List Case). AreWithin (length (all_atoms ts)) cs) (sym h.cases) (within ts));
}

pub few_cases : ((k : ℕ) (ts : List Tree) → length (part_cases_from k ts) ≡ part_count ts) → (q : Part) (ts : List Tree) (o : Obligation) → IsObligation q ts o → part_count ts ≤ 256 → HasFewCases o
few_cases counted q ts o h n = subst (λ (k : ℕ). k ≤ 256) (sym (ap length h.cases ∙ counted 0 ts)) n

-- ---- counts, parts and obligations of a package

pub valid_counts : (pkg : Package) (c : Counts) → IsWellFormed pkg → places_for c ≡ model pkg → IsValid c
valid_counts pkg c good same = (
  subst (λ (p : Places). 1 ≤ p.states) (sym same) good.names.some_state,
  subst (λ (p : Places). 1 ≤ p.controls) (sym same) good.names.some_control,
  subst (λ (p : Places). place_count p ≤ 32) (sym same) good.names.few,
)

abbrev pub part_lists : (pkg : Package) (m : Monitors) (step fallback : List Tree) → AreStepParts m step → AreFallbackParts pkg m fallback → PartLists pkg m
part_lists pkg m step fallback s f = record { step = step; fallback = fallback; are_step = s; are_fallback = f }

pub four_are : (pkg : Package) (m : Monitors) (init safe step fallback : List Tree) (a b c d : Obligation) (all : List Obligation) → init ≡ init_parts m → safe ≡ safe_parts m → AreStepParts m step → AreFallbackParts pkg m fallback →
    IsObligation part.Init init a → IsObligation part.Safe safe b → IsObligation part.Step step c → IsObligation part.Fallback fallback d → all ≡ a ∷ b ∷ c ∷ d ∷ [] → AreObligations pkg m all
four_are pkg m init safe step fallback a b c d all e f s g i j k l q = record {
  lists_of = part_lists pkg m step fallback s g;
  are = subst (AreObligationsOf (parts_for (part_lists pkg m step fallback s g)) all_parts) (sym q)
      (subst (λ (ts : List Tree). IsObligation part.Init ts a) e i, (subst (λ (ts : List Tree). IsObligation part.Safe ts b) f j, (k, (l, tt))));
}

pub four_few : (a b c d : Obligation) (all : List Obligation) → all ≡ a ∷ b ∷ c ∷ d ∷ [] → HasFewCases a → HasFewCases b → HasFewCases c → HasFewCases d → All HasFewCases all
four_few a b c d all q i j k l =
    let P : Obligation → Type 0 = HasFewCases in
    subst (All P) (sym q) (All-cons P a (b ∷ c ∷ d ∷ []) i (All-cons P b (c ∷ d ∷ []) j (All-cons P c (d ∷ []) k (All-cons P d [] l (All-nil P)))))

pub four_small : (n : ℕ) (a b c d : Obligation) (all : List Obligation) → all ≡ a ∷ b ∷ c ∷ d ∷ [] → HasSmallAtoms n a → HasSmallAtoms n b → HasSmallAtoms n c → HasSmallAtoms n d → All (HasSmallAtoms n) all
four_small n a b c d all q i j k l =
    let P : Obligation → Type 0 = HasSmallAtoms n in
    subst (All P) (sym q) (All-cons P a (b ∷ c ∷ d ∷ []) i (All-cons P b (c ∷ d ∷ []) j (All-cons P c (d ∷ []) k (All-cons P d [] l (All-nil P)))))

-- ---- refusals that are passed on

pub refused_so : {T E : Type 0} (P : E → Type 0) (r : Result T E) (x y : E) → r ≡ Err x → x ≡ y → P y → IfErr r P
refused_so {T} {E} P r x y q e h = subst (λ (s : Result T E). IfErr s P) (sym q) (subst P (sym e) h)
