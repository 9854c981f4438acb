-- A certificate has one refusal, and none where it refutes its case within the bounds.
use Rattle.std.proofs.Common.{◌≡◌, ◌≢◌, Bool, true, false, List, refl, sym, ap, ◌∙◌, subst, arith, rules, ℤ, pos}
use Rattle.std.specs.Cmp.{IsTotalOrder}
use Rattle.std.specs.Cmp.Lexicographic.{slice_cmp}
use Rattle.std.specs.Cmp.Rules.{comparing}
use Rattle.std.specs.Ordering.{nat_cmp, ordering_reverse, ordering_then}
use Rattle.std.specs.Prelude.{sum as sum_of}
use Rattle.std.specs.declared.cmp.Ordering.{Ordering}
use Rattle.std.specs.declared.cmp.Ordering.TheVariants.{Less, Equal, Greater}
use Rattle.std.proofs.lemmas.Int.{ints}
use Rattle.std.proofs.lemmas.Map.Lookups.{exact_bytes}
use Rattle.vp_terms.specs.Rational.{Equals, Rational, whole}
use Rattle.vp_terms.specs.declared.expr.Places.{Places}
use Rattle.vp_terms.specs.declared.package.CertTerm.{CertTerm}
use Rattle.vp_poly.specs.declared.mono.Mono.{Mono}
use Rattle.vp_poly.specs.Poly.{Powers, mono_cmp}
use Rattle.vp_cert.specs.Bounds.{is_within_bounds}
use Rattle.vp_cert.specs.Certificate.{LabelAtoms, Refutes, total_coefficients}
use Rattle.vp_cert.specs.Refusals.{IsFirstLeft, Refuses}
use Rattle.vp_cert.specs.declared.error.CertErr.{CertErr}
use Rattle.vp_cert.specs.declared.error.CertErr.TheVariants.{Label, NotStrict, Wide, NotZero, Memory}

-- what is known of rationals
pub record Known : Type 0 where
  pub symmetric : (q r : Rational) → Equals q r → Equals r q
  pub transitive : (q r s : Rational) → Equals q r → Equals r s → Equals q s

clash : (b : Bool) → b ≡ true → b ≡ false → ⊥
clash b t f = absurd (cc)

-- ---- monomials

mono_total : IsTotalOrder mono_cmp
mono_total = search (comparing, rules)

then_equal : (o p : Ordering) → ordering_then o p ≡ Equal → p ≡ Equal
then_equal Less p e = cc
then_equal Equal p e = e
then_equal Greater p e = cc

same_mono : (m n : Mono) → mono_cmp m n ≡ Equal → m ≡ n
same_mono m n e =
    let powers : n.powers ≡ m.powers = exact_bytes n.powers m.powers (then_equal (nat_cmp (sum_of n.powers) (sum_of m.powers)) (slice_cmp nat_cmp n.powers m.powers) e) in
    ap (λ (ps : Powers). record { powers = ps }) (sym powers)

module _ (known : Known) (p : Places) (h : LabelAtoms) (ts : List CertTerm) where
  -- a rational is one whole number at most
  one_whole : (q : Rational) (c d : ℤ) → Equals q (whole c) → Equals q (whole d) → c ≡ d
  one_whole q c d a b =
      let e = (known.transitive (whole c) q (whole d) (known.symmetric q (whole c) a) b).crossed in
      omega (arith, ints)

  behind : (m n : Mono) (c d : ℤ) → IsFirstLeft p h ts m c → IsFirstLeft p h ts n d → mono_cmp m n ≡ Less → ⊥
  behind m n c d a b l = a.some (one_whole (total_coefficients p h ts m.powers) c (pos 0) a.coefficient (b.before m l))

  one_left : (m n : Mono) (c d : ℤ) → IsFirstLeft p h ts m c → IsFirstLeft p h ts n d → NotZero m c ≡ NotZero n d
  one_left m n c d a b = at (mono_cmp m n) refl
    where
      at : (o : Ordering) → mono_cmp m n ≡ o → NotZero m c ≡ NotZero n d
      at Less e = absurd (behind m n c d a b e)
      at Equal e =
          let same = same_mono m n e in
          let there = b.coefficient in
          ap (λ (i : Mono). NotZero i c) same
          ∙ ap (NotZero n) (one_whole (total_coefficients p h ts n.powers) c d (subst (λ (i : Mono). Equals (total_coefficients p h ts i.powers) (whole c)) same a.coefficient) there)
      at Greater e = absurd (behind n m d c b a (mono_total.antisymm n m ∙ ap ordering_reverse e))

  pub refuted_alone : (e : CertErr) → Refutes p h ts → is_within_bounds p h ts ≡ true → Refuses p h ts e → e ≡ Memory
  refuted_alone Label r w f = absurd (clash _ r.labels f)
  refuted_alone NotStrict r w f = absurd (clash _ r.strict f.1)
  refuted_alone Wide r w f = absurd (clash _ w f.2)
  refuted_alone (NotZero m c) r w f = absurd (f.1.some (one_whole (total_coefficients p h ts m.powers) c (pos 0) f.1.coefficient (r.zero m.powers)))
  refuted_alone Memory r w f = refl

  pub one_refusal : (e f : CertErr) → e ≢ Memory → f ≢ Memory → Refuses p h ts e → Refuses p h ts f → e ≡ f
  one_refusal Label Label u v a b = refl
  one_refusal Label NotStrict u v a b = absurd (clash _ b.0 a)
  one_refusal Label Wide u v a b = absurd (clash _ b.0 a)
  one_refusal Label (NotZero n d) u v a b = absurd (clash _ b.0.labels a)
  one_refusal NotStrict Label u v a b = absurd (clash _ a.0 b)
  one_refusal NotStrict NotStrict u v a b = refl
  one_refusal NotStrict Wide u v a b = absurd (clash _ b.1 a.1)
  one_refusal NotStrict (NotZero n d) u v a b = absurd (clash _ b.0.strict a.1)
  one_refusal Wide Label u v a b = absurd (clash _ a.0 b)
  one_refusal Wide NotStrict u v a b = absurd (clash _ a.1 b.1)
  one_refusal Wide Wide u v a b = refl
  one_refusal Wide (NotZero n d) u v a b = absurd (clash _ b.0.within a.2)
  one_refusal (NotZero m c) Label u v a b = absurd (clash _ a.0.labels b)
  one_refusal (NotZero m c) NotStrict u v a b = absurd (clash _ a.0.strict b.1)
  one_refusal (NotZero m c) Wide u v a b = absurd (clash _ a.0.within b.2)
  one_refusal (NotZero m c) (NotZero n d) u v a b = one_left m n c d a.1 b.1
  one_refusal Memory f u v a b = absurd (u refl)
  one_refusal Label Memory u v a b = absurd (v refl)
  one_refusal NotStrict Memory u v a b = absurd (v refl)
  one_refusal Wide Memory u v a b = absurd (v refl)
  one_refusal (NotZero m c) Memory u v a b = absurd (v refl)
