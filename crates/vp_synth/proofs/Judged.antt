-- Certificates with the same trees are judged alike, and in one way.
use Rattle.std.proofs.Common.{◌≡◌, ◌≢◌, inl, inr, ℕ, true, List, [], ◌∷◌, map, drop, get_or, sym, ap, ◌∙◌}
use Rattle.vp_terms.specs.Packages.{CertTree, cert_tree, term_tree}
use Rattle.vp_terms.specs.declared.expr.Places.{Places}
use Rattle.vp_terms.specs.declared.package.Cert.{Cert}
use Rattle.vp_terms.specs.declared.package.CertTerm.{CertTerm}
use Rattle.vp_terms.specs.declared.package.Part.{Part}
use Rattle.vp_cert.specs.Bounds.{is_within_bounds}
use Rattle.vp_cert.specs.Certificate.{LabelAtoms, Refutes, labelled}
use Rattle.vp_cert.specs.Refusals.{Refuses}
use Rattle.vp_cert.specs.declared.error.CertErr.{CertErr}
use Rattle.vp_cert.specs.declared.error.CertErr.TheVariants as err
use Rattle.vp_synth.specs.Certifying.{Certifies, IsFor, IsRefuted, NumberedCase, RefusesCerts, refused}
use Rattle.vp_synth.specs.declared.refusal.Refusal.{Refusal}
use Rattle.vp_synth.specs.declared.refusal.Refusal.TheVariants.{Memory}

-- what is known of one certificate
pub record CertLaws : Type 0 where
  pub refutes : (p : Places) (h : LabelAtoms) (ts us : List CertTerm) → map term_tree ts ≡ map term_tree us → Refutes p h ts → Refutes p h us
  pub bounds : (p : Places) (h : LabelAtoms) (ts us : List CertTerm) → map term_tree ts ≡ map term_tree us → is_within_bounds p h ts ≡ is_within_bounds p h us
  pub refuses : (p : Places) (h : LabelAtoms) (ts us : List CertTerm) (e : CertErr) → map term_tree ts ≡ map term_tree us → Refuses p h ts e → Refuses p h us e
  pub alone : (p : Places) (h : LabelAtoms) (ts : List CertTerm) (e : CertErr) → Refutes p h ts → is_within_bounds p h ts ≡ true → Refuses p h ts e → e ≡ err.Memory
  pub one : (p : Places) (h : LabelAtoms) (ts : List CertTerm) (e f : CertErr) → e ≢ err.Memory → f ≢ err.Memory → Refuses p h ts e → Refuses p h ts f → e ≡ f

-- ---- one certificate

terms_alike : (c u : Cert) → cert_tree c ≡ cert_tree u → map term_tree c.terms ≡ map term_tree u.terms
terms_alike c u e = ap (λ (t : CertTree). t.terms) e

is_for : (d : NumberedCase) (c u : Cert) → cert_tree c ≡ cert_tree u → IsFor d c → IsFor d u
is_for d c u e h = record {
  part = sym (ap (λ (t : CertTree). t.part) e) ∙ h.part;
  number = sym (ap (λ (t : CertTree). t.number) e) ∙ h.number;
}

-- want of memory is no refusal of a certificate
not_memory : (part : Part) (n : ℕ) (e : CertErr) (r : Refusal) → r ≢ Memory → r ≡ refused part n e → e ≢ err.Memory
not_memory part n e r h q = λ m. h (q ∙ ap (refused part n) m)

never_wrong : CertLaws → (p : Places) (d : NumberedCase) (c u : Cert) (e : CertErr) (r : Refusal) → cert_tree c ≡ cert_tree u → r ≢ Memory → IsRefuted p d c → Refuses p (labelled d.atoms d.places) u.terms e → r ≡ refused d.part d.number e → ⊥
never_wrong l p d c u e r q n h k m =
    not_memory d.part d.number e r n m
    (l.alone p (labelled d.atoms d.places) u.terms e (l.refutes p (labelled d.atoms d.places) c.terms u.terms (terms_alike c u q) h.refutes) (sym (l.bounds p (labelled d.atoms d.places) c.terms u.terms (terms_alike c u q)) ∙ h.within) k)

-- ---- lists of certificates

same_head : (c u : Cert) (cs us : List Cert) → map cert_tree (c ∷ cs) ≡ map cert_tree (u ∷ us) → cert_tree c ≡ cert_tree u
same_head c u cs us e = ap (λ (l : List CertTree). get_or l 0 (cert_tree c)) e

same_tail : (c u : Cert) (cs us : List Cert) → map cert_tree (c ∷ cs) ≡ map cert_tree (u ∷ us) → map cert_tree cs ≡ map cert_tree us
same_tail c u cs us e = ap (λ (l : List CertTree). drop 1 l) e

-- at the first case
one_first : CertLaws → (p : Places) (d : NumberedCase) (ds : List NumberedCase) (c u : Cert) (cs us : List Cert) (r s : Refusal) → cert_tree c ≡ cert_tree u → r ≢ Memory → s ≢ Memory → (RefusesCerts p ds cs r → RefusesCerts p ds us s → r ≡ s) → RefusesCerts p (d ∷ ds) (c ∷ cs) r → RefusesCerts p (d ∷ ds) (u ∷ us) s → r ≡ s
one_first l p d ds c u cs us r s q n m again (inl h) (inl k) = h.1 ∙ sym k.1
one_first l p d ds c u cs us r s q n m again (inl h) (inr (inl k)) = absurd (h.0 (is_for d u c (sym q) k.0))
one_first l p d ds c u cs us r s q n m again (inl h) (inr (inr k)) = absurd (h.0 (is_for d u c (sym q) k.0.is_for))
one_first l p d ds c u cs us r s q n m again (inr (inl h)) (inl k) = absurd (k.0 (is_for d c u q h.0))
one_first l p d ds c u cs us r s q n m again (inr (inl h)) (inr (inl k)) =
    let b = labelled d.atoms d.places in
    let e : h.1.0 ≡ k.1.0 = l.one p b u.terms h.1.0 k.1.0 (not_memory d.part d.number h.1.0 r n h.1.2) (not_memory d.part d.number k.1.0 s m k.1.2) (l.refuses p b c.terms u.terms h.1.0 (terms_alike c u q) h.1.1) k.1.1 in
    h.1.2 ∙ (ap (refused d.part d.number) e ∙ sym k.1.2)
one_first l p d ds c u cs us r s q n m again (inr (inl h)) (inr (inr k)) = absurd (never_wrong l p d u c h.1.0 r (sym q) n k.0 h.1.1 h.1.2)
one_first l p d ds c u cs us r s q n m again (inr (inr h)) (inl k) = absurd (k.0 (is_for d c u q h.0.is_for))
one_first l p d ds c u cs us r s q n m again (inr (inr h)) (inr (inl k)) = absurd (never_wrong l p d c u k.1.0 s q m h.0 k.1.1 k.1.2)
one_first l p d ds c u cs us r s q n m again (inr (inr h)) (inr (inr k)) = again h.1 k.1

pub one_refusal : CertLaws → (p : Places) (ds : List NumberedCase) (cs us : List Cert) (r s : Refusal) → map cert_tree cs ≡ map cert_tree us → r ≢ Memory → s ≢ Memory → RefusesCerts p ds cs r → RefusesCerts p ds us s → r ≡ s
one_refusal l p [] [] us r s q n m h k = absurd h
one_refusal l p [] (c ∷ cs) [] r s q n m h k = absurd k
one_refusal l p [] (c ∷ cs) (u ∷ us) r s q n m h k = h ∙ sym k
one_refusal l p (d ∷ ds) [] [] r s q n m h k = h ∙ sym k
one_refusal l p (d ∷ ds) [] (u ∷ us) r s q n m h k = absurd (cc)
one_refusal l p (d ∷ ds) (c ∷ cs) [] r s q n m h k = absurd (cc)
one_refusal l p (d ∷ ds) (c ∷ cs) (u ∷ us) r s q n m h k =
    one_first l p d ds c u cs us r s (same_head c u cs us q) n m (one_refusal l p ds cs us r s (same_tail c u cs us q) n m) h k

none_first : CertLaws → (p : Places) (d : NumberedCase) (ds : List NumberedCase) (c u : Cert) (us : List Cert) (r : Refusal) → cert_tree c ≡ cert_tree u → r ≢ Memory → (RefusesCerts p ds us r → ⊥) → IsRefuted p d c → RefusesCerts p (d ∷ ds) (u ∷ us) r → ⊥
none_first l p d ds c u us r q n again h (inl k) = k.0 (is_for d c u q h.is_for)
none_first l p d ds c u us r q n again h (inr (inl k)) = never_wrong l p d c u k.1.0 r q n h k.1.1 k.1.2
none_first l p d ds c u us r q n again h (inr (inr k)) = again k.1

pub no_refusal : CertLaws → (p : Places) (ds : List NumberedCase) (cs us : List Cert) (r : Refusal) → map cert_tree cs ≡ map cert_tree us → r ≢ Memory → Certifies p ds cs → RefusesCerts p ds us r → ⊥
no_refusal l p [] [] [] r q n h k = k
no_refusal l p [] [] (u ∷ us) r q n h k = absurd (cc)
no_refusal l p [] (c ∷ cs) us r q n h k = h
no_refusal l p (d ∷ ds) [] us r q n h k = h
no_refusal l p (d ∷ ds) (c ∷ cs) [] r q n h k = absurd (cc)
no_refusal l p (d ∷ ds) (c ∷ cs) (u ∷ us) r q n h k = none_first l p d ds c u us r (same_head c u cs us q) n (no_refusal l p ds cs us r (same_tail c u cs us q) n h.1) h.0 k
