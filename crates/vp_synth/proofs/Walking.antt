-- Cases and certificates, taken one by one.
use Rattle.std.specs.List.{All}
use Rattle.std.proofs.lemmas.List.Elements.{All-head, All-tail}
use Rattle.std.proofs.Common.{◌≡◌, inl, inr, ℕ, zero, suc, ◌+◌, ◌<◌, ◌≤◌, Vec, List, [], ◌∷◌, ◌++◌, length, get_or, drop, refl, sym, ap, ◌∙◌, subst, arith, false, drop-cons, add-one}
use Rattle.std.specs.declared.alloc.Global.{Global}
use Rattle.vp_terms.specs.declared.expr.Places.{Places}
use Rattle.vp_terms.specs.declared.package.Part.{Part}
use Rattle.vp_terms.specs.declared.package.Cert.{Cert}
use Rattle.vp_poly.specs.Value.{Point}
use Rattle.vp_logic.specs.declared.norm.Atom.{Atom}
use Rattle.vp_logic.specs.Cases.{case_holds, lists}
use Rattle.vp_cert.specs.Certificate.{labelled}
use Rattle.vp_cert.specs.Refusals.{Refuses}
use Rattle.vp_cert.specs.declared.error.CertErr.{CertErr}
use Rattle.vp_synth.specs.Certifying.{NumberedCase, RefusesCerts, IsFor, IsRefuted, all_cases, numbered, refused}
use Rattle.vp_synth.specs.Going.{IsGoodCert, LeadsTo, NeverHold}
use Rattle.vp_monitor.specs.declared.types.Obligation.{Obligation}
use Rattle.vp_synth.specs.declared.refusal.Refusal.{Refusal}
use Rattle.vp_synth.specs.declared.refusal.Refusal.TheVariants.{Cert as CertOf}
use Rattle.vp_cert.specs.declared.error.CertWhy.TheVariants.{Missing}

pub LeadsTo-refl : (p : Places) (ds : List NumberedCase) (cs : List Cert) → LeadsTo p ds cs ds cs
LeadsTo-refl p ds cs = record { certifies = λ h. h; refused = λ r h. h; never = λ x h. h }

pub LeadsTo-trans : (p : Places) (all es ds : List NumberedCase) (bs cs left : List Cert) → LeadsTo p all bs es cs → LeadsTo p es cs ds left → LeadsTo p all bs ds left
LeadsTo-trans p all es ds bs cs left g h = record { certifies = λ k. g.certifies (h.certifies k); refused = λ r k. g.refused r (h.refused r k); never = λ x k. g.never x (h.never x k) }

-- one case is refuted
pub stepped : (p : Places) (all rest : List NumberedCase) (certs : List Cert) (d : NumberedCase) (ds : List NumberedCase) (c : Cert) (cs : List Cert) → rest ≡ d ∷ ds → LeadsTo p all certs rest (c ∷ cs) → IsRefuted p d c → ((x : Point) → case_holds d.atoms x d.places ≡ false) → LeadsTo p all certs ds cs
stepped p all rest certs d ds c cs e g r s =
    let h : LeadsTo p all certs (d ∷ ds) (c ∷ cs) = subst (λ (l : List NumberedCase). LeadsTo p all certs l (c ∷ cs)) e g in
    record { certifies = λ k. h.certifies (r, k); refused = λ z k. h.refused z (inr (inr (r, k))); never = λ x k. h.never x (s x, k) }

pub at_case : (part : Part) (atoms : List Atom) (n : ℕ) (vs : List (Vec ℕ Global)) (i : ℕ) (v : Vec ℕ Global) (ds : List NumberedCase) → i < length vs → v ≡ get_or vs i v →
    numbered part atoms n (lists (drop i vs)) ++ ds ≡ (record { part = part; number = n; atoms = atoms; places = v.items }) ∷ (numbered part atoms (n + 1) (lists (drop (i + 1) vs)) ++ ds)
at_case part atoms n vs i v ds l e =
    ap (λ (k : List (Vec ℕ Global)). numbered part atoms n (lists k) ++ ds) (cut ∙ ap (λ (w : Vec ℕ Global). w ∷ drop (i + 1) vs) (sym e))
  where
    cut : drop i vs ≡ get_or vs i v ∷ drop (i + 1) vs
    cut = rw add-one (drop-cons vs i v l)

-- no certificate is left
pub none_left : (p : Places) (all rest : List NumberedCase) (certs left : List Cert) (d : NumberedCase) (ds : List NumberedCase) (r : Refusal) → rest ≡ d ∷ ds → left ≡ [] → LeadsTo p all certs rest left → r ≡ CertOf d.part d.number Missing → RefusesCerts p all certs r
none_left p all rest certs left d ds r e f g h =
    (subst (λ (l : List Cert). LeadsTo p all certs (d ∷ ds) l) f (subst (λ (l : List NumberedCase). LeadsTo p all certs l left) e g)).refused r h

-- the next certificate is another's
pub not_for : (p : Places) (all rest : List NumberedCase) (certs : List Cert) (d : NumberedCase) (ds : List NumberedCase) (c : Cert) (cs : List Cert) (r : Refusal) → rest ≡ d ∷ ds → LeadsTo p all certs rest (c ∷ cs) → (¬ IsFor d c) → r ≡ CertOf d.part d.number Missing → RefusesCerts p all certs r
not_for p all rest certs d ds c cs r e g n h = (subst (λ (l : List NumberedCase). LeadsTo p all certs l (c ∷ cs)) e g).refused r (inl (n, h))

-- the next certificate is wrong
pub wrong_one : (p : Places) (all rest : List NumberedCase) (certs : List Cert) (d : NumberedCase) (ds : List NumberedCase) (c : Cert) (cs : List Cert) (r : Refusal) (e : CertErr) → rest ≡ d ∷ ds → LeadsTo p all certs rest (c ∷ cs) → IsFor d c → Refuses p (labelled d.atoms d.places) c.terms e → r ≡ refused d.part d.number e → RefusesCerts p all certs r
wrong_one p all rest certs d ds c cs r e f g i k h = (subst (λ (l : List NumberedCase). LeadsTo p all certs l (c ∷ cs)) f g).refused r (inr (inl (i, (e, k, h))))

pub case_fits : (n : ℕ) (vs us : List (Vec ℕ Global)) (i : ℕ) (v : Vec ℕ Global) → us ≡ vs → i < length us → v ≡ get_or us i v → All (λ c. All (λ k. k < n) c) (lists vs) → All (λ k. k < n) v.items
case_fits n vs us i v q l e h = here us i l e (subst (λ (k : List (Vec ℕ Global)). All (λ c. All (λ k. k < n) c) (lists k)) (sym q) h)
  where
    here : (us : List (Vec ℕ Global)) (i : ℕ) → i < length us → v ≡ get_or us i v → All (λ c. All (λ k. k < n) c) (lists us) → All (λ k. k < n) v.items
    here [] i l e h = absurd (omega arith)
    here (w ∷ ws) zero l e h = subst (λ (u : Vec ℕ Global). All (λ k. k < n) u.items) (sym e) (All-head (λ c. All (λ k. k < n) c) w.items (lists ws) h)
    here (w ∷ ws) (suc i) l e h = here ws i (omega arith) e (All-tail (λ c. All (λ k. k < n) c) w.items (lists ws) h)

-- a list with its first element
pub first_and_rest : (xs : List Cert) (x : Cert) → 1 ≤ length xs → x ≡ get_or xs 0 x → xs ≡ x ∷ drop 1 xs
first_and_rest [] x l e = absurd (omega arith)
first_and_rest (y ∷ xs) x l e = ap (λ (z : Cert). z ∷ xs) (sym e)

-- the next case and certificate, as the loop has them
pub step : (p : Places) (part : Part) (atoms : List Atom) (all : List NumberedCase) (certs left next : List Cert) (n : ℕ) (vs : List (Vec ℕ Global)) (i : ℕ) (v : Vec ℕ Global) (c : Cert) (ds : List NumberedCase) → i < length vs → v ≡ get_or vs i v → 1 ≤ length left → c ≡ get_or left 0 c → next ≡ drop 1 left →
    LeadsTo p all certs (numbered part atoms n (lists (drop i vs)) ++ ds) left → IsRefuted p (record { part = part; number = n; atoms = atoms; places = v.items }) c → ((x : Point) → case_holds atoms x v.items ≡ false) →
    LeadsTo p all certs (numbered part atoms (n + 1) (lists (drop (i + 1) vs)) ++ ds) next
step p part atoms all certs left next n vs i v c ds l e k f q h r s =
    subst (λ (cs : List Cert). LeadsTo p all certs (numbered part atoms (n + 1) (lists (drop (i + 1) vs)) ++ ds) cs) (sym q)
    (stepped p all _ certs _ _ c (drop 1 left) (at_case part atoms n vs i v ds l e) (subst (λ (cs : List Cert). LeadsTo p all certs (numbered part atoms n (lists (drop i vs)) ++ ds) cs) (first_and_rest left c k f) h) r s)

pub all_behind : (p : Places) (left next : List Cert) → next ≡ drop 1 left → All (IsGoodCert p) left → All (IsGoodCert p) next
all_behind p left next e h = subst (All (IsGoodCert p)) (sym e) (behind left h)
  where
    behind : (cs : List Cert) → All (IsGoodCert p) cs → All (IsGoodCert p) (drop 1 cs)
    behind [] h = h
    behind (c ∷ cs) h = All-tail (IsGoodCert p) c cs h

-- what `refutes` says of the atoms and places that it is lent
pub lent : (R : List Atom → List ℕ → Type 0) (ms ns : List Atom) (ps qs : List ℕ) → ns ≡ ms → qs ≡ ps → R ns qs → R ms ps
lent R ms ns ps qs e f h = subst (λ (k : List Atom). R k ps) e (subst (R ns) f h)

-- the next obligation
pub next_obligation : (p : Places) (os : List Obligation) (i : ℕ) (o : Obligation) (all : List NumberedCase) (certs left next : List Cert) → i < length os → o ≡ get_or os i o → LeadsTo p all certs (all_cases (drop i os)) left →
    ((ds : List NumberedCase) → LeadsTo p (numbered o.part o.atoms 1 (lists o.cases) ++ ds) left ds next) → LeadsTo p all certs (all_cases (drop (i + 1) os)) next
next_obligation p os i o all certs left next l e g h =
    LeadsTo-trans p all (numbered o.part o.atoms 1 (lists o.cases) ++ all_cases (drop (i + 1) os)) (all_cases (drop (i + 1) os)) certs left next
    (subst (λ (k : List Obligation). LeadsTo p all certs (all_cases k) left) (cut ∙ ap (λ (w : Obligation). w ∷ drop (i + 1) os) (sym e)) g) (h (all_cases (drop (i + 1) os)))
  where
    cut : drop i os ≡ get_or os i o ∷ drop (i + 1) os
    cut = rw add-one (drop-cons os i o l)

pub all_done : (p : Places) (os : List Obligation) (i : ℕ) (certs left : List Cert) (x : Point) → length os ≤ i → LeadsTo p (all_cases os) certs (all_cases (drop i os)) left → NeverHold x (all_cases os)
all_done p os i certs left x l h = (subst (λ (k : List Obligation). LeadsTo p (all_cases os) certs (all_cases k) left) (none i os l) h).never x tt
  where
    none : (j : ℕ) (ps : List Obligation) → length ps ≤ j → drop j ps ≡ []
    none zero [] l = refl
    none zero (o ∷ ps) l = absurd (omega arith)
    none (suc j) [] l = refl
    none (suc j) (o ∷ ps) l = none j ps (omega arith)
