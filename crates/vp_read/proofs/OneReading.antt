-- A text is read in one way only.
use Rattle.std.proofs.Common.{ℕ, ◌+◌, ◌≡◌, ◌≢◌, ◌≤◌, ◌⊎◌, inl, inr, Bool, true, false, nat_eq, nat_lt, List, [], ◌∷◌, drop, length, map, Option, None, Some, Result, Ok, Err, if◌then◌else◌, refl, ap, sym, ◌∙◌, subst}
use Rattle.std.proofs.lemmas.Bool.{le-ltb, lt-ltb}
use Rattle.std.proofs.lemmas.List.{length-map}
use Rattle.vp_terms.specs.declared.package.Names.{Names}
use Rattle.vp_terms.specs.declared.package.Package.{Package}
use Rattle.vp_terms.specs.Places.{place_count}
use Rattle.vp_terms.specs.Tree.{ExprTree, FormulaTree, ProgTree, expr_tree, formula_tree, prog_tree}
use Rattle.vp_terms.specs.WellFormed.{all_names, places_of}
use Rattle.vp_lex.specs.declared.token.Token.{Token}
use Rattle.vp_lex.specs.Tokens.{Tokenizes}
use Rattle.vp_grammar.specs.declared.terminal.Span.{Span}
use Rattle.vp_lex.specs.declared.word.ReservedWord.{ReservedWord}
use Rattle.vp_lex.specs.declared.word.ReservedWord.TheVariants as word
use Rattle.vp_grammar.specs.declared.terminal.Terminal.{Terminal}
use Rattle.vp_grammar.specs.declared.entries.Mark.{Mark}
use Rattle.vp_grammar.specs.declared.entries.Mark.TheVariants as mark
use Rattle.vp_grammar.specs.Certificates.{SpellsCert}
use Rattle.vp_terms.specs.Packages.{CertTree, cert_tree}
use Rattle.vp_grammar.specs.Controllers.{SpellsController}
use Rattle.vp_grammar.specs.Entries.{SpellsNames, SpellsEntries, SpellsBounds, SpellsTimes}
use Rattle.vp_terms.specs.Packages.{slack_tree}
use Rattle.vp_grammar.specs.FormulaReads.{SpellsFormulaPiece}
use Rattle.vp_read.specs.declared.fault.ReadErr.{ReadErr}
use Rattle.vp_read.specs.declared.fault.ReadErr.TheVariants as fault
use Rattle.vp_terms.specs.Packages.{PackageTree, package_tree}
use Rattle.vp_read.specs.Pieces.{cut, first_deep, piece}
use Rattle.vp_read.specs.Reading.{IsCut, IsDraft, IsPackage, IsUnformed, Refuses, name_again, stray_of, variable_count, wrong_entries}
use Rattle.vp_read.specs.Sections.{AreCerts, Declares, Describes, HasForm, IsFirstNoCert, IsFirstUnformed, IsUnformedBody, IsUnformedHead, Section, body_sections, head_sections, known_pieces, spelled}
use Rattle.vp_read.specs.Naming.{first_again}
use Rattle.vp_read.specs.Spelling.{AreTerminals, IsFirstBad, span_text}
use Rattle.vp_read.proofs.OneTerminal.{TextsTell, bad_stands_not, one_bad, one_terminals}

-- what the laws say: a text has one list of tokens and writes one number, and terminals spell one tree of a kind
pub record OneForms : Type 0 where
  pub tokens : (text : List ℕ) (r s : Result (List Token) ℕ) → Tokenizes text r → Tokenizes text s → r ≡ s
  pub texts : TextsTell
  pub names : (w : ReservedWord) (least : ℕ) (ts : List Terminal) (a b : List Span) → SpellsNames w least ts a → SpellsNames w least ts b → a ≡ b
  pub formulas : (w : ReservedWord) (ts : List Terminal) (f g : FormulaTree) → SpellsFormulaPiece w ts f → SpellsFormulaPiece w ts g → f ≡ g
  pub controllers : (ts : List Terminal) (t u : ProgTree) → SpellsController ts t → SpellsController ts u → t ≡ u
  pub entries : (w : ReservedWord) (m : Mark) (ts : List Terminal) (a b : List ExprTree) → SpellsEntries w m ts a → SpellsEntries w m ts b → a ≡ b
  pub bounds : (ts : List Terminal) (a b : List (ExprTree × ExprTree)) → SpellsBounds ts a → SpellsBounds ts b → a ≡ b
  pub times : (ts : List Terminal) (a b : ExprTree × ExprTree) → SpellsTimes ts a → SpellsTimes ts b → a ≡ b
  pub certificates : (ts : List Terminal) (t u : CertTree) → SpellsCert ts t → SpellsCert ts u → t ≡ u

pub faults_alike : (e f : ReadErr) (r s : Result (Unit {0}) ReadErr) → r ≡ s → r ≡ Err e → s ≡ Err f → e ≡ f
faults_alike e f r s g h k = cc

pub no_fault : (e : ReadErr) (r s : Result (Unit {0}) ReadErr) → r ≡ s → r ≡ Ok tt → s ≡ Err e → ⊥
no_fault e r s g h k = absurd (cc)

module _ (one : OneForms) where
  certs_alike : (ps : List (List Terminal)) (ts us : List CertTree) → AreCerts ps ts → AreCerts ps us → ts ≡ us
  certs_alike [] [] [] a b = refl
  certs_alike [] [] (u ∷ us) a b = absurd b
  certs_alike [] (t ∷ ts) us a b = absurd a
  certs_alike (p ∷ ps) [] us a b = absurd a
  certs_alike (p ∷ ps) (t ∷ ts) [] a b = absurd b
  certs_alike (p ∷ ps) (t ∷ ts) (u ∷ us) a b = ap (λ (c : CertTree). c ∷ ts) (one.certificates p t u a.0 b.0) ∙ ap (λ (cs : List CertTree). u ∷ cs) (certs_alike ps ts us a.1 b.1)

  -- the first certificate that is none has one number, and there is none where all are certificates
  one_no_cert : (k : ℕ) (ps : List (List Terminal)) (m n : ℕ) → IsFirstNoCert k ps m → IsFirstNoCert k ps n → m ≡ n
  one_no_cert k [] m n a b = absurd a
  one_no_cert k (p ∷ ps) m n (inl a) (inl b) = a.1 ∙ sym b.1
  one_no_cert k (p ∷ ps) m n (inl a) (inr b) = absurd (a.0 b.0.0 b.0.1)
  one_no_cert k (p ∷ ps) m n (inr a) (inl b) = absurd (b.0 a.0.0 a.0.1)
  one_no_cert k (p ∷ ps) m n (inr a) (inr b) = one_no_cert (k + 1) ps m n a.1 b.1

  all_certs : (k : ℕ) (ps : List (List Terminal)) (ts : List CertTree) (n : ℕ) → AreCerts ps ts → IsFirstNoCert k ps n → ⊥
  all_certs k [] ts n a b = b
  all_certs k (p ∷ ps) [] n a b = a
  all_certs k (p ∷ ps) (t ∷ ts) n a (inl b) = b.0 t a.0
  all_certs k (p ∷ ps) (t ∷ ts) n a (inr b) = all_certs (k + 1) ps ts n a.1 b.1

  -- and so the first piece that has not its form
  one_first : (ps : List (List Terminal)) (ss : List Section) (k : ℕ) (behind : ℕ → Type 0) (m n : ℕ) → ((i j : ℕ) → behind i → behind j → i ≡ j) → IsFirstUnformed ps ss k behind m → IsFirstUnformed ps ss k behind n → m ≡ n
  one_first ps [] k behind m n f a b = f m n a b
  one_first ps (s ∷ ss) k behind m n f (inl a) (inl b) = a.1 ∙ sym b.1
  one_first ps (s ∷ ss) k behind m n f (inl a) (inr b) = absurd (a.0 b.0)
  one_first ps (s ∷ ss) k behind m n f (inr a) (inl b) = absurd (b.0 a.0)
  one_first ps (s ∷ ss) k behind m n f (inr a) (inr b) = one_first ps ss (k + 1) behind m n f a.1 b.1

  abbrev AreFormed : List (List Terminal) → List Section → ℕ → Type 0
  AreFormed ps [] k = Unit {0}
  AreFormed ps (s ∷ ss) k = HasForm s (piece ps k) × AreFormed ps ss (k + 1)

  formed_behind : (ps : List (List Terminal)) (ss : List Section) (k : ℕ) (behind : ℕ → Type 0) (n : ℕ) → AreFormed ps ss k → IsFirstUnformed ps ss k behind n → behind n
  formed_behind ps [] k behind n f a = a
  formed_behind ps (s ∷ ss) k behind n f (inl a) = absurd (a.0 f.0)
  formed_behind ps (s ∷ ss) k behind n f (inr a) = formed_behind ps ss (k + 1) behind n f.1 a.1

  head_formed : (text : List ℕ) (tokens : List Token) (ps : List (List Terminal)) (names : Names) → Declares text tokens ps names → AreFormed ps head_sections 2
  head_formed text tokens ps names d = ((d.param_spans, d.params), ((d.state_spans, d.states), ((d.control_spans, d.controls), tt)))

  body_formed : (ps : List (List Terminal)) (pkg : Package) → Describes ps pkg → AreFormed ps body_sections 5
  body_formed ps pkg d = ((formula_tree pkg.init, d.init), ((formula_tree pkg.inv, d.inv), ((formula_tree pkg.safe, d.safe), ((prog_tree pkg.ctrl, d.ctrl), (((expr_tree pkg.plant.low, expr_tree pkg.plant.high), d.time), ((map expr_tree pkg.plant.rates, d.flow), ((map slack_tree pkg.plant.slack, d.slack), ((formula_tree pkg.plant.domain, d.domain), ((map expr_tree pkg.fallback, d.fallback), tt)))))))))

  no_head : (text : List ℕ) (tokens : List Token) (ps : List (List Terminal)) (names : Names) (n : ℕ) → Declares text tokens ps names → IsUnformedHead text tokens ps n → ⊥
  no_head text tokens ps names n d (inl a) = a.0 d.heading
  no_head text tokens ps names n d (inr a) = formed_behind ps head_sections 2 (λ m. ⊥) n (head_formed text tokens ps names d) a.1

  one_head : (text : List ℕ) (tokens : List Token) (ps : List (List Terminal)) (m n : ℕ) → IsUnformedHead text tokens ps m → IsUnformedHead text tokens ps n → m ≡ n
  one_head text tokens ps m n (inl a) (inl b) = a.1 ∙ sym b.1
  one_head text tokens ps m n (inl a) (inr b) = absurd (a.0 b.0)
  one_head text tokens ps m n (inr a) (inl b) = absurd (b.0 a.0)
  one_head text tokens ps m n (inr a) (inr b) = one_first ps head_sections 2 (λ m. ⊥) m n (λ i j x y. absurd x) a.1 b.1

  abbrev NoCertBehind : List (List Terminal) → ℕ → Type 0
  NoCertBehind ps m = IsFirstNoCert 14 (drop 13 ps) m

  no_body : (ps : List (List Terminal)) (pkg : Package) (n : ℕ) → Describes ps pkg → IsUnformedBody ps n → ⊥
  no_body ps pkg n d a = all_certs 14 (drop 13 ps) (map cert_tree pkg.certs) n d.certs (formed_behind ps body_sections 5 (NoCertBehind ps) n (body_formed ps pkg d) a)

  one_body : (ps : List (List Terminal)) (m n : ℕ) → IsUnformedBody ps m → IsUnformedBody ps n → m ≡ n
  one_body ps m n a b = one_first ps body_sections 5 (NoCertBehind ps) m n (λ i j x y. one_no_cert 14 (drop 13 ps) i j x y) a b

  -- pieces declare the same names
  abbrev names_of : List (List ℕ) → List (List ℕ) → List (List ℕ) → Names
  names_of p q r = record { params = p; states = q; controls = r }

  same_names : (a b : Names) → a.params ≡ b.params → a.states ≡ b.states → a.controls ≡ b.controls → a ≡ b
  same_names a b p q r =
      ap (λ (z : List (List ℕ)). names_of z a.states a.controls) p ∙
      ap (λ (z : List (List ℕ)). names_of b.params z a.controls) q ∙
      ap (λ (z : List (List ℕ)). names_of b.params b.states z) r

  one_names : (text : List ℕ) (tokens : List Token) (ps : List (List Terminal)) (a b : Names) → Declares text tokens ps a → Declares text tokens ps b → a ≡ b
  one_names text tokens ps a b d e = same_names a b
      (d.params_are ∙ ap (spelled text) (one.names word.Params 0 (piece ps 2) d.param_spans e.param_spans d.params e.params) ∙ sym e.params_are)
      (d.states_are ∙ ap (spelled text) (one.names word.States 1 (piece ps 3) d.state_spans e.state_spans d.states e.states) ∙ sym e.states_are)
      (d.controls_are ∙ ap (spelled text) (one.names word.Controls 1 (piece ps 4) d.control_spans e.control_spans d.controls e.controls) ∙ sym e.controls_are)

  -- the package by the grammar, of these tokens and pieces
  abbrev IsBody : List ℕ → List Token → List (List Terminal) → Package → Type 0
  IsBody text tokens ps pkg = Declares text tokens ps pkg.names × Describes (known_pieces text pkg.names ps) pkg

  -- a piece has not its form in one way, and not where all have theirs
  unformed_once : (text : List ℕ) (tokens : List Token) (ps : List (List Terminal)) (m n : ℕ) → IsUnformed text tokens ps m → IsUnformed text tokens ps n → m ≡ n
  unformed_once text tokens ps m n (inl a) (inl b) = one_head text tokens ps m n a b
  unformed_once text tokens ps m n (inl a) (inr b) = absurd (no_head text tokens ps b.0 m b.1 a)
  unformed_once text tokens ps m n (inr a) (inl b) = absurd (no_head text tokens ps a.0 n a.1 b)
  unformed_once text tokens ps m n (inr a) (inr b) = one_body (known_pieces text b.0 ps) m n (subst (λ (z : Names). IsUnformedBody (known_pieces text z ps) m) (one_names text tokens ps a.0 b.0 a.1 b.1) a.2) b.2

  formed : (text : List ℕ) (tokens : List Token) (ps : List (List Terminal)) (n : ℕ) (pkg : Package) → IsUnformed text tokens ps n → IsBody text tokens ps pkg → ⊥
  formed text tokens ps n pkg (inl a) b = no_head text tokens ps pkg.names n b.0 a
  formed text tokens ps n pkg (inr a) b = no_body (known_pieces text pkg.names ps) pkg n b.1 (subst (λ (z : Names). IsUnformedBody (known_pieces text z ps) n) (one_names text tokens ps a.0 pkg.names a.1 b.0) a.2)

  abbrev tree_of : Names → FormulaTree → FormulaTree → FormulaTree → ProgTree → ExprTree → ExprTree → List ExprTree → List (ExprTree × ExprTree) → FormulaTree → List ExprTree → List CertTree → PackageTree
  tree_of c d e f g h i j k l m n = record { names = c; init = d; inv = e; safe = f; ctrl = g; low = h; high = i; rates = j; slack = k; domain = l; fallback = m; certs = n }

  -- trees with the same parts are the same
  same_tree : (a b : PackageTree) → a.names ≡ b.names → a.init ≡ b.init → a.inv ≡ b.inv → a.safe ≡ b.safe → a.ctrl ≡ b.ctrl → a.low ≡ b.low → a.high ≡ b.high → a.rates ≡ b.rates → a.slack ≡ b.slack → a.domain ≡ b.domain → a.fallback ≡ b.fallback → a.certs ≡ b.certs → a ≡ b
  same_tree a b c d e f g h i j k l m n =
      ap (λ (z : Names). tree_of z a.init a.inv a.safe a.ctrl a.low a.high a.rates a.slack a.domain a.fallback a.certs) c ∙
      ap (λ (z : FormulaTree). tree_of b.names z a.inv a.safe a.ctrl a.low a.high a.rates a.slack a.domain a.fallback a.certs) d ∙
      ap (λ (z : FormulaTree). tree_of b.names b.init z a.safe a.ctrl a.low a.high a.rates a.slack a.domain a.fallback a.certs) e ∙
      ap (λ (z : FormulaTree). tree_of b.names b.init b.inv z a.ctrl a.low a.high a.rates a.slack a.domain a.fallback a.certs) f ∙
      ap (λ (z : ProgTree). tree_of b.names b.init b.inv b.safe z a.low a.high a.rates a.slack a.domain a.fallback a.certs) g ∙
      ap (λ (z : ExprTree). tree_of b.names b.init b.inv b.safe b.ctrl z a.high a.rates a.slack a.domain a.fallback a.certs) h ∙
      ap (λ (z : ExprTree). tree_of b.names b.init b.inv b.safe b.ctrl b.low z a.rates a.slack a.domain a.fallback a.certs) i ∙
      ap (λ (z : List ExprTree). tree_of b.names b.init b.inv b.safe b.ctrl b.low b.high z a.slack a.domain a.fallback a.certs) j ∙
      ap (λ (z : List (ExprTree × ExprTree)). tree_of b.names b.init b.inv b.safe b.ctrl b.low b.high b.rates z a.domain a.fallback a.certs) k ∙
      ap (λ (z : FormulaTree). tree_of b.names b.init b.inv b.safe b.ctrl b.low b.high b.rates b.slack z a.fallback a.certs) l ∙
      ap (λ (z : List ExprTree). tree_of b.names b.init b.inv b.safe b.ctrl b.low b.high b.rates b.slack b.domain z a.certs) m ∙
      ap (λ (z : List CertTree). tree_of b.names b.init b.inv b.safe b.ctrl b.low b.high b.rates b.slack b.domain b.fallback z) n

  -- two packages by the grammar of the same pieces have the same trees
  alike : (text : List ℕ) (tokens : List Token) (ps : List (List Terminal)) (p q : Package) → IsBody text tokens ps p → IsBody text tokens ps q → package_tree p ≡ package_tree q
  alike text tokens ps p q a b =
      let ks : List (List Terminal) = known_pieces text q.names ps in
      let names : p.names ≡ q.names = one_names text tokens ps p.names q.names a.0 b.0 in
      let d : Describes ks p = subst (λ (z : Names). Describes (known_pieces text z ps) p) names a.1 in
      let e : Describes ks q = b.1 in
      let time : (expr_tree p.plant.low, expr_tree p.plant.high) ≡ (expr_tree q.plant.low, expr_tree q.plant.high) = one.times (piece ks 9) (expr_tree p.plant.low, expr_tree p.plant.high) (expr_tree q.plant.low, expr_tree q.plant.high) d.time e.time in
      same_tree (package_tree p) (package_tree q)
      names
      (one.formulas word.Init (piece ks 5) (formula_tree p.init) (formula_tree q.init) d.init e.init)
      (one.formulas word.Inv (piece ks 6) (formula_tree p.inv) (formula_tree q.inv) d.inv e.inv)
      (one.formulas word.Safe (piece ks 7) (formula_tree p.safe) (formula_tree q.safe) d.safe e.safe)
      (one.controllers (piece ks 8) (prog_tree p.ctrl) (prog_tree q.ctrl) d.ctrl e.ctrl)
      (ap (λ (t : ExprTree × ExprTree). t.0) time)
      (ap (λ (t : ExprTree × ExprTree). t.1) time)
      (one.entries word.Flow mark.Rate (piece ks 10) (map expr_tree p.plant.rates) (map expr_tree q.plant.rates) d.flow e.flow)
      (one.bounds (piece ks 11) (map slack_tree p.plant.slack) (map slack_tree q.plant.slack) d.slack e.slack)
      (one.formulas word.Domain (piece ks 12) (formula_tree p.plant.domain) (formula_tree q.plant.domain) d.domain e.domain)
      (one.entries word.Fallback mark.Setting (piece ks 13) (map expr_tree p.fallback) (map expr_tree q.fallback) d.fallback e.fallback)
      (certs_alike (drop 13 ks) (map cert_tree p.certs) (map cert_tree q.certs) d.certs e.certs)

  -- what the names and entries of a package say of it
  abbrev outcome : List ℕ → Bool → ℕ → Option (List ℕ) → Option (ℕ × ℕ) → Option (Span × ℕ) → Result (Unit {0}) ReadErr
  outcome text true n a w s = Err (fault.Names n)
  outcome text false n (Some name) w s = Err (fault.Twice name)
  outcome text false n None (Some w) s = Err (fault.Entries w.0 w.1)
  outcome text false n None None (Some s) = Err (fault.Undeclared (span_text text s.0) s.1)
  outcome text false n None None None = Ok tt

  abbrev verdict : List ℕ → List (List Terminal) → Package → Result (Unit {0}) ReadErr
  verdict text ps pkg = outcome text (nat_lt 32 (variable_count pkg)) (variable_count pkg) (name_again pkg) (wrong_entries pkg) (stray_of text ps pkg.names)

  -- the trees tell which entries are too many or too few
  abbrev wrong_of : PackageTree → Option (ℕ × ℕ)
  wrong_of t = if nat_eq (length t.rates) (length t.names.states) then (if nat_eq (length t.slack) (length t.names.states) then (if nat_eq (length t.fallback) (length t.names.controls) then None else Some (13, length t.fallback)) else Some (11, length t.slack)) else Some (10, length t.rates)

  wrong_is : (pkg : Package) → wrong_entries pkg ≡ wrong_of (package_tree pkg)
  wrong_is pkg = rw (length-map pkg.plant.rates expr_tree, length-map pkg.plant.slack slack_tree, length-map pkg.fallback expr_tree) refl

  verdict_is : (text : List ℕ) (ps : List (List Terminal)) (pkg : Package) → verdict text ps pkg ≡ outcome text (nat_lt 32 (place_count (places_of pkg.names))) (place_count (places_of pkg.names)) (name_again pkg) (wrong_of (package_tree pkg)) (stray_of text ps pkg.names)
  verdict_is text ps pkg = ap (λ (w : Option (ℕ × ℕ)). outcome text (nat_lt 32 (variable_count pkg)) (variable_count pkg) (name_again pkg) w (stray_of text ps pkg.names)) (wrong_is pkg)

  same_verdict : (text : List ℕ) (ps : List (List Terminal)) (p q : Package) → package_tree p ≡ package_tree q → verdict text ps p ≡ verdict text ps q
  same_verdict text ps p q e =
      let both : (t : PackageTree) → Result (Unit {0}) ReadErr = λ t. outcome text (nat_lt 32 (place_count (places_of t.names))) (place_count (places_of t.names)) (first_again [] (all_names t.names)) (wrong_of t) (stray_of text ps t.names) in
      verdict_is text ps p ∙ ap both e ∙ sym (verdict_is text ps q)

  -- a text is cut in one way, and then no number is refused, and it has tokens
  ok_alike : (a b : List Token) (r s : Result (List Token) ℕ) → r ≡ s → r ≡ Ok a → s ≡ Ok b → a ≡ b
  ok_alike a b r s e f g = cc

  err_alike : (m n : ℕ) (r s : Result (List Token) ℕ) → r ≡ s → r ≡ Err m → s ≡ Err n → m ≡ n
  err_alike m n r s e f g = cc

  ok_no_err : (a : List Token) (n : ℕ) (r s : Result (List Token) ℕ) → r ≡ s → r ≡ Ok a → s ≡ Err n → ⊥
  ok_no_err a n r s e f g = absurd (cc)

  tokens_alike : (text : List ℕ) (a b : List Token) → Tokenizes text (Ok a) → Tokenizes text (Ok b) → a ≡ b
  tokens_alike text a b s t = ok_alike a b (Ok a) (Ok b) (one.tokens text (Ok a) (Ok b) s t) refl refl

  never_both : (text : List ℕ) (a : List Token) (at : ℕ) → Tokenizes text (Ok a) → Tokenizes text (Err at) → ⊥
  never_both text a at s t = ok_no_err a at (Ok a) (Err at) (one.tokens text (Ok a) (Err at) s t) refl refl

  places_alike : (text : List ℕ) (m n : ℕ) → Tokenizes text (Err m) → Tokenizes text (Err n) → m ≡ n
  places_alike text m n s t = err_alike m n (Err m) (Err n) (one.tokens text (Err m) (Err n) s t) refl refl

  one_cut : (text : List ℕ) (ts us : List Token) (ps qs : List (List Terminal)) → IsCut text ts ps → IsCut text us qs → (ts ≡ us) × (ps ≡ qs)
  one_cut text ts us ps qs a b =
      let e : ts ≡ us = tokens_alike text ts us a.1.0 b.1.0 in
      let f : a.0 ≡ b.0 = one_terminals one.texts text us a.0 b.0 (subst (λ (zs : List Token). AreTerminals text zs a.0) e a.1.1) b.1.1 in
      (e, a.2 ∙ ap (cut 0) f ∙ sym b.2)

  cut_good : (text : List ℕ) (ts us : List Token) (ps : List (List Terminal)) (at : ℕ) → IsCut text ts ps → Tokenizes text (Ok us) → IsFirstBad text us at → ⊥
  cut_good text ts us ps at a s b = bad_stands_not text ts a.0 at (subst (λ (zs : List Token). IsFirstBad text zs at) (tokens_alike text us ts s a.1.0) b) a.1.1

  -- what comes of the pieces of a text
  abbrev Formed : List ℕ → List Token → List (List Terminal) → Result (Unit {0}) ReadErr → Type 0
  Formed text tokens ps r = ((n : ℕ) × IsUnformed text tokens ps n × (r ≡ Err (fault.Section n))) ⊎ ((pkg : Package) × IsBody text tokens ps pkg × (r ≡ verdict text ps pkg))

  abbrev Pieced : List ℕ → List Token → List (List Terminal) → Result (Unit {0}) ReadErr → Type 0
  Pieced text tokens ps r = ((n : ℕ) × (first_deep 1 ps ≡ Some n) × (r ≡ Err (fault.Deep n))) ⊎ ((first_deep 1 ps ≡ None) × Formed text tokens ps r)

  -- what comes of a text: a place in no token, a refused number, or pieces
  abbrev LexFails : List ℕ → Result (Unit {0}) ReadErr → Type 0
  LexFails text r = (at : ℕ) × Tokenizes text (Err at) × (r ≡ Err (fault.Lex at))

  abbrev NumberFails : List ℕ → Result (Unit {0}) ReadErr → Type 0
  NumberFails text r = (at : ℕ) × (tokens : List Token) × Tokenizes text (Ok tokens) × IsFirstBad text tokens at × (r ≡ Err (fault.Number at))

  abbrev Goes : List ℕ → Result (Unit {0}) ReadErr → Type 0
  Goes text r = (tokens : List Token) × (ps : List (List Terminal)) × IsCut text tokens ps × Pieced text tokens ps r

  abbrev Comes : List ℕ → Result (Unit {0}) ReadErr → Type 0
  Comes text r = LexFails text r ⊎ (NumberFails text r ⊎ Goes text r)

  one_form : (text : List ℕ) (tokens : List Token) (ps : List (List Terminal)) (r s : Result (Unit {0}) ReadErr) → Formed text tokens ps r → Formed text tokens ps s → r ≡ s
  one_form text tokens ps r s (inl a) (inl b) = a.2 ∙ ap (λ (n : ℕ). Err (fault.Section n)) (unformed_once text tokens ps a.0 b.0 a.1 b.1) ∙ sym b.2
  one_form text tokens ps r s (inl a) (inr b) = absurd (formed text tokens ps a.0 b.0 a.1 b.1)
  one_form text tokens ps r s (inr a) (inl b) = absurd (formed text tokens ps b.0 a.0 b.1 a.1)
  one_form text tokens ps r s (inr a) (inr b) = a.2 ∙ same_verdict text ps a.0 b.0 (alike text tokens ps a.0 b.0 a.1 b.1) ∙ sym b.2

  some_alike : (m n : ℕ) → Some m ≡ Some n → m ≡ n
  some_alike m n e = cc

  some_none : (n : ℕ) → Some n ≡ None → ⊥
  some_none n e = absurd (cc)

  one_outcome : (text : List ℕ) (tokens : List Token) (ps : List (List Terminal)) (r s : Result (Unit {0}) ReadErr) → Pieced text tokens ps r → Pieced text tokens ps s → r ≡ s
  one_outcome text tokens ps r s (inl a) (inl b) = a.2 ∙ ap (λ (n : ℕ). Err (fault.Deep n)) (some_alike a.0 b.0 (sym a.1 ∙ b.1)) ∙ sym b.2
  one_outcome text tokens ps r s (inl a) (inr b) = absurd (some_none a.0 (sym a.1 ∙ b.0))
  one_outcome text tokens ps r s (inr a) (inl b) = absurd (some_none b.0 (sym b.1 ∙ a.0))
  one_outcome text tokens ps r s (inr a) (inr b) = one_form text tokens ps r s a.1 b.1

  pub comes_once : (text : List ℕ) (r s : Result (Unit {0}) ReadErr) → Comes text r → Comes text s → r ≡ s
  comes_once text r s (inl a) (inl b) = a.2 ∙ ap (λ (n : ℕ). Err (fault.Lex n)) (places_alike text a.0 b.0 a.1 b.1) ∙ sym b.2
  comes_once text r s (inl a) (inr (inl b)) = absurd (never_both text b.1 a.0 b.2 a.1)
  comes_once text r s (inl a) (inr (inr b)) = absurd (never_both text b.0 a.0 b.2.1.0 a.1)
  comes_once text r s (inr (inl a)) (inl b) = absurd (never_both text a.1 b.0 a.2 b.1)
  comes_once text r s (inr (inl a)) (inr (inl b)) = a.4 ∙ ap (λ (n : ℕ). Err (fault.Number n)) (one_bad text b.1 a.0 b.0 (subst (λ (zs : List Token). IsFirstBad text zs a.0) (tokens_alike text a.1 b.1 a.2 b.2) a.3) b.3) ∙ sym b.4
  comes_once text r s (inr (inl a)) (inr (inr b)) = absurd (cut_good text b.0 a.1 b.1 a.0 b.2 a.2 a.3)
  comes_once text r s (inr (inr a)) (inl b) = absurd (never_both text a.0 b.0 a.2.1.0 b.1)
  comes_once text r s (inr (inr a)) (inr (inl b)) = absurd (cut_good text a.0 b.1 a.1 b.0 a.2 b.2 b.3)
  comes_once text r s (inr (inr a)) (inr (inr b)) =
      let e : (a.0 ≡ b.0) × (a.1 ≡ b.1) = one_cut text a.0 b.0 a.1 b.1 a.2 b.2 in
      let p : Pieced text b.0 a.1 r = subst (λ (zs : List Token). Pieced text zs a.1 r) e.0 a.3 in
      one_outcome text b.0 b.1 r s (subst (λ (zs : List (List Terminal)). Pieced text b.0 zs r) e.1 p) b.3

  -- a package and each refusal come of the text
  draft_comes : (text : List ℕ) (pkg : Package) (r : Result (Unit {0}) ReadErr) (d : IsDraft text pkg) → r ≡ verdict text d.pieces pkg → Comes text r
  draft_comes text pkg r d e = inr (inr (d.tokens, d.pieces, d.cut, inr (d.shallow, inr (pkg, (d.head, d.body), e))))

  few : (pkg : Package) → variable_count pkg ≤ 32 → nat_lt 32 (variable_count pkg) ≡ false
  few pkg l = le-ltb 32 (variable_count pkg) l

  pub package_comes : (text : List ℕ) (pkg : Package) → IsPackage text pkg → Comes text (Ok tt)
  package_comes text pkg h = draft_comes text pkg (Ok tt) h.draft (rw (few pkg h.few, h.distinct, h.entries, h.declared) refl)

  pub refusal_comes : (text : List ℕ) (e : ReadErr) → Refuses text e → e ≢ fault.Memory → Comes text (Err e)
  refusal_comes text (fault.Lex at) h m = inl (at, h, refl)
  refusal_comes text (fault.Number at) h m = inr (inl (at, h.0, h.1, h.2, refl))
  refusal_comes text (fault.Deep n) h m = inr (inr (h.0, h.1, h.2, inl (n, h.3, refl)))
  refusal_comes text (fault.Section n) h m = inr (inr (h.0, h.1, h.2, inr (h.3, inl (n, h.4, refl))))
  refusal_comes text (fault.Names n) h m = draft_comes text h.0 (Err (fault.Names n)) h.1 (rw (lt-ltb 32 (variable_count h.0) h.2) (ap (λ (k : ℕ). Err (fault.Names k)) h.3))
  refusal_comes text (fault.Twice name) h m = draft_comes text h.0 (Err (fault.Twice name)) h.1 (rw (few h.0 h.2, h.3) refl)
  refusal_comes text (fault.Entries k n) h m = draft_comes text h.0 (Err (fault.Entries k n)) h.1 (rw (few h.0 h.2, h.3, h.4) refl)
  refusal_comes text (fault.Undeclared name k) h m = draft_comes text h.0 (Err (fault.Undeclared name k)) h.1 (rw (few h.0 h.2, h.3, h.4, h.6) (ap (λ (z : List ℕ). Err (fault.Undeclared z k)) h.7))
  refusal_comes text fault.Memory h m = absurd (m refl)

  pub one_refusal : (text : List ℕ) (e f : ReadErr) → Refuses text e → Refuses text f → e ≢ fault.Memory → f ≢ fault.Memory → e ≡ f
  one_refusal text e f a b m n = faults_alike e f (Err e) (Err f) (comes_once text (Err e) (Err f) (refusal_comes text e a m) (refusal_comes text f b n)) refl refl

  pub not_refused : (text : List ℕ) (pkg : Package) (e : ReadErr) → IsPackage text pkg → Refuses text e → e ≢ fault.Memory → ⊥
  not_refused text pkg e a b m = no_fault e (Ok tt) (Err e) (comes_once text (Ok tt) (Err e) (package_comes text pkg a) (refusal_comes text e b m)) refl refl

  pub one_package : (text : List ℕ) (p q : Package) → IsPackage text p → IsPackage text q → package_tree p ≡ package_tree q
  one_package text p q a b =
      let d : IsDraft text p = a.draft in
      let f : IsDraft text q = b.draft in
      let e : (d.tokens ≡ f.tokens) × (d.pieces ≡ f.pieces) = one_cut text d.tokens f.tokens d.pieces f.pieces d.cut f.cut in
      let x : IsBody text f.tokens d.pieces p = subst (λ (zs : List Token). IsBody text zs d.pieces p) e.0 (d.head, d.body) in
      alike text f.tokens f.pieces p q (subst (λ (zs : List (List Terminal)). IsBody text f.tokens zs p) e.1 x) (f.head, f.body)
