-- The form that each piece of a package has.
use Rattle.std.specs.Prelude.{ℕ, ◌+◌, ◌≡◌, ◌⊎◌, List, [], ◌∷◌, drop, map, Result, Ok, Err, codes}
use Rattle.vp_terms.specs.declared.package.Names.{Names}
use Rattle.vp_terms.specs.declared.package.Cert.{Cert}
use Rattle.vp_terms.specs.declared.package.Package.{Package}
use Rattle.vp_terms.specs.Tree.{ExprTree, FormulaTree, ProgTree, expr_tree, formula_tree, prog_tree}
use Rattle.vp_lex.specs.declared.token.Token.{Token}
use Rattle.vp_grammar.specs.declared.terminal.Span.{Span}
use Rattle.vp_lex.specs.declared.word.ReservedWord.{ReservedWord}
use Rattle.vp_lex.specs.declared.word.ReservedWord.TheVariants as word
use Rattle.vp_grammar.specs.declared.terminal.Terminal.{Terminal}
use Rattle.vp_grammar.specs.declared.entries.Mark.TheVariants as mark
use Rattle.vp_grammar.specs.Heading.{SpellsHeading}
use Rattle.vp_grammar.specs.FormulaReads.{SpellsFormulaPiece}
use Rattle.vp_grammar.specs.Controllers.{SpellsController}
use Rattle.vp_grammar.specs.Entries.{SpellsNames, SpellsEntries, SpellsBounds, SpellsTimes}
use Rattle.vp_terms.specs.Packages.{slack_tree}
use Rattle.vp_grammar.specs.Certificates.{SpellsCert}
use Rattle.vp_terms.specs.Packages.{CertTree, cert_tree}
use Rattle.std.specs.declared.vec.Vec.{Vec}
use Rattle.std.specs.declared.alloc.Global.{Global}
use Rattle.vp_grammar.specs.declared.fault.ParseErr.{ParseErr}
use Rattle.vp_grammar.specs.declared.fault.ParseErr.TheVariants as form
use Rattle.vp_read.specs.declared.fault.ReadErr.{ReadErr}
use Rattle.vp_read.specs.declared.fault.ReadErr.TheVariants as fault
use Rattle.vp_read.specs.declared.pieces.TheConstants.{HEADING, PARAMS, STATES, CONTROLS, INIT, INV, SAFE, CTRL, TIME, FLOW, SLACK, DOMAIN, FALLBACK, FIRST_CERT}
use Rattle.vp_read.specs.Spelling.{token_text, span_text}
use Rattle.vp_read.specs.Pieces.{piece}
use Rattle.vp_read.specs.Naming.{known}

-- the text of the second token
abbrev pub second_text : List ℕ → List Token → List ℕ
second_text text (t ∷ u ∷ us) = token_text text u
second_text text ts = []

-- "package" "1" ";"
abbrev pub IsHeading : List ℕ → List Token → List Terminal → Type 0
IsHeading text tokens p = SpellsHeading p × (second_text text tokens ≡ codes "1")

-- what a piece behind the first is to be
pub data Section : Type 0 where
  listing : ReservedWord → ℕ → Section
  condition : ReservedWord → Section
  controller : Section
  time : Section
  flow : Section
  slack : Section
  fallback : Section

-- a piece behind the first has its form
abbrev pub HasForm : Section → List Terminal → Type 0
HasForm (listing w least) p = (spans : List Span) × SpellsNames w least p spans
HasForm (condition w) p = (t : FormulaTree) × SpellsFormulaPiece w p t
HasForm controller p = (t : ProgTree) × SpellsController p t
HasForm time p = (t : ExprTree × ExprTree) × SpellsTimes p t
HasForm flow p = (ts : List ExprTree) × SpellsEntries word.Flow mark.Rate p ts
HasForm slack p = (ts : List (ExprTree × ExprTree)) × SpellsBounds p ts
HasForm fallback p = (ts : List ExprTree) × SpellsEntries word.Fallback mark.Setting p ts

-- pieces 2 to 4
abbrev pub head_sections : List Section
head_sections = listing word.Params 0 ∷ listing word.States 1 ∷ listing word.Controls 1 ∷ []

-- pieces 5 to 13
abbrev pub body_sections : List Section
body_sections = condition word.Init ∷ condition word.Inv ∷ condition word.Safe ∷ controller ∷ time ∷ flow ∷ slack ∷ condition word.Domain ∷ fallback ∷ []

-- the number of the first piece that is no certificate, where the first of these pieces has number k
abbrev pub IsFirstNoCert : ℕ → List (List Terminal) → ℕ → Type 0
IsFirstNoCert k [] n = ⊥
IsFirstNoCert k (p ∷ ps) n = (((t : CertTree) → SpellsCert p t → ⊥) × (n ≡ k)) ⊎ (((t : CertTree) × SpellsCert p t) × IsFirstNoCert (k + 1) ps n)

-- the number of the first piece that is not what it is to be, from number k on; where all are, the first that fits the rest
abbrev pub IsFirstUnformed : List (List Terminal) → List Section → ℕ → (ℕ → Type 0) → ℕ → Type 0
IsFirstUnformed ps [] k behind n = behind n
IsFirstUnformed ps (s ∷ ss) k behind n = ((HasForm s (piece ps k) → ⊥) × (n ≡ k)) ⊎ (HasForm s (piece ps k) × IsFirstUnformed ps ss (k + 1) behind n)

-- among pieces 1 to 4
abbrev pub IsUnformedHead : List ℕ → List Token → List (List Terminal) → ℕ → Type 0
IsUnformedHead text tokens ps n = ((IsHeading text tokens (piece ps HEADING) → ⊥) × (n ≡ HEADING)) ⊎ (IsHeading text tokens (piece ps HEADING) × IsFirstUnformed ps head_sections PARAMS (λ m. ⊥) n)

-- among the pieces from 5 on
abbrev pub IsUnformedBody : List (List Terminal) → ℕ → Type 0
IsUnformedBody ps n = IsFirstUnformed ps body_sections INIT (λ m. IsFirstNoCert FIRST_CERT (drop FALLBACK ps) m) n

-- the names that spans of a text spell
abbrev pub spelled : List ℕ → List Span → List (List ℕ)
spelled text spans = map (λ s. span_text text s) spans

-- pieces 1 to 4 declare these names
pub record Declares (text : List ℕ) (tokens : List Token) (ps : List (List Terminal)) (names : Names) : Type 0 where
  pub heading : IsHeading text tokens (piece ps HEADING)
  pub param_spans : List Span
  pub params : SpellsNames word.Params 0 (piece ps PARAMS) param_spans
  pub params_are : names.params ≡ spelled text param_spans
  pub state_spans : List Span
  pub states : SpellsNames word.States 1 (piece ps STATES) state_spans
  pub states_are : names.states ≡ spelled text state_spans
  pub control_spans : List Span
  pub controls : SpellsNames word.Controls 1 (piece ps CONTROLS) control_spans
  pub controls_are : names.controls ≡ spelled text control_spans

-- each piece spells the certificate at its place
abbrev pub AreCerts : List (List Terminal) → List CertTree → Type 0
AreCerts [] [] = Unit {0}
AreCerts (p ∷ ps) (t ∷ ts) = SpellsCert p t × AreCerts ps ts
AreCerts ps ts = ⊥

-- the pieces from 5 on spell the parts of a package
pub record Describes (ps : List (List Terminal)) (pkg : Package) : Type 0 where
  pub init : SpellsFormulaPiece word.Init (piece ps INIT) (formula_tree pkg.init)
  pub inv : SpellsFormulaPiece word.Inv (piece ps INV) (formula_tree pkg.inv)
  pub safe : SpellsFormulaPiece word.Safe (piece ps SAFE) (formula_tree pkg.safe)
  pub ctrl : SpellsController (piece ps CTRL) (prog_tree pkg.ctrl)
  pub time : SpellsTimes (piece ps TIME) (expr_tree pkg.plant.low, expr_tree pkg.plant.high)
  pub flow : SpellsEntries word.Flow mark.Rate (piece ps FLOW) (map expr_tree pkg.plant.rates)
  pub slack : SpellsBounds (piece ps SLACK) (map slack_tree pkg.plant.slack)
  pub domain : SpellsFormulaPiece word.Domain (piece ps DOMAIN) (formula_tree pkg.plant.domain)
  pub fallback : SpellsEntries word.Fallback mark.Setting (piece ps FALLBACK) (map expr_tree pkg.fallback)
  pub certs : AreCerts (drop FALLBACK ps) (map cert_tree pkg.certs)

-- pieces whose names have their variables
abbrev pub known_pieces : List ℕ → Names → List (List Terminal) → List (List Terminal)
known_pieces text names ps = map (map (known text names)) ps

-- a piece was read as what it spells, or it spells nothing of the kind and its number is told
abbrev pub ReadsPiece : {X T : Type 0} → (X → T) → (T → Type 0) → ℕ → Result X ReadErr → Type 0
ReadsPiece view P k (Ok x) = P (view x)
ReadsPiece {X} {T} view P k (Err (fault.Section n)) = (n ≡ k) × ((t : T) → P t → ⊥)
ReadsPiece view P k (Err fault.Memory) = Unit {0}
ReadsPiece view P k (Err e) = ⊥

-- why a piece is not what it is to be
abbrev pub of_form : ℕ → ParseErr → ReadErr
of_form k form.Form = fault.Section k
of_form k form.Memory = fault.Memory

-- the names that a piece lists
abbrev pub IsListed : List ℕ → ReservedWord → ℕ → List Terminal → List (List ℕ) → Type 0
IsListed text w least p names = (spans : List Span) × SpellsNames w least p spans × (names ≡ spelled text spans)

-- a piece's number for which Q holds is told, or memory ran out
abbrev pub Tells : (ℕ → Type 0) → ReadErr → Type 0
Tells Q (fault.Section n) = Q n
Tells Q fault.Memory = Unit {0}
Tells Q e = ⊥

-- the names that pieces 1 to 4 declare, or the first of them that is not what it is to be
abbrev pub ReadsHead : List ℕ → List Token → List (List Terminal) → Result Names ReadErr → Type 0
ReadsHead text tokens ps (Ok names) = Declares text tokens ps names
ReadsHead text tokens ps (Err e) = Tells (IsUnformedHead text tokens ps) e

-- the certificates that pieces spell from number k on, or the first that is none
abbrev pub ReadsCerts : ℕ → List (List Terminal) → Result (Vec Cert Global) ReadErr → Type 0
ReadsCerts k ps (Ok v) = AreCerts ps (map cert_tree v.items)
ReadsCerts k ps (Err e) = Tells (IsFirstNoCert k ps) e

-- the package with these names that the pieces from 5 on describe, or the first of them that is not what it is to be
abbrev pub ReadsBody : Names → List (List Terminal) → Result Package ReadErr → Type 0
ReadsBody names ps (Ok pkg) = (pkg.names ≡ names) × Describes ps pkg
ReadsBody names ps (Err e) = Tells (IsUnformedBody ps) e
