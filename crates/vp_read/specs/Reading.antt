-- What a text is read as: a package, or the first condition that refuses it.
use Rattle.std.specs.Prelude.{ℕ, ◌+◌, ◌≡◌, ◌≢◌, ◌⊎◌, true, false, ◌<◌, ◌≤◌, nat_eq, nat_lt, List, [], ◌∷◌, ◌++◌, drop, length, map, Result, Ok, Err, Option, None, Some, if◌then◌else◌}
use Rattle.std.specs.Option.{option_map, option_or}
use Rattle.std.specs.declared.vec.Vec.{Vec}
use Rattle.std.specs.declared.alloc.Global.{Global}
use Rattle.vp_terms.specs.declared.expr.Places.{Places}
use Rattle.vp_terms.specs.declared.package.Names.{Names}
use Rattle.vp_terms.specs.declared.package.Package.{Package}
use Rattle.vp_terms.specs.Places.{place_count}
use Rattle.vp_terms.specs.WellFormed.{all_names, places_of, in_model, in_time, in_domain, in_certificate}
use Rattle.vp_lex.specs.declared.token.Token.{Token}
use Rattle.vp_lex.specs.Tokens.{Tokenizes}
use Rattle.vp_grammar.specs.declared.terminal.Span.{Span}
use Rattle.vp_grammar.specs.declared.terminal.Terminal.{Terminal}
use Rattle.vp_grammar.specs.Strays.{first_stray}
use Rattle.vp_read.specs.declared.fault.ReadErr.{ReadErr}
use Rattle.vp_read.specs.declared.fault.ReadErr.TheVariants as fault
use Rattle.vp_read.specs.declared.pieces.TheConstants.{CONTROLS, INIT, CTRL, TIME, FLOW, SLACK, DOMAIN, FALLBACK}
use Rattle.vp_grammar.specs.declared.strays.Rule.{Rule}
use Rattle.vp_grammar.specs.declared.strays.Rule.TheVariants as rule
use Rattle.vp_read.specs.Spelling.{AreTerminals, IsFirstBad, IsScanned, span_text}
use Rattle.vp_read.specs.Pieces.{cut, first_deep, is_deep, items}
use Rattle.vp_read.specs.Naming.{first_again, known}
use Rattle.vp_read.specs.Sections.{Declares, Describes, IsUnformedHead, IsUnformedBody, known_pieces}

-- the text has these tokens and pieces
abbrev pub IsCut : List ℕ → List Token → List (List Terminal) → Type 0
IsCut text tokens ps = (terminals : List Terminal) × IsScanned text tokens terminals × (ps ≡ cut 0 terminals)

abbrev pub certificates : Rule
certificates = rule.Plain in_certificate

-- what may stand in the piece of a number, from 5 on; the pieces behind the 13th are certificates
abbrev pub rule_of : ℕ → Rule
rule_of k = if nat_lt k CTRL then rule.Plain in_model else (if nat_eq k CTRL then rule.Controller else (if nat_eq k TIME then rule.Plain in_time else (if nat_eq k FLOW then rule.Flow else (if nat_eq k SLACK then rule.Slack else (if nat_eq k DOMAIN then rule.Plain in_domain else (if nat_eq k FALLBACK then rule.Fallback else certificates))))))

-- the first variable that may not stand where it does, with its piece's number, where the first of these pieces has number k
abbrev pub first_stray_from : Places → ℕ → List (List Terminal) → Option (Span × ℕ)
first_stray_from p k [] = None
first_stray_from p k (q ∷ qs) = option_or (option_map (λ s. (s, k)) (first_stray (rule_of k) p 0 q)) (first_stray_from p (k + 1) qs)

abbrev pub stray_of : List ℕ → List (List Terminal) → Names → Option (Span × ℕ)
stray_of text ps names = first_stray_from (places_of names) INIT (drop CONTROLS (known_pieces text names ps))

-- the first of pieces 10, 11 and 13 that has not one entry for each state or control, and how many it has
abbrev pub wrong_entries : Package → Option (ℕ × ℕ)
wrong_entries pkg = if nat_eq (length pkg.plant.rates) (length pkg.names.states) then (if nat_eq (length pkg.plant.slack) (length pkg.names.states) then (if nat_eq (length pkg.fallback) (length pkg.names.controls) then None else Some (FALLBACK, length pkg.fallback)) else Some (SLACK, length pkg.plant.slack)) else Some (FLOW, length pkg.plant.rates)

-- lists of entries that are not longer than a text
abbrev pub AreShort : Package → Type 0
AreShort pkg = (length pkg.plant.rates ≤ 1048576) × (length pkg.plant.slack ≤ 1048576) × (length pkg.fallback ≤ 1048576)

-- the text is the package by the grammar: none of its pieces is deep, and each has its form
pub record IsDraft (text : List ℕ) (pkg : Package) : Type 0 where
  pub tokens : List Token
  pub pieces : List (List Terminal)
  pub cut : IsCut text tokens pieces
  pub shallow : first_deep 1 pieces ≡ None
  pub head : Declares text tokens pieces pkg.names
  pub body : Describes (known_pieces text pkg.names pieces) pkg

-- how many variables the names make
abbrev pub variable_count : Package → ℕ
variable_count pkg = place_count (places_of pkg.names)

-- the name that is declared a second time first
abbrev pub name_again : Package → Option (List ℕ)
name_again pkg = first_again [] (all_names pkg.names)

-- the text is the package by the grammar, and nothing refuses it
pub record IsPackage (text : List ℕ) (pkg : Package) : Type 0 where
  pub draft : IsDraft text pkg
  pub few : variable_count pkg ≤ 32
  pub distinct : name_again pkg ≡ None
  pub entries : wrong_entries pkg ≡ None
  pub declared : stray_of text draft.pieces pkg.names ≡ None

-- a piece that has not its form: one of the first four, or one behind them with the names that they declare
abbrev pub IsUnformed : List ℕ → List Token → List (List Terminal) → ℕ → Type 0
IsUnformed text tokens ps k = IsUnformedHead text tokens ps k ⊎ ((names : Names) × Declares text tokens ps names × IsUnformedBody (known_pieces text names ps) k)

-- why a text of any grammar has no pieces that are read: its first byte in no token, its first refused
-- number, or its first deep piece
abbrev pub RefusesPieces : List ℕ → ReadErr → Type 0
RefusesPieces text (fault.Lex at) = Tokenizes text (Err at)
RefusesPieces text (fault.Number at) = (tokens : List Token) × Tokenizes text (Ok tokens) × IsFirstBad text tokens at
RefusesPieces text (fault.Deep k) = (tokens : List Token) × (ps : List (List Terminal)) × IsCut text tokens ps × (first_deep 1 ps ≡ Some k)
RefusesPieces text fault.Memory = Unit {0}
RefusesPieces text e = ⊥

-- the tokens and the pieces of a text, none of them deep, or what refuses them
abbrev pub ReadsPieces : List ℕ → Result (Vec Token Global × Vec (Vec Terminal Global) Global) ReadErr → Type 0
ReadsPieces text (Ok x) = IsCut text x.0.items (map items x.1.items) × (first_deep 1 (map items x.1.items) ≡ None)
ReadsPieces text (Err e) = RefusesPieces text e

-- the first condition that holds refuses a text; want of memory says nothing of it
abbrev pub Refuses : List ℕ → ReadErr → Type 0
Refuses text (fault.Lex at) = RefusesPieces text (fault.Lex at)
Refuses text (fault.Number at) = RefusesPieces text (fault.Number at)
Refuses text (fault.Deep k) = RefusesPieces text (fault.Deep k)
Refuses text (fault.Section k) = (tokens : List Token) × (ps : List (List Terminal)) × IsCut text tokens ps × (first_deep 1 ps ≡ None) × IsUnformed text tokens ps k
Refuses text (fault.Names n) = (pkg : Package) × IsDraft text pkg × (32 < variable_count pkg) × (n ≡ variable_count pkg)
Refuses text (fault.Twice name) = (pkg : Package) × IsDraft text pkg × (variable_count pkg ≤ 32) × (name_again pkg ≡ Some name)
Refuses text (fault.Entries k n) = (pkg : Package) × IsDraft text pkg × (variable_count pkg ≤ 32) × (name_again pkg ≡ None) × (wrong_entries pkg ≡ Some (k, n))
Refuses text (fault.Undeclared name k) = (pkg : Package) × (draft : IsDraft text pkg) × (variable_count pkg ≤ 32) × (name_again pkg ≡ None) × (wrong_entries pkg ≡ None) × (s : Span) × (stray_of text draft.pieces pkg.names ≡ Some (s, k)) × (name ≡ span_text text s)
Refuses text fault.Memory = Unit {0}

abbrev pub Reads : List ℕ → Result Package ReadErr → Type 0
Reads text (Ok pkg) = IsPackage text pkg
Reads text (Err e) = Refuses text e

-- the package that a text is by the grammar, with its pieces whose names have their variables, or what refuses it
abbrev pub Drafts : List ℕ → Result (Package × Vec (Vec Terminal Global) Global) ReadErr → Type 0
Drafts text (Ok x) = (draft : IsDraft text x.0) × (map items x.1.items ≡ known_pieces text x.0.names draft.pieces)
Drafts text (Err e) = Refuses text e

-- nothing refuses a package by its names and entries, or the first condition that does
abbrev pub Checks : List ℕ → Package → List (List Terminal) → Result (Unit {0}) ReadErr → Type 0
Checks text pkg ps (Ok u) = (variable_count pkg ≤ 32) × (name_again pkg ≡ None) × (wrong_entries pkg ≡ None) × (first_stray_from (places_of pkg.names) INIT (drop CONTROLS ps) ≡ None)
Checks text pkg ps (Err (fault.Names n)) = (32 < variable_count pkg) × (n ≡ variable_count pkg)
Checks text pkg ps (Err (fault.Twice name)) = (variable_count pkg ≤ 32) × (name_again pkg ≡ Some name)
Checks text pkg ps (Err (fault.Entries k n)) = (variable_count pkg ≤ 32) × (name_again pkg ≡ None) × (wrong_entries pkg ≡ Some (k, n))
Checks text pkg ps (Err (fault.Undeclared name k)) = (variable_count pkg ≤ 32) × (name_again pkg ≡ None) × (wrong_entries pkg ≡ None) × (s : Span) × (first_stray_from (places_of pkg.names) INIT (drop CONTROLS ps) ≡ Some (s, k)) × (name ≡ span_text text s)
Checks text pkg ps (Err fault.Memory) = Unit {0}
Checks text pkg ps (Err e) = ⊥

-- consecutive tokens of a text
abbrev pub AreConsecutive : List ℕ → List Token → Type 0
AreConsecutive text tokens = (before : List Token) × (after : List Token) × Tokenizes text (Ok (before ++ tokens ++ after))

-- each variable may stand in a piece by its rule, or the first that may not is told with the piece's number
abbrev pub ChecksVariables : List ℕ → Rule → Places → ℕ → List Terminal → Result (Unit {0}) ReadErr → Type 0
ChecksVariables text r p k ts (Ok u) = first_stray r p 0 ts ≡ None
ChecksVariables text r p k ts (Err (fault.Undeclared name n)) = (n ≡ k) × (s : Span) × (first_stray r p 0 ts ≡ Some s) × (name ≡ span_text text s)
ChecksVariables text r p k ts (Err fault.Memory) = Unit {0}
ChecksVariables text r p k ts (Err e) = ⊥

-- some of a text's tokens, which are not deep as one piece, spell a part, and each variable is one of the
-- names' that may stand in a certificate
pub record IsPart {T : Type 0} (Form : List Terminal → T → Type 0) (text : List ℕ) (tokens : List Token) (names : Names) (tree : T) : Type 0 where
  pub terminals : List Terminal
  pub stand : AreTerminals text tokens terminals
  pub shallow : is_deep terminals ≡ false
  pub form : Form (map (known text names) terminals) tree
  pub declared : first_stray certificates (places_of names) 0 (map (known text names) terminals) ≡ None

-- the first condition that holds refuses a part: a refused number; depth; that it has not the form; a
-- variable that may not stand there. The tokens are the one piece 0
abbrev pub RefusesPart : {T : Type 0} → (List Terminal → T → Type 0) → List ℕ → List Token → Names → ReadErr → Type 0
RefusesPart Form text tokens names (fault.Number at) = IsFirstBad text tokens at
RefusesPart Form text tokens names (fault.Deep k) = (k ≡ 0) × ((terminals : List Terminal) × AreTerminals text tokens terminals × (is_deep terminals ≡ true))
RefusesPart {T} Form text tokens names (fault.Section k) = (k ≡ 0) × ((terminals : List Terminal) × AreTerminals text tokens terminals × (is_deep terminals ≡ false) × ((t : T) → Form (map (known text names) terminals) t → ⊥))
RefusesPart {T} Form text tokens names (fault.Undeclared name k) = (k ≡ 0) × ((terminals : List Terminal) × AreTerminals text tokens terminals × (is_deep terminals ≡ false) × ((t : T) × Form (map (known text names) terminals) t) × ((s : Span) × (first_stray certificates (places_of names) 0 (map (known text names) terminals) ≡ Some s) × (name ≡ span_text text s)))
RefusesPart Form text tokens names fault.Memory = Unit {0}
RefusesPart Form text tokens names e = ⊥

-- the part that some of a text's tokens are, or why they are none; the piece told is 0
abbrev pub ReadsPart : {X T : Type 0} → (X → T) → (List Terminal → T → Type 0) → List ℕ → List Token → Names → Result X ReadErr → Type 0
ReadsPart view Form text tokens names (Ok x) = IsPart Form text tokens names (view x)
ReadsPart view Form text tokens names (Err e) = RefusesPart Form text tokens names e

-- tokens are read as a part in one way only, but for want of memory
pub record IsReadOnce {T : Type 0} (Form : List Terminal → T → Type 0) (text : List ℕ) (tokens : List Token) (names : Names) : Type 0 where
  pub refused : (e f : ReadErr) → RefusesPart Form text tokens names e → RefusesPart Form text tokens names f → e ≢ fault.Memory → f ≢ fault.Memory → e ≡ f
  pub apart : (t : T) (e : ReadErr) → IsPart Form text tokens names t → RefusesPart Form text tokens names e → e ≢ fault.Memory → ⊥
  pub alike : (t u : T) → IsPart Form text tokens names t → IsPart Form text tokens names u → t ≡ u
