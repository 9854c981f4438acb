-- What the steps of reading a part give.
use Rattle.std.specs.Prelude.{ℕ, ◌≡◌, true, false, List, map, Result, Ok, Err}
use Rattle.std.specs.declared.vec.Vec.{Vec}
use Rattle.std.specs.declared.alloc.Global.{Global}
use Rattle.vp_terms.specs.declared.expr.Places.{Places}
use Rattle.vp_terms.specs.declared.package.Names.{Names}
use Rattle.vp_lex.specs.declared.token.Token.{Token}
use Rattle.vp_grammar.specs.declared.fault.ParseErr.{ParseErr}
use Rattle.vp_grammar.specs.declared.terminal.Terminal.{Terminal}
use Rattle.vp_read.specs.declared.fault.ReadErr.{ReadErr}
use Rattle.vp_read.specs.declared.fault.ReadErr.TheVariants as fault
use Rattle.vp_read.specs.Spelling.{AreTerminals, IsFirstBad}
use Rattle.vp_read.specs.Naming.{known}
use Rattle.vp_read.specs.Pieces.{is_deep}
use Rattle.vp_read.specs.Sections.{of_form}
use Rattle.vp_read.specs.Reading.{ChecksVariables, certificates}

-- the terminals of the tokens, which are not deep, with the variables that their names name; or the first
-- refused number, or that they are deep
abbrev pub GivesKnown : List ℕ → List Token → Names → Result (Vec Terminal Global) ReadErr → Type 0
GivesKnown text tokens names (Ok v) = (terminals : List Terminal) × AreTerminals text tokens terminals × (is_deep terminals ≡ false) × (v.items ≡ map (known text names) terminals)
GivesKnown text tokens names (Err (fault.Number at)) = IsFirstBad text tokens at
GivesKnown text tokens names (Err (fault.Deep k)) = (k ≡ 0) × ((terminals : List Terminal) × AreTerminals text tokens terminals × (is_deep terminals ≡ true))
GivesKnown text tokens names (Err fault.Memory) = Unit {0}
GivesKnown text tokens names (Err e) = ⊥

-- what was read of these terminals, where each of their variables may stand in a certificate
abbrev pub GivesPart : {X : Type 0} → List ℕ → Places → List Terminal → Result X ParseErr → Result X ReadErr → Type 0
GivesPart text p ts (Ok x) (Ok y) = (x ≡ y) × ChecksVariables text certificates p 0 ts (Ok tt)
GivesPart text p ts (Ok x) (Err e) = ChecksVariables text certificates p 0 ts (Err e)
GivesPart text p ts (Err why) (Ok y) = ⊥
GivesPart text p ts (Err why) (Err e) = e ≡ of_form 0 why
