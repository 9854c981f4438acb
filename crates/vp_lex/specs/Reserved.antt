-- The reserved words.
use Rattle.std.specs.Prelude.{ℕ, ◌≡◌, List, codes}
use Rattle.vp_lex.specs.declared.word.ReservedWord.{ReservedWord}
use Rattle.vp_lex.specs.declared.word.ReservedWord.TheVariants as word

-- how a reserved word is spelled
abbrev pub word_text : ReservedWord → List ℕ
word_text word.Package = codes "package"
word_text word.Params = codes "params"
word_text word.States = codes "states"
word_text word.Controls = codes "controls"
word_text word.Init = codes "init"
word_text word.Inv = codes "inv"
word_text word.Safe = codes "safe"
word_text word.Ctrl = codes "ctrl"
word_text word.Time = codes "time"
word_text word.To = codes "to"
word_text word.Flow = codes "flow"
word_text word.Slack = codes "slack"
word_text word.From = codes "from"
word_text word.Domain = codes "domain"
word_text word.Fallback = codes "fallback"
word_text word.Cert = codes "cert"
word_text word.Step = codes "step"
word_text word.Pos = codes "pos"
word_text word.Sum = codes "sum"
word_text word.Eq = codes "eq"
word_text word.Of = codes "of"
word_text word.Times = codes "times"
word_text word.Sq = codes "sq"
word_text word.If = codes "if"
word_text word.Else = codes "else"
word_text word.True = codes "true"
word_text word.False = codes "false"
word_text word.Tau = codes "tau"

-- the bytes spell a reserved word
unfoldable pub IsReserved : List ℕ → Type 0
IsReserved bytes = (w : ReservedWord) × (bytes ≡ word_text w)
