-- Replies as lines, each with its LF.
use Rattle.std.specs.Prelude.{◌≡◌, ℕ, ◌-◌, ◌^◌, ◌<◌, ◌≤◌, ◌==◌, ◌++◌, ◌∷◌, [], ℤ, Bool, List, All, length, take, if◌then◌else◌, codes}
use Rattle.std.specs.List.{flat_map, slice_split}
use Rattle.std.specs.Fmt.{decimal}
use Rattle.vp_words.specs.declared.record.Reply.{Reply}
use Rattle.vp_words.specs.declared.record.Reply.TheVariants as reply
use Rattle.vp_words.specs.declared.record.Why.{Why}
use Rattle.vp_words.specs.declared.record.Why.TheVariants as why
use Rattle.vp_words.specs.Number.{IsWord}
use Rattle.vp_words.specs.Record.{padded}
use Rattle.vp_words.specs.Text.{word_text}

-- a word behind one space
abbrev pub spaced_word : ℤ → List ℕ
spaced_word word = 32 ∷ word_text word

-- whose controls an act has: the fallback's, or those chosen
abbrev pub source_text : Bool → List ℕ
source_text fallback = if fallback then codes "act fallback" else codes "act chosen"

-- the truth of the conjunct that a violation names
abbrev pub truth_text : Bool → List ℕ
truth_text unknown = if unknown then codes " unknown\n" else codes " false\n"

-- a violation: the monitor, and for two of them the number of the conjunct and its truth
abbrev pub violation_line : Why → List ℕ
violation_line (why.Init k unknown) = codes "violation init " ++ decimal k ++ truth_text unknown
violation_line (why.Plant k unknown) = codes "violation plant " ++ decimal k ++ truth_text unknown
violation_line why.Fallback = codes "violation fallback\n"

-- the line of a reply, with its LF
abbrev pub reply_line : Reply → List ℕ
reply_line reply.Ok = codes "ok\n"
reply_line (reply.Act words len fallback) = source_text fallback ++ flat_map spaced_word (take len words) ++ codes "\n"
reply_line (reply.Violation why) = violation_line why

-- the number of a conjunct has 32 bits
abbrev pub HasNumber : Why → Type 0
HasNumber (why.Init k unknown) = k < 2 ^ 32
HasNumber (why.Plant k unknown) = k < 2 ^ 32
HasNumber why.Fallback = Unit {0}

-- a reply that can be given: an act has at most 16 words and zeros behind them
abbrev pub IsReply : Reply → Type 0
IsReply reply.Ok = Unit {0}
IsReply (reply.Act words len fallback) = (len ≤ 16) × All IsWord (take len words) × (words ≡ padded 16 (take len words))
IsReply (reply.Violation why) = HasNumber why

-- one line: its last byte is its one LF
abbrev pub IsOneLine : List ℕ → Type 0
IsOneLine text = slice_split (λ b. b == 10) text ≡ take (length text - 1) text ∷ [] ∷ []
