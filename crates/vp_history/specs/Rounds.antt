-- The rounds of a history, and that it is a sampled run of a model.
use Rattle.std.specs.Prelude.{◌+◌, List, [], ◌∷◌}
use Rattle.vp_words.specs.declared.record.Counts.{Counts}
use Rattle.vp_words.specs.declared.record.Kind.{Kind}
use Rattle.vp_words.specs.declared.record.Kind.TheVariants.{Sense}
use Rattle.vp_words.specs.declared.record.Reply.{Reply}
use Rattle.vp_words.specs.declared.record.Reply.TheVariants.{Ok}
use Rattle.vp_words.specs.Exchanges.{Exchange}
use Rattle.vp_terms.specs.Model.{Model, Round, SampledRun}
use Rattle.vp_history.specs.History.{History, Now, after, first}

-- a sensing answered `ok` ends a round: the controls in force, the time, and the new states
abbrev pub round_onto : History → Kind → Reply → Now → List Round → List Round
round_onto h Sense Ok now rounds =
    record { controls = now.controls; time = h.times (now.sensing + 1); states = h.states (now.sensing + 1) } ∷ rounds
round_onto h kind reply now rounds = rounds

-- the rounds from a record on
abbrev pub rounds_from : Counts → History → Now → List Exchange → List Round
rounds_from c h now [] = []
rounds_from c h now (e ∷ es) = round_onto h e.kind e.reply now (rounds_from c h (after c e.kind e.words e.reply now) es)

-- the model may start where the history does, and go through its rounds
pub record IsRun (m : Model) (c : Counts) (h : History) (now : Now) (es : List Exchange) : Type 0 where
  pub starts : m.init h.params (h.states 0) now.controls
  pub goes : SampledRun m h.params (h.states 0) now.controls (rounds_from c h now es)

-- and so where the init record was answered `ok`; else there is no run yet
abbrev pub StartsRun : Model → Counts → History → Now → List Exchange → Reply → Type 0
StartsRun m c h now es Ok = IsRun m c h now es
StartsRun m c h now es reply = Unit {0}

-- the history that answered records speak of is a sampled run of the model
abbrev pub IsSampledRun : Model → Counts → History → List Exchange → Type 0
IsSampledRun m c h [] = Unit {0}
IsSampledRun m c h (e ∷ es) = StartsRun m c h (after c e.kind e.words e.reply first) es e.reply
