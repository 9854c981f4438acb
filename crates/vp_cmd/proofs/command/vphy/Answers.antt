use Rattle.std.proofs.Common.{Option, sym, subst, refl}
use Rattle.vp_cmd.specs.Commands.{Command, chosen, texts}
use Rattle.vp_cmd.specs.Dues.{IsOwed}
use Rattle.vp_cmd.specs.Outcomes.{usage}
use Rattle.vp_cmd.proofs.Streaming.{answers_run, complete_printed, complete_run, fulfils_due, fulfils_run, owed_always, owed_usage, shown_printed, shown_run, unopened_result}
use Rattle.vp_cmd.proofs.command.vphy.Goals as goal

pub returns-in-Ok-Usage-clause-content : goal.returns-in-Ok-Usage-clause-content
returns-in-Ok-Usage-clause-content g c =
    let files = g.St.Store.files c.args.store.now in
    let left = g.So.Source.left c.args.input.now in
    let P : Option Command → Type 0 = λ command. IsOwed files left command usage in
    fulfils_due (IsOwed files left (chosen (texts c.args.words.now))) usage c.print.result _ _ tt (subst P (sym (rw c.in-Ok-Usage.field-0-is at c.in-Ok-Usage.ensures.task)) (owed_usage files left usage refl)) c.print.ensures.text

pub returns-in-Ok-Usage-clause-complete : goal.returns-in-Ok-Usage-clause-complete
returns-in-Ok-Usage-clause-complete g c =
    let files = g.St.Store.files c.args.store.now in
    let left = g.So.Source.left c.args.input.now in
    let P : Option Command → Type 0 = λ command. IsOwed files left command usage in
    complete_printed (IsOwed files left (chosen (texts c.args.words.now))) usage c.print.result _ _ _ _ _ _ _ _ tt (subst P (sym (rw c.in-Ok-Usage.field-0-is at c.in-Ok-Usage.ensures.task)) (owed_usage files left usage refl)) c.print.ensures.text c.print.ensures.cause

pub returns-in-Ok-Print-clause-content : goal.returns-in-Ok-Print-clause-content
returns-in-Ok-Print-clause-content g c =
    let files = g.St.Store.files c.args.store.now in
    let left = g.So.Source.left c.args.input.now in
    let command = chosen (texts c.args.words.now) in
    fulfils_due (IsOwed files left command) c.in-Ok-Print.due c.print_due.result _ _ c.print_due.ensures.printed (owed_always files left command c.in-Ok-Print.due (rw c.in-Ok-Print.field-0-is at c.in-Ok-Print.ensures.task).1) c.print_due.ensures.text

pub returns-in-Ok-Print-clause-complete : goal.returns-in-Ok-Print-clause-complete
returns-in-Ok-Print-clause-complete g c =
    let files = g.St.Store.files c.args.store.now in
    let left = g.So.Source.left c.args.input.now in
    let command = chosen (texts c.args.words.now) in
    complete_printed (IsOwed files left command) c.in-Ok-Print.due c.print_due.result _ _ _ _ _ _ _ _ c.print_due.ensures.printed (owed_always files left command c.in-Ok-Print.due (rw c.in-Ok-Print.field-0-is at c.in-Ok-Print.ensures.task).1) c.print_due.ensures.text c.print_due.ensures.cause

pub returns-in-Ok-Stream-clause-content : goal.returns-in-Ok-Stream-clause-content
returns-in-Ok-Stream-clause-content g c =
    fulfils_run (g.St.Store.files c.args.store.now) (g.So.Source.left c.args.input.now) (chosen (texts c.args.words.now)) c.in-Ok-Stream.session.code c.stream.result _ _ (rw c.in-Ok-Stream.field-0-is at c.in-Ok-Stream.ensures.task).0 c.stream.ensures.content

pub returns-in-Ok-Stream-clause-complete : goal.returns-in-Ok-Stream-clause-complete
returns-in-Ok-Stream-clause-complete g c =
    let files = g.St.Store.files c.args.store.now in
    let left = g.So.Source.left c.args.input.now in
    let command = chosen (texts c.args.words.now) in
    complete_run (IsOwed files left command) c.stream.result _ _ _ _ _ _ _ _ c.stream.ensures.streamed
    (fulfils_run files left command c.in-Ok-Stream.session.code c.stream.result _ _ (rw c.in-Ok-Stream.field-0-is at c.in-Ok-Stream.ensures.task).0 c.stream.ensures.content)
    c.stream.ensures.read_cause c.stream.ensures.write_cause

pub returns-in-Err-Due-clause-content : goal.returns-in-Err-Due-clause-content
returns-in-Err-Due-clause-content g c =
    let files = g.St.Store.files c.args.store.now in
    let left = g.So.Source.left c.args.input.now in
    let command = chosen (texts c.args.words.now) in
    fulfils_due (IsOwed files left command) c.in-Err-Due.due c.print_due-in-Err-Due.result _ _ c.print_due-in-Err-Due.ensures.printed (owed_always files left command c.in-Err-Due.due (rw c.in-Err-Due.field-0-is at c.in-Err-Due.ensures.halted)) c.print_due-in-Err-Due.ensures.text

pub returns-in-Err-Due-clause-complete : goal.returns-in-Err-Due-clause-complete
returns-in-Err-Due-clause-complete g c =
    let files = g.St.Store.files c.args.store.now in
    let left = g.So.Source.left c.args.input.now in
    let command = chosen (texts c.args.words.now) in
    complete_printed (IsOwed files left command) c.in-Err-Due.due c.print_due-in-Err-Due.result _ _ _ _ _ _ _ _ c.print_due-in-Err-Due.ensures.printed (owed_always files left command c.in-Err-Due.due (rw c.in-Err-Due.field-0-is at c.in-Err-Due.ensures.halted)) c.print_due-in-Err-Due.ensures.text c.print_due-in-Err-Due.ensures.cause

pub returns-in-Ok-Print-clause-shows : goal.returns-in-Ok-Print-clause-shows
returns-in-Ok-Print-clause-shows g c =
    shown_printed (g.St.Store.files c.args.store.now) (chosen (texts c.args.words.now)) c.in-Ok-Print.due c.print_due.result _ _ (rw c.in-Ok-Print.field-0-is at c.in-Ok-Print.ensures.shown) c.print_due.ensures.text

pub returns-in-Ok-Stream-clause-shows : goal.returns-in-Ok-Stream-clause-shows
returns-in-Ok-Stream-clause-shows g c =
    λ done. shown_run (g.St.Store.files c.args.store.now) (chosen (texts c.args.words.now)) c.in-Ok-Stream.session.code _ _ (rw c.in-Ok-Stream.field-0-is at c.in-Ok-Stream.ensures.task).0

pub returns-in-Ok-Stream-clause-answers : goal.returns-in-Ok-Stream-clause-answers
returns-in-Ok-Stream-clause-answers g c =
    λ reads. answers_run (g.St.Store.files c.args.store.now) (chosen (texts c.args.words.now)) c.in-Ok-Stream.session.code c.stream.result _ _ _ (rw c.in-Ok-Stream.field-0-is at c.in-Ok-Stream.ensures.task).0 c.stream.ensures.content

pub returns-in-Err-Due-clause-shows : goal.returns-in-Err-Due-clause-shows
returns-in-Err-Due-clause-shows g c =
    λ done. absurd ((unopened_result c.in-Err-Due.due c.print_due-in-Err-Due.result _ _ (rw c.in-Err-Due.field-0-is at c.in-Err-Due.ensures.refused) c.print_due-in-Err-Due.ensures.text).0 done)

pub returns-in-Err-Due-clause-answers : goal.returns-in-Err-Due-clause-answers
returns-in-Err-Due-clause-answers g c =
    λ reads answered. absurd ((unopened_result c.in-Err-Due.due c.print_due-in-Err-Due.result _ _ (rw c.in-Err-Due.field-0-is at c.in-Err-Due.ensures.refused) c.print_due-in-Err-Due.ensures.text).1 answered)
