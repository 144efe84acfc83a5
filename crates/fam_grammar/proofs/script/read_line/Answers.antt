use Rattle.std.proofs.Common.{refl, ap, ◌∙◌}
use Rattle.std.proofs.lemmas.Result.{err_from_is_err_and}
use Rattle.fam_journal.specs.declared.event.Event.{Event}
use Rattle.fam_grammar.specs.Cursor.{words_left}
use Rattle.fam_grammar.specs.Reading.{Reading}
use Rattle.fam_grammar.specs.Scripts.{event_or_column}
use Rattle.fam_grammar.proofs.EventLines.{bad_event, no_event, one_event}
use Rattle.fam_grammar.proofs.script.read_line.Goals as goal

pub returns-in_default-clause-value : goal.returns-in_default-clause-value
returns-in_default-clause-value c = no_event c.args.bytes.now (c.in_default.ensures.none refl)

pub returns-in_default-clause-bad : goal.returns-in_default-clause-bad
returns-in_default-clause-bad c = tt

pub returns-in_err-event-clause-value : goal.returns-in_err-event-clause-value
returns-in_err-event-clause-value c =
    let p = err_from_is_err_and c.from_residual.result c.from_residual.ensures.1 in
    rw p.1 tt

pub returns-in_err-event-clause-bad : goal.returns-in_err-event-clause-bad
returns-in_err-event-clause-bad c =
    let p = err_from_is_err_and c.from_residual.result c.from_residual.ensures.1 in
    let some = c.in-Some.ensures.words in
    rw (p.1, p.2) (bad_event c.args.bytes.now (words_left c.in-Some.words) c.args.number c.in-Some.line some.0 some.1 c.in-Some.ensures.line c.in_err-event.field-0.0 c.in_err-event.ensures.value)

pub returns-clause-value : goal.returns-clause-value
returns-clause-value c =
    let some = c.in-Some.ensures.words in
    one_event c.args.bytes.now (words_left c.in-Some.words) c.args.number c.in-Some.line some.0 some.1 c.in-Some.ensures.line
    ∙ ap (λ (r : Reading Event). event_or_column r) c.in_ok-event.ensures.value

pub returns-clause-bad : goal.returns-clause-bad
returns-clause-bad c = tt
