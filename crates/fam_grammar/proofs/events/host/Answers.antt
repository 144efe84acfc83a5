use Rattle.std.proofs.Common.{refl, subst, sym, ◌≡◌}
use Rattle.std.proofs.lemmas.Result.{err_from_is_err_and}
use Rattle.fam_journal.specs.declared.event.Event.{Event}
use Rattle.fam_journal.specs.declared.event.Event.TheVariants as event
use Rattle.fam_grammar.specs.Cursor.{Tells, words_left}
use Rattle.fam_grammar.specs.Lines.{host_line}
use Rattle.fam_grammar.specs.Reading.{Reading, ends_with, word_of}
use Rattle.fam_grammar.specs.Spellings.{name_of, uuid_of}
use Rattle.fam_grammar.proofs.Exits.{stopped}
use Rattle.fam_grammar.proofs.events.host.Goals as goal

pub returns-in_err-name-clause-value : goal.returns-in_err-name-clause-value
returns-in_err-name-clause-value c =
    let p = err_from_is_err_and c.from_residual.result c.from_residual.ensures.1 in
    rw (p.1, p.2) (stopped c.args.line c.in_err-name.field-0.0 (word_of name_of c.args.line.end (words_left c.args.words.now))
    (host_line c.args.line.end (words_left c.args.words.now)) (λ column is. rw is refl) c.in_err-name.ensures.value)

pub returns-in_err-name-clause-short : goal.returns-in_err-name-clause-short
returns-in_err-name-clause-short c = c.name.ensures.short

pub returns-in_err-uuid-clause-value : goal.returns-in_err-uuid-clause-value
returns-in_err-uuid-clause-value c =
    let p = err_from_is_err_and c.from_residual-in_err-uuid.result c.from_residual-in_err-uuid.ensures.1 in
    rw (p.1, p.2) (stopped c.args.line c.in_err-uuid.field-0.0 (word_of uuid_of c.args.line.end (words_left c.name.new.self))
    (host_line c.args.line.end (words_left c.args.words.now)) (λ column is. rw (c.in_ok-name.ensures.value, is) refl) c.in_err-uuid.ensures.value)

pub returns-in_err-uuid-clause-short : goal.returns-in_err-uuid-clause-short
returns-in_err-uuid-clause-short c = c.uuid.ensures.short

pub returns-clause-value : goal.returns-clause-value
returns-clause-value c =
    let whole : host_line c.args.line.end (words_left c.args.words.now) ≡ ends_with (event.Host c.in_ok-name.name c.in_ok-uuid.uuid)
    (words_left c.uuid.new.self) = rw (c.in_ok-name.ensures.value, c.in_ok-uuid.ensures.value) refl in
    subst (λ (r : Reading Event). Tells c.args.line (words_left c.ended.new.self) c.ended.result r) (sym whole) c.ended.ensures.value

pub returns-clause-short : goal.returns-clause-short
returns-clause-short c = c.ended.ensures.short
