use Rattle.std.proofs.Common.{refl}
use Rattle.std.proofs.lemmas.Result.{err_from_is_err_and}
use Rattle.fam_grammar.specs.Cursor.{words_left}
use Rattle.fam_grammar.specs.Lines.{ask_line, begin_line}
use Rattle.fam_grammar.specs.Reading.{word_of}
use Rattle.fam_grammar.specs.Spellings.{name_of}
use Rattle.fam_grammar.proofs.Exits.{stopped}
use Rattle.fam_grammar.proofs.events.begin.Goals as goal

pub returns-in_err-name-clause-value : goal.returns-in_err-name-clause-value
returns-in_err-name-clause-value c =
    let p = err_from_is_err_and c.from_residual.result c.from_residual.ensures.1 in
    rw (p.1, p.2) (stopped c.args.line c.in_err-name.field-0.0 (word_of name_of c.args.line.end (words_left c.args.words.now))
    (begin_line c.args.line.end (words_left c.args.words.now)) (λ column is. rw is refl) c.in_err-name.ensures.value)

pub returns-in_err-name-clause-short : goal.returns-in_err-name-clause-short
returns-in_err-name-clause-short c = c.name.ensures.short

pub returns-in_err-asked-clause-value : goal.returns-in_err-asked-clause-value
returns-in_err-asked-clause-value c =
    let p = err_from_is_err_and c.from_residual-in_err-asked.result c.from_residual-in_err-asked.ensures.1 in
    rw (p.1, p.2) (stopped c.args.line c.in_err-asked.field-0.0 (ask_line c.args.line.end (words_left c.name.new.self))
    (begin_line c.args.line.end (words_left c.args.words.now)) (λ column is. rw (c.in_ok-name.ensures.value, is) refl)
    c.in_err-asked.ensures.value)

pub returns-in_err-asked-clause-short : goal.returns-in_err-asked-clause-short
returns-in_err-asked-clause-short c = c.ask.ensures.short
