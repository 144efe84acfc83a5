use Rattle.std.proofs.Common.{refl, subst, sym, ◌≡◌}
use Rattle.std.proofs.lemmas.Result.{err_from_is_err_and}
use Rattle.fam_base.specs.declared.cmd.Cmd.TheVariants as cmd
use Rattle.fam_journal.specs.declared.event.Ask.{Ask}
use Rattle.fam_journal.specs.declared.event.Ask.TheVariants as ask
use Rattle.fam_grammar.specs.Cursor.{Tells, words_left}
use Rattle.fam_grammar.specs.Lines.{read_cmd_line}
use Rattle.fam_grammar.specs.Numbers.{number_of_text}
use Rattle.fam_grammar.specs.Reading.{Reading, ends_with, word_of}
use Rattle.fam_grammar.specs.Spellings.{count_of, path_of}
use Rattle.fam_grammar.proofs.Exits.{stopped}
use Rattle.fam_grammar.proofs.commands.read.Goals as goal

pub returns-in_err-path-clause-value : goal.returns-in_err-path-clause-value
returns-in_err-path-clause-value c =
    let p = err_from_is_err_and c.from_residual.result c.from_residual.ensures.1 in
    rw (p.1, p.2) (stopped c.args.line c.in_err-path.field-0.0 (word_of path_of c.args.line.end (words_left c.args.words.now))
    (read_cmd_line c.args.line.end (words_left c.args.words.now)) (λ column is. rw is refl) c.in_err-path.ensures.value)

pub returns-in_err-path-clause-short : goal.returns-in_err-path-clause-short
returns-in_err-path-clause-short c = c.path.ensures.short

pub returns-in_err-offset-clause-value : goal.returns-in_err-offset-clause-value
returns-in_err-offset-clause-value c =
    let p = err_from_is_err_and c.from_residual-in_err-offset.result c.from_residual-in_err-offset.ensures.1 in
    rw (p.1, p.2) (stopped c.args.line c.in_err-offset.field-0.0 (word_of number_of_text c.args.line.end (words_left c.path.new.self))
    (read_cmd_line c.args.line.end (words_left c.args.words.now)) (λ column is. rw (c.in_ok-path.ensures.value, is) refl)
    c.in_err-offset.ensures.value)

pub returns-in_err-offset-clause-short : goal.returns-in_err-offset-clause-short
returns-in_err-offset-clause-short c = c.number.ensures.short

pub returns-in_err-count-clause-value : goal.returns-in_err-count-clause-value
returns-in_err-count-clause-value c =
    let p = err_from_is_err_and c.from_residual-in_err-count.result c.from_residual-in_err-count.ensures.1 in
    rw (p.1, p.2) (stopped c.args.line c.in_err-count.field-0.0 (word_of count_of c.args.line.end (words_left c.number.new.self))
    (read_cmd_line c.args.line.end (words_left c.args.words.now))
    (λ column is. rw (c.in_ok-path.ensures.value, c.in_ok-offset.ensures.value, is) refl) c.in_err-count.ensures.value)

pub returns-in_err-count-clause-short : goal.returns-in_err-count-clause-short
returns-in_err-count-clause-short c = c.count.ensures.short

pub returns-clause-value : goal.returns-clause-value
returns-clause-value c =
    let whole : read_cmd_line c.args.line.end (words_left c.args.words.now)
    ≡ ends_with (ask.Plain (cmd.Read c.in_ok-path.path c.in_ok-offset.offset c.in_ok-count.count)) (words_left c.count.new.self) =
    rw (c.in_ok-path.ensures.value, c.in_ok-offset.ensures.value, c.in_ok-count.ensures.value) refl in
    subst (λ (r : Reading Ask). Tells c.args.line (words_left c.ended.new.self) c.ended.result r) (sym whole) c.ended.ensures.value

pub returns-clause-short : goal.returns-clause-short
returns-clause-short c = c.ended.ensures.short
