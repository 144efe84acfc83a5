use Rattle.std.proofs.Common.{refl}
use Rattle.std.proofs.lemmas.Result.{err_from_is_err_and}
use Rattle.fam_grammar.specs.Cursor.{words_left}
use Rattle.fam_grammar.specs.Lines.{mkdir_line, mkdir_takes}
use Rattle.fam_grammar.specs.Options.{file_options, no_file_options}
use Rattle.fam_grammar.specs.Reading.{word_of}
use Rattle.fam_grammar.specs.Spellings.{path_of}
use Rattle.fam_grammar.proofs.Exits.{stopped}
use Rattle.fam_grammar.proofs.commands.mkdir.Goals as goal

pub returns-in_err-path-clause-value : goal.returns-in_err-path-clause-value
returns-in_err-path-clause-value c =
    let p = err_from_is_err_and c.from_residual.result c.from_residual.ensures.1 in
    rw (p.1, p.2) (stopped c.args.line c.in_err-path.field-0.0 (word_of path_of c.args.line.end (words_left c.args.words.now))
    (mkdir_line c.args.line.end (words_left c.args.words.now)) (λ column is. rw is refl) c.in_err-path.ensures.value)

pub returns-in_err-path-clause-short : goal.returns-in_err-path-clause-short
returns-in_err-path-clause-short c = c.path.ensures.short

pub returns-in_err-options-clause-value : goal.returns-in_err-options-clause-value
returns-in_err-options-clause-value c =
    let p = err_from_is_err_and c.from_residual-in_err-options.result c.from_residual-in_err-options.ensures.1 in
    rw (p.1, p.2) (stopped c.args.line c.in_err-options.field-0.0 (file_options mkdir_takes no_file_options (words_left c.path.new.self))
    (mkdir_line c.args.line.end (words_left c.args.words.now)) (λ column is. rw (c.in_ok-path.ensures.value, is) refl)
    c.in_err-options.ensures.value)

pub returns-in_err-options-clause-short : goal.returns-in_err-options-clause-short
returns-in_err-options-clause-short c = c.file_options.ensures.short

pub returns-clause-value : goal.returns-clause-value
returns-clause-value c = rw (c.in_ok-path.ensures.value, c.in_ok-options.ensures.value, c.attr_of-attr.ensures) refl

pub returns-clause-short : goal.returns-clause-short
returns-clause-short c = c.file_options.ensures.short
