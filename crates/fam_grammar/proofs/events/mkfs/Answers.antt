use Rattle.std.proofs.Common.{refl}
use Rattle.std.proofs.lemmas.Result.{err_from_is_err_and}
use Rattle.fam_grammar.specs.Cursor.{words_left}
use Rattle.fam_grammar.specs.Lines.{mkfs_line}
use Rattle.fam_grammar.specs.Options.{mkfs_options, no_mkfs_options}
use Rattle.fam_grammar.specs.Reading.{word_of}
use Rattle.fam_grammar.specs.Spellings.{name_of, uuid_of}
use Rattle.fam_grammar.proofs.Exits.{stopped}
use Rattle.fam_grammar.proofs.events.mkfs.Goals as goal

pub returns-in_err-name-clause-value : goal.returns-in_err-name-clause-value
returns-in_err-name-clause-value c =
    let p = err_from_is_err_and c.from_residual.result c.from_residual.ensures.1 in
    rw (p.1, p.2) (stopped c.args.line c.in_err-name.field-0.0 (word_of name_of c.args.line.end (words_left c.args.words.now))
    (mkfs_line c.args.line.end (words_left c.args.words.now)) (λ column is. rw is refl) c.in_err-name.ensures.value)

pub returns-in_err-name-clause-short : goal.returns-in_err-name-clause-short
returns-in_err-name-clause-short c = c.name.ensures.short

pub returns-in_err-fs-clause-value : goal.returns-in_err-fs-clause-value
returns-in_err-fs-clause-value c =
    let p = err_from_is_err_and c.from_residual-in_err-fs.result c.from_residual-in_err-fs.ensures.1 in
    rw (p.1, p.2) (stopped c.args.line c.in_err-fs.field-0.0 (word_of uuid_of c.args.line.end (words_left c.name.new.self))
    (mkfs_line c.args.line.end (words_left c.args.words.now)) (λ column is. rw (c.in_ok-name.ensures.value, is) refl) c.in_err-fs.ensures.value)

pub returns-in_err-fs-clause-short : goal.returns-in_err-fs-clause-short
returns-in_err-fs-clause-short c = c.uuid.ensures.short

pub returns-in_err-options-clause-value : goal.returns-in_err-options-clause-value
returns-in_err-options-clause-value c =
    let p = err_from_is_err_and c.from_residual-in_err-options.result c.from_residual-in_err-options.ensures.1 in
    rw (p.1, p.2) (stopped c.args.line c.in_err-options.field-0.0 (mkfs_options no_mkfs_options (words_left c.uuid.new.self))
    (mkfs_line c.args.line.end (words_left c.args.words.now)) (λ column is. rw (c.in_ok-name.ensures.value, c.in_ok-fs.ensures.value, is) refl)
    c.in_err-options.ensures.value)

pub returns-in_err-options-clause-short : goal.returns-in_err-options-clause-short
returns-in_err-options-clause-short c = c.mkfs_options.ensures.short
