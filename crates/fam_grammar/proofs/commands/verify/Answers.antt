use Rattle.std.proofs.Common.{refl}
use Rattle.std.proofs.lemmas.Result.{err_from_is_err_and}
use Rattle.fam_grammar.specs.Cursor.{words_left}
use Rattle.fam_grammar.specs.Lines.{verify_line}
use Rattle.fam_grammar.specs.Reading.{word_of}
use Rattle.fam_grammar.specs.Spellings.{path_of}
use Rattle.fam_grammar.proofs.Exits.{stopped}
use Rattle.fam_grammar.proofs.commands.verify.Goals as goal

pub returns-in_err-path-clause-value : goal.returns-in_err-path-clause-value
returns-in_err-path-clause-value c =
    let p = err_from_is_err_and c.from_residual.result c.from_residual.ensures.1 in
    rw (p.1, p.2) (stopped c.args.line c.in_err-path.field-0.0 (word_of path_of c.args.line.end (words_left c.args.words.now))
    (verify_line c.args.line.end (words_left c.args.words.now)) (λ column is. rw is refl) c.in_err-path.ensures.value)

pub returns-in_err-path-clause-short : goal.returns-in_err-path-clause-short
returns-in_err-path-clause-short c = c.path.ensures.short
