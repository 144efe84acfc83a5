use Rattle.std.proofs.Common.{◌≡◌, Some, ap, ◌∙◌}
use Rattle.std.proofs.lemmas.Fmt.{parse-decimal}
use Rattle.fam_tree.proofs.WordsRead.{decimal_is_text}
use Rattle.fam_tree.proofs.line_words.number_of.Goals as goal

pub returns-in-Ok-parse-clause-read : goal.returns-in-Ok-parse-clause-read
returns-in-Ok-parse-clause-read c = λ n fits same.
    let read = parse-decimal 64 n c.in-Ok.text.now c.parse.result fits fits (c.in-Ok.ensures.cases.0 ∙ same) c.parse.ensures.value.0 in
    let is : c.in-Ok-parse.number ≡ n = cc (read, c.in-Ok-parse.is) in
    ap Some is

pub returns-in-Err-parse-clause-read : goal.returns-in-Err-parse-clause-read
returns-in-Err-parse-clause-read c = λ n fits same.
    let read = parse-decimal 64 n c.in-Ok.text.now c.parse.result fits fits (c.in-Ok.ensures.cases.0 ∙ same) c.parse.ensures.value.0 in
    absurd (cc (read, c.in-Err-parse.is))

pub returns-in-Err-clause-read : goal.returns-in-Err-clause-read
returns-in-Err-clause-read c = λ n fits same. absurd (c.in-Err.ensures.cases.0 (decimal_is_text c.args.word.now n fits same))
