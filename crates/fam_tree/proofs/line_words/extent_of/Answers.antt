use Rattle.std.proofs.Common.{◌≡◌, ◌∙◌}
use Rattle.fam_tree.proofs.WordsRead.{extent_made, length_read, none_some, offset_read, some_same}
use Rattle.fam_tree.proofs.line_words.extent_of.Goals as goal

pub returns-in_err-offset-clause-read : goal.returns-in_err-offset-clause-read
returns-in_err-offset-clause-read c = λ x fits same.
    let read = c.in_err-offset.ensures.read x.offset fits.0 (c.cut.ensures.front ∙ offset_read x c.args.word.now fits same) in
    absurd (none_some _ read)

pub returns-in_err-length-clause-read : goal.returns-in_err-length-clause-read
returns-in_err-length-clause-read c = λ x fits same.
    let read = c.in_err-length.ensures.read x.length fits.1 (c.cut.ensures.back ∙ length_read x c.args.word.now fits same) in
    absurd (none_some _ read)

pub returns-clause-read : goal.returns-clause-read
returns-clause-read c = λ x fits same.
    let first = c.in_ok-offset.ensures.read x.offset fits.0 (c.cut.ensures.front ∙ offset_read x c.args.word.now fits same) in
    let second = c.in_ok-length.ensures.read x.length fits.1 (c.cut.ensures.back ∙ length_read x c.args.word.now fits same) in
    let offset : c.in_ok-offset.offset ≡ x.offset = some_same _ _ first in
    let len : c.in_ok-length.length ≡ x.length = some_same _ _ second in
    extent_made x c.in_ok-offset.offset c.in_ok-length.length offset len
