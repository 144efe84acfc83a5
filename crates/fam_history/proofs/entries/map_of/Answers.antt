use Rattle.std.proofs.Common.{sym, ◌∙◌}
use Rattle.fam_history.proofs.ListedWords.{dash_read, simple_read, striped_read}
use Rattle.fam_history.proofs.entries.map_of.Goals as goal

pub returns-then-is : goal.returns-then-is
returns-then-is c = dash_read c.args.word.now c.new.result (sym c.is.ensures ∙ c.if-is.true) c.new.ensures

pub returns-then-chunk-word : goal.returns-then-chunk-word
returns-then-chunk-word c =
    c.simple.ensures
    ∙ simple_read c.args.word.now c.cut.result.0.now c.extents_of.result (sym c.is.ensures ∙ c.if-is.false) c.cut.ensures.front c.if-chunk-word.true c.extents_of.ensures

pub returns : goal.returns
returns c =
    c.striped.ensures
    ∙ striped_read c.args.word.now c.cut.result.0.now c.cut.result.1.now c.number.result c.extents_of-2.result (sym c.is.ensures ∙ c.if-is.false) c.cut.ensures.front c.cut.ensures.back
    c.if-chunk-word.false c.number.ensures c.extents_of-2.ensures
