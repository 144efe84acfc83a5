use Rattle.std.proofs.Common.{arith}
use Rattle.std.proofs.lemmas.List.{get_or_read}
use Rattle.fam_alloc.proofs.LayerLemmas.{all_ones, full_more}
use Rattle.fam_alloc.proofs.layers.hint.Goals as goal

pub returns-clause-sound : goal.returns-clause-sound
returns-clause-sound c =
    let words = c.args.words.now in
    full_more words.items c.args.full.now.items c.mark.new.words.items c.args.word c.requires.sound
    (all_ones words.items c.args.word c.index.result.now
    (get_or_read words.items c.args.word c.index.result.now (omega (arith, words.ok.0, c.requires.within)) c.index.ensures 0)
    c.if-index.false)
    c.mark.ensures.marked
