use Rattle.fam_media.proofs.MediaLemmas.{eight-set_masked}
use Rattle.fam_media.proofs.memory_media.put_words.Goals as goal

pub returns-clause-image : goal.returns-clause-image
returns-clause-image c =
    eight-set_masked c.args.lines.now.items c.args.at c.args.words.now c.index.result.now c.masked_line-torn.result c.args.mask.0 c.requires c.index.ensures c.masked_line-torn.ensures
