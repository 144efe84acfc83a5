use Rattle.std.proofs.lemmas.List.{map-set}
use Rattle.fam_base.specs.Image.{eight}
use Rattle.fam_media.proofs.memory_media.put_line.Goals as goal

pub returns-clause-image : goal.returns-clause-image
returns-clause-image c = map-set eight c.args.lines.now.items c.args.at c.args.words.now
