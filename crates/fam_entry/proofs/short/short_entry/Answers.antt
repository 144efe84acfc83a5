use Rattle.fam_entry.proofs.ShortSlots.{short_fields}
use Rattle.fam_entry.proofs.short.short_entry.Goals as goal

pub returns : goal.returns
returns c = short_fields c.args.words.now c.requires.short c.kind_of.result c.args.path.now c.kind_of.ensures c.requires.path
