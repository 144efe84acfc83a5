use Rattle.std.proofs.Common.{rules}
use Rattle.fam_media.proofs.MediaLemmas.{modelled_after_line, modelled_after_words}
use Rattle.fam_media.proofs.memory_media.MemMediaMedia.write.Goals as goal

pub returns-in-None-clause-written : goal.returns-in-None-clause-written
returns-in-None-clause-written c = modelled_after_line c.args.self.now.image _ c.args.line.0 c.args.words.now (search rules)

pub returns-in-Some-clause-torn : goal.returns-in-Some-clause-torn
returns-in-Some-clause-torn c =
    modelled_after_words c.args.self.now.image _ c.args.line.0 c.args.words.now c.in-Some.mask.0 (search rules) (search rules)
