use Rattle.std.proofs.Common.{rules}
use Rattle.fam_media.proofs.MediaLemmas.{eight-blank}
use Rattle.fam_media.proofs.memory_media.MemMedia.new.Goals as goal

pub returns : goal.returns
returns c = search (rules, eight-blank)
