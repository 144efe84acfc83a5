use Rattle.std.proofs.Common.{◌∙◌, List, ap}
use Rattle.fam_machine.specs.declared.cell.Cell.TheVariants.{Clean}
use Rattle.fam_machine.specs.Caches.{with_cell}
use Rattle.fam_base.specs.Image.{eight}
use Rattle.fam_cache.specs.declared.blocks.Block.{Block}
use Rattle.fam_cache.specs.Blocks.{cache_of, lines_of}
use Rattle.fam_cache.proofs.MemoryLemmas.{brought_absent, clean_held}
use Rattle.fam_cache.proofs.cache.bring_absent.Goals as goal

pub returns-in-Ok-read-clause-cache : goal.returns-in-Ok-read-clause-cache
returns-in-Ok-read-clause-cache g c =
    brought_absent (g.M.Media.state c.args.media.now).image c.args.line.0 c.in-Ok-read.words (lines_of c.args.places.now) (lines_of c.put_copy.new.cache) c.requires.absent c.in-Ok-read.ensures.words
    (c.put_copy.ensures.cache ∙ ap (λ (bs : List Block). with_cell c.args.line.0 (Clean (eight c.in-Ok-read.words)) (cache_of bs)) c.make_room.ensures.same)

pub returns-in-Ok-read-clause-held : goal.returns-in-Ok-read-clause-held
returns-in-Ok-read-clause-held g c =
    clean_held c.args.line.0 (eight c.in-Ok-read.words) (lines_of c.make_room.new.cache) (lines_of c.put_copy.new.cache) c.put_copy.ensures.cache
