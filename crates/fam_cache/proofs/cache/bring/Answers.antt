use Rattle.fam_cache.specs.Blocks.{lines_of}
use Rattle.fam_cache.proofs.MemoryLemmas.{held_same}
use Rattle.fam_cache.proofs.cache.bring.Goals as goal

pub returns-in-Some-clause-cache : goal.returns-in-Some-clause-cache
returns-in-Some-clause-cache g c = held_same (g.M.Media.state c.args.media.now).image c.args.line.0 (lines_of c.args.places.now) c.in-Some.ensures.held
