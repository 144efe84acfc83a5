use Rattle.std.proofs.Common.{ap}
use Rattle.fam_base.specs.Image.{eight}
use Rattle.fam_cache.specs.Blocks.{cache_of, lines_of}
use Rattle.fam_cache.proofs.AskedRange.{within_dirty, within_same}
use Rattle.fam_cache.proofs.cache.HostCache.put_line.Goals as goal

pub invariant_of-self-in-Err : goal.invariant_of-self-in-Err
invariant_of-self-in-Err g c = (
  c.put_copy-self-inside.ensures.kept,
  within_dirty c.self.inside.first_asked c.self.inside.last_asked (lines_of c.make_room.new.cache) (lines_of c.put_copy-self-inside.new.cache)
      (within_same c.self.inside.first_asked c.self.inside.last_asked (lines_of c.self.inside.places) (lines_of c.make_room.new.cache) c.self.invariant.1 (ap cache_of c.make_room.ensures.same))
      c.args.line.0 (eight c.args.words.now) c.put_copy-self-inside.ensures.cache,
)
