use Rattle.std.proofs.Common.{rules}
use Rattle.fam_media.specs.Frail.{frail_writes}
use Rattle.fam_media.specs.Runs.{write_of}
use Rattle.fam_media.proofs.RunLemmas.{one_more_done}
use Rattle.fam_media.proofs.frail.FrailMedia.write_run.Goals as goal

pub loop-k-preserved : goal.loop-k-preserved
loop-k-preserved g c = record {
  image = search rules;
  size = search rules;
  calls = one_more_done (write_of (frail_writes g.M.Media.writes) c.args.first.0 c.args.lines.now) c.loop-k.k c.args.self.now c.loop-k.self
      c.write.new.self c.loop-k.invariant.calls c.in-Ok.ensures.call;
  counted = search rules;
}
