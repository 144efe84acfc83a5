use Rattle.std.proofs.Common.{rules}
use Rattle.fam_media.specs.Frail.{frail_reads}
use Rattle.fam_media.specs.Runs.{read_of}
use Rattle.fam_media.proofs.RunLemmas.{one_more_done}
use Rattle.fam_media.proofs.frail.FrailMedia.read_run.Goals as goal

pub loop-k-preserved : goal.loop-k-preserved
loop-k-preserved g c = record {
  read = search rules;
  count = search rules;
  same = search rules;
  size = search rules;
  calls = one_more_done (read_of (frail_reads g.M.Media.reads) c.args.first.0) c.loop-k.k c.args.self.now c.loop-k.self c.read.new.self c.loop-k.invariant.calls c.in-Ok.ensures.call;
  counted = search rules;
}
