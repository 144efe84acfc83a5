use Rattle.std.proofs.Common.{rules, arith, length, ◌-◌, ◌∙◌}
use Rattle.fam_media.specs.Files.{bytes_of}
use Rattle.fam_sources.proofs.Files.{next_filled}
use Rattle.fam_sources.proofs.whole.fill.Goals as goal

-- src/whole.rt:77:5
pub reads-preserved : goal.reads-preserved
reads-preserved g c = (
  search rules,
  search rules,
  search rules,
  search rules,
  λ files at. next_filled c.reads.got (length c.reads.into - c.reads.got) c.in-Ok.count c.reads.into c.read_at.new.into
      (bytes_of files c.args.name.now) (omega (arith, c.reads.invariant.1, c.reads.invariant.2))
      (omega (arith, c.in-Ok.ensures.within, c.read_at.auto.into)) (c.reads.invariant.4 files at)
      (c.in-Ok.ensures.bytes files (c.reads.invariant.0.same ∙ at)),
)
