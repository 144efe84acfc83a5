use Rattle.std.proofs.Common.{◌≡◌, drop, true}
use Rattle.fam_media.specs.Causes.{IsSteady}
use Rattle.fam_dup.specs.Lines.{slots_puts}
use Rattle.fam_dup.specs.Passes.{ArePassed}
use Rattle.fam_dup.proofs.writes.write_slots.Given as goal

-- the slots so far were written
abbrev pub invariant-loop-seq : goal.invariant-loop-seq
invariant-loop-seq g l = record {
  passed : ArePassed (slots_puts l.copies.params 0 l.copies.entries) (slots_puts l.copies.params l.seq (drop l.seq l.copies.entries))
      (g.N.Media.state l.fn.to).image (g.N.Media.state l.to).image;
  quiet : g.N.Media.exact ≡ true → (g.N.Media.state l.to).faults ≡ (g.N.Media.state l.fn.to).faults;
  steady : IsSteady g.N.Media.size g.N.Media.state l.fn.to l.to;
}
