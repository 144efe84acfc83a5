use Rattle.std.proofs.Common.{◌≡◌, ◌-◌, true}
use Rattle.fam_format.specs.Layout.{geometry, slot_line}
use Rattle.fam_format.specs.Slot.{spelling}
use Rattle.fam_media.specs.Causes.{IsSteady}
use Rattle.fam_rules.specs.Written.{slot_part, slot_puts}
use Rattle.fam_rules.proofs.Puts.{puts_from}
use Rattle.fam_dup.specs.Passes.{ArePassed}
use Rattle.fam_dup.proofs.writes.write_slot.Given as goal

-- the lines so far were written
abbrev pub invariant-lines : goal.invariant-lines
invariant-lines g l = record {
  passed : ArePassed (slot_puts l.params l.seq l.copy) (puts_from (slot_line l.params l.seq) (slot_part (spelling (geometry l.params) l.copy l.seq)) l.j ((geometry l.params).lines - l.j))
      (g.N.Media.state l.fn.to).image (g.N.Media.state l.to).image;
  quiet : g.N.Media.exact ≡ true → (g.N.Media.state l.to).faults ≡ (g.N.Media.state l.fn.to).faults;
  steady : IsSteady g.N.Media.size g.N.Media.state l.fn.to l.to;
}
