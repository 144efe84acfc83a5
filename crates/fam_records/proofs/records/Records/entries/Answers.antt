use Rattle.std.proofs.Common.{◌≡◌, ◌<◌, ◌++◌, ◌∷◌, [], rules}
use Rattle.fam_records.specs.Histories.{lines_left}
use Rattle.fam_records.proofs.EntriesTaken.{more_taken}
use Rattle.fam_records.proofs.records.Records.entries.Goals as goal

pub loop-left-preserved : goal.loop-left-preserved
loop-left-preserved c =
    let some : 0 < c.loop-left.left = search rules in
    let pushed : c.push.new.self.items ≡ c.loop-left.entries.items ++ c.in_ok-entry.entry ∷ [] = search rules in
    record {
      taken = more_taken c.args.count (lines_left c.args.self.now) c.loop-left.entries.items c.loop-left.left (lines_left c.loop-left.self) (lines_left c.entry.new.self)
          c.in_ok-entry.entry c.push.new.self.items some c.loop-left.invariant.taken c.in_ok-entry.ensures.value pushed;
      room = c.in_ok-entry.ensures.room;
    }
