use Rattle.std.proofs.Common.{subst, sym}
use Rattle.fam_journal.specs.Calls.{Umounts}
use Rattle.fam_events.specs.WorldChange.{still}
use Rattle.fam_events.specs.Calls.{CallSays}
use Rattle.fam_events.proofs.WithoutMedia.{quiet_says}
use Rattle.fam_events.proofs.calls.umount.Goals as goal

pub returns : goal.returns
returns c = record {
  says = λ lines told faults files copied modelled fits.
      subst (CallSays (Umounts c.args.name.now) (still lines c.args.world.now c.umount.new.self told faults files copied)) (sym c.noted.ensures)
      (quiet_says (Umounts c.args.name.now) lines c.args.world.now c.umount.new.self tt tt c.requires.shaped fits told faults files copied modelled
      c.umount.result (c.umount.ensures.answered lines) c.umount.ensures.err);
}
