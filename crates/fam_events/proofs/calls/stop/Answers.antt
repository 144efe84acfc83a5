use Rattle.std.proofs.Common.{subst, sym}
use Rattle.fam_journal.specs.Calls.{Stops}
use Rattle.fam_events.specs.WorldChange.{still}
use Rattle.fam_events.specs.Calls.{CallSays}
use Rattle.fam_events.proofs.WithoutMedia.{quiet_says}
use Rattle.fam_events.proofs.calls.stop.Goals as goal

pub returns : goal.returns
returns c = record {
  says = λ lines told faults files copied modelled fits.
      subst (CallSays (Stops c.args.name.now) (still lines c.args.world.now c.stop.new.self told faults files copied)) (sym c.noted.ensures)
      (quiet_says (Stops c.args.name.now) lines c.args.world.now c.stop.new.self tt tt c.requires.shaped fits told faults files copied modelled
      c.stop.result (c.stop.ensures.answered lines) c.stop.ensures.err);
}
