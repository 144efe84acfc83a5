use Rattle.std.proofs.Common.{subst, sym}
use Rattle.fam_journal.specs.Calls.{Declares}
use Rattle.fam_events.specs.WorldChange.{still}
use Rattle.fam_events.specs.Calls.{CallSays}
use Rattle.fam_events.proofs.WithoutMedia.{quiet_says}
use Rattle.fam_events.proofs.calls.declare.Goals as goal

pub returns : goal.returns
returns c = record {
  says = λ lines told faults files copied modelled fits.
      subst (CallSays (Declares c.args.name.now c.args.uuid) (still lines c.args.world.now c.host.new.self told faults files copied)) (sym c.noted.ensures)
      (quiet_says (Declares c.args.name.now c.args.uuid) lines c.args.world.now c.host.new.self c.is_uuid.ensures tt c.requires.shaped fits told
      faults files copied modelled c.host.result (c.host.ensures.answered lines) c.host.ensures.err);
}
