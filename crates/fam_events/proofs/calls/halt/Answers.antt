use Rattle.std.proofs.Common.{subst, sym}
use Rattle.fam_journal.specs.Calls.{Halts}
use Rattle.fam_events.specs.WorldChange.{still}
use Rattle.fam_events.specs.Calls.{CallSays}
use Rattle.fam_events.proofs.WithoutMedia.{quiet_says}
use Rattle.fam_events.proofs.calls.halt.Goals as goal

pub returns : goal.returns
returns c = record {
  says = λ lines told faults files copied modelled fits.
      subst (CallSays (Halts c.args.name.now) (still lines c.args.world.now c.halt.new.self told faults files copied)) (sym c.noted.ensures)
      (quiet_says (Halts c.args.name.now) lines c.args.world.now c.halt.new.self tt tt c.requires.shaped fits told faults files copied modelled
      c.halt.result (c.halt.ensures.answered lines) c.halt.ensures.err);
}
