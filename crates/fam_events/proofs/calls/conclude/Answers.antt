use Rattle.std.proofs.Common.{◌≡◌, ℕ, Some, Result, refl, subst, sym}
use Rattle.std.specs.Prelude.{OnErr}
use Rattle.fam_media.specs.Outside.{IfModelled}
use Rattle.fam_journal.specs.ByWorld.{number_in}
use Rattle.fam_journal.specs.CallRecords.{IsUnstoredAt}
use Rattle.fam_journal.specs.Calls.{Call, Finishes}
use Rattle.fam_events.specs.WorldChange.{WorldChange, world_change}
use Rattle.fam_events.specs.Calls.{CallSays}
use Rattle.fam_events.specs.declared.fault.EventFault.{EventFault}
use Rattle.fam_events.proofs.OverMedia.{finish_part, media_says}
use Rattle.fam_events.proofs.Resting.{outcome_same}
use Rattle.fam_events.proofs.calls.conclude.Goals as goal

pub returns-clause-says : goal.returns-clause-says
returns-clause-says g c = λ files copied.
    let call : Call = Finishes c.args.name.now in
    let x = c.conclude.ensures.concluded in
    let a : WorldChange = world_change g.M.Media.size g.M.Media.state c.args.media.now c.conclude.new.media c.args.world.now x.shown files copied copied in
    record {
      shown = x.shown;
      journal = x.journal;
      says = subst (CallSays call a) (sym c.noted.ensures)
          (media_says call a c.requires.shaped c.requires.fits refl tt c.conclude.result x.answered
          (λ e. finish_part c.args.name.now a c.requires.shaped c.requires.fits refl (x.want e)));
    }

pub returns-clause-same : goal.returns-clause-same
returns-clause-same g c =
    subst (λ (r : Result (Unit {0}) EventFault). OnErr r ((h : ℕ) → number_in c.args.name.now c.args.world.now ≡ Some h → IsUnstoredAt h c.args.world.now
    → IfModelled (g.M.Media.state c.args.media.now).image (λ image. (g.M.Media.state c.conclude.new.media).image ≡ Some image))) (sym c.noted.ensures)
    (outcome_same c.conclude.result _ (λ e. (c.conclude.ensures.concluded.want e).same))

pub returns-clause-untouched : goal.returns-clause-untouched
returns-clause-untouched g c = c.conclude.ensures.untouched

pub returns-clause-size : goal.returns-clause-size
returns-clause-size g c = c.conclude.ensures.size
