use Rattle.std.proofs.Common.{◌≡◌, ℕ, Some, Result, refl, subst, sym}
use Rattle.std.specs.Prelude.{OnErr}
use Rattle.fam_media.specs.Outside.{IfModelled}
use Rattle.fam_journal.specs.ByWorld.{number_in}
use Rattle.fam_journal.specs.CallRecords.{IsUnstoredAt}
use Rattle.fam_journal.specs.Calls.{Call, Finishes}
use Rattle.fam_events.specs.WorldChange.{WorldChange, world_change}
use Rattle.fam_events.specs.Calls.{CallSays}
use Rattle.fam_events.specs.declared.fault.EventFault.{EventFault}
use Rattle.fam_events.proofs.OverMedia.{finish_part, media_says}
use Rattle.fam_events.proofs.Resting.{outcome_same}
use Rattle.fam_events.proofs.calls.finish.Goals as goal

pub returns-clause-says : goal.returns-clause-says
returns-clause-says g c = λ files copied.
    let call : Call = Finishes c.args.name.now in
    let a : WorldChange = world_change g.M.Media.size g.M.Media.state c.args.media.now c.finish.new.media c.args.world.now c.finish.new.self files copied copied in
    subst (CallSays call a) (sym c.noted.ensures)
    (media_says call a c.requires.shaped c.requires.fits refl tt c.finish.result c.finish.ensures.answered
    (λ e. finish_part c.args.name.now a c.requires.shaped c.requires.fits refl (c.finish.ensures.want e)))

pub returns-clause-same : goal.returns-clause-same
returns-clause-same g c =
    subst (λ (r : Result (Unit {0}) EventFault). OnErr r ((h : ℕ) → number_in c.args.name.now c.args.world.now ≡ Some h → IsUnstoredAt h c.args.world.now
    → IfModelled (g.M.Media.state c.args.media.now).image (λ image. (g.M.Media.state c.finish.new.media).image ≡ Some image))) (sym c.noted.ensures)
    (outcome_same c.finish.result _ (λ e. (c.finish.ensures.want e).same))

pub returns-clause-untouched : goal.returns-clause-untouched
returns-clause-untouched g c = c.finish.ensures.untouched

pub returns-clause-size : goal.returns-clause-size
returns-clause-size g c = c.finish.ensures.size
