use Rattle.std.proofs.Common.{Ok, Err, subst}
use Rattle.fam_world.specs.Counted.{StepsSay, WorldStanding, standing}
use Rattle.fam_world.specs.declared.fault.WorldFault.{WorldFault}
use Rattle.fam_world.specs.declared.fault.WorldFault.TheVariants as fault
use Rattle.fam_events.proofs.Counted.{event_says}
use Rattle.fam_events.proofs.steps.step.Goals as goal

pub returns-in-Ok-clause-says : goal.returns-in-Ok-clause-says
returns-in-Ok-clause-says g c = λ shelf files copied.
    event_says c.args.name.now (g.M.Media.size c.args.media.now) c.args.world.now (g.M.Media.state c.args.media.now).image
    (g.M.Media.state c.args.media.now).faults files copied c.requires.shaped c.requires.fits (g.met.M.Media.modelled c.args.media.now)
    c.args.count c.requires.some shelf
    (standing g.M.Media.state c.steps.new.media c.steps.new.self) (Ok c.in-Ok.field-0) c.in-Ok.ensures.says

pub returns-in-Err-Refused-clause-says : goal.returns-in-Err-Refused-clause-says
returns-in-Err-Refused-clause-says g c = λ shelf files copied.
    let s : WorldStanding = standing g.M.Media.state c.steps.new.media c.steps.new.self in
    event_says c.args.name.now (g.M.Media.size c.args.media.now) c.args.world.now (g.M.Media.state c.args.media.now).image
    (g.M.Media.state c.args.media.now).faults files copied c.requires.shaped c.requires.fits (g.met.M.Media.modelled c.args.media.now)
    c.args.count c.requires.some shelf s
    (Err (fault.Refused c.in-Err-Refused.field-0-0))
    (subst (λ (f : WorldFault). StepsSay c.args.name.now (g.M.Media.size c.args.media.now) c.args.count
    (standing g.M.Media.state c.args.media.now c.args.world.now) s (Err f)) c.in-Err-Refused.field-0-is c.in-Err-Refused.ensures.says)

pub returns-clause-says : goal.returns-clause-says
returns-clause-says g c = λ shelf files copied.
    let s : WorldStanding = standing g.M.Media.state c.steps.new.media c.steps.new.self in
    event_says c.args.name.now (g.M.Media.size c.args.media.now) c.args.world.now (g.M.Media.state c.args.media.now).image
    (g.M.Media.state c.args.media.now).faults files copied c.requires.shaped c.requires.fits (g.met.M.Media.modelled c.args.media.now)
    c.args.count c.requires.some shelf s
    (Err fault.OutOfMemory)
    (subst (λ (f : WorldFault). StepsSay c.args.name.now (g.M.Media.size c.args.media.now) c.args.count
    (standing g.M.Media.state c.args.media.now c.args.world.now) s (Err f)) c.in-Err-OutOfMemory.field-0-is c.in-Err-OutOfMemory.ensures.says)

pub returns-in-Ok-clause-untouched : goal.returns-in-Ok-clause-untouched
returns-in-Ok-clause-untouched g c = c.steps.ensures.untouched

pub returns-in-Ok-clause-size : goal.returns-in-Ok-clause-size
returns-in-Ok-clause-size g c = c.steps.ensures.size

pub returns-in-Err-Refused-clause-untouched : goal.returns-in-Err-Refused-clause-untouched
returns-in-Err-Refused-clause-untouched g c = c.steps.ensures.untouched

pub returns-in-Err-Refused-clause-size : goal.returns-in-Err-Refused-clause-size
returns-in-Err-Refused-clause-size g c = c.steps.ensures.size

pub returns-clause-untouched : goal.returns-clause-untouched
returns-clause-untouched g c = c.steps.ensures.untouched

pub returns-clause-size : goal.returns-clause-size
returns-clause-size g c = c.steps.ensures.size
