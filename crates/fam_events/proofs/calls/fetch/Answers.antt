use Rattle.std.proofs.Common.{ap, refl, subst, sym}
use Rattle.fam_journal.specs.Calls.{Call, Moves}
use Rattle.fam_machine.specs.HostMoves as how
use Rattle.fam_events.specs.WorldChange.{WorldChange, world_change}
use Rattle.fam_events.specs.Calls.{CallSays}
use Rattle.fam_events.proofs.OverMedia.{media_says}
use Rattle.fam_events.proofs.WithoutMedia.{still_part}
use Rattle.fam_events.proofs.calls.fetch.Goals as goal

pub returns-clause-says : goal.returns-clause-says
returns-clause-says g c = λ files copied.
    let call : Call = Moves c.args.name.now c.args.line.0 (how.Fetch c.args.mask.0) in
    let a : WorldChange = world_change g.M.Media.size g.M.Media.state c.args.media.now c.fetch.new.media c.args.world.now c.fetch.new.self files copied copied in
    subst (CallSays call a) (sym c.noted.ensures)
    (media_says call a c.requires.shaped c.requires.fits refl tt c.fetch.result c.fetch.ensures.answered
    (λ e. still_part a (record {
      world = c.fetch.ensures.err e;
      media = ap (λ m. (g.M.Media.state m).image) (c.fetch.ensures.undone e);
      count =
          ap (λ m. (g.M.Media.state m).faults) (c.fetch.ensures.undone e);
    }) call c.requires.shaped c.requires.fits))

pub returns-clause-untouched : goal.returns-clause-untouched
returns-clause-untouched g c = c.fetch.ensures.untouched

pub returns-clause-size : goal.returns-clause-size
returns-clause-size g c = c.fetch.ensures.size
