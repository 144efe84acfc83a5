use Rattle.std.proofs.Common.{◌≡◌, Some, Ok, Err, refl, subst, sym, ◌∙◌}
use Rattle.fam_media.specs.Outside.{IfModelled}
use Rattle.fam_media.specs.States.{change, ShelfChange}
use Rattle.fam_events.specs.Rested.{IsRested}
use Rattle.fam_journal.proofs.Shapes.Views.{number_shaped}
use Rattle.fam_events.specs.declared.asks.Asked.{Asked}
use Rattle.fam_events.specs.WorldChange.{WorldChange, world_change}
use Rattle.fam_events.specs.Begins.{AskBegun, AskSays}
use Rattle.fam_events.proofs.Events.{run_fault, run_refused, run_says, with_lines}
use Rattle.fam_events.proofs.Resting.{run_same}
use Rattle.fam_events.proofs.doing.run_last.Goals as goal

pub conclude-requires-clause-shaped : goal.conclude-requires-clause-shaped
conclude-requires-clause-shaped g c =
    let shelf : ShelfChange = change g.S.Shelf.state c.args.shelf.now c.ask.new.shelf in
    let a : WorldChange = world_change g.M.Media.size g.M.Media.state c.args.media.now c.args.media.now c.args.world.now c.ask.new.world
    (g.S.Shelf.state c.args.shelf.now).files c.args.copied.now c.ask.new.copied in
    (subst (λ (x : Asked). AskSays c.args.name c.args.what shelf a (Ok x)) c.in-Ok-Begun.field-0-is
    (with_lines c.lines.result (g.M.Media.size c.args.media.now) c.lines.ensures.count c.args.name c.args.what shelf c.args.world.now c.ask.new.world
    (g.M.Media.state c.args.media.now).image (g.M.Media.state c.args.media.now).faults (g.S.Shelf.state c.args.shelf.now).files c.args.copied.now
    c.ask.new.copied (Ok c.in-Ok-Begun.field-0)
    (c.in-Ok-Begun.ensures.says (g.M.Media.state c.args.media.now).image (g.M.Media.state c.args.media.now).faults) (g.met.M.Media.modelled c.args.media.now) c.requires.fits)).adds.shaped

pub conclude-requires-clause-fits : goal.conclude-requires-clause-fits
conclude-requires-clause-fits g c =
    let shelf : ShelfChange = change g.S.Shelf.state c.args.shelf.now c.ask.new.shelf in
    let a : WorldChange = world_change g.M.Media.size g.M.Media.state c.args.media.now c.args.media.now c.args.world.now c.ask.new.world
    (g.S.Shelf.state c.args.shelf.now).files c.args.copied.now c.ask.new.copied in
    (subst (λ (x : Asked). AskSays c.args.name c.args.what shelf a (Ok x)) c.in-Ok-Begun.field-0-is
    (with_lines c.lines.result (g.M.Media.size c.args.media.now) c.lines.ensures.count c.args.name c.args.what shelf c.args.world.now c.ask.new.world
    (g.M.Media.state c.args.media.now).image (g.M.Media.state c.args.media.now).faults (g.S.Shelf.state c.args.shelf.now).files c.args.copied.now
    c.ask.new.copied (Ok c.in-Ok-Begun.field-0)
    (c.in-Ok-Begun.ensures.says (g.M.Media.state c.args.media.now).image (g.M.Media.state c.args.media.now).faults) (g.met.M.Media.modelled c.args.media.now) c.requires.fits)).adds.fits

-- the host is numbered behind its begin as before
pub conclude-requires-clause-reads : goal.conclude-requires-clause-reads
conclude-requires-clause-reads g c = λ at view number is.
    let shelf : ShelfChange = change g.S.Shelf.state c.args.shelf.now c.ask.new.shelf in
    let a : WorldChange = world_change g.M.Media.size g.M.Media.state c.args.media.now c.args.media.now c.args.world.now c.ask.new.world
    (g.S.Shelf.state c.args.shelf.now).files c.args.copied.now c.ask.new.copied in
    let begun : AskBegun c.args.name c.args.what a = subst (λ (x : Asked). AskSays c.args.name c.args.what shelf a (Ok x)) c.in-Ok-Begun.field-0-is
    (with_lines c.lines.result (g.M.Media.size c.args.media.now) c.lines.ensures.count c.args.name c.args.what shelf c.args.world.now c.ask.new.world
    (g.M.Media.state c.args.media.now).image (g.M.Media.state c.args.media.now).faults (g.S.Shelf.state c.args.shelf.now).files c.args.copied.now
    c.ask.new.copied (Ok c.in-Ok-Begun.field-0)
    (c.in-Ok-Begun.ensures.says (g.M.Media.state c.args.media.now).image (g.M.Media.state c.args.media.now).faults) (g.met.M.Media.modelled c.args.media.now) c.requires.fits) in
    c.in-Ok-Begun.ensures.reads c.in-Ok-Begun.field-0-is (c.asks_to_read.ensures c.if-not-asks_to_read.false) at view (sym begun.number ∙ number) is

pub returns-then-not-asks_to_read-clause-says : goal.returns-then-not-asks_to_read-clause-says
returns-then-not-asks_to_read-clause-says g c = record { shown = c.run.new.world; journal = refl; says = c.run.ensures.says }

pub returns-in-Ok-Refused-clause-says : goal.returns-in-Ok-Refused-clause-says
returns-in-Ok-Refused-clause-says g c =
    let shelf : ShelfChange = change g.S.Shelf.state c.args.shelf.now c.ask.new.shelf in
    let a : WorldChange = world_change g.M.Media.size g.M.Media.state c.args.media.now c.args.media.now c.args.world.now c.ask.new.world
    (g.S.Shelf.state c.args.shelf.now).files c.args.copied.now c.ask.new.copied in
    record {
      shown = c.ask.new.world;
      journal = refl {a = c.ask.new.world.journal};
      says = run_refused c.args.name c.args.what a (subst (λ (x : Asked). AskSays c.args.name c.args.what shelf a (Ok x)) c.in-Ok-Refused.field-0-is
          (with_lines c.lines.result (g.M.Media.size c.args.media.now) c.lines.ensures.count c.args.name c.args.what shelf c.args.world.now
          c.ask.new.world (g.M.Media.state c.args.media.now).image (g.M.Media.state c.args.media.now).faults
          (g.S.Shelf.state c.args.shelf.now).files c.args.copied.now c.ask.new.copied (Ok c.in-Ok-Refused.field-0)
          (c.in-Ok-Refused.ensures.says (g.M.Media.state c.args.media.now).image (g.M.Media.state c.args.media.now).faults) (g.met.M.Media.modelled c.args.media.now) c.requires.fits));
    }

pub returns-in-Ok-Begun-clause-says : goal.returns-in-Ok-Begun-clause-says
returns-in-Ok-Begun-clause-says g c =
    let shelf : ShelfChange = change g.S.Shelf.state c.args.shelf.now c.ask.new.shelf in
    let a : WorldChange = world_change g.M.Media.size g.M.Media.state c.args.media.now c.args.media.now c.args.world.now c.ask.new.world
    (g.S.Shelf.state c.args.shelf.now).files c.args.copied.now c.ask.new.copied in
    let x = c.conclude.ensures.says (g.S.Shelf.state c.args.shelf.now).files c.ask.new.copied in
    record {
      shown = x.shown;
      journal = x.journal;
      says = run_says c.args.name c.args.what (g.M.Media.size c.args.media.now) c.args.world.now c.ask.new.world x.shown
          (g.M.Media.state c.args.media.now).image (g.M.Media.state c.conclude.new.media).image (g.M.Media.state c.args.media.now).faults
          (g.M.Media.state c.conclude.new.media).faults (g.S.Shelf.state c.args.shelf.now).files c.args.copied.now c.ask.new.copied c.requires.shaped
          (subst (λ (x : Asked). AskSays c.args.name c.args.what shelf a (Ok x)) c.in-Ok-Begun.field-0-is
          (with_lines c.lines.result (g.M.Media.size c.args.media.now) c.lines.ensures.count c.args.name c.args.what shelf c.args.world.now
          c.ask.new.world (g.M.Media.state c.args.media.now).image (g.M.Media.state c.args.media.now).faults
          (g.S.Shelf.state c.args.shelf.now).files c.args.copied.now c.ask.new.copied (Ok c.in-Ok-Begun.field-0)
          (c.in-Ok-Begun.ensures.says (g.M.Media.state c.args.media.now).image (g.M.Media.state c.args.media.now).faults) (g.met.M.Media.modelled c.args.media.now) c.requires.fits))
          (g.met.M.Media.modelled c.args.media.now) shelf c.conclude.result x.says;
    }

pub returns-in-Err-clause-says : goal.returns-in-Err-clause-says
returns-in-Err-clause-says g c =
    let shelf : ShelfChange = change g.S.Shelf.state c.args.shelf.now c.ask.new.shelf in
    let a : WorldChange = world_change g.M.Media.size g.M.Media.state c.args.media.now c.args.media.now c.args.world.now c.ask.new.world
    (g.S.Shelf.state c.args.shelf.now).files c.args.copied.now c.ask.new.copied in
    record {
      shown = c.ask.new.world;
      journal = refl {a = c.ask.new.world.journal};
      says = run_fault _ _ shelf a c.in-Err.fault
          (with_lines c.lines.result (g.M.Media.size c.args.media.now) c.lines.ensures.count c.args.name c.args.what shelf c.args.world.now
          c.ask.new.world (g.M.Media.state c.args.media.now).image (g.M.Media.state c.args.media.now).faults
          (g.S.Shelf.state c.args.shelf.now).files c.args.copied.now c.ask.new.copied (Err c.in-Err.fault)
          (c.in-Err.ensures.says (g.M.Media.state c.args.media.now).image (g.M.Media.state c.args.media.now).faults) (g.met.M.Media.modelled c.args.media.now) c.requires.fits);
    }

pub returns-in-Ok-Begun-clause-same : goal.returns-in-Ok-Begun-clause-same
returns-in-Ok-Begun-clause-same g c =
    let shelf : ShelfChange = change g.S.Shelf.state c.args.shelf.now c.ask.new.shelf in
    let a : WorldChange = world_change g.M.Media.size g.M.Media.state c.args.media.now c.args.media.now c.args.world.now c.ask.new.world
    (g.S.Shelf.state c.args.shelf.now).files c.args.copied.now c.ask.new.copied in
    let begun : AskBegun c.args.name c.args.what a = subst (λ (x : Asked). AskSays c.args.name c.args.what shelf a (Ok x)) c.in-Ok-Begun.field-0-is
    (with_lines c.lines.result (g.M.Media.size c.args.media.now) c.lines.ensures.count c.args.name c.args.what shelf c.args.world.now c.ask.new.world
    (g.M.Media.state c.args.media.now).image (g.M.Media.state c.args.media.now).faults (g.S.Shelf.state c.args.shelf.now).files c.args.copied.now
    c.ask.new.copied (Ok c.in-Ok-Begun.field-0)
    (c.in-Ok-Begun.ensures.says (g.M.Media.state c.args.media.now).image (g.M.Media.state c.args.media.now).faults) (g.met.M.Media.modelled c.args.media.now) c.requires.fits) in
    let number = number_shaped (g.M.Media.size c.args.media.now) c.args.world.now c.requires.shaped c.args.name ∙ begun.adds.shape.starts.number in
    run_same c.conclude.result c.ask.new.world c.args.name begun.adds.shape.starts.host (IsRested c.args.world.now)
    (IfModelled (g.M.Media.state c.args.media.now).image (λ image. (g.M.Media.state c.conclude.new.media).image ≡ Some image))
    (begun.number ∙ number) (λ rested. c.in-Ok-Begun.ensures.unstored c.in-Ok-Begun.field-0-is rested begun.adds.shape.starts.host number)
    c.conclude.ensures.same

pub returns-in-Err-clause-same : goal.returns-in-Err-clause-same
returns-in-Err-clause-same g c = λ rested. λ image is. is

pub returns-in-Ok-Refused-clause-steady : goal.returns-in-Ok-Refused-clause-steady
returns-in-Ok-Refused-clause-steady g c = c.ask.ensures.steady

pub returns-in-Ok-Begun-clause-steady : goal.returns-in-Ok-Begun-clause-steady
returns-in-Ok-Begun-clause-steady g c = c.ask.ensures.steady

pub returns-in-Err-clause-steady : goal.returns-in-Err-clause-steady
returns-in-Err-clause-steady g c = c.ask.ensures.steady

pub returns-in-Ok-Refused-clause-size : goal.returns-in-Ok-Refused-clause-size
returns-in-Ok-Refused-clause-size g c = refl

pub returns-in-Ok-Begun-clause-size : goal.returns-in-Ok-Begun-clause-size
returns-in-Ok-Begun-clause-size g c = c.conclude.ensures.size

pub returns-in-Err-clause-size : goal.returns-in-Err-clause-size
returns-in-Err-clause-size g c = refl

pub returns-then-not-asks_to_read-clause-size : goal.returns-then-not-asks_to_read-clause-size
returns-then-not-asks_to_read-clause-size g c = c.run.ensures.size

pub returns-then-not-asks_to_read-clause-steady : goal.returns-then-not-asks_to_read-clause-steady
returns-then-not-asks_to_read-clause-steady g c = c.run.ensures.steady

pub returns-then-not-asks_to_read-clause-same : goal.returns-then-not-asks_to_read-clause-same
returns-then-not-asks_to_read-clause-same g c = c.run.ensures.same

pub returns-then-not-asks_to_read-clause-untouched : goal.returns-then-not-asks_to_read-clause-untouched
returns-then-not-asks_to_read-clause-untouched g c = c.run.ensures.untouched
