use Rattle.std.proofs.Common.{◌≡◌, Some, Ok, Err, subst, ◌∙◌, refl}
use Rattle.fam_media.specs.Outside.{IfModelled}
use Rattle.fam_media.specs.States.{change, ShelfChange}
use Rattle.fam_events.specs.Rested.{IsRested}
use Rattle.fam_journal.proofs.Shapes.Views.{number_shaped}
use Rattle.fam_events.specs.declared.asks.Asked.{Asked}
use Rattle.fam_events.specs.WorldChange.{WorldChange, world_change}
use Rattle.fam_events.specs.Begins.{AskBegun, AskSays}
use Rattle.fam_events.proofs.Events.{run_fault, run_refused, run_says, with_lines}
use Rattle.fam_events.proofs.Resting.{run_same}
use Rattle.fam_events.proofs.doing.run.Goals as goal

pub finish-requires-clause-shaped : goal.finish-requires-clause-shaped
finish-requires-clause-shaped g c =
    let shelf : ShelfChange = change g.S.Shelf.state c.args.shelf.now c.ask.new.shelf in
    let a : WorldChange = world_change g.M.Media.size g.M.Media.state c.args.media.now c.args.media.now c.args.world.now c.ask.new.world
    (g.S.Shelf.state c.args.shelf.now).files c.args.copied.now c.ask.new.copied in
    (subst (λ (x : Asked). AskSays c.args.name c.args.what shelf a (Ok x)) c.in-Ok-Begun.field-0-is
    (with_lines c.lines.result (g.M.Media.size c.args.media.now) c.lines.ensures.count c.args.name c.args.what shelf c.args.world.now c.ask.new.world
    (g.M.Media.state c.args.media.now).image (g.M.Media.state c.args.media.now).faults (g.S.Shelf.state c.args.shelf.now).files c.args.copied.now
    c.ask.new.copied (Ok c.in-Ok-Begun.field-0)
    (c.in-Ok-Begun.ensures.says (g.M.Media.state c.args.media.now).image (g.M.Media.state c.args.media.now).faults) (g.met.M.Media.modelled c.args.media.now) c.requires.fits)).adds.shaped

pub finish-requires-clause-fits : goal.finish-requires-clause-fits
finish-requires-clause-fits g c =
    let shelf : ShelfChange = change g.S.Shelf.state c.args.shelf.now c.ask.new.shelf in
    let a : WorldChange = world_change g.M.Media.size g.M.Media.state c.args.media.now c.args.media.now c.args.world.now c.ask.new.world
    (g.S.Shelf.state c.args.shelf.now).files c.args.copied.now c.ask.new.copied in
    (subst (λ (x : Asked). AskSays c.args.name c.args.what shelf a (Ok x)) c.in-Ok-Begun.field-0-is
    (with_lines c.lines.result (g.M.Media.size c.args.media.now) c.lines.ensures.count c.args.name c.args.what shelf c.args.world.now c.ask.new.world
    (g.M.Media.state c.args.media.now).image (g.M.Media.state c.args.media.now).faults (g.S.Shelf.state c.args.shelf.now).files c.args.copied.now
    c.ask.new.copied (Ok c.in-Ok-Begun.field-0)
    (c.in-Ok-Begun.ensures.says (g.M.Media.state c.args.media.now).image (g.M.Media.state c.args.media.now).faults) (g.met.M.Media.modelled c.args.media.now) c.requires.fits)).adds.fits

pub returns-in-Ok-Refused-clause-says : goal.returns-in-Ok-Refused-clause-says
returns-in-Ok-Refused-clause-says g c =
    let shelf : ShelfChange = change g.S.Shelf.state c.args.shelf.now c.ask.new.shelf in
    let a : WorldChange = world_change g.M.Media.size g.M.Media.state c.args.media.now c.args.media.now c.args.world.now c.ask.new.world
    (g.S.Shelf.state c.args.shelf.now).files c.args.copied.now c.ask.new.copied in
    run_refused c.args.name c.args.what a (subst (λ (x : Asked). AskSays c.args.name c.args.what shelf a (Ok x)) c.in-Ok-Refused.field-0-is
    (with_lines c.lines.result (g.M.Media.size c.args.media.now) c.lines.ensures.count c.args.name c.args.what shelf c.args.world.now c.ask.new.world
    (g.M.Media.state c.args.media.now).image (g.M.Media.state c.args.media.now).faults (g.S.Shelf.state c.args.shelf.now).files c.args.copied.now
    c.ask.new.copied (Ok c.in-Ok-Refused.field-0)
    (c.in-Ok-Refused.ensures.says (g.M.Media.state c.args.media.now).image (g.M.Media.state c.args.media.now).faults) (g.met.M.Media.modelled c.args.media.now) c.requires.fits))

pub returns-in-Ok-Begun-clause-says : goal.returns-in-Ok-Begun-clause-says
returns-in-Ok-Begun-clause-says g c =
    let shelf : ShelfChange = change g.S.Shelf.state c.args.shelf.now c.ask.new.shelf in
    let a : WorldChange = world_change g.M.Media.size g.M.Media.state c.args.media.now c.args.media.now c.args.world.now c.ask.new.world
    (g.S.Shelf.state c.args.shelf.now).files c.args.copied.now c.ask.new.copied in
    run_says c.args.name c.args.what (g.M.Media.size c.args.media.now) c.args.world.now c.ask.new.world c.finish.new.world
    (g.M.Media.state c.args.media.now).image (g.M.Media.state c.finish.new.media).image (g.M.Media.state c.args.media.now).faults
    (g.M.Media.state c.finish.new.media).faults (g.S.Shelf.state c.args.shelf.now).files c.args.copied.now c.ask.new.copied c.requires.shaped
    (subst (λ (x : Asked). AskSays c.args.name c.args.what shelf a (Ok x)) c.in-Ok-Begun.field-0-is
    (with_lines c.lines.result (g.M.Media.size c.args.media.now) c.lines.ensures.count c.args.name c.args.what shelf c.args.world.now c.ask.new.world
    (g.M.Media.state c.args.media.now).image (g.M.Media.state c.args.media.now).faults (g.S.Shelf.state c.args.shelf.now).files c.args.copied.now
    c.ask.new.copied (Ok c.in-Ok-Begun.field-0)
    (c.in-Ok-Begun.ensures.says (g.M.Media.state c.args.media.now).image (g.M.Media.state c.args.media.now).faults) (g.met.M.Media.modelled c.args.media.now) c.requires.fits))
    (g.met.M.Media.modelled c.args.media.now) shelf c.finish.result (c.finish.ensures.says (g.S.Shelf.state c.args.shelf.now).files c.ask.new.copied)

pub returns-in-Err-clause-says : goal.returns-in-Err-clause-says
returns-in-Err-clause-says g c =
    let shelf : ShelfChange = change g.S.Shelf.state c.args.shelf.now c.ask.new.shelf in
    let a : WorldChange = world_change g.M.Media.size g.M.Media.state c.args.media.now c.args.media.now c.args.world.now c.ask.new.world
    (g.S.Shelf.state c.args.shelf.now).files c.args.copied.now c.ask.new.copied in
    run_fault _ _ shelf a c.in-Err.fault
    (with_lines c.lines.result (g.M.Media.size c.args.media.now) c.lines.ensures.count c.args.name c.args.what shelf c.args.world.now c.ask.new.world
    (g.M.Media.state c.args.media.now).image (g.M.Media.state c.args.media.now).faults (g.S.Shelf.state c.args.shelf.now).files c.args.copied.now
    c.ask.new.copied (Err c.in-Err.fault)
    (c.in-Err.ensures.says (g.M.Media.state c.args.media.now).image (g.M.Media.state c.args.media.now).faults) (g.met.M.Media.modelled c.args.media.now) c.requires.fits)

pub returns-in-Ok-Begun-clause-same : goal.returns-in-Ok-Begun-clause-same
returns-in-Ok-Begun-clause-same g c =
    let shelf : ShelfChange = change g.S.Shelf.state c.args.shelf.now c.ask.new.shelf in
    let a : WorldChange = world_change g.M.Media.size g.M.Media.state c.args.media.now c.args.media.now c.args.world.now c.ask.new.world
    (g.S.Shelf.state c.args.shelf.now).files c.args.copied.now c.ask.new.copied in
    let begun : AskBegun c.args.name c.args.what a = subst (λ (x : Asked). AskSays c.args.name c.args.what shelf a (Ok x)) c.in-Ok-Begun.field-0-is
    (with_lines c.lines.result (g.M.Media.size c.args.media.now) c.lines.ensures.count c.args.name c.args.what shelf c.args.world.now c.ask.new.world
    (g.M.Media.state c.args.media.now).image (g.M.Media.state c.args.media.now).faults (g.S.Shelf.state c.args.shelf.now).files c.args.copied.now
    c.ask.new.copied (Ok c.in-Ok-Begun.field-0)
    (c.in-Ok-Begun.ensures.says (g.M.Media.state c.args.media.now).image (g.M.Media.state c.args.media.now).faults) (g.met.M.Media.modelled c.args.media.now) c.requires.fits) in
    let number = number_shaped (g.M.Media.size c.args.media.now) c.args.world.now c.requires.shaped c.args.name ∙ begun.adds.shape.starts.number in
    run_same c.finish.result c.ask.new.world c.args.name begun.adds.shape.starts.host (IsRested c.args.world.now)
    (IfModelled (g.M.Media.state c.args.media.now).image (λ image. (g.M.Media.state c.finish.new.media).image ≡ Some image))
    (begun.number ∙ number) (λ rested. c.in-Ok-Begun.ensures.unstored c.in-Ok-Begun.field-0-is rested begun.adds.shape.starts.host number)
    c.finish.ensures.same

pub returns-in-Err-clause-same : goal.returns-in-Err-clause-same
returns-in-Err-clause-same g c = λ rested. λ image is. is

pub returns-in-Ok-Refused-clause-steady : goal.returns-in-Ok-Refused-clause-steady
returns-in-Ok-Refused-clause-steady g c = c.ask.ensures.steady

pub returns-in-Ok-Begun-clause-steady : goal.returns-in-Ok-Begun-clause-steady
returns-in-Ok-Begun-clause-steady g c = c.ask.ensures.steady

pub returns-in-Err-clause-steady : goal.returns-in-Err-clause-steady
returns-in-Err-clause-steady g c = c.ask.ensures.steady

pub returns-in-Ok-Refused-clause-size : goal.returns-in-Ok-Refused-clause-size
returns-in-Ok-Refused-clause-size g c = refl

pub returns-in-Ok-Begun-clause-size : goal.returns-in-Ok-Begun-clause-size
returns-in-Ok-Begun-clause-size g c = c.finish.ensures.size

pub returns-in-Err-clause-size : goal.returns-in-Err-clause-size
returns-in-Err-clause-size g c = refl
