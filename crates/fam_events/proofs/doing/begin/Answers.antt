use Rattle.std.proofs.Common.{Ok, Err, refl}
use Rattle.fam_media.specs.States.{change, ShelfChange}
use Rattle.fam_events.specs.WorldChange.{WorldChange, world_change}
use Rattle.fam_events.proofs.Events.{begin_asked, begin_fault, with_lines}
use Rattle.fam_events.proofs.doing.begin.Goals as goal

pub returns-in-Ok-clause-says : goal.returns-in-Ok-clause-says
returns-in-Ok-clause-says g c =
    let shelf : ShelfChange = change g.S.Shelf.state c.args.shelf.now c.ask.new.shelf in
    let a : WorldChange = world_change g.M.Media.size g.M.Media.state c.args.media.now c.args.media.now c.args.world.now c.ask.new.world
    (g.S.Shelf.state c.args.shelf.now).files c.args.copied.now c.ask.new.copied in
    begin_asked c.args.name c.args.what shelf a c.in-Ok.field-0
    (with_lines c.lines.result (g.M.Media.size c.args.media.now) c.lines.ensures.count c.args.name c.args.what shelf c.args.world.now c.ask.new.world
    (g.M.Media.state c.args.media.now).image (g.M.Media.state c.args.media.now).faults (g.S.Shelf.state c.args.shelf.now).files c.args.copied.now
    c.ask.new.copied (Ok c.in-Ok.field-0)
    (c.in-Ok.ensures.says (g.M.Media.state c.args.media.now).image (g.M.Media.state c.args.media.now).faults) (g.met.M.Media.modelled c.args.media.now) c.requires.fits)

pub returns-in-Err-clause-says : goal.returns-in-Err-clause-says
returns-in-Err-clause-says g c =
    let shelf : ShelfChange = change g.S.Shelf.state c.args.shelf.now c.ask.new.shelf in
    let a : WorldChange = world_change g.M.Media.size g.M.Media.state c.args.media.now c.args.media.now c.args.world.now c.ask.new.world
    (g.S.Shelf.state c.args.shelf.now).files c.args.copied.now c.ask.new.copied in
    begin_fault c.args.name c.args.what shelf a c.in-Err.fault
    (with_lines c.lines.result (g.M.Media.size c.args.media.now) c.lines.ensures.count c.args.name c.args.what shelf c.args.world.now c.ask.new.world
    (g.M.Media.state c.args.media.now).image (g.M.Media.state c.args.media.now).faults (g.S.Shelf.state c.args.shelf.now).files c.args.copied.now
    c.ask.new.copied (Err c.in-Err.fault)
    (c.in-Err.ensures.says (g.M.Media.state c.args.media.now).image (g.M.Media.state c.args.media.now).faults) (g.met.M.Media.modelled c.args.media.now) c.requires.fits)

pub returns-in-Ok-clause-steady : goal.returns-in-Ok-clause-steady
returns-in-Ok-clause-steady g c = c.ask.ensures.steady

pub returns-in-Err-clause-steady : goal.returns-in-Err-clause-steady
returns-in-Err-clause-steady g c = c.ask.ensures.steady

pub returns-in-Ok-clause-same : goal.returns-in-Ok-clause-same
returns-in-Ok-clause-same g c = refl

pub returns-in-Err-clause-same : goal.returns-in-Err-clause-same
returns-in-Err-clause-same g c = refl
