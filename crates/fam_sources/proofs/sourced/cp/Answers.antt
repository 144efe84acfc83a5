use Rattle.std.proofs.Common.{refl}
use Rattle.fam_media.specs.States.{change}
use Rattle.fam_journal.specs.declared.event.Ask.TheVariants as ask
use Rattle.fam_sources.proofs.Sourcing.{unfit_resolved}
use Rattle.fam_sources.proofs.sourced.cp.Goals as goal

pub returns-in-Unfit-clause-says : goal.returns-in-Unfit-clause-says
returns-in-Unfit-clause-says g c =
    unfit_resolved (change g.S.Shelf.state c.args.shelf.now c.bytes_of.new.shelf) c.args.copied c.args.source (ask.Cp c.args.source c.args.path c.args.attr c.args.stripe)
    c.in_ok-bytes.field-0 c.in-Unfit.cause c.without.result c.in-Unfit.is refl c.in_ok-bytes.ensures.says c.without.ensures
