use Rattle.fam_media.specs.States.{change}
use Rattle.fam_journal.specs.Events.{copy_limit}
use Rattle.fam_sources.proofs.Sourcing.{faulted_source}
use Rattle.fam_sources.proofs.sourced.bytes_of.Goals as goal

pub returns-in-Err-Faulted-clause-says : goal.returns-in-Err-Faulted-clause-says
returns-in-Err-Faulted-clause-says g c =
    faulted_source (change g.S.Shelf.state c.args.shelf.now c.read_whole.new.shelf) c.args.copied c.args.source
    (record { name = c.text.result.now; copied = c.args.copied; limit = copy_limit }) c.in-Err-Faulted.field-0 c.in-Err-Faulted.field-0-is c.in-Err-Faulted.ensures.fault
