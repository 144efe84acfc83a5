use Rattle.fam_entry.proofs.Found.{header_found, header_only}
use Rattle.fam_entry.proofs.log.read_log.Goals as goal

pub returns-clause-found : goal.returns-clause-found
returns-clause-found c = header_found c.args.params.now c.args.line.now c.tested.result c.tested.ensures.first c.tested.ensures.count

pub returns-clause-only : goal.returns-clause-only
returns-clause-only c = header_only c.args.params.now c.args.line.now c.tested.result c.tested.ensures.first
