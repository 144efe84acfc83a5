use Rattle.std.proofs.Common.{sym}
use Rattle.fam_settled.proofs.reports.entry_in.Goals as goal

pub returns-clause-proper : goal.returns-clause-proper
returns-clause-proper c = (c.each_entry_joins.ensures.added c.args.i c.in-Some.entry (sym c.in-Some.ensures)).proper
