use Rattle.fam_plan.proofs.FirstEntries.{lies_in_device}
use Rattle.fam_plan.proofs.plan.Plan.fault_among.Goals as goal

pub overlap_among-requires-clause-within : goal.overlap_among-requires-clause-within
overlap_among-requires-clause-within c = lies_in_device c.args.self.now.params c.args.entry.now c.requires.proper
