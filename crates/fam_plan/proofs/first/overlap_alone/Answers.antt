use Rattle.fam_plan.proofs.FirstEntries.{lies_in_device}
use Rattle.fam_plan.proofs.first.overlap_alone.Goals as goal

pub overlap_behind-requires-clause-within : goal.overlap_behind-requires-clause-within
overlap_behind-requires-clause-within c = lies_in_device c.args.params.now c.args.entry.now c.requires.proper
