-- What was done with no run of lines before it.
use Rattle.std.proofs.Common.{Result, Ok, Err}
use Rattle.fam_cache.specs.declared.fault.OperationFault.{OperationFault}
use Rattle.fam_cache.specs.declared.fault.OperationFault.TheVariants as fault
use Rattle.fam_tasks.specs.declared.answer.Turn.{Turn}
use Rattle.fam_run.specs.Led.{Advanced}
use Rattle.fam_run.specs.Runs.{HasAdvanced}
use Rattle.fam_run.specs.Runs as run
use Rattle.fam_run.specs.TaskChange.{TaskChange}

pub run_alone : (a : TaskChange) (r : Result Turn OperationFault) → Advanced a r → HasAdvanced a r
run_alone a (Ok turn) done = record { mid = a.media.old.image; task = a.task; held = a.old; sent = run.none; done = done }
run_alone a (Err (fault.MediaFault line)) broken = record { mid = a.media.old.image; task = a.task; held = a.old; sent = run.none; broken = broken }
run_alone a (Err fault.OutOfMemory) undone = undone
