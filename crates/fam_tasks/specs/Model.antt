-- What a contract sees of a task.
use Rattle.fam_commands.specs.Task.{Task}
use Rattle.fam_tasks.specs.declared.task.Task.TheInside.{Inside}
use Rattle.fam_replay.specs.Replay.{entries_in}
use Rattle.fam_tasks.specs.Survey.{survey_in}

-- its command, host and phase, and what it read
abbrev pub task_of : Inside → Task
task_of t = record {
  cmd = t.cmd;
  me = t.me;
  lines = t.lines;
  phase = t.phase;
  params = t.params;
  kept = t.history.kept;
  gate = t.gate;
  entries = entries_in t.history.replay;
  words = t.buffer;
  entry = t.entry;
  survey = survey_in t.scan;
}
