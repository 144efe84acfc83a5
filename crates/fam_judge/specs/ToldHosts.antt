-- What is told of the hosts: of their commands as much as a text tells.
use Rattle.std.specs.Prelude.{ℕ, Bool, false, List, [], ◌∷◌, ◌++◌, map, option_map, Option, Some, None}
use Rattle.fam_history.specs.declared.command.ToldCommand.{ToldCommand}
use Rattle.fam_history.specs.Told.{told_of_command}
use Rattle.fam_journal.specs.Members.{changed_at}
use Rattle.fam_journal.specs.Notes.{Host, Made, Cut, Start, Mark, Found, Writes, Answered, Stop, Halt, Umount, Refused}
use Rattle.fam_journal.specs.Shapes.{Begun, CommandStage, HostShape, Marked, Met, Named, TaskShape, keeps_behind}
use Rattle.fam_judge.specs.Alike.{Begins, Tells, ToldNote}

-- what is told of a running command, and how far it has come
pub record ToldTask : Type 0 where
  pub cmd : ToldCommand
  pub stage : CommandStage

-- what is told of a host
pub record ToldHost : Type 0 where
  pub name : List ℕ
  pub uuid : List ℕ
  pub task : Option ToldTask
  pub keeps : Bool

-- of a running command
abbrev pub told_task : TaskShape → ToldTask
told_task t = record { cmd = told_of_command t.cmd; stage = t.stage }

-- of a host
abbrev pub told_host : HostShape → ToldHost
told_host host = record { name = host.name; uuid = host.uuid; task = option_map told_task host.task; keeps = host.keeps }

-- so of all hosts
abbrev pub told_hosts : List HostShape → List ToldHost
told_hosts hosts = map told_host hosts

-- Behind notes, by what is told of these.

-- its command begins
abbrev pub with_told : ToldCommand → ToldHost → ToldHost
with_told cmd host = record host { task = Some (record { cmd = cmd; stage = Begun }) }

-- its command, if any, has come to a stage
abbrev pub with_told_stage : CommandStage → ToldHost → ToldHost
with_told_stage stage host = record host { task = option_map (λ (t : ToldTask). record t { stage = stage }) host.task }

-- the hosts after a note
abbrev pub told_after : List ToldHost → ToldNote → List ToldHost
told_after hosts (Begins h cmd) = changed_at h (with_told cmd) hosts
told_after hosts (Tells (Host name uuid)) = hosts ++ record { name = name; uuid = uuid; task = None; keeps = false } ∷ []
told_after hosts (Tells (Made h p)) = hosts
told_after hosts (Tells (Cut h k)) = hosts
told_after hosts (Tells (Start h cmd)) = changed_at h (with_told (told_of_command cmd)) hosts
told_after hosts (Tells (Mark h)) = changed_at h (with_told_stage Marked) hosts
told_after hosts (Tells (Found h n)) = changed_at h (with_told_stage (Met n)) hosts
told_after hosts (Tells (Writes h seq entry)) = changed_at h (with_told_stage (Named seq)) hosts
told_after hosts (Tells (Answered h answer)) = changed_at h (λ host. record host { task = None; keeps = keeps_behind answer host.keeps }) hosts
told_after hosts (Tells (Stop h)) = changed_at h (λ host. record host { task = None }) hosts
told_after hosts (Tells (Halt h)) = changed_at h (λ host. record host { task = None; keeps = false }) hosts
told_after hosts (Tells (Umount h)) = changed_at h (λ host. record host { keeps = false }) hosts
told_after hosts (Tells (Refused name why)) = hosts

-- the hosts after some notes more
abbrev pub told_hosts_behind : List ToldHost → List ToldNote → List ToldHost
told_hosts_behind hosts [] = hosts
told_hosts_behind hosts (note ∷ notes) = told_hosts_behind (told_after hosts note) notes
