-- What hosts and candidates keep behind a line.
use Rattle.std.specs.Prelude.{ℕ, ◌++◌, List, [], ◌∷◌, true, false, Option, Some, None}
use Rattle.fam_base.specs.declared.entry.Entry.{Entry}
use Rattle.fam_base.specs.Image.{Image}
use Rattle.fam_history.specs.declared.command.ToldCommand.{ToldCommand}
use Rattle.fam_journal.specs.Members.{changed_at}
use Rattle.fam_journal.specs.Shapes.{keeps_behind}
use Rattle.fam_judge.specs.Possible.{Possible}
use Rattle.fam_lines.specs.declared.host.SeenHost.{SeenHost}
use Rattle.fam_lines.specs.declared.line.Line.{Line}
use Rattle.fam_lines.specs.declared.line.Line.TheVariants as line
use Rattle.fam_lines.specs.Lines.{answer_of}
use Rattle.fam_judging.specs.declared.candidate.Candidate.{Candidate}
use Rattle.fam_judging.specs.declared.candidate.Stage.TheVariants as stage
use Rattle.fam_judging.specs.declared.candidate.Track.{Track}
use Rattle.fam_judging.specs.declared.hosts.Hosts.{Hosts}
use Rattle.fam_judging.specs.Candidates.{progress_list, settled_state}

-- a host that is declared
abbrev pub new_seen : List ℕ → List ℕ → SeenHost
new_seen name uuid = record { name = name; uuid = uuid; runs = false; keeps = false }

-- what is seen of the hosts after a line that stands
abbrev pub seen_after : List SeenHost → Line → List SeenHost
seen_after seen (line.Host name uuid) = seen ++ new_seen name uuid ∷ []
seen_after seen (line.Made h p) = seen
seen_after seen (line.Cut h k) = seen
seen_after seen (line.Start h cmd) = changed_at h (λ s. record s { runs = true }) seen
seen_after seen (line.Mark h) = seen
seen_after seen (line.Found h n) = seen
seen_after seen (line.Writes h seq e) = seen
seen_after seen (line.Answered h answer) = changed_at h (λ s. record s { runs = false; keeps = keeps_behind (answer_of answer) s.keeps }) seen
seen_after seen (line.Stop h) = changed_at h (λ s. record s { runs = false }) seen
seen_after seen (line.Halt h) = changed_at h (λ s. record s { runs = false; keeps = false }) seen
seen_after seen (line.Umount h) = changed_at h (λ s. record s { keeps = false }) seen
seen_after seen (line.Refused name why) = seen

-- their last commands
abbrev pub commands_after : List (Option ToldCommand) → Line → List (Option ToldCommand)
commands_after cmds (line.Host name uuid) = cmds ++ None ∷ []
commands_after cmds (line.Made h p) = cmds
commands_after cmds (line.Cut h k) = cmds
commands_after cmds (line.Start h cmd) = changed_at h (λ c. Some cmd) cmds
commands_after cmds (line.Mark h) = cmds
commands_after cmds (line.Found h n) = cmds
commands_after cmds (line.Writes h seq e) = cmds
commands_after cmds (line.Answered h answer) = cmds
commands_after cmds (line.Stop h) = cmds
commands_after cmds (line.Halt h) = cmds
commands_after cmds (line.Umount h) = cmds
commands_after cmds (line.Refused name why) = cmds

-- of a host that has begun no command
abbrev pub new_track : Track
new_track = record { stage = stage.Begun; floor = None; wrote = None }

-- of a command that begins where so much is settled
abbrev pub begun_track : ℕ → Track
begun_track settled = record { stage = stage.Begun; floor = Some settled; wrote = None }

-- of a command that names an entry
abbrev pub named_track : ℕ → Entry → Track → Track
named_track seq e t = record t { stage = stage.Named seq; wrote = Some (record { seq = seq; entry = e }) }

-- what a candidate keeps of the hosts; so much is settled before the line
abbrev pub tracks_after : ℕ → List Track → Line → List Track
tracks_after settled tracks (line.Host name uuid) = tracks ++ new_track ∷ []
tracks_after settled tracks (line.Made h p) = tracks
tracks_after settled tracks (line.Cut h k) = tracks
tracks_after settled tracks (line.Start h cmd) = changed_at h (λ t. begun_track settled) tracks
tracks_after settled tracks (line.Mark h) = changed_at h (λ t. record t { stage = stage.Marked; floor = Some settled }) tracks
tracks_after settled tracks (line.Found h n) = changed_at h (λ t. record t { stage = stage.Met n }) tracks
tracks_after settled tracks (line.Writes h seq e) = changed_at h (named_track seq e) tracks
tracks_after settled tracks (line.Answered h answer) = tracks
tracks_after settled tracks (line.Stop h) = tracks
tracks_after settled tracks (line.Halt h) = tracks
tracks_after settled tracks (line.Umount h) = tracks
tracks_after settled tracks (line.Refused name why) = tracks

-- the state that a candidate is, beside hosts of which this is seen and whose last commands are these
abbrev pub possible_in : Image → List SeenHost → List (Option ToldCommand) → Candidate → Possible
possible_in start seen cmds c = record { state = settled_state start c.settled; hosts = progress_list seen cmds c.tracks.items }

-- so it is beside the hosts after a line
abbrev pub possible_after : Image → Hosts → Line → Candidate → Possible
possible_after start hosts line c = possible_in start (seen_after hosts.seen.items line) (commands_after hosts.commands.items line) c
