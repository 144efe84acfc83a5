-- What is left of a command that finds so many entries and is refused what it wants to append.
use Rattle.std.specs.Prelude.{ℕ, ◌≡◌, ◌+◌, length, Option, Some, None, option_map, Err}
use Rattle.fam_base.specs.Image.{Image}
use Rattle.fam_history.specs.declared.command.ToldCommand.{ToldCommand}
use Rattle.fam_journal.specs.Legal.{DecideAllowed}
use Rattle.fam_journal.specs.Past.{HostPast, finds}
use Rattle.fam_lines.specs.declared.host.SeenHost.{SeenHost}
use Rattle.fam_lines.specs.Lines.{untold_of}
use Rattle.fam_rules.specs.declared.answers.Refused.{Refused as Cause}
use Rattle.fam_settled.specs.declared.bytes.Filed.{Filed}
use Rattle.fam_settled.specs.Settled.{SettledLog as Log, settled_log_state}
use Rattle.fam_judging.specs.declared.candidate.Track.{Track}
use Rattle.fam_judging.specs.declared.lefts.Left.{Left}
use Rattle.fam_judging.specs.Candidates.{named_of}
use Rattle.fam_judging.specs.ReplyKinds.{ending_left}

-- what is known of the host
abbrev pub host_of : SeenHost → ToldCommand → Track → HostPast
host_of seen cmd track = record { name = seen.name; uuid = seen.uuid; cmd = Some (untold_of cmd); floor = track.floor; wrote = option_map named_of track.wrote }

-- where it found n entries it is refused so, or not
abbrev pub FoundLeft : Log → ℕ → SeenHost → ToldCommand → Track → Cause → Option Left → Type 0
FoundLeft log n seen cmd track why None = DecideAllowed (host_of seen cmd track) (Err why) (finds n (settled_log_state log)) → ⊥
FoundLeft log n seen cmd track why (Some l) =
    DecideAllowed (host_of seen cmd track) (Err why) (finds n (settled_log_state log))
    × ((start : Image) → ending_left start l.settled l.track ≡ record { state = finds n (settled_log_state log); floor = track.floor; wrote = option_map named_of track.wrote })

-- so where it found the one that pends too
abbrev pub PendingLeft : Log → SeenHost → ToldCommand → Track → Cause → Option Filed → Option Left → Type 0
PendingLeft log seen cmd track why None left = left ≡ None
PendingLeft log seen cmd track why (Some f) left = FoundLeft log (length log.entries + 1) seen cmd track why left
