-- What is left of a command whose entry is acknowledged.
use Rattle.std.specs.Prelude.{ℕ, ◌≡◌, Option, Some, None, option_map}
use Rattle.fam_base.specs.declared.entry.Entry.{Entry}
use Rattle.fam_base.specs.Image.{Image}
use Rattle.fam_history.specs.declared.command.ToldCommand.{ToldCommand}
use Rattle.fam_journal.specs.Legal.{AppendedAllowed, FoundAllowed, WritesAllowed}
use Rattle.fam_journal.specs.Past.{State, acknowledges, filled_bytes, finds, pends}
use Rattle.fam_journal.specs.Shapes.{EntryShape}
use Rattle.fam_lines.specs.declared.host.SeenHost.{SeenHost}
use Rattle.fam_lines.specs.Lines.{untold_of}
use Rattle.fam_settled.specs.Settled.{SettledLog as Log, settled_log_state}
use Rattle.fam_judging.specs.declared.candidate.Settled.TheVariants as settled
use Rattle.fam_judging.specs.declared.candidate.Track.{Track}
use Rattle.fam_judging.specs.declared.lefts.Left.{Left}
use Rattle.fam_judging.specs.FoundLefts.{host_of}
use Rattle.fam_judging.specs.ReplyKinds.{ending_left}
use Rattle.fam_judging.specs.Candidates.{named_of}

-- an entry of a command is named and acknowledged
abbrev pub acknowledged_state : ToldCommand → ℕ → Entry → State → State
acknowledged_state cmd seq e state = acknowledges seq (pends (record { entry = e; bytes = filled_bytes (Some (untold_of cmd)) e.size }) state)

-- entry `seq` is acknowledged in a log, and this is known of the host
abbrev pub IsAcknowledgedLeft : Log → ℕ → Track → Option Left → Type 0
IsAcknowledgedLeft log seq track left = (new : Log) × (left ≡ Some (record { settled = settled.Log new; track = track })) × settled_log_state new ≡ acknowledges seq (settled_log_state log)

-- where it found what is settled it names an entry of this number, or not
abbrev pub NamedLeft : Log → ℕ → SeenHost → ToldCommand → Track → Option Left → Type 0
NamedLeft log seq seen cmd track None = (e : Entry) → WritesAllowed seq e (host_of seen cmd track) (settled_log_state log) → ⊥
NamedLeft log seq seen cmd track (Some l) =
    (e : Entry) × WritesAllowed seq e (host_of seen cmd track) (settled_log_state log) × EntryShape (untold_of cmd) e
    × ((start : Image) → ending_left start l.settled l.track ≡ record {
      state = acknowledged_state cmd seq e (settled_log_state log);
      floor = track.floor;
      wrote = Some
          (record { seq = seq; entry = e });
    })

-- the entry that it named is acknowledged, or not
abbrev pub AcknowledgedLeft : Log → ℕ → SeenHost → ToldCommand → Track → Option Left → Type 0
AcknowledgedLeft log seq seen cmd track None = AppendedAllowed seq (host_of seen cmd track) (acknowledges seq (settled_log_state log)) → ⊥
AcknowledgedLeft log seq seen cmd track (Some l) =
    AppendedAllowed seq (host_of seen cmd track) (acknowledges seq (settled_log_state log))
    × ((start : Image) → ending_left start l.settled l.track ≡ record { state = acknowledges seq (settled_log_state log); floor = track.floor; wrote = option_map named_of track.wrote })

-- where it finds so many entries now, so many are settled then, and it names an entry of this number, or not
abbrev pub FoundNamed : Log → ℕ → SeenHost → ToldCommand → Track → Option Left → Type 0
FoundNamed log seq seen cmd track None =
    FoundAllowed seq (settled_log_state log) → (e : Entry) → WritesAllowed seq e (host_of seen cmd track) (finds seq (settled_log_state log)) → ⊥
FoundNamed log seq seen cmd track (Some l) =
    FoundAllowed seq (settled_log_state log)
    × ((e : Entry) × WritesAllowed seq e (host_of seen cmd track) (finds seq (settled_log_state log)) × EntryShape (untold_of cmd) e
    × ((start : Image) → ending_left start l.settled l.track ≡ record {
      state = acknowledged_state cmd seq e (finds seq (settled_log_state log));
      floor = track.floor;
      wrote = Some
          (record { seq = seq; entry = e });
    }))
