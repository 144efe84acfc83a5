-- Events that ask nothing of the media.
use Rattle.std.specs.Prelude.{ℕ, ◌≡◌}
use Rattle.fam_base.specs.declared.cmd.Cmd.{Cmd}
use Rattle.fam_commands.specs.Classes.{is_mount}
use Rattle.fam_machine.specs.HostMoves as how
use Rattle.fam_journal.specs.Calls.{Begins, Finishes, Makes, Moves, Steps}
use Rattle.fam_journal.specs.Events.{mounts}
use Rattle.fam_journal.specs.declared.event.Event.{Event}
use Rattle.fam_journal.specs.declared.event.Event.TheVariants as event
use Rattle.fam_journal.specs.View.{WorldView}
use Rattle.fam_world.specs.Answers.{IsUntouched}

-- The media is as it was where the world alone refuses the event's call: it isn't even read, so that a fault of it can't be
-- told of an event that never came to it. Of what a host begins only whether it is a mount matters for that, so a run is told
-- by any command that is one, or none. Hosts that are declared, begin, stop, halt or forget never come to the media.
abbrev pub IsUntouchedBy : {M : Type 0} → Event → ℕ → WorldView → M → M → Type 0
IsUntouchedBy (event.Host name uuid) lines world before behind = behind ≡ before
IsUntouchedBy (event.Mkfs name request) lines world before behind =
    IsUntouched (Makes name request) lines world before behind
IsUntouchedBy (event.Begin name what) lines world before behind = behind ≡ before
IsUntouchedBy (event.Run name what) lines world before behind =
    (cmd : Cmd) → is_mount cmd ≡ mounts what → IsUntouched (Begins name cmd) lines world before behind
IsUntouchedBy (event.Step name count) lines world before behind = IsUntouched (Steps name) lines world before behind
IsUntouchedBy (event.Finish name) lines world before behind = IsUntouched (Finishes name) lines world before behind
IsUntouchedBy (event.Stop name) lines world before behind = behind ≡ before
IsUntouchedBy (event.Halt name) lines world before behind = behind ≡ before
IsUntouchedBy (event.Umount name) lines world before behind = behind ≡ before
IsUntouchedBy (event.Evict name line) lines world before behind = IsUntouched (Moves name line.0 how.Evict) lines world before behind
IsUntouchedBy (event.Leak name line mask) lines world before behind =
    IsUntouched (Moves name line.0 (how.Leak mask.0)) lines world before behind
IsUntouchedBy (event.Fetch name line mask) lines world before behind =
    IsUntouched (Moves name line.0 (how.Fetch mask.0)) lines world before behind
