-- Journals that are the same but for bytes: they differ in the bytes and listings of sources alone, and these are as long.
use Rattle.std.specs.Prelude.{ℕ, ⊤, ◌≡◌, List, [], ◌∷◌, map, Option, Some, None}
use Rattle.fam_journal.specs.Notes.{Note, Host, Made, Cut, Start, Mark, Found, Writes, Answered, Stop, Halt, Umount, Refused}
use Rattle.fam_history.specs.declared.command.ToldCommand.{ToldCommand}
use Rattle.fam_history.specs.declared.command.ToldCommand.TheVariants as told
use Rattle.fam_history.specs.Told.{told_of_command}

-- what a text tells of a note
pub data ToldNote : Type 0 where
  -- a command begins, of which so much is told
  Begins : (host : ℕ) (cmd : ToldCommand) → ToldNote
  -- any other note: all of it
  Tells : (note : Note) → ToldNote

-- what is told of a note
abbrev pub told_note : Note → ToldNote
told_note (Host name uuid) = Tells (Host name uuid)
told_note (Made h p) = Tells (Made h p)
told_note (Cut h k) = Tells (Cut h k)
told_note (Start h cmd) = Begins h (told_of_command cmd)
told_note (Mark h) = Tells (Mark h)
told_note (Found h n) = Tells (Found h n)
told_note (Writes h seq entry) = Tells (Writes h seq entry)
told_note (Answered h answer) = Tells (Answered h answer)
told_note (Stop h) = Tells (Stop h)
told_note (Halt h) = Tells (Halt h)
told_note (Umount h) = Tells (Umount h)
told_note (Refused name cause) = Tells (Refused name cause)

-- two journals tell the same
abbrev pub AreAlikeNotes : List Note → List Note → Type 0
AreAlikeNotes a b = map told_note a ≡ map told_note b

-- the command that is told, where no bytes or listing are left out
abbrev pub whole_command : ℕ → ToldCommand → Option Note
whole_command h (told.Plain cmd) = Some (Start h cmd)
whole_command h (told.Cp path size attr stripe) = None
whole_command h (told.VerifySource path count) = None
whole_command h (told.Check count) = None

-- so of a note
abbrev pub whole_note : ToldNote → Option Note
whole_note (Begins h cmd) = whole_command h cmd
whole_note (Tells note) = Some note

-- a text tells all of the note
abbrev pub IsWhollyTold : Note → Type 0
IsWhollyTold note = whole_note (told_note note) ≡ Some note

-- so of each of these: none takes something from a source
abbrev pub AreWhollyTold : List Note → Type 0
AreWhollyTold [] = ⊤
AreWhollyTold (note ∷ notes) = IsWhollyTold note × AreWhollyTold notes
