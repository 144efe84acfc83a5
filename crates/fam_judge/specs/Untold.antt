-- Notes without what a history doesn't tell of them. A byte that comes from a source stands as 256, which is no byte, and an entry of a
-- source's listing as one that says nothing.
use Rattle.std.specs.Prelude.{ℕ, List, [], length, map, replicate}
use Rattle.fam_base.specs.declared.cmd.Cmd.{Cmd}
use Rattle.fam_base.specs.declared.cmd.Cmd.TheVariants.{Logplay, Mount, Mkdir, Creat, Cp, Verify, Read, Check, Fsck}
use Rattle.fam_base.specs.declared.cmd.Content.{Content}
use Rattle.fam_base.specs.declared.cmd.Content.TheVariants as content
use Rattle.fam_base.specs.declared.entry.Entry.{Entry}
use Rattle.fam_base.specs.declared.entry.Kind.TheVariants as kind
use Rattle.fam_base.specs.declared.entry.MapKind.TheVariants as mapped
use Rattle.fam_journal.specs.Notes.{Note, Host, Made, Cut, Start, Mark, Found, Writes, Answered, Stop, Halt, Umount, Refused}

-- stands for a byte that isn't told
abbrev pub untold : ℕ
untold = 256

-- as many bytes, none of them told
abbrev pub untold_bytes : List ℕ → List ℕ
untold_bytes bytes = replicate (length bytes) untold

-- stands for an entry that isn't told
abbrev pub untold_entry : Entry
untold_entry = record { kind = kind.File; path = []; size = 0; mode = 0; uid = 0; gid = 0; map = mapped.Empty; extents = [] }

-- the bytes that a file is compared with
abbrev pub untold_content : Content → Content
untold_content content.Zero = content.Zero
untold_content (content.Seed seed) = content.Seed seed
untold_content (content.Bytes bytes) = content.Bytes (untold_bytes bytes)

-- a command
abbrev pub untold_cmd : Cmd → Cmd
untold_cmd Logplay = Logplay
untold_cmd Mount = Mount
untold_cmd (Mkdir path attr) = Mkdir path attr
untold_cmd (Creat path size attr stripe fill) = Creat path size attr stripe fill
untold_cmd (Cp path attr stripe bytes) = Cp path attr stripe (untold_bytes bytes)
untold_cmd (Verify path against) = Verify path (untold_content against)
untold_cmd (Read path offset count) = Read path offset count
untold_cmd (Check listing) = Check (replicate (length listing) untold_entry)
untold_cmd Fsck = Fsck

-- a note
abbrev pub untold_note : Note → Note
untold_note (Host name uuid) = Host name uuid
untold_note (Made h p) = Made h p
untold_note (Cut h k) = Cut h k
untold_note (Start h cmd) = Start h (untold_cmd cmd)
untold_note (Mark h) = Mark h
untold_note (Found h n) = Found h n
untold_note (Writes h seq entry) = Writes h seq entry
untold_note (Answered h answer) = Answered h answer
untold_note (Stop h) = Stop h
untold_note (Halt h) = Halt h
untold_note (Umount h) = Umount h
untold_note (Refused name cause) = Refused name cause

-- each of these notes
abbrev pub untold_notes : List Note → List Note
untold_notes notes = map untold_note notes
