-- Classes of notes. Where notes of a class are alike a table speaks of the class, so a new note chooses its class here, once,
-- and has no rows of its own but where it differs.
use Rattle.std.specs.Prelude.{ℕ, List}
use Rattle.fam_base.specs.declared.entry.Params.{Params}
use Rattle.fam_journal.specs.declared.refusal.Refusal.{Refusal}
use Rattle.fam_journal.specs.Notes.{Note, Answer, Host, Made, Cut, Start, Mark, Found, Writes, Answered, Stop, Halt, Umount, Refused}

-- what a note tells
pub data NoteClass : Type 0 where
  -- there is one host more
  Declared : (name uuid : List ℕ) → NoteClass
  -- there is a new file system
  Formatted : (host : ℕ) (params : Params) → NoteClass
  -- a host's command begins, goes on or is given up, the host forgets what it kept, or it halts in making a file system
  Going : (host : ℕ) → NoteClass
  -- a host's command ended with an answer
  Answering : (host : ℕ) (answer : Answer) → NoteClass
  -- a call was refused
  Refusing : (name : List ℕ) (cause : Refusal) → NoteClass

-- the class of a note
abbrev pub note_class : Note → NoteClass
note_class (Host name uuid) = Declared name uuid
note_class (Made host params) = Formatted host params
note_class (Cut host k) = Going host
note_class (Start host cmd) = Going host
note_class (Mark host) = Going host
note_class (Found host n) = Going host
note_class (Writes host seq entry) = Going host
note_class (Answered host answer) = Answering host answer
note_class (Stop host) = Going host
note_class (Halt host) = Going host
note_class (Umount host) = Going host
note_class (Refused name cause) = Refusing name cause
