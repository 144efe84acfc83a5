-- What laws say of runs of a mailbox's events, and of legal journals. docs/MODEL.md, "The mailbox".
use Rattle.std.specs.Prelude.{ℕ, ⊤, ◌≡◌, ◌⊎◌, ◌≤◌, ◌<◌, ◌++◌, ◌∷◌, List, [], length, map, take, Ok}
use Rattle.fam_base.specs.Image.{Image, eight, line_at}
use Rattle.fam_base.specs.declared.entry.Entry.{Entry}
use Rattle.fam_rules.specs.Written.{file_line}
use Rattle.fam_mail.specs.declared.note.MailNote.{MailNote}
use Rattle.fam_mail.specs.declared.note.MailNote.TheVariants.{Writer, Reader, Start, Mark, Found, Posted, Full, Taken, BadBox, BadRecord, Stop, Halt, MediaFault, Refused}
use Rattle.fam_mail.specs.declared.note.MailRefusal.{MailRefusal}
use Rattle.fam_mail.specs.Boxes.{IsOneToOne, box_of, capacity_of}
use Rattle.fam_mail.specs.Legal.{mail_state}
use Rattle.fam_mail.specs.Mail.{Mail, whole}
use Rattle.fam_mail.specs.Protocol.{IsLineOfBox}

-- where a run may begin: the file's lines are apart and among the image's, and the box is read as this list
pub record IsBoxAtFirst (entry : Entry) (image : Image) (records : List (List ℕ)) : Type 0 where
  pub apart : IsOneToOne (file_line entry) (capacity_of entry.size)
  pub place : (j : ℕ) → j ≤ capacity_of entry.size → file_line entry j < length image
  pub normal : map eight image ≡ image
  pub reads : box_of (file_line entry) (capacity_of entry.size) (line_at image) ≡ Ok records

-- an image is what a run has left: its box is read as the list, or as that followed by the pending record, and its other lines are as
-- at first
pub record IsBoxLeft (entry : Entry) (start image : Image) (m : Mail) : Type 0 where
  pub reads : (box_of (file_line entry) (capacity_of entry.size) (line_at image) ≡ Ok m.list) ⊎ (box_of (file_line entry) (capacity_of entry.size) (line_at image) ≡ Ok (whole m))
  pub others : (l : ℕ) → (IsLineOfBox (file_line entry) (capacity_of entry.size) l → ⊥) → line_at image l ≡ line_at start l

-- a note isn't a mark of the host of this name
abbrev pub IsNoMark : List ℕ → MailNote → Type 0
IsNoMark name (Writer other) = ⊤
IsNoMark name (Reader other) = ⊤
IsNoMark name (Start other ask) = ⊤
IsNoMark name (Mark other) = other ≡ name → ⊥
IsNoMark name (Found other n) = ⊤
IsNoMark name (Posted other n) = ⊤
IsNoMark name (Full other n) = ⊤
IsNoMark name (Taken other count records) = ⊤
IsNoMark name (BadBox other gate most) = ⊤
IsNoMark name (BadRecord other i word) = ⊤
IsNoMark name (Stop other) = ⊤
IsNoMark name (Halt other) = ⊤
IsNoMark name (MediaFault other line) = ⊤
IsNoMark name (Refused other cause) = ⊤

-- none of them is
abbrev pub AreNoMarks : List ℕ → List MailNote → Type 0
AreNoMarks name [] = ⊤
AreNoMarks name (note ∷ notes) = IsNoMark name note × AreNoMarks name notes

-- the last mark of a host in a journal: the notes before it, and those behind
pub record LastMark (name : List ℕ) (journal : List MailNote) : Type 0 where
  pub front : List MailNote
  pub behind : List MailNote
  pub is : journal ≡ front ++ Mark name ∷ behind
  pub last : AreNoMarks name behind

-- a list that is taken behind a journal is a front of the settled records followed by the pending one, and all that was settled when its
-- take dropped the gate's line, at the host's last mark, stands first in it
pub record IsTakenList (capacity : ℕ) (records : List (List ℕ)) (journal : List MailNote) (name : List ℕ) (count : ℕ) (taken : List (List ℕ)) : Type 0 where
  pub count_is : count ≡ length taken
  pub within : count ≤ length (whole (mail_state capacity records journal).mail)
  pub front : taken ≡ take count (whole (mail_state capacity records journal).mail)
  pub mark : LastMark name journal
  pub holds : (mail_state capacity records mark.front).mail.list ≡ take (length (mail_state capacity records mark.front).mail.list) taken

-- a note ends a task of the host of this name: its record is posted, the box is full, or a list is taken
abbrev pub IsAnswer : List ℕ → MailNote → Type 0
IsAnswer name (Writer other) = ⊥
IsAnswer name (Reader other) = ⊥
IsAnswer name (Start other ask) = ⊥
IsAnswer name (Mark other) = ⊥
IsAnswer name (Found other n) = ⊥
IsAnswer name (Posted other n) = other ≡ name
IsAnswer name (Full other n) = other ≡ name
IsAnswer name (Taken other count records) = other ≡ name
IsAnswer name (BadBox other gate most) = ⊥
IsAnswer name (BadRecord other i word) = ⊥
IsAnswer name (Stop other) = ⊥
IsAnswer name (Halt other) = ⊥
IsAnswer name (MediaFault other line) = ⊥
IsAnswer name (Refused other cause) = ⊥

-- notes end so
pub record TaskAnswers (name : List ℕ) (notes : List MailNote) : Type 0 where
  pub before : List MailNote
  pub answer : MailNote
  pub is : notes ≡ before ++ answer ∷ []
  pub answers : IsAnswer name answer

-- or nothing ran, since it is refused
pub record IsMailRefused (name : List ℕ) (notes : List MailNote) : Type 0 where
  pub cause : MailRefusal
  pub is : notes ≡ Refused name cause ∷ []
