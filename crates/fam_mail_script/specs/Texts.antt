-- The text of a mailbox's journal. docs/MANUAL.md, "Mailboxes".
use Rattle.std.specs.Prelude.{ℕ, List, [], ◌∷◌, ◌++◌, codes}
use Rattle.std.specs.Fmt.{decimal}
use Rattle.std.specs.List.{flat_map}
use Rattle.fam_outcomes.specs.Texts.{fault_text, line, number}
use Rattle.fam_mail.specs.declared.ask.Ask.{Ask}
use Rattle.fam_mail.specs.declared.ask.Ask.TheVariants.{Post, Take}
use Rattle.fam_mail.specs.declared.note.MailNote.{MailNote}
use Rattle.fam_mail.specs.declared.note.MailNote.TheVariants.{Writer, Reader, Start, Mark, Found, Posted, Full, Taken, BadBox, BadRecord, Stop, Halt, MediaFault, Refused}
use Rattle.fam_mail.specs.declared.note.MailRefusal.{MailRefusal}
use Rattle.fam_mail.specs.declared.note.MailRefusal.TheVariants as why

-- numbers, a space in front of each
abbrev pub numbers_text : List ℕ → List ℕ
numbers_text numbers = flat_map number numbers

-- the numbers of a record, a space between two of them
abbrev pub record_text : List ℕ → List ℕ
record_text [] = []
record_text (n ∷ numbers) = decimal n ++ numbers_text numbers

-- records, a line each
abbrev pub record_text_line : List ℕ → List ℕ
record_text_line numbers = line (record_text numbers)

-- all of them
abbrev pub records_text : List (List ℕ) → List ℕ
records_text records = flat_map record_text_line records

-- what a host is asked for
abbrev pub ask_text : Ask → List ℕ
ask_text (Post numbers) = codes "post" ++ numbers_text numbers
ask_text Take = codes "take"

-- why a call for the host of this name is refused
abbrev pub mail_refusal_text : List ℕ → MailRefusal → List ℕ
mail_refusal_text name why.NoHost = codes "no host"
mail_refusal_text name (why.SameHost other) = codes "same host " ++ other
mail_refusal_text name why.TooManyHosts = codes "too many hosts"
mail_refusal_text name (why.SecondWriter other) = codes "second writer " ++ other
mail_refusal_text name why.Busy = codes "busy " ++ name
mail_refusal_text name why.NotWriter = codes "not writer"
mail_refusal_text name why.Idle = codes "idle"
mail_refusal_text name (why.NoLine at lines) = codes "no line" ++ number at ++ number lines
mail_refusal_text name (why.MediaFault at) = fault_text at.0

-- the text of a note without its host's name, with its line feeds
abbrev pub mail_note_text : MailNote → List ℕ
mail_note_text (Writer name) = line (codes "writer")
mail_note_text (Reader name) = line (codes "reader")
mail_note_text (Start name ask) = line (codes "start " ++ ask_text ask)
mail_note_text (Mark name) = line (codes "mark")
mail_note_text (Found name n) = line (codes "found" ++ number n)
mail_note_text (Posted name n) = line (codes "posted" ++ number n)
mail_note_text (Full name n) = line (codes "full" ++ number n)
mail_note_text (Taken name count records) = line (codes "taken" ++ number count) ++ records_text records
mail_note_text (BadBox name gate capacity) = line (codes "bad box" ++ number gate ++ number capacity)
mail_note_text (BadRecord name i word) = line (codes "bad record" ++ number i)
mail_note_text (Stop name) = line (codes "stop")
mail_note_text (Halt name) = line (codes "halt")
mail_note_text (MediaFault name at) = line (fault_text at.0)
mail_note_text (Refused name cause) = line (codes "refused " ++ mail_refusal_text name cause)

-- the name of a note's host
abbrev pub mail_note_name : MailNote → List ℕ
mail_note_name (Writer name) = name
mail_note_name (Reader name) = name
mail_note_name (Start name ask) = name
mail_note_name (Mark name) = name
mail_note_name (Found name n) = name
mail_note_name (Posted name n) = name
mail_note_name (Full name n) = name
mail_note_name (Taken name count records) = name
mail_note_name (BadBox name gate capacity) = name
mail_note_name (BadRecord name i word) = name
mail_note_name (Stop name) = name
mail_note_name (Halt name) = name
mail_note_name (MediaFault name at) = name
mail_note_name (Refused name cause) = name

-- one note: NAME TEXT, a line feed and its further lines
abbrev pub mail_note_line : MailNote → List ℕ
mail_note_line note = mail_note_name note ++ codes " " ++ mail_note_text note

-- the text of a journal
abbrev pub mail_text : List MailNote → List ℕ
mail_text notes = flat_map mail_note_line notes
