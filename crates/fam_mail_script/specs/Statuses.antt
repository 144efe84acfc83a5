-- What the notes of a mailbox count for. docs/MANUAL.md, "Mailboxes".
use Rattle.std.specs.Prelude.{Bool, true, ◌&&◌, List, [], ◌∷◌}
use Rattle.fam_outcomes.specs.declared.status.Status.{Status}
use Rattle.fam_outcomes.specs.declared.status.Status.TheVariants as status
use Rattle.fam_outcomes.specs.Statuses.{is_done}
use Rattle.fam_mail.specs.declared.note.MailNote.{MailNote}
use Rattle.fam_mail.specs.declared.note.MailNote.TheVariants.{Writer, Reader, Start, Mark, Found, Posted, Full, Taken, BadBox, BadRecord, Stop, Halt, MediaFault, Refused}
use Rattle.fam_mail.specs.declared.note.MailRefusal.{MailRefusal}
use Rattle.fam_mail.specs.declared.note.MailRefusal.TheVariants as why

-- of a refusal alone
abbrev pub mail_cause_status : MailRefusal → Status
mail_cause_status why.NoHost = status.Refused
mail_cause_status (why.SameHost other) = status.Refused
mail_cause_status why.TooManyHosts = status.Refused
mail_cause_status (why.SecondWriter other) = status.Refused
mail_cause_status why.Busy = status.Refused
mail_cause_status why.NotWriter = status.Refused
mail_cause_status why.Idle = status.Refused
mail_cause_status (why.NoLine at lines) = status.Refused
mail_cause_status (why.MediaFault at) = status.MediaFault

-- of a note alone: a full box refuses a post, and a box or a record that is none is damage
abbrev pub mail_note_status : MailNote → Status
mail_note_status (Writer name) = status.Done
mail_note_status (Reader name) = status.Done
mail_note_status (Start name ask) = status.Done
mail_note_status (Mark name) = status.Done
mail_note_status (Found name n) = status.Done
mail_note_status (Posted name n) = status.Done
mail_note_status (Full name n) = status.Refused
mail_note_status (Taken name count records) = status.Done
mail_note_status (BadBox name gate capacity) = status.Damaged
mail_note_status (BadRecord name i word) = status.Damaged
mail_note_status (Stop name) = status.Done
mail_note_status (Halt name) = status.Done
mail_note_status (MediaFault name at) = status.MediaFault
mail_note_status (Refused name cause) = mail_cause_status cause

-- every note alone has the status Done
abbrev pub is_good_mail : List MailNote → Bool
is_good_mail [] = true
is_good_mail (note ∷ notes) = is_done (mail_note_status note) && is_good_mail notes
