-- What is put of a mailbox's notes, behind what was put before.
use Rattle.std.specs.Prelude.{ℕ, ◌++◌, List, take}
use Rattle.fam_mail.specs.declared.note.MailNote.{MailNote}
use Rattle.fam_mail_script.specs.Texts.{mail_text}
use Rattle.fam_media.specs.States.{SinkChange}
use Rattle.fam_outcomes.specs.declared.status.Status.{Status}
use Rattle.fam_outcomes.specs.declared.status.Status.TheVariants as status
use Rattle.fam_outcomes.specs.Programs.{memory_line}
use Rattle.fam_program.specs.Puts.{Put, PutWhole}

-- of these notes the text of some first ones was put
abbrev pub PutSomeMail : List MailNote → SinkChange → Type 0
PutSomeMail notes s = (count : ℕ) × PutWhole (mail_text (take count notes)) s

-- no memory was left: behind the text of some first ones of these notes a line says so
abbrev pub PutShortMail : List MailNote → SinkChange → Status → Type 0
PutShortMail notes s given = (count : ℕ) × Put status.OutOfMemory (mail_text (take count notes) ++ memory_line) s given
