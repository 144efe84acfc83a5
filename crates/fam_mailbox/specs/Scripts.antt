-- The script of a mailbox: its events, or why they aren't run. docs/MANUAL.md, "Mailboxes".
use Rattle.std.specs.Prelude.{ℕ, ⊤, ◌≡◌, List, Ok, Err}
use Rattle.fam_mail.specs.declared.event.MailEvent.{MailEvent}
use Rattle.fam_mail_script.specs.Scripts.{mail_events}
use Rattle.fam_media.specs.States.{ShelfChange}
use Rattle.fam_program.specs.declared.fault.ScriptFault.{ScriptFault}
use Rattle.fam_program.specs.declared.fault.ScriptFault.TheVariants.{BadLine, Ended, NoFile, OutOfMemory, TooLong}
use Rattle.fam_program.specs.Files.{HoldsScript, IsUnread}

-- the script of this name has these events
pub record HoldsMail (change : ShelfChange) (name : List ℕ) (events : List MailEvent) : Type 0 where
  pub bytes : List ℕ
  pub holds : HoldsScript change name bytes
  pub reads : mail_events bytes ≡ Ok events

-- or a line that is bad
pub record HoldsBadMail (change : ShelfChange) (name : List ℕ) (line column : ℕ) : Type 0 where
  pub bytes : List ℕ
  pub holds : HoldsScript change name bytes
  pub bad : mail_events bytes ≡ Err (line, column)

-- each fault has its cause; but for a bad line it is that of any script
abbrev pub IsUnreadMail : ShelfChange → List ℕ → ScriptFault → Type 0
IsUnreadMail change name NoFile = IsUnread change name NoFile
IsUnreadMail change name (TooLong size) = IsUnread change name (TooLong size)
IsUnreadMail change name (Ended end) = IsUnread change name (Ended end)
IsUnreadMail change name (BadLine line column) = HoldsBadMail change name line column
IsUnreadMail change name OutOfMemory = ⊤
