-- What `mail` puts, and what it leaves of the image. docs/MANUAL.md, "Mailboxes".
use Rattle.std.specs.Prelude.{ℕ, ◌≡◌, ◌⊎◌, ◌≤◌, Bool, true, List}
use Rattle.fam_base.specs.declared.entry.Entry.{Entry}
use Rattle.fam_mail.specs.declared.event.MailEvent.{MailEvent}
use Rattle.fam_media.specs.Outside.{IfModelled}
use Rattle.fam_outcomes.specs.declared.status.Status.{Status}
use Rattle.fam_outcomes.specs.Runs.{NoneFalls, Outside}
use Rattle.fam_program.specs.declared.fault.ScriptFault.{ScriptFault}
use Rattle.fam_program.specs.Dups.{PutMade}
use Rattle.fam_program.specs.Files.{PutsEarly, early_of}
use Rattle.fam_rules.specs.Place.{IsProperEntry}
use Rattle.fam_mailbox.specs.declared.fault.LookFault.{LookFault}
use Rattle.fam_mailbox.specs.Lookups.{HasFile, IsLookCaused, IsLookCounted, IsSo, look_status, look_text}
use Rattle.fam_mailbox.specs.Runs.{MailRan}
use Rattle.fam_mailbox.specs.Scripts.{HoldsMail, IsUnreadMail}

-- the script isn't read: the media isn't asked, and why is put
pub record ScriptEnds (script : List ℕ) (out : Outside) (given : Status) : Type 0 where
  pub fault : ScriptFault
  pub cause : IsUnreadMail out.shelf script fault
  pub untouched : out.media.new ≡ out.media.old
  pub put : PutsEarly (early_of script fault) out.sink given

-- the script reads, and no box is found at the path: no event is run, and the image is as it was. A media that counts exactly has
-- failed once where the fault tells it, and never else
pub record LookEnds (exact : Bool) (script path : List ℕ) (out : Outside) (given : Status) : Type 0 where
  pub events : List MailEvent
  pub holds : HoldsMail out.shelf script events
  pub fault : LookFault
  pub is : IfModelled out.media.old.image (λ image. IsSo path image fault)
  pub cause : IsLookCaused out.lines out.media fault
  pub counted : exact ≡ true → IsLookCounted out.media.old.faults out.media.new.faults fault
  pub same : out.media.new.image ≡ out.media.old.image
  pub put : PutMade (look_status fault) (look_text fault) out.sink given

-- the script's events ran on the box in the file at the path, and the look for it failed in no line: a media that counts exactly has
-- failed once for each fault that the journal tells, and never else
pub record MailRuns (exact : Bool) (script path : List ℕ) (out : Outside) (given : Status) : Type 0 where
  pub events : List MailEvent
  pub holds : HoldsMail out.shelf script events
  pub entry : Entry
  pub proper : IsProperEntry entry
  pub room : 128 ≤ entry.size
  pub at : IfModelled out.media.old.image (λ image. HasFile path image entry)
  pub ran : MailRan exact entry events out.media out.sink given

-- what is put of a mailbox's script, and what is left of the image, by whether the media counts exactly; no count falls
pub record MailTop (exact : Bool) (script path : List ℕ) (out : Outside) (given : Status) : Type 0 where
  pub shows : ScriptEnds script out given ⊎ LookEnds exact script path out given ⊎ MailRuns exact script path out given
  pub later : NoneFalls out
