-- What comes of words that ask for a script over a mailbox, and of other words. docs/MANUAL.md, "Mailboxes".
use Rattle.std.specs.Prelude.{Bool, Option, Some, None}
use Rattle.fam_grammar.specs.Scripts.{script_events}
use Rattle.fam_mailbox.specs.Mails.{MailTop}
use Rattle.fam_outcomes.specs.declared.status.Status.{Status}
use Rattle.fam_outcomes.specs.Programs.{TopEnds}
use Rattle.fam_outcomes.specs.Runs.{Outside}
use Rattle.fam_storm.specs.Storm.{storm}
use Rattle.fam_words.specs.declared.wanted.MailCall.{MailCall}

-- the script is run on the box, or is ended early by its cause; words that ask for none are no command, and nothing is run. It is
-- told too whether the media counts exactly
abbrev pub MailEnds : Bool → Option MailCall → Outside → Status → Type 0
MailEnds exact None out status = TopEnds script_events storm None out status
MailEnds exact (Some call) out status = MailTop exact call.script call.path out status
