-- Classes of replies. Where replies of a class are alike a table speaks of the class, so a new reply chooses its class here,
-- once, and has no rows of its own but where it differs.
use Rattle.std.specs.Prelude.{ℕ, Bool, true, false}
use Rattle.fam_rules.specs.declared.answers.Refused.{Refused}
use Rattle.fam_rules.specs.declared.answers.Report.{Report}
use Rattle.fam_rules.specs.Reply.{Reply, Appended, NotAppended, Played, Mounted, Same, Differs, Length, Bytes, NotFound, IsDirectory, Checks, Reports, NoSuperblock, BadHeader, BadSlot}

-- what a reply tells
pub data ReplyClass : Type 0 where
  -- an entry of this number is appended
  Appending : (seq : ℕ) → ReplyClass
  -- nothing is appended
  Declining : (refused : Refused) → ReplyClass
  -- something of the first m entries
  Showing : (m : ℕ) → ReplyClass
  -- a survey of all slots
  Reporting : (report : Report) → ReplyClass
  -- the image is damaged
  Faulty : ReplyClass

-- the class of a reply
abbrev pub reply_class : Reply → ReplyClass
reply_class (Appended seq) = Appending seq
reply_class (NotAppended refused) = Declining refused
reply_class (Played m tree) = Showing m
reply_class (Mounted m) = Showing m
reply_class (Same m) = Showing m
reply_class (Differs m offset found wanted) = Showing m
reply_class (Length m size wanted) = Showing m
reply_class (Bytes m bytes) = Showing m
reply_class (NotFound m) = Showing m
reply_class (IsDirectory m) = Showing m
reply_class (Checks m checked) = Showing m
reply_class (Reports report) = Reporting report
reply_class (NoSuperblock fault) = Faulty
reply_class (BadHeader fault) = Faulty
reply_class (BadSlot seq reason) = Faulty

-- the reply of a mount, behind which its host keeps what it read
abbrev pub is_mounted : Reply → Bool
is_mounted (Appended seq) = false
is_mounted (NotAppended refused) = false
is_mounted (Played m tree) = false
is_mounted (Mounted m) = true
is_mounted (Same m) = false
is_mounted (Differs m offset found wanted) = false
is_mounted (Length m size wanted) = false
is_mounted (Bytes m bytes) = false
is_mounted (NotFound m) = false
is_mounted (IsDirectory m) = false
is_mounted (Checks m checked) = false
is_mounted (Reports report) = false
is_mounted (NoSuperblock fault) = false
is_mounted (BadHeader fault) = false
is_mounted (BadSlot seq reason) = false
