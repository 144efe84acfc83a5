-- An answer is a reply, whoever runs the command.
use Rattle.std.specs.Prelude.{Option, Some, None}
use Rattle.fam_format.specs.declared.faults.SuperFault.TheVariants as super_fault
use Rattle.fam_format.specs.declared.faults.LogFault.TheVariants as log_fault
use Rattle.fam_rules.specs.declared.answers.Refused.TheVariants as refused
use Rattle.fam_rules.specs.Reply.{Reply, Appended, NotAppended, Played, Mounted, Same, Differs, Length, Bytes, NotFound, IsDirectory, Checks, Reports, NoSuperblock, BadHeader, BadSlot}
use Rattle.fam_tasks.specs.declared.answer.Answer.{Answer}
use Rattle.fam_tasks.specs.declared.answer.Answer.TheVariants as answer

-- the reply that an answer stands for. That the media failed is none
abbrev pub reply_of : Answer → Option Reply
reply_of (answer.Ok seq) = Some (Appended seq)
reply_of (answer.Played m tree) = Some (Played m tree)
reply_of (answer.Mounted m) = Some (Mounted m)
reply_of (answer.Same m) = Some (Same m)
reply_of (answer.Bytes m bytes) = Some (Bytes m bytes)
reply_of (answer.Checked m checked) = Some (Checks m checked)
reply_of (answer.Report report) = Some (Reports report)
reply_of (answer.NoSuper word) = Some (NoSuperblock (super_fault.NoSuper word))
reply_of (answer.BadSuper field found wanted) = Some (NoSuperblock (super_fault.BadSuper field found wanted))
reply_of (answer.BadLog field found wanted) = Some (BadHeader (log_fault.BadLog field found wanted))
reply_of (answer.BadEntry seq reason) = Some (BadSlot seq reason)
reply_of (answer.NotMaster me master) = Some (NotAppended (refused.NotMaster me master))
reply_of (answer.LongPath limit) = Some (NotAppended (refused.LongPath limit))
reply_of answer.BadStripe = Some (NotAppended refused.BadStripe)
reply_of (answer.Exists kind) = Some (NotAppended (refused.Exists kind))
reply_of answer.NoParent = Some (NotAppended refused.NoParent)
reply_of answer.ParentIsFile = Some (NotAppended refused.ParentIsFile)
reply_of (answer.LogFull slots) = Some (NotAppended (refused.LogFull slots))
reply_of (answer.NoSpace units) = Some (NotAppended (refused.NoSpace units))
reply_of (answer.NotFound m) = Some (NotFound m)
reply_of (answer.IsDirectory m) = Some (IsDirectory m)
reply_of (answer.Differs m offset found wanted) = Some (Differs m offset found wanted)
reply_of (answer.Length m size wanted) = Some (Length m size wanted)
reply_of (answer.MediaFault line) = None
