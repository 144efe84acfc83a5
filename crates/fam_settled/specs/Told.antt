-- Commands and answers as a history tells them, among those of a journal.
use Rattle.std.specs.Prelude.{⊤, ◌≡◌, List, [], replicate}
use Rattle.std.specs.FinMap as map
use Rattle.fam_base.specs.declared.cmd.Cmd.{Cmd}
use Rattle.fam_base.specs.declared.cmd.Cmd.TheVariants.{Logplay, Mount, Mkdir, Creat, Cp, Verify, Read, Check, Fsck}
use Rattle.fam_base.specs.declared.cmd.Content.{Content}
use Rattle.fam_base.specs.declared.cmd.Content.TheVariants as content
use Rattle.fam_base.specs.declared.entry.Entry.{Entry}
use Rattle.fam_history.specs.declared.answer.ToldAnswer.{ToldAnswer}
use Rattle.fam_history.specs.declared.command.ToldCommand.{ToldCommand}
use Rattle.fam_history.specs.declared.command.ToldCommand.TheVariants as told
use Rattle.fam_history.specs.ToldAnswers.{reply_told}
use Rattle.fam_rules.specs.Asks.{File}
use Rattle.fam_rules.specs.Reply.{Reply, Appended, NotAppended, Played, Mounted, Same, Differs, Length, Bytes, NotFound, IsDirectory, Checks, Reports, NoSuperblock, BadHeader, BadSlot}
use Rattle.fam_judge.specs.Fitting.{AskFits}
use Rattle.fam_judge.specs.Untold.{untold, untold_cmd, untold_entry}

-- the command, without what isn't told
abbrev pub bare_cmd : ToldCommand → Cmd
bare_cmd (told.Plain cmd) = untold_cmd cmd
bare_cmd (told.Cp path size attr stripe) = Cp path attr stripe (replicate size untold)
bare_cmd (told.VerifySource path count) = Verify path (content.Bytes (replicate count untold))
bare_cmd (told.Check count) = Check (replicate count untold_entry)

-- the entries in the lines behind the first one of an answer
abbrev pub listed_of : Reply → List Entry
listed_of (Played m tree) = map.values tree
listed_of (Appended seq) = []
listed_of (NotAppended why) = []
listed_of (Mounted m) = []
listed_of (Same m) = []
listed_of (Differs m offset found wanted) = []
listed_of (Length m size wanted) = []
listed_of (Bytes m bytes) = []
listed_of (NotFound m) = []
listed_of (IsDirectory m) = []
listed_of (Checks m counts) = []
listed_of (Reports report) = []
listed_of (NoSuperblock fault) = []
listed_of (BadHeader fault) = []
listed_of (BadSlot seq reason) = []

-- a question of these entries may have an answer that tells this, with these entries in its lines
pub record IsToldFit (files : List File) (cmd : Cmd) (answer : ToldAnswer) (listed : List Entry) : Type 0 where
  pub given : Reply
  pub told : reply_told given ≡ answer
  pub lines : listed_of given ≡ listed
  pub fits : AskFits files cmd given

-- a question other than a check
abbrev pub IsNoCheck : Cmd → Type 0
IsNoCheck (Check listing) = ⊥
IsNoCheck Logplay = ⊤
IsNoCheck Mount = ⊤
IsNoCheck (Mkdir path attr) = ⊤
IsNoCheck (Creat path size attr stripe fill) = ⊤
IsNoCheck (Cp path attr stripe bytes) = ⊤
IsNoCheck (Verify path against) = ⊤
IsNoCheck (Read path offset count) = ⊤
IsNoCheck Fsck = ⊤

-- zeros or a seed: a creat has no bytes of a source
abbrev pub IsToldFill : Content → Type 0
IsToldFill content.Zero = ⊤
IsToldFill (content.Seed seed) = ⊤
IsToldFill (content.Bytes bytes) = ⊥

-- so a creat is filled
abbrev pub IsToldCreat : Cmd → Type 0
IsToldCreat (Creat path size attr stripe fill) = IsToldFill fill
IsToldCreat Logplay = ⊤
IsToldCreat Mount = ⊤
IsToldCreat (Mkdir path attr) = ⊤
IsToldCreat (Cp path attr stripe bytes) = ⊤
IsToldCreat (Verify path against) = ⊤
IsToldCreat (Read path offset count) = ⊤
IsToldCreat (Check listing) = ⊤
IsToldCreat Fsck = ⊤

-- so where it is told
abbrev pub HasToldFill : ToldCommand → Type 0
HasToldFill (told.Plain cmd) = IsToldCreat cmd
HasToldFill (told.Cp path size attr stripe) = ⊤
HasToldFill (told.VerifySource path count) = ⊤
HasToldFill (told.Check count) = ⊤
