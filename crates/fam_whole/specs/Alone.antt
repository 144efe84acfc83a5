-- A command of its own, as the program's top call runs it: one host is declared, and no other one touches the image.
use Rattle.std.specs.Prelude.{ℕ, ◌*◌, ◌++◌, Bool, true, false, List, [], codes, length, nat_lt, Option, Some, None, Result, Ok, Err, option_map}
use Rattle.fam_base.specs.declared.cmd.Attr.{Attr}
use Rattle.fam_base.specs.declared.cmd.Cmd.{Cmd}
use Rattle.fam_base.specs.declared.entry.Params.{Params}
use Rattle.fam_base.specs.Image.{Image, line_at}
use Rattle.fam_machine.specs.declared.request.MkfsRequest.{MkfsRequest}
use Rattle.fam_format.specs.declared.faults.SuperFault.{SuperFault}
use Rattle.fam_format.specs.Layout.{least_lines}
use Rattle.fam_format.specs.Reading.{super_in}
use Rattle.fam_format.specs.Stop.{or_else}
use Rattle.fam_machine.specs.Mkfs.{asked, early_refusal}
use Rattle.fam_media.specs.Files.{Files}
use Rattle.fam_rules.specs.Place.{line_bytes}
use Rattle.fam_rules.specs.Solo.{solo_image, solo_reply}
use Rattle.fam_rules.specs.Written.{formatted}
use Rattle.fam_journal.specs.declared.event.Ask.{Ask}
use Rattle.fam_journal.specs.declared.event.Event.{Event}
use Rattle.fam_journal.specs.declared.refusal.Refusal.{Refusal}
use Rattle.fam_journal.specs.declared.refusal.Refusal.TheVariants as why
use Rattle.fam_outcomes.specs.declared.status.Status.{Status}
use Rattle.fam_outcomes.specs.declared.status.Status.TheVariants as status
use Rattle.fam_journal.specs.Calls.{cause_of, when}
use Rattle.fam_journal.specs.Ends.{Ending}
use Rattle.fam_journal.specs.Notes.{Note}
use Rattle.fam_journal.specs.Events.{Ready, SourceSays, Sourced, Unfit}
use Rattle.fam_outcomes.specs.Programs.{IsWholeRun, MakesParents, OneShot, ShotText, shot_status}
use Rattle.fam_outcomes.specs.Runs.{IsPut, Outside}
use Rattle.fam_outcomes.specs.Statuses.{cause_status, parents_status, reply_status}
use Rattle.fam_outcomes.specs.Texts.{line, made_text, refusal_text, reply_text, shown}
use Rattle.fam_whole.specs.Whole.{EndsAs, FrontRun, IsExact, WholeRun, image_of}

-- a refusal is put, and the image is as it was
abbrev pub RefusalEnds : Refusal → Image → Outside → Status → Type 0
RefusalEnds cause start out given = EndsAs out given (line (codes "refused " ++ refusal_text [] cause)) start (cause_status cause)

-- it ends with this refusal; without one it ends so
abbrev pub EndsUnless : Option Refusal → Image → Outside → Status → Type 0 → Type 0
EndsUnless (Some cause) start out given Ends = RefusalEnds cause start out given
EndsUnless None start out given Ends = Ends

-- Commands.

-- an image without a gate refuses each command
abbrev pub command_refusal : Image → Option Refusal
command_refusal start = when (nat_lt (length start) least_lines) (why.ImageSmall (length start))

-- the rules' answer on the image is put, and the image is left that they leave
abbrev pub AnswerEnds : Image → List ℕ → Cmd → Outside → Status → Type 0
AnswerEnds start me cmd out given = EndsAs out given (reply_text (solo_reply start me cmd)) (solo_image start me cmd) (reply_status (solo_reply start me cmd))

-- a command that needs no source
abbrev pub CommandEnds : Image → List ℕ → Cmd → Outside → Status → Type 0
CommandEnds start me cmd out given = EndsUnless (command_refusal start) start out given (AnswerEnds start me cmd out given)

-- a command with the bytes of its source; or a source that there isn't, or that doesn't fit, is refused
abbrev pub SourcedEnds : Sourced → Image → List ℕ → Outside → Status → Type 0
SourcedEnds (Ready cmd copied) start me out given = AnswerEnds start me cmd out given
SourcedEnds (Unfit cause copied) start me out given = RefusalEnds cause start out given

-- by what the shelf says of the source
pub record SaidEnds (files : Files) (start : Image) (me : List ℕ) (what : Ask) (out : Outside) (given : Status) : Type 0 where
  pub said : Sourced
  pub says : SourceSays files 0 what said
  pub ends : SourcedEnds said start me out given

-- any command. The image is looked at before the source
abbrev pub AskEnds : Files → Image → List ℕ → Ask → Outside → Status → Type 0
AskEnds files start me what out given = EndsUnless (command_refusal start) start out given (SaidEnds files start me what out given)

-- File systems.

-- a superblock that stands there refuses a new file system that isn't forced
abbrev pub standing_refusal : Bool → Result Params SuperFault → Option Refusal
standing_refusal true found = None
standing_refusal false (Ok other) = Some (why.HasSuper other.fs)
standing_refusal false (Err fault) = None

-- the numbers are looked at first, and then the superblock
abbrev pub mkfs_refusal : Image → ℕ → ℕ → Bool → Option Refusal
mkfs_refusal start unit log force =
    or_else (option_map cause_of (early_refusal unit log (line_bytes * length start))) (standing_refusal force (super_in (line_at start) (line_bytes * length start)))

-- a new file system is formatted, with the parameters that were asked for, and the host is its master
abbrev pub FormatsImage : Image → List ℕ → MkfsRequest → Outside → Status → Type 0
FormatsImage start me request out given =
    EndsUnless (mkfs_refusal start request.unit request.log request.force) start out given (EndsAs out given (line (made_text (asked request me (length start)))) (formatted start (asked request me (length start))) status.Done)

-- Where sink or source failed, or memory ran out.

-- the events of a command of its own were run as far as that let them, exactly. What is to be put is the text of their notes, or
-- the line that ends them early; and it is put, or a front of it where the sink failed
pub record ShotFront (files : Files) (start : Image) (me : List ℕ) (shot : OneShot) (out : Outside) (given : Status) : Type 0 where
  pub ending : Ending
  pub events : List Event
  pub journal : List Note
  pub steps : IsWholeRun me shot events journal
  pub front : FrontRun files events start out ending journal
  pub text : List ℕ
  pub shows : ShotText shot ending journal text
  pub put : IsPut (shot_status shot ending journal) given text out

-- Directories along a path.

-- each prefix of the path is made a directory, up to the first one that stops it. The run is exact: each answer is the rules'
-- on the image that its directory was made on. The last note was put, and the image that is left is the fold of the entries
-- that were acknowledged
pub record ParentsEnd (files : Files) (start : Image) (me path : List ℕ) (attr : Attr) (out : Outside) (given : Status) : Type 0 where
  pub events : List Event
  pub run : WholeRun files events start
  pub steps : IsWholeRun me (MakesParents path attr) events run.journal
  pub exact : IsExact run
  pub ends : EndsAs out given (shown run.journal) (image_of run) (parents_status run.journal)
