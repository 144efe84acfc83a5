-- What a function over candidates finds of the states to which a line leads.
use Rattle.std.specs.Prelude.{ℕ, ⊤, ◌≡◌, ◌⊎◌, ◌==◌, Bool, true, false, is_some, if◌then◌else◌, List, Option, Some, None, slice_get}
use Rattle.fam_base.specs.declared.entry.Entry.{Entry}
use Rattle.fam_base.specs.Image.{Image}
use Rattle.fam_journal.specs.Legal.{FoundAllowed}
use Rattle.fam_journal.specs.Notes.{Found, Writes}
use Rattle.fam_journal.specs.Shapes.{IsHead, Met, OfRunning, TaskNote}
use Rattle.fam_judge.specs.Fitting.{FitsNext}
use Rattle.fam_judge.specs.Possible.{Possible, StageIs, WantsToAppend, after_note, past_in, shapes_in}
use Rattle.fam_history.specs.declared.command.ToldCommand.{ToldCommand}
use Rattle.fam_lines.specs.declared.host.SeenHost.{SeenHost}
use Rattle.fam_lines.specs.Lines.{untold_of}
use Rattle.fam_rules.specs.Decide.{wish_of}
use Rattle.fam_judging.specs.declared.candidate.Candidate.{Candidate}
use Rattle.fam_judging.specs.declared.candidate.Settled.{Settled}
use Rattle.fam_judging.specs.declared.candidate.Settled.TheVariants as settled
use Rattle.fam_judging.specs.declared.candidate.Stage.{Stage}
use Rattle.fam_judging.specs.declared.candidate.Stage.TheVariants as stage
use Rattle.fam_judging.specs.declared.candidate.Track.{Track}
use Rattle.fam_judging.specs.declared.given.GivenImage.{GivenImage}
use Rattle.fam_judging.specs.declared.hosts.Hosts.{Hosts}
use Rattle.fam_judging.specs.Candidates.{IsGivenImage}

-- this state is the one of which P holds, where one is said to be
pub record Goes (P : Possible → Type 0) (next : Possible) (is : Bool) : Type 0 where
  pub sound : is ≡ true → P next
  pub complete : (z : Possible) → P z → (is ≡ true) × (z ≡ next)

-- of a candidate that is the image that was handed in, this is what is said of it
abbrev pub HasGiven : Image → GivenImage → Settled → Type 0
HasGiven start given (settled.Log log) = ⊤
HasGiven start given settled.Given = IsGivenImage start given
HasGiven start given settled.Halted = ⊤

-- host h's command, which appends, finds n entries
pub record FindsEntries (start : Image) (h n : ℕ) (x met : Possible) : Type 0 where
  pub head : StageIs IsHead h x
  pub wishes : WantsToAppend h x
  pub found : FoundAllowed n x.state
  pub is : met ≡ after_note start x (Found h n)

-- it has found n entries by now
abbrev pub MeetsAt : Image → ℕ → ℕ → Possible → Possible → Type 0
MeetsAt start h n x met = (StageIs (λ stage. stage ≡ Met n) h x × (met ≡ x)) ⊎ FindsEntries start h n x met

-- it may name this entry next
pub record MayName (start : Image) (h seq : ℕ) (e : Entry) (x : Possible) : Type 0 where
  pub may : OfRunning (slice_get (shapes_in x) h) (λ me t. TaskNote h me t (Writes h seq e))
  pub fits : FitsNext (past_in start x) (Writes h seq e)

-- it names it by now
pub record NamesByNow (start : Image) (h seq : ℕ) (e : Entry) (x named : Possible) : Type 0 where
  pub met : Possible
  pub meets : MeetsAt start h seq x met
  pub may : MayName start h seq e met
  pub is : named ≡ after_note start met (Writes h seq e)

-- Running commands.

-- the command that a host runs
abbrev pub command_in : Option SeenHost → Option (Option ToldCommand) → Option ToldCommand
command_in None cmd = None
command_in (Some s) None = None
command_in (Some s) (Some cmd) = if s.runs then cmd else None

-- so of the host of this number
abbrev pub running : List SeenHost → List (Option ToldCommand) → ℕ → Option ToldCommand
running seen cmds h = command_in (slice_get seen h) (slice_get cmds h)

-- how far a running command has come
abbrev pub stage_in : Option ToldCommand → Option Track → Option Stage
stage_in None track = None
stage_in (Some cmd) None = None
stage_in (Some cmd) (Some track) = Some track.stage

-- so of the host of this number
abbrev pub stage_of_host : Hosts → Candidate → ℕ → Option Stage
stage_of_host hosts c h = stage_in (running hosts.seen.items hosts.commands.items h) (slice_get c.tracks.items h)

-- its command has just begun
abbrev pub is_begun : Option Stage → Bool
is_begun None = false
is_begun (Some stage.Begun) = true
is_begun (Some stage.Marked) = false
is_begun (Some (stage.Met n)) = false
is_begun (Some (stage.Named seq)) = false

-- it has found nothing yet
abbrev pub is_at_head : Option Stage → Bool
is_at_head None = false
is_at_head (Some stage.Begun) = true
is_at_head (Some stage.Marked) = true
is_at_head (Some (stage.Met n)) = false
is_at_head (Some (stage.Named seq)) = false

-- it has found so many entries
abbrev pub is_met : ℕ → Option Stage → Bool
is_met n None = false
is_met n (Some stage.Begun) = false
is_met n (Some stage.Marked) = false
is_met n (Some (stage.Met found)) = found == n
is_met n (Some (stage.Named seq)) = false

-- a command appends
abbrev pub is_appending : Option ToldCommand → Bool
is_appending None = false
is_appending (Some cmd) = is_some (wish_of (untold_of cmd))

-- host h's command, which appends, may find n entries
pub record MayFindEntries (start : Image) (h n : ℕ) (x : Possible) : Type 0 where
  pub head : StageIs IsHead h x
  pub wishes : WantsToAppend h x
  pub found : FoundAllowed n x.state
