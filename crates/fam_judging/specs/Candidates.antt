-- Which possible state a candidate is, beside the hosts that all candidates share.
use Rattle.std.specs.Prelude.{ℕ, ⊤, ◌≡◌, if◌then◌else◌, List, [], ◌∷◌, length, option_map, Option, Some, None}
use Rattle.fam_base.specs.declared.entry.Params.{Params}
use Rattle.fam_base.specs.Image.{Image}
use Rattle.fam_format.specs.declared.faults.SuperFault.TheVariants as super
use Rattle.fam_history.specs.declared.command.ToldCommand.{ToldCommand}
use Rattle.fam_protocol.specs.After.{Named}
use Rattle.fam_journal.specs.Legal.{DamagedSuper, damaged_report}
use Rattle.fam_journal.specs.Past.{State, Bad, Halted, Origin, first_state}
use Rattle.fam_journal.specs.Past as past
use Rattle.fam_journal.specs.Shapes as shape
use Rattle.fam_journal.specs.Shapes.{CommandStage, TaskShape}
use Rattle.fam_judge.specs.Possible.{Possible, Progress}
use Rattle.fam_lines.specs.declared.host.SeenHost.{SeenHost}
use Rattle.fam_lines.specs.Lines.{untold_of}
use Rattle.fam_settled.specs.Settled.{settled_log_state}
use Rattle.fam_judging.specs.declared.candidate.Candidate.{Candidate}
use Rattle.fam_judging.specs.declared.candidate.Settled.{Settled}
use Rattle.fam_judging.specs.declared.candidate.Settled.TheVariants as settled
use Rattle.fam_judging.specs.declared.candidate.Stage.{Stage}
use Rattle.fam_judging.specs.declared.candidate.Stage.TheVariants as stage
use Rattle.fam_judging.specs.declared.candidate.Track.{Track}
use Rattle.fam_judging.specs.declared.candidate.Wrote.{Wrote}
use Rattle.fam_judging.specs.declared.given.Damage.{Damage}
use Rattle.fam_judging.specs.declared.given.Damage.TheVariants as damage
use Rattle.fam_judging.specs.declared.given.GivenImage.{GivenImage}
use Rattle.fam_judging.specs.declared.hosts.Hosts.{Hosts}

-- how far a command has come
abbrev pub stage_shape : Stage → CommandStage
stage_shape stage.Begun = shape.Begun
stage_shape stage.Marked = shape.Marked
stage_shape (stage.Met n) = shape.Met n
stage_shape (stage.Named seq) = shape.Named seq

-- what it named
abbrev pub named_of : Wrote → Named
named_of w = record { seq = w.seq; entry = w.entry }

-- its running command, where it runs one
abbrev pub task_shape_of : SeenHost → Option ToldCommand → Track → Option TaskShape
task_shape_of seen cmd track =
    if seen.runs then option_map (λ (c : ToldCommand). let t : TaskShape = record { cmd = untold_of c; stage = stage_shape track.stage } in t) cmd else None

-- a host
abbrev pub progress_of : SeenHost → Option ToldCommand → Track → Progress
progress_of seen cmd track = record {
  told = record { name = seen.name; uuid = seen.uuid; cmd = option_map untold_of cmd; floor = track.floor; wrote = option_map named_of track.wrote };
  shape = record { name = seen.name; uuid = seen.uuid; task = task_shape_of seen cmd track; keeps = seen.keeps };
}

-- all hosts
abbrev pub progress_list : List SeenHost → List (Option ToldCommand) → List Track → List Progress
progress_list [] cmds tracks = []
progress_list (s ∷ seen) [] tracks = []
progress_list (s ∷ seen) (c ∷ cmds) [] = []
progress_list (s ∷ seen) (c ∷ cmds) (t ∷ tracks) = progress_of s c t ∷ progress_list seen cmds tracks

-- what is settled, of an image that was handed in
abbrev pub settled_state : Image → Settled → State
settled_state start (settled.Log log) = settled_log_state log
settled_state start settled.Given = first_state start
settled_state start settled.Halted = Bad Halted (past.NoSuperblock (super.NoSuper 0)) 0

-- the state that a candidate is
abbrev pub possible_of : Image → Hosts → Candidate → Possible
possible_of start hosts c = record { state = settled_state start c.settled; hosts = progress_list hosts.seen.items hosts.commands.items c.tracks.items }

-- a running host has a command
abbrev pub RunsCommand : SeenHost → Option ToldCommand → Type 0
RunsCommand seen None = seen.runs ≡ Rattle.std.specs.Prelude.false
RunsCommand seen (Some cmd) = ⊤

-- so do all, and each host has its place among the commands, which are as many
abbrev pub AreCommanded : List SeenHost → List (Option ToldCommand) → Type 0
AreCommanded [] [] = ⊤
AreCommanded [] (c ∷ cmds) = ⊥
AreCommanded (s ∷ seen) [] = ⊥
AreCommanded (s ∷ seen) (c ∷ cmds) = RunsCommand s c × AreCommanded seen cmds

-- each host has its place among the commands, and a running one has a command
abbrev pub HostsFit : Hosts → Type 0
HostsFit hosts = AreCommanded hosts.seen.items hosts.commands.items

-- each host has its place in the candidate
abbrev pub IsCandidate : Hosts → Candidate → Type 0
IsCandidate hosts c = length c.tracks.items ≡ length hosts.seen.items

-- the damage
abbrev pub past_damage : Damage → past.Damage
past_damage (damage.FewLines lines) = past.FewLines lines
past_damage (damage.NoSuperblock fault) = past.NoSuperblock fault
past_damage (damage.BadHeader fault) = past.BadHeader fault
past_damage (damage.BadSlot i reason) = past.BadSlot i reason

-- of a damaged image that was handed in
pub record IsGivenImage (start : Image) (given : GivenImage) : Type 0 where
  pub state : first_state start ≡ Bad (past.Given start) (past_damage given.damage) given.gate
  pub super : (p : Params) → DamagedSuper p (past.Given start) (past_damage given.damage) → given.params ≡ Some p
  pub params : (p : Params) → given.params ≡ Some p → DamagedSuper p (past.Given start) (past_damage given.damage)
  pub report : given.report ≡ damaged_report (past.Given start)
