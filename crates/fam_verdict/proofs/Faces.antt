-- Hosts that look so, and what a state's hosts look like.
use Rattle.std.proofs.Common.{◌≡◌, true, false, Bool, List, [], ◌∷◌, map, Option, Some, None, refl, ap₂}
use Rattle.std.specs.Prelude.{if◌then◌else◌, is_some}
use Rattle.fam_base.specs.declared.cmd.Cmd.TheVariants.{Fsck}
use Rattle.fam_base.specs.Image.{Image}
use Rattle.fam_journal.specs.Shapes.{Begun, HostShape, TaskShape}
use Rattle.fam_judge.specs.Possible.{shapes_in}
use Rattle.fam_judge.specs.Standing.{Face, faces}
use Rattle.fam_lines.specs.declared.host.SeenHost.{SeenHost}
use Rattle.fam_lines.specs.Hosts.{faces_of}
use Rattle.fam_history.specs.declared.command.ToldCommand.{ToldCommand}
use Rattle.fam_judging.specs.declared.candidate.Candidate.{Candidate}
use Rattle.fam_judging.specs.declared.given.GivenImage.{GivenImage}
use Rattle.fam_judging.specs.After.{possible_in}
use Rattle.fam_judging.specs.Candidates.{AreCommanded}
use Rattle.fam_judging.specs.Pushing.{IsFine}
use Rattle.fam_judging.proofs.Plains.{faces_seen}

-- some task, where one runs
task_of : Bool → Option TaskShape
task_of runs = if runs then Some (record { cmd = Fsck; stage = Begun }) else None

runs_so : (runs : Bool) → is_some (task_of runs) ≡ runs
unfolding task_of
runs_so true = refl
runs_so false = refl

-- hosts that look so
pub shapes_of : List SeenHost → List HostShape
shapes_of hosts = map (λ (s : SeenHost). record { name = s.name; uuid = s.uuid; task = task_of s.runs; keeps = s.keeps }) hosts

pub faces_so : (hosts : List SeenHost) → faces (shapes_of hosts) ≡ faces_of hosts
unfolding shapes_of
faces_so [] = refl
faces_so (s ∷ hosts) =
    ap₂ (λ (b : Bool) (fs : List Face). (let f : Face = record { name = s.name; uuid = s.uuid; runs = b; keeps = s.keeps } in f) ∷ fs) (runs_so s.runs) (faces_so hosts)

-- the hosts of a fine candidate look as they are seen
pub fine_faces : (start : Image) (given : GivenImage) (seen : List SeenHost) (cmds : List (Option ToldCommand)) (c : Candidate) → AreCommanded seen cmds
    → IsFine start given seen c → faces (shapes_in (possible_in start seen cmds c)) ≡ faces_of seen
fine_faces start given seen cmds c are fine = faces_seen seen cmds c.tracks.items are fine.placed
