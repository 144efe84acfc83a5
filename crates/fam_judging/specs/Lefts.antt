-- Which endings are left, and that they are those of a reply.
use Rattle.std.specs.Prelude.{◌≡◌, ◌↔◌, Bool, true, false, Option, Some, None}
use Rattle.fam_base.specs.Image.{Image}
use Rattle.fam_history.specs.declared.command.ToldCommand.{ToldCommand}
use Rattle.fam_lines.specs.declared.host.SeenHost.{SeenHost}
use Rattle.fam_rules.specs.Reply.{Reply}
use Rattle.fam_judging.specs.declared.candidate.Settled.{Settled}
use Rattle.fam_judging.specs.declared.candidate.Track.{Track}
use Rattle.fam_judging.specs.declared.given.GivenImage.{GivenImage}
use Rattle.fam_judging.specs.declared.lefts.Left.{Left}
use Rattle.fam_judging.specs.declared.lefts.Lefts.{Lefts}
use Rattle.fam_judging.specs.Replies.{EndingState, MayEnd}
use Rattle.fam_judging.specs.Going.{HasGiven}
use Rattle.fam_judging.specs.ReplyKinds.{asker_of, ending_left, point_of}

-- one alone, where it may stand
abbrev pub only : Bool → Settled → Track → Lefts
only true settled track = record { first = Some (record { settled = settled; track = track }); second = None }
only false settled track = record { first = None; second = None }

-- one at most, of which this holds
abbrev pub AtMostOne : (Option Left → Type 0) → Lefts → Type 0
AtMostOne P lefts = P lefts.first × lefts.second ≡ None

-- an ending is one of them
pub data IsOfLefts (start : Image) (lefts : Lefts) (e : EndingState) : Type 0 where
  first : (l : Left) → lefts.first ≡ Some l → e ≡ ending_left start l.settled l.track → IsOfLefts start lefts e
  second : (l : Left) → lefts.second ≡ Some l → e ≡ ending_left start l.settled l.track → IsOfLefts start lefts e

-- they are all endings that a reply of a running command leaves, and no others
abbrev pub LeavesEndings : GivenImage → SeenHost → ToldCommand → Settled → Track → Reply → Lefts → Type 0
LeavesEndings given seen cmd settled track reply lefts =
    (start : Image) → HasGiven start given settled → (e : EndingState) → IsOfLefts start lefts e ↔ MayEnd (asker_of seen cmd) (point_of start settled track) reply e
