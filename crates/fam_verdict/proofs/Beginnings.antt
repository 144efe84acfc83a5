-- A line that may begin, and whose command is filled by what is told, begins a command of which it tells all.
use Rattle.std.proofs.Common.{◌≡◌, ◌↔◌, ℕ, Bool, false, List, refl, sym, subst}
use Rattle.fam_base.specs.declared.cmd.Cmd.{Cmd}
use Rattle.fam_history.specs.declared.command.ToldCommand.{ToldCommand}
use Rattle.fam_journal.specs.Notes.{Start}
use Rattle.fam_judge.specs.Untold.{untold_cmd}
use Rattle.fam_lines.specs.declared.host.SeenHost.{SeenHost}
use Rattle.fam_lines.specs.declared.line.Line.{Line}
use Rattle.fam_lines.specs.declared.line.Line.TheVariants as line
use Rattle.fam_lines.specs.Lines.{note_of_line, untold_of}
use Rattle.fam_judging.specs.Told.{IsToldCommand}
use Rattle.fam_judging.proofs.Keeping.{BeginsTold}
use Rattle.fam_verdict.specs.Begins.{MayBegin}
use Rattle.fam_verdict.specs.Judged.{IsReady}
use Rattle.fam_verdict.proofs.Commands.{told_command}
use Rattle.std.specs.Prelude.{IsTrue}
use Rattle.fam_history.specs.Told.{told_of_command}
use Rattle.fam_judge.specs.Standing.{Face, MayDeclare, MayStand, MayStart, is_own}
use Rattle.fam_verdict.proofs.Faces.{faces_so, shapes_of}

same_cmd : (h : ℕ) (a b : Cmd) → Start h a ≡ Start h b → a ≡ b
same_cmd h a b e = cc

pub begins_told : (lines : ℕ) (seen : List SeenHost) (l : Line) → MayBegin lines seen l → IsReady l → BeginsTold l
begins_told lines seen l may ready h cmd is = by (subst (MayBegin lines seen) is may) (subst IsReady is ready)
  where
    by : MayBegin lines seen (line.Start h cmd) → IsReady (line.Start h cmd) → IsToldCommand cmd
    by begin is_ready = told_command cmd is_ready.filled begin.2 (same_cmd h (untold_cmd (untold_of cmd)) (untold_of cmd) is_ready.untold)

-- Whether a line stands, of one that declares a host.
pub begins_host : (lines : ℕ) (seen : List SeenHost) (l : Line) (name uuid : List ℕ) (result : Bool) → l ≡ line.Host name uuid
    → (is_own (note_of_line l) ≡ false → IsTrue result ↔ MayStand lines (shapes_of seen) (note_of_line l)) → IsTrue result ↔ MayBegin lines seen l
begins_host lines seen l name uuid result is stands =
    subst (λ (x : Line). IsTrue result ↔ MayBegin lines seen x) (sym is)
    (subst (λ (all : List Face). IsTrue result ↔ MayDeclare all name uuid) (faces_so seen)
    (subst (λ (x : Line). is_own (note_of_line x) ≡ false → IsTrue result ↔ MayStand lines (shapes_of seen) (note_of_line x)) is stands refl))

-- and of one that begins a command
pub begins_start : (lines : ℕ) (seen : List SeenHost) (l : Line) (h : ℕ) (cmd : ToldCommand) (result : Bool) → l ≡ line.Start h cmd
    → (is_own (note_of_line l) ≡ false → IsTrue result ↔ MayStand lines (shapes_of seen) (note_of_line l)) → IsTrue result ↔ MayBegin lines seen l
begins_start lines seen l h cmd result is stands =
    subst (λ (x : Line). IsTrue result ↔ MayBegin lines seen x) (sym is)
    (subst (λ (all : List Face). IsTrue result ↔ MayStart lines all h (told_of_command (untold_of cmd))) (faces_so seen)
    (subst (λ (x : Line). is_own (note_of_line x) ≡ false → IsTrue result ↔ MayStand lines (shapes_of seen) (note_of_line x)) is stands refl))
