use Rattle.std.proofs.Common.{◌≡◌, length}
use Rattle.fam_base.specs.Image.{Image}
use Rattle.fam_lines.specs.Lines.{note_of_line}
use Rattle.fam_judging.specs.After.{possible_after, seen_after}
use Rattle.fam_judging.specs.Among.{AllFine, LeadsAll}
use Rattle.fam_judging.specs.Candidates.{possible_of}
use Rattle.fam_judging.specs.Pushing.{IsFine}
use Rattle.fam_judging.proofs.going.go_on.Given as goal

abbrev pub invariant-candidates : goal.invariant-candidates
invariant-candidates l =
    (start : Image) → length start ≡ l.lines → AllFine (IsFine start l.given l.hosts.seen.items) l.candidates.items
    → LeadsAll start (note_of_line l.line) (possible_of start l.hosts) l.candidates.items l.at (IsFine start l.given (seen_after l.hosts.seen.items l.line))
    (possible_after start l.hosts l.line) l.next.items
