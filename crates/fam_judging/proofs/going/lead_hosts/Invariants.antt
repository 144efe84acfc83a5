use Rattle.std.proofs.Common.{◌≡◌, length}
use Rattle.fam_base.specs.Image.{Image}
use Rattle.fam_lines.specs.Lines.{note_of_line}
use Rattle.fam_judging.specs.After.{possible_after, seen_after}
use Rattle.fam_judging.specs.Among.{LeadsAmong}
use Rattle.fam_judging.specs.Candidates.{possible_of}
use Rattle.fam_judging.specs.Going.{HasGiven}
use Rattle.fam_judging.specs.Pushing.{IsFine}
use Rattle.fam_judging.proofs.going.lead_hosts.Given as goal

abbrev pub invariant-hosts : goal.invariant-hosts
invariant-hosts l =
    (start : Image) → length start ≡ l.lines → HasGiven start l.given l.candidate.settled
    → LeadsAmong start (note_of_line l.line) l.at (possible_of start l.hosts l.candidate) (IsFine start l.given (seen_after l.hosts.seen.items l.line))
    (possible_after start l.hosts l.line) l.fn.out.items l.out.items
