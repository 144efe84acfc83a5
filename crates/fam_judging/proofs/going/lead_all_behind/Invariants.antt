use Rattle.std.proofs.Common.{◌≡◌, ℕ, Some, length, slice_get}
use Rattle.fam_base.specs.Image.{Image}
use Rattle.fam_judge.specs.Possible.{Possible, Wrote}
use Rattle.fam_lines.specs.Lines.{note_of_line}
use Rattle.fam_judging.specs.declared.candidate.Candidate.{Candidate}
use Rattle.fam_judging.specs.After.{possible_after, seen_after}
use Rattle.fam_judging.specs.Among.{AllFine, LeadsBehindAll}
use Rattle.fam_judging.specs.Candidates.{possible_of}
use Rattle.fam_judging.specs.Pushing.{IsFine}
use Rattle.fam_judging.proofs.going.lead_all_behind.Given as goal

abbrev pub invariant-named : goal.invariant-named
invariant-named l =
    (start : Image) (x : Possible) → length start ≡ l.lines → AllFine (IsFine start l.given l.hosts.seen.items) l.written.items
    → ((k : ℕ) (d : Candidate) → slice_get l.written.items k ≡ Some d → Wrote start l.at x (possible_of start l.hosts d))
    → LeadsBehindAll start (note_of_line l.line) l.at x (possible_of start l.hosts) l.written.items l.i (IsFine start l.given (seen_after l.hosts.seen.items l.line))
    (possible_after start l.hosts l.line) l.fn.out.items l.out.items
