use Rattle.std.proofs.Common.{length, refl, arith}
use Rattle.std.proofs.lemmas.Option.{slice_get_read}
use Rattle.fam_lines.specs.Lines.{note_of_line}
use Rattle.fam_judging.specs.After.{possible_after, seen_after}
use Rattle.fam_judging.specs.Candidates.{possible_of}
use Rattle.fam_judging.specs.Pushing.{IsFine}
use Rattle.fam_judging.proofs.Onward.{all_leads, all_more, progress_count}
use Rattle.fam_judging.proofs.going.go_on.Goals as goal

pub candidates-preserved : goal.candidates-preserved
candidates-preserved c start long fine =
    let hosts = c.args.hosts.now in
    let cs = c.args.candidates.now.items in
    let at = c.candidates.at in
    let d = c.index.result.now in
    let is = slice_get_read cs (length cs) at d refl (omega (arith, c.candidates-test.true, c.len-at-end.ensures)) c.index.ensures in
    all_more start (note_of_line c.args.line.now) (possible_of start hosts) cs (IsFine start c.args.given.now (seen_after hosts.seen.items c.args.line.now))
    (possible_after start hosts c.args.line.now) at (length hosts.seen.items) d c.candidates.next.items c.lead_from.new.out.items is
    (progress_count hosts.seen.items hosts.commands.items d.tracks.items)
    (c.candidates.invariant start long fine) (c.in_ok-lead_from.ensures start long (fine at d is))

pub returns-clause-leads : goal.returns-clause-leads
returns-clause-leads c start long fine =
    let hosts = c.args.hosts.now in
    let cs = c.args.candidates.now.items in
    all_leads start (note_of_line c.args.line.now) (possible_of start hosts) cs (IsFine start c.args.given.now (seen_after hosts.seen.items c.args.line.now))
    (possible_after start hosts c.args.line.now) c.candidates.at c.candidates.next.items (omega (arith, c.candidates-test.false, c.len-at-end.ensures))
    (c.candidates.invariant start long fine)

pub returns-clause-fine : goal.returns-clause-fine
returns-clause-fine c start long fine = (c.candidates.invariant start long fine).fine
