use Rattle.std.proofs.Common.{refl}
use Rattle.fam_lines.specs.Lines.{note_of_line}
use Rattle.fam_judging.specs.declared.candidate.Candidate.{Candidate}
use Rattle.fam_judging.specs.After.{possible_after, seen_after}
use Rattle.fam_judging.specs.Among.{LeadsBehind, StepsAmong}
use Rattle.fam_judging.specs.Candidates.{possible_of}
use Rattle.fam_judging.specs.Pushing.{IsFine}
use Rattle.fam_judging.proofs.Among.{behind_none, behind_steps}
use Rattle.fam_judging.proofs.Goings.{on_ok}
use Rattle.fam_judging.proofs.going.lead_behind.Goals as goal

pub returns-then-tells_nothing : goal.returns-then-tells_nothing
returns-then-tells_nothing c start x long fine named =
    let hosts = c.args.hosts.now in
    behind_none start (note_of_line c.args.line.now) c.args.at x (possible_of start hosts c.args.written) (IsFine start c.args.given.now (seen_after hosts.seen.items c.args.line.now))
    (possible_after start hosts c.args.line.now) c.args.out.now.items c.args.out.now.items
    (λ wrote. c.if-tells_nothing.ensures start hosts x wrote refl) refl

pub returns : goal.returns
returns c start x long fine named =
    let hosts = c.args.hosts.now in
    let w = possible_of start hosts c.args.written in
    let line = note_of_line c.args.line.now in
    let Fine : Candidate → Type 0 = IsFine start c.args.given.now (seen_after hosts.seen.items c.args.line.now) in
    let see = possible_after start hosts c.args.line.now in
    let old = c.args.out.now.items in
    let new = c.step_among.new.out.items in
    on_ok c.step_among.result (StepsAmong start line w Fine see old new) (LeadsBehind start line c.args.at x w Fine see old new)
    (behind_steps start line c.args.at x w Fine see old new named)
    (c.step_among.ensures start long fine.said)
