use Rattle.std.proofs.Common.{List, subst}
use Rattle.fam_judge.specs.Possible.{StepsTo}
use Rattle.fam_lines.specs.declared.host.SeenHost.{SeenHost}
use Rattle.fam_lines.specs.Lines.{note_of_line}
use Rattle.fam_judging.specs.declared.candidate.Candidate.{Candidate}
use Rattle.fam_judging.specs.After.{commands_after, possible_after, possible_in, seen_after}
use Rattle.fam_judging.specs.Among.{StepsAmong}
use Rattle.fam_judging.specs.Below.{AddsAll}
use Rattle.fam_judging.specs.Candidates.{possible_of}
use Rattle.fam_judging.specs.Pushing.{IsFine, Pushes}
use Rattle.fam_judging.proofs.Adding.{steps_among}
use Rattle.fam_judging.proofs.Goings.{on_ok}
use Rattle.fam_judging.proofs.going.step_among.Goals as goal

pub returns : goal.returns
returns c start long has =
    let hosts = c.args.hosts.now in
    let x = possible_of start hosts c.args.candidate in
    let line = note_of_line c.args.line.now in
    let Fine : Candidate → Type 0 = IsFine start c.args.given.now (seen_after hosts.seen.items c.args.line.now) in
    let see = possible_after start hosts c.args.line.now in
    let cmds = commands_after hosts.commands.items c.args.line.now in
    let news = c.step.new.out.items in
    let old = c.args.out.now.items in
    let new = c.put_all_below.new.out.items in
    let pushes = subst (λ (l : List Candidate). Pushes (StepsTo start x line) Fine see l news) c.new-news.ensures.items (c.in_ok-step.ensures start long has) in
    on_ok c.put_all_below.result (AddsAll (possible_in start c.in-Ok.seen.items cmds) news old new) (StepsAmong start line x Fine see old new)
    (λ adds. steps_among start line x Fine see news old new pushes
    (subst (λ (seen : List SeenHost). AddsAll (possible_in start seen cmds) news old new) c.in-Ok.ensures adds))
    (c.put_all_below.ensures start cmds)
