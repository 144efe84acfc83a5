use Rattle.std.proofs.Common.{List, length, sym, subst, ◌∙◌}
use Rattle.fam_judge.specs.Possible.{Possible, Wrote}
use Rattle.fam_lines.specs.Lines.{note_of_line}
use Rattle.fam_judging.specs.declared.candidate.Candidate.{Candidate}
use Rattle.fam_judging.specs.After.{possible_after, seen_after}
use Rattle.fam_judging.specs.Among.{LeadsBehindAll, WritesAmong}
use Rattle.fam_judging.specs.Candidates.{possible_of}
use Rattle.fam_judging.specs.Pushing.{IsFine, Pushes}
use Rattle.fam_judging.proofs.Goings.{on_ok}
use Rattle.fam_judging.proofs.Onward.{pushed_fine, pushed_sound, writes_among}
use Rattle.fam_judging.proofs.Wanting.{writes_none}
use Rattle.fam_judging.proofs.going.lead_host.Goals as goal

pub returns-then-not-appends : goal.returns-then-not-appends
returns-then-not-appends c start long has =
    let hosts = c.args.hosts.now in
    writes_none start (note_of_line c.args.line.now) c.args.at hosts c.args.candidate.now (IsFine start c.args.given.now (seen_after hosts.seen.items c.args.line.now))
    (possible_after start hosts c.args.line.now) c.args.out.now.items (sym c.appends.ensures ∙ c.if-not-appends.true)

pub returns : goal.returns
returns c start long has =
    let hosts = c.args.hosts.now in
    let x = possible_of start hosts c.args.candidate.now in
    let line = note_of_line c.args.line.now in
    let Was : Candidate → Type 0 = IsFine start c.args.given.now hosts.seen.items in
    let Fine : Candidate → Type 0 = IsFine start c.args.given.now (seen_after hosts.seen.items c.args.line.now) in
    let at = possible_of start hosts in
    let see = possible_after start hosts c.args.line.now in
    let P : Possible → Type 0 = Wrote start c.args.at x in
    let ws = c.written.new.out.items in
    let old = c.args.out.now.items in
    let new = c.lead_all_behind.new.out.items in
    let pushes = subst (λ (l : List Candidate). Pushes P Was at l ws) c.new-named.ensures.items (c.in_ok-written.ensures start has) in
    on_ok c.lead_all_behind.result (LeadsBehindAll start line c.args.at x at ws (length ws) Fine see old new) (WritesAmong start line c.args.at x Fine see old new)
    (writes_among start line x Fine see c.args.at Was at ws old new pushes)
    (c.lead_all_behind.ensures start x long (pushed_fine P Was at ws pushes) (pushed_sound P Was at ws pushes))
