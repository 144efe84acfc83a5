use Rattle.std.proofs.Common.{◌≡◌, ◌++◌, ◌∷◌, [], Bool, subst}
use Rattle.fam_judge.specs.Possible.{Possible, StepsTo}
use Rattle.fam_lines.specs.Lines.{note_of_line}
use Rattle.fam_judging.specs.declared.candidate.Candidate.{Candidate}
use Rattle.fam_judging.specs.After.{possible_after, seen_after}
use Rattle.fam_judging.specs.Candidates.{possible_of}
use Rattle.fam_judging.specs.Going.{Goes}
use Rattle.fam_judging.specs.Pushing.{IsFine, Pushes}
use Rattle.fam_judging.proofs.Goings.{on_ok}
use Rattle.fam_judging.proofs.Pushes.{push_none, push_one}
use Rattle.fam_judging.proofs.lead.step_alone.Goals as goal

pub returns-then-not-goes : goal.returns-then-not-goes
returns-then-not-goes c start long has =
    let P : Possible → Type 0 = StepsTo start (possible_of start c.args.hosts.now c.args.candidate) (note_of_line c.args.line.now) in
    let next = possible_after start c.args.hosts.now c.args.line.now c.lead_to.new.candidate in
    push_none P (IsFine start c.args.given.now (seen_after c.args.hosts.now.seen.items c.args.line.now)) (possible_after start c.args.hosts.now c.args.line.now)
    c.args.out.now.items next (subst (λ (b : Bool). Goes P next b) c.if-not-goes.true (c.in-Ok.ensures.goes start long has))

pub returns : goal.returns
returns c start long has =
    let P : Possible → Type 0 = StepsTo start (possible_of start c.args.hosts.now c.args.candidate) (note_of_line c.args.line.now) in
    let next = possible_after start c.args.hosts.now c.args.line.now c.lead_to.new.candidate in
    let Fine : Candidate → Type 0 = IsFine start c.args.given.now (seen_after c.args.hosts.now.seen.items c.args.line.now) in
    let old = c.args.out.now.items in
    on_ok c.push.result (c.push.new.out.items ≡ old ++ c.lead_to.new.candidate ∷ [])
    (Pushes P Fine (possible_after start c.args.hosts.now c.args.line.now) old c.push.new.out.items)
    (λ is. push_one P Fine (possible_after start c.args.hosts.now c.args.line.now) old c.lead_to.new.candidate c.push.new.out.items is
    (subst (λ (b : Bool). Goes P next b) c.if-not-goes.false (c.in-Ok.ensures.goes start long has))
    (record { placed = c.in-Ok.ensures.placed c.if-not-goes.false; said = c.lead_to.ensures.given start has }))
    c.push.ensures
