use Rattle.std.proofs.Common.{◌≡◌, ℕ, Some, Option, ap₂, ◌∙◌}
use Rattle.fam_judge.specs.Possible.{Possible, Wrote}
use Rattle.fam_judging.specs.declared.candidate.Candidate.{Candidate}
use Rattle.fam_judging.specs.declared.candidate.Stage.{Stage}
use Rattle.fam_judging.specs.Candidates.{possible_of}
use Rattle.fam_judging.specs.Pushing.{IsFine, Pushes, WrittenAt, first_count}
use Rattle.fam_judging.proofs.FirstCounts.{written_both}
use Rattle.fam_judging.proofs.Goings.{on_ok}
use Rattle.fam_judging.proofs.behind.written.Goals as goal

pub returns : goal.returns
returns c start has =
    let hosts = c.args.hosts.now in
    let old = c.args.candidate.now in
    let x = possible_of start hosts old in
    let Fine : Candidate → Type 0 = IsFine start c.args.given.now hosts.seen.items in
    let new = c.written_next.new.out.items in
    let mid = c.written_at.new.out.items in
    let P : Possible → Type 0 = λ z. (m : ℕ) × (c.next_count-more.result ≡ Some m) × WrittenAt start c.args.at m x z in
    on_ok c.written_next.result (Pushes P Fine (possible_of start hosts) mid new) (Pushes (Wrote start c.args.at x) Fine (possible_of start hosts) c.args.out.now.items new)
    (written_both start hosts old c.args.at c.count_at-n.result c.next_count-more.result Fine (possible_of start hosts) c.args.out.now.items mid new
    (c.count_at-n.ensures ∙ ap₂ (λ (o : Option Stage) (k : ℕ). first_count o k) c.stage_at.ensures (c.settled_count-count.ensures start c.args.given.now has))
    (λ m more. c.next_count-more.ensures start c.args.given.now m has more)
    (c.in_ok-written_at.ensures start has))
    (c.written_next.ensures start has)
