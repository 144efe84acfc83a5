use Rattle.std.proofs.Common.{◌≡◌, ℕ, Option, Some, sym, subst}
use Rattle.std.specs.Result.{OnOk}
use Rattle.fam_judging.specs.declared.candidate.Candidate.{Candidate}
use Rattle.fam_judging.specs.Candidates.{possible_of}
use Rattle.fam_judging.specs.Pushing.{IsFine, Pushes, WrittenAt}
use Rattle.fam_judging.proofs.FirstCounts.{second_none, second_some}
use Rattle.fam_judging.proofs.Goings.{on_ok}
use Rattle.fam_judging.proofs.behind.written_next.Goals as goal

pub returns-in-None : goal.returns-in-None
returns-in-None c start has =
    let hosts = c.args.hosts.now in
    let x = possible_of start hosts c.args.candidate.now in
    let Fine : Candidate → Type 0 = IsFine start c.args.given.now hosts.seen.items in
    let old = c.args.out.now.items in
    subst (λ (o : Option ℕ). Pushes (λ z. (m : ℕ) × (o ≡ Some m) × WrittenAt start c.args.at m x z) Fine (possible_of start hosts) old old) (sym c.in-None.is)
    (second_none start c.args.at x Fine (possible_of start hosts) old)

pub returns-in-Some : goal.returns-in-Some
returns-in-Some c start has =
    let hosts = c.args.hosts.now in
    let x = possible_of start hosts c.args.candidate.now in
    let Fine : Candidate → Type 0 = IsFine start c.args.given.now hosts.seen.items in
    let old = c.args.out.now.items in
    let new = c.written_at.new.out.items in
    subst (λ (o : Option ℕ). OnOk c.written_at.result (Pushes (λ z. (m : ℕ) × (o ≡ Some m) × WrittenAt start c.args.at m x z) Fine (possible_of start hosts) old new)) (sym c.in-Some.is)
    (on_ok c.written_at.result (Pushes (WrittenAt start c.args.at c.in-Some.n x) Fine (possible_of start hosts) old new)
    (Pushes (λ z. (m : ℕ) × (Some c.in-Some.n ≡ Some m) × WrittenAt start c.args.at m x z) Fine (possible_of start hosts) old new)
    (second_some start c.args.at c.in-Some.n x Fine (possible_of start hosts) old new) (c.written_at.ensures start has))
