use Rattle.std.proofs.Common.{◌≡◌, ◌++◌, ◌∷◌, [], List, length, sym, ap, subst, ◌∙◌}
use Rattle.fam_judge.specs.Possible.{Possible}
use Rattle.fam_judging.specs.declared.candidate.Candidate.{Candidate}
use Rattle.fam_judging.specs.declared.candidate.Settled.{Settled}
use Rattle.fam_judging.specs.declared.candidate.Track.{Track}
use Rattle.fam_judging.specs.Candidates.{possible_of}
use Rattle.fam_judging.specs.Going.{HasGiven}
use Rattle.fam_judging.specs.Pushing.{IsFine, Pushes, WrittenAt}
use Rattle.fam_judging.specs.Told.{NamesFrom}
use Rattle.fam_judging.proofs.Goings.{on_ok}
use Rattle.fam_judging.proofs.Pushes.{push_none, push_one}
use Rattle.fam_judging.proofs.Writtens.{copied, written_none, written_some}
use Rattle.fam_judging.proofs.behind.written_at.Goals as goal

pub returns-then-is_none : goal.returns-then-is_none
returns-then-is_none c start has =
    let hosts = c.args.hosts.now in
    let x = possible_of start hosts c.args.candidate.now in
    let y = possible_of start hosts c.wrote.new.candidate in
    let same = copied start hosts c.args.candidate.now c.in_ok-next.next c.in_ok-next.ensures.settled c.in_ok-next.ensures.tracks in
    let said = subst (λ (s : Settled). HasGiven start c.args.given.now s) (sym c.in_ok-next.ensures.settled) has in
    let from = subst (λ (z : Possible). NamesFrom start c.args.at c.args.n z y c.in-Ok.named) same (c.in-Ok.ensures.names start said) in
    push_none (WrittenAt start c.args.at c.args.n x) (IsFine start c.args.given.now hosts.seen.items) (possible_of start hosts) c.args.out.now.items y
    (written_none start c.args.at c.args.n x y c.in-Ok.named c.if-is_none.ensures from)

pub returns : goal.returns
returns c start has =
    let hosts = c.args.hosts.now in
    let x = possible_of start hosts c.args.candidate.now in
    let y = possible_of start hosts c.wrote.new.candidate in
    let same = copied start hosts c.args.candidate.now c.in_ok-next.next c.in_ok-next.ensures.settled c.in_ok-next.ensures.tracks in
    let said = subst (λ (s : Settled). HasGiven start c.args.given.now s) (sym c.in_ok-next.ensures.settled) has in
    let from = subst (λ (z : Possible). NamesFrom start c.args.at c.args.n z y c.in-Ok.named) same (c.in-Ok.ensures.names start said) in
    let old = c.args.out.now.items in
    let P : Possible → Type 0 = WrittenAt start c.args.at c.args.n x in
    let Fine : Candidate → Type 0 = IsFine start c.args.given.now hosts.seen.items in
    on_ok c.push.result (c.push.new.out.items ≡ old ++ c.wrote.new.candidate ∷ []) (Pushes P Fine (possible_of start hosts) old c.push.new.out.items)
    (λ is. push_one P Fine (possible_of start hosts) old c.wrote.new.candidate c.push.new.out.items is
    (written_some start c.args.at c.args.n x y c.in-Ok.named c.if-is_none.ensures from)
    (record {
      placed = c.wrote.ensures.placed ∙ ap (λ (ts : List Track). length ts) c.in_ok-next.ensures.tracks ∙ c.requires.candidate;
      said = c.wrote.ensures.given start said;
    }))
    c.push.ensures
