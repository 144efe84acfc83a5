use Rattle.std.proofs.Common.{◌≡◌, map, sym, subst}
use Rattle.fam_causes.specs.Asked.{asked}
use Rattle.fam_judging.specs.Among.{AllFine}
use Rattle.fam_judging.specs.Candidates.{possible_of}
use Rattle.fam_judging.specs.Pushing.{IsFine}
use Rattle.fam_judging.specs.Texts.{IsJudging}
use Rattle.fam_judging.specs.Told.{AreToldCommands}
use Rattle.fam_verdict.specs.declared.judged.Judged.{Judged}
use Rattle.fam_verdict.specs.Judged.{IsReadAs}
use Rattle.fam_verdict.proofs.judged.Judged.go.Goals as goal

pub returns-then-branch-clause-kept : goal.returns-then-branch-clause-kept
returns-then-branch-clause-kept c e =
    let k = c.in_ok-follow_if.ensures.kept c.if-branch.true in
    record { few = k.few; distinct = k.distinct; fit = k.fit; told = k.told; some = k.some }

pub returns-then-branch-clause-goes : goal.returns-then-branch-clause-goes
returns-then-branch-clause-goes c start records r long judged read e =
    let g = c.in_ok-follow_if.ensures.goes start records r long judged read c.if-branch.true in
    record { judging = g.judging; fine = g.fine }

pub cause-requires : goal.cause-requires
cause-requires c = record {
  told = subst (λ (j : Judged). AreToldCommands j.hosts) (sym (c.in_ok-follow_if.ensures.stays c.if-branch.false)) c.requires.kept.told;
}

pub returns-clause-stops : goal.returns-clause-stops
returns-clause-stops c start records r long judged read named answered =
    let same : c.follow_if.new.self ≡ c.args.self.now = c.in_ok-follow_if.ensures.stays c.if-branch.false in
    let now = c.follow_if.new.self in (
      c.in_ok-follow_if.ensures.stops start records r long judged read c.if-branch.false,
      record {
        asked = asked c.args.given.now now.hosts now.candidates.items c.deref.result.now c.args.name c.args.answers c.args.line.now;
        judging = subst (λ (j : Judged). IsJudging start records j.hosts.seen.items (map (possible_of start j.hosts) j.candidates.items)) (sym same) judged.judging;
        fine = subst (λ (j : Judged). AllFine (IsFine start c.args.given.now j.hosts.seen.items) j.candidates.items) (sym same) judged.fine;
        read = subst (λ (j : Judged). IsReadAs j.hosts.seen.items r c.args.line.now) (sym same) read;
        name = named;
        answers = answered;
        is = c.in_ok-why.ensures;
      },
    )
