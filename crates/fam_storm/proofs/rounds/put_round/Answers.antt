use Rattle.std.proofs.Common.{◌≡◌, ◌++◌, ℕ, List, subst}
use Rattle.std.specs.Result.{OnOk}
use Rattle.fam_storm.proofs.Texts.{round_is}
use Rattle.fam_storm.proofs.rounds.put_round.Goals as goal

pub returns-clause-lines : goal.returns-clause-lines
returns-clause-lines c =
    subst (λ (l : List ℕ). OnOk c.put_case.result (c.put_case.new.into.items ≡ c.args.into.now.items ++ l))
    (round_is c.args.i c.draw-case.result c.args.generator.now c.draw-case.new.generator c.draw-case.ensures.number c.draw-case.ensures.state) c.put_case.ensures.lines
