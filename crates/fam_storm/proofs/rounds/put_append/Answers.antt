use Rattle.std.proofs.Common.{◌≡◌, ◌++◌, ℕ, List, subst}
use Rattle.std.specs.Result.{OnOk}
use Rattle.fam_storm.proofs.Texts.{creat_is, cut_is}
use Rattle.fam_storm.proofs.rounds.put_append.Goals as goal

pub returns-then-case-lt4-clause-lines : goal.returns-then-case-lt4-clause-lines
returns-then-case-lt4-clause-lines c =
    subst (λ (l : List ℕ). OnOk c.put_creat.result (c.put_creat.new.into.items ≡ c.args.into.now.items ++ l))
    (creat_is c.args.i c.args.case c.draw-size.result c.args.generator.now c.if-case-lt2.false c.if-case-lt4.true c.draw-size.ensures.number) c.put_creat.ensures

pub returns-clause-lines : goal.returns-clause-lines
returns-clause-lines c =
    subst (λ (l : List ℕ). OnOk c.put_cut.result (c.put_cut.new.into.items ≡ c.args.into.now.items ++ l))
    (cut_is c.args.i c.args.case c.args.generator.now c.if-case-lt2.false c.if-case-lt4.false) c.put_cut.ensures.lines
