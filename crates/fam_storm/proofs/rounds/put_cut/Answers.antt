use Rattle.std.proofs.Common.{◌≡◌, ◌+◌, ℕ, List, ap, subst, ◌∙◌}
use Rattle.std.specs.Result.{OnOk}
use Rattle.fam_storm.specs.Draws.{after, drawn}
use Rattle.fam_storm.proofs.Texts.{cut_put}
use Rattle.fam_storm.proofs.rounds.put_cut.Goals as goal

pub returns-clause-lines : goal.returns-clause-lines
returns-clause-lines c =
    let second : c.draw-count.new.generator ≡ after (after c.args.generator.now) = c.draw-count.ensures.state ∙ ap after c.draw-size.ensures.state in
    subst (λ (l : List ℕ). OnOk c.put_end.result (c.put_end.new.into.items ≡ l))
    (cut_put c.args.into.now.items c.put_begun.new.into.items c.put_step.new.into.items c.args.generator.now c.args.i c.draw-size.result (1 + c.draw-count.result) c.draw-end.result
    c.in_ok-put_begun.ensures c.in_ok-put_step.ensures c.draw-size.ensures.number
    (ap (λ (n : ℕ). 1 + n) (c.draw-count.ensures.number ∙ ap (drawn 12000) c.draw-size.ensures.state))
    (c.draw-end.ensures.number ∙ ap (drawn 3) second))
    c.put_end.ensures
