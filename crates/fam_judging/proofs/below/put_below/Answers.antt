use Rattle.std.proofs.Common.{refl}
use Rattle.fam_judging.specs.After.{possible_in}
use Rattle.fam_judging.proofs.Adding.{adds_last, adds_none}
use Rattle.fam_judging.proofs.Goings.{on_ok}
use Rattle.fam_judging.proofs.below.put_below.Goals as goal

pub returns-then-has_below : goal.returns-then-has_below
returns-then-has_below c start cmds =
    adds_none (possible_in start c.args.seen.now.items cmds) c.args.candidate c.args.out.now.items (c.if-has_below.ensures start cmds refl)

pub returns : goal.returns
returns c start cmds =
    on_ok c.push.result _ _ (adds_last (possible_in start c.args.seen.now.items cmds) c.args.candidate c.args.out.now.items c.push.new.out.items) c.push.ensures
