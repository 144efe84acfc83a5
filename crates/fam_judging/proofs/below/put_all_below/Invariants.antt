use Rattle.std.proofs.Common.{◌≡◌, ◌++◌, List, Option, length}
use Rattle.std.specs.Vec.Iter.{into_iter_items, into_iter_len}
use Rattle.fam_base.specs.Image.{Image}
use Rattle.fam_history.specs.declared.command.ToldCommand.{ToldCommand}
use Rattle.fam_judging.specs.After.{possible_in}
use Rattle.fam_judging.specs.Below.{AddsAll}
use Rattle.fam_judging.proofs.below.put_all_below.Given as goal

abbrev pub invariant-news : goal.invariant-news
invariant-news l =
    (l.yielded ++ into_iter_items l.candidate-iterator ≡ into_iter_items l.initial.candidate-iterator)
    × ((start : Image) (cmds : List (Option ToldCommand)) → AddsAll (possible_in start l.seen.items cmds) l.yielded l.fn.out.items l.out.items)
    × (into_iter_len l.candidate-iterator ≡ length (into_iter_items l.candidate-iterator))
