use Rattle.std.proofs.Common.{length, refl, arith, Option}
use Rattle.std.proofs.lemmas.Option.{slice_get_read}
use Rattle.fam_history.specs.declared.command.ToldCommand.{ToldCommand}
use Rattle.fam_judging.proofs.Keeping.{no_place, put}
use Rattle.fam_judging.proofs.hosts.put_command.Goals as goal

pub returns-then-at-len : goal.returns-then-at-len
returns-then-at-len c =
    let items = c.args.commands.now.items in
    let at_is = slice_get_read items (length items) c.args.at c.index_mut.result.now refl (omega (arith, c.if-at-len.true, c.len.ensures)) c.index_mut.ensures.value in
    put c.args.at (λ (o : Option ToldCommand). c.args.cmd) items _ _ at_is c.replace.ensures.after

pub returns-else-at-len : goal.returns-else-at-len
returns-else-at-len c = no_place c.args.at _ c.args.commands.now.items (omega (arith, c.if-at-len.false, c.len.ensures))
