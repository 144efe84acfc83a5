use Rattle.std.proofs.Common.{length, refl, arith, None}
use Rattle.std.proofs.lemmas.Option.{slice_get_read}
use Rattle.fam_journal.specs.View.{HostView}
use Rattle.std.specs.FinMap as finmap
use Rattle.fam_world.specs.View.{host_view}
use Rattle.fam_world.proofs.Members.{map_set}
use Rattle.fam_world.proofs.hosts.lose.Goals as goal

pub returns-clause-views : goal.returns-clause-views
returns-clause-views c =
    let items = c.args.hosts.now.items in
    let at_is = slice_get_read items (length items) c.args.at c.index_mut.result.now refl (omega (arith, c.requires.within)) c.index_mut.ensures.value in
    map_set host_view (λ (v : HostView). record v { cache = finmap.empty; task = None; kept = None }) items c.args.at _ c.index_mut.result.now at_is c.lose_on.ensures
