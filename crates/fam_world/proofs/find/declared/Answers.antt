use Rattle.std.proofs.Common.{sym, ◌∙◌, arith}
use Rattle.std.proofs.lemmas.List.{length-map}
use Rattle.fam_journal.specs.Calls as call
use Rattle.fam_world.specs.View.{host_view, views}
use Rattle.fam_world.proofs.Deciding.{halts_first, nobody}
use Rattle.fam_world.proofs.find.declared.Goals as goal

pub returns-in-Some-clause-placed : goal.returns-in-Some-clause-placed
returns-in-Some-clause-placed c =
    let items = c.args.hosts.now.items in
    let number = sym c.number.ensures.is ∙ c.in-Some.is in
    λ lines journal. record {
      number = number;
      free = halts_first (views items) journal c.args.name.now lines _ number;
      within = omega (arith, c.in-Some.ensures.within, length-map items host_view);
    }

pub returns-in-None-clause-placed : goal.returns-in-None-clause-placed
returns-in-None-clause-placed c =
    let items = c.args.hosts.now.items in
    λ lines journal. nobody (call.Halts c.args.name.now) lines (record { hosts = views items; journal = journal })
    (halts_first (views items) journal c.args.name.now lines _ (sym c.number.ensures.is ∙ c.in-None.is))
