use Rattle.std.proofs.Common.{sym, ◌≡◌, ◌∙◌, ap, arith, true, false, Bool, length}
use Rattle.std.specs.Prelude.{nat_le}
use Rattle.std.proofs.lemmas.Bool.Decides.{nat_tests}
use Rattle.std.proofs.lemmas.List.{length-map}
use Rattle.fam_journal.specs.declared.refusal.Refusal.TheVariants as why
use Rattle.fam_journal.specs.Calls as call
use Rattle.fam_journal.specs.Calls.{host_limit}
use Rattle.fam_journal.specs.ByWorld.{shown_host}
use Rattle.fam_world.specs.View.{host_view, shown_hosts, views}
use Rattle.fam_world.proofs.Deciding.{declares_first}
use Rattle.fam_world.proofs.find.declared_before.Goals as goal

pub returns-in-Some-clause-first : goal.returns-in-Some-clause-first
returns-in-Some-clause-first c = λ lines journal.
    let items = c.args.hosts.now.items in
    sym (declares_first (views items) journal c.args.name.now c.args.uuid.now lines _ (sym c.same_host.ensures.is ∙ c.in-Some.is))

pub returns-then-len-ge-MOST_HOSTS-clause-first : goal.returns-then-len-ge-MOST_HOSTS-clause-first
returns-then-len-ge-MOST_HOSTS-clause-first c = λ lines journal.
    let items = c.args.hosts.now.items in
    let full : nat_le host_limit (length (shown_hosts items)) ≡ true =
    grind (arith, nat_tests, c.if-len-ge-MOST_HOSTS.true, c.len.ensures, length-map (views items) shown_host, length-map items host_view) in
    sym (declares_first (views items) journal c.args.name.now c.args.uuid.now lines _ (sym c.same_host.ensures.is ∙ c.in_default.is) ∙ ap (λ (b : Bool). call.when b why.TooManyHosts) full)

pub returns-clause-first : goal.returns-clause-first
returns-clause-first c = λ lines journal.
    let items = c.args.hosts.now.items in
    let free : nat_le host_limit (length (shown_hosts items)) ≡ false =
    grind (arith, nat_tests, c.if-len-ge-MOST_HOSTS.false, c.len.ensures, length-map (views items) shown_host, length-map items host_view) in
    sym (declares_first (views items) journal c.args.name.now c.args.uuid.now lines _ (sym c.same_host.ensures.is ∙ c.in_default.is) ∙ ap (λ (b : Bool). call.when b why.TooManyHosts) free)
