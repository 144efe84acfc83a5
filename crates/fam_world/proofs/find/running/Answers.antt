use Rattle.std.proofs.Common.{refl, sym, ◌≡◌, ◌∙◌, ap, arith, true, false, Bool, length}
use Rattle.std.specs.Prelude.{not, slice_get, is_some}
use Rattle.std.proofs.lemmas.List.{length-map}
use Rattle.std.proofs.lemmas.Option.{same_Some, slice_get_read}
use Rattle.fam_journal.specs.declared.refusal.Refusal.TheVariants as why
use Rattle.fam_journal.specs.Calls as call
use Rattle.fam_journal.specs.Calls.{is_busy_host}
use Rattle.fam_journal.specs.View.{HostView}
use Rattle.fam_world.specs.View.{host_view, shown_hosts, views}
use Rattle.fam_world.proofs.Deciding.{busy_read, nobody, steps_first}
use Rattle.fam_world.proofs.Members.{map_at}
use Rattle.fam_world.proofs.find.running.Goals as goal

pub returns-in_default-clause-placed : goal.returns-in_default-clause-placed
returns-in_default-clause-placed c = λ lines journal.
    let items = c.args.hosts.now.items in
    nobody (call.Steps c.args.name.now) lines (record { hosts = views items; journal = journal })
    (steps_first (views items) journal c.args.name.now lines _ (sym c.number.ensures.is ∙ c.in_default.is))

pub returns-then-not-is_busy-clause-placed : goal.returns-then-not-is_busy-clause-placed
returns-then-not-is_busy-clause-placed c = λ lines journal.
    let items = c.args.hosts.now.items in
    let at = c.in-Some.at in
    let at_is = slice_get_read items (length items) at c.index.result.now refl (omega (arith, c.in-Some.ensures.within)) c.index.ensures in
    let idle : is_busy_host (slice_get (shown_hosts items) at) ≡ false = busy_read items at c.index.result.now at_is ∙ sym c.is_busy.ensures.busy ∙ c.if-not-is_busy.true in
    record {
      first = steps_first (views items) journal c.args.name.now lines _ (sym c.number.ensures.is ∙ c.in-Some.is) ∙ ap (λ (b : Bool). call.when (not b) why.Idle) idle;
      plain = tt;
      named = tt;
      faultless = refl;
    }

pub returns-clause-placed : goal.returns-clause-placed
returns-clause-placed c = λ lines journal.
    let items = c.args.hosts.now.items in
    let at = c.in-Some.at in
    let at_is = slice_get_read items (length items) at c.index.result.now refl (omega (arith, c.in-Some.ensures.within)) c.index.ensures in
    let busy : is_busy_host (slice_get (shown_hosts items) at) ≡ true = busy_read items at c.index.result.now at_is ∙ sym c.is_busy.ensures.busy ∙ c.if-not-is_busy.false in
    let number = sym c.number.ensures.is ∙ c.in-Some.is in
    record {
      number = number;
      free = steps_first (views items) journal c.args.name.now lines _ number ∙ ap (λ (b : Bool). call.when (not b) why.Idle) busy;
      within = omega (arith, c.in-Some.ensures.within, length-map items host_view);
    }

pub returns-clause-runs : goal.returns-clause-runs
returns-clause-runs c = λ view view_is.
    let items = c.args.hosts.now.items in
    let at = c.in-Some.at in
    let at_is = slice_get_read items (length items) at c.index.result.now refl (omega (arith, c.in-Some.ensures.within)) c.index.ensures in
    let same : host_view c.index.result.now ≡ view = same_Some (host_view c.index.result.now) view (sym (map_at host_view items at c.index.result.now at_is) ∙ view_is) in
    ap (λ (v : HostView). is_some v.task) (sym same) ∙ sym c.is_busy.ensures.task ∙ c.if-not-is_busy.false
