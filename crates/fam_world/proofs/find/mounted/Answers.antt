use Rattle.std.proofs.Common.{refl, sym, ◌≡◌, ◌∙◌, ap, ap₂, arith, true, false, Bool, length}
use Rattle.std.specs.Prelude.{slice_get, is_some}
use Rattle.std.proofs.lemmas.List.{length-map}
use Rattle.std.proofs.lemmas.Option.{same_Some, slice_get_read}
use Rattle.fam_journal.specs.Calls as call
use Rattle.fam_journal.specs.Calls.{is_busy_host, is_kept_host}
use Rattle.fam_journal.specs.View.{HostView}
use Rattle.fam_world.specs.View.{host_view, shown_hosts, views}
use Rattle.fam_world.proofs.Deciding.{busy_read, idle_none, kept_read, nobody, umounts_by, umounts_first}
use Rattle.fam_world.proofs.Members.{map_at}
use Rattle.fam_world.proofs.find.mounted.Goals as goal

pub returns-in_default-clause-placed : goal.returns-in_default-clause-placed
returns-in_default-clause-placed c = λ lines journal.
    let items = c.args.hosts.now.items in
    nobody (call.Umounts c.args.name.now) lines (record { hosts = views items; journal = journal })
    (umounts_first (views items) journal c.args.name.now lines _ (sym c.number.ensures.is ∙ c.in_default.is))

pub returns-then-is_busy-clause-placed : goal.returns-then-is_busy-clause-placed
returns-then-is_busy-clause-placed c = λ lines journal.
    let items = c.args.hosts.now.items in
    let at = c.in-Some.at in
    let at_is = slice_get_read items (length items) at c.index-host.result.now refl (omega (arith, c.in-Some.ensures.within)) c.index-host.ensures in
    let busy : is_busy_host (slice_get (shown_hosts items) at) ≡ true = busy_read items at c.index-host.result.now at_is ∙ sym c.is_busy.ensures.busy ∙ c.if-is_busy.true in
    record {
      first = umounts_first (views items) journal c.args.name.now lines _ (sym c.number.ensures.is ∙ c.in-Some.is)
          ∙ ap (λ (b : Bool). umounts_by b (is_kept_host (slice_get (shown_hosts items) at)) at) busy;
      plain = tt;
      named = omega (arith, c.in-Some.ensures.within, length-map items host_view);
      faultless = refl;
    }

pub returns-then-not-keeps-clause-placed : goal.returns-then-not-keeps-clause-placed
returns-then-not-keeps-clause-placed c = λ lines journal.
    let items = c.args.hosts.now.items in
    let at = c.in-Some.at in
    let at_is = slice_get_read items (length items) at c.index-host.result.now refl (omega (arith, c.in-Some.ensures.within)) c.index-host.ensures in
    let idle : is_busy_host (slice_get (shown_hosts items) at) ≡ false = busy_read items at c.index-host.result.now at_is ∙ sym c.is_busy.ensures.busy ∙ c.if-is_busy.false in
    let bare : is_kept_host (slice_get (shown_hosts items) at) ≡ false = kept_read items at c.index-host.result.now at_is ∙ sym c.keeps.ensures ∙ c.if-not-keeps.true in
    record {
      first = umounts_first (views items) journal c.args.name.now lines _ (sym c.number.ensures.is ∙ c.in-Some.is)
          ∙ ap₂ (λ (b d : Bool). umounts_by b d at) idle bare;
      plain = tt;
      named = tt;
      faultless = refl;
    }

pub returns-clause-placed : goal.returns-clause-placed
returns-clause-placed c = λ lines journal.
    let items = c.args.hosts.now.items in
    let at = c.in-Some.at in
    let at_is = slice_get_read items (length items) at c.index-host.result.now refl (omega (arith, c.in-Some.ensures.within)) c.index-host.ensures in
    let idle : is_busy_host (slice_get (shown_hosts items) at) ≡ false = busy_read items at c.index-host.result.now at_is ∙ sym c.is_busy.ensures.busy ∙ c.if-is_busy.false in
    let kept : is_kept_host (slice_get (shown_hosts items) at) ≡ true = kept_read items at c.index-host.result.now at_is ∙ sym c.keeps.ensures ∙ c.if-not-keeps.false in
    let number = sym c.number.ensures.is ∙ c.in-Some.is in
    record {
      number = number;
      free = umounts_first (views items) journal c.args.name.now lines _ number ∙ ap₂ (λ (b d : Bool). umounts_by b d at) idle kept;
      within = omega (arith, c.in-Some.ensures.within, length-map items host_view);
    }

pub returns-clause-idle : goal.returns-clause-idle
returns-clause-idle c = λ view view_is.
    let items = c.args.hosts.now.items in
    let at = c.in-Some.at in
    let at_is = slice_get_read items (length items) at c.index-host.result.now refl (omega (arith, c.in-Some.ensures.within)) c.index-host.ensures in
    let same : host_view c.index-host.result.now ≡ view = same_Some (host_view c.index-host.result.now) view (sym (map_at host_view items at c.index-host.result.now at_is) ∙ view_is) in
    idle_none view.task (ap (λ (v : HostView). is_some v.task) (sym same) ∙ sym c.is_busy.ensures.task ∙ c.if-is_busy.false)
