use Rattle.std.proofs.Common.{refl, sym, ◌≡◌, ◌∙◌, ap, ap₂, arith, true, false, Bool, length}
use Rattle.std.specs.Prelude.{◌&&◌, nat_lt, slice_get}
use Rattle.std.proofs.lemmas.Bool.Decides.{nat_tests}
use Rattle.std.proofs.lemmas.List.{length-map}
use Rattle.std.proofs.lemmas.Option.{slice_get_read}
use Rattle.fam_commands.specs.Classes.{is_mount}
use Rattle.fam_format.specs.Layout.{least_lines}
use Rattle.fam_journal.specs.declared.refusal.Refusal.TheVariants as why
use Rattle.fam_journal.specs.Calls as call
use Rattle.fam_journal.specs.Calls.{is_busy_host, is_kept_host}
use Rattle.fam_world.specs.View.{host_view, shown_hosts, views}
use Rattle.fam_world.proofs.Deciding.{begins_by, begins_first, busy_read, kept_read, nobody}
use Rattle.fam_world.proofs.find.may_begin.Goals as goal

pub returns-in_default-clause-placed : goal.returns-in_default-clause-placed
returns-in_default-clause-placed c = λ cmd journal same.
    let items = c.args.hosts.now.items in
    nobody (call.Begins c.args.name.now cmd) c.args.lines (record { hosts = views items; journal = journal })
    (begins_first (views items) journal c.args.name.now c.args.lines _ (sym c.number.ensures.is ∙ c.in_default.is) cmd)

pub returns-then-lines-lt-LEAST_LINES-clause-placed : goal.returns-then-lines-lt-LEAST_LINES-clause-placed
returns-then-lines-lt-LEAST_LINES-clause-placed c = λ cmd journal same.
    let items = c.args.hosts.now.items in
    let at = c.in-Some.at in
    let small : nat_lt c.args.lines least_lines ≡ true = grind (arith, nat_tests, c.if-lines-lt-LEAST_LINES.true) in
    record {
      first = begins_first (views items) journal c.args.name.now c.args.lines _ (sym c.number.ensures.is ∙ c.in-Some.is) cmd
          ∙ ap (λ (b : Bool). begins_by b (is_busy_host (slice_get (shown_hosts items) at)) (is_mount cmd) (is_kept_host (slice_get (shown_hosts items) at)) c.args.lines at) small;
      plain = tt;
      named = tt;
      faultless = refl;
    }

pub returns-then-is_busy-clause-placed : goal.returns-then-is_busy-clause-placed
returns-then-is_busy-clause-placed c = λ cmd journal same.
    let items = c.args.hosts.now.items in
    let at = c.in-Some.at in
    let at_is = slice_get_read items (length items) at c.index-host.result.now refl (omega (arith, c.in-Some.ensures.within)) c.index-host.ensures in
    let wide : nat_lt c.args.lines least_lines ≡ false = grind (arith, nat_tests, c.if-lines-lt-LEAST_LINES.false) in
    let busy : is_busy_host (slice_get (shown_hosts items) at) ≡ true = busy_read items at c.index-host.result.now at_is ∙ sym c.is_busy.ensures.busy ∙ c.if-is_busy.true in
    record {
      first = begins_first (views items) journal c.args.name.now c.args.lines _ (sym c.number.ensures.is ∙ c.in-Some.is) cmd
          ∙ ap (λ (b : Bool). begins_by b (is_busy_host (slice_get (shown_hosts items) at)) (is_mount cmd) (is_kept_host (slice_get (shown_hosts items) at)) c.args.lines at) wide
          ∙ ap (λ (b : Bool). begins_by false b (is_mount cmd) (is_kept_host (slice_get (shown_hosts items) at)) c.args.lines at) busy;
      plain = tt;
      named = omega (arith, c.in-Some.ensures.within, length-map items host_view);
      faultless = refl;
    }

pub returns-then-mounts_again-clause-placed : goal.returns-then-mounts_again-clause-placed
returns-then-mounts_again-clause-placed c = λ cmd journal same.
    let items = c.args.hosts.now.items in
    let at = c.in-Some.at in
    let at_is = slice_get_read items (length items) at c.index-host.result.now refl (omega (arith, c.in-Some.ensures.within)) c.index-host.ensures in
    let wide : nat_lt c.args.lines least_lines ≡ false = grind (arith, nat_tests, c.if-lines-lt-LEAST_LINES.false) in
    let idle : is_busy_host (slice_get (shown_hosts items) at) ≡ false = busy_read items at c.index-host.result.now at_is ∙ sym c.is_busy.ensures.busy ∙ c.if-is_busy.false in
    let kept = kept_read items at c.index-host.result.now at_is in
    let again : (is_mount cmd && is_kept_host (slice_get (shown_hosts items) at)) ≡ true = ap₂ (λ (b d : Bool). b && d) same kept ∙ sym c.mounts_again.ensures ∙ c.if-mounts_again.true in
    record {
      first = begins_first (views items) journal c.args.name.now c.args.lines _ (sym c.number.ensures.is ∙ c.in-Some.is) cmd
          ∙ ap₂ (λ (b d : Bool). begins_by b d (is_mount cmd) (is_kept_host (slice_get (shown_hosts items) at)) c.args.lines at) wide idle
          ∙ ap (λ (b : Bool). call.when b why.Mounted) again;
      plain = tt;
      named = tt;
      faultless = refl;
    }

pub returns-clause-placed : goal.returns-clause-placed
returns-clause-placed c = λ cmd journal same.
    let items = c.args.hosts.now.items in
    let at = c.in-Some.at in
    let at_is = slice_get_read items (length items) at c.index-host.result.now refl (omega (arith, c.in-Some.ensures.within)) c.index-host.ensures in
    let wide : nat_lt c.args.lines least_lines ≡ false = grind (arith, nat_tests, c.if-lines-lt-LEAST_LINES.false) in
    let idle : is_busy_host (slice_get (shown_hosts items) at) ≡ false = busy_read items at c.index-host.result.now at_is ∙ sym c.is_busy.ensures.busy ∙ c.if-is_busy.false in
    let kept = kept_read items at c.index-host.result.now at_is in
    let first : (is_mount cmd && is_kept_host (slice_get (shown_hosts items) at)) ≡ false = ap₂ (λ (b d : Bool). b && d) same kept ∙ sym c.mounts_again.ensures ∙ c.if-mounts_again.false in
    let number = sym c.number.ensures.is ∙ c.in-Some.is in
    record {
      number = number;
      free = begins_first (views items) journal c.args.name.now c.args.lines _ number cmd
          ∙ ap₂ (λ (b d : Bool). begins_by b d (is_mount cmd) (is_kept_host (slice_get (shown_hosts items) at)) c.args.lines at) wide idle
          ∙ ap (λ (b : Bool). call.when b why.Mounted) first;
      within = omega (arith, c.in-Some.ensures.within, length-map items host_view);
    }
