use Rattle.std.proofs.Common.{◌≡◌, ◌*◌, ℕ, refl, sym, ap, ap₂, ◌∙◌, arith, length, Option, Some, None}
use Rattle.std.specs.Prelude.{option_map}
use Rattle.std.proofs.lemmas.List.{length-map}
use Rattle.fam_format.specs.Stop.{or_else}
use Rattle.fam_rules.specs.Place.{line_bytes}
use Rattle.fam_machine.specs.Mkfs.{early_refusal}
use Rattle.fam_journal.specs.declared.refusal.Refusal.{Refusal}
use Rattle.fam_journal.specs.Calls as call
use Rattle.fam_journal.specs.Calls.{busy_refusal, cause_of, dirty_from, dirty_refusal, is_engaged}
use Rattle.fam_journal.specs.Members.{index_of}
use Rattle.fam_world.specs.View.{host_view, shown_hosts, views}
use Rattle.fam_world.proofs.Deciding.{early_known, makes_first, nobody}
use Rattle.fam_world.proofs.world.make.maker.Goals as goal

pub returns-in_default-clause-placed : goal.returns-in_default-clause-placed
returns-in_default-clause-placed c = λ journal.
    let items = c.args.hosts.now.items in
    nobody (call.Makes c.args.name.now c.args.request.now) c.args.lines (record { hosts = views items; journal = journal })
    (makes_first (views items) journal c.args.name.now c.args.lines _ (sym c.number.ensures.is ∙ c.in_default.is) c.args.request.now)

pub returns-in-Some-early_cause-clause-placed : goal.returns-in-Some-early_cause-clause-placed
returns-in-Some-early_cause-clause-placed c = λ journal.
    let items = c.args.hosts.now.items in
    let early : option_map cause_of (early_refusal c.args.request.now.unit c.args.request.now.log (line_bytes * c.args.lines))
    ≡ Some c.in-Some-early_cause.cause = sym c.early_cause.ensures.cause ∙ c.in-Some-early_cause.is in
    let known = early_known (length (views items)) (early_refusal c.args.request.now.unit c.args.request.now.log (line_bytes * c.args.lines)) c.in-Some-early_cause.cause early in
    record {
      first = makes_first (views items) journal c.args.name.now c.args.lines _ (sym c.number.ensures.is ∙ c.in-Some.is) c.args.request.now
          ∙ ap (λ (e : Option Refusal). or_else e (or_else (busy_refusal (index_of is_engaged (shown_hosts items))) (dirty_refusal (dirty_from c.in-Some.at 0 (shown_hosts items))))) early;
      plain = c.in-Some-early_cause.ensures.plain;
      named = known.0;
      faultless = known.1;
    }

pub returns-in-Some-engaged_host-clause-placed : goal.returns-in-Some-engaged_host-clause-placed
returns-in-Some-engaged_host-clause-placed c = λ journal.
    let items = c.args.hosts.now.items in
    let early : option_map cause_of (early_refusal c.args.request.now.unit c.args.request.now.log (line_bytes * c.args.lines)) ≡ None = sym c.early_cause.ensures.cause ∙ c.in_default-early_cause.is in
    let busy = sym c.engaged_host.ensures.is ∙ c.in-Some-engaged_host.is in
    record {
      first = makes_first (views items) journal c.args.name.now c.args.lines _ (sym c.number.ensures.is ∙ c.in-Some.is) c.args.request.now
          ∙ ap₂ (λ (e : Option Refusal) (b : Option ℕ). or_else e (or_else (busy_refusal b) (dirty_refusal (dirty_from c.in-Some.at 0 (shown_hosts items))))) early busy;
      plain = tt;
      named = omega (arith, c.in-Some-engaged_host.ensures.within, length-map items host_view);
      faultless = refl;
    }

pub returns-in-Some-dirty_host-clause-placed : goal.returns-in-Some-dirty_host-clause-placed
returns-in-Some-dirty_host-clause-placed c = λ journal.
    let items = c.args.hosts.now.items in
    let early : option_map cause_of (early_refusal c.args.request.now.unit c.args.request.now.log (line_bytes * c.args.lines)) ≡ None = sym c.early_cause.ensures.cause ∙ c.in_default-early_cause.is in
    let busy = sym c.engaged_host.ensures.is ∙ c.in_default-engaged_host.is in
    let dirty = sym c.dirty_host.ensures.is ∙ c.in-Some-dirty_host.is in
    record {
      first = makes_first (views items) journal c.args.name.now c.args.lines _ (sym c.number.ensures.is ∙ c.in-Some.is) c.args.request.now
          ∙ ap₂ (λ (e : Option Refusal) (b : Option ℕ). or_else e (or_else (busy_refusal b) (dirty_refusal (dirty_from c.in-Some.at 0 (shown_hosts items))))) early busy
          ∙ ap dirty_refusal dirty;
      plain = tt;
      named = omega (arith, c.in-Some-dirty_host.ensures.within, length-map items host_view);
      faultless = refl;
    }

pub returns-clause-placed : goal.returns-clause-placed
returns-clause-placed c = λ journal.
    let items = c.args.hosts.now.items in
    let early : option_map cause_of (early_refusal c.args.request.now.unit c.args.request.now.log (line_bytes * c.args.lines)) ≡ None = sym c.early_cause.ensures.cause ∙ c.in_default-early_cause.is in
    let busy = sym c.engaged_host.ensures.is ∙ c.in_default-engaged_host.is in
    let dirty = sym c.dirty_host.ensures.is ∙ c.in_default-dirty_host.is in
    let number = sym c.number.ensures.is ∙ c.in-Some.is in
    record {
      number = number;
      free = makes_first (views items) journal c.args.name.now c.args.lines _ number c.args.request.now
          ∙ ap₂ (λ (e : Option Refusal) (b : Option ℕ). or_else e (or_else (busy_refusal b) (dirty_refusal (dirty_from c.in-Some.at 0 (shown_hosts items))))) early busy
          ∙ ap dirty_refusal dirty;
      within = omega (arith, c.in-Some.ensures.within, length-map items host_view);
    }
