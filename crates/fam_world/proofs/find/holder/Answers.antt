use Rattle.std.proofs.Common.{refl, sym, ◌≡◌, ◌∙◌, ap, arith, true, false, Bool}
use Rattle.std.specs.Prelude.{nat_le}
use Rattle.std.proofs.lemmas.Bool.Decides.{nat_tests}
use Rattle.std.proofs.lemmas.List.{length-map}
use Rattle.fam_journal.specs.declared.refusal.Refusal.TheVariants as why
use Rattle.fam_journal.specs.Calls as call
use Rattle.fam_world.specs.View.{host_view, views}
use Rattle.fam_world.proofs.Deciding.{moves_first, nobody}
use Rattle.fam_world.proofs.find.holder.Goals as goal

pub returns-in_default-clause-placed : goal.returns-in_default-clause-placed
returns-in_default-clause-placed c = λ move journal.
    let items = c.args.hosts.now.items in
    nobody (call.Moves c.args.name.now c.args.line.0 move) c.args.lines (record { hosts = views items; journal = journal })
    (moves_first (views items) journal c.args.name.now c.args.lines _ (sym c.number.ensures.is ∙ c.in_default.is) c.args.line.0 move)

pub returns-then-line-lines-clause-placed : goal.returns-then-line-lines-clause-placed
returns-then-line-lines-clause-placed c = λ move journal.
    let items = c.args.hosts.now.items in
    let past : nat_le c.args.lines c.args.line.0 ≡ true = grind (arith, nat_tests, c.if-line-lines.true) in
    record {
      first = moves_first (views items) journal c.args.name.now c.args.lines _ (sym c.number.ensures.is ∙ c.in-Some.is) c.args.line.0 move
          ∙ ap (λ (b : Bool). call.when b (why.NoLine c.args.line.0 c.args.lines)) past;
      plain = tt;
      named = tt;
      faultless = refl;
    }

pub returns-clause-placed : goal.returns-clause-placed
returns-clause-placed c = λ move journal.
    let items = c.args.hosts.now.items in
    let number = sym c.number.ensures.is ∙ c.in-Some.is in
    let inside : nat_le c.args.lines c.args.line.0 ≡ false = grind (arith, nat_tests, c.if-line-lines.false) in
    record {
      number = number;
      free = moves_first (views items) journal c.args.name.now c.args.lines _ number c.args.line.0 move ∙ ap (λ (b : Bool). call.when b (why.NoLine c.args.line.0 c.args.lines)) inside;
      within = omega (arith, c.in-Some.ensures.within, length-map items host_view);
    }
