use Rattle.std.proofs.Common.{◌≡◌, length, true, sym, ◌∙◌}
use Rattle.fam_judging.specs.After.{seen_after}
use Rattle.fam_judging.proofs.Goings.{if_any}
use Rattle.fam_judging.proofs.Pushes.{own_count}
use Rattle.fam_judging.proofs.lead.lead_to.Goals as goal

pub returns-then-is_own-clause-placed : goal.returns-then-is_own-clause-placed
returns-then-is_own-clause-placed c =
    if_any c.own.result (λ goes. goes ≡ true → length c.own.new.candidate.tracks.items ≡ length (seen_after c.args.hosts.now.seen.items c.args.line.now))
    (λ b is. c.own.ensures.placed ∙ c.requires.candidate ∙ sym (own_count c.args.hosts.now.seen.items c.args.line.now (sym c.if-is_own.ensures)))

pub returns-else-is_own-clause-goes : goal.returns-else-is_own-clause-goes
returns-else-is_own-clause-goes c start long has = c.plain.ensures.goes start c.args.given.now long has

pub returns-else-is_own-clause-given : goal.returns-else-is_own-clause-given
returns-else-is_own-clause-given c start has = c.plain.ensures.given start c.args.given.now has
