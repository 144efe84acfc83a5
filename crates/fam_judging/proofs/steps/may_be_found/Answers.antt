use Rattle.std.proofs.Common.{sym, refl, ◌∙◌}
use Rattle.std.proofs.lemmas.Bool.{true≢false}
use Rattle.fam_settled.proofs.Choices.{refuted}
use Rattle.fam_judging.specs.Going.{is_at_head}
use Rattle.fam_judging.proofs.Tests.{head_tests, wishes_tests}
use Rattle.fam_judging.proofs.steps.may_be_found.Goals as goal

pub returns-then-not-is_head : goal.returns-then-not-is_head
returns-then-not-is_head c start has =
    refuted (λ m. true≢false (sym (c.if-not-is_head.ensures ∙ (head_tests start c.args.hosts.now c.args.candidate.now c.args.at).1 m.head)))

pub returns-then-not-appends : goal.returns-then-not-appends
returns-then-not-appends c start has =
    refuted (λ m. true≢false (sym (c.if-not-appends.ensures
    ∙ (wishes_tests is_at_head refl start c.args.hosts.now c.args.candidate.now c.args.at (sym c.if-not-is_head.ensures)).1 m.wishes)))

pub returns : goal.returns
returns c start has =
    let found = c.may_find.ensures start has in (
      λ h. record {
        head = (head_tests start c.args.hosts.now c.args.candidate.now c.args.at).0 (sym c.if-not-is_head.ensures);
        wishes = (wishes_tests is_at_head refl start c.args.hosts.now c.args.candidate.now c.args.at (sym c.if-not-is_head.ensures)).0 (sym c.if-not-appends.ensures);
        found = found.0 h;
      },
      λ m. found.1 m.found,
    )
