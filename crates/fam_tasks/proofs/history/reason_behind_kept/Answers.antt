use Rattle.std.proofs.Common.{◌≡◌, List, Some, sym, refl, ap, subst, ◌∙◌}
use Rattle.fam_base.specs.declared.entry.Entry.{Entry}
use Rattle.fam_base.specs.declared.entry.Params.{Params}
use Rattle.fam_commands.specs.Kept.{Kept}
use Rattle.fam_format.specs.Layout.{geometry}
use Rattle.fam_replay.specs.Replay.{IsAgainst}
use Rattle.fam_replay.specs.Replica.{JoinsNext}
use Rattle.fam_tasks.proofs.history.reason_behind_kept.Goals as goal

pub returns-in-Ok-clause-reads : goal.returns-in-Ok-clause-reads
returns-in-Ok-clause-reads c k is =
    let both : Some c.in-Some.kept ≡ Some k = sym c.in-Some.is ∙ is in
    let same : c.in-Some.kept ≡ k = cc in (
      subst (λ (x : Kept). IsAgainst x.params c.args.words.now x.entries c.in-Ok.reason) same
          (subst (λ (p : Params). IsAgainst p c.args.words.now c.in-Some.kept.entries c.in-Ok.reason) c.plan.ensures.params
          (subst (λ (list : List Entry). IsAgainst c.plan.result.now.params c.args.words.now list c.in-Ok.reason) c.plan.ensures.entries c.in-Ok.ensures.against)),
      refl,
    )

pub returns-in-Err-clause-want : goal.returns-in-Err-clause-want
returns-in-Err-clause-want c k is =
    let both : Some c.in-Some.kept ≡ Some k = sym c.in-Some.is ∙ is in
    let same : c.in-Some.kept ≡ k = cc in
    subst (λ (x : Kept). JoinsNext x.params c.args.words.now x.entries) same
    (subst (λ (p : Params). JoinsNext p c.args.words.now c.in-Some.kept.entries) c.plan.ensures.params
    (subst (λ (list : List Entry). JoinsNext c.plan.result.now.params c.args.words.now list) c.plan.ensures.entries c.in-Err.ensures.want))

pub reason_behind-requires : goal.reason_behind-requires
reason_behind-requires c =
    c.requires.count c.in-Some.kept c.in-Some.is ∙ ap (λ (p : Params). (geometry p).words) (sym c.plan.ensures.params)
