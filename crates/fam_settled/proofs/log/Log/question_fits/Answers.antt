use Rattle.std.proofs.Common.{rules, ◌≡◌, ◌==◌, List, length, take, refl, sym, ap, ◌∙◌}
use Rattle.std.proofs.lemmas.Bool.{true≢false}
use Rattle.std.proofs.lemmas.List.{length-take-le}
use Rattle.fam_base.specs.declared.entry.Entry.{Entry}
use Rattle.fam_settled.specs.Settled.{settled_and_pending}
use Rattle.fam_settled.specs.Told.{bare_cmd}
use Rattle.fam_settled.proofs.Choices.{both, both_ok, empty, refuted, untrue}
use Rattle.fam_settled.proofs.Replies.{fit_alone, line_told, listing_told}
use Rattle.fam_settled.proofs.ToldChecks.{check_told}
use Rattle.fam_settled.proofs.log.Log.question_fits.Goals as goal

pub returns-then-is_logplay : goal.returns-then-is_logplay
returns-then-is_logplay c =
    let all = settled_and_pending c.args.self.now in
    both_ok c.played_fits.result c.played_fits.ensures
    (listing_told (take c.args.m all) c.args.m (bare_cmd c.args.asked.now) c.args.answer.now c.args.listed.now (sym (length-take-le c.args.m all c.requires.few)) (c.if-is_logplay.ensures.0 refl))

pub returns-then-not-is_empty : goal.returns-then-not-is_empty
returns-then-not-is_empty c =
    let all = settled_and_pending c.args.self.now in
    refuted (λ fit.
    let none = fit_alone (take c.args.m all) (bare_cmd c.args.asked.now) c.args.answer.now c.args.listed.now (λ is. untrue (c.if-is_logplay.ensures.1 is)) fit in
    true≢false (sym (ap (λ (l : List Entry). length l == 0) none) ∙ sym c.is_empty.ensures ∙ c.if-not-is_empty.true))

pub returns-in-Some : goal.returns-in-Some
returns-in-Some c =
    let all = settled_and_pending c.args.self.now in
    let none : length c.args.listed.now ≡ 0 = search rules in
    both_ok c.check_fits.result c.check_fits.ensures
    (check_told (take c.args.m all) c.args.m c.in-Some.count (bare_cmd c.args.asked.now) c.args.answer.now c.args.listed.now
    (sym (length-take-le c.args.m all c.requires.few)) c.in-Some.ensures (empty c.args.listed.now none))

pub returns-in-None : goal.returns-in-None
returns-in-None c =
    let all = settled_and_pending c.args.self.now in
    let none : length c.args.listed.now ≡ 0 = search rules in
    both c.told_fits.result c.told_fits.ensures
    (line_told (take c.args.m all) c.args.m (bare_cmd c.args.asked.now) c.args.answer.now c.args.listed.now (sym (length-take-le c.args.m all c.requires.few))
    (λ is. untrue (c.if-is_logplay.ensures.1 is)) c.in-None.ensures (empty c.args.listed.now none))
