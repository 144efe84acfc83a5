use Rattle.std.proofs.Common.{List, sym, subst, ap, ◌∙◌}
use Rattle.std.proofs.lemmas.Bool.{true≢false}
use Rattle.fam_base.specs.declared.entry.Entry.{Entry}
use Rattle.fam_format.specs.Tree.{replay}
use Rattle.fam_rules.specs.Reply as reply
use Rattle.fam_rules.specs.Reply.{Reply}
use Rattle.fam_judging.specs.Lefts.{LeavesEndings}
use Rattle.fam_judging.proofs.Leaves.{ok_map}
use Rattle.fam_judging.proofs.ShownAnswers.{played_is, rest_fault}
use Rattle.fam_judging.proofs.replies_kinds.answer_lefts.Goals as goal

pub returns-in-Played : goal.returns-in-Played
returns-in-Played c =
    ok_map c.played.result _ _ c.played.ensures (λ lefts is r same.
    subst (λ (q : Reply). LeavesEndings c.args.given.now c.args.seen.now c.args.cmd.now c.args.settled.now c.args.track.now q lefts)
    (ap (λ (es : List Entry). reply.Played c.in-Played.m (replay es)) c.as_slice.ensures.value ∙ played_is c.args.answer.now c.in-Played.m c.in-Played.entries r c.in-Played.is same) is)

pub returns-in_default : goal.returns-in_default
returns-in_default c r same =
    absurd (rest_fault c.args.answer.now (λ plain. true≢false (sym (c.is_plain.ensures.1 plain) ∙ c.if-is_plain.false)) (λ shown. true≢false (sym (c.is_shown.ensures.1 shown) ∙ c.if-is_shown.false))
    c.in_default.not-Played r same)
