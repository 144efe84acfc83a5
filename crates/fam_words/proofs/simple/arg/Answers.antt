use Rattle.std.proofs.Common.{Some, true, sym, ap, ◌∙◌}
use Rattle.clap.specs.Walk.{Rule, rule_of}
use Rattle.clap.specs.declared.builder.action.ArgAction.TheVariants.{Set, SetTrue}
use Rattle.clap.specs.declared.builder.arg.Arg.{Arg}
use Rattle.fam_words.specs.Arguments.{rule_for}
use Rattle.fam_words.specs.Simple.{word_rule, option_rule, flag_rule}
use Rattle.fam_words.proofs.simple.arg.Goals as goal

-- the fields that are set show in the rule as they stand in the argument

pub returns-in-Word-clause-rule : goal.returns-in-Word-clause-rule
unfolding word_rule
returns-in-Word-clause-rule c =
    ap rule_of (c.action.ensures ∙ ap (λ (a : Arg). record a { action = Some Set }) c.required.ensures)
    ∙ ap (λ (r : Rule). record r { required = true; action = Some Set }) c.new.ensures.rule
    ∙ ap rule_for (sym c.in-Word.is)

pub returns-in-Long-clause-rule : goal.returns-in-Long-clause-rule
unfolding option_rule
returns-in-Long-clause-rule c =
    ap rule_of (c.action-in-Long.ensures
    ∙ ap (λ (a : Arg). record a { action = Some Set }) (c.required-in-Long.ensures
    ∙ ap (λ (a : Arg). record a { required = c.in-Long.needed }) c.long.ensures))
    ∙ ap (λ (r : Rule). record r { long = Some c.in-Long.id.now; required = c.in-Long.needed; action = Some Set }) c.new-in-Long.ensures.rule
    ∙ ap rule_for (sym c.in-Long.is)

pub returns-in-Short-clause-rule : goal.returns-in-Short-clause-rule
unfolding option_rule
returns-in-Short-clause-rule c =
    ap rule_of (c.action-in-Short.ensures
    ∙ ap (λ (a : Arg). record a { action = Some Set }) (c.required-in-Short.ensures
    ∙ ap (λ (a : Arg). record a { required = c.in-Short.needed }) (c.short.ensures
    ∙ ap (λ (a : Arg). record a { short = Some c.in-Short.letter }) c.long-in-Short.ensures)))
    ∙ ap (λ (r : Rule). record r { long = Some c.in-Short.id.now; short = Some c.in-Short.letter; required = c.in-Short.needed; action = Some Set }) c.new-in-Short.ensures.rule
    ∙ ap rule_for (sym c.in-Short.is)

pub returns-in-Flag-clause-rule : goal.returns-in-Flag-clause-rule
unfolding flag_rule
returns-in-Flag-clause-rule c =
    ap rule_of (c.action-in-Flag.ensures
    ∙ ap (λ (a : Arg). record a { action = Some SetTrue }) (c.short-in-Flag.ensures
    ∙ ap (λ (a : Arg). record a { short = Some c.in-Flag.letter }) c.long-in-Flag.ensures))
    ∙ ap (λ (r : Rule). record r { long = Some c.in-Flag.id.now; short = Some c.in-Flag.letter; action = Some SetTrue }) c.new-in-Flag.ensures.rule
    ∙ ap rule_for (sym c.in-Flag.is)
