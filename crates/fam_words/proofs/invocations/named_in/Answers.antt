use Rattle.std.proofs.Common.{sym, ◌∙◌}
use Rattle.fam_words.proofs.NamedRules.{named_here, named_further}
use Rattle.fam_words.proofs.invocations.named_in.Goals as goal

pub returns-then-eq : goal.returns-then-eq
returns-then-eq c =
    sym (named_here c.args.word.now c.args.names.now c.loop-named.named-index _ c.loop-named-test.true (sym c.eq.ensures ∙ c.if-eq.true))
    ∙ c.loop-named.invariant

pub loop-named-preserved : goal.loop-named-preserved
loop-named-preserved c =
    sym (named_further c.args.word.now c.args.names.now c.loop-named.named-index _ c.loop-named-test.true (sym c.eq.ensures ∙ c.if-eq.false))
    ∙ c.loop-named.invariant
