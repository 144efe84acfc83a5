use Rattle.std.proofs.Common.{sym, ◌∙◌}
use Rattle.std.proofs.lemmas.Bool.{true≢false}
use Rattle.fam_judging.proofs.Leaves.{ok_map}
use Rattle.fam_judging.proofs.replies_plain.refused.Goals as goal

pub returns-then-is_decided : goal.returns-then-is_decided
returns-then-is_decided c = ok_map c.refused_met.result _ _ c.refused_met.ensures (λ lefts is. is (c.is_decided.ensures.0 c.if-is_decided.true))

pub returns-else-is_decided : goal.returns-else-is_decided
returns-else-is_decided c =
    ok_map c.refused_early.result _ _ c.refused_early.ensures (λ lefts is. is (λ ruled. true≢false (sym (c.is_decided.ensures.1 ruled) ∙ c.if-is_decided.false)))
