use Rattle.std.proofs.Common.{◌++◌, List, [], ◌∷◌, ap, sym, ◌∙◌}
use Rattle.fam_verdict.specs.declared.judged.Judged.{Judged}
use Rattle.fam_verdict.proofs.Onward.{judged_first, not_failed}
use Rattle.fam_verdict.proofs.judged.Judged.new.Goals as goal
use Rattle.fam_judging.specs.declared.candidate.Candidate.{Candidate}

pub returns-clause-judged : goal.returns-clause-judged
returns-clause-judged c start given said state =
    let j : Judged = record { hosts = record { seen = c.new-2.result; commands = c.new-3.result }; candidates = c.push.new.self; marks = c.new-4.result } in
    let first : Candidate = record { settled = c.args.settled; tracks = c.new.result } in
    judged_first start given j first c.new-2.ensures.items c.new-3.ensures.items
    (c.push.ensures.items ∙ not_failed c.push.result _ _ (sym c.is_err.ensures.value ∙ c.if-is_err.false) ∙ ap (λ (l : List Candidate). l ++ first ∷ []) c.new-candidates.ensures.items)
    c.new.ensures.items said state
