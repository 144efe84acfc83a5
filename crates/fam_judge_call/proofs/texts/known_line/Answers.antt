use Rattle.std.proofs.Common.{◌≡◌, ◌++◌, ℕ, List, codes, subst}
use Rattle.std.specs.Prelude.{IfOk, string_bytes}
use Rattle.fam_outcomes.specs.Texts.{line, number}
use Rattle.fam_judge_call.specs.Texts.{pends_word}
use Rattle.fam_judge_call.proofs.texts.known_line.Goals as goal

pub returns : goal.returns
returns c =
    let known = c.args.known in
    let text : List ℕ → List ℕ → List ℕ =
    λ settled pending. codes "legal" ++ (number known.lines ++ (codes " settled" ++ (settled ++ (codes " pending" ++ (pending ++ (codes " states" ++ number known.states)))))) in
    subst (λ (settled : List ℕ). IfOk c.line_of.result (λ bytes. bytes.items ≡ line (text settled (pends_word known.pending)))) c.in-Ok.ensures
    (subst (λ (pending : List ℕ). IfOk c.line_of.result (λ bytes. bytes.items ≡ line (text (string_bytes c.in-Ok.settled) pending))) c.pends_word-pending.ensures
    (c.line_of.ensures (text (string_bytes c.in-Ok.settled) c.pends_word-pending.result.now) c.format.ensures.ok))
