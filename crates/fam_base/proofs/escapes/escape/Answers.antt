use Rattle.std.proofs.Common.{ℕ, List, ◌++◌, sym, ap, ◌∙◌, append-nil}
use Rattle.fam_base.proofs.EscapeLemmas.{escaped-nil, escaped_plain}
use Rattle.fam_base.proofs.escapes.escape.Goals as goal

pub returns-in-Ok-clause-added : goal.returns-in-Ok-clause-added
returns-in-Ok-clause-added c =
    c.in-Ok.ensures.items
    ∙ ap (λ (l : List ℕ). c.args.into.now.items ++ l) (sym (escaped_plain c.args.bytes.now (sym c.if-not-are_plain.ensures)))

pub returns-in-Err-clause-err : goal.returns-in-Err-clause-err
returns-in-Err-clause-err c =
    (0, c.in-Err.ensures.items ∙ sym (append-nil c.args.into.now.items) ∙ ap (λ (l : List ℕ). c.args.into.now.items ++ l) (sym escaped-nil))
