use Rattle.std.proofs.Common.{◌≡◌, List, ℕ, subst}
use Rattle.std.specs.Prelude.{OnOk}
use Rattle.fam_tree.proofs.Words.{entry_put}
use Rattle.fam_tree.proofs.lines.put_entry.Goals as goal

pub returns : goal.returns
returns c = subst (λ (l : List ℕ). OnOk c.escape.result (c.escape.new.into.items ≡ l))
    (entry_put c.args.into.now.items c.put_first_words.new.into.items c.path.result.now c.args.entry.now c.in_ok-put_first_words.ensures c.path.ensures.same) c.escape.ensures.added
