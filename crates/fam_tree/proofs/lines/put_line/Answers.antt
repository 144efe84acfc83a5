use Rattle.std.proofs.Common.{◌≡◌, List, ℕ, subst}
use Rattle.std.specs.Prelude.{OnOk}
use Rattle.fam_tree.proofs.Words.{line_put}
use Rattle.fam_tree.proofs.lines.put_line.Goals as goal

pub returns : goal.returns
returns c = subst (λ (l : List ℕ). OnOk c.put_byte.result (c.put_byte.new.into.items ≡ l))
    (line_put c.args.into.now.items c.put.new.into.items c.escape.new.into.items c.path.result.now c.args.entry.now c.in_ok-put.ensures
    c.path.ensures.same c.in_ok-escape.ensures.added) c.put_byte.ensures
