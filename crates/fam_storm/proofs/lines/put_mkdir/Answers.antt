use Rattle.std.proofs.Common.{◌≡◌, ◌++◌, ℕ, List, sym, subst}
use Rattle.std.specs.Result.{OnOk}
use Rattle.fam_storm.specs.Storm.{line_text, mkdir_words}
use Rattle.fam_storm.proofs.Texts.{one_line}
use Rattle.fam_storm.proofs.lines.put_mkdir.Goals as goal

pub returns : goal.returns
returns c =
    subst (λ (l : List ℕ). OnOk c.put_line.result (c.put_line.new.into.items ≡ c.args.into.now.items ++ l))
    (sym (one_line (mkdir_words c.args.i))) (c.put_line.ensures (line_text (mkdir_words c.args.i)) c.format-made.ensures.ok)
