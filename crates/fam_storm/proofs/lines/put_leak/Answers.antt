use Rattle.std.proofs.Common.{◌≡◌, ◌++◌, ℕ, List, sym, subst}
use Rattle.std.specs.Result.{OnOk}
use Rattle.fam_storm.specs.Storm.{line_text, leak_words}
use Rattle.fam_storm.proofs.Texts.{one_line}
use Rattle.fam_storm.proofs.lines.put_leak.Goals as goal

pub returns : goal.returns
returns c =
    subst (λ (l : List ℕ). OnOk c.put_line.result (c.put_line.new.into.items ≡ c.args.into.now.items ++ l))
    (sym (one_line (leak_words c.args.line c.args.mask))) (c.put_line.ensures (line_text (leak_words c.args.line c.args.mask)) c.format-made.ensures.ok)
