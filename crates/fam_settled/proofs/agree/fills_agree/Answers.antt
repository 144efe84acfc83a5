use Rattle.std.proofs.Common.{Some, sym, ap, ◌∙◌}
use Rattle.fam_base.specs.declared.cmd.Content.{Content}
use Rattle.fam_settled.specs.Bytes.{content_told}
use Rattle.fam_settled.proofs.agree.fills_agree.Goals as goal

pub returns-in-Zero : goal.returns-in-Zero
returns-in-Zero c = c.content_agrees.ensures c.args.a.now (ap content_told c.in-Zero.is)

pub returns-in-Seed : goal.returns-in-Seed
returns-in-Seed c = c.content_agrees-in-Seed.ensures c.args.a.now (ap content_told c.in-Seed.is)

pub returns-in-Held : goal.returns-in-Held
returns-in-Held c =
    c.content_agrees-in-Held.ensures c.args.a.now (ap content_told c.in-Held.is ∙ ap (λ (x : Content). Some x) (sym c.content.ensures))
