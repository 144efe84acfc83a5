use Rattle.std.proofs.Common.{Some, sym, ap, ◌∙◌}
use Rattle.fam_base.specs.declared.cmd.Content.{Content}
use Rattle.fam_settled.specs.Bytes.{content_told}
use Rattle.fam_settled.proofs.agree.content_agrees.Goals as goal

pub returns-in-Zero : goal.returns-in-Zero
returns-in-Zero c first is = c.contents_agree.ensures first c.args.b.now is (ap content_told c.in-Zero.is)

pub returns-in-Seed : goal.returns-in-Seed
returns-in-Seed c first is = c.contents_agree-in-Seed.ensures first c.args.b.now is (ap content_told c.in-Seed.is)

pub returns-in-Held : goal.returns-in-Held
returns-in-Held c first is =
    c.contents_agree-in-Held.ensures first c.args.b.now is (ap content_told c.in-Held.is ∙ ap (λ (x : Content). Some x) (sym c.content.ensures))
