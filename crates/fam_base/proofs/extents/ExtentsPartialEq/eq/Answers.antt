use Rattle.std.proofs.Common.{rules, ◌≡◌, sym, ◌∙◌}
use Rattle.fam_base.specs.ExtentLists.{extents_eq}
use Rattle.fam_base.proofs.ExtentLemmas.{extents_decides}
use Rattle.fam_base.proofs.extents.ExtentsPartialEq.eq.Goals as goal

pub returns-clause-same : goal.returns-clause-same
returns-clause-same c =
    let value : c.eq.result ≡ extents_eq c.args.self.now c.args.other.now = search rules in
    let decides = extents_decides c.args.self.now c.args.other.now in
    (λ passes. decides.0 (sym value ∙ passes), λ same. value ∙ decides.1 same)
