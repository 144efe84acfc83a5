use Rattle.std.proofs.Common.{ℕ, ap, sym, ◌∙◌}
use Rattle.std.specs.BTreeMap.{BTreeMap}
use Rattle.fam_alloc.proofs.CutLemmas.{length_absent}
use Rattle.fam_alloc.proofs.cut.set_length.Goals as goal

pub returns-in_default : goal.returns-in_default
returns-in_default c =
    ap (λ (m : BTreeMap ℕ ℕ). m.entries) c.get_mut.follows.holds-at-none
    ∙ sym (length_absent c.args.runs.now.entries c.args.start c.args.length (sym c.in_default.ensures.value))
