use Rattle.std.proofs.Common.{List, refl, ap, subst, ◌∙◌}
use Rattle.std.specs.FinMap as map
use Rattle.fam_base.specs.declared.entry.Entry.{Entry}
use Rattle.fam_format.specs.Tree.{replay}
use Rattle.fam_causes.specs.Differing.{FirstDiffer, tree_entries}
use Rattle.fam_causes.proofs.trees.tree_cause.Goals as goal

pub returns-in-Some-first_other : goal.returns-in-Some-first_other
returns-in-Some-first_other c given hosts marks name answers =
    let found = c.in-Some-first_other.found in
    let wanted = c.in-Some-first_other.wanted in
    let tree = c.tree.ensures ∙ ap replay c.in_ok-plan.ensures.entries in
    record {
      host = c.args.at;
      m = c.args.m;
      entries = c.args.entries.now;
      line_is = refl;
      log = c.in-Some.log.now;
      first = c.in-Some.ensures;
      differ =
          subst (λ (l : List Entry). FirstDiffer l (tree_entries c.in-Some.log.now c.args.m) found wanted) c.as_slice.ensures.value
          (subst (λ (l : List Entry). FirstDiffer c.as_slice.result.now l found wanted) (ap map.values tree) c.in-Some-first_other.ensures);
    }
