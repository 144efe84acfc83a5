use Rattle.std.proofs.Common.{◌≡◌, List, [], ◌∷◌, ◌++◌, refl, sym, ap, ◌∙◌}
use Rattle.std.specs.FinMap as finmap
use Rattle.fam_base.specs.declared.entry.Entry.{Entry}
use Rattle.fam_tree.specs.Iter.{tree_iter_rest}
use Rattle.fam_causes.proofs.Heads.{no_head, same_more}
use Rattle.fam_causes.proofs.trees.first_other.Goals as goal

pub loop-entry-init : goal.loop-entry-init
loop-entry-init c =
    let rest : tree_iter_rest c.into_iter-entry-iterator.result ≡ finmap.values c.args.tree.now = cc (c.into_iter-entry-iterator.ensures.into_iter_gives, c.iter-entry-items.ensures.rest) in
    record { same = []; listed_is = refl; all_is = sym rest }

pub loop-entry-preserved : goal.loop-entry-preserved
loop-entry-preserved c =
    let e = c.in-Some.entry in
    let same = c.loop-entry.invariant.same in
    let given : tree_iter_rest c.loop-entry.entry-iterator ≡ e ∷ tree_iter_rest c.next.new.self = cc (c.in-Some.ensures.steps) in
    record {
      same = same ++ e ∷ [];
      listed_is = same_more same e c.args.listed.now c.loop-entry.rest.now c.in-Some-behind.more.now c.loop-entry.invariant.listed_is c.in-Some-behind.ensures;
      all_is = same_more same e (finmap.values c.args.tree.now) (tree_iter_rest c.loop-entry.entry-iterator) (tree_iter_rest c.next.new.self) c.loop-entry.invariant.all_is given;
    }

pub returns-in-None-behind : goal.returns-in-None-behind
returns-in-None-behind c =
    let e = c.in-Some.entry in
    let given : tree_iter_rest c.loop-entry.entry-iterator ≡ e ∷ tree_iter_rest c.next.new.self = cc (c.in-Some.ensures.steps) in
    record {
      same = c.loop-entry.invariant.same;
      listed_rest = c.loop-entry.rest.now;
      all_rest = e ∷ tree_iter_rest c.next.new.self;
      listed_is = c.loop-entry.invariant.listed_is;
      all_is = c.loop-entry.invariant.all_is ∙ ap (λ (l : List Entry). c.loop-entry.invariant.same ++ l) given;
      found_is = sym c.first_of.ensures;
      wanted_is = refl;
      differ = λ same. no_head c.loop-entry.rest.now e c.in-None-behind.ensures (sym c.first_of.ensures ∙ same);
    }
