use Rattle.std.proofs.Common.{arith, ◌≡◌, ◌∷◌, [], List, length, ap, sym, ◌∙◌}
use Rattle.std.specs.FinMap as finmap
use Rattle.std.specs.FinMap.{len-entries}
use Rattle.std.specs.Ordering.{is_lt}
use Rattle.std.proofs.lemmas.List.{length-map}
use Rattle.fam_base.specs.declared.entry.Entry.{Entry}
use Rattle.fam_tree.specs.Iter.{tree_iter_rest}
use Rattle.fam_judge.specs.Counting.{count_behind}
use Rattle.fam_settled.proofs.BehindPaths.{behind_of, more_other}
use Rattle.fam_settled.proofs.checks.count_behind.Goals as goal

pub loop-entry-init : goal.loop-entry-init
loop-entry-init c =
    let tree = c.args.tree.now in
    let rest : tree_iter_rest c.into_iter-entry-iterator.result ≡ finmap.values tree = cc (c.into_iter-entry-iterator.ensures.into_iter_gives, c.iter-entry-items.ensures.rest) in
    let many : length (tree_iter_rest c.into_iter-entry-iterator.result) ≡ c.len-most.result =
    ap (λ (l : List Entry). length l) rest ∙ length-map (finmap.entries tree) (λ e. e.1) ∙ sym (len-entries tree) ∙ sym c.len-most.ensures in
    let same : behind_of c.args.path.now (tree_iter_rest c.into_iter-entry-iterator.result) ≡ behind_of c.args.path.now (finmap.values tree) = ap (behind_of c.args.path.now) rest in
    record {
      counted = omega (arith, same);
      few = omega (arith, many);
    }

pub loop-entry-preserved : goal.loop-entry-preserved
loop-entry-preserved c =
    let path = c.args.path.now in
    let e = c.in-Some.entry in
    let es = tree_iter_rest c.next.new.self in
    let given : tree_iter_rest c.loop-entry.entry-iterator ≡ e ∷ es = cc (c.in-Some.ensures.steps) in
    let all : behind_of path (tree_iter_rest c.loop-entry.entry-iterator) ≡ behind_of path (e ∷ es) = ap (behind_of path) given in
    let many : length (tree_iter_rest c.loop-entry.entry-iterator) ≡ length (e ∷ es) = ap (λ (l : List Entry). length l) given in
    let other = more_other path e es (ap is_lt (sym c.cmp.ensures) ∙ sym c.is_lt.ensures ∙ c.if-is_lt.false) in
    record {
      counted = omega (arith, all, other, c.loop-entry.invariant.counted);
      few = omega (arith, many, c.loop-entry.invariant.few);
    }

pub overflow_add-count : goal.overflow_add-count
overflow_add-count c =
    let given : tree_iter_rest c.loop-entry.entry-iterator ≡ c.in-Some.entry ∷ tree_iter_rest c.next.new.self = cc (c.in-Some.ensures.steps) in
    let many : length (tree_iter_rest c.loop-entry.entry-iterator) ≡ length (c.in-Some.entry ∷ tree_iter_rest c.next.new.self) = ap (λ (l : List Entry). length l) given in
    omega (arith, many, c.loop-entry.invariant.few, c.len-most.type_inv)

pub returns : goal.returns
returns c =
    let path = c.args.path.now in
    let done : tree_iter_rest c.loop-entry.entry-iterator ≡ [] = c.in-None.ensures.steps.0 in
    let none : behind_of path (tree_iter_rest c.loop-entry.entry-iterator) ≡ 0 = ap (behind_of path) done in
    let keyed : behind_of path (finmap.values c.args.tree.now) ≡ count_behind path (finmap.keys c.args.tree.now) = ap (count_behind path) c.iter-entry-items.ensures.own in
    omega (arith, none, keyed, c.loop-entry.invariant.counted)
