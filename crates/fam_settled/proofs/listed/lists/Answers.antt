use Rattle.std.proofs.Common.{◌≡◌, List, [], ◌∷◌, sym, ap, ◌∙◌}
use Rattle.std.specs.FinMap as finmap
use Rattle.fam_base.specs.declared.entry.Entry.{Entry}
use Rattle.fam_tree.specs.Iter.{tree_iter_rest}
use Rattle.fam_settled.proofs.Choices.{refuted}
use Rattle.fam_settled.proofs.listed.lists.Goals as goal

-- all but the first
behind_first : List Entry → List Entry
behind_first [] = []
behind_first (e ∷ entries) = entries

pub loop-entry-init : goal.loop-entry-init
loop-entry-init c =
    let rest : tree_iter_rest c.into_iter-entry-iterator.result ≡ finmap.values c.args.tree.now = cc (c.into_iter-entry-iterator.ensures.into_iter_gives, c.iter-entry-items.ensures.rest) in
    (λ is. rest ∙ is, λ is. sym rest ∙ is)

pub loop-entry-preserved : goal.loop-entry-preserved
unfolding behind_first
loop-entry-preserved c =
    let e = c.in-Some.entry in
    let given : tree_iter_rest c.loop-entry.entry-iterator ≡ e ∷ tree_iter_rest c.next.new.self = cc (c.in-Some.ensures.steps) in
    let more : c.loop-entry.rest.now ≡ e ∷ c.in-Some-behind.more.now = c.in-Some-behind.ensures in
    (λ is. ap behind_first (sym given ∙ c.loop-entry.invariant.0 is ∙ more), λ is. c.loop-entry.invariant.1 (given ∙ ap (λ (l : List Entry). e ∷ l) is ∙ sym more))

pub returns-in-None-behind : goal.returns-in-None-behind
returns-in-None-behind c =
    let e = c.in-Some.entry in
    let given : tree_iter_rest c.loop-entry.entry-iterator ≡ e ∷ tree_iter_rest c.next.new.self = cc (c.in-Some.ensures.steps) in
    refuted (λ is. c.in-None-behind.ensures (tree_iter_rest c.next.new.self) (sym (c.loop-entry.invariant.0 is) ∙ given))
