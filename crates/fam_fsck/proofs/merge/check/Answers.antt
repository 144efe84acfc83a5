use Rattle.std.proofs.Common.{rules, arith, ◌≡◌, ◌∷◌, [], List, length, ap, sym, subst, ◌∙◌}
use Rattle.std.specs.FinMap as finmap
use Rattle.std.specs.FinMap.{len-entries}
use Rattle.std.proofs.lemmas.List.{length-map}
use Rattle.fam_base.specs.declared.entry.Entry.{Entry}
use Rattle.fam_tree.specs.Iter.{tree_iter_rest}
use Rattle.fam_fsck.specs.Merge.{compared_lists, no_difference}
use Rattle.fam_fsck.proofs.Merged.{compared_is}
use Rattle.fam_fsck.proofs.MergeRoom.{HasRoom, one_compared, one_room, passed_left, passed_room}
use Rattle.fam_fsck.proofs.merge.check.Goals as goal

pub loop-entry-init : goal.loop-entry-init
loop-entry-init c =
    let tree = c.args.tree.now in
    let rest : tree_iter_rest c.into_iter-entry-iterator.result ≡ finmap.values tree = cc (c.into_iter-entry-iterator.ensures.into_iter_gives, c.iter-entry-items.ensures.rest) in
    let many : length (tree_iter_rest c.into_iter-entry-iterator.result) ≡ c.len-most.result =
    ap (λ (l : List Entry). length l) rest ∙ length-map (finmap.entries tree) (λ e. e.1) ∙ sym (len-entries tree) ∙ sym c.len-most.ensures in
    record {
      told = ap (λ (l : List Entry). compared_lists no_difference l c.args.listing.now) rest;
      room = record { missing = omega (arith, many, c.len-most.type_inv); extra = search rules; changed = search rules };
    }

pub meet-rest-requires-clause-missing : goal.meet-rest-requires-clause-missing
meet-rest-requires-clause-missing c =
    let given : tree_iter_rest c.loop-entry.entry-iterator ≡ c.in-Some.entry ∷ tree_iter_rest c.next.new.self = cc (c.in-Some.ensures.steps) in
    let room = subst (λ (ts : List Entry). HasRoom c.loop-entry.checked ts c.loop-entry.rest.now) given c.loop-entry.invariant.room in
    passed_room c.loop-entry.checked c.pass-rest.new.checked c.pass-rest.new.checked c.in-Some.entry
    (tree_iter_rest c.next.new.self) c.loop-entry.rest.now c.pass-rest.result.now [] c.pass-rest.ensures.counted c.pass-rest.ensures.rest room

pub meet-rest-requires-clause-changed : goal.meet-rest-requires-clause-changed
meet-rest-requires-clause-changed c =
    let given : tree_iter_rest c.loop-entry.entry-iterator ≡ c.in-Some.entry ∷ tree_iter_rest c.next.new.self = cc (c.in-Some.ensures.steps) in
    let room = subst (λ (ts : List Entry). HasRoom c.loop-entry.checked ts c.loop-entry.rest.now) given c.loop-entry.invariant.room in
    passed_left c.loop-entry.checked c.pass-rest.new.checked c.pass-rest.new.checked c.in-Some.entry
    (tree_iter_rest c.next.new.self) c.loop-entry.rest.now c.pass-rest.result.now [] c.pass-rest.ensures.counted c.pass-rest.ensures.rest room

pub loop-entry-preserved : goal.loop-entry-preserved
loop-entry-preserved c =
    let t = c.in-Some.entry in
    let ts = tree_iter_rest c.next.new.self in
    let given : tree_iter_rest c.loop-entry.entry-iterator ≡ t ∷ ts = cc (c.in-Some.ensures.steps) in
    let room = subst (λ (l : List Entry). HasRoom c.loop-entry.checked l c.loop-entry.rest.now) given c.loop-entry.invariant.room in
    record {
      told = one_compared c.loop-entry.checked c.pass-rest.new.checked c.meet-rest.new.checked t ts c.loop-entry.rest.now c.pass-rest.result.now
          c.meet-rest.result.now c.pass-rest.ensures.counted c.pass-rest.ensures.rest c.meet-rest.ensures.counted c.meet-rest.ensures.rest
          ∙ ap (λ (l : List Entry). compared_lists c.loop-entry.checked l c.loop-entry.rest.now) (sym given) ∙ c.loop-entry.invariant.told;
      room = one_room c.loop-entry.checked c.pass-rest.new.checked c.meet-rest.new.checked t ts c.loop-entry.rest.now c.pass-rest.result.now
          c.meet-rest.result.now c.pass-rest.ensures.counted c.pass-rest.ensures.rest c.meet-rest.ensures.counted c.meet-rest.ensures.rest room;
    }

pub returns : goal.returns
returns c =
    let done : tree_iter_rest c.loop-entry.entry-iterator ≡ [] = c.in-None.ensures.steps.0 in
    c.pass_all.ensures
    ∙ ap (λ (l : List Entry). compared_lists c.loop-entry.checked l c.loop-entry.rest.now) (sym done) ∙ c.loop-entry.invariant.told
    ∙ compared_is c.args.tree.now c.args.listing.now c.iter-entry-items.ensures.own c.iter-entry-items.ensures.order c.requires
