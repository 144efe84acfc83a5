use Rattle.std.proofs.Common.{◌≡◌, ◌∷◌, [], List, length, sym, ap, subst, ◌∙◌, append_assoc, append-nil, arith}
use Rattle.std.specs.Vec.Iter.{into_iter_items}
use Rattle.fam_judging.specs.declared.candidate.Candidate.{Candidate}
use Rattle.fam_judging.specs.After.{possible_in}
use Rattle.fam_judging.specs.Below.{AddsAll}
use Rattle.fam_judging.proofs.Adding.{all_next, nothing_left}
use Rattle.fam_judging.proofs.below.put_all_below.Goals as goal

pub news-preserved : goal.news-preserved
news-preserved c =
    let at = c.news in
    let x = c.in-Some.candidate in
    let steps : into_iter_items at.candidate-iterator ≡ x ∷ into_iter_items c.next.new.self = c.in-Some.ensures.steps.0 in (
      append_assoc at.yielded (x ∷ []) _ ∙ rw (← steps) at.invariant.0,
      λ start cmds. all_next (possible_in start c.args.seen.now.items cmds) at.yielded x c.args.out.now.items at.out.items c.put_below.new.out.items
          (at.invariant.1 start cmds) (c.in_ok-put_below.ensures start cmds),
      let was = at.invariant.2 in
          let gone = c.in-Some.ensures.steps.1 in
          let short = ap length steps in
          omega arith,
    )

pub returns : goal.returns
returns c start cmds =
    let at = c.news in
    let none = c.in-None.ensures.steps in
    let empty : into_iter_items at.candidate-iterator ≡ [] = nothing_left _ (sym at.invariant.2 ∙ none.0) in
    let all = sym (append-nil at.yielded) ∙ rw empty at at.invariant.0 ∙ c.into_iter-candidate-iterator.ensures.into_iter_gives.0 in
    subst (λ (l : List Candidate). AddsAll (possible_in start c.args.seen.now.items cmds) l c.args.out.now.items at.out.items) all (at.invariant.1 start cmds)
