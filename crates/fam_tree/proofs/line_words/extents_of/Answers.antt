use Rattle.std.proofs.Common.{◌≡◌, ◌<◌, ◌++◌, ◌∷◌, [], ℕ, List, Some, length, ap, sym, subst, ◌∙◌, arith, rules}
use Rattle.std.proofs.lemmas.List.Elements.{All-push}
use Rattle.fam_base.specs.declared.extents.Extent.{Extent}
use Rattle.fam_tree.specs.Lines.{comma}
use Rattle.fam_tree.specs.Listings.{AreWordExtents, IsWordExtent}
use Rattle.fam_tree.proofs.Cutting.{back_shorter}
use Rattle.fam_tree.proofs.WordsRead.{next, none_some, so_far_more, some_same, whole}
use Rattle.fam_tree.proofs.line_words.extents_of.Goals as goal

pub returns-in_err-extent-clause-read : goal.returns-in_err-extent-clause-read
returns-in_err-extent-clause-read c = λ xs few fits same some.
    let left : 0 < length c.loop-rest.rest.now = search rules in
    let n = next xs c.loop-rest.extents c.loop-rest.rest.now (c.loop-rest.invariant.read xs fits same) left in
    let read = c.in_err-extent.ensures.read n.x n.fits (c.cut.ensures.front ∙ n.first) in
    absurd (none_some _ read)

pub loop-rest-smaller : goal.loop-rest-smaller
loop-rest-smaller c =
    let left : 0 < length c.loop-rest.rest.now = search rules in
    subst (λ (l : List ℕ). length l < length c.loop-rest.rest.now) (sym c.cut.ensures.back) (back_shorter comma c.loop-rest.rest.now left)

pub loop-rest-preserved : goal.loop-rest-preserved
loop-rest-preserved c =
    let left : 0 < length c.loop-rest.rest.now = search rules in
    let added : c.push.new.self ≡ c.loop-rest.extents ++ c.in_ok-extent.extent ∷ [] = c.if-not-push.ensures.added in
    record {
      read = λ xs fits same.
          let n = next xs c.loop-rest.extents c.loop-rest.rest.now (c.loop-rest.invariant.read xs fits same) left in
          let read = c.in_ok-extent.ensures.read n.x n.fits (c.cut.ensures.front ∙ n.first) in
          let is : c.in_ok-extent.extent ≡ n.x = some_same _ _ read in
          so_far_more xs c.loop-rest.extents c.push.new.self c.loop-rest.rest.now c.cut.result.1.now c.in_ok-extent.extent n is added c.cut.ensures.back;
      fits = subst (λ (l : List Extent). AreWordExtents l) (sym added)
          (All-push (λ (x : Extent). IsWordExtent x) c.loop-rest.extents c.in_ok-extent.extent c.loop-rest.invariant.fits
          c.in_ok-extent.ensures.fits);
    }

pub returns-then-len-eq0-clause-read : goal.returns-then-len-eq0-clause-read
returns-then-len-eq0-clause-read c = λ xs few fits same some.
    let none : length c.loop-rest.rest.now ≡ 0 = search rules in
    let all : xs ≡ c.loop-rest.extents = whole xs c.loop-rest.extents c.loop-rest.rest.now (c.loop-rest.invariant.read xs fits same) none in
    absurd (omega (arith, some, ap length all, c.len.ensures.count, c.if-len-eq0.true))

pub returns-clause-read : goal.returns-clause-read
returns-clause-read c = λ xs few fits same some.
    let none : length c.loop-rest.rest.now ≡ 0 = search rules in
    let all : xs ≡ c.loop-rest.extents = whole xs c.loop-rest.extents c.loop-rest.rest.now (c.loop-rest.invariant.read xs fits same) none in
    ap (λ (l : List Extent). Some l) (sym all)
