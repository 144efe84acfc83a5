use Rattle.std.proofs.Common.{Bor, ◌<◌, List, length, ℕ, Option, option_map, Some, refl, sym, ap, subst, ◌∙◌, arith}
use Rattle.fam_history.proofs.ExtentSpellings.{ReadSoFar, all_read, bad_read, full_read, none_read, one_read}
use Rattle.fam_base.specs.ExtentLists.{extent_limit}
use Rattle.fam_base.specs.declared.extents.Extent.{Extent}
use Rattle.fam_history.proofs.entries.extents_of.Goals as goal

pub loop-left-init : goal.loop-left-init
loop-left-init c = subst (λ (l : List Extent). ReadSoFar c.args.word.now l (Some c.args.word.now)) (sym c.new-extents.ensures) (none_read c.args.word.now)

pub loop-left-preserved : goal.loop-left-preserved
loop-left-preserved c =
    let now = λ (o : Option (Bor (List ℕ))). option_map (λ text. text.now) o in
    one_read c.args.word.now c.in-Some.text.now c.loop-left.extents c.push.new.self (c.in-Some-first_extent.extent, now c.in-Some-first_extent.rest)
    (subst (λ (o : Option (Bor (List ℕ))). ReadSoFar c.args.word.now c.loop-left.extents (now o)) c.in-Some.is c.loop-left.invariant)
    (sym c.first_extent.ensures ∙ ap (option_map (λ (p : Extent × Option (Bor (List ℕ))). (p.0, now p.1))) c.in-Some-first_extent.is)
    (c.if-not-push.ensures.room.0 refl) c.if-not-push.ensures.added

pub returns-then-not-push : goal.returns-then-not-push
returns-then-not-push c =
    let now = λ (o : Option (Bor (List ℕ))). option_map (λ text. text.now) o in
    let full : length c.loop-left.extents < extent_limit → ⊥ = λ less. cc (c.if-not-push.ensures.room.1 less) in
    sym (full_read c.args.word.now c.in-Some.text.now c.loop-left.extents
    (subst (λ (o : Option (Bor (List ℕ))). ReadSoFar c.args.word.now c.loop-left.extents (now o)) c.in-Some.is c.loop-left.invariant)
    (omega (arith, full)))

pub returns-in_default-first_extent : goal.returns-in_default-first_extent
returns-in_default-first_extent c =
    let now = λ (o : Option (Bor (List ℕ))). option_map (λ text. text.now) o in
    sym (bad_read c.args.word.now c.in-Some.text.now c.loop-left.extents
    (subst (λ (o : Option (Bor (List ℕ))). ReadSoFar c.args.word.now c.loop-left.extents (now o)) c.in-Some.is c.loop-left.invariant)
    (sym c.in_default-first_extent.ensures))

pub returns : goal.returns
returns c =
    let now = λ (o : Option (Bor (List ℕ))). option_map (λ text. text.now) o in
    sym (all_read c.args.word.now c.loop-left.extents
    (subst (λ (o : Option (Bor (List ℕ))). ReadSoFar c.args.word.now c.loop-left.extents (now o)) c.in_default.is c.loop-left.invariant))
