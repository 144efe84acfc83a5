use Rattle.std.proofs.Common.{◌≡◌, ◌<◌, ◌≤◌, ◌*◌, ◌/◌, ◌%◌, ◌-◌, ℕ, List, length, get_or, sym, ap, ◌∙◌, arith}
use Rattle.std.specs.List.{slice_get}
use Rattle.std.proofs.Math.Nat.{div-add-mod}
use Rattle.fam_tree.proofs.ChunkPlaces.{in_chunk, in_last}
use Rattle.fam_plan.specs.Parts.{paths_of}
use Rattle.fam_plan.proofs.order.Order.at.Goals as goal

pub returns-in-Some : goal.returns-in-Some
returns-in-Some c =
    let full = c.self.inside.full.value.items in
    let last = c.self.inside.last in
    let here : c.as_slice-full.result.now ≡ full = c.as_slice-full.ensures.value ∙ ap (λ v. v.items) c.deref.ensures in
    let i = c.args.i in
    let part = c.in-Some.part.now in
    let found = c.in-Some.ensures.lookup in
    let below : i / 512 < length full = rw (← here) found.3.0 in
    let is : part ≡ get_or full (i / 512) part = rw (← here) (found.3.1 part) in
    c.at.ensures
    ∙ ap (λ (l : List (List ℕ)). slice_get l (i % 512)) c.paths.ensures
    ∙ sym (in_chunk 512 last full (i / 512) (i % 512) part c.self.invariant.each below (omega arith) is)
    ∙ ap (slice_get (paths_of full last)) (div-add-mod i 512)
    ∙ ap (λ (l : List (List ℕ)). slice_get l i) c.self.view_is

pub returns-in-None : goal.returns-in-None
returns-in-None c =
    let full = c.self.inside.full.value.items in
    let last = c.self.inside.last in
    let here : c.as_slice-full.result.now ≡ full = c.as_slice-full.ensures.value ∙ ap (λ v. v.items) c.deref.ensures in
    let i = c.args.i in
    let past : length full ≤ i / 512 = rw (← here) c.in-None.ensures.lookup.3 in
    let count : length c.as_slice-full.result.now ≡ length full = ap (λ (l : List (List (List ℕ))). length l) here in
    c.at-in-None.ensures
    ∙ ap (λ (n : ℕ). slice_get last (i - 512 * n)) count
    ∙ sym (in_last 512 last full i c.self.invariant.each (omega (arith, past)))
    ∙ ap (λ (l : List (List ℕ)). slice_get l i) c.self.view_is
