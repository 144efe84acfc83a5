use Rattle.std.proofs.Common.{◌<◌, ◌≤◌, ℕ, List, length, sym, ap, ◌∙◌, arith}
use Rattle.std.specs.List.{slice_get}
use Rattle.fam_plan.proofs.PieceLemmas.{no_piece, path_at, piece_at}
use Rattle.fam_plan.proofs.paths.Paths.at.Goals as goal

pub returns-then-i-ends : goal.returns-then-i-ends
returns-then-i-ends c =
    let own = c.self.inside in
    let past : length own.ends.items ≤ c.args.i = omega (arith, c.if-i-ends.true, ap (λ (l : List ℕ). length l) c.as_slice-ends.ensures.value) in
    sym (no_piece own.bytes.items own.ends.items c.args.i past) ∙ ap (λ (l : List (List ℕ)). slice_get l c.args.i) c.self.view_is

pub path_between-requires : goal.path_between-requires
path_between-requires c =
    let own = c.self.inside in
    let below : c.args.i < length own.ends.items = omega (arith, c.if-i-ends.false, ap (λ (l : List ℕ). length l) c.as_slice-ends.ensures.value) in
    rw (c.as_slice.ensures.value, c.start_of-start.ensures, c.as_slice-ends.ensures.value)
    (path_at own.bytes.items 0 own.ends.items c.args.i below c.self.invariant)

pub returns : goal.returns
returns c =
    let own = c.self.inside in
    let below : c.args.i < length own.ends.items = omega (arith, c.if-i-ends.false, ap (λ (l : List ℕ). length l) c.as_slice-ends.ensures.value) in
    rw (c.path_between.ensures, c.as_slice.ensures.value, c.start_of-start.ensures, c.as_slice-ends.ensures.value)
    (sym (piece_at own.bytes.items 0 own.ends.items c.args.i below) ∙ ap (λ (l : List (List ℕ)). slice_get l c.args.i) c.self.view_is)
