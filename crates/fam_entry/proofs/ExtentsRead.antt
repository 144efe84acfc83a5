-- The extents that were read so far.
use Rattle.std.proofs.Common.{◌≡◌, ℕ, ◌+◌, ◌<◌, ◌≤◌, Bool, true, IsTrue, List, [], ◌∷◌, ◌++◌, length, map, arith, subst, ap, sym, ◌∙◌}
use Rattle.std.specs.List.{range_with_len}
use Rattle.std.specs.Bool.{OnTrue}
use Rattle.std.proofs.lemmas.List.FromFn.{map-range_with_len_more, length-map-range_with_len}
use Rattle.fam_base.specs.declared.extents.Extent.{Extent}
use Rattle.fam_format.specs.Slot.{extent_of, extents_of}

-- the whole count of them
pub all_extents : (words : List ℕ) (count i : ℕ) (extents : List Extent) → i ≡ count → extents ≡ map (extent_of words) (range_with_len 0 i) → extents ≡ extents_of words count
unfolding extents_of
all_extents words count i extents e is = is ∙ ap (λ (n : ℕ). map (extent_of words) (range_with_len 0 n)) e

on_true : (b : Bool) (P : Type 0) → b ≡ true → OnTrue b P → P
on_true b P e h = subst (λ (x : Bool). OnTrue x P) e h

-- one more behind them, since there is room
pub push_more : (words : List ℕ) (i : ℕ) (old new : List Extent) (pushed : Bool) → i < 16 → old ≡ map (extent_of words) (range_with_len 0 i) →
    (length old < 16 → IsTrue pushed) → OnTrue pushed (new ≡ old ++ extent_of words i ∷ []) → new ≡ map (extent_of words) (range_with_len 0 (i + 1))
push_more words i old new pushed below is room added =
    let few : length old < 16 = omega (arith, ap length is, length-map-range_with_len (extent_of words) 0 i) in
    on_true pushed _ (room few) added ∙ ap (λ (l : List Extent). l ++ extent_of words i ∷ []) is ∙ sym (map-range_with_len_more (extent_of words) 0 i i (omega arith))

-- no more than they are counted
pub few_extents : (words : List ℕ) (count : ℕ) (extents : List Extent) → extents ≡ extents_of words count → count ≤ 16 → length extents ≤ 16
unfolding extents_of
few_extents words count extents is few =
    let same : extents ≡ map (extent_of words) (range_with_len 0 count) = is in
    omega (arith, ap length same, length-map-range_with_len (extent_of words) 0 count, few)
