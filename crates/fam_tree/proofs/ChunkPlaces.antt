-- What stands at a place, in one of many chunks or behind them.
use Rattle.std.proofs.Common.{◌≡◌, ℕ, zero, suc, ◌+◌, ◌-◌, ◌*◌, ◌<◌, ◌≤◌, List, [], ◌∷◌, ◌++◌, length, get_or, refl, sym, ap, inl, inr, ◌∙◌, arith, length-append}
use Rattle.std.specs.Prelude.{slice_get}
use Rattle.std.proofs.lemmas.Option.{get_or_from_slice_get, slice_get-get_or, slice_get_cases, slice_get_within}
use Rattle.std.specs.List.{AllByRecursion, flat_map}
use Rattle.std.proofs.lemmas.List.{append_assoc}

-- ---- lists that have the same at two places

module _ {X : Type 0} (xs ys : List X) (i j : ℕ) where
  pub within_too : slice_get xs i ≡ slice_get ys j → j < length ys → i < length xs
  within_too same below =
      elim (slice_get_cases ys j).1 [
        | inl w ↦ slice_get_within xs i w.0 (same ∙ w.2)
        | inr past ↦ absurd (omega (arith, past.0, below))
      ]

  pub same_place : (d : X) → slice_get xs i ≡ slice_get ys j → j < length ys → get_or xs i d ≡ get_or ys j d
  same_place d same below =
      get_or_from_slice_get xs i (get_or ys j d) d (same ∙ slice_get-get_or ys j d below)

-- ---- chunks

module _ {X : Type 0} where
  pub front : (a b : List X) (i : ℕ) → i < length a → slice_get (a ++ b) i ≡ slice_get a i
  front [] b i within = absurd (omega arith)
  front (x ∷ a) b zero within = refl
  front (x ∷ a) b (suc i) within = front a b i (omega arith)

  pub behind : (a b : List X) (n i : ℕ) → length a ≡ n → slice_get (a ++ b) (n + i) ≡ slice_get b i
  behind [] b n i is = ap (slice_get b) (omega (arith, is))
  behind (x ∷ a) b zero i is = absurd (omega (arith, is))
  behind (x ∷ a) b (suc n) i is =
      let step : suc n + i ≡ suc (n + i) = omega arith in
      ap (slice_get (x ∷ (a ++ b))) step ∙ behind a b n i (omega (arith, is))

  -- all chunks, one behind another
  abbrev pub joined_chunks : List (List X) → List X
  joined_chunks full = flat_map (λ c. c) full

  -- so many entries have full ones
  pub full_length : (size : ℕ) (full : List (List X)) → AllByRecursion (λ c. length c ≡ size) full → length (joined_chunks full) ≡ size * length full
  full_length size [] each = omega arith
  full_length size (x ∷ full) each =
      let parts = length-append x (joined_chunks full) in
      let rest = full_length size full each.1 in
      omega (arith, parts, rest, each.0)

  module _ (size : ℕ) (last : List X) where
    -- that of a chunk
    pub in_chunk : (full : List (List X)) (n r : ℕ) (chunk : List X) → AllByRecursion (λ c. length c ≡ size) full → n < length full → r < size
        → chunk ≡ get_or full n chunk → slice_get (joined_chunks full ++ last) (size * n + r) ≡ slice_get chunk r
    in_chunk [] n r chunk each within below is = absurd (omega arith)
    in_chunk (x ∷ full) zero r chunk each within below is =
        let there : slice_get (x ++ (joined_chunks full ++ last)) r ≡ slice_get x r = front x (joined_chunks full ++ last) r (omega (arith, each.0)) in
        ap (λ (l : List X). slice_get l (size * 0 + r)) (append_assoc x (joined_chunks full) last)
        ∙ ap (slice_get (x ++ (joined_chunks full ++ last))) (omega arith) ∙ there ∙ ap (λ (l : List X). slice_get l r) (sym is)
    in_chunk (x ∷ full) (suc n) r chunk each within below is =
        ap (λ (l : List X). slice_get l (size * suc n + r)) (append_assoc x (joined_chunks full) last)
        ∙ ap (slice_get (x ++ (joined_chunks full ++ last))) (omega arith)
        ∙ behind x (joined_chunks full ++ last) size (size * n + r) each.0
        ∙ in_chunk full n r chunk each.1 (omega arith) below is

    -- one of the last
    pub in_last : (full : List (List X)) (i : ℕ) → AllByRecursion (λ c. length c ≡ size) full → size * length full ≤ i
        → slice_get (joined_chunks full ++ last) i ≡ slice_get last (i - size * length full)
    in_last [] i each past = ap (slice_get last) (omega arith)
    in_last (x ∷ full) i each past =
        let more : size * length full ≤ i - size = omega (arith, past) in
        ap (λ (l : List X). slice_get l i) (append_assoc x (joined_chunks full) last)
        ∙ ap (slice_get (x ++ (joined_chunks full ++ last))) (omega (arith, past))
        ∙ behind x (joined_chunks full ++ last) size (i - size) each.0
        ∙ in_last full (i - size) each.1 more
        ∙ ap (slice_get last) (omega arith)
