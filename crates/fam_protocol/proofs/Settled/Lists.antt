-- Lists of entries with their bytes: one more, and prefixes.
use Rattle.std.proofs.Common.{ℕ, zero, suc, refl, [], ◌∷◌, ◌++◌, ◌+◌, ◌≤◌, ◌<◌, ◌≡◌, List, length, take, sym, ◌∙◌, ap, subst, arith}
use Rattle.std.specs.Prelude.{slice_get, Some}
use Rattle.std.proofs.lemmas.List.{take_more, map_push, length-map, length-take, length-take-le, take-take}
use Rattle.std.proofs.lemmas.Option.{get_or_from_slice_get, slice_get_within}
use Rattle.fam_base.specs.declared.entry.Params.{Params}
use Rattle.fam_rules.specs.Asks.{File, entries_of}
use Rattle.fam_protocol.specs.Core.{Belongs, IsHistory}
use Rattle.fam_protocol.proofs.Settled.Settle.{get_prefix}

-- what stands at a place within
pub some_at : (l : List File) (i : ℕ) → i < length l → (f : File) × (slice_get l i ≡ Some f)
some_at [] i lt = absurd (omega arith)
some_at (x ∷ l) zero lt = (x, refl)
some_at (x ∷ l) (suc i) lt = some_at l i (omega arith)

-- a prefix with one more
pub prefix_more : (l : List File) (i : ℕ) (f : File) → slice_get l i ≡ Some f → take (i + 1) l ≡ take i l ++ f ∷ []
prefix_more l i f is =
    take_more l i f (slice_get_within l i f is) ∙ ap (λ (x : File). take i l ++ x ∷ []) (get_or_from_slice_get l i f f is)

-- and its entries
pub entries_more : (l : List File) (i : ℕ) (f : File) → slice_get l i ≡ Some f → entries_of (take (i + 1) l) ≡ entries_of (take i l) ++ f.entry ∷ []
entries_more l i f is = ap entries_of (prefix_more l i f is) ∙ map_push (λ (g : File). g.entry) (take i l) f

-- so many entries are in a prefix
pub entries_count : (n : ℕ) (l : List File) → n ≤ length l → length (entries_of (take n l)) ≡ n
entries_count n l le = length-map (take n l) (λ (g : File). g.entry) ∙ length-take-le n l le

-- a prefix of a history is one
pub history_prefix : (p : Params) (n : ℕ) (all : List File) → IsHistory p all → IsHistory p (take n all)
history_prefix p n all history i f is =
    let below : i < length (take n all) = slice_get_within (take n all) i f is in
    let lt : i < n = omega (arith, length-take n all) in
    let b = history i f (sym (get_prefix i n all lt) ∙ is) in
    subst (λ (before : List File). Belongs p before f) (sym (take-take i n all (omega arith))) b
