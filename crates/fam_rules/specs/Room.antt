-- Room for a new file, over numbers and a test of used units.
use Prim.Native.Nat.{zero, suc}
use Rattle.std.specs.Prelude.{ℕ, Bool, true, false, Option, Some, None, is_some, List, [], ◌∷◌, ◌≡◌, ◌+◌, ◌-◌, ◌*◌, ◌/◌, ◌%◌, ◌<◌, ◌≤◌, length, take, map, slice_index, count_by, nat_le, if◌then◌else◌}
use Rattle.std.specs.List.{range_with_len}

-- k units from s on are below the end and none of them is used
pub record Fits (used : ℕ → Bool) (end k s : ℕ) : Type 0 where
  pub within : s + k ≤ end
  pub free : (u : ℕ) → s ≤ u → u < s + k → used u ≡ false

-- the least such start at or above `from`, or none
abbrev pub IsRoom : (ℕ → Bool) → ℕ → ℕ → ℕ → Option ℕ → Type 0
IsRoom used from end k (Some s) =
    (from ≤ s) × Fits used end k s × ((t : ℕ) → from ≤ t → Fits used end k t → s ≤ t)
IsRoom used from end k None = (t : ℕ) → from ≤ t → Fits used end k t → ⊥

-- k units from s on are free
abbrev pub all_free : (ℕ → Bool) → ℕ → ℕ → Bool
all_free used s zero = true
all_free used s (suc k) = if used s then false else all_free used (s + 1) k

-- the first of n starts from s on at which k units are free
abbrev pub room_from : (ℕ → Bool) → ℕ → ℕ → ℕ → Option ℕ
room_from used k s zero = None
room_from used k s (suc n) = if all_free used s k then Some s else room_from used k (s + 1) n

-- the same as a function: the starts s with from ≤ s and s + k ≤ end are tried in turn
unfoldable pub room : (ℕ → Bool) → ℕ → ℕ → ℕ → Option ℕ
room used from end k = room_from used k from (end + 1 - (from + k))

-- the bucket that is tried at a turn, counted from 0
abbrev pub bucket : ℕ → ℕ → ℕ → ℕ
bucket buckets seq turn = (seq + turn) % buckets

-- what that bucket offers: the lowest start of k free units that lie wholly in it
unfoldable pub offer : (ℕ → Bool) → ℕ → ℕ → ℕ → ℕ → ℕ → Option ℕ
offer used width k buckets seq turn =
    let x = bucket buckets seq turn in room used (x * width) ((x + 1) * width) k

-- the offers of the first turns
abbrev pub offers_of : (ℕ → Bool) → ℕ → ℕ → ℕ → ℕ → ℕ → List (Option ℕ)
offers_of used width k buckets seq turns = map (offer used width k buckets seq) (range_with_len 0 turns)

-- the offers of the buckets, each tried once
abbrev pub offers : (ℕ → Bool) → ℕ → ℕ → ℕ → ℕ → List (Option ℕ)
offers used width k buckets seq = offers_of used width k buckets seq buckets

-- the starts among offers, in order
abbrev pub given : List (Option ℕ) → List ℕ
given [] = []
given (Some s ∷ os) = s ∷ given os
given (None ∷ os) = given os

-- the first n starts, or none where there are fewer
abbrev pub first_given : ℕ → List (Option ℕ) → Option (List ℕ)
first_given n os = if nat_le n (length (given os)) then Some (take n (given os)) else None

-- starts of n strips of k units in buckets of units / buckets units each, or none
unfoldable pub strips : (ℕ → Bool) → ℕ → ℕ → ℕ → ℕ → ℕ → Option (List ℕ)
strips used units k n buckets seq = first_given n (offers used (units / buckets) k buckets seq)

-- how many buckets of the first turns have room
abbrev pub buckets_with_room : (ℕ → Bool) → ℕ → ℕ → ℕ → ℕ → ℕ → ℕ
buckets_with_room used width k buckets seq turns = count_by is_some (offers_of used width k buckets seq turns)

-- strip i starts at s: s is the least start in its bucket, and i buckets that were tried before have room
pub record IsStrip (used : ℕ → Bool) (width k buckets seq i s : ℕ) : Type 0 where
  pub turn : ℕ
  pub tried : turn < buckets
  pub least : let x = bucket buckets seq turn in IsRoom used (x * width) ((x + 1) * width) k (Some s)
  pub before : buckets_with_room used width k buckets seq turn ≡ i

-- the n strips, or fewer than n buckets with room
abbrev pub IsStrips : (ℕ → Bool) → ℕ → ℕ → ℕ → ℕ → ℕ → Option (List ℕ) → Type 0
IsStrips used width k n buckets seq (Some starts) =
    (length starts ≡ n) × ((i : ℕ) → i < n → IsStrip used width k buckets seq i (slice_index starts i))
IsStrips used width k n buckets seq None = buckets_with_room used width k buckets seq buckets < n
