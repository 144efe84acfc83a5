-- The units of extents of one length that begin at given units.
use Rattle.std.proofs.Common.{◌≡◌, ℕ, suc, ◌+◌, ◌*◌, ◌/◌, ◌<◌, ◌≤◌, ◌⊎◌, Bool, false, List, [], ◌∷◌, ◌++◌, length, map, get_or, refl, ap, ap₂, inl, inr, arith, Some}
use Rattle.std.specs.List.{range_with_len, flat_map, All, Contains}
use Rattle.std.proofs.Math.Nat.{mul-div_left, mul-le-mul_right}
use Rattle.std.proofs.lemmas.Bool.{cases_order}
use Rattle.std.proofs.lemmas.Grind.{common_steps}
use Rattle.std.proofs.lemmas.List.Elements.{All-nil, All-cons, All-tail, All-get_or, All-from_get_or, Contains-append_cases, Contains-get_or}
use Rattle.std.proofs.lemmas.List.FromFn.{length-range_with_len, get_or-range_with_len}
use Rattle.fam_format.specs.Units.{units_in}
use Rattle.fam_format.specs.ReadingLaws.{AreFree}
use Rattle.fam_rules.specs.Decide.{extent_from}
use Rattle.fam_rules.specs.Place.{IsOnce}
use Rattle.fam_rules.specs.Room.{Fits, IsRoom, IsStrip, IsStrips, bucket, buckets_with_room}
use Rattle.fam_rules.proofs.ListPlaces.{once_append}
use Rattle.fam_rules.proofs.RoomSame.{bucket_ends, buckets_within}

-- k units from each of these starts on
abbrev pub spans : ℕ → List ℕ → List ℕ
spans k starts = flat_map (λ s. range_with_len s k) starts

-- they are the units of the extents that begin there
pub units_of_starts : (unit k : ℕ) (starts : List ℕ) → 0 < unit → units_in unit (map (extent_from unit k) starts) ≡ spans k starts
units_of_starts unit k [] some = refl
units_of_starts unit k (s ∷ more) some =
    ap₂ (λ (us vs : List ℕ). us ++ vs) (ap₂ (λ (a n : ℕ). range_with_len a n) (mul-div_left s some) (mul-div_left k some)) (units_of_starts unit k more some)

-- a unit of a run
in_run : (s k u : ℕ) → Contains (range_with_len s k) u → (s ≤ u) × (u < s + k)
in_run s k u (i, below, is) =
    let short : i < k = omega (arith, length-range_with_len s k) in
    (omega (arith, is, get_or-range_with_len s k i u short), omega (arith, is, get_or-range_with_len s k i u short))

-- the run that has a unit
record InSpan (k : ℕ) (starts : List ℕ) (u : ℕ) : Type 0 where
  at : ℕ
  below : at < length starts
  from : get_or starts at 0 ≤ u
  to : u < get_or starts at 0 + k

-- each of the units is in a run
in_span : (k : ℕ) (starts : List ℕ) (u : ℕ) → Contains (spans k starts) u → InSpan k starts u
in_span k [] u (i, below, is) = absurd (omega arith)
in_span k (s ∷ more) u h =
    elim (Contains-append_cases (range_with_len s k) (spans k more) u h) [
      | inl first ↦ let within = in_run s k u first in record { at = 0; below = omega arith; from = within.0; to = within.1 }
      | inr later ↦ let run = in_span k more u later in record { at = suc run.at; below = omega (arith, run.below); from = run.from; to = run.to }
    ]

-- two runs of k units have no unit in common
abbrev pub AreClear : ℕ → ℕ → ℕ → Type 0
AreClear k s t = (s + k ≤ t) ⊎ (t + k ≤ s)

-- free runs before an end, of which no two have a unit in common
pub record AreRuns (used : ℕ → Bool) (end k : ℕ) (starts : List ℕ) : Type 0 where
  pub fits : All (Fits used end k) starts
  pub clear : (i j : ℕ) → i < j → j < length starts → AreClear k (get_or starts i 0) (get_or starts j 0)

-- in one run no unit stands twice
once_run : (s k : ℕ) → IsOnce (range_with_len s k)
once_run s k i j less below same =
    let short : j < k = omega (arith, length-range_with_len s k) in
    omega (arith, same, get_or-range_with_len s k i 0 (omega arith), get_or-range_with_len s k j 0 short)

-- nor in runs that are clear of each other
once_spans : (used : ℕ → Bool) (end k : ℕ) (starts : List ℕ) → AreRuns used end k starts → IsOnce (spans k starts)
once_spans used end k [] runs = λ i j less below same. absurd (omega arith)
once_spans used end k (s ∷ more) runs =
    let rest : AreRuns used end k more = record {
      fits = All-tail (Fits used end k) s more runs.fits;
      clear = λ i j less below. runs.clear (suc i) (suc j) (omega arith) (omega arith);
    } in
    once_append (range_with_len s k) (spans k more) (once_run s k) (once_spans used end k more rest)
    (λ m below among.
    let run = in_span k more (get_or (spans k more) m 0) (Contains-get_or (spans k more) m 0 below) in
    let within = in_run s k (get_or (spans k more) m 0) among in
    elim (runs.clear 0 (suc run.at) (omega arith) (omega (arith, run.below))) [
      | inl before ↦ omega (arith, run.from, within.1)
      | inr after ↦ omega (arith, run.to, within.0)
    ])

-- the units of such runs are free, and stand once
pub runs_free : (used : ℕ → Bool) (end k : ℕ) (starts : List ℕ) → AreRuns used end k starts → AreFree used (spans k starts)
runs_free used end k starts runs = record {
  free = λ m below.
      let u : ℕ = get_or (spans k starts) m 0 in
      let run = in_span k starts u (Contains-get_or (spans k starts) m 0 below) in
      let fits : Fits used end k (get_or starts run.at 0) = All-get_or (Fits used end k) starts run.at 0 run.below runs.fits in
      fits.free u run.from run.to;
  once = once_spans used end k starts runs;
}

-- room is one such run
pub runs_of_room : (used : ℕ → Bool) (from end k s : ℕ) → IsRoom used from end k (Some s) → AreRuns used end k (s ∷ [])
runs_of_room used from end k s is = record {
  fits = All-cons (Fits used end k) s [] is.1 (All-nil (Fits used end k));
  clear = λ i j less below. absurd (omega arith);
}

-- Strips.

-- two turns have two buckets
bucket_once : (buckets seq s t : ℕ) → s < buckets → t < buckets → bucket buckets seq s ≡ bucket buckets seq t → s ≡ t
bucket_once buckets seq s t a b same = grind (arith, common_steps)

-- runs within two buckets are clear
clear_buckets : (width k x y s t : ℕ) → (x ≡ y → ⊥) → x * width ≤ s → s + k ≤ (x + 1) * width → y * width ≤ t → t + k ≤ (y + 1) * width → AreClear k s t
clear_buckets width k x y s t other s_from s_to t_from t_to =
    elim (cases_order x y) [
      | inl same ↦ absurd (other same)
      | inr unequal ↦ elim unequal [
        | inl less ↦ inl (omega (arith, mul-le-mul_right width (let next : x + 1 ≤ y = omega arith in next)))
        | inr more ↦ inr (omega (arith, mul-le-mul_right width (let next : y + 1 ≤ x = omega arith in next)))
      ]
    ]

-- a strip lies in its bucket
record InBucket (used : ℕ → Bool) (width k x s : ℕ) : Type 0 where
  from : x * width ≤ s
  to : s + k ≤ (x + 1) * width
  free : (u : ℕ) → s ≤ u → u < s + k → used u ≡ false

-- so it does
in_bucket : (used : ℕ → Bool) (width k buckets seq i s : ℕ) → (is : IsStrip used width k buckets seq i s) → InBucket used width k (bucket buckets seq is.turn) s
in_bucket used width k buckets seq i s is = record { from = is.least.0; to = is.least.1.within; free = is.least.1.free }

-- two strips are clear
clear_strips : (used : ℕ → Bool) (width k buckets seq i j s t : ℕ) → i < j → IsStrip used width k buckets seq i s → IsStrip used width k buckets seq j t → AreClear k s t
clear_strips used width k buckets seq i j s t less first second =
    let one = in_bucket used width k buckets seq i s first in
    let two = in_bucket used width k buckets seq j t second in
    clear_buckets width k (bucket buckets seq first.turn) (bucket buckets seq second.turn) s t
    (λ same.
    let turns : first.turn ≡ second.turn = bucket_once buckets seq first.turn second.turn first.tried second.tried same in
    omega (arith, first.before, second.before, ap (λ (turn : ℕ). buckets_with_room used width k buckets seq turn) turns))
    one.from one.to two.from two.to

-- a strip fits before the end of the units
strip_fits : (used : ℕ → Bool) (units k buckets seq i s : ℕ) → IsStrip used (units / buckets) k buckets seq i s → Fits used units k s
strip_fits used units k buckets seq i s is =
    let lies = in_bucket used (units / buckets) k buckets seq i s is in
    record { within = omega (arith, lies.to, bucket_ends (units / buckets) buckets seq is.turn is.tried, buckets_within units buckets); free = lies.free }

-- strips are such runs
pub runs_of_strips : (used : ℕ → Bool) (units k n buckets seq : ℕ) (starts : List ℕ) → IsStrips used (units / buckets) k n buckets seq (Some starts) → AreRuns used units k starts
runs_of_strips used units k n buckets seq starts (count, each) = record {
  fits = All-from_get_or (Fits used units k) starts 0 (λ i below. strip_fits used units k buckets seq i (get_or starts i 0) (each i (omega arith)));
  clear = λ i j less below.
      clear_strips used (units / buckets) k buckets seq i j (get_or starts i 0) (get_or starts j 0) less (each i (omega arith)) (each j (omega arith));
}
