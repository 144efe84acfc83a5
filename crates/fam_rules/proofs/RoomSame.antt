-- Room and strips see the test of used units below their end alone.
use Rattle.std.proofs.Common.{◌≡◌, ℕ, zero, suc, Bool, ◌+◌, ◌*◌, ◌/◌, ◌<◌, ◌≤◌, Option, Some, None, List, ◌∷◌, map, refl, sym, ap, ◌∙◌, arith}
use Rattle.std.specs.List.{range_with_len}
use Rattle.std.proofs.Math.Nat.{mod-lt, mul-le-mul_left, div-add-mod}
use Rattle.fam_rules.specs.Room.{Fits, IsRoom, room, bucket, offer, offers, first_given, strips}
use Rattle.fam_rules.proofs.RoomLaws.{room_least, room_only}

fits_same : (f g : ℕ → Bool) (end k s : ℕ) → ((u : ℕ) → u < end → f u ≡ g u) → Fits f end k s → Fits g end k s
fits_same f g end k s same h = record {
  within = h.within;
  free = λ u low high. sym (same u (omega (arith, h.within))) ∙ h.free u low high;
}

is_room_same : (f g : ℕ → Bool) (from end k : ℕ) (o : Option ℕ) → ((u : ℕ) → u < end → f u ≡ g u) → IsRoom f from end k o → IsRoom g from end k o
is_room_same f g from end k (Some s) same h =
    (h.0, fits_same f g end k s same h.1, λ t a p. h.2 t a (fits_same g f end k t (λ u b. sym (same u b)) p))
is_room_same f g from end k None same h = λ t a p. h t a (fits_same g f end k t (λ u b. sym (same u b)) p)

-- tests that agree below the end have one room
pub room_same : (f g : ℕ → Bool) (from end k : ℕ) → ((u : ℕ) → u < end → f u ≡ g u) → room f from end k ≡ room g from end k
room_same f g from end k same =
    room_only g from end k (room f from end k) (is_room_same f g from end k _ same (room_least f from end k))

-- functions that agree on a range map it alike
pub map_range_same : {X : Type 0} (f g : ℕ → X) (a n : ℕ) → ((t : ℕ) → a ≤ t → t < a + n → f t ≡ g t) → map f (range_with_len a n) ≡ map g (range_with_len a n)
map_range_same f g a zero same = refl
map_range_same {X} f g a (suc n) same =
    ap (λ (x : X). x ∷ map f (range_with_len (a + 1) n)) (same a (omega arith) (omega arith))
    ∙ ap (λ (xs : List X). g a ∷ xs) (map_range_same f g (a + 1) n (λ t low high. same t (omega arith) (omega arith)))

-- a bucket ends within the buckets
pub bucket_ends : (width buckets seq turn : ℕ) → turn < buckets → (bucket buckets seq turn + 1) * width ≤ width * buckets
bucket_ends width buckets seq turn below =
    omega (arith, mul-le-mul_left width (let p : bucket buckets seq turn + 1 ≤ buckets = omega (arith, mod-lt (seq + turn) (let q : 0 < buckets = omega arith in q)) in p))

offers_same : (f g : ℕ → Bool) (width k buckets seq : ℕ) → ((u : ℕ) → u < width * buckets → f u ≡ g u) → offers f width k buckets seq ≡ offers g width k buckets seq
unfolding offer
offers_same f g width k buckets seq same =
    map_range_same (offer f width k buckets seq) (offer g width k buckets seq) 0 buckets (λ t low high.
    room_same f g (bucket buckets seq t * width) ((bucket buckets seq t + 1) * width) k
    (λ u below. same u (omega (arith, bucket_ends width buckets seq t (omega arith)))))

-- tests that agree on the buckets give one list of strips
pub first_given_same : (f g : ℕ → Bool) (width k n buckets seq : ℕ) → ((u : ℕ) → u < width * buckets → f u ≡ g u)
    → first_given n (offers f width k buckets seq) ≡ first_given n (offers g width k buckets seq)
first_given_same f g width k n buckets seq same = ap (first_given n) (offers_same f g width k buckets seq same)

-- the buckets lie within the units
pub buckets_within : (units buckets : ℕ) → units / buckets * buckets ≤ units
buckets_within units buckets = omega (arith, div-add-mod units buckets)

-- tests that agree below the units have one list of strips
pub strips_same : (f g : ℕ → Bool) (units k n buckets seq : ℕ) → ((u : ℕ) → u < units → f u ≡ g u) → strips f units k n buckets seq ≡ strips g units k n buckets seq
unfolding strips
strips_same f g units k n buckets seq same =
    first_given_same f g (units / buckets) k n buckets seq (λ u below. same u (omega (arith, buckets_within units buckets)))
