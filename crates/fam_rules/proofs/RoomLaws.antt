-- Room and strips as functions are what their relations say.
use Rattle.std.proofs.Common.{◌≡◌, ℕ, zero, suc, Bool, true, false, ◌+◌, ◌-◌, ◌*◌, ◌/◌, ◌%◌, ◌<◌, ◌≤◌, Option, Some, None, List, [], ◌∷◌, length, get_or, take, cond, leb, sym, ap, subst, ◌∙◌, refl, inl, inr, arith, count_by, is_some}
use Rattle.std.proofs.lemmas.Bool.{cases_Bool, cases_eq, cases_lt, cond-true, cond-false, false≢true, le-leb, lt-leb}
use Rattle.std.proofs.lemmas.List.{length-take-le, get_or-take, ext_get_or}
use Rattle.std.proofs.lemmas.List.FromFn.{length-map-range_with_len, get_or-map-range_with_len, take-map-range_with_len}
use Rattle.std.proofs.lemmas.List.Sums.{sum_by-cons}
use Rattle.std.proofs.Math.Nat.{add-mod-mod, add-mul-mod_self_left, mod-lt, mod-eq_of_lt, div-add-mod}
use Rattle.fam_rules.specs.Room.{Fits, IsRoom, all_free, room_from, room, bucket, offer, offers_of, offers, given, first_given, strips, IsStrip, IsStrips}

-- what `all_free` tests
pub free_of_all : (used : ℕ → Bool) (s k : ℕ) → all_free used s k ≡ true → (u : ℕ) → s ≤ u → u < s + k → used u ≡ false
free_of_all used s zero e u low high = absurd (omega arith)
free_of_all used s (suc k) e u low high =
    elim (cases_Bool (used s)) [
      | inl taken ↦ absurd (false≢true (sym (cond-true (used s) false (all_free used (s + 1) k) taken) ∙ e))
      | inr clear ↦ elim (cases_eq u s) [
        | inl at ↦ ap used at ∙ clear
        | inr other ↦ free_of_all used (s + 1) k (sym (cond-false (used s) false (all_free used (s + 1) k) clear) ∙ e) u (omega arith) (omega arith)
      ]
    ]

pub all_of_free : (used : ℕ → Bool) (s k : ℕ) → ((u : ℕ) → s ≤ u → u < s + k → used u ≡ false) → all_free used s k ≡ true
all_of_free used s zero free = refl
all_of_free used s (suc k) free =
    cond-false (used s) false (all_free used (s + 1) k) (free s (omega arith) (omega arith))
    ∙ all_of_free used (s + 1) k (λ u low high. free u (omega arith) (omega arith))

-- the first of n starts from s on
abbrev IsFirst : (ℕ → Bool) → ℕ → ℕ → ℕ → Option ℕ → Type 0
IsFirst used k s n (Some t) =
    (s ≤ t) × (t < s + n) × (all_free used t k ≡ true) × ((r : ℕ) → s ≤ r → r < t → all_free used r k ≡ false)
IsFirst used k s n None = (r : ℕ) → s ≤ r → r < s + n → all_free used r k ≡ false

-- one more start in front that doesn't fit
first_more : (used : ℕ → Bool) (k s n : ℕ) (o : Option ℕ) → all_free used s k ≡ false → IsFirst used k (s + 1) n o → IsFirst used k s (suc n) o
first_more used k s n (Some t) miss (low, high, fits, before) = (
  omega arith,
  omega arith,
  fits,
  λ r a b. elim (cases_eq r s) [
    | inl at ↦ ap (λ (x : ℕ). all_free used x k) at ∙ miss
    | inr other ↦ before r (omega arith) (omega arith)
  ],
)
first_more used k s n None miss before = λ r a b. elim (cases_eq r s) [
  | inl at ↦ ap (λ (x : ℕ). all_free used x k) at ∙ miss
  | inr other ↦ before r (omega arith) (omega arith)
]

first_is : (used : ℕ → Bool) (k s n : ℕ) → IsFirst used k s n (room_from used k s n)
first_is used k s zero = λ r a b. absurd (omega arith)
first_is used k s (suc n) =
    elim (cases_Bool (all_free used s k)) [
      | inl fits ↦ subst (IsFirst used k s (suc n)) (sym (cond-true (all_free used s k) (Some s) (room_from used k (s + 1) n) fits)) (omega arith, omega arith, fits, λ r a b. absurd (omega arith))
      | inr miss ↦ subst (IsFirst used k s (suc n)) (sym (cond-false (all_free used s k) (Some s) (room_from used k (s + 1) n) miss))
          (first_more used k s n (room_from used k (s + 1) n) miss (first_is used k (s + 1) n))
    ]

-- a start that fits is among those that are tried
fits_free : (used : ℕ → Bool) (end k t : ℕ) → Fits used end k t → all_free used t k ≡ true
fits_free used end k t f = all_of_free used t k f.free

room_of_first : (used : ℕ → Bool) (from end k : ℕ) (o : Option ℕ) → IsFirst used k from (end + 1 - (from + k)) o → IsRoom used from end k o
room_of_first used from end k (Some s) (low, high, fits, before) = (
  low,
  record { within = omega arith; free = free_of_all used s k fits },
  λ t a f. elim (cases_lt t s) [
    | inl less ↦ absurd (false≢true (sym (before t a less) ∙ fits_free used end k t f))
    | inr more ↦ more
  ],
)
room_of_first used from end k None before = λ t a f. false≢true (sym (before t a (omega (arith, f.within))) ∙ fits_free used end k t f)

-- `room` is the least start
pub room_least : (used : ℕ → Bool) (from end k : ℕ) → IsRoom used from end k (room used from end k)
unfolding room
room_least used from end k = room_of_first used from end k _ (first_is used k from (end + 1 - (from + k)))

same_room : (used : ℕ → Bool) (from end k : ℕ) (o p : Option ℕ) → IsRoom used from end k o → IsRoom used from end k p → o ≡ p
same_room used from end k (Some s) (Some t) a b =
    let below = a.2 t b.0 b.1 in
    let above = b.2 s a.0 a.1 in
    let e : s ≡ t = omega arith in
    ap Some e
same_room used from end k (Some s) None a b = absurd (b s a.0 a.1)
same_room used from end k None (Some t) a b = absurd (a t b.0 b.1)
same_room used from end k None None a b = refl

-- and nothing else is
pub room_only : (used : ℕ → Bool) (from end k : ℕ) (o : Option ℕ) → IsRoom used from end k o → o ≡ room used from end k
room_only used from end k o h = same_room used from end k o (room used from end k) h (room_least used from end k)

-- one offer more in front
count_some : (o : Option ℕ) (os : List (Option ℕ)) → count_by is_some (o ∷ os) ≡ cond (is_some o) 1 0 + count_by is_some os
count_some o os = sum_by-cons (λ (x : Option ℕ). cond (is_some x) 1 0) o os

-- as many starts as offers
pub length-given : (os : List (Option ℕ)) → length (given os) ≡ count_by is_some os
length-given [] = refl
length-given (Some s ∷ os) = omega (arith, length-given os, count_some (Some s) os)
length-given (None ∷ os) = omega (arith, length-given os, count_some None os)

-- start i is the offer that i offers stand before
record IsOfferAt (os : List (Option ℕ)) (i s : ℕ) : Type 0 where
  pub at : ℕ
  pub within : at < length os
  pub offered : get_or os at None ≡ Some s
  pub before : count_by is_some (take at os) ≡ i

offer_at : (os : List (Option ℕ)) (i : ℕ) → i < length (given os) → IsOfferAt os i (get_or (given os) i 0)
offer_at [] i h = absurd (omega arith)
offer_at (Some s ∷ os) zero h = record { at = 0; within = omega arith; offered = refl; before = refl }
offer_at (Some s ∷ os) (suc i) h =
    let r = offer_at os i (omega arith) in
    record { at = suc r.at; within = omega (arith, r.within); offered = r.offered; before = omega (arith, r.before, count_some (Some s) (take r.at os)) }
offer_at (None ∷ os) i h =
    let r = offer_at os i h in
    record { at = suc r.at; within = omega (arith, r.within); offered = r.offered; before = omega (arith, r.before, count_some None (take r.at os)) }

-- an offer is the start of its rank
given_at : (os : List (Option ℕ)) (t s : ℕ) → t < length os → get_or os t None ≡ Some s → (count_by is_some (take t os) < length (given os)) × (get_or (given os) (count_by is_some (take t os)) 0 ≡ s)
given_at [] t s h e = absurd (omega arith)
given_at (Some r ∷ os) zero s h e = (omega arith, cc)
given_at (None ∷ os) zero s h e = (cc)
given_at (Some r ∷ os) (suc t) s h e =
    let (below, is) = given_at os t s (omega arith) e in
    let n : count_by is_some (Some r ∷ take t os) ≡ suc (count_by is_some (take t os)) = omega (arith, count_some (Some r) (take t os)) in
    (omega arith, ap (λ (k : ℕ). get_or (r ∷ given os) k 0) n ∙ is)
given_at (None ∷ os) (suc t) s h e =
    let (below, is) = given_at os t s (omega arith) e in
    let n : count_by is_some (None ∷ take t os) ≡ count_by is_some (take t os) = omega (arith, count_some None (take t os)) in
    (omega arith, ap (λ (k : ℕ). get_or (given os) k 0) n ∙ is)

-- what is offered at a turn, in the list of offers and as room
get_or-offers : (used : ℕ → Bool) (width k buckets seq turn : ℕ) → turn < buckets → get_or (offers used width k buckets seq) turn None ≡ offer used width k buckets seq turn
get_or-offers used width k buckets seq turn below =
    get_or-map-range_with_len (offer used width k buckets seq) 0 buckets turn turn None below (omega arith)

length-offers : (used : ℕ → Bool) (width k buckets seq : ℕ) → length (offers used width k buckets seq) ≡ buckets
length-offers used width k buckets seq = length-map-range_with_len (offer used width k buckets seq) 0 buckets

take-offers : (used : ℕ → Bool) (width k buckets seq turn : ℕ) → turn ≤ buckets → take turn (offers used width k buckets seq) ≡ offers_of used width k buckets seq turn
take-offers used width k buckets seq turn below = take-map-range_with_len (offer used width k buckets seq) 0 buckets turn below

offer_least : (used : ℕ → Bool) (width k buckets seq turn : ℕ) → let x = bucket buckets seq turn in IsRoom used (x * width) ((x + 1) * width) k (offer used width k buckets seq turn)
unfolding offer
offer_least used width k buckets seq turn =
    room_least used (bucket buckets seq turn * width) ((bucket buckets seq turn + 1) * width) k

offer_only : (used : ℕ → Bool) (width k buckets seq turn : ℕ) (o : Option ℕ)
    → (let x = bucket buckets seq turn in IsRoom used (x * width) ((x + 1) * width) k o) → o ≡ offer used width k buckets seq turn
unfolding offer
offer_only used width k buckets seq turn o h =
    room_only used (bucket buckets seq turn * width) ((bucket buckets seq turn + 1) * width) k o h

-- an offer with its rank is a strip
strip_of : (used : ℕ → Bool) (width k buckets seq i s : ℕ) → IsOfferAt (offers used width k buckets seq) i s → IsStrip used width k buckets seq i s
strip_of used width k buckets seq i s o =
    let below : o.at < buckets = omega (arith, o.within, length-offers used width k buckets seq) in
    let is : offer used width k buckets seq o.at ≡ Some s = sym (get_or-offers used width k buckets seq o.at below) ∙ o.offered in
    record {
      turn = o.at;
      tried = below;
      least = subst (IsRoom used (bucket buckets seq o.at * width) ((bucket buckets seq o.at + 1) * width) k) is (offer_least used width k buckets seq o.at);
      before = ap (λ (os : List (Option ℕ)). count_by is_some os) (sym (take-offers used width k buckets seq o.at (omega arith))) ∙ o.before;
    }

-- a strip is the start of its rank
given_of_strip : (used : ℕ → Bool) (width k buckets seq i s : ℕ) → IsStrip used width k buckets seq i s
    → (i < length (given (offers used width k buckets seq))) × (get_or (given (offers used width k buckets seq)) i 0 ≡ s)
given_of_strip used width k buckets seq i s h =
    let os : List (Option ℕ) = offers used width k buckets seq in
    let at : get_or os h.turn None ≡ Some s = get_or-offers used width k buckets seq h.turn h.tried ∙ sym (offer_only used width k buckets seq h.turn (Some s) h.least) in
    let within : h.turn < length os = omega (arith, h.tried, length-offers used width k buckets seq) in
    let rank : count_by is_some (take h.turn os) ≡ i = ap (λ (xs : List (Option ℕ)). count_by is_some xs) (take-offers used width k buckets seq h.turn (omega (arith, h.tried))) ∙ h.before in
    subst (λ (r : ℕ). (r < length (given os)) × (get_or (given os) r 0 ≡ s)) rank (given_at os h.turn s within at)

strips_of_given : (used : ℕ → Bool) (width k n buckets seq : ℕ) → IsStrips used width k n buckets seq (first_given n (offers used width k buckets seq))
strips_of_given used width k n buckets seq =
    let os : List (Option ℕ) = offers used width k buckets seq in
    elim (cases_lt (length (given os)) n) [
      | inl short ↦ subst (IsStrips used width k n buckets seq)
          (sym (cond-false (leb n (length (given os))) (Some (take n (given os))) None (lt-leb n (length (given os)) short)))
          (omega (arith, length-given os, short))
      | inr enough ↦ subst (IsStrips used width k n buckets seq) (sym (cond-true (leb n (length (given os))) (Some (take n (given os))) None (le-leb n (length (given os)) enough))) (
        length-take-le n (given os) enough,
        λ i below.
            subst (IsStrip used width k buckets seq i) (sym (get_or-take n (given os) i 0 below)) (strip_of used width k buckets seq i _ (offer_at os i (omega arith))),
      )
    ]

-- `strips` are the least starts in the first buckets that have room
pub strips_first : (used : ℕ → Bool) (units k n buckets seq : ℕ) → IsStrips used (units / buckets) k n buckets seq (strips used units k n buckets seq)
unfolding strips
strips_first used units k n buckets seq = strips_of_given used (units / buckets) k n buckets seq

given_of_strips : (used : ℕ → Bool) (width k n buckets seq : ℕ) (found : Option (List ℕ)) → IsStrips used width k n buckets seq found → found ≡ first_given n (offers used width k buckets seq)
given_of_strips used width k n buckets seq (Some starts) (count, each) =
    let os : List (Option ℕ) = offers used width k buckets seq in
    let enough : n ≤ length (given os) = elim (cases_eq n 0) [
      | inl none ↦ omega arith
      | inr some ↦ omega (arith, (given_of_strip used width k buckets seq (n - 1) _ (each (n - 1) (omega arith))).0)
    ] in
    let lengths : length starts ≡ length (take n (given os)) = count ∙ sym (length-take-le n (given os) enough) in
    let same : starts ≡ take n (given os) = ext_get_or 0 starts (take n (given os)) lengths (λ i h.
    sym (given_of_strip used width k buckets seq i _ (each i (omega arith))).1 ∙ sym (get_or-take n (given os) i 0 (omega arith))) in
    ap Some same ∙ sym (cond-true (leb n (length (given os))) (Some (take n (given os))) None (le-leb n (length (given os)) enough))
given_of_strips used width k n buckets seq None short =
    let os : List (Option ℕ) = offers used width k buckets seq in
    sym (cond-false (leb n (length (given os))) (Some (take n (given os))) None (lt-leb n (length (given os)) (omega (arith, length-given os, short))))

-- and nothing else is
pub strips_only : (used : ℕ → Bool) (units k n buckets seq : ℕ) (found : Option (List ℕ)) → IsStrips used (units / buckets) k n buckets seq found → found ≡ strips used units k n buckets seq
unfolding strips
strips_only used units k n buckets seq found h = given_of_strips used (units / buckets) k n buckets seq found h

-- each bucket has its turn
pub bucket_has_turn : (buckets seq x : ℕ) → x < buckets → (t : ℕ) × (t < buckets) × (bucket buckets seq t ≡ x)
bucket_has_turn buckets seq x below =
    let some : 0 < buckets = omega arith in
    let ahead : ℕ = x + (buckets - seq % buckets) in
    let less : seq % buckets < buckets = mod-lt seq some in
    let whole : seq + (x + (buckets - seq % buckets)) ≡ x + buckets * (seq / buckets + 1) = omega (arith, div-add-mod seq buckets) in (
      ahead % buckets,
      mod-lt ahead some,
      add-mod-mod seq ahead buckets ∙ ap (λ (n : ℕ). n % buckets) whole ∙ add-mul-mod_self_left x buckets (seq / buckets + 1) ∙ mod-eq_of_lt below,
    )
