-- Offers of buckets, turn by turn.
use Rattle.std.proofs.Common.{◌≡◌, ℕ, Bool, ◌+◌, ◌*◌, ◌/◌, ◌%◌, ◌<◌, ◌≤◌, Option, Some, None, List, [], ◌∷◌, ◌++◌, length, take, drop, leb, refl, sym, ap, ◌∙◌, arith, length-append}
use Rattle.std.proofs.lemmas.Bool.{cond-true, cond-false, le-leb, lt-leb}
use Rattle.std.proofs.lemmas.List.{take-append-drop, take_at}
use Rattle.std.proofs.lemmas.List.FromFn.{map-range_with_len_more, take-map-range_with_len}
use Rattle.std.proofs.Math.Nat.{mod-add-mod}
use Rattle.fam_rules.specs.Room.{room, offer, offers, offers_of, given, first_given, strips}

-- what is looked for at a turn is the offer
pub offer_is : (used : ℕ → Bool) (width k buckets seq turn : ℕ) (found : Option ℕ)
    → (let x = (seq % buckets + turn) % buckets in found ≡ room used (x * width) ((x + 1) * width) k) → found ≡ offer used width k buckets seq turn
unfolding offer
offer_is used width k buckets seq turn found h =
    h ∙ ap (λ (x : ℕ). room used (x * width) ((x + 1) * width) k) (mod-add-mod seq buckets turn)

given-append : (os ps : List (Option ℕ)) → given (os ++ ps) ≡ given os ++ given ps
given-append [] ps = refl
given-append (Some s ∷ os) ps = ap (λ (xs : List ℕ). s ∷ xs) (given-append os ps)
given-append (None ∷ os) ps = given-append os ps

-- one turn more
pub given_more : (used : ℕ → Bool) (width k buckets seq turn : ℕ) (old new : List ℕ) (o : Option ℕ)
    → old ≡ given (offers_of used width k buckets seq turn) → o ≡ offer used width k buckets seq turn → new ≡ old ++ given (o ∷ [])
    → new ≡ given (offers_of used width k buckets seq (turn + 1))
given_more used width k buckets seq turn old new o before is more =
    more
    ∙ ap (λ (xs : List ℕ). xs ++ given (o ∷ [])) before
    ∙ sym (given-append (offers_of used width k buckets seq turn) (o ∷ []))
    ∙ ap (λ (p : Option ℕ). given (offers_of used width k buckets seq turn ++ p ∷ [])) is
    ∙ ap given (sym (map-range_with_len_more (offer used width k buckets seq) 0 turn turn (omega arith)))

enough_given : (used : ℕ → Bool) (width k n buckets seq turns : ℕ) (starts : List ℕ) → turns ≤ buckets
    → starts ≡ given (offers_of used width k buckets seq turns) → length starts ≡ n → Some starts ≡ first_given n (offers used width k buckets seq)
enough_given used width k n buckets seq turns starts within is count =
    let os : List (Option ℕ) = offers used width k buckets seq in
    let rest : List ℕ = given (drop turns os) in
    let prefix : take turns os ≡ offers_of used width k buckets seq turns = take-map-range_with_len (offer used width k buckets seq) 0 buckets turns within in
    let whole : given os ≡ starts ++ rest = ap given (sym (take-append-drop turns os)) ∙ given-append (take turns os) (drop turns os)
    ∙ ap (λ (xs : List (Option ℕ)). given xs ++ rest) prefix ∙ ap (λ (xs : List ℕ). xs ++ rest) (sym is) in
    let long : n ≤ length (given os) = omega (arith, ap (λ (xs : List ℕ). length xs) whole ∙ length-append starts rest) in
    ap Some (sym (ap (λ (xs : List ℕ). take n xs) whole ∙ take_at starts rest n count))
    ∙ sym (cond-true (leb n (length (given os))) (Some (take n (given os))) None (le-leb n (length (given os)) long))

-- enough buckets have offered
pub enough : (used : ℕ → Bool) (units k n buckets seq turns : ℕ) (starts : List ℕ) → turns ≤ buckets
    → starts ≡ given (offers_of used (units / buckets) k buckets seq turns) → length starts ≡ n → Some starts ≡ strips used units k n buckets seq
unfolding strips
enough used units k n buckets seq turns starts within is count = enough_given used (units / buckets) k n buckets seq turns starts within is count

-- too few buckets have offered
pub too_few : (used : ℕ → Bool) (units k n buckets seq : ℕ) (starts : List ℕ) → starts ≡ given (offers used (units / buckets) k buckets seq)
    → length starts < n → None ≡ strips used units k n buckets seq
unfolding strips
too_few used units k n buckets seq starts is short =
    let os : List (Option ℕ) = offers used (units / buckets) k buckets seq in
    sym (cond-false (leb n (length (given os))) (Some (take n (given os))) None (lt-leb n (length (given os)) (omega (arith, ap (λ (xs : List ℕ). length xs) is))))

-- one offer more, and still too few
pub fewer_more : (starts new : List ℕ) (o : Option ℕ) (n : ℕ) → new ≡ starts ++ given (o ∷ []) → length starts < n → (length new ≡ n → ⊥) → length new < n
fewer_more starts new (Some s) n is fewer other =
    omega (arith, ap (λ (xs : List ℕ). length xs) is ∙ length-append starts (s ∷ []))
fewer_more starts new None n is fewer other =
    omega (arith, ap (λ (xs : List ℕ). length xs) is ∙ length-append starts [])
