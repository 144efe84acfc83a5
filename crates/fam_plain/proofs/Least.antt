-- The least pair of entries that overlap, where each entry is looked at beside those before it and itself.
use Rattle.std.proofs.Common.{◌≡◌, ℕ, suc, Option, Some, None, List, [], ◌∷◌, ◌++◌, ◌+◌, ◌<◌, length, take, drop, get_or, map, option_map, find, true, false, is_some, refl, sym, ap, ◌∙◌, add-one}
use Rattle.std.specs.Option.{option_or}
use Rattle.std.proofs.Math.Seq.{drop-cons}
use Rattle.std.proofs.lemmas.List.{take_more}
use Rattle.std.proofs.lemmas.List.Folds.{find-append}
use Rattle.fam_base.specs.declared.entry.Entry.{Entry}
use Rattle.fam_rules.specs.Reports.{overlaps, pairs_after}

-- the numbers of the first of these pairs that overlaps
abbrev pub first_pair : ℕ → List ((ℕ × Entry) × (ℕ × Entry)) → Option (ℕ × ℕ)
first_pair unit pairs = option_map (λ pair. (pair.0.0, pair.1.0)) (find (overlaps unit) pairs)

map_or : {X Y : Type 0} (f : X → Y) (a b : Option X) → option_map f (option_or a b) ≡ option_or (option_map f a) (option_map f b)
map_or f (Some x) b = refl
map_or f None b = refl

-- one entry more
pub pair_more : (unit : ℕ) (found : List (ℕ × Entry)) (j : ℕ) (b : ℕ × Entry) → j < length found → b ≡ get_or found j b →
    first_pair unit (pairs_after (take j found) (drop j found))
    ≡ option_or (first_pair unit (map (λ a. (a, b)) (take (j + 1) found))) (first_pair unit (pairs_after (take (j + 1) found) (drop (j + 1) found)))
pair_more unit found j b below is =
    let here : drop j found ≡ b ∷ drop (j + 1) found = drop-cons found j b below ∙ ap (λ (x : ℕ × Entry). x ∷ drop (suc j) found) (sym is) ∙ ap (λ (n : ℕ). b ∷ drop n found) (sym (add-one j)) in
    let there : take j found ++ b ∷ [] ≡ take (j + 1) found = sym (take_more found j b below ∙ ap (λ (x : ℕ × Entry). take j found ++ x ∷ []) (sym is)) in
    let more : List (ℕ × Entry) = drop (j + 1) found in
    ap (λ (l : List (ℕ × Entry)). first_pair unit (pairs_after (take j found) l)) here
    ∙ ap (λ (l : List (ℕ × Entry)). first_pair unit (map (λ a. (a, b)) l ++ pairs_after l more)) there
    ∙ ap (option_map (λ pair. (pair.0.0, pair.1.0))) (find-append (overlaps unit) (map (λ a. (a, b)) (take (j + 1) found)) (pairs_after (take (j + 1) found) more))
    ∙ map_or (λ pair. (pair.0.0, pair.1.0)) (find (overlaps unit) (map (λ a. (a, b)) (take (j + 1) found))) (find (overlaps unit) (pairs_after (take (j + 1) found) more))

some_first : {X : Type 0} (a b : Option X) → is_some a ≡ true → option_or a b ≡ a
some_first (Some x) b some = refl
some_first None b some = absurd (cc)

none_first : {X : Type 0} (a b : Option X) → is_some a ≡ false → option_or a b ≡ b
none_first (Some x) b none = absurd (cc)
none_first None b none = refl

-- the entry has a pair
pub pair_here : (unit : ℕ) (found : List (ℕ × Entry)) (j : ℕ) (b : ℕ × Entry) → j < length found → b ≡ get_or found j b →
    is_some (first_pair unit (map (λ a. (a, b)) (take (j + 1) found))) ≡ true →
    first_pair unit (map (λ a. (a, b)) (take (j + 1) found)) ≡ first_pair unit (pairs_after (take j found) (drop j found))
pair_here unit found j b below is some =
    sym (pair_more unit found j b below is
    ∙ some_first (first_pair unit (map (λ a. (a, b)) (take (j + 1) found))) (first_pair unit (pairs_after (take (j + 1) found) (drop (j + 1) found))) some)

-- it has none
pub no_pair_here : (unit : ℕ) (found : List (ℕ × Entry)) (j : ℕ) (b : ℕ × Entry) → j < length found → b ≡ get_or found j b →
    is_some (first_pair unit (map (λ a. (a, b)) (take (j + 1) found))) ≡ false →
    first_pair unit (pairs_after (take (j + 1) found) (drop (j + 1) found)) ≡ first_pair unit (pairs_after (take j found) (drop j found))
no_pair_here unit found j b below is none =
    sym (pair_more unit found j b below is
    ∙ none_first (first_pair unit (map (λ a. (a, b)) (take (j + 1) found))) (first_pair unit (pairs_after (take (j + 1) found) (drop (j + 1) found))) none)
