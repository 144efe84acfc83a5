-- There are listings of any number of entries below 2 ^ 64: of directories whose names are words of 64 letters, in order.
use Rattle.std.proofs.Common.{◌≡◌, ◌⊎◌, ◌+◌, ◌*◌, ◌^◌, ◌<◌, ◌≤◌, ◌&&◌, inl, inr, ℕ, zero, suc, Bool, true, false, List, [], ◌∷◌, ◌++◌, length, map, take, lit<, refl, ap, ap₂, sym, ◌∙◌, subst, arith}
use Rattle.std.specs.Prelude.{⊤}
use Rattle.std.specs.List.{AllByRecursion, list_all}
use Rattle.std.specs.List.Sorted.{IsStrictlySortedBy}
use Rattle.std.specs.declared.cmp.Ordering.TheVariants.{Less}
use Rattle.std.proofs.Math.Nat.{pow-suc}
use Rattle.std.proofs.lemmas.List.{length-append, length-map, length-take-le}
use Rattle.std.proofs.lemmas.List.Elements.{All-from_recursion, All-nil}
use Rattle.std.proofs.lemmas.List.Splits.{slice_split_none}
use Rattle.fam_base.specs.declared.entry.Entry.{Entry}
use Rattle.fam_base.specs.declared.entry.Kind.TheVariants as kind
use Rattle.fam_base.specs.declared.entry.MapKind.TheVariants as mapped
use Rattle.fam_base.specs.PathOrder.{path_cmp}
use Rattle.fam_base.specs.Paths.{has_no_nul, is_name, is_path, is_slash, names}
use Rattle.fam_base.proofs.PathLemmas.{path_of_parts}
use Rattle.fam_tree.specs.Listings.{IsListed}
use Rattle.fam_base.specs.Commands.{IsListing}
use Rattle.fam_judge.specs.Standing.{MayList}

-- Words.

-- all words of so many letters, each a or b, in order
words : ℕ → List (List ℕ)
words zero = [] ∷ []
words (suc n) = map (λ (w : List ℕ). 97 ∷ w) (words n) ++ map (λ (w : List ℕ). 98 ∷ w) (words n)

count-words : (n : ℕ) → length (words n) ≡ 2 ^ n
unfolding words
count-words zero = refl
count-words (suc n) =
    length-append (map (λ (w : List ℕ). 97 ∷ w) (words n)) (map (λ (w : List ℕ). 98 ∷ w) (words n))
    ∙ ap₂ (λ (a b : ℕ). a + b) (length-map (words n) (λ (w : List ℕ). 97 ∷ w) ∙ count-words n) (length-map (words n) (λ (w : List ℕ). 98 ∷ w) ∙ count-words n)
    ∙ (let double : 2 ^ suc n ≡ 2 ^ n * 2 = pow-suc 2 n in omega (arith, double))

-- a word of so many letters
abbrev IsWord : ℕ → List ℕ → Type 0
IsWord zero w = w ≡ []
IsWord (suc n) [] = ⊥
IsWord (suc n) (x ∷ w) = ((x ≡ 97) ⊎ (x ≡ 98)) × IsWord n w

all_map : {A B : Type 0} (P : A → Type 0) (Q : B → Type 0) (f : A → B) → ((x : A) → P x → Q (f x)) → (xs : List A) → AllByRecursion P xs → AllByRecursion Q (map f xs)
all_map P Q f each [] is = tt
all_map P Q f each (x ∷ xs) is = (each x is.0, all_map P Q f each xs is.1)

all_both : {A : Type 0} (P : A → Type 0) (xs ys : List A) → AllByRecursion P xs → AllByRecursion P ys → AllByRecursion P (xs ++ ys)
all_both P [] ys a b = b
all_both P (x ∷ xs) ys a b = (a.0, all_both P xs ys a.1 b)

all_weaken : {A : Type 0} (P Q : A → Type 0) → ((x : A) → P x → Q x) → (xs : List A) → AllByRecursion P xs → AllByRecursion Q xs
all_weaken P Q each [] is = tt
all_weaken P Q each (x ∷ xs) is = (each x is.0, all_weaken P Q each xs is.1)

all_take : {A : Type 0} (P : A → Type 0) (n : ℕ) (xs : List A) → AllByRecursion P xs → AllByRecursion P (take n xs)
all_take P zero xs is = tt
all_take P (suc n) [] is = tt
all_take P (suc n) (x ∷ xs) is = (is.0, all_take P n xs is.1)

all-words : (n : ℕ) → AllByRecursion (IsWord n) (words n)
unfolding words
all-words zero = (refl, tt)
all-words (suc n) =
    all_both (IsWord (suc n)) (map (λ (w : List ℕ). 97 ∷ w) (words n)) (map (λ (w : List ℕ). 98 ∷ w) (words n))
    (all_map (IsWord n) (IsWord (suc n)) (λ (w : List ℕ). 97 ∷ w) (λ w is. (inl refl, is)) (words n) (all-words n))
    (all_map (IsWord n) (IsWord (suc n)) (λ (w : List ℕ). 98 ∷ w) (λ w is. (inr refl, is)) (words n) (all-words n))

-- Order.

abbrev Before : List ℕ → List ℕ → Type 0
Before a b = path_cmp a b ≡ Less

abbrev InOrder : List (List ℕ) → Type 0
InOrder xs = IsStrictlySortedBy path_cmp xs

order_both : (xs ys : List (List ℕ)) → InOrder xs → InOrder ys → AllByRecursion (λ x. AllByRecursion (Before x) ys) xs → InOrder (xs ++ ys)
unfolding IsStrictlySortedBy
order_both [] ys a b low = b
order_both (x ∷ xs) ys a b low = (all_both (Before x) xs ys a.0 low.0, order_both xs ys a.1 b low.1)

order_take : (n : ℕ) (xs : List (List ℕ)) → InOrder xs → InOrder (take n xs)
unfolding IsStrictlySortedBy
order_take zero xs is = tt
order_take (suc n) [] is = tt
order_take (suc n) (x ∷ xs) is = (all_take (Before x) n xs is.0, order_take n xs is.1)

-- behind the same letter
order_more : (c : ℕ) → ((v w : List ℕ) → path_cmp (c ∷ v) (c ∷ w) ≡ path_cmp v w) → (xs : List (List ℕ)) → InOrder xs → InOrder (map (λ (w : List ℕ). c ∷ w) xs)
unfolding IsStrictlySortedBy
order_more c same [] is = tt
order_more c same (x ∷ xs) is =
    (all_map (Before x) (Before (c ∷ x)) (λ (w : List ℕ). c ∷ w) (λ w low. same x w ∙ low) xs is.0, order_more c same xs is.1)

-- a word with a first letter a is before all with b
all_any : {A : Type 0} (P : A → Type 0) → ((x : A) → P x) → (xs : List A) → AllByRecursion P xs
all_any P each [] = tt
all_any P each (x ∷ xs) = (each x, all_any P each xs)

low_high : (xs ys : List (List ℕ)) → AllByRecursion (λ x. AllByRecursion (Before x) (map (λ (w : List ℕ). 98 ∷ w) ys)) (map (λ (w : List ℕ). 97 ∷ w) xs)
low_high xs ys =
    all_map (λ x. ⊤) (λ x. AllByRecursion (Before x) (map (λ (w : List ℕ). 98 ∷ w) ys)) (λ (w : List ℕ). 97 ∷ w)
    (λ x none. all_map (λ y. ⊤) (Before (97 ∷ x)) (λ (w : List ℕ). 98 ∷ w) (λ y none. refl) ys (all_any (λ y. ⊤) (λ y. tt) ys)) xs (all_any (λ x. ⊤) (λ x. tt) xs)

order-words : (n : ℕ) → InOrder (words n)
unfolding words IsStrictlySortedBy
order-words zero = (tt, tt)
order-words (suc n) =
    order_both (map (λ (w : List ℕ). 97 ∷ w) (words n)) (map (λ (w : List ℕ). 98 ∷ w) (words n))
    (order_more 97 (λ v w. refl) (words n) (order-words n)) (order_more 98 (λ v w. refl) (words n) (order-words n)) (low_high (words n) (words n))

-- Paths.

-- a word's letters are no slash, and no 0
length-word : (n : ℕ) (w : List ℕ) → IsWord n w → length w ≡ n
length-word zero w is = ap (λ (l : List ℕ). length l) is
length-word (suc n) [] is = absurd is
length-word (suc n) (x ∷ w) is = ap suc (length-word n w is.1)

no_nul : (n : ℕ) (w : List ℕ) → IsWord n w → has_no_nul w ≡ true
no_nul zero w is = ap has_no_nul is
no_nul (suc n) [] is = absurd is
no_nul (suc n) (x ∷ w) (inl e, is) = ap (λ (y : ℕ). has_no_nul (y ∷ w)) e ∙ no_nul n w is
no_nul (suc n) (x ∷ w) (inr e, is) = ap (λ (y : ℕ). has_no_nul (y ∷ w)) e ∙ no_nul n w is

no_slash : (n : ℕ) (w : List ℕ) → IsWord n w → AllByRecursion (λ x. is_slash x ≡ false) w
no_slash zero w is = subst (AllByRecursion (λ x. is_slash x ≡ false)) (sym is) tt
no_slash (suc n) [] is = absurd is
no_slash (suc n) (x ∷ w) (inl e, is) = (ap is_slash e, no_slash n w is)
no_slash (suc n) (x ∷ w) (inr e, is) = (ap is_slash e, no_slash n w is)

long_name : (w : List ℕ) → 3 ≤ length w → is_name w ≡ true
long_name [] long = absurd (omega (arith, long))
long_name (a ∷ []) long = absurd (omega (arith, long))
long_name (a ∷ b ∷ []) long = absurd (omega (arith, long))
long_name (a ∷ b ∷ c ∷ rest) long = refl

one_name : (w : List ℕ) → 3 ≤ length w → names w ≡ w ∷ [] → list_all is_name (names w) ≡ true
one_name w long e = ap (list_all is_name) e ∙ ap (λ (b : Bool). b && true) (long_name w long)

word_path : (n : ℕ) → 3 ≤ n → n ≤ 512 → (w : List ℕ) → IsWord n w → is_path w ≡ true
word_path n long short w is =
    let size = length-word n w is in
    path_of_parts w (record {
      some = omega (arith, size, long);
      fits = omega (arith, size, short);
      no_nul = no_nul n w is;
      names = one_name w (omega (arith, size, long)) (slice_split_none is_slash w (All-from_recursion (λ x. is_slash x ≡ false) w (no_slash n w is)));
    })

-- Entries.

-- an empty directory
abbrev directory : List ℕ → Entry
directory path = record { kind = kind.Directory; path = path; size = 0; mode = 0; uid = 0; gid = 0; map = mapped.Empty; extents = [] }

directory_listed : (path : List ℕ) → is_path path ≡ true → IsListed (directory path)
directory_listed path is = record {
  path = is;
  size = lit< tt;
  mode = omega arith;
  uid = lit< tt;
  gid = lit< tt;
  map = refl;
  extents = All-nil _;
}

paths_same : (ws : List (List ℕ)) → map (λ (e : Entry). e.path) (map directory ws) ≡ ws
paths_same [] = refl
paths_same (w ∷ ws) = ap (λ (l : List (List ℕ)). w ∷ l) (paths_same ws)

list_of : (ws : List (List ℕ)) → InOrder ws → AllByRecursion (λ w. is_path w ≡ true) ws → IsListing (map directory ws)
list_of ws order paths = subst InOrder (sym (paths_same ws)) order

-- so many of them
take_words : (n count : ℕ) → 3 ≤ n → n ≤ 512 → count ≤ 2 ^ n → MayList count
take_words n count long short few = (
  map directory (take count (words n)),
  list_of (take count (words n)) (order_take count (words n) (order-words n))
      (all_take (λ w. is_path w ≡ true) count (words n) (all_weaken (IsWord n) (λ w. is_path w ≡ true) (word_path n long short) (words n) (all-words n))),
  length-map (take count (words n)) directory ∙ length-take-le count (words n) (subst (λ (k : ℕ). count ≤ k) (sym (count-words n)) few),
)

-- any number that a word of the machine holds
pub may_list : (count : ℕ) → count < 2 ^ 64 → MayList count
may_list count few = take_words 64 count (omega arith) (omega arith) (omega (arith, few))
