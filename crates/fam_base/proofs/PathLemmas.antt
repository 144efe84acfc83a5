-- Pieces of a path between its slashes.
use Rattle.std.proofs.Common.{◌≡◌, ℕ, ◌+◌, ◌-◌, ◌<◌, ◌≤◌, Bool, true, false, not, cond, ◌&&◌, nat_lt, List, [], ◌∷◌, ◌++◌, length, get_or, take, drop, replicate, Some, None, ◌⊎◌, inl, inr, refl, sym, ap, ◌∙◌, arith, subst, zero, suc, length-take, length-append}
use Rattle.std.specs.List.{slice_split, onto_first, list_all, list_any}
use Rattle.std.specs.List.{suffix_len}
use Rattle.std.proofs.Math.Seq.{take-append_seam}
use Rattle.std.proofs.lemmas.Bool.{cases_lt, cases_eq, false≢true}
use Rattle.std.proofs.lemmas.Bool.Decides.{nat_tests}
use Rattle.std.proofs.lemmas.List.{take-append-drop, drop_more, drop-replicate, get_or_default, get_or_past, get_or_at, get_or-append_right}
use Rattle.std.proofs.lemmas.List.Folds.{list_all-append, list_any_at, list_any_none, list_all_at}
use Rattle.std.proofs.lemmas.List.Sums.{suffix_len_is}
use Rattle.std.proofs.lemmas.List.Splits.{length-slice_split}
use Rattle.fam_base.proofs.FieldOrder.{HasNoZero}
use Rattle.fam_base.specs.Paths.{is_name, is_slash, names, has_no_nul, path_limit, is_path, parent_of, IsPathField}

pub record PathParts (bytes : List ℕ) : Type 0 where
  pub some : 0 < length bytes
  pub fits : length bytes ≤ path_limit
  pub no_nul : has_no_nul bytes ≡ true
  pub names : list_all is_name (names bytes) ≡ true

pub parts_of_path : (bytes : List ℕ) → is_path bytes ≡ true → PathParts bytes
unfolding is_path
parts_of_path bytes h =
    record {
      some = grind (arith, nat_tests);
      fits = grind (arith, nat_tests);
      no_nul = grind (arith, nat_tests);
      names = grind (arith, nat_tests);
    }

pub path_of_parts : (bytes : List ℕ) → PathParts bytes → is_path bytes ≡ true
unfolding is_path
path_of_parts bytes p = grind (arith, nat_tests)

onto_first-append : {X : Type 0} (x : X) (a b : List (List X)) → 0 < length a → onto_first x (a ++ b) ≡ onto_first x a ++ b
onto_first-append x [] b h = absurd (omega arith)
onto_first-append x (part ∷ parts) b h = refl

-- cut at an element that passes
slice_split-append : {X : Type 0} (p : X → Bool) (xs : List X) (y : X) (ys : List X) → p y ≡ true → slice_split p (xs ++ y ∷ ys) ≡ slice_split p xs ++ slice_split p ys
slice_split-append p [] y ys h = rw h refl
slice_split-append {X = X} p (x ∷ xs) y ys h =
    let again = slice_split-append p xs y ys h in
    let some : 0 < length (slice_split p xs) = omega (arith, length-slice_split p xs) in
    elim (p x) as (λ b. cond b ([] ∷ slice_split p (xs ++ y ∷ ys)) (onto_first x (slice_split p (xs ++ y ∷ ys))) ≡ cond b ([] ∷ slice_split p xs) (onto_first x (slice_split p xs)) ++ slice_split p ys)
    [ true ↦ ap (λ (l : List (List X)). [] ∷ l) again | false ↦ ap (onto_first x) again ∙ onto_first-append x _ _ some ]

and_left : (a b : Bool) → (a && b) ≡ true → a ≡ true
and_left a b h = grind (arith, nat_tests)

-- the bytes up to a slash, the slash and the bytes after it
cut_at : (bytes : List ℕ) (i : ℕ) → i < length bytes → get_or bytes i 0 ≡ 47 → take i bytes ++ 47 ∷ drop (i + 1) bytes ≡ bytes
cut_at bytes i below slash =
    let e : drop i bytes ≡ 47 ∷ drop (i + 1) bytes = drop_more bytes i 0 below ∙ ap (λ b. b ∷ drop (i + 1) bytes) slash in
    rw (← e) (take-append-drop i bytes)

name_some : (bytes : List ℕ) → list_all is_name (names bytes) ≡ true → 0 < length bytes
name_some [] h = cc
name_some (b ∷ bytes) h = omega arith

-- the bytes before a slash of a path are a path
pub prefix_is_path : (bytes : List ℕ) (i : ℕ) → is_path bytes ≡ true → i < length bytes → get_or bytes i 0 ≡ 47 → is_path (take i bytes) ≡ true
prefix_is_path bytes i path below slash =
    let p = parts_of_path bytes path in
    let e : take i bytes ++ 47 ∷ drop (i + 1) bytes ≡ bytes = cut_at bytes i below slash in
    let nul : (has_no_nul (take i bytes) && has_no_nul (47 ∷ drop (i + 1) bytes)) ≡ true =
    sym (list_all-append (λ b. nat_lt 0 b && nat_lt b 256) (take i bytes) (47 ∷ drop (i + 1) bytes)) ∙ ap has_no_nul e ∙ p.no_nul in
    let cut : names (take i bytes ++ 47 ∷ drop (i + 1) bytes) ≡ names (take i bytes) ++ names (drop (i + 1) bytes) = slice_split-append is_slash (take i bytes) 47 (drop (i + 1) bytes) refl in
    let ns : (list_all is_name (names (take i bytes)) && list_all is_name (names (drop (i + 1) bytes))) ≡ true =
    sym (list_all-append is_name (names (take i bytes)) (names (drop (i + 1) bytes))) ∙ ap (list_all is_name) (sym cut ∙ ap names e) ∙ p.names in
    path_of_parts (take i bytes) record {
      some = name_some _ (and_left _ _ ns);
      fits = omega (arith, length-take i bytes, p.fits);
      no_nul = and_left _ _ nul;
      names = and_left _ _ ns;
    }

slash_is : (b : ℕ) → b ≡ 47 → is_slash b ≡ true
slash_is b h = grind (arith, nat_tests)

no_slash : (b : ℕ) → (b ≡ 47 → ⊥) → not (is_slash b) ≡ true
no_slash b h = grind (arith, nat_tests)

not_slash : (b : ℕ) → (b ≡ 47 → ⊥) → is_slash b ≡ false
not_slash b h = grind (arith, nat_tests)

pub parent_at : (bytes : List ℕ) (i : ℕ) → i < length bytes → get_or bytes i 0 ≡ 47 → ((k : ℕ) → i + 1 ≤ k → k < length bytes → get_or bytes k 0 ≡ 47 → ⊥) → parent_of bytes ≡ Some (take i bytes)
parent_at bytes i below slash after =
    let some : list_any is_slash bytes ≡ true = list_any_at is_slash bytes i 0 below (slash_is _ slash) in
    let tail : suffix_len (λ b. not (is_slash b)) bytes ≡ length bytes - (i + 1) =
    suffix_len_is (λ b. not (is_slash b)) bytes (i + 1) 0 (omega arith) (λ k a b. no_slash _ (after k a b))
    (λ h. ap not (slash_is _ (ap (λ (j : ℕ). get_or bytes j 0) (let e : i + 1 - 1 ≡ i = omega arith in e) ∙ slash))) in
    let start : length bytes - (length bytes - (i + 1)) - 1 ≡ i = omega arith in
    rw some (ap (λ (n : ℕ). Some (take (length bytes - n - 1) bytes)) tail ∙ ap (λ (n : ℕ). Some (take n bytes)) start)

pub no_parent : (bytes : List ℕ) → ((k : ℕ) → k < length bytes → get_or bytes k 0 ≡ 47 → ⊥) → parent_of bytes ≡ None
no_parent bytes none =
    let no : list_any is_slash bytes ≡ false = list_any_none is_slash bytes (λ k d b. not_slash _ (λ e. none k b (get_or_default bytes k 0 d b ∙ e))) in
    rw no refl

seam : (bytes rest : List ℕ) → take (length bytes) (bytes ++ rest) ≡ bytes
seam bytes rest = take-append_seam bytes rest

pub zeros_behind : (room : ℕ) (bytes : List ℕ) → length bytes ≤ room → bytes ++ drop (length bytes) (replicate room 0) ≡ bytes ++ replicate (room - length bytes) 0
zeros_behind room bytes fits = ap (λ (r : List ℕ). bytes ++ r) (drop-replicate (length bytes) room 0)

pub stored_field : (bytes : List ℕ) → is_path bytes ≡ true → IsPathField (bytes ++ drop (length bytes) (replicate path_limit 0)) (length bytes)
stored_field bytes path =
    let p = parts_of_path bytes path in
    record {
      path = rw seam path;
      count = ap length (seam _ _);
      zeros = rw seam (zeros_behind path_limit bytes p.fits);
    }

cases_bool : (b : Bool) → (b ≡ true) ⊎ (b ≡ false)
cases_bool true = inl refl
cases_bool false = inr refl

byte_from_test : (b : ℕ) → (nat_lt 0 b && nat_lt b 256) ≡ true → b < 256
byte_from_test b h = grind (arith, nat_tests)

-- the bytes of a path are bytes
pub path_bytes_fit : (bytes : List ℕ) → is_path bytes ≡ true → (i : ℕ) → get_or bytes i 0 < 256
path_bytes_fit bytes path i =
    let p = parts_of_path bytes path in
    let test : ℕ → Bool = λ b. nat_lt 0 b && nat_lt b 256 in
    elim (cases_lt i (length bytes)) [
      | inl h ↦ elim (cases_bool (test (get_or bytes i 0))) [
        | inl passes ↦ byte_from_test _ passes
        | inr fails ↦ absurd (false≢true (sym (list_all_at test bytes i 0 h fails) ∙ p.no_nul))
      ]
      | inr h ↦ omega (arith, get_or_past bytes i 0 h)
    ]

-- ---- parents

-- the place of the last slash
pub record IsLastSlash (bytes : List ℕ) (i : ℕ) : Type 0 where
  pub within : i < length bytes
  pub slash : get_or bytes i 0 ≡ 47
  pub after : (k : ℕ) → i + 1 ≤ k → k < length bytes → get_or bytes k 0 ≡ 47 → ⊥

HasSlash : List ℕ → Type 0
HasSlash bytes = (i : ℕ) × IsLastSlash bytes i

HasNoSlash : List ℕ → Type 0
HasNoSlash bytes = (k : ℕ) → k < length bytes → get_or bytes k 0 ≡ 47 → ⊥

one_more_none : (bytes : List ℕ) (n : ℕ) → (get_or bytes n 0 ≡ 47 → ⊥) → ((k : ℕ) → n + 1 ≤ k → k < length bytes → get_or bytes k 0 ≡ 47 → ⊥)
    → (k : ℕ) → n ≤ k → k < length bytes → get_or bytes k 0 ≡ 47 → ⊥
one_more_none bytes n here after k from within slash =
    elim (cases_eq k n) [
      | inl same ↦ here (ap (λ (j : ℕ). get_or bytes j 0) (sym same) ∙ slash)
      | inr other ↦ after k (omega arith) within slash
    ]

-- from the end back
seek_back : (bytes : List ℕ) (n : ℕ) → n ≤ length bytes → ((k : ℕ) → n ≤ k → k < length bytes → get_or bytes k 0 ≡ 47 → ⊥) → HasSlash bytes ⊎ HasNoSlash bytes
unfolding HasSlash HasNoSlash
seek_back bytes zero fits none = inr (λ k within slash. none k (omega arith) within slash)
seek_back bytes (suc n) fits none =
    let after : (k : ℕ) → n + 1 ≤ k → k < length bytes → get_or bytes k 0 ≡ 47 → ⊥ = λ k from within slash. none k (omega arith) within slash in
    elim (cases_eq (get_or bytes n 0) 47) [
      | inl slash ↦ inl (n, record { within = omega arith; slash = slash; after = after })
      | inr other ↦ seek_back bytes n (omega arith) (one_more_none bytes n other after)
    ]

-- a path's parent is a path
pub parent_is_path : (bytes parent : List ℕ) → is_path bytes ≡ true → parent_of bytes ≡ Some parent → is_path parent ≡ true
unfolding HasSlash HasNoSlash
parent_is_path bytes parent path is_parent =
    elim (seek_back bytes (length bytes) (omega arith) (λ k from within slash. omega arith)) [
      | inl last ↦ (
          let e = sym (parent_at bytes last.0 last.1.within last.1.slash last.1.after) ∙ is_parent in
          let prefix : take last.0 bytes ≡ parent = cc in
          subst (λ (l : List ℕ). is_path l ≡ true) prefix (prefix_is_path bytes last.0 path last.1.within last.1.slash))
      | inr none ↦ (let e = sym (no_parent bytes none) ∙ is_parent in cc)
    ]

-- a name has no slash
no_slash_at : (name : List ℕ) → list_any is_slash name ≡ false → (k : ℕ) → k < length name → get_or name k 0 ≡ 47 → ⊥
no_slash_at name none k within slash = false≢true (sym none ∙ list_any_at is_slash name k 0 within (slash_is _ slash))

-- one name alone
pub parent_of_name : (name : List ℕ) → list_any is_slash name ≡ false → parent_of name ≡ None
parent_of_name name none = no_parent name (no_slash_at name none)

after_prefix : (prefix name : List ℕ) (k : ℕ) → length prefix + 1 ≤ k → get_or (prefix ++ 47 ∷ name) k 0 ≡ get_or name (k - length prefix - 1) 0
after_prefix prefix name k from =
    let e : k - length prefix ≡ suc (k - length prefix - 1) = omega arith in
    get_or-append_right prefix (47 ∷ name) (length prefix) k 0 refl (omega arith) ∙ ap (λ (j : ℕ). get_or (47 ∷ name) j 0) e

-- the parent of `prefix/name` is `prefix`
pub parent_of_prefix : (prefix name : List ℕ) → list_any is_slash name ≡ false → parent_of (prefix ++ 47 ∷ name) ≡ Some prefix
parent_of_prefix prefix name none =
    let long = length-append prefix (47 ∷ name) in
    parent_at (prefix ++ 47 ∷ name) (length prefix) (omega arith) (get_or_at prefix 47 name 0 (length prefix) refl)
    (λ k from within slash. no_slash_at name none (k - length prefix - 1) (omega arith) (sym (after_prefix prefix name k from) ∙ slash))
    ∙ ap Some (take-append_seam prefix (47 ∷ name))

-- a path has no zero
pub no_zero : (xs : List ℕ) → has_no_nul xs ≡ true → HasNoZero xs
no_zero [] h = tt
no_zero (x ∷ xs) h =
    let first : 0 < x = grind (arith, nat_tests) in
    let rest : has_no_nul xs ≡ true = grind (arith, nat_tests) in
    (first, no_zero xs rest)
