-- One pass over the bytes of a path.
use Rattle.std.proofs.Common.{◌≡◌, ℕ, ◌+◌, ◌-◌, ◌<◌, ◌≤◌, Bool, true, false, ◌&&◌, nat_lt, List, [], ◌∷◌, ◌++◌, length, get_or, take, drop, refl, sym, ap, subst, ◌∙◌, arith}
use Rattle.std.specs.List.{All, list_all}
use Rattle.std.proofs.Math.Bool.{and-true}
use Rattle.std.proofs.lemmas.Bool.Decides.{nat_tests}
use Rattle.std.proofs.lemmas.List.{take-append-drop, drop-drop, take_more, take_all, drop_more, get_or-drop, length-drop}
use Rattle.std.proofs.lemmas.List.Elements.{All-nil, All-push}
use Rattle.std.proofs.lemmas.List.Folds.{list_all_more}
use Rattle.std.proofs.lemmas.List.Splits.{slice_split_at, slice_split_none}
use Rattle.fam_base.specs.Paths.{is_name, is_slash, names, has_no_nul}

-- the bytes of the name that begins at a place, up to another
abbrev pub part : List ℕ → ℕ → ℕ → List ℕ
part bytes start i = take (i - start) (drop start bytes)

-- the bytes before i are no 0, and in front of the name that begins at start are proper names
pub record Passed (bytes : List ℕ) (start i : ℕ) : Type 0 where
  pub within : start ≤ i
  pub no_nul : has_no_nul (take i bytes) ≡ true
  pub name : All (λ b. is_slash b ≡ false) (part bytes start i)
  pub names : list_all is_name (names bytes) ≡ list_all is_name (names (drop start bytes))

not_slash : (b : ℕ) → (b ≡ 47 → ⊥) → is_slash b ≡ false
not_slash b h = grind (arith, nat_tests)

not_nul : (b : ℕ) → b < 256 → (b ≡ 0 → ⊥) → (nat_lt 0 b && nat_lt b 256) ≡ true
not_nul b fits h = grind (arith, nat_tests)

no_nul_more : (bytes : List ℕ) (i : ℕ) → i < length bytes → has_no_nul (take i bytes) ≡ true → get_or bytes i 0 < 256 → (get_or bytes i 0 ≡ 0 → ⊥) → has_no_nul (take (i + 1) bytes) ≡ true
no_nul_more bytes i below before fits some =
    list_all_more (λ b. nat_lt 0 b && nat_lt b 256) bytes i 0 below
    ∙ ap (λ (t : Bool). t && (nat_lt 0 (get_or bytes i 0) && nat_lt (get_or bytes i 0) 256)) before
    ∙ not_nul (get_or bytes i 0) fits some

-- one byte more of a name
pub byte_passed : (bytes : List ℕ) (start i : ℕ) → Passed bytes start i → i < length bytes → get_or bytes i 0 < 256 → (get_or bytes i 0 ≡ 0 → ⊥)
    → (get_or bytes i 0 ≡ 47 → ⊥) → Passed bytes start (i + 1)
byte_passed bytes start i p below fits some other =
    let within : start ≤ i = p.within in
    let next : i + 1 - start ≡ i - start + 1 = omega arith in
    let place : start + (i - start) ≡ i = omega arith in
    let left : i - start < length (drop start bytes) = omega (arith, length-drop start bytes) in
    let longer : part bytes start (i + 1) ≡ part bytes start i ++ get_or bytes i 0 ∷ [] =
    ap (λ (n : ℕ). take n (drop start bytes)) next ∙ take_more (drop start bytes) (i - start) 0 left
    ∙ ap (λ (b : ℕ). part bytes start i ++ b ∷ []) (get_or-drop start bytes (i - start) 0 ∙ ap (λ (n : ℕ). get_or bytes n 0) place) in
    record {
      within = omega arith;
      no_nul = no_nul_more bytes i below p.no_nul fits some;
      name = subst (All (λ b. is_slash b ≡ false)) (sym longer) (All-push (λ b. is_slash b ≡ false) _ _ p.name (not_slash (get_or bytes i 0) other));
      names = p.names;
    }

-- the bytes from the name on, up to a slash and behind it
cut_behind : (bytes : List ℕ) (start i : ℕ) → start ≤ i → i < length bytes → get_or bytes i 0 ≡ 47 → drop start bytes ≡ part bytes start i ++ 47 ∷ drop (i + 1) bytes
cut_behind bytes start i within below slash =
    let place : start + (i - start) ≡ i = omega arith in
    sym (take-append-drop (i - start) (drop start bytes))
    ∙ ap (λ (l : List ℕ). part bytes start i ++ l)
    (drop-drop (i - start) start bytes ∙ ap (λ (n : ℕ). drop n bytes) place ∙ drop_more bytes i 0 below ∙ ap (λ (b : ℕ). b ∷ drop (i + 1) bytes) slash)

-- the names from one on that a slash ends
names_at : (bytes : List ℕ) (start i : ℕ) → Passed bytes start i → i < length bytes → get_or bytes i 0 ≡ 47
    → list_all is_name (names bytes) ≡ (is_name (part bytes start i) && list_all is_name (names (drop (i + 1) bytes)))
names_at bytes start i p below slash =
    p.names ∙ ap (λ (l : List ℕ). list_all is_name (names l)) (cut_behind bytes start i p.within below slash)
    ∙ ap (list_all is_name) (slice_split_at is_slash (part bytes start i) 47 (drop (i + 1) bytes) p.name refl)

-- a slash behind a name
pub slash_passed : (bytes : List ℕ) (start i : ℕ) → Passed bytes start i → i < length bytes → get_or bytes i 0 ≡ 47 → is_name (part bytes start i) ≡ true → Passed bytes (i + 1) (i + 1)
slash_passed bytes start i p below slash proper =
    let none : i + 1 - (i + 1) ≡ 0 = omega arith in
    record {
      within = omega arith;
      no_nul = no_nul_more bytes i below p.no_nul (omega (arith, slash)) (λ zero. omega (arith, slash, zero));
      name = subst (λ (n : ℕ). All (λ b. is_slash b ≡ false) (take n (drop (i + 1) bytes))) (sym none) (All-nil _);
      names = names_at bytes start i p below slash ∙ ap (λ (t : Bool). t && list_all is_name (names (drop (i + 1) bytes))) proper;
    }

-- a slash behind what is no name
pub bad_name : (bytes : List ℕ) (start i : ℕ) → Passed bytes start i → i < length bytes → get_or bytes i 0 ≡ 47 → is_name (part bytes start i) ≡ false
    → (has_no_nul bytes && list_all is_name (names bytes)) ≡ false
bad_name bytes start i p below slash bad =
    let none : list_all is_name (names bytes) ≡ false = names_at bytes start i p below slash ∙ ap (λ (t : Bool). t && list_all is_name (names (drop (i + 1) bytes))) bad in
    grind (arith, nat_tests)

-- the last name
pub all_passed : (bytes : List ℕ) (start i : ℕ) → Passed bytes start i → i ≡ length bytes → is_name (part bytes start (length bytes)) ≡ (has_no_nul bytes && list_all is_name (names bytes))
all_passed bytes start i p end =
    let whole : part bytes start (length bytes) ≡ drop start bytes = take_all (length bytes - start) (drop start bytes) (omega (arith, length-drop start bytes)) in
    let plain : All (λ b. is_slash b ≡ false) (drop start bytes) =
    subst (All (λ b. is_slash b ≡ false)) (ap (λ (n : ℕ). part bytes start n) end ∙ whole) p.name in
    let some : has_no_nul bytes ≡ true = ap has_no_nul (sym (take_all i bytes (omega (arith, end)))) ∙ p.no_nul in
    let last : list_all is_name (names bytes) ≡ is_name (drop start bytes) =
    p.names ∙ ap (list_all is_name) (slice_split_none is_slash (drop start bytes) plain) ∙ and-true (is_name (drop start bytes)) in
    ap is_name whole ∙ sym last ∙ sym (ap (λ (t : Bool). t && list_all is_name (names bytes)) some)
