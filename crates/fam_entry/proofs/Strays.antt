-- A word of zero is no stray.
use Rattle.std.proofs.Common.{◌≡◌, ◌/◌, zero, suc, inl, inr, ◌==◌, ◌&&◌, ◌+◌, ◌-◌, ◌*◌, ◌^◌, ◌%◌, ◌<◌, ◌≤◌, ℕ, Bool, true, false, cond, not, nat_le, List, slice_index, length, take, drop, refl, sym, ap, ◌∙◌, arith}
use Rattle.std.specs.Prelude.{nat_lt}
use Rattle.std.specs.List.{list_any, range_with_len}
use Rattle.std.proofs.Math.Nat.{zero-div, div-div-eq-div-mul, pow-suc}
use Rattle.std.proofs.lemmas.Nat.{pow-add}
use Rattle.std.proofs.lemmas.Bool.{cases_lt, cases_eq}
use Rattle.std.proofs.lemmas.Bool.Decides.{nat_tests}
use Rattle.std.proofs.lemmas.List.{get_or-take, get_or-drop, length-take}
use Rattle.fam_base.specs.Image.{byte_of}
use Rattle.fam_format.specs.Slot.{extents_word, is_stray, is_stray_byte, path_word}
use Rattle.fam_format.proofs.Stops.{any_false}

-- eight bits are a byte
bytes_of_bits : (j : ℕ) → 2 ^ (8 * j) ≡ 256 ^ j
bytes_of_bits zero = refl
bytes_of_bits (suc j) =
    let e : 8 * suc j ≡ 8 * j + 8 = omega arith in
    ap (λ (n : ℕ). 2 ^ n) e ∙ pow-add 2 (8 * j) 8 ∙ ap (λ (p : ℕ). p * 256) (bytes_of_bits j) ∙ sym (pow-suc 256 j)

and_false : (b : Bool) → (b && false) ≡ false
and_false true = refl
and_false false = refl

-- a word of zero has no stray byte
pub no_stray : (words : List ℕ) (i b : ℕ) → slice_index words i ≡ 0 → is_stray_byte words i b ≡ false
no_stray words i b is =
    let past : Bool = nat_le (slice_index words 6) (8 * (i - path_word) + b) in
    ap (λ (word : ℕ). past && not (byte_of word b == 0)) is ∙ ap (λ (low : ℕ). past && not (low % 256 == 0)) (zero-div (256 ^ b)) ∙ and_false past

by_part : (b x y : Bool) → x ≡ false → y ≡ false → cond b x y ≡ false
by_part true x y is_x is_y = is_x
by_part false x y is_x is_y = is_y

pub zero_is_none : (words : List ℕ) (i : ℕ) → slice_index words i ≡ 0 → is_stray words i ≡ false
zero_is_none words i is =
    let past : Bool = nat_le (extents_word + 2 * slice_index words 9) i in
    by_part (nat_lt i path_word) (past && not (slice_index words i == 0)) (list_any (is_stray_byte words i) (range_with_len 0 8))
    (ap (λ (word : ℕ). past && not (word == 0)) is ∙ and_false past)
    (any_false (is_stray_byte words i) 0 8 (λ k low below. no_stray words i k is))

-- nor has a word of the path, which has eight bytes or more from its first on
pub inside : (words : List ℕ) (i b : ℕ) → 8 * (i - path_word) + 8 ≤ slice_index words 6 → b < 8 → is_stray_byte words i b ≡ false
inside words i b full below =
    let before : nat_le (slice_index words 6) (8 * (i - path_word) + b) ≡ false = grind (arith, nat_tests) in
    ap (λ (past : Bool). past && not (byte_of (slice_index words i) b == 0)) before

-- bytes from one on that are all zero
pub zero_above : (word u b : ℕ) → word / 2 ^ (8 * u) ≡ 0 → u ≤ b → byte_of word b ≡ 0
zero_above word u b none from =
    let place : u + (b - u) ≡ b = omega arith in
    let apart : 2 ^ (8 * u) * 256 ^ (b - u) ≡ 256 ^ b = ap (λ (p : ℕ). p * 256 ^ (b - u)) (bytes_of_bits u) ∙ sym (pow-add 256 u (b - u)) ∙ ap (λ (k : ℕ). 256 ^ k) place in
    ap (λ (p : ℕ). word / p % 256) (sym apart) ∙ ap (λ (q : ℕ). q % 256)
    (sym (div-div-eq-div-mul word (2 ^ (8 * u)) (256 ^ (b - u))) ∙ ap (λ (q : ℕ). q / 256 ^ (b - u)) none ∙ zero-div (256 ^ (b - u)))

-- nor has a word that is zero from the path's end on
pub outside : (words : List ℕ) (i u b : ℕ) → u ≡ slice_index words 6 - 8 * (i - path_word) → slice_index words i / 2 ^ (8 * u) ≡ 0 → is_stray_byte words i b ≡ false
outside words i u b used none =
    elim (cases_lt (8 * (i - path_word) + b) (slice_index words 6)) [
      | inl within ↦
          let before : nat_le (slice_index words 6) (8 * (i - path_word) + b) ≡ false = grind (arith, nat_tests) in
          ap (λ (past : Bool). past && not (byte_of (slice_index words i) b == 0)) before
      | inr past ↦
          let zero : byte_of (slice_index words i) b ≡ 0 = zero_above (slice_index words i) u b none (omega (arith, used, past)) in
          ap (λ (byte : ℕ). nat_le (slice_index words 6) (8 * (i - path_word) + b) && not (byte == 0)) zero ∙ and_false (nat_le (slice_index words 6) (8 * (i - path_word) + b))
    ]

-- one of so many words in a part that are 0
pub zero_within : (words : List ℕ) (i n count k : ℕ) → i ≤ k → k < i + count → count ≤ length (take n (drop i words))
    → ((j : ℕ) → j < count → slice_index (take n (drop i words)) j ≡ 0) → slice_index words k ≡ 0
zero_within words i n count k from below long zeros =
    let place : i + (k - i) ≡ k = omega arith in
    let room : k - i < n = omega (arith, length-take n (drop i words)) in
    sym (get_or-take n (drop i words) (k - i) 0 room ∙ get_or-drop i words (k - i) 0 ∙ ap (λ (m : ℕ). slice_index words m) place) ∙ zeros (k - i) (omega arith)

-- a word of the path is none where none of its bytes is
in_path : (words : List ℕ) (k : ℕ) → path_word ≤ k → list_any (is_stray_byte words k) (range_with_len 0 8) ≡ false → is_stray words k ≡ false
in_path words k from none =
    let later : nat_lt k path_word ≡ false = grind (arith, nat_tests) in
    ap (λ (b : Bool). cond b (nat_le (extents_word + 2 * slice_index words 9) k && not (slice_index words k == 0)) (list_any (is_stray_byte words k) (range_with_len 0 8))) later ∙ none

-- a word that the path fills
filled : (words : List ℕ) (k : ℕ) → path_word ≤ k → 8 * (k - path_word) + 8 ≤ slice_index words 6 → is_stray words k ≡ false
filled words k from full = in_path words k from (any_false (is_stray_byte words k) 0 8 (λ b low below. inside words k b full below))

-- no word is one where all are 0 between the fields and the path and behind the path, whose last word has no stray byte
pub no_strays : (words : List ℕ) (last full : ℕ) → full ≡ path_word + slice_index words 6 / 8 → ((k : ℕ) → 7 ≤ k → k < 42 → slice_index words k ≡ 0)
    → (full < last → is_stray words full ≡ false) → ((k : ℕ) → full + 1 ≤ k → k < last → slice_index words k ≡ 0) → (k : ℕ) → extents_word ≤ k
    → k < last → is_stray words k ≡ false
no_strays words last full is gap at behind k from below =
    elim (cases_lt k path_word) [
      | inl early ↦ zero_is_none words k (gap k (omega arith) early)
      | inr late ↦
          elim (cases_lt k full) [
            | inl before ↦ filled words k late (omega (arith, is, before))
            | inr after ↦
                elim (cases_eq k full) [
                  | inl same ↦ ap (is_stray words) same ∙ at (omega (arith, same, below))
                  | inr other ↦ zero_is_none words k (behind k (omega (arith, other, after)) below)
                ]
          ]
    ]

-- the same where all are 0 from an end on
pub no_strays_at : (words : List ℕ) (last full end : ℕ) → full ≡ path_word + slice_index words 6 / 8 → end ≤ full + 1
    → ((k : ℕ) → 7 ≤ k → k < 42 → slice_index words k ≡ 0) → ((k : ℕ) → end ≤ k → k < last → slice_index words k ≡ 0)
    → list_any (is_stray_byte words full) (range_with_len 0 8) ≡ false → (k : ℕ) → extents_word ≤ k → k < last → is_stray words k ≡ false
no_strays_at words last full end is early gap behind none =
    no_strays words last full is gap (λ below. in_path words full (omega (arith, is)) none) (λ k from below. behind k (omega (arith, from, early)) below)
