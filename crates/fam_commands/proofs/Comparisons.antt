-- A file's bytes beside a content: line by line, and as a whole.
use Rattle.std.proofs.Common.{ℕ, ◌≡◌, ◌<◌, ◌≤◌, ◌+◌, ◌-◌, ◌*◌, ◌/◌, ◌%◌, inl, inr, Bool, true, false, List, length, get_or, map, drop, Option, Some, None, sym, ◌∙◌, ap, arith}
use Rattle.std.specs.Prelude.{find, not, ◌==◌, min, slice_index}
use Rattle.std.specs.List.{range_with_len}
use Rattle.std.proofs.lemmas.Bool.{cases_lt, not-false, not_from_true, false≢true}
use Rattle.std.proofs.lemmas.List.{get_or-drop, get_or-take, same_lists, length-take, length-drop}
use Rattle.std.proofs.lemmas.List.FromFn.{length-map-range_with_len, get_or-map-range_with_len}
use Rattle.fam_base.specs.Image.{byte_of}
use Rattle.fam_base.specs.declared.cmd.Content.{Content}
use Rattle.fam_base.specs.declared.entry.Entry.{Entry}
use Rattle.fam_rules.specs.Asks.{first_difference, file_bytes_from}
use Rattle.fam_rules.specs.Content.{byte_in, content_byte}
use Rattle.fam_commands.proofs.Finds.{IsFirst, IsSearched, searched, first_is, none_is}
use Rattle.fam_commands.proofs.Steps.Ties.{IsSame}

-- a byte behind the first n words
byte_behind : (words : List ℕ) (n o : ℕ) → byte_in (drop n words) o ≡ byte_of (slice_index words (n + o / 8)) (o % 8)
byte_behind words n o = ap (λ (w : ℕ). byte_of w (o % 8)) (get_or-drop n words (o / 8) 0)

-- byte b of line j, by its offset in the file
pub byte_of_line : (words : List ℕ) (n j b : ℕ) → byte_in (drop (n + 8 * j) words) b ≡ byte_in (drop n words) (64 * j + b)
byte_of_line words n j b =
    byte_behind words (n + 8 * j) b
    ∙ ap (λ (i : ℕ). byte_of (slice_index words i) (b % 8)) (let z : n + 8 * j + b / 8 ≡ n + (64 * j + b) / 8 = omega arith in z)
    ∙ ap (λ (r : ℕ). byte_of (slice_index words (n + (64 * j + b) / 8)) r) (let z : b % 8 ≡ (64 * j + b) % 8 = omega arith in z)
    ∙ sym (byte_behind words n (64 * j + b))

-- the bytes of a file, of which the first loaded one is byte `start`
abbrev pub bytes_by : List ℕ → ℕ → ℕ → List ℕ
bytes_by loaded start size = map (λ o. byte_in loaded (o - start)) (range_with_len 0 size)

-- as many bytes as the size says
pub length-bytes : (loaded : List ℕ) (start size : ℕ) → length (bytes_by loaded start size) ≡ size
length-bytes loaded start size = length-map-range_with_len (λ o. byte_in loaded (o - start)) 0 size

byte_at : (loaded : List ℕ) (start size o d : ℕ) → o < size → get_or (bytes_by loaded start size) o d ≡ byte_in loaded (o - start)
byte_at loaded start size o d below = get_or-map-range_with_len (λ o. byte_in loaded (o - start)) 0 size o o d below (omega arith)

-- A file that is compared from its first byte on.

module _ (against : Content) (e : Entry) (words : List ℕ) (n : ℕ) where
  -- the bytes of the file, as the words give them
  abbrev pub bytes : List ℕ
  bytes = bytes_by (drop n words) 0 e.size

  -- byte o isn't the content's
  abbrev pub differs : ℕ → Bool
  differs o = not (slice_index bytes o == content_byte against o)

  first_is_found : first_difference bytes against ≡ find differs (range_with_len 0 e.size)
  first_is_found = ap (λ (k : ℕ). find differs (range_with_len 0 k)) (length-bytes (drop n words) 0 e.size)

  -- a byte below the size is that of the words
  pub byte_told : (o : ℕ) → o < e.size → slice_index bytes o ≡ byte_in (drop n words) o
  byte_told o below = byte_at (drop n words) 0 e.size o 0 below ∙ ap (byte_in (drop n words)) (let z : o - 0 ≡ o = omega arith in z)

  -- a byte that is the content's
  agrees : (o : ℕ) → o < e.size → (byte_in (drop n words) o == content_byte against o) ≡ true → differs o ≡ false
  agrees o below same = not_from_true _ (ap (λ (b : ℕ). b == content_byte against o) (byte_told o below) ∙ same)

  -- no line has a difference
  pub no_difference : (j : ℕ) → IsSame against e (drop n words) j → e.size ≤ 64 * j → first_difference bytes against ≡ None
  no_difference j same all = first_is_found ∙ none_is differs e.size (λ o below. agrees o below (same o (omega arith) below)) (find differs (range_with_len 0 e.size)) (searched differs e.size 0)

  -- a difference is behind the lines that have none
  late : (j : ℕ) → IsSame against e (drop n words) j → (r : Option ℕ) → IsSearched differs 0 e.size r → (o : ℕ) → r ≡ Some o → 64 * j ≤ o
  late j same None h o is = absurd cc
  late j same (Some k) h o is =
      let here : k ≡ o = cc in
      elim (cases_lt k (64 * j)) [
        | inl prefix ↦ absurd (false≢true (sym (agrees k (let e = h.below in omega arith) (same k prefix (let e = h.below in omega arith))) ∙ h.passes))
        | inr past ↦ omega arith
      ]

  -- where all lines before agree, the first difference isn't in them
  pub late_difference : (j o : ℕ) → IsSame against e (drop n words) j → first_difference bytes against ≡ Some o → 64 * j ≤ o
  late_difference j o same is = late j same (find differs (range_with_len 0 e.size)) (searched differs e.size 0) o (sym first_is_found ∙ is)

  -- One line more.

  -- byte b of line j isn't the content's
  abbrev pub line_differs : ℕ → ℕ → Bool
  line_differs j b = not (byte_in (drop (n + 8 * j) words) b == content_byte against (64 * j + b))

  line_told : (j b : ℕ) → 64 * j + b < e.size → differs (64 * j + b) ≡ line_differs j b
  line_told j b below = ap (λ (x : ℕ). not (x == content_byte against (64 * j + b))) (byte_told (64 * j + b) below ∙ sym (byte_of_line words n j b))

  -- the first difference of the line is then the file's
  pub line_difference_found : (j b : ℕ) → IsSame against e (drop n words) j → IsFirst (line_differs j) 0 (min 64 (e.size - 64 * j)) b → first_difference bytes against ≡ Some (64 * j + b)
  line_difference_found j b same h =
      let below = h.below in
      first_is_found
      ∙ first_is differs e.size (64 * j + b) (omega arith) (line_told j b (omega arith) ∙ h.passes)
      (λ o prefix. elim (cases_lt o (64 * j)) [
        | inl early ↦ agrees o (omega arith) (same o early (omega arith))
        | inr past ↦
            let z : o ≡ 64 * j + (o - 64 * j) = omega arith in
            ap differs z ∙ line_told j (o - 64 * j) (omega arith) ∙ h.before (o - 64 * j) (omega arith) (omega arith)
      ])
      (find differs (range_with_len 0 e.size))
      (searched differs e.size 0)

  -- a line without one agrees
  pub same_more : (j : ℕ) → IsSame against e (drop n words) j → IsSearched (line_differs j) 0 (min 64 (e.size - 64 * j)) None → IsSame against e (drop n words) (j + 1)
  same_more j same none = λ o prefix inside.
      elim (cases_lt o (64 * j)) [
        | inl early ↦ same o early inside
        | inr past ↦
            let z : o ≡ 64 * j + (o - 64 * j) = omega arith in
            ap (λ (k : ℕ). byte_in (drop n words) k == content_byte against k) z
            ∙ ap (λ (x : ℕ). x == content_byte against (64 * j + (o - 64 * j))) (sym (byte_of_line words n j (o - 64 * j)))
            ∙ not-false _ (none (o - 64 * j) (omega arith) (omega arith))
      ]

-- A file that is read from an offset on.

-- the bytes that a read gives, by the words
pub wanted_bytes : (loaded : List ℕ) (offset count size : ℕ) → file_bytes_from offset count (bytes_by loaded (64 * (offset / 64)) size)
    ≡ map (λ i. byte_in loaded (offset % 64 + i)) (range_with_len 0 (min size (offset + count) - offset))
wanted_bytes loaded offset count size =
    same_lists (file_bytes_from offset count all) (map (λ i. byte_in loaded (offset % 64 + i)) (range_with_len 0 (min size (offset + count) - offset)))
    (omega (
      arith,
      length-take count (drop offset all),
      length-drop offset all,
      length-bytes loaded (64 * (offset / 64)) size,
      length-map-range_with_len (λ i. byte_in loaded (offset % 64 + i)) 0 (min size (offset + count) - offset),
    ))
    (λ k d below.
    let small : k < min size (offset + count) - offset = omega (arith, length-take count (drop offset all), length-drop offset all, length-bytes loaded (64 * (offset / 64)) size) in
    get_or-take count (drop offset all) k d (omega arith)
    ∙ get_or-drop offset all k d
    ∙ byte_at loaded (64 * (offset / 64)) size (offset + k) d (omega arith)
    ∙ ap (byte_in loaded) (let z : offset + k - 64 * (offset / 64) ≡ offset % 64 + k = omega arith in z)
    ∙ sym (get_or-map-range_with_len (λ i. byte_in loaded (offset % 64 + i)) 0 (min size (offset + count) - offset) k k d small (omega arith)))
  where
    all : List ℕ
    all = bytes_by loaded (64 * (offset / 64)) size
