-- The words of a part's lines, as they are loaded one by one.
use Rattle.std.proofs.Common.{ℕ, zero, suc, refl, [], ◌∷◌, ◌++◌, ◌+◌, ◌-◌, ◌*◌, ◌/◌, ◌%◌, ◌≤◌, ◌<◌, ◌≡◌, List, length, map, take, drop, sym, ◌∙◌, ap, arith}
use Rattle.std.specs.Prelude.{slice_index}
use Rattle.std.specs.List.{range_with_len}
use Rattle.std.proofs.lemmas.List.{drop-map, take_all}
use Rattle.std.proofs.lemmas.List.FromFn.{take-map-range_with_len, map-range_with_len_more, length-map-range_with_len, fill_by_all}
use Rattle.fam_base.specs.declared.cmd.Cmd.{Cmd}
use Rattle.fam_base.specs.declared.cmd.Cmd.TheVariants.{Verify}
use Rattle.fam_format.specs.Layout.{log_line}
use Rattle.fam_format.specs.Reading.{slot_words, slot_word}
use Rattle.fam_format.proofs.Formats.{shape}
use Rattle.fam_commands.specs.declared.phase.Part.{Part}
use Rattle.fam_commands.specs.declared.phase.Part.TheVariants.{Superblock, Header, Slot, File as FileLines}
use Rattle.fam_commands.specs.Task.{Task, part_count, part_line}
use Rattle.fam_protocol.specs.Tasks.{HasLoaded, part_words, kept_from}

-- a range without its first places
pub drop_range : (x a n : ℕ) → a ≤ n → drop a (range_with_len x n) ≡ range_with_len (x + a) (n - a)
drop_range x zero n le =
    let e : x + 0 ≡ x = omega arith in
    let f : n - 0 ≡ n = omega arith in
    rw (e, f) refl
drop_range x (suc a) zero le = absurd (omega arith)
drop_range x (suc a) (suc n) le =
    let e : (x + 1) + a ≡ x + suc a = omega arith in
    let f : n - a ≡ suc n - suc a = omega arith in
    drop_range (x + 1) a n (omega arith) ∙ ap (λ (y : ℕ). range_with_len y (n - a)) e ∙ ap (λ (y : ℕ). range_with_len (x + suc a) y) f

-- b values of a function, from the one of a on
pub window : (f : ℕ → ℕ) (a b n : ℕ) → a + b ≤ n → take b (drop a (map f (range_with_len 0 n))) ≡ map f (range_with_len a b)
window f a b n le =
    let e : 0 + a ≡ a = omega arith in
    ap (λ (l : List ℕ). take b l) (drop-map f a (range_with_len 0 n) ∙ ap (λ (l : List ℕ). map f l) (drop_range 0 a n (omega arith)))
    ∙ take-map-range_with_len f (0 + a) (n - a) b (omega arith) ∙ ap (λ (x : ℕ). map f (range_with_len x b)) e

-- word n of a part
abbrev pub part_word : (ℕ → List ℕ) → Task → Part → ℕ → ℕ
part_word memory t part n = slice_index (memory (part_line t part (n / 8))) (n % 8)

-- what was loaded: the words before line j that are kept, and the first k of line j
abbrev pub loaded : (ℕ → List ℕ) → Task → Part → ℕ → ℕ → List ℕ
loaded memory t part j k = take (8 * j + k - kept_from t.cmd part j) (drop (kept_from t.cmd part j) (part_words memory t part))

-- the first word that is kept is none of this line's
pub kept_le : (cmd : Cmd) (part : Part) (j : ℕ) → kept_from cmd part j ≤ 8 * j
kept_le (Verify path against) FileLines j = omega arith
kept_le cmd part j = omega arith

-- only a file that is compared is looked at line by line
pub kept_super : (cmd : Cmd) (j : ℕ) → kept_from cmd Superblock j ≡ 0
kept_super (Verify path against) j = refl
kept_super cmd j = refl

-- nor the header
pub kept_header : (cmd : Cmd) (j : ℕ) → kept_from cmd Header j ≡ 0
kept_header (Verify path against) j = refl
kept_header cmd j = refl

-- nor a slot
pub kept_slot : (cmd : Cmd) (i j : ℕ) → kept_from cmd (Slot i) j ≡ 0
kept_slot (Verify path against) i j = refl
kept_slot cmd i j = refl

-- the words that were loaded, one by one
pub loaded_is : (memory : ℕ → List ℕ) (t : Task) (part : Part) (j k : ℕ) → 8 * j + k ≤ 8 * part_count t part
    → loaded memory t part j k ≡ map (part_word memory t part) (range_with_len (kept_from t.cmd part j) (8 * j + k - kept_from t.cmd part j))
loaded_is memory t part j k le =
    let kept : kept_from t.cmd part j ≤ 8 * j = kept_le t.cmd part j in
    window (part_word memory t part) (kept_from t.cmd part j) (8 * j + k - kept_from t.cmd part j) (8 * part_count t part) (omega arith)

-- one word more
pub loaded_more : (memory : ℕ → List ℕ) (t : Task) (part : Part) (j k word : ℕ) → j < part_count t part → k < 8 → HasLoaded memory t part j k
    → word ≡ slice_index (memory (part_line t part j)) k → t.words ++ word ∷ [] ≡ loaded memory t part j (k + 1)
loaded_more memory t part j k word lt below has is =
    let kept : kept_from t.cmd part j ≤ 8 * j = kept_le t.cmd part j in
    let line : (8 * j + k) / 8 ≡ j = omega arith in
    let phase : (8 * j + k) % 8 ≡ k = omega arith in
    let word_is : word ≡ part_word memory t part (8 * j + k) = is ∙ ap (λ (l : ℕ). slice_index (memory (part_line t part l)) k) (sym line)
    ∙ ap (λ (w : ℕ). slice_index (memory (part_line t part ((8 * j + k) / 8))) w) (sym phase) in
    let count : 8 * j + k - kept_from t.cmd part j + 1 ≡ 8 * j + (k + 1) - kept_from t.cmd part j = omega arith in
    ap (λ (l : List ℕ). l ++ word ∷ []) (has ∙ loaded_is memory t part j k (omega arith))
    ∙ ap (λ (x : ℕ). map (part_word memory t part) (range_with_len (kept_from t.cmd part j) (8 * j + k - kept_from t.cmd part j)) ++ x ∷ []) word_is
    ∙ sym (map-range_with_len_more (part_word memory t part) (kept_from t.cmd part j) (8 * j + k - kept_from t.cmd part j) (8 * j + k) (omega arith))
    ∙ ap (λ (n : ℕ). map (part_word memory t part) (range_with_len (kept_from t.cmd part j) n)) count
    ∙ sym (loaded_is memory t part j (k + 1) (omega arith))

-- nothing is loaded before the first word
pub loaded_none : (memory : ℕ → List ℕ) (t : Task) (part : Part) → [] ≡ loaded memory t part 0 0
loaded_none memory t part =
    let e : 8 * 0 + 0 - kept_from t.cmd part 0 ≡ 0 = omega arith in
    ap (λ (n : ℕ). take n (drop (kept_from t.cmd part 0) (part_words memory t part))) (sym e)

-- the end of a line is the beginning of the next one, where no line is let go
pub loaded_next : (memory : ℕ → List ℕ) (t : Task) (part : Part) (j : ℕ) → kept_from t.cmd part j ≡ 0 → kept_from t.cmd part (j + 1) ≡ 0 → loaded memory t part j 8 ≡ loaded memory t part (j + 1) 0
loaded_next memory t part j here there =
    let e : 8 * j + 8 - kept_from t.cmd part j ≡ 8 * (j + 1) + 0 - kept_from t.cmd part (j + 1) = omega arith in
    let f : kept_from t.cmd part j ≡ kept_from t.cmd part (j + 1) = here ∙ sym there in
    ap (λ (n : ℕ). take n (drop (kept_from t.cmd part j) (part_words memory t part))) e ∙ ap (λ (k : ℕ). take (8 * (j + 1) + 0 - kept_from t.cmd part (j + 1)) (drop k (part_words memory t part))) f

-- all words of a part
pub loaded_whole : (memory : ℕ → List ℕ) (t : Task) (part : Part) (j : ℕ) → kept_from t.cmd part j ≡ 0 → part_count t part ≤ j + 1 → loaded memory t part j 8 ≡ part_words memory t part
loaded_whole memory t part j none last =
    let long : length (part_words memory t part) ≡ 8 * part_count t part = length-map-range_with_len (part_word memory t part) 0 (8 * part_count t part) in
    ap (λ (k : ℕ). take (8 * j + 8 - kept_from t.cmd part j) (drop k (part_words memory t part))) none ∙ take_all (8 * j + 8 - kept_from t.cmd part j) (part_words memory t part) (omega arith)

-- a line by its eight words
pub eight_is : (l : List ℕ) → length l ≡ 8 → map (λ k. slice_index l k) (range_with_len 0 8) ≡ l
eight_is l long = sym (fill_by_all (λ k. slice_index l k) l 8 0 long (λ k lt. refl))

-- the words of lines 1 and 2
pub super_words_are : (memory : ℕ → List ℕ) (t : Task) → length (memory 1) ≡ 8 → length (memory 2) ≡ 8 → part_words memory t Superblock ≡ memory 1 ++ memory 2
super_words_are memory t one two =
    ap (λ (l : List ℕ). l ++ map (λ k. slice_index (memory 2) k) (range_with_len 0 8)) (eight_is (memory 1) one) ∙ ap (λ (l : List ℕ). memory 1 ++ l) (eight_is (memory 2) two)

-- the words of the header
pub header_words_are : (memory : ℕ → List ℕ) (t : Task) → length (memory log_line) ≡ 8 → part_words memory t Header ≡ memory log_line
header_words_are memory t long = eight_is (memory log_line) long

-- the words of a slot
pub slot_words_are : (memory : ℕ → List ℕ) (t : Task) (i : ℕ) → part_words memory t (Slot i) ≡ slot_words memory t.params i
unfolding slot_words
slot_words_are memory t i = ap (λ (n : ℕ). map (slot_word memory t.params i) (range_with_len 0 n)) (sym (shape t.params).words)
