-- The words that a task on a damaged image has loaded of a part, and what they are at its end.
use Rattle.std.proofs.Common.{ℕ, ◌≡◌, ◌+◌, ◌-◌, ◌*◌, ◌/◌, ◌%◌, ◌<◌, ◌≤◌, List, [], ◌∷◌, ◌++◌, take, drop, refl, sym, ◌∙◌, ap, subst, arith}
use Rattle.std.specs.Prelude.{⊤, slice_index, map}
use Rattle.std.specs.List.{range_with_len}
use Rattle.std.proofs.lemmas.List.{take_all}
use Rattle.std.proofs.lemmas.List.FromFn.{length-map-range_with_len, take-map-range_with_len, map-range_with_len_more}
use Rattle.fam_base.specs.declared.cmd.Cmd.{Cmd}
use Rattle.fam_base.specs.declared.cmd.Cmd.TheVariants.{Verify}
use Rattle.fam_format.specs.Reading.{Lines}
use Rattle.fam_commands.specs.declared.phase.Part.{Part}
use Rattle.fam_commands.specs.declared.phase.Part.TheVariants.{Superblock, Header, Slot, File as FileLines}
use Rattle.fam_commands.specs.Task.{Task, part_count, part_line}
use Rattle.fam_protocol.specs.Tasks.{HasLoaded, part_words, kept_from}
pub use Rattle.fam_protocol.proofs.Turns.PartWords.{slot_words_are}

-- a part of the file system's own
abbrev pub IsMeta : Part → Type 0
IsMeta Superblock = ⊤
IsMeta Header = ⊤
IsMeta (Slot i) = ⊤
IsMeta FileLines = ⊥

-- all its words are kept
kept_all : (cmd : Cmd) (part : Part) (j : ℕ) → IsMeta part → kept_from cmd part j ≡ 0
kept_all (Verify path against) Superblock j meta = refl
kept_all (Verify path against) Header j meta = refl
kept_all (Verify path against) (Slot i) j meta = refl
kept_all (Verify path against) FileLines j meta = absurd meta
kept_all e part j meta = refl

none_left_out : (n z : ℕ) (words : List ℕ) → z ≡ 0 → take (n - z) (drop z words) ≡ take n words
none_left_out n z words none =
    let same : n - 0 ≡ n = omega arith in
    subst (λ (y : ℕ). take (n - y) (drop y words) ≡ take n words) (sym none) (ap (λ (m : ℕ). take m words) same)

module _ (image : Lines) (t : Task) (part : Part) (meta : IsMeta part) where
  -- word n of the part
  abbrev nth : ℕ → ℕ
  nth n = slice_index (image (part_line t part (n / 8))) (n % 8)

  -- a task that reads no file keeps all words of a part
  pub loaded_is : (j k : ℕ) → HasLoaded image t part j k → t.words ≡ take (8 * j + k) (part_words image t part)
  loaded_is j k h = h ∙ none_left_out (8 * j + k) (kept_from t.cmd part j) (part_words image t part) (kept_all t.cmd part j meta)

  -- and the other way round
  pub is_loaded : (j k : ℕ) → t.words ≡ take (8 * j + k) (part_words image t part) → HasLoaded image t part j k
  is_loaded j k h = h ∙ sym (none_left_out (8 * j + k) (kept_from t.cmd part j) (part_words image t part) (kept_all t.cmd part j meta))

  prefix : (n : ℕ) → n ≤ 8 * part_count t part → take n (part_words image t part) ≡ map nth (range_with_len 0 n)
  prefix n fits = take-map-range_with_len nth 0 (8 * part_count t part) n fits

  -- the next word of a line
  pub next_word : (j k word : ℕ) → j < part_count t part → k < 8 → word ≡ slice_index (image (part_line t part j)) k
      → take (8 * j + k) (part_words image t part) ++ word ∷ [] ≡ take (8 * j + (k + 1)) (part_words image t part)
  next_word j k word below small is =
      let line : (8 * j + k) / 8 ≡ j = omega arith in
      let phase : (8 * j + k) % 8 ≡ k = omega arith in
      let word_is : word ≡ nth (8 * j + k) = is ∙ sym (ap (λ (l : ℕ). slice_index (image (part_line t part l)) k) line) ∙ sym (ap (slice_index (image (part_line t part ((8 * j + k) / 8)))) phase) in
      let more : take (8 * j + (k + 1)) (part_words image t part) ≡ map nth (range_with_len 0 (8 * j + k)) ++ nth (8 * j + k) ∷ [] =
      prefix (8 * j + (k + 1)) (omega arith) ∙ ap (λ (n : ℕ). map nth (range_with_len 0 n)) (omega arith) ∙ map-range_with_len_more nth 0 (8 * j + k) (8 * j + k) (omega arith) in
      ap (λ (w : List ℕ). w ++ word ∷ []) (prefix (8 * j + k) (omega arith)) ∙ ap (λ (w : ℕ). map nth (range_with_len 0 (8 * j + k)) ++ w ∷ []) word_is ∙ sym more

  -- behind the last line
  pub all_words : (n : ℕ) → 8 * part_count t part ≤ n → take n (part_words image t part) ≡ part_words image t part
  all_words n past = take_all n (part_words image t part) (omega (arith, length-map-range_with_len nth 0 (8 * part_count t part)))
