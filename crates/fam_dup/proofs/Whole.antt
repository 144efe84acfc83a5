-- A copy that was written whole: its lines, what it reads as, and the bytes of its files.
use Rattle.std.proofs.Common.{◌≡◌, ℕ, ◌+◌, ◌*◌, ◌/◌, ◌%◌, ◌<◌, ◌≤◌, List, [], ◌∷◌, ◌++◌, length, map, take, get_or, Some, refl, sym, ap, ap₂, subst, ◌∙◌, inl, inr, arith}
use Rattle.std.specs.Prelude.{◌≢◌, slice_get, slice_index, slice_range}
use Rattle.std.specs.List.{range_with_len}
use Rattle.std.proofs.lemmas.Bool.{cases_lt}
use Rattle.std.proofs.lemmas.List.{ext_get_or}
use Rattle.std.proofs.lemmas.List.Edits.{get_or-between}
use Rattle.std.proofs.lemmas.List.FromFn.{get_or-map-range_with_len, length-map-range_with_len}
use Rattle.std.proofs.lemmas.Option.{slice_get_within}
use Rattle.fam_base.specs.declared.entry.Params.{Params}
use Rattle.fam_base.specs.declared.entry.Entry.{Entry}
use Rattle.fam_base.specs.Image.{Image, eight, line_at, with_line}
use Rattle.fam_base.proofs.ImageLemmas.{length-with_line, line_at-with_line, line_at-with_line_other}
use Rattle.fam_format.specs.Layout.{gate_line, geometry, log_end, log_line, slot_line}
use Rattle.fam_format.specs.Log.{log_fault, log_words}
use Rattle.fam_format.specs.Params.{SoundParams}
use Rattle.fam_format.specs.Reading.{Lines, Sound, gate_in, reading, reading_of, slot_word, slot_words}
use Rattle.fam_format.specs.ReadingLaws.{Holds}
use Rattle.fam_format.specs.Slot.{Proper, spelling}
use Rattle.fam_format.specs.Super.{magic_line, super_of, super_words}
use Rattle.fam_format.proofs.EntryLawsProofs.{spelling_count}
use Rattle.fam_format.proofs.Formats.{shape}
use Rattle.fam_format.proofs.JoinLaws.{joins_from}
use Rattle.fam_format.proofs.LogLawsProofs.{header_passes}
use Rattle.fam_format.proofs.ReadingLawsProofs.{holds_sound}
use Rattle.fam_format.proofs.SuperLawsProofs.{read_spelling}
use Rattle.fam_format.proofs.UnitPowers.{unit_told}
use Rattle.fam_rules.specs.Content.{byte_in, file_words}
use Rattle.fam_rules.specs.Place.{AreApart, StandsAt, line_bytes, place}
use Rattle.fam_rules.specs.Written.{Put, file_line, put_lines, slot_part, zero_line}
use Rattle.fam_rules.proofs.ContentLines.{byte_of_line}
use Rattle.fam_rules.proofs.FilePlaces.{line_place}
use Rattle.fam_rules.proofs.LinesApart.{file_behind, file_within, slot_before, slot_within}
use Rattle.fam_rules.proofs.ListPlaces.{bytes_apart, laid_apart}
use Rattle.fam_rules.proofs.Puts.{AreElsewhere, last_put, length-put_lines, put_elsewhere, put_lines-append}
use Rattle.fam_plan.specs.State.{IsHistory}
use Rattle.fam_dup.specs.Copies.{AreCopies}
use Rattle.fam_dup.specs.Ends.{IsCopied}
use Rattle.fam_dup.specs.Lines.{IsOffCopy, body_puts, bytes_in, copy_puts, files_puts, gate_words, head_puts, slots_puts}
use Rattle.fam_dup.proofs.Heads.{eight_word}
use Rattle.fam_dup.proofs.Parts.{byte_at, no_byte_at}
use Rattle.fam_dup.proofs.PutPlaces.{AreFilesApart, elsewhere-append, files_elsewhere, line_there, slot_there, slots_elsewhere}

-- Words.

-- the superblock's lines
super_lines : (p : Params) → slice_range (super_words p) 0 8 ++ slice_range (super_words p) 8 16 ≡ super_words p
unfolding super_words
super_lines p = refl

eight_prefix : (p : Params) → eight (slice_range (super_words p) 0 8) ≡ slice_range (super_words p) 0 8
unfolding super_words
eight_prefix p = refl

eight_rest : (p : Params) → eight (slice_range (super_words p) 8 16) ≡ slice_range (super_words p) 8 16
unfolding super_words
eight_rest p = refl

eight_header : (p : Params) → eight (log_words p) ≡ log_words p
unfolding log_words
eight_header p = refl

-- word k of a slot's spelling stands in its part
part_word : (p : Params) (e : Entry) (seq k : ℕ) → get_or (slot_part (spelling (geometry p) e seq) (k / 8)) (k % 8) 0 ≡ get_or (spelling (geometry p) e seq) k 0
part_word p e seq k =
    get_or-between (spelling (geometry p) e seq) (8 * (k / 8)) (8 * (k / 8) + 8) (k % 8) 0 (omega arith)
    ∙ ap (λ (i : ℕ). get_or (spelling (geometry p) e seq) i 0) (let whole : 8 * (k / 8) + k % 8 ≡ k = omega arith in whole)

-- Bytes.

-- how many bytes an entry's file has
length_of : (memory : Lines) (e : Entry) → length (bytes_in memory e) ≡ e.size
length_of memory e = length-map-range_with_len (λ o. byte_in (memory (place e o / line_bytes)) (place e o % line_bytes)) 0 e.size

-- they are bytes
bytes_fit : (memory : Lines) (e : Entry) (i : ℕ) → get_or (bytes_in memory e) i 0 < 256
bytes_fit memory e i =
    elim (cases_lt i e.size) [
      | inl below ↦ omega (arith, byte_at memory e i below)
      | inr past ↦ omega (arith, no_byte_at memory e i past)
    ]

-- where the line of a file's byte has the bytes of a line of other bytes, the file has that byte
byte_there : (memory : Lines) (p : Params) (e : Entry) (bytes : List ℕ) (o : ℕ) → SoundParams p → Proper p e → o < e.size
    → ((i : ℕ) → get_or bytes i 0 < 256) → memory (file_line e (o / 64)) ≡ file_words bytes (o / 64)
    → byte_in (memory (place e o / line_bytes)) (place e o % line_bytes) ≡ get_or bytes o 0
byte_there memory p e bytes o sound proper below fits is =
    let at : line_bytes * (o / 64) + o % 64 ≡ o = omega arith in
    let stands : place e o ≡ line_bytes * file_line e (o / 64) + o % 64 =
    ap (λ (n : ℕ). place e n) (sym at) ∙ line_place p e (o / 64) (o % 64) sound proper (omega arith) (omega arith) in
    let line : place e o / line_bytes ≡ file_line e (o / 64) = omega arith in
    let byte : place e o % line_bytes ≡ o % 64 = omega arith in
    ap₂ (λ (l b : ℕ). byte_in (memory l) b) line byte
    ∙ ap (λ (words : List ℕ). byte_in words (o % 64)) is
    ∙ byte_of_line bytes o fits

-- The lines.

module _ (q : Params) (es cs : List Entry) (from to : Image) (sound : SoundParams q) (fits : q.device ≤ line_bytes * length to)
    (history : IsHistory (record { params = q; entries = cs })) (copies : AreCopies es cs) where
  -- the lines of the head
  abbrev gate : Put
  gate = (gate_line, gate_words (length cs))

  abbrev header : Put
  header = (log_line, log_words q)

  abbrev prefix : Put
  prefix = (1, slice_range (super_words q) 0 8)

  abbrev rest : Put
  rest = (2, slice_range (super_words q) 8 16)

  -- line 0 is cleared; the files, the slots and the head are put; and the magic is
  cleared : Image
  cleared = with_line 0 zero_line to

  with_files : Image
  with_files = put_lines (files_puts (line_at from) es cs) cleared

  with_slots : Image
  with_slots = put_lines (slots_puts q 0 cs) with_files

  with_head : Image
  with_head = put_lines (head_puts q (length cs)) with_slots

  abbrev pub whole : Image
  whole = put_lines (copy_puts (line_at from) q es cs) to

  last : whole ≡ with_line 0 magic_line with_head
  unfolding with_head with_slots with_files cleared
  last =
      put_lines-append (body_puts (line_at from) q es cs) ((0, magic_line) ∷ []) (with_line 0 zero_line to)
      ∙ ap (with_line 0 magic_line)
      (put_lines-append (files_puts (line_at from) es cs) (slots_puts q 0 cs ++ head_puts q (length cs)) (with_line 0 zero_line to)
      ∙ put_lines-append (slots_puts q 0 cs) (head_puts q (length cs)) (put_lines (files_puts (line_at from) es cs) (with_line 0 zero_line to)))

  -- all have as many lines
  count_cleared : length cleared ≡ length to
  unfolding cleared
  count_cleared = length-with_line to 0 zero_line

  count_files : length with_files ≡ length to
  unfolding with_files
  count_files = length-put_lines (files_puts (line_at from) es cs) cleared ∙ count_cleared

  count_slots : length with_slots ≡ length to
  unfolding with_slots
  count_slots = length-put_lines (slots_puts q 0 cs) with_files ∙ count_files

  count_head : length with_head ≡ length to
  unfolding with_head
  count_head = length-put_lines (head_puts q (length cs)) with_slots ∙ count_slots

  count_whole : length whole ≡ length to
  count_whole = length-put_lines (copy_puts (line_at from) q es cs) to

  -- there are enough for superblock and log
  pub enough : 32770 ≤ length to
  enough = omega (arith, sound.need, (unit_told q.unit sound.unit).least)

  -- Gate, header and superblock.

  at_magic : line_at whole 0 ≡ magic_line
  at_magic = ap (λ (m : Image). line_at m 0) last ∙ line_at-with_line with_head 0 magic_line (omega (arith, count_head, enough))

  -- line 0 alone is put last
  before_magic : (l : ℕ) → l ≢ 0 → line_at whole l ≡ line_at with_head l
  before_magic l off = ap (λ (m : Image). line_at m l) last ∙ line_at-with_line_other with_head 0 magic_line l off

  at_gate : line_at whole gate_line ≡ gate_words (length cs)
  unfolding with_head
  at_gate =
      before_magic gate_line (λ e. omega arith)
      ∙ last_put [] (header ∷ prefix ∷ rest ∷ []) with_slots gate_line (gate_words (length cs)) (omega (arith, count_slots, enough)) (λ e. omega arith, (λ e. omega arith, (λ e. omega arith, tt)))

  at_header : line_at whole log_line ≡ log_words q
  unfolding with_head
  at_header =
      before_magic log_line (λ e. omega arith)
      ∙ last_put (gate ∷ []) (prefix ∷ rest ∷ []) with_slots log_line (log_words q) (omega (arith, count_slots, enough)) (λ e. omega arith, (λ e. omega arith, tt))
      ∙ eight_header q

  at_prefix : line_at whole 1 ≡ slice_range (super_words q) 0 8
  unfolding with_head
  at_prefix =
      before_magic 1 (λ e. omega arith)
      ∙ last_put (gate ∷ header ∷ []) (rest ∷ []) with_slots 1 (slice_range (super_words q) 0 8) (omega (arith, count_slots, enough)) (λ e. omega arith, tt)
      ∙ eight_prefix q

  at_rest : line_at whole 2 ≡ slice_range (super_words q) 8 16
  unfolding with_head
  at_rest =
      before_magic 2 (λ e. omega arith)
      ∙ last_put (gate ∷ header ∷ prefix ∷ []) [] with_slots 2 (slice_range (super_words q) 8 16) (omega (arith, count_slots, enough)) tt
      ∙ eight_rest q

  -- other lines are as before the head was put
  before_head : (l : ℕ) → l ≢ gate_line → l ≢ log_line → l ≢ 1 → l ≢ 2 → line_at with_head l ≡ line_at with_slots l
  unfolding with_head
  before_head l a b d e = put_elsewhere (head_puts q (length cs)) with_slots l (a, (b, (d, (e, tt))))

  -- Slots.

  at_slot : (i : ℕ) (c : Entry) (j : ℕ) → slice_get cs i ≡ Some c → j < (geometry q).lines → line_at whole (slot_line q i j) ≡ eight (slot_part (spelling (geometry q) c i) j)
  unfolding with_slots
  at_slot i c j at below =
      let slot : i < q.slots = omega (arith, history.few, slice_get_within cs i c at) in
      before_magic (slot_line q i j) (λ e. omega arith)
      ∙ before_head (slot_line q i j) (λ e. omega (arith, (shape q).lines)) (λ e. omega (arith, (shape q).lines)) (λ e. omega arith) (λ e. omega arith)
      ∙ (let zero_i : 0 + i ≡ i = omega arith in
      subst (λ (n : ℕ). line_at (put_lines (slots_puts q 0 cs) with_files) (slot_line q n j) ≡ eight (slot_part (spelling (geometry q) c n) j)) zero_i
      (slot_there q cs 0 with_files i c j at below
      (subst (λ (n : ℕ). slot_line q n j < length with_files) (sym zero_i) (omega (arith, count_files, slot_within q i j (length to) sound slot below fits)))))

  slot_words_there : (i : ℕ) (c : Entry) → slice_get cs i ≡ Some c → slot_words (line_at whole) q i ≡ spelling (geometry q) c i
  unfolding slot_words
  slot_words_there i c at =
      ext_get_or 0 (map (slot_word (line_at whole) q i) (range_with_len 0 (geometry q).words)) (spelling (geometry q) c i)
      (length-map-range_with_len (slot_word (line_at whole) q i) 0 (geometry q).words ∙ sym (spelling_count q c i))
      (λ k below.
      let short : k < (geometry q).words = omega (arith, length-map-range_with_len (slot_word (line_at whole) q i) 0 (geometry q).words) in
      get_or-map-range_with_len (slot_word (line_at whole) q i) 0 (geometry q).words k k 0 short (omega arith)
      ∙ ap (λ (words : List ℕ). slice_index words (k % 8)) (at_slot i c (k / 8) at (omega (arith, (shape q).words)))
      ∙ eight_word (slot_part (spelling (geometry q) c i) (k / 8)) (k % 8) (omega arith)
      ∙ part_word q c i k)

  -- What it reads as.

  holds : Holds (line_at whole) (64 * length to) q cs
  holds =
      let gate_is : gate_in (line_at whole) ≡ length cs = ap (λ (words : List ℕ). slice_index words 0) at_gate in
      record {
        head = record {
          super = ap₂ (λ (word : ℕ) (words : List ℕ). super_of word words (64 * length to)) (ap (λ (words : List ℕ). slice_index words 0) at_magic)
              (ap₂ (λ (xs ys : List ℕ). xs ++ ys) at_prefix at_rest ∙ super_lines q)
              ∙ read_spelling q sound (64 * length to) fits;
          header = ap (λ (words : List ℕ). log_fault words q) at_header ∙ header_passes q;
          gate = omega (arith, gate_is, history.few);
        };
        count = sym gate_is;
        slots = λ i c at.
            let added = history.added i c at in
            record { proper = added.proper; words = slot_words_there i c at; joins = joins_from q (take i cs) c added.joins };
      }

  pub whole_reads : reading whole ≡ Sound q cs
  whole_reads =
      ap (λ (n : ℕ). reading_of (line_at whole) (64 * n)) count_whole
      ∙ holds_sound (line_at whole) (64 * length to) q cs holds

  -- Files.

  apart : AreApart q cs
  apart =
      laid_apart q cs (λ i c at.
      let added = history.added i c at in record { proper = added.proper; units = (joins_from q (take i cs) c added.joins).units })

  -- a file's line begins where its first byte stands
  line_start : (c : Entry) (j : ℕ) → Proper q c → line_bytes * j < c.size → place c (line_bytes * j) ≡ line_bytes * file_line c j
  line_start c j proper below =
      let start : line_bytes * j + 0 ≡ line_bytes * j = omega arith in
      let none : line_bytes * file_line c j + 0 ≡ line_bytes * file_line c j = omega arith in
      sym (ap (λ (o : ℕ). place c o) start) ∙ line_place q c j 0 sound proper below (omega arith) ∙ none

  files_apart : AreFilesApart cs
  files_apart i k c d j m at_c at_d j_below m_below same =
      let proper_c = (history.added i c at_c).proper in
      let proper_d = (history.added k d at_d).proper in
      let one : StandsAt cs i (line_bytes * j) (line_bytes * file_line c j) = record { entry = c; at = at_c; below = j_below; place = line_start c j proper_c j_below } in
      let two : StandsAt cs k (line_bytes * m) (line_bytes * file_line c j) =
      record { entry = d; at = at_d; below = m_below; place = line_start d m proper_d m_below ∙ ap (λ (l : ℕ). line_bytes * l) (sym same) } in
      let both = bytes_apart q cs i k (line_bytes * j) (line_bytes * m) (line_bytes * file_line c j) sound apart one two in
      (both.0, omega (arith, both.1))

  -- a file's line is behind the log
  file_high : (c : Entry) (j : ℕ) → Proper q c → line_bytes * j < c.size → log_end q < line_bytes * file_line c j + line_bytes
  file_high c j proper below = file_behind q c j sound proper below

  at_line : (i : ℕ) (e c : Entry) (j : ℕ) → slice_get es i ≡ Some e → slice_get cs i ≡ Some c → line_bytes * j < c.size → line_at whole (file_line c j) ≡ file_words (bytes_in (line_at from) e) j
  unfolding with_files with_slots
  at_line i e c j at_e at_c below =
      let proper = (history.added i c at_c).proper in
      let high = file_high c j proper below in
      let low = slot_before q 0 0 sound (omega (arith, history.few, slice_get_within cs i c at_c)) (omega (arith, (shape q).lines)) in
      before_magic (file_line c j) (λ same. omega (arith, (shape q).lines))
      ∙ before_head (file_line c j) (λ same. omega (arith, (shape q).lines)) (λ same. omega (arith, (shape q).lines)) (λ same. omega (arith, (shape q).lines)) (λ same. omega (arith, (shape q).lines))
      ∙ put_elsewhere (slots_puts q 0 cs) with_files (file_line c j)
      (slots_elsewhere q cs 0 (file_line c j) (λ k d at l line same.
      omega (arith, same, high, slot_before q k l sound (omega (arith, history.few, slice_get_within cs k d at)) line)))
      ∙ line_there (line_at from) es cs cleared i e c j files_apart at_e at_c below (omega (arith, count_cleared, file_within q c j (length to) sound proper below fits))

  pub whole_bytes : (i : ℕ) (e c : Entry) → slice_get es i ≡ Some e → slice_get cs i ≡ Some c → bytes_in (line_at whole) c ≡ bytes_in (line_at from) e
  whole_bytes i e c at_e at_c =
      let proper = (history.added i c at_c).proper in
      let size : c.size ≡ e.size = (copies.each i e c at_e at_c).size in
      ext_get_or 0 (bytes_in (line_at whole) c) (bytes_in (line_at from) e)
      (length_of (line_at whole) c ∙ size ∙ sym (length_of (line_at from) e))
      (λ o below.
      let inside : o < c.size = omega (arith, length_of (line_at whole) c) in
      byte_at (line_at whole) c o inside
      ∙ byte_there (line_at whole) q c (bytes_in (line_at from) e) o sound proper inside (λ k. bytes_fit (line_at from) e k) (at_line i e c (o / 64) at_e at_c (omega arith)))

  -- Other lines.

  pub off_all : (l : ℕ) → IsOffCopy q cs l → AreElsewhere l (copy_puts (line_at from) q es cs)
  off_all l off = (
    off.magic,
    elsewhere-append l (body_puts (line_at from) q es cs) ((0, magic_line) ∷ [])
        (elsewhere-append l (files_puts (line_at from) es cs) (slots_puts q 0 cs ++ head_puts q (length cs))
        (files_elsewhere (line_at from) es cs l off.files)
        (elsewhere-append l (slots_puts q 0 cs) (head_puts q (length cs))
        (slots_elsewhere q cs 0 l (λ i c at j below same. off.slots i c at j below (same ∙ ap (λ (n : ℕ). slot_line q n j) (omega arith))))
        (off.gate, (off.header, (off.first, (off.second, tt))))))
        (off.magic, tt),
  )

  pub whole_copy : IsCopied from to whole q es cs
  whole_copy = record {
    reads = whole_reads;
    are = copies;
    bytes = whole_bytes;
    others = λ l off. put_elsewhere (copy_puts (line_at from) q es cs) to l (off_all l off);
  }

  -- Line 0 is none of the lines between the first and the last write.

  pub body_off : AreElsewhere 0 (body_puts (line_at from) q es cs)
  body_off =
      elsewhere-append 0 (files_puts (line_at from) es cs) (slots_puts q 0 cs ++ head_puts q (length cs))
      (files_elsewhere (line_at from) es cs 0 (λ i c at j below same. omega (arith, same, file_high c j (history.added i c at).proper below)))
      (elsewhere-append 0 (slots_puts q 0 cs) (head_puts q (length cs))
      (slots_elsewhere q cs 0 0 (λ i c at j below same. omega arith))
      (λ e. omega arith, (λ e. omega arith, (λ e. omega arith, (λ e. omega arith, tt)))))
