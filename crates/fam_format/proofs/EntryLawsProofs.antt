-- What ties the slot definitions together.
use Rattle.std.proofs.Common.{◌≡◌, ℕ, ◌+◌, ◌-◌, ◌^◌, ◌<◌, ◌≤◌, true, List, length, get_or, Result, Ok, Err, refl, sym, ap, subst, ◌∙◌, arith}
use Rattle.std.specs.List.{All}
use Rattle.std.proofs.lemmas.List.Elements.{All-weaker}
use Rattle.fam_base.specs.declared.entry.Params.{Params}
use Rattle.fam_base.specs.declared.entry.Entry.{Entry}
use Rattle.fam_base.specs.Paths.{is_path}
use Rattle.fam_base.proofs.PathLemmas.{path_bytes_fit}
use Rattle.fam_format.specs.declared.faults.Reason.{Reason}
use Rattle.fam_format.specs.Layout.{Geometry, geometry}
use Rattle.fam_format.specs.Params.{SoundParams}
use Rattle.fam_format.specs.Slot.{mode_limit, path_word, kind_word, map_word, chunk_word, slot_word_at, spelling, slot_crc, is_map, is_map_words, Proper, path_of, fields_of, crc_fault, seq_fault, kind_fault, attribute_fault, path_fault, map_fault, rest_fault, entry_of}
use Rattle.fam_format.specs.EntryLaws.{IsInDevice, FitsWords}
use Rattle.fam_format.proofs.Formats.{IsShape, shape}
use Rattle.fam_format.proofs.Filling.{length_of_spelling, crc_of_spelling}
use Rattle.fam_format.proofs.WordRounds.{length_of_bytes}
use Rattle.fam_format.proofs.RoundTrip.{HasRoom, field_read, path_of_spelling, fields_read}
use Rattle.fam_format.proofs.Stops.{AllPass, all_pass, all_passed, none_if_same, same_if_none}
use Rattle.fam_format.proofs.SlotTests.{kind_passes, kind_back, AttributesFit, attributes_pass, attributes_back, path_passes, PathPasses, path_back, map_words_pass, map_words_back, map_back, both_pass, both_passed, rest_passes, rest_back}
use Rattle.fam_format.proofs.SpellingFits.{spelling_fits}
use Rattle.fam_format.proofs.WordsRead.{words_back}
use Rattle.fam_format.proofs.MapFits.{few_extents, all_inside, ends_in_device, fits_words}

-- the seven tests of a slot, by its shape
abbrev pub SlotPasses : Geometry → Params → List ℕ → ℕ → Type 0
SlotPasses g p words seq = AllPass (crc_fault g words) (seq_fault words seq) (kind_fault words) (attribute_fault words) (path_fault g words) (map_fault p words) (rest_fault g words)

-- what a proper entry has for its spelling in slots of a shape
pub record Spells (g : Geometry) (p : Params) (e : Entry) : Type 0 where
  pub room : HasRoom g e
  pub short : length e.path ≤ g.path_limit
  pub proper : Proper p e

-- a spelling passes
pub spelling_passes : (g : Geometry) (p : Params) (e : Entry) (seq : ℕ) → Spells g p e → SlotPasses g p (spelling g e seq) seq
unfolding slot_word_at
spelling_passes g p e seq s =
    let field : (k word : ℕ) → k < path_word → slot_word_at e seq k ≡ word → get_or (spelling g e seq) k 0 ≡ word = λ k word below is. field_read g e seq k word s.room below is in
    record {
      first = none_if_same (get_or (spelling g e seq) (g.words - 1) 0) (slot_crc g (spelling g e seq)) _ (crc_of_spelling g e seq);
      second = none_if_same (get_or (spelling g e seq) 0 0) seq _ (field 0 seq (omega arith) refl);
      third = kind_passes (spelling g e seq) e.kind (field 1 (kind_word e.kind) (omega arith) refl);
      fourth = attributes_pass (spelling g e seq) e.mode e.uid e.gid (field 3 e.mode (omega arith) refl) (field 4 e.uid (omega arith) refl) (field 5 e.gid (omega arith) refl)
          record { mode_fits = s.proper.mode; uid_fits = s.proper.uid; gid_fits = s.proper.gid };
      fifth = path_passes g (spelling g e seq) e.path (field 6 (length e.path) (omega arith) refl) (path_of_spelling g e seq s.room) s.short s.proper.path;
      sixth = both_pass (is_map_words (spelling g e seq)) (is_map p (fields_of (spelling g e seq)))
          (map_words_pass (spelling g e seq) e.map (length e.extents) (field 7 (map_word e.map) (omega arith) refl)
          (field 8 (chunk_word e.map) (omega arith) refl) (field 9 (length e.extents) (omega arith) refl) s.room.extents)
          (ap (is_map p) (fields_read g e seq s.room) ∙ s.proper.map);
      seventh = rest_passes g e seq s.room;
    }

-- what words tell that pass is proper
pub proper_back : (p : Params) (words : List ℕ) → AttributesFit (get_or words 3 0) (get_or words 4 0) (get_or words 5 0)
    → PathPasses (geometry p).path_limit (get_or words 6 0) (is_path (path_of words)) → is_map p (fields_of words) ≡ true → Proper p (fields_of words)
unfolding fields_of
proper_back p words attributes path map =
    record {
      path = path.path;
      short = omega (arith, path.short, length_of_bytes path_word words (get_or words 6 0));
      mode = attributes.mode_fits;
      uid = attributes.uid_fits;
      gid = attributes.gid_fits;
      map = map;
    }

-- and they are its spelling
pub words_found : (g : Geometry) (p : Params) (words : List ℕ) (seq : ℕ) → path_word ≤ g.words - 1 → length words ≡ g.words
    → ((k : ℕ) → get_or words k 0 < 2 ^ 64) → SlotPasses g p words seq → words ≡ spelling g (fields_of words) seq
words_found g p words seq prefix long fits h =
    words_back g words seq prefix long fits
    (same_if_none (get_or words (g.words - 1) 0) (slot_crc g words) _ h.first)
    (same_if_none (get_or words 0 0) seq _ h.second)
    (kind_back words h.third)
    (map_back (get_or words 7 0) (get_or words 8 0) (get_or words 9 0) (map_words_back words (both_passed (is_map_words words) (is_map p (fields_of words)) h.sixth).0))
    (rest_back g words h.seventh)

-- words that pass tell a proper entry
pub proper_found : (p : Params) (words : List ℕ) (seq : ℕ) → SlotPasses (geometry p) p words seq → Proper p (fields_of words)
proper_found p words seq h = proper_back p words (attributes_back words h.fourth) (path_back (geometry p) words h.fifth) (both_passed (is_map_words words) (is_map p (fields_of words)) h.sixth).1

-- what a reader answers where all tests pass
pub read_of_pass : (p : Params) (words : List ℕ) (seq : ℕ) → SlotPasses (geometry p) p words seq → entry_of p words seq ≡ Ok (fields_of words)
unfolding entry_of
read_of_pass p words seq h =
    all_pass (crc_fault (geometry p) words) (seq_fault words seq) (kind_fault words) (attribute_fault words) (path_fault (geometry p) words)
    (map_fault p words) (rest_fault (geometry p) words) (fields_of words) h

-- and what passes where it answers with an entry
pub pass_of_read : (p : Params) (words : List ℕ) (seq : ℕ) (e : Entry) → entry_of p words seq ≡ Ok e → SlotPasses (geometry p) p words seq × (fields_of words ≡ e)
unfolding entry_of
pass_of_read p words seq e h =
    all_passed (crc_fault (geometry p) words) (seq_fault words seq) (kind_fault words) (attribute_fault words) (path_fault (geometry p) words)
    (map_fault p words) (rest_fault (geometry p) words) (fields_of words) e h

-- a proper entry has room in a slot
pub room_of_proper : (p : Params) (e : Entry) → Proper p e → HasRoom (geometry p) e
room_of_proper p e h =
    let short : length e.path ≤ (geometry p).path_limit = h.short in
    let is : IsShape (geometry p) = shape p in
    record { bytes = path_bytes_fit e.path h.path; path = omega (arith, is.path, is.words); extents = few_extents p e h.map; prefix = omega (arith, is.words, is.lines) }

-- The laws.

-- what is spelled is read
pub spelling_read : (p : Params) (e : Entry) (seq : ℕ) → Proper p e → entry_of p (spelling (geometry p) e seq) seq ≡ Ok e
spelling_read p e seq h =
    let room : HasRoom (geometry p) e = room_of_proper p e h in
    read_of_pass p (spelling (geometry p) e seq) seq (spelling_passes (geometry p) p e seq record { room = room; short = h.short; proper = h })
    ∙ ap (λ (f : Entry). Ok f) (fields_read (geometry p) e seq room)

-- what is read is proper
pub read_proper : (p : Params) (words : List ℕ) (seq : ℕ) (e : Entry) → entry_of p words seq ≡ Ok e → Proper p e
read_proper p words seq e h =
    let both = pass_of_read p words seq e h in
    subst (λ (f : Entry). Proper p f) both.1 (proper_found p words seq both.0)

-- and the words are its spelling
pub read_spelled : (p : Params) (words : List ℕ) (seq : ℕ) (e : Entry) → length words ≡ (geometry p).words → ((i : ℕ) → get_or words i 0 < 2 ^ 64)
    → entry_of p words seq ≡ Ok e → words ≡ spelling (geometry p) e seq
read_spelled p words seq e long fits h =
    let both = pass_of_read p words seq e h in
    words_found (geometry p) p words seq (omega (arith, (shape p).words, (shape p).lines)) long fits both.0 ∙ ap (λ (f : Entry). spelling (geometry p) f seq) both.1

-- the entry and the number of a spelling
pub entry_of_spelling : (p q : Params) (e f : Entry) (m n : ℕ) → Proper p e → Proper q f → spelling (geometry p) e m ≡ spelling (geometry q) f n → e ≡ f
entry_of_spelling p q e f m n he hf same =
    sym (fields_read (geometry p) e m (room_of_proper p e he)) ∙ ap fields_of same ∙ fields_read (geometry q) f n (room_of_proper q f hf)

-- their numbers are one too
pub number_of_spelling : (p q : Params) (e f : Entry) (m n : ℕ) → Proper p e → Proper q f → spelling (geometry p) e m ≡ spelling (geometry q) f n → m ≡ n
unfolding slot_word_at
number_of_spelling p q e f m n he hf same =
    sym (field_read (geometry p) e m 0 m (room_of_proper p e he) (omega arith) refl) ∙ ap (λ (w : List ℕ). get_or w 0 0) same
    ∙ field_read (geometry q) f n 0 n (room_of_proper q f hf) (omega arith) refl

-- a result is not both
refuted : {T E : Type 0} (r : Result T E) (x : T) (reason : E) → r ≡ Ok x → r ≡ Err reason → ⊥
refuted r x reason a b = cc

-- what is refused is no spelling
pub refused : (p : Params) (words : List ℕ) (seq : ℕ) (r : Reason) (e : Entry) → entry_of p words seq ≡ Err r → Proper p e → words ≡ spelling (geometry p) e seq → ⊥
refused p words seq r e h proper is = refuted (entry_of p words seq) e r (ap (λ (w : List ℕ). entry_of p w seq) is ∙ spelling_read p e seq proper) h

-- the numbers fit their words
pub proper_fits : (p : Params) (e : Entry) → SoundParams p → Proper p e → FitsWords e
proper_fits p e sound proper = fits_words p e sound.unit sound.device proper.map

-- a spelling has the words of a slot
pub spelling_count : (p : Params) (e : Entry) (seq : ℕ) → length (spelling (geometry p) e seq) ≡ (geometry p).words
spelling_count p e seq = length_of_spelling (geometry p) e seq (omega (arith, (shape p).words, (shape p).lines))

-- each of them fits
pub proper_words_fit : (p : Params) (e : Entry) (seq : ℕ) → SoundParams p → Proper p e → seq < 2 ^ 64 → (i : ℕ) → get_or (spelling (geometry p) e seq) i 0 < 2 ^ 64
proper_words_fit p e seq sound proper number i =
    let short : length e.path ≤ (geometry p).path_limit = proper.short in
    let mode : e.mode ≤ mode_limit = proper.mode in
    let uid : e.uid < 2 ^ 32 = proper.uid in
    let gid : e.gid < 2 ^ 32 = proper.gid in
    let is : IsShape (geometry p) = shape p in
    spelling_fits (geometry p) e seq i (omega (arith, is.words, is.lines)) (proper_fits p e sound proper)
    record { number = number; mode = omega arith; uid = omega arith; gid = omega arith; count = omega (arith, is.limit); path = path_bytes_fit e.path proper.path }

-- the extents lie inside
pub proper_inside : (p : Params) (e : Entry) → Proper p e → All (IsInDevice p) e.extents
proper_inside p e proper = all_inside p e proper.map

-- and end with the device or before
pub proper_in_device : (p : Params) (e : Entry) → Proper p e → All (λ x. x.offset + x.length ≤ p.device) e.extents
proper_in_device p e proper = All-weaker (IsInDevice p) (λ x. x.offset + x.length ≤ p.device) (ends_in_device p) e.extents (all_inside p e proper.map)
