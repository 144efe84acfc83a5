-- What ties the definitions of the log's header together.
use Rattle.std.proofs.Common.{◌≡◌, ℕ, List, [], ◌∷◌, length, take, get_or, Option, Some, None, refl, sym, ap, ◌∙◌}
use Rattle.std.proofs.lemmas.List.FromFn.{fill_by_all}
use Rattle.fam_base.specs.declared.entry.Params.{Params}
use Rattle.fam_format.specs.declared.faults.LogField.{LogField}
use Rattle.fam_format.specs.declared.faults.LogField.TheVariants as field
use Rattle.fam_format.specs.Words.{word_of_bytes, bytes_from, uuid_bytes}
use Rattle.fam_format.specs.Params.{IsUuid}
use Rattle.fam_format.specs.Stop.{or_else}
use Rattle.fam_format.specs.Log.{log_magic, log_body, log_words, log_crc, field_fault, log_fault}
use Rattle.fam_format.proofs.Stops.{same_if_none}
use Rattle.fam_format.proofs.UuidWords.{uuid_back}
use Rattle.fam_format.proofs.SuperLawsProofs.{same_number, crc_passes, checked, with_crc}

-- one test and then others find nothing
none_before : {E : Type 0} (fault next : Option E) → or_else fault next ≡ None → (fault ≡ None) × (next ≡ None)
none_before None next none = (refl, none)
none_before (Some fault) next none = cc

-- and back
passes_before : {E : Type 0} (fault next : Option E) → fault ≡ None → next ≡ None → or_else fault next ≡ None
passes_before fault next none behind = rw none behind

-- the wanted word has no fault
no_fault : (name : LogField) (n : ℕ) → field_fault name n n ≡ None
no_fault name n = rw (same_number n) refl

-- What is spelled is read.

-- the header of a log
module _ (p : Params) where
  -- the checksum stands behind the words that it is of
  crc_none : field_fault field.Crc (get_or (log_words p) 7 0) (log_crc (log_words p)) ≡ None
  unfolding log_words
  crc_none = rw (crc_passes 7 (log_body p) refl) refl

  -- the header's own words have no fault
  pub header_passes : log_fault (log_words p) p ≡ None
  unfolding log_fault log_words
  header_passes =
      passes_before _ _ (no_fault field.Magic log_magic)
      (passes_before _ _ crc_none
      (passes_before _ _ (no_fault field.Length p.log_length)
      (passes_before _ _ (no_fault field.Slots p.slots)
      (passes_before _ _ (no_fault field.Uuid (word_of_bytes p.fs 0))
      (passes_before _ _ (no_fault field.Uuid (word_of_bytes p.fs 1))
      (passes_before _ _ (no_fault field.Rest 0) (no_fault field.Rest 0)))))))

-- What is read is spelled.

-- eight words by their places, but for the last
seven : (w : List ℕ) → length w ≡ 8
    → take 7 w ≡ get_or w 0 0 ∷ get_or w 1 0 ∷ get_or w 2 0 ∷ get_or w 3 0 ∷ get_or w 4 0 ∷ get_or w 5 0 ∷ get_or w 6 0 ∷ []
seven w count = ap (take 7) (fill_by_all (λ (k : ℕ). get_or w k 0) w 8 0 count (λ k below. refl))

-- words without a fault are the header
pub header_spelled : (p : Params) (w : List ℕ) → length w ≡ 8 → log_fault w p ≡ None → w ≡ log_words p
unfolding log_fault log_words
header_spelled p w count none =
    let first = none_before _ _ none in
    let crc = none_before _ _ first.1 in
    let log_length = none_before _ _ crc.1 in
    let slots = none_before _ _ log_length.1 in
    let low = none_before _ _ slots.1 in
    let high = none_before _ _ low.1 in
    let rest = none_before _ _ high.1 in
    let is_magic : get_or w 0 0 ≡ log_magic = same_if_none _ _ _ first.0 in
    let is_length : get_or w 1 0 ≡ p.log_length = same_if_none _ _ _ log_length.0 in
    let is_slots : get_or w 2 0 ≡ p.slots = same_if_none _ _ _ slots.0 in
    let is_low : get_or w 3 0 ≡ word_of_bytes p.fs 0 = same_if_none _ _ _ low.0 in
    let is_high : get_or w 4 0 ≡ word_of_bytes p.fs 1 = same_if_none _ _ _ high.0 in
    let zero_5 : get_or w 5 0 ≡ 0 = same_if_none _ _ _ rest.0 in
    let zero_6 : get_or w 6 0 ≡ 0 = same_if_none _ _ _ rest.1 in
    let body : take 7 w ≡ log_body p = seven w count ∙ rw (is_magic, is_length, is_slots, is_low, is_high, zero_5, zero_6) refl in
    with_crc 7 w count (same_if_none _ _ _ crc.0) ∙ ap checked body

-- Equal headers.

-- the file system's UUID stands in the header
fs_back : (p : Params) → IsUuid p.fs → bytes_from 3 (log_words p) uuid_bytes ≡ p.fs
unfolding log_words
fs_back p is = uuid_back 3 (log_words p) p.fs is refl refl

-- word 1 is the log's length
word_1 : (p : Params) → get_or (log_words p) 1 0 ≡ p.log_length
unfolding log_words
word_1 p = refl

-- word 2 is the count of slots
word_2 : (p : Params) → get_or (log_words p) 2 0 ≡ p.slots
unfolding log_words
word_2 p = refl

-- one header has one log length, one count of slots and one file system
pub header_unique : (p q : Params) → IsUuid p.fs → IsUuid q.fs → log_words p ≡ log_words q → (p.log_length ≡ q.log_length) × (p.slots ≡ q.slots) × (p.fs ≡ q.fs)
header_unique p q is_p is_q same = (
  sym (word_1 p) ∙ ap (λ (w : List ℕ). get_or w 1 0) same ∙ word_1 q,
  sym (word_2 p) ∙ ap (λ (w : List ℕ). get_or w 2 0) same ∙ word_2 q,
  sym (fs_back p is_p) ∙ ap (λ (w : List ℕ). bytes_from 3 w uuid_bytes) same ∙ fs_back q is_q,
)
