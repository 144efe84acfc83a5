-- An image to which an entry was appended reads as one entry more.
use Rattle.std.proofs.Common.{◌≡◌, ℕ, ◌+◌, ◌-◌, ◌*◌, ◌/◌, ◌%◌, ◌<◌, ◌≤◌, List, [], ◌∷◌, ◌++◌, length, map, take, get_or, refl, sym, ap, ap₂, subst, ◌∙◌, inl, inr, arith, Some, None}
use Rattle.std.specs.Prelude.{◌≢◌, slice_get, slice_index}
use Rattle.std.specs.List.{range_with_len}
use Rattle.std.proofs.lemmas.Bool.{cases_lt}
use Rattle.std.proofs.lemmas.List.{length-append, take-append-le, take_all, get_or_append_left, get_or-append_right, ext_get_or}
use Rattle.std.proofs.lemmas.List.Edits.{get_or-between}
use Rattle.std.proofs.lemmas.List.FromFn.{length-map-range_with_len, get_or-map-range_with_len}
use Rattle.std.proofs.lemmas.Option.{slice_get-get_or, slice_get_within, get_or_from_slice_get}
use Rattle.fam_base.specs.declared.entry.Params.{Params}
use Rattle.fam_base.specs.declared.entry.Entry.{Entry}
use Rattle.fam_base.specs.Image.{Image, line_at}
use Rattle.fam_format.specs.Layout.{geometry, log_line, gate_line, slot_line}
use Rattle.fam_format.specs.Log.{log_fault}
use Rattle.fam_format.specs.Params.{SoundParams}
use Rattle.fam_format.specs.Reading.{Sound, gate_in, slot_word, slot_words, reading_of, reading}
use Rattle.fam_format.specs.ReadingLaws.{HasWords, HasHead, IsSlot, AreSlots, Holds, Joins}
use Rattle.fam_format.specs.Slot.{Proper, spelling}
use Rattle.fam_format.specs.Super.{super_of}
use Rattle.fam_format.specs.Tree.{join_fault}
use Rattle.fam_format.proofs.EntryLawsProofs.{spelling_count}
use Rattle.fam_format.proofs.Formats.{shape, piece_ends}
use Rattle.fam_format.proofs.JoinLaws.{joins_from}
use Rattle.fam_format.proofs.ReadingLawsProofs.{sound_holds, holds_sound}
use Rattle.fam_rules.specs.Place.{line_bytes}
use Rattle.fam_rules.specs.Written.{slot_part, written}
use Rattle.fam_rules.specs.WrittenLaws.{HasPhase, IsAppended}
use Rattle.fam_rules.proofs.AppendedProofs.{lines_appended}
use Rattle.fam_rules.proofs.LinesApart.{file_behind, slot_before}
use Rattle.fam_rules.proofs.RoomSame.{map_range_same}

-- word k of a slot's spelling stands in its part
part_word : (p : Params) (e : Entry) (seq k : ℕ) → get_or (slot_part (spelling (geometry p) e seq) (k / 8)) (k % 8) 0 ≡ get_or (spelling (geometry p) e seq) k 0
part_word p e seq k =
    get_or-between (spelling (geometry p) e seq) (8 * (k / 8)) (8 * (k / 8) + 8) (k % 8) 0 (omega arith)
    ∙ ap (λ (i : ℕ). get_or (spelling (geometry p) e seq) i 0) (let whole : 8 * (k / 8) + k % 8 ≡ k = omega arith in whole)

module _ (p : Params) (seq : ℕ) (e : Entry) (bytes : List ℕ) (before after : Image) (has : HasPhase p seq e (length before)) (is : IsAppended p seq e bytes before after) where
  -- a line before the slot is as before, but for the gate's
  low_line : (l : ℕ) → l ≢ gate_line → l < slot_line p seq 0 → line_at after l ≡ line_at before l
  low_line l off low = is.others l off (λ j line same. omega arith)
      (λ j below same. omega (arith, same, slot_before p seq 0 has.sound has.slot (omega (arith, (shape p).lines)), file_behind p e j has.sound has.proper below))

  -- the gate counts the entry
  gate_after : gate_in (line_at after) ≡ seq + 1
  gate_after = ap (λ (words : List ℕ). slice_index words 0) is.gate

  -- a slot before it is as before
  earlier_slot : (i : ℕ) → i < seq → slot_words (line_at after) p i ≡ slot_words (line_at before) p i
  unfolding slot_words
  earlier_slot i less =
      map_range_same (slot_word (line_at after) p i) (slot_word (line_at before) p i) 0 (geometry p).words (λ k from below.
      ap (λ (words : List ℕ). slice_index words (k % 8))
      (low_line (slot_line p i (k / 8)) (λ same. omega (arith, (shape p).lines))
      (omega (arith, (shape p).words, piece_ends (geometry p).lines i seq less))))

  -- its own slot has its spelling
  own_slot : slot_words (line_at after) p seq ≡ spelling (geometry p) e seq
  unfolding slot_words
  own_slot =
      ext_get_or 0 (map (slot_word (line_at after) p seq) (range_with_len 0 (geometry p).words)) (spelling (geometry p) e seq)
      (length-map-range_with_len (slot_word (line_at after) p seq) 0 (geometry p).words ∙ sym (spelling_count p e seq))
      (λ k below.
      let short : k < (geometry p).words = omega (arith, length-map-range_with_len (slot_word (line_at after) p seq) 0 (geometry p).words) in
      get_or-map-range_with_len (slot_word (line_at after) p seq) 0 (geometry p).words k k 0 short (omega arith)
      ∙ ap (λ (words : List ℕ). slice_index words (k % 8)) (is.slot (k / 8) (omega (arith, (shape p).words)))
      ∙ part_word p e seq k)

  -- superblock and header are as before
  head_after : (have : ℕ) → HasHead (line_at before) have p → HasHead (line_at after) have p
  head_after have head = record {
    super = ap₂ (λ (word : ℕ) (words : List ℕ). super_of word words have)
        (ap (λ (words : List ℕ). slice_index words 0) (low_line 0 (λ same. omega arith) (omega (arith, (shape p).lines))))
        (ap₂ (λ (xs ys : List ℕ). xs ++ ys) (low_line 1 (λ same. omega arith) (omega arith)) (low_line 2 (λ same. omega arith) (omega arith)))
        ∙ head.super;
    header = ap (λ (words : List ℕ). log_fault words p) (low_line log_line (λ same. omega arith) (omega (arith, (shape p).lines))) ∙ head.header;
    gate = omega (arith, gate_after, has.slot);
  }

  -- an earlier entry stands in its slot
  earlier_entry : (list : List Entry) (i : ℕ) (x : Entry) → length list ≡ seq → AreSlots (line_at before) p list
      → slice_get (list ++ e ∷ []) i ≡ Some x → i < length list → IsSlot (line_at after) p (take i (list ++ e ∷ [])) i x
  earlier_entry list i x count slots at below =
      let same : get_or list i x ≡ x = sym (get_or_append_left list (e ∷ []) x i below) ∙ get_or_from_slice_get (list ++ e ∷ []) i x x at in
      let slot : IsSlot (line_at before) p (take i list) i x = slots i x (slice_get-get_or list i x below ∙ ap Some same) in
      subst (λ (prefix : List Entry). IsSlot (line_at after) p prefix i x) (sym (take-append-le i list (e ∷ []) (omega arith)))
      (record { proper = slot.proper; words = earlier_slot i (omega arith) ∙ slot.words; joins = slot.joins })

  -- so does the new one
  new_entry : (list : List Entry) (i : ℕ) (x : Entry) → length list ≡ seq → Joins p list e → slice_get (list ++ e ∷ []) i ≡ Some x → length list ≤ i
      → IsSlot (line_at after) p (take i (list ++ e ∷ [])) i x
  new_entry list i x count joins at past =
      let end : i ≡ length list = omega (arith, slice_get_within (list ++ e ∷ []) i x at, length-append list (e ∷ [])) in
      let first : i - length list ≡ 0 = omega arith in
      let same : e ≡ x = sym (get_or-append_right list (e ∷ []) (length list) i x refl past ∙ ap (λ (n : ℕ). get_or (e ∷ []) n x) first) ∙ get_or_from_slice_get (list ++ e ∷ []) i x x at in
      let prefix : take i (list ++ e ∷ []) ≡ list = take-append-le i list (e ∷ []) (omega arith) ∙ take_all i list (omega arith) in
      subst (λ (y : Entry). IsSlot (line_at after) p (take i (list ++ e ∷ [])) i y) same
      (subst (λ (before_it : List Entry). IsSlot (line_at after) p before_it i e) (sym prefix)
      (subst (λ (n : ℕ). IsSlot (line_at after) p list n e) (sym (end ∙ count)) (record { proper = has.proper; words = own_slot; joins = joins })))

  -- all of them
  slots_after : (list : List Entry) → length list ≡ seq → AreSlots (line_at before) p list → Joins p list e → AreSlots (line_at after) p (list ++ e ∷ [])
  slots_after list count slots joins i x at =
      elim (cases_lt i (length list)) [
        | inl below ↦ earlier_entry list i x count slots at below
        | inr past ↦ new_entry list i x count joins at past
      ]

  -- the image holds one entry more
  holds_after : (have : ℕ) (list : List Entry) → length list ≡ seq → Holds (line_at before) have p list → Joins p list e → Holds (line_at after) have p (list ++ e ∷ [])
  holds_after have list count holds joins = record {
    head = head_after have holds.head;
    count = length-append list (e ∷ []) ∙ ap (λ (n : ℕ). n + 1) count ∙ sym gate_after;
    slots = slots_after list count holds.slots joins;
  }

-- an entry that joins the list has its place
pub place_of : (p : Params) (list : List Entry) (e : Entry) (lines : ℕ) → SoundParams p → p.device ≤ line_bytes * lines → length list < p.slots
    → Proper p e → join_fault p list e ≡ None → HasPhase p (length list) e lines
place_of p list e lines sound fits left proper joins =
    record { sound = sound; device = fits; slot = left; proper = proper; once = (joins_from p list e joins).units.once }

-- an entry that joins a sound image's entries is read behind them
pub appended_reads : (image : Image) (p : Params) (list : List Entry) (e : Entry) (bytes : List ℕ) → HasWords (line_at image) → SoundParams p
    → p.device ≤ line_bytes * length image → reading image ≡ Sound p list → length list < p.slots → Proper p e → join_fault p list e ≡ None
    → reading (written image p (length list) e bytes) ≡ Sound p (list ++ e ∷ [])
appended_reads image p list e bytes words sound fits reads left proper joins =
    let has : HasPhase p (length list) e (length image) = place_of p list e (length image) sound fits left proper joins in
    let after : Image = written image p (length list) e bytes in
    let is : IsAppended p (length list) e bytes image after = lines_appended p (length list) e bytes image has in
    let have : ℕ = 64 * length image in
    let holds : Holds (line_at image) have p list = sound_holds (line_at image) have p list words reads in
    ap (λ (n : ℕ). reading_of (line_at after) (64 * n)) is.count
    ∙ holds_sound (line_at after) have p (list ++ e ∷ []) (holds_after p (length list) e bytes image after has is have list refl holds (joins_from p list e joins))
