-- The lines of an image to which an entry was appended.
use Rattle.std.proofs.Common.{◌≡◌, ℕ, zero, suc, ◌+◌, ◌*◌, ◌<◌, List, length, get_or, refl, sym, ap, ◌∙◌, arith}
use Rattle.std.specs.Prelude.{◌≢◌, slice_set}
use Rattle.std.proofs.lemmas.List.{ext_get_or}
use Rattle.std.proofs.lemmas.List.Edits.{length-between}
use Rattle.fam_base.specs.declared.entry.Params.{Params}
use Rattle.fam_base.specs.declared.entry.Entry.{Entry}
use Rattle.fam_base.specs.Image.{Image, eight, line_at}
use Rattle.fam_base.proofs.ImageLemmas.{line_at-with_line, line_at-with_line_other, length-with_line}
use Rattle.fam_format.specs.Layout.{geometry, gate_line, slot_line}
use Rattle.fam_format.specs.Slot.{spelling}
use Rattle.fam_format.proofs.EntryLawsProofs.{spelling_count}
use Rattle.fam_format.proofs.Formats.{shape}
use Rattle.fam_rules.specs.Content.{file_words}
use Rattle.fam_rules.specs.Place.{line_bytes}
use Rattle.fam_rules.specs.Written.{put_lines, lines_of, file_line, file_puts, slot_part, slot_puts, with_gate, written}
use Rattle.fam_rules.specs.WrittenLaws.{HasPhase, IsOffSlot, IsOffFile, IsAppended}
use Rattle.fam_rules.proofs.Puts.{length-put_lines, off_puts, at_put}
use Rattle.fam_rules.proofs.LinesApart.{file_within, slot_within, gate_within, file_lines_apart, file_off_slot, file_off_gate}

-- Eight words.

-- the first eight words of a list
get_or-eight : (words : List ℕ) (i : ℕ) → i < 8 → get_or (eight words) i 0 ≡ get_or words i 0
get_or-eight words zero h = refl
get_or-eight words (suc zero) h = refl
get_or-eight words (suc (suc zero)) h = refl
get_or-eight words (suc (suc (suc zero))) h = refl
get_or-eight words (suc (suc (suc (suc zero)))) h = refl
get_or-eight words (suc (suc (suc (suc (suc zero))))) h = refl
get_or-eight words (suc (suc (suc (suc (suc (suc zero)))))) h = refl
get_or-eight words (suc (suc (suc (suc (suc (suc (suc zero))))))) h = refl
get_or-eight words (suc (suc (suc (suc (suc (suc (suc (suc i)))))))) h = absurd (omega arith)

-- of eight they are all
eight_of_eight : (words : List ℕ) → length words ≡ 8 → eight words ≡ words
eight_of_eight words count = ext_get_or 0 (eight words) words (sym count) (λ i below. get_or-eight words i below)

-- a part of a slot has eight words
eight_part : (p : Params) (e : Entry) (seq j : ℕ) → j < (geometry p).lines → eight (slot_part (spelling (geometry p) e seq) j) ≡ slot_part (spelling (geometry p) e seq) j
eight_part p e seq j below =
    eight_of_eight (slot_part (spelling (geometry p) e seq) j)
    (let count = length-between (spelling (geometry p) e seq) (8 * j) (8 * j + 8) in omega (arith, count, spelling_count p e seq, (shape p).words))

-- The lines of the file, in an image.

module _ (p : Params) (seq : ℕ) (e : Entry) (bytes : List ℕ) (image : Image) (has : HasPhase p seq e (length image)) where
  -- with the file's lines
  after_file : Image
  after_file = put_lines (file_puts e bytes) image

  -- and the slot's
  after_slot : Image
  after_slot = put_lines (slot_puts p seq e) after_file

  -- both images have as many lines
  count_file : length after_file ≡ length image
  unfolding after_file
  count_file = length-put_lines (file_puts e bytes) image

  count_slot : length after_slot ≡ length image
  unfolding after_slot
  count_slot = length-put_lines (slot_puts p seq e) after_file ∙ count_file

  -- the file's lines are put
  file_put : (j : ℕ) → line_bytes * j < e.size → line_at after_file (file_line e j) ≡ file_words bytes j
  unfolding after_file
  file_put j below =
      at_put (file_line e) (file_words bytes) 0 (lines_of e.size) image j (omega arith) (omega arith) (file_within p e j (length image) has.sound has.proper below has.device)
      (λ i past end same. let one : j ≡ i = file_lines_apart p seq e (length image) j i has below (omega arith) same in omega arith)

  -- and no other
  off_file : (l : ℕ) → IsOffFile e l → line_at after_file l ≡ line_at image l
  unfolding after_file
  off_file l off = off_puts (file_line e) (file_words bytes) 0 (lines_of e.size) image l (λ j from below. off j (omega arith))

  -- then the slot's are put
  slot_put : (j : ℕ) → j < (geometry p).lines → line_at after_slot (slot_line p seq j) ≡ slot_part (spelling (geometry p) e seq) j
  unfolding after_slot
  slot_put j below =
      at_put (slot_line p seq) (slot_part (spelling (geometry p) e seq)) 0 (geometry p).lines after_file j (omega arith) (omega arith)
      (omega (arith, count_file, slot_within p seq j (length image) has.sound has.slot below has.device)) (λ i past end same. omega arith)
      ∙ eight_part p e seq j below

  -- and no other
  off_slot : (l : ℕ) → IsOffSlot p seq l → line_at after_slot l ≡ line_at after_file l
  unfolding after_slot
  off_slot l off = off_puts (slot_line p seq) (slot_part (spelling (geometry p) e seq)) 0 (geometry p).lines after_file l (λ j from below. off j (omega arith))

  -- the gate's line is off both
  gate_kept : line_at after_slot gate_line ≡ line_at image gate_line
  gate_kept = off_slot gate_line (λ j below same. omega (arith, (shape p).lines))
      ∙ off_file gate_line (λ j below same. file_off_gate p seq e (length image) j has below (sym same))

  -- word 0 alone is another
  gate_set : line_at (with_gate (seq + 1) after_slot) gate_line ≡ slice_set (line_at image gate_line) 0 (seq + 1)
  gate_set =
      line_at-with_line after_slot gate_line (slice_set (line_at after_slot gate_line) 0 (seq + 1)) (omega (arith, count_slot, gate_within p seq e (length image) has))
      ∙ ap (λ (words : List ℕ). eight (slice_set words 0 (seq + 1))) gate_kept

  -- other lines are those before the gate was set
  off_gate : (l : ℕ) → l ≢ gate_line → line_at (with_gate (seq + 1) after_slot) l ≡ line_at after_slot l
  off_gate l off = line_at-with_line_other after_slot gate_line (slice_set (line_at after_slot gate_line) 0 (seq + 1)) l off

  -- all lines
  pub lines_appended : IsAppended p seq e bytes image (written image p seq e bytes)
  unfolding written after_file after_slot
  lines_appended = record {
    count = length-with_line after_slot gate_line (slice_set (line_at after_slot gate_line) 0 (seq + 1)) ∙ count_slot;
    file = λ j below.
        off_gate (file_line e j) (file_off_gate p seq e (length image) j has below)
        ∙ off_slot (file_line e j) (λ i line same. file_off_slot p seq e (length image) j i has below line same)
        ∙ file_put j below;
    slot = λ j below. off_gate (slot_line p seq j) (λ same. omega (arith, (shape p).lines)) ∙ slot_put j below;
    gate = gate_set;
    others = λ l gate slot file. off_gate l gate ∙ off_slot l slot ∙ off_file l file;
  }
