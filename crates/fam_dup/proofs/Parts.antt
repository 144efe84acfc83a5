-- A line of a file, of which the bytes behind the size are cleared.
use Rattle.std.proofs.Common.{◌≡◌, ℕ, ◌+◌, ◌-◌, ◌*◌, ◌/◌, ◌%◌, ◌^◌, ◌<◌, ◌≤◌, nat_lt, if◌then◌else◌, List, length, get_or, sym, ap, ap₂, ◌∙◌, inl, inr, arith}
use Rattle.std.proofs.lemmas.Bool.{cases_lt}
use Rattle.std.proofs.lemmas.Bool.Decides.{nat_tests}
use Rattle.std.proofs.lemmas.List.{get_or_past}
use Rattle.std.proofs.lemmas.List.FromFn.{get_or-map-range_with_len, length-map-range_with_len}
use Rattle.fam_base.specs.declared.entry.Params.{Params}
use Rattle.fam_base.specs.declared.entry.Entry.{Entry}
use Rattle.fam_format.specs.Params.{SoundParams}
use Rattle.fam_format.specs.Reading.{Lines}
use Rattle.fam_format.specs.Slot.{Proper}
use Rattle.fam_rules.specs.Content.{byte_in, file_words}
use Rattle.fam_rules.specs.Place.{line_bytes, place}
use Rattle.fam_rules.specs.Written.{file_line}
use Rattle.fam_rules.proofs.ContentLines.{line_by_bytes}
use Rattle.fam_rules.proofs.FilePlaces.{line_place}
use Rattle.fam_dup.specs.Lines.{bytes_in}

-- byte o of an entry's file
pub byte_at : (memory : Lines) (e : Entry) (o : ℕ) → o < e.size → get_or (bytes_in memory e) o 0 ≡ byte_in (memory (place e o / line_bytes)) (place e o % line_bytes)
byte_at memory e o below = get_or-map-range_with_len (λ o. byte_in (memory (place e o / line_bytes)) (place e o % line_bytes)) 0 e.size o o 0 below (omega arith)

-- there is none behind its size
pub no_byte_at : (memory : Lines) (e : Entry) (o : ℕ) → e.size ≤ o → get_or (bytes_in memory e) o 0 ≡ 0
no_byte_at memory e o past =
    get_or_past (bytes_in memory e) o 0 (omega (arith, length-map-range_with_len (λ o. byte_in (memory (place e o / line_bytes)) (place e o % line_bytes)) 0 e.size))

module _ (memory : Lines) (p : Params) (e : Entry) (j : ℕ) (line words : List ℕ) (sound : SoundParams p) (proper : Proper p e)
    (below : line_bytes * j < e.size) (is : line ≡ memory (file_line e j)) where
  -- a byte of the line is the file's
  byte_of_part : (b : ℕ) → b < 64 → 64 * j + b < e.size → byte_in line b ≡ get_or (bytes_in memory e) (64 * j + b) 0
  byte_of_part b small inside =
      let stands : place e (64 * j + b) ≡ 64 * file_line e j + b = line_place p e j b sound proper below small in
      let at : place e (64 * j + b) / 64 ≡ file_line e j = omega arith in
      let byte : place e (64 * j + b) % 64 ≡ b = omega arith in
      ap (λ (w : List ℕ). byte_in w b) is
      ∙ sym (ap₂ (λ (l n : ℕ). byte_in (memory l) n) at byte)
      ∙ sym (byte_at memory e (64 * j + b) inside)

  -- the first bytes of the line, with zeros behind, are the file's line
  pub part_words : length words ≡ 8 → ((w : ℕ) → get_or words w 0 < 2 ^ 64)
      → ((b : ℕ) → b < 64 → byte_in words b ≡ if nat_lt b (e.size - 64 * j) then byte_in line b else 0) → words ≡ file_words (bytes_in memory e) j
  part_words count fits each =
      line_by_bytes words (bytes_in memory e) j count fits (λ b small.
      elim (cases_lt b (e.size - 64 * j)) [
        | inl inside ↦
            let first : (if nat_lt b (e.size - 64 * j) then byte_in line b else 0) ≡ byte_in line b = grind (arith, nat_tests) in
            each b small ∙ first ∙ byte_of_part b small (omega arith)
        | inr past ↦
            let none : (if nat_lt b (e.size - 64 * j) then byte_in line b else 0) ≡ 0 = grind (arith, nat_tests) in
            each b small ∙ none ∙ sym (no_byte_at memory e (64 * j + b) (omega arith))
      ])
