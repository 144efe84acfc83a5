-- Lines that were read, of which the bytes behind the file's size are cleared.
use Rattle.std.proofs.Common.{◌≡◌, ℕ, ◌+◌, ◌-◌, ◌*◌, ◌/◌, ◌%◌, ◌^◌, ◌<◌, nat_lt, if◌then◌else◌, List, length, sym, ap, subst, ◌∙◌, inl, inr, arith}
use Rattle.std.specs.Prelude.{slice_index}
use Rattle.std.proofs.lemmas.Bool.{cases_lt}
use Rattle.std.proofs.lemmas.Bool.Decides.{nat_tests}
use Rattle.fam_base.specs.declared.entry.Params.{Params}
use Rattle.fam_base.specs.declared.entry.Entry.{Entry}
use Rattle.fam_base.specs.Image.{Image, byte_of, eight, line_at}
use Rattle.fam_format.specs.Params.{SoundParams}
use Rattle.fam_format.specs.Slot.{Proper}
use Rattle.fam_media.specs.Runs.{AreRead, line_in}
use Rattle.fam_rules.specs.Content.{byte_in, file_words}
use Rattle.fam_rules.specs.Place.{line_bytes}
use Rattle.fam_rules.specs.Written.{file_line}
use Rattle.fam_dup.specs.Lines.{bytes_in}
use Rattle.fam_dup.specs.Runs.{AreBelow, HoldFileParts, AreTogether}
use Rattle.fam_dup.proofs.Parts.{part_words}
use Rattle.fam_dup.proofs.Heads.{eight_word}

-- a byte among a line's eight words
eight_byte : (words : List ℕ) (b : ℕ) → b < 64 → byte_in (eight words) b ≡ byte_in words b
eight_byte words b small = ap (λ (w : ℕ). byte_of w (b % 8)) (eight_word words (b / 8) (omega arith))

module _ (image : Image) (p : Params) (e : Entry) (j first : ℕ) (mid new : List (List ℕ)) (sound : SoundParams p) (proper : Proper p e)
    (is : first ≡ file_line e j) (together : AreTogether e j (length mid)) (below : AreBelow e j (length mid)) (read : AreRead image first mid (length mid))
    (count : length new ≡ length mid) (counts : (i : ℕ) → i < length new → length (line_in new i) ≡ 8) (fits : (i w : ℕ) → i < length new → slice_index (line_in new i) w < 2 ^ 64)
    (others : (i : ℕ) → i < length mid - 1 → line_in new i ≡ line_in mid i)
    (last : (b : ℕ) → b < 64 → byte_in (line_in new (length mid - 1)) b ≡ if nat_lt b (e.size - line_bytes * (j + (length mid - 1))) then byte_in (line_in mid (length mid - 1)) b else 0) where
  -- line i is the file's, where its bytes are those that were read, up to the file's size
  one : (i : ℕ) → i < length new →
      ((b : ℕ) → b < 64 → byte_in (line_in new i) b ≡ if nat_lt b (e.size - 64 * (j + i)) then byte_in (line_in mid i) b else 0)
      → line_in new i ≡ file_words (bytes_in (line_at image) e) (j + i)
  one i inside each =
      let within : i < length mid = omega (arith, inside, count) in
      part_words (line_at image) p e (j + i) (eight (line_in mid i)) (line_in new i) sound proper (below i within)
      (read i within ∙ ap (line_at image) (ap (λ (l : ℕ). l + i) is ∙ sym (together i within)))
      (counts i inside) (λ w. fits i w inside)
      (λ b small. each b small ∙ ap (λ (n : ℕ). if nat_lt b (e.size - 64 * (j + i)) then n else 0) (sym (eight_byte (line_in mid i) b small)))

  pub parts_read : HoldFileParts (bytes_in (line_at image) e) j new
  parts_read i inside =
      elim (cases_lt i (length mid - 1)) [
        | inl before ↦
            let next : line_bytes * (j + (i + 1)) < e.size = below (i + 1) (omega (arith, before)) in
            one i inside (λ b small.
            let whole : (if nat_lt b (e.size - 64 * (j + i)) then byte_in (line_in mid i) b else 0) ≡ byte_in (line_in mid i) b =
            (let more : b < e.size - 64 * (j + i) = omega (arith, next, small) in grind (arith, nat_tests)) in
            ap (λ (w : List ℕ). byte_in w b) (others i before) ∙ sym whole)
        | inr past ↦
            let same : length mid - 1 ≡ i = omega (arith, inside, count, past) in
            one i inside (subst (λ (k : ℕ). (b : ℕ) → b < 64 → byte_in (line_in new k) b ≡ if nat_lt b (e.size - 64 * (j + k)) then byte_in (line_in mid k) b else 0) same last)
      ]
