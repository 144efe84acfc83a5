-- The bytes of a file, by the lines that hold them.
use Rattle.std.proofs.Common.{◌≡◌, ℕ, zero, suc, ◌+◌, ◌-◌, ◌*◌, ◌/◌, ◌%◌, ◌<◌, ◌≤◌, List, length, take, get_or, refl, sym, ap, ap₂, ◌∙◌, inl, inr, arith}
use Rattle.std.proofs.lemmas.Bool.{cases_lt}
use Rattle.std.proofs.lemmas.List.{get_or-take, length-take-le}
use Rattle.std.proofs.lemmas.List.FromFn.{fill_by_all}
use Rattle.fam_base.specs.declared.entry.Entry.{Entry}
use Rattle.fam_base.specs.Image.{Image, byte_of, eight, line_at}
use Rattle.fam_format.specs.Reading.{Lines}
use Rattle.fam_media.specs.Runs.{AreRead, line_in}
use Rattle.fam_rules.specs.Content.{byte_in}
use Rattle.fam_rules.specs.Place.{place}
use Rattle.fam_rules.specs.Solo.{held_file}
use Rattle.fam_rules.specs.Written.{file_line}
use Rattle.fam_rules.proofs.FilePlaces.{line_place}
use Rattle.fam_rules.proofs.LinesApart.{file_within}
use Rattle.fam_opening.specs.Files.{AreInRow, HoldFirst, IsFileOn, byte_held}

eight_word : (words : List ℕ) (i : ℕ) → i < 8 → get_or (eight words) i 0 ≡ get_or words i 0
eight_word words zero h = refl
eight_word words (suc zero) h = refl
eight_word words (suc (suc zero)) h = refl
eight_word words (suc (suc (suc zero))) h = refl
eight_word words (suc (suc (suc (suc zero)))) h = refl
eight_word words (suc (suc (suc (suc (suc zero))))) h = refl
eight_word words (suc (suc (suc (suc (suc (suc zero)))))) h = refl
eight_word words (suc (suc (suc (suc (suc (suc (suc zero))))))) h = refl
eight_word words (suc (suc (suc (suc (suc (suc (suc (suc i)))))))) h = absurd (omega arith)

-- a byte among a line's eight words
eight_byte : (words : List ℕ) (b : ℕ) → b < 64 → byte_in (eight words) b ≡ byte_in words b
eight_byte words b small = ap (λ (w : ℕ). byte_of w (b % 8)) (eight_word words (b / 8) (omega arith))

module _ (e : Entry) (j n first size : ℕ) (file : IsFileOn e size) (row : AreInRow e j n) (is : first ≡ file_line e j) where
  -- lines of a file in a row lie within the device
  pub row_within : 0 < n → first + n ≤ size
  row_within some =
      let last : n - 1 < n = omega (arith, some) in
      omega (
        arith,
        file_within file.params e (j + (n - 1)) size file.sound file.proper (row.below (n - 1) last) file.device,
        row.together (n - 1) last,
        is,
        some,
      )

  -- the bytes of such lines are the file's
  pub row_bytes : (image : Image) (lines : List (List ℕ)) → AreRead image first lines n
      → (i b : ℕ) → i < n → b < 64 → byte_in (line_in lines i) b ≡ byte_held (line_at image) e (64 * (j + i) + b)
  row_bytes image lines read i b inside small =
      let stands : place e (64 * (j + i) + b) ≡ 64 * file_line e (j + i) + b = line_place file.params e (j + i) b file.sound file.proper (row.below i inside) small in
      let at : place e (64 * (j + i) + b) / 64 ≡ file_line e (j + i) = omega arith in
      let byte : place e (64 * (j + i) + b) % 64 ≡ b = omega arith in
      sym (eight_byte (line_in lines i) b small)
      ∙ ap (λ (w : List ℕ). byte_in w b) (read i inside ∙ ap (line_at image) (ap (λ (l : ℕ). l + i) is ∙ sym (row.together i inside)))
      ∙ sym (ap₂ (λ (l k : ℕ). byte_in (line_at image l) k) at byte)

module _ (memory : Lines) (e : Entry) where
  -- more lines behind those before
  pub held_more : (j n : ℕ) (lines : List (List ℕ)) (old new : List ℕ) → length old ≡ 64 * j → length new ≡ 64 * (j + n)
      → ((k : ℕ) → k < length old → get_or new k 0 ≡ get_or old k 0)
      → ((i b : ℕ) → i < n → b < 64 → get_or new (length old + 64 * i + b) 0 ≡ byte_in (line_in lines i) b)
      → ((i b : ℕ) → i < n → b < 64 → byte_in (line_in lines i) b ≡ byte_held memory e (64 * (j + i) + b))
      → HoldFirst memory e old → HoldFirst memory e new
  held_more j n lines old new count long before here bytes held o below =
      elim (cases_lt o (length old)) [
        | inl earlier ↦ before o earlier ∙ held o earlier
        | inr past ↦
            let i : ℕ = o / 64 - j in
            let b : ℕ = o % 64 in
            let there : length old + 64 * i + b ≡ o = omega (arith, count, past) in
            let byte : 64 * (j + i) + b ≡ o = omega (arith, count, past) in
            let inside : i < n = omega (arith, below, long, count, past) in
            ap (λ (k : ℕ). get_or new k 0) (sym there)
            ∙ here i b inside (omega arith)
            ∙ bytes i b inside (omega arith)
            ∙ ap (byte_held memory e) byte
      ]

  -- the first ones, as many as the file has
  pub held_all : (bytes : List ℕ) → e.size ≤ length bytes → HoldFirst memory e bytes → take e.size bytes ≡ (held_file memory e).bytes
  held_all bytes long held =
      fill_by_all (byte_held memory e) (take e.size bytes) e.size 0 (length-take-le e.size bytes long)
      (λ k below. get_or-take e.size bytes k 0 below ∙ held k (omega (arith, below, long)))
