-- The image that an append leaves is told by its lines.
use Rattle.std.proofs.Common.{ℕ, zero, suc, ◌≡◌, ◌≢◌, ◌⊎◌, ◌+◌, ◌*◌, ◌/◌, ◌<◌, List, [], ◌∷◌, map, inl, inr, sym, ◌∙◌, ap, arith}
use Rattle.std.specs.Prelude.{slice_set}
use Rattle.std.proofs.lemmas.Bool.{cases_eq}
use Rattle.fam_base.specs.declared.entry.Params.{Params}
use Rattle.fam_base.specs.declared.entry.Entry.{Entry}
use Rattle.fam_base.specs.Image.{Image, eight, line_at}
use Rattle.fam_base.proofs.ImageLemmas.{normal-with_line, same_images}
use Rattle.fam_format.specs.Layout.{geometry, gate_line, slot_line}
use Rattle.fam_rules.specs.Place.{line_bytes}
use Rattle.fam_rules.specs.Written.{Put, file_line, file_puts, put_line, put_lines, slot_puts, written}
use Rattle.fam_rules.specs.WrittenLaws.{IsAppended, IsOffSlot}

-- puts keep the form
normal_puts : (puts : List Put) (image : Image) → map eight image ≡ image → map eight (put_lines puts image) ≡ put_lines puts image
normal_puts [] image normal = normal
normal_puts (put ∷ more) image normal = normal_puts more (put_line image put) (normal-with_line image normal put.0 put.1)

pub written_normal : (image : Image) (p : Params) (n : ℕ) (e : Entry) (bytes : List ℕ) → map eight image ≡ image → map eight (written image p n e bytes) ≡ written image p n e bytes
unfolding written
written_normal image p n e bytes normal =
    normal-with_line (put_lines (slot_puts p n e) (put_lines (file_puts e bytes) image))
    (normal_puts (slot_puts p n e) (put_lines (file_puts e bytes) image) (normal_puts (file_puts e bytes) image normal)) gate_line
    (slice_set (line_at (put_lines (slot_puts p n e) (put_lines (file_puts e bytes) image)) gate_line) 0 (n + 1))

-- a line is one of the first n of a row, or none
pub in_row : (f : ℕ → ℕ) (l n : ℕ) → ((j : ℕ) × (j < n) × (l ≡ f j)) ⊎ ((j : ℕ) → j < n → l ≢ f j)
in_row f l zero = inr (λ j below. absurd (omega arith))
in_row f l (suc n) =
    elim (cases_eq l (f n)) [
      | inl here ↦ inl (n, omega arith, here)
      | inr other ↦
          elim (in_row f l n) [
            | inl found ↦ inl (found.0, omega (arith, found.1), found.2)
            | inr none ↦ inr (λ j below same. by_last j below same other none (cases_eq j n))
          ]
    ]
  where
    by_last : (j : ℕ) → j < suc n → l ≡ f j → l ≢ f n → ((i : ℕ) → i < n → l ≢ f i) → (j ≡ n) ⊎ (j ≢ n) → ⊥
    by_last j below same other none (inl last) = other (same ∙ ap f last)
    by_last j below same other none (inr prefix) = none j (omega arith) same

-- the lines of a file are as many
pub file_count : (size j : ℕ) → j < (size + 63) / 64 → line_bytes * j < size
file_count size j below = omega arith

pub count_file : (size j : ℕ) → line_bytes * j < size → j < (size + 63) / 64
count_file size j below = omega arith

module _ (p : Params) (n : ℕ) (e : Entry) (bytes : List ℕ) (image a b : Image) (of_a : IsAppended p n e bytes image a) (of_b : IsAppended p n e bytes image b) where
  alike_file : (l : ℕ) → IsOffSlot p n l → l ≢ gate_line → line_at a l ≡ line_at b l
  alike_file l off_slot gate =
      elim (in_row (file_line e) l ((e.size + 63) / 64)) [
        | inl found ↦
            ap (line_at a) found.2 ∙ of_a.file found.0 (file_count e.size found.0 found.1)
            ∙ sym (of_b.file found.0 (file_count e.size found.0 found.1)) ∙ ap (line_at b) (sym found.2)
        | inr none ↦
            of_a.others l gate off_slot (λ j below. none j (count_file e.size j below))
            ∙ sym (of_b.others l gate off_slot (λ j below. none j (count_file e.size j below)))
      ]

  alike : (l : ℕ) → line_at a l ≡ line_at b l
  alike l =
      elim (cases_eq l gate_line) [
        | inl gate ↦ ap (line_at a) gate ∙ of_a.gate ∙ sym of_b.gate ∙ ap (line_at b) (sym gate)
        | inr other ↦
            elim (in_row (slot_line p n) l (geometry p).lines) [
              | inl found ↦ ap (line_at a) found.2 ∙ of_a.slot found.0 found.1 ∙ sym (of_b.slot found.0 found.1) ∙ ap (line_at b) (sym found.2)
              | inr none ↦ alike_file l none other
            ]
      ]

  -- one image has these lines
  pub appended_alike : map eight a ≡ a → map eight b ≡ b → a ≡ b
  appended_alike normal_a normal_b = same_images a b normal_a normal_b (of_a.count ∙ sym of_b.count) (λ l below. alike l)
