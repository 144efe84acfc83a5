-- Bytes of a file that stand one behind another.
use Rattle.std.proofs.Common.{◌≡◌, ℕ, ◌+◌, ◌-◌, ◌*◌, ◌/◌, ◌%◌, ◌<◌, ◌≤◌, List, length, get_or, drop, sym, ap, ◌∙◌, arith}
use Rattle.std.specs.Prelude.{slice_index_or}
use Rattle.std.proofs.lemmas.Nat.{div-add-mod', div-mul-add, mod-mul-add}
use Rattle.fam_base.specs.declared.extents.Extent.{Extent}
use Rattle.fam_base.specs.ExtentLists.{no_extent}
use Rattle.fam_rules.specs.Place.{simple_place, striped_place}
use Rattle.fam_content.proofs.Along.{here, further}

-- what is left to pass of a place, and of each place behind it, is one in the extents that are left
abbrev pub IsLeft : List Extent → ℕ → ℕ → ℕ → Type 0
IsLeft xs offset i left = (d : ℕ) → simple_place (drop i xs) (left + d) ≡ simple_place xs (offset + d)

module _ (xs : List Extent) (offset i left : ℕ) (within : i < length xs) (is : IsLeft xs offset i left) where
  -- an extent further
  pub left_further : (get_or xs i no_extent).length ≤ left → IsLeft xs offset (i + 1) (left - (get_or xs i no_extent).length)
  left_further past = λ d.
      let size : ℕ = (get_or xs i no_extent).length in
      let at : left - size + d ≡ left + d - size = omega (arith, past) in
      ap (simple_place (drop (i + 1) xs)) at ∙ further xs i (left + d) within (omega (arith, past)) ∙ is d

  -- in this one the places stand one behind another
  pub in_extent : (d : ℕ) → left + d < (get_or xs i no_extent).length → simple_place xs (offset + d) ≡ (get_or xs i no_extent).offset + (left + d)
  in_extent d inside = sym (is d) ∙ here xs i (left + d) within inside

  pub row_in_extent : left < (get_or xs i no_extent).length → (d : ℕ) → d < (get_or xs i no_extent).length - left → simple_place xs (offset + d) ≡ simple_place xs offset + d
  row_in_extent inside d within_extent =
      let none : offset + 0 ≡ offset = omega arith in
      let first : simple_place xs offset ≡ (get_or xs i no_extent).offset + (left + 0) = ap (simple_place xs) (sym none) ∙ in_extent 0 (omega (arith, inside)) in
      let at = in_extent d (omega (arith, within_extent)) in
      omega (arith, first, at)

-- a byte of chunk q of a striped file, r bytes behind the chunk's first
place_of_chunk : List Extent → ℕ → ℕ → ℕ → ℕ
place_of_chunk strips chunk q r = (slice_index_or strips (q % length strips) no_extent).offset + (q / length strips * chunk + r)

-- the bytes of a chunk stand one behind another
pub row_in_chunk : (strips : List Extent) (chunk offset : ℕ) → 0 < chunk → (d : ℕ) → d < chunk - offset % chunk → striped_place strips chunk (offset + d) ≡ striped_place strips chunk offset + d
unfolding place_of_chunk
row_in_chunk strips chunk offset some d within =
    let q : ℕ = offset / chunk in
    let r : ℕ = offset % chunk in
    let small : r + d < chunk = omega (arith, within) in
    let split : offset + d ≡ q * chunk + (r + d) = omega (arith, div-add-mod' offset chunk) in
    let number : (offset + d) / chunk ≡ q = ap (λ (n : ℕ). n / chunk) split ∙ div-mul-add q chunk (r + d) small in
    let rest : (offset + d) % chunk ≡ r + d = ap (λ (n : ℕ). n % chunk) split ∙ mod-mul-add q chunk (r + d) small in
    let there : place_of_chunk strips chunk ((offset + d) / chunk) ((offset + d) % chunk) ≡ place_of_chunk strips chunk q (r + d) =
    ap (λ (n : ℕ). place_of_chunk strips chunk n ((offset + d) % chunk)) number ∙ ap (place_of_chunk strips chunk q) rest in
    there ∙ omega arith
