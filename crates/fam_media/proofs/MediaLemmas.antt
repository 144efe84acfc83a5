-- Writes of lines and of masked words, seen by eight words of each line.
use Rattle.std.proofs.Common.{◌≡◌, ℕ, zero, suc, ◌<◌, List, [], ◌∷◌, Option, Some, None, length, get_or, map, set, refl, sym, ap, ◌∙◌, arith}
use Rattle.std.proofs.lemmas.List.{map-set, get_or_default}
use Rattle.fam_base.specs.Image.{Image, IsNormal, eight, line_at, with_line, masked, with_masked}
use Rattle.fam_base.proofs.ImageLemmas.{eight-masked, line_at-map_eight, with_masked-none}
use Rattle.fam_media.specs.Outside.{IsTorn, masks}
use Rattle.fam_media.specs.MemoryMedia.{blank}

module _ (image : Image) (at : ℕ) (words : List ℕ) where
  -- eight words of each line after a line was written
  pub eight-with_line : map eight (with_line at words image) ≡ with_line at words (map eight image)
  eight-with_line = map-set eight image at (eight words)

  -- and after masked words were
  pub eight-with_masked : (mask : ℕ) → map eight (with_masked at words mask image) ≡ with_masked at words mask (map eight image)
  eight-with_masked mask =
      map-set eight image at (masked mask words (line_at image at))
      ∙ ap (set (map eight image) at) (eight-masked mask words (line_at image at)
      ∙ ap (masked mask words) (sym (line_at-map_eight image at)))

-- only eight words of the old line count
masked-old : (mask : ℕ) (new old : List ℕ) → masked mask new old ≡ masked mask new (eight old)
unfolding masked
masked-old mask new old = refl

-- a masked line that takes the place of the old one
pub eight-set_masked : (image : Image) (at : ℕ) (words old torn : List ℕ) (mask : ℕ) → at < length image → old ≡ get_or image at old → torn ≡ masked mask words old
    → map eight (set image at torn) ≡ with_masked at words mask (map eight image)
eight-set_masked image at words old torn mask within stood is =
    map-set eight image at torn
    ∙ ap (set (map eight image) at) (ap eight is ∙ eight-masked mask words old ∙ masked-old mask words old
    ∙ ap (masked mask words) (ap eight (stood ∙ get_or_default image at old [] within) ∙ sym (line_at-map_eight image at)))

module _ (image now : Image) (at : ℕ) (words : List ℕ) where
  -- what a media tells after a line was written
  pub modelled_after_line : now ≡ with_line at words image → Some (map eight now) ≡ Some (with_line at words (map eight image))
  modelled_after_line is = ap (λ (i : Image). Some (map eight i)) is ∙ ap Some (eight-with_line image at words)

  -- and after masked words were
  pub modelled_after_words : (mask : ℕ) → mask < masks → now ≡ with_masked at words mask image → IsTorn (Some (map eight image)) (Some (map eight now)) at words
  modelled_after_words mask fits is = record {
    mask = mask;
    fits = fits;
    written = ap (λ (i : Image). Some (map eight i)) is ∙ ap Some (eight-with_masked image at words mask);
  }

-- A write of which no word came through.

-- a line is torn where nothing changed
pub untouched_torn : (modelled : Option Image) → IsNormal modelled → (line : ℕ) (words : List ℕ) → IsTorn modelled modelled line words
untouched_torn None normal line words = record { mask = 0; fits = omega arith; written = refl }
untouched_torn (Some image) normal line words = record {
  mask = 0;
  fits = omega arith;
  written = ap Some (sym (with_masked-none image normal line words));
}

-- blank lines have eight words
pub eight-blank : (lines : ℕ) → map eight (blank lines) ≡ blank lines
eight-blank zero = refl
eight-blank (suc lines) = ap (λ (i : Image). eight [] ∷ i) (eight-blank lines)
