-- Lines read and written in an image, and its normal form, in which each line has eight words.
use Rattle.std.proofs.Common.{◌≡◌, ℕ, zero, suc, Bool, true, false, cond, ◌<◌, List, [], ◌∷◌, length, get_or, set, Some, refl, sym, ap, ◌∙◌, arith}
use Rattle.std.specs.Prelude.{◌≢◌, map}
use Rattle.std.proofs.Math.ListN.{get_or-map}
use Rattle.std.proofs.lemmas.List.{map-set, set-get_or, get_or-set_same, get_or-set_other, length-set, same_lists, get_or_default}
use Rattle.fam_base.specs.Image.{Image, eight, line_at, with_line, masked, with_masked, IsNormal}

-- ---- a line's eight words

-- a line has eight words
pub length-eight : (words : List ℕ) → length (eight words) ≡ 8
length-eight words = refl

-- ---- masks

-- a masked line has eight words
pub eight-masked : (mask : ℕ) (new old : List ℕ) → eight (masked mask new old) ≡ masked mask new old
unfolding masked
eight-masked mask new old = refl

pub length-masked : (mask : ℕ) (new old : List ℕ) → length (masked mask new old) ≡ 8
unfolding masked
length-masked mask new old = refl

-- no word is masked: nothing is new
pub masked-none : (new old : List ℕ) → masked 0 new old ≡ eight old
unfolding masked
masked-none new old = refl

-- all are masked: nothing is old
pub masked-all : (new old : List ℕ) → masked 255 new old ≡ eight new
unfolding masked
masked-all new old = refl

same_both : (b : Bool) (x : ℕ) → cond b x x ≡ x
same_both true x = refl
same_both false x = refl

-- a line masked over itself
pub masked-same : (mask : ℕ) (words : List ℕ) → masked mask words words ≡ eight words
unfolding masked
masked-same mask words = simp same_both

-- ---- one line of an image

module _ (image : Image) (at : ℕ) (words : List ℕ) where
  -- the line that was written
  pub line_at-with_line : at < length image → line_at (with_line at words image) at ≡ eight words
  line_at-with_line within = ap eight (get_or-set_same image at (eight words) [] within)

  -- the other lines
  pub line_at-with_line_other : (other : ℕ) → other ≢ at → line_at (with_line at words image) other ≡ line_at image other
  line_at-with_line_other other h = ap eight (get_or-set_other image at other (eight words) [] h)

  -- an image keeps its length
  pub length-with_line : length (with_line at words image) ≡ length image
  length-with_line = length-set image at (eight words)

module _ (image : Image) (at : ℕ) (words : List ℕ) (mask : ℕ) where
  -- a masked write is a write of the masked line
  pub with_masked-with_line : with_masked at words mask image ≡ with_line at (masked mask words (line_at image at)) image
  unfolding masked
  with_masked-with_line = refl

-- ---- the normal form

-- eight words of each line are a normal image
pub normal-map_eight : (image : Image) → IsNormal (Some (map eight image))
normal-map_eight [] = refl
normal-map_eight (line ∷ image) = ap (λ (l : Image). eight line ∷ l) (normal-map_eight image)

-- past the end a line has zeros, whichever default is taken
eight_default : (image : Image) (at : ℕ) → eight (get_or image at []) ≡ eight (get_or image at (eight []))
eight_default [] at = refl
eight_default (line ∷ image) zero = refl
eight_default (line ∷ image) (suc at) = eight_default image at

-- they read as the image does
pub line_at-map_eight : (image : Image) (at : ℕ) → line_at (map eight image) at ≡ line_at image at
line_at-map_eight image at = eight_default (map eight image) at ∙ ap eight (get_or-map eight image at [])

module _ (image : Image) (normal : map eight image ≡ image) where
  -- a line of a normal image is what stands there
  pub line_at_normal : (at : ℕ) → line_at image at ≡ get_or image at (eight [])
  line_at_normal at = sym (get_or-map eight image at []) ∙ ap (λ (l : Image). get_or l at (eight [])) normal

  -- a line written over itself changes nothing
  pub with_line-line_at : (at : ℕ) → with_line at (line_at image at) image ≡ image
  with_line-line_at at = ap (set image at) (line_at_normal at) ∙ set-get_or image at (eight [])

  -- writes keep the form
  pub normal-with_line : (at : ℕ) (words : List ℕ) → IsNormal (Some (with_line at words image))
  normal-with_line at words = map-set eight image at (eight words) ∙ ap (λ (l : Image). set l at (eight words)) normal

  pub normal-with_masked : (at : ℕ) (words : List ℕ) (mask : ℕ) → IsNormal (Some (with_masked at words mask image))
  normal-with_masked at words mask = ap (λ (l : Image). map eight l) (with_masked-with_line image at words mask)
      ∙ normal-with_line at (masked mask words (line_at image at)) ∙ sym (with_masked-with_line image at words mask)

  -- with no word masked nothing changes
  pub with_masked-none : (at : ℕ) (words : List ℕ) → with_masked at words 0 image ≡ image
  with_masked-none at words = ap (set image at) (masked-none words (line_at image at)) ∙ with_line-line_at at

-- with all words masked the line is written
pub with_masked-all : (image : Image) (at : ℕ) (words : List ℕ) → with_masked at words 255 image ≡ with_line at words image
with_masked-all image at words = ap (set image at) (masked-all words (line_at image at))

-- two normal images of one length that read alike are one
pub same_images : (a b : Image) → map eight a ≡ a → map eight b ≡ b → length a ≡ length b → ((at : ℕ) → at < length a → line_at a at ≡ line_at b at) → a ≡ b
same_images a b normal_a normal_b same_length same_lines =
    same_lists a b same_length (λ k d below.
    get_or_default a k d (eight []) below
    ∙ sym (line_at_normal a normal_a k) ∙ same_lines k below ∙ line_at_normal b normal_b k
    ∙ get_or_default b k (eight []) d (omega arith))
