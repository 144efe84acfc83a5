-- The image: a list of lines of eight 64-bit words, little-endian on media. docs/FORMAT.md, "Words and lines".
use Rattle.std.specs.Prelude.{ℕ, Option, Some, None, List, [], ◌∷◌, ◌≡◌, ◌/◌, ◌%◌, ◌^◌, ◌==◌, if◌then◌else◌, ⊤, map, slice_index, slice_index_or, slice_set}
use Rattle.std.specs.List.{range_with_len}

-- lines of words
abbrev pub Image : Type 0
Image = List (List ℕ)

-- the eight words of a line, 0 past the list's end: a line has eight words whatever the list is
abbrev pub eight : List ℕ → List ℕ
eight ws = slice_index ws 0 ∷ slice_index ws 1 ∷ slice_index ws 2 ∷ slice_index ws 3 ∷ slice_index ws 4 ∷ slice_index ws 5 ∷ slice_index ws 6 ∷ slice_index ws 7 ∷ []

-- the words of a line, zeros past the image's end. Definitions read lines by this word alone
abbrev pub line_at : Image → ℕ → List ℕ
line_at image line = eight (slice_index_or image line [])

-- one word of a line
abbrev pub word_at : Image → ℕ → ℕ → ℕ
word_at image line w = slice_index (line_at image line) w

-- byte b of a word, from the low end
abbrev pub byte_of : ℕ → ℕ → ℕ
byte_of word b = word / 256 ^ b % 256

-- byte b of the image: byte b mod 8 of word (b / 8) mod 8 of line b / 64
unfoldable pub byte_at : Image → ℕ → ℕ
byte_at image b = byte_of (word_at image (b / 64) (b / 8 % 8)) (b % 8)

-- the image with these words in one line
abbrev pub with_line : ℕ → List ℕ → Image → Image
with_line line words image = slice_set image line (eight words)

-- word w after the words of `new` that the mask's bits name were written over `old`
abbrev pub masked_word : ℕ → List ℕ → List ℕ → ℕ → ℕ
masked_word mask new old w = if mask / 2 ^ w % 2 == 1 then slice_index new w else slice_index old w

-- the words of `new` that the mask's bits name, and those of `old` elsewhere
unfoldable pub masked : ℕ → List ℕ → List ℕ → List ℕ
masked mask new old = map (masked_word mask new old) (range_with_len 0 8)

-- the image after the masked words of a line were written
abbrev pub with_masked : ℕ → List ℕ → ℕ → Image → Image
with_masked line words mask image = slice_set image line (masked mask words (line_at image line))

-- an image that is modelled has eight words in each line
abbrev pub IsNormal : Option Image → Type 0
IsNormal None = ⊤
IsNormal (Some image) = map eight image ≡ image
