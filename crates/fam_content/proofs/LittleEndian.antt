-- Words that are read from bytes, the low byte first.
use Rattle.std.proofs.Common.{◌≡◌, ℕ, zero, suc, ◌+◌, ◌*◌, ◌/◌, ◌%◌, ◌-◌, ◌<◌, ◌≤◌, List, ◌++◌, length, take, drop, replicate, get_or, inl, inr, refl, sym, ap, ◌∙◌, arith}
use Rattle.std.proofs.lemmas.Bool.{cases_lt}
use Rattle.std.proofs.lemmas.List.{get_or-drop, get_or-take, get_or_past, get_or_append_left, get_or-append_right, get_or-replicate, length-take-le}
use Rattle.byteorder.specs.Endian.{little_from, little_number, IsRead}
use Rattle.fam_base.specs.Image.{byte_of}
use Rattle.fam_rules.specs.Content.{byte_in}
use Rattle.fam_content.proofs.Cutting.{byte_above}

-- byte j of the number in n bytes
little_byte : (n i j : ℕ) (xs : List ℕ) → ((k : ℕ) → get_or xs k 0 < 256) → j < n → byte_of (little_from i n xs) j ≡ get_or xs (i + j) 0
little_byte zero i j xs fits below = absurd (omega arith)
little_byte (suc n) i zero xs fits below =
    let at : i ≡ i + 0 = omega arith in
    let low : (get_or xs i 0 + 256 * little_from (suc i) n xs) / 1 % 256 ≡ get_or xs i 0 = omega (arith, fits i) in
    low ∙ ap (λ (k : ℕ). get_or xs k 0) at
little_byte (suc n) i (suc j) xs fits below =
    let at : suc i + j ≡ i + suc j = omega arith in
    let above : (get_or xs i 0 + 256 * little_from (suc i) n xs) / 256 ≡ little_from (suc i) n xs = omega (arith, fits i) in
    byte_above (get_or xs i 0 + 256 * little_from (suc i) n xs) j
    ∙ ap (λ (y : ℕ). byte_of y j) above
    ∙ little_byte n (suc i) j xs fits (omega arith)
    ∙ ap (λ (k : ℕ). get_or xs k 0) at

-- byte b of words that were read
byte_of_read : (bytes words : List ℕ) → IsRead little_number 8 bytes words → ((k : ℕ) → get_or bytes k 0 < 256) → (b : ℕ) → b < 8 * length words → byte_in words b ≡ get_or bytes b 0
byte_of_read bytes words read fits b below =
    let at : 8 * (b / 8) + (0 + b % 8) ≡ b = omega arith in
    let rest_fits : (k : ℕ) → get_or (drop (8 * (b / 8)) bytes) k 0 < 256 = λ k. omega (arith, get_or-drop (8 * (b / 8)) bytes k 0, fits (8 * (b / 8) + k)) in
    ap (λ (word : ℕ). byte_of word (b % 8)) (read (b / 8) (omega arith))
    ∙ little_byte 8 0 (b % 8) (drop (8 * (b / 8)) bytes) rest_fits (omega arith)
    ∙ get_or-drop (8 * (b / 8)) bytes (0 + b % 8) 0
    ∙ ap (λ (k : ℕ). get_or bytes k 0) at

-- the prefix of bytes are bytes
prefix_fits : (bytes : List ℕ) (n k : ℕ) → ((i : ℕ) → get_or bytes i 0 < 256) → n ≤ length bytes → get_or (take n bytes) k 0 < 256
prefix_fits bytes n k fits long =
    elim (cases_lt k n) [
      | inl below ↦ omega (arith, get_or-take n bytes k 0 below, fits k)
      | inr past ↦ omega (arith, get_or_past (take n bytes) k 0 (omega (arith, length-take-le n bytes long)))
    ]

-- eight words that were read from the first 64 bytes have these bytes
pub whole_line_bytes : (bytes words : List ℕ) → 64 ≤ length bytes → length words ≡ 8 → ((i : ℕ) → get_or bytes i 0 < 256)
    → IsRead little_number 8 (take 64 bytes) words → (b : ℕ) → b < 64 → byte_in words b ≡ get_or bytes b 0
whole_line_bytes bytes words long count fits read b below =
    byte_of_read (take 64 bytes) words read (λ k. prefix_fits bytes 64 k fits long) b (omega arith) ∙ get_or-take 64 bytes b 0 below

-- zeros behind bytes are what is read past their end
pub padded_byte : (bytes : List ℕ) (n b : ℕ) → b < n → get_or (bytes ++ drop (length bytes) (replicate n 0)) b 0 ≡ get_or bytes b 0
padded_byte bytes n b below =
    elim (cases_lt b (length bytes)) [
      | inl inside ↦ get_or_append_left bytes (drop (length bytes) (replicate n 0)) 0 b inside
      | inr past ↦
          let at : length bytes + (b - length bytes) ≡ b = omega arith in
          get_or-append_right bytes (drop (length bytes) (replicate n 0)) (length bytes) b 0 refl past
          ∙ get_or-drop (length bytes) (replicate n 0) (b - length bytes) 0
          ∙ ap (λ (k : ℕ). get_or (replicate n 0) k 0) at
          ∙ get_or-replicate n b 0 0 below
          ∙ sym (get_or_past bytes b 0 past)
    ]
