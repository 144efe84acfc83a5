-- Records, and the lines of a box that hold them. docs/MODEL.md, "The mailbox".
use Rattle.std.specs.Prelude.{ℕ, Bool, ◌≡◌, ◌+◌, ◌-◌, ◌≤◌, ◌==◌, ◌&&◌, nat_lt, nat_le, if◌then◌else◌, List, [], ◌∷◌, ◌++◌, length, take, drop, replicate, slice_index, Option, Some, None, Result, Ok, Err}

-- the most numbers of a record: a line has eight words, and the first one counts them
abbrev pub most_numbers : ℕ
most_numbers = 7

-- so many numbers are a record
pub record IsRecord (numbers : List ℕ) : Type 0 where
  pub some : 1 ≤ length numbers
  pub few : length numbers ≤ most_numbers

-- the line of a record: how many numbers it has, the numbers, and zeros behind
abbrev pub record_line : List ℕ → List ℕ
record_line numbers = (length numbers ∷ numbers) ++ replicate (most_numbers - length numbers) 0

-- the first of these words that isn't zero, where the first of them is word k of its line
abbrev pub first_set : List ℕ → ℕ → Option ℕ
first_set [] k = None
first_set (word ∷ words) k = if word == 0 then first_set words (k + 1) else Some k

-- a count of numbers: 1 to 7
abbrev pub is_count : ℕ → Bool
is_count count = nat_lt 0 count && nat_le count most_numbers

-- the first word that makes a line no record: a count that is none, or else the first word behind the numbers that isn't zero
abbrev pub wrong_word : List ℕ → Option ℕ
wrong_word words =
    if is_count (slice_index words 0) then first_set (drop (slice_index words 0 + 1) words) (slice_index words 0 + 1) else Some 0

-- the numbers of a line that is a record
abbrev pub numbers_in : List ℕ → List ℕ
numbers_in words = take (slice_index words 0) (drop 1 words)

-- the numbers, or the word that makes the line no record
abbrev pub numbers_or : List ℕ → Option ℕ → Result (List ℕ) ℕ
numbers_or numbers None = Ok numbers
numbers_or numbers (Some word) = Err word

-- the record of a line, or the first word that makes it none
abbrev pub record_in : List ℕ → Result (List ℕ) ℕ
record_in words = numbers_or (numbers_in words) (wrong_word words)

-- a line that is a record's, and no other one
pub record IsRecordLine (words : List ℕ) : Type 0 where
  pub right : wrong_word words ≡ None
  pub numbers : IsRecord (numbers_in words)
  pub line : words ≡ record_line (numbers_in words)
