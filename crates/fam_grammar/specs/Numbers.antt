-- Numbers and sizes as words spell them. docs/MANUAL.md, "Sizes and UUIDs".
use Rattle.std.specs.Prelude.{ℕ, ◌+◌, ◌-◌, ◌*◌, ◌^◌, ◌==◌, ◌&&◌, ◌||◌, if◌then◌else◌, nat_le, nat_lt, List, length, take, slice_index, Option, Some, None}
use Rattle.std.specs.Char.{is_ascii_digit}
use Rattle.std.specs.Str.{all_ascii_digits}
use Rattle.std.specs.Str.Parse.{digits_value}

-- a number that fits 64 bits
abbrev pub fitting : ℕ → Option ℕ
fitting n = if nat_lt n (2 ^ 64) then Some n else None

-- a number with one more digit behind it
abbrev pub digit_behind : ℕ → ℕ → Option ℕ
digit_behind n byte = if is_ascii_digit byte then fitting (n * 10 + (byte - 48)) else None

-- 1 to 20 decimal digits, zeros in front among them, and a value below 2^64
unfoldable pub number_of_text : List ℕ → Option ℕ
number_of_text text =
    if nat_le 1 (length text) && nat_le (length text) 20 && all_ascii_digits text then fitting (digits_value 10 text) else None

-- what a letter behind a number multiplies it by: `k` and `K`, `m` and `M`, `g` and `G`
abbrev pub multiplier_of : ℕ → Option ℕ
multiplier_of letter =
    if (letter == 107) || (letter == 75) then Some 1024
    else if (letter == 109) || (letter == 77) then Some 1048576
    else if (letter == 103) || (letter == 71) then Some 1073741824
    else None

-- so many times a number, below 2^64
abbrev pub times : ℕ → Option ℕ → Option ℕ
times m None = None
times m (Some n) = fitting (n * m)

-- a text whose last byte is such a letter, or none
abbrev pub size_behind : Option ℕ → List ℕ → Option ℕ
size_behind None text = number_of_text text
size_behind (Some m) text = times m (number_of_text (take (length text - 1) text))

-- a number, and at most one letter behind it
unfoldable pub size_of_text : List ℕ → Option ℕ
size_of_text text = size_behind (multiplier_of (slice_index text (length text - 1))) text

-- a number below a limit
abbrev pub below : ℕ → Option ℕ → Option ℕ
below limit None = None
below limit (Some n) = if nat_lt n limit then Some n else None

-- a number of at least one
abbrev pub not_zero : Option ℕ → Option ℕ
not_zero None = None
not_zero (Some n) = if n == 0 then None else Some n
