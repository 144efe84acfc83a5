-- How the words of a script are spelled: each is a function of one word, and `None` where the word isn't spelled so.
use Rattle.std.specs.Prelude.{ℕ, ◌+◌, ◌-◌, ◌*◌, ◌^◌, Bool, ◌==◌, ◌&&◌, not, nat_le, if◌then◌else◌, List, [], ◌∷◌, length, take, drop, Option, Some, None, option_map, option_and_then, position, fold}
use Rattle.std.specs.List.{list_all}
use Rattle.std.specs.Str.{bytes_eq, is_utf8}
use Rattle.uuid.specs.Text.{parsed, hex_digit_value}
use Rattle.fam_base.specs.declared.cmd.Stripe.{Stripe}
use Rattle.fam_base.specs.Escapes.{is_plain}
use Rattle.fam_base.specs.HostNames.{is_host_name}
use Rattle.fam_base.specs.Paths.{is_path}
use Rattle.fam_format.specs.Params.{is_format}
use Rattle.fam_grammar.specs.Numbers.{number_of_text, size_of_text, below, not_zero}

-- a text that passes a test
abbrev pub passing : (List ℕ → Bool) → List ℕ → Option (List ℕ)
passing test text = if test text then Some text else None

-- Names.

-- NAME: a host's name, without escapes
abbrev pub name_of : List ℕ → Option (List ℕ)
name_of word = passing is_host_name word

-- UUID: any text that reads as one
unfoldable pub uuid_of : List ℕ → Option (List ℕ)
uuid_of word = if is_utf8 word then parsed word else None

-- the byte that two digits of sixteen stand for, in either case
abbrev pub byte_of : ℕ → ℕ → Option ℕ
byte_of high low = option_and_then (λ h. option_map (λ l. 16 * h + l) (hex_digit_value low)) (hex_digit_value high)

-- a byte in front of bytes, where both are there
abbrev pub in_prefix : ℕ → Option (List ℕ) → Option (List ℕ)
in_prefix byte bytes = option_map (λ rest. byte ∷ rest) bytes

-- a backslash and an `x`
abbrev pub is_escape : ℕ → ℕ → Bool
is_escape a b = (a == 0x5c) && (b == 0x78)

-- a byte stands before the rest, where both are read
abbrev pub in_prefix_of : Option ℕ → Option (List ℕ) → Option (List ℕ)
in_prefix_of None bytes = None
in_prefix_of (Some byte) bytes = in_prefix byte bytes

-- the bytes that a word stands for: a visible byte other than the backslash is itself, and `\x` with two digits of
-- sixteen, in either case, is the byte of these digits
abbrev pub unescaped : List ℕ → Option (List ℕ)
unescaped [] = Some []
unescaped (a ∷ []) = if is_plain a then Some (a ∷ []) else None
unescaped (a ∷ b ∷ []) = if is_plain a then in_prefix a (unescaped (b ∷ [])) else None
unescaped (a ∷ b ∷ c ∷ []) = if is_plain a then in_prefix a (unescaped (b ∷ c ∷ [])) else None
unescaped (a ∷ b ∷ c ∷ d ∷ rest) =
    if is_plain a then in_prefix a (unescaped (b ∷ c ∷ d ∷ rest))
    else if is_escape a b then in_prefix_of (byte_of c d) (unescaped rest)
    else None

-- PATH: what the word stands for is a path
unfoldable pub path_of : List ℕ → Option (List ℕ)
path_of word = option_and_then (passing is_path) (unescaped word)

-- FILE: what the word stands for is UTF-8 and not empty
abbrev pub is_file_name : List ℕ → Bool
is_file_name bytes = not (length bytes == 0) && is_utf8 bytes

-- the name of a source, behind its escapes
unfoldable pub file_of : List ℕ → Option (List ℕ)
file_of word = option_and_then (passing is_file_name) (unescaped word)

-- Numbers.

-- uid and gid
abbrev pub id_of : List ℕ → Option ℕ
id_of word = below (2 ^ 32) (number_of_text word)

-- MASK
abbrev pub mask_of : List ℕ → Option ℕ
mask_of word = below 256 (number_of_text word)

-- the COUNT of read: at most 4,096
abbrev pub count_of : List ℕ → Option ℕ
count_of word = below 4097 (number_of_text word)

-- the COUNT of step: 1 to 1,000,000,000
abbrev pub steps_of : List ℕ → Option ℕ
steps_of word = not_zero (below 1000000001 (number_of_text word))

-- the K of halt=: 1 to 80
abbrev pub halted_of : List ℕ → Option ℕ
halted_of word = not_zero (below 81 (number_of_text word))

-- the number of a format that there is
abbrev pub among_formats : Option ℕ → Option ℕ
among_formats None = None
among_formats (Some n) = if is_format n then Some n else None

-- the N of format=: a number, of a format in which file systems are made
abbrev pub format_of : List ℕ → Option ℕ
format_of word = among_formats (number_of_text word)

-- an octal digit
abbrev pub is_octal : ℕ → Bool
is_octal byte = nat_le 48 byte && nat_le byte 55

-- a number with one more octal digit behind it
abbrev pub with_octal : ℕ → ℕ → ℕ
with_octal n byte = n * 8 + (byte - 48)

-- MODE: 1 to 4 octal digits
unfoldable pub mode_of : List ℕ → Option ℕ
mode_of word =
    if nat_le 1 (length word) && nat_le (length word) 4 && list_all is_octal word then Some (fold with_octal 0 word) else None

-- the parts of a word before and behind its first comma
abbrev pub at_comma : List ℕ → Option (List ℕ × List ℕ)
at_comma word = option_map (λ i. (take i word, drop (i + 1) word)) (position (λ byte. byte == 44) word)

-- three numbers, where all are there
abbrev pub stripe_with : Option ℕ → Option ℕ → Option ℕ → Option Stripe
stripe_with None nbuckets chunk = None
stripe_with (Some nstrips) None chunk = None
stripe_with (Some nstrips) (Some nbuckets) None = None
stripe_with (Some nstrips) (Some nbuckets) (Some chunk) =
    Some (record { nstrips = nstrips; nbuckets = nbuckets; chunk = chunk })

-- the value of `stripe=`: two numbers and a size, with commas between
unfoldable pub stripe_of : List ℕ → Option Stripe
stripe_of word =
    option_and_then
    (λ first. option_and_then (λ second. stripe_with (number_of_text first.0) (number_of_text second.0) (size_of_text second.1)) (at_comma first.1))
    (at_comma word)

-- Words with a key.

-- what stands behind `key` in the word
abbrev pub value_behind : List ℕ → List ℕ → Option (List ℕ)
value_behind key word = if bytes_eq (take (length key) word) key then Some (drop (length key) word) else None
