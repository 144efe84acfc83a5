-- Runs of lines: those of a file that stand one behind another, and what a run puts.
use Rattle.std.specs.Prelude.{ℕ, ◌≡◌, ◌+◌, ◌*◌, ◌<◌, List, length, map}
use Rattle.std.specs.List.{range_with_len}
use Rattle.fam_base.specs.declared.entry.Entry.{Entry}
use Rattle.fam_media.specs.Runs.{line_in}
use Rattle.fam_rules.specs.Content.{file_words}
use Rattle.fam_rules.specs.Place.{line_bytes}
use Rattle.fam_rules.specs.Written.{Put, file_line}

-- n lines of a file from line j on stand one behind another
abbrev pub AreTogether : Entry → ℕ → ℕ → Type 0
AreTogether e j n = (i : ℕ) → i < n → file_line e (j + i) ≡ file_line e j + i

-- each of them has a byte of the file
abbrev pub AreBelow : Entry → ℕ → ℕ → Type 0
AreBelow e j n = (i : ℕ) → i < n → line_bytes * (j + i) < e.size

-- these lines are those of a file with such bytes, from line j on
abbrev pub HoldFileParts : List ℕ → ℕ → List (List ℕ) → Type 0
HoldFileParts bytes j lines = (i : ℕ) → i < length lines → line_in lines i ≡ file_words bytes (j + i)

-- n lines of a file with such bytes, from line j on
abbrev pub part_puts : Entry → List ℕ → ℕ → ℕ → List Put
part_puts e bytes j n = map (λ i. (file_line e i, file_words bytes i)) (range_with_len j n)

-- lines one behind another, from one of the device on
abbrev pub run_puts : ℕ → List (List ℕ) → List Put
run_puts first lines = map (λ k. (first + k, line_in lines k)) (range_with_len 0 (length lines))
