-- Options: words behind the others of a line, in any order, each at most once.
use Rattle.std.specs.Prelude.{ℕ, Bool, true, false, if◌then◌else◌, List, [], ◌∷◌, codes, Option, Some, None, option_map, option_and_then}
use Rattle.std.specs.Str.{bytes_eq}
use Rattle.fam_grammar.specs.declared.options.FileOption.{FileOption}
use Rattle.fam_grammar.specs.declared.options.FileOption.TheVariants as file
use Rattle.fam_grammar.specs.declared.options.FileOptions.{FileOptions}
use Rattle.fam_grammar.specs.declared.options.MkfsOption.{MkfsOption}
use Rattle.fam_grammar.specs.declared.options.MkfsOption.TheVariants as mkfs
use Rattle.fam_grammar.specs.declared.options.MkfsOptions.{MkfsOptions}
use Rattle.fam_grammar.specs.declared.options.Takes.{Takes}
use Rattle.fam_grammar.specs.Numbers.{number_of_text, size_of_text}
use Rattle.fam_grammar.specs.Reading.{Reading, Reads, Misfit}
use Rattle.fam_grammar.specs.Spellings.{format_of, halted_of, id_of, mode_of, stripe_of, value_behind}
use Rattle.fam_grammar.specs.Words.{Word}

-- a word with this key and a value that is spelled so; or else another word
abbrev pub keyed : {A : Type 0} → Option (List ℕ) → (List ℕ → Option A) → Option A → Option A
keyed None spelling other = other
keyed (Some value) spelling other = spelling value

-- An option's place is free, and it is taken.
abbrev pub once : {A B : Type 0} → Option A → B → Option B
once None taken = Some taken
once (Some old) taken = None

-- where a line takes such an option
abbrev pub where_taken : {A : Type 0} → Bool → Option A → Option A
where_taken true option = option
where_taken false option = None

-- Of mkdir, creat and cp.

-- an option's word
unfoldable pub file_option_of : List ℕ → Option FileOption
file_option_of word =
    keyed (value_behind (codes "mode=") word) (λ v. option_map file.Mode (mode_of v))
    (keyed (value_behind (codes "uid=") word) (λ v. option_map file.Uid (id_of v))
    (keyed (value_behind (codes "gid=") word) (λ v. option_map file.Gid (id_of v))
    (keyed (value_behind (codes "seed=") word) (λ v. option_map file.Seed (number_of_text v))
    (keyed (value_behind (codes "stripe=") word) (λ v. option_map file.Stripe (stripe_of v)) None))))

-- the options of a file that are given, as crates above name them
abbrev pub GivenOptions : Type 0
GivenOptions = FileOptions

-- which options a command takes, as crates above name it
abbrev pub TakenOptions : Type 0
TakenOptions = Takes

-- one more option, of a line that takes these
abbrev pub with_file_option : Takes → FileOptions → FileOption → Option FileOptions
with_file_option takes given (file.Mode mode) = once given.mode (record given { mode = Some mode })
with_file_option takes given (file.Uid uid) = once given.uid (record given { uid = Some uid })
with_file_option takes given (file.Gid gid) = once given.gid (record given { gid = Some gid })
with_file_option takes given (file.Seed seed) = where_taken takes.seed (once given.seed (record given { seed = Some seed }))
with_file_option takes given (file.Stripe stripe) = where_taken takes.stripe (once given.stripe (record given { stripe = Some stripe }))

-- one more word
abbrev pub with_file_word : Takes → FileOptions → List ℕ → Option FileOptions
with_file_word takes given word = option_and_then (with_file_option takes given) (file_option_of word)

-- all words that are left
abbrev pub file_options : Takes → FileOptions → List Word → Reading FileOptions
file_options takes given [] = Reads given []
file_options takes given (word ∷ words) =
    elim (with_file_word takes given word.text) as (λ _. Reading FileOptions) [
      | None ↦ Misfit word.column
      | Some more ↦ file_options takes more words
    ]

-- no option is given
abbrev pub no_file_options : FileOptions
no_file_options = record { mode = None; uid = None; gid = None; seed = None; stripe = None }

-- Of mkfs.

-- one option of a mkfs
unfoldable pub mkfs_option_of : List ℕ → Option MkfsOption
mkfs_option_of word =
    keyed (value_behind (codes "unit=") word) (λ v. option_map mkfs.Unit (size_of_text v))
    (keyed (value_behind (codes "log=") word) (λ v. option_map mkfs.Log (size_of_text v))
    (keyed (value_behind (codes "format=") word) (λ v. option_map mkfs.Format (format_of v))
    (keyed (value_behind (codes "halt=") word) (λ v. option_map mkfs.Halt (halted_of v))
    (if bytes_eq word (codes "force") then Some mkfs.Force else None))))

-- an option joins those before it; none is given twice
abbrev pub with_mkfs_option : MkfsOptions → MkfsOption → Option MkfsOptions
with_mkfs_option given (mkfs.Unit unit) = once given.unit (record given { unit = Some unit })
with_mkfs_option given (mkfs.Log log) = once given.log (record given { log = Some log })
with_mkfs_option given (mkfs.Format format) = once given.format (record given { format = Some format })
with_mkfs_option given (mkfs.Halt count) = once given.halt (record given { halt = Some count })
with_mkfs_option given mkfs.Force = if given.force then None else Some (record given { force = true })

-- a word joins the options before it, where it is one
abbrev pub with_mkfs_word : MkfsOptions → List ℕ → Option MkfsOptions
with_mkfs_word given word = option_and_then (with_mkfs_option given) (mkfs_option_of word)

-- the options that stand at a line's end
abbrev pub mkfs_options : MkfsOptions → List Word → Reading MkfsOptions
mkfs_options given [] = Reads given []
mkfs_options given (word ∷ words) =
    elim (with_mkfs_word given word.text) as (λ _. Reading MkfsOptions) [
      | None ↦ Misfit word.column
      | Some more ↦ mkfs_options more words
    ]

-- no option is given
abbrev pub no_mkfs_options : MkfsOptions
no_mkfs_options = record { unit = None; log = None; format = None; force = false; halt = None }
