-- Simple commands of clap: their arguments, and what words mean to them. Each argument's id is its long name.
use Rattle.std.specs.Prelude.{ℕ, Bool, true, false, List, [], ◌∷◌, Option, Some, None, codes, fold, if◌then◌else◌}
use Rattle.std.specs.Str.{bytes_eq}
use Rattle.clap.specs.Walk.{Rule, Row, Text, first_of}
use Rattle.clap.specs.Simple.{App, new_app, new_rule, on_top, with_rule, matches_of}
use Rattle.clap.specs.Faults.{fault_of}
use Rattle.clap.specs.declared.error.kind.ErrorKind.{ErrorKind}
use Rattle.clap.specs.declared.builder.action.ArgAction.TheVariants.{Set, SetTrue}

-- a word that must stand, as IMAGE
unfoldable pub word_rule : Text → Rule
word_rule id = record (new_rule id) { required = true; action = Some Set }

-- a word that may stand, as [IMAGE]
unfoldable pub optional_rule : Text → Rule
optional_rule id = record (new_rule id) { action = Some Set }

-- an option with a value, `--id VALUE` or `-x VALUE`
unfoldable pub option_rule : Text → Option ℕ → Bool → Rule
option_rule id short required =
    record (new_rule id) { long = Some id; short = short; required = required; action = Some Set }

-- a flag, `--id` or `-x`
unfoldable pub flag_rule : Text → ℕ → Rule
flag_rule id short = record (new_rule id) { long = Some id; short = Some short; action = Some SetTrue }

-- a command that takes no word for its own name, and no help or version words
unfoldable pub plain_app : Text → App
plain_app name =
    on_top (λ s. record s { no_binary_name = true; disable_help_flag = true; disable_version_flag = true }) (new_app name)

-- a command with these arguments
abbrev pub app_with : Text → List Rule → App
app_with name rules = fold with_rule (plain_app name) rules

-- no fault is named
abbrev pub is_free_of_faults : List ErrorKind → Bool
is_free_of_faults [] = true
is_free_of_faults (kind ∷ more) = false

-- what the words mean to a command: its matches, or nothing where clap names a fault
unfoldable pub rows_given : App → List Text → Option (List Row)
rows_given app words = if is_free_of_faults (fault_of app words) then Some (matches_of app words) else None

-- the value of an option or of a word, in these rows
unfoldable pub value_in : Text → List Row → Option Text
value_in id rows = first_of id rows

-- whether a text is the value that a flag gets
abbrev pub says_true : Option Text → Bool
says_true None = false
says_true (Some t) = bytes_eq t (codes "true")

-- whether a flag stands among the words
abbrev pub flag_in : Text → List Row → Bool
flag_in id rows = says_true (value_in id rows)
