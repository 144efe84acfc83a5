-- Which words ask for a copy of a file system.
use Rattle.std.specs.Prelude.{if◌then◌else◌, Bool, false, List, ℕ, [], ◌∷◌, codes, Option, Some, None, option_and_then}
use Rattle.std.specs.Str.{bytes_eq}
use Rattle.clap.specs.Simple.{App}
use Rattle.clap.specs.Walk.{Row, Text}
use Rattle.uuid.specs.Text.{parsed}
use Rattle.fam_format.specs.Params.{first_number}
use Rattle.fam_grammar.specs.Lines.{default_log, default_unit}
use Rattle.fam_grammar.specs.Numbers.{size_of_text}
use Rattle.fam_grammar.specs.Spellings.{format_of}
use Rattle.fam_words.specs.declared.wanted.DupCall.{DupCall}
use Rattle.fam_words.specs.Calls.{system_of}
use Rattle.fam_words.specs.Simple.{app_with, flag_in, flag_rule, option_rule, rows_given, value_in, word_rule}
use Rattle.fam_words.specs.Values.{IsFormat, if_given, or_default}

-- FROM TO -u -l -f --format --uuid --system
unfoldable pub dup_app : App
dup_app =
    app_with (codes "dup") ((word_rule (codes "from")
    ∷ word_rule (codes "to")
    ∷ option_rule (codes "unit") (Some 117) false
    ∷ option_rule (codes "loglen") (Some 108) false
    ∷ flag_rule (codes "force") 102
    ∷ option_rule (codes "format") None false
    ∷ option_rule (codes "uuid") None false
    ∷ option_rule (codes "system") None false
    ∷ []))

-- a copy with these values, where each is good; an image is not copied onto itself
abbrev pub dup_with : Option Text → Option Text → Option ℕ → Option ℕ → Option ℕ → Option (Option (List ℕ)) → Option (Option (List ℕ)) → Bool → Option DupCall
dup_with None to unit log format fs system force = None
dup_with (Some from) None unit log format fs system force = None
dup_with (Some from) (Some to) None log format fs system force = None
dup_with (Some from) (Some to) (Some unit) None format fs system force = None
dup_with (Some from) (Some to) (Some unit) (Some log) None fs system force = None
dup_with (Some from) (Some to) (Some unit) (Some log) (Some format) None system force = None
dup_with (Some from) (Some to) (Some unit) (Some log) (Some format) (Some fs) None force = None
dup_with (Some from) (Some to) (Some unit) (Some log) (Some format) (Some fs) (Some system) force =
    if bytes_eq from to then None
    else Some (record { from = from; to = to; unit = unit; log = log; format = format; fs = fs; force = force; system = system })

-- the copy that the values of clap ask for
unfoldable pub dup_in : List Row → Option DupCall
dup_in rows =
    dup_with (value_in (codes "from") rows) (value_in (codes "to") rows)
    (or_default default_unit size_of_text (value_in (codes "unit") rows))
    (or_default default_log size_of_text (value_in (codes "loglen") rows))
    (or_default first_number format_of (value_in (codes "format") rows))
    (if_given parsed (value_in (codes "uuid") rows))
    (system_of (value_in (codes "system") rows))
    (flag_in (codes "force") rows)

-- the copy is made in a format that there is
abbrev pub IsSoundDup : DupCall → Type 0
IsSoundDup call = IsFormat call.format

-- the words behind the command's name
abbrev pub dup_behind : List Text → Option DupCall
dup_behind words = option_and_then dup_in (rows_given dup_app words)

-- the copy that words ask for, or none
unfoldable pub dup_call : List Text → Option DupCall
dup_call [] = None
dup_call (first ∷ words) = if bytes_eq first (codes "dup") then dup_behind words else None
