-- What words say of a new file system: those of mkfs, and of dup.
use Rattle.std.specs.Prelude.{ℕ, Bool, if◌then◌else◌, List, codes, Option, Some, None}
use Rattle.std.specs.Str.{bytes_eq}
use Rattle.clap.specs.Walk.{Row, Text}
use Rattle.uuid.specs.Text.{parsed}
use Rattle.fam_format.specs.Params.{first_number}
use Rattle.fam_grammar.specs.Lines.{default_log, default_unit}
use Rattle.fam_grammar.specs.Numbers.{size_of_text}
use Rattle.fam_grammar.specs.Spellings.{format_of}
use Rattle.fam_words.specs.declared.shots.Making.{Making}
use Rattle.fam_words.specs.declared.wanted.DupCall.{DupCall}
use Rattle.fam_words.specs.Calls.{system_of}
use Rattle.fam_words.specs.Simple.{flag_in, value_in}
use Rattle.fam_words.specs.Values.{if_given, or_default}

-- what it is to have, where each of these values is good
abbrev pub making_with : Option ℕ → Option ℕ → Option ℕ → Option (Option (List ℕ)) → Bool → Option Making
making_with None log format fs force = None
making_with (Some unit) None format fs force = None
making_with (Some unit) (Some log) None fs force = None
making_with (Some unit) (Some log) (Some format) None force = None
making_with (Some unit) (Some log) (Some format) (Some fs) force =
    Some (record { unit = unit; log = log; format = format; fs = fs; force = force })

-- what the values of clap say that it is to have
unfoldable pub making_in : List Row → Option Making
making_in rows =
    making_with (or_default default_unit size_of_text (value_in (codes "unit") rows))
    (or_default default_log size_of_text (value_in (codes "loglen") rows))
    (or_default first_number format_of (value_in (codes "format") rows))
    (if_given parsed (value_in (codes "uuid") rows))
    (flag_in (codes "force") rows)

-- the copy of one image onto another
abbrev pub dup_from : Text → Text → Making → Option (List ℕ) → DupCall
dup_from from to making system =
    record { from = from; to = to; unit = making.unit; log = making.log; format = making.format; fs = making.fs; force = making.force; system = system }

-- the copy with these values, where each is good and the images differ
abbrev pub dup_making : Option Text → Option Text → Option Making → Option (Option (List ℕ)) → Option DupCall
dup_making None to making system = None
dup_making (Some from) None making system = None
dup_making (Some from) (Some to) None system = None
dup_making (Some from) (Some to) (Some making) None = None
dup_making (Some from) (Some to) (Some making) (Some system) =
    if bytes_eq from to then None else Some (dup_from from to making system)

-- the copy that the values of clap ask for
unfoldable pub copy_in : List Row → Option DupCall
copy_in rows =
    dup_making (value_in (codes "from") rows) (value_in (codes "to") rows) (making_in rows)
    (system_of (value_in (codes "system") rows))
