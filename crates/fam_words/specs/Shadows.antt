-- Which words ask for the shadow of a tree. docs/MANUAL.md, "Shadows".
use Rattle.std.specs.Prelude.{if◌then◌else◌, true, false, List, ℕ, [], ◌∷◌, codes, Option, Some, None, option_and_then}
use Rattle.std.specs.Str.{bytes_eq}
use Rattle.clap.specs.Simple.{App}
use Rattle.clap.specs.Walk.{Row, Text}
use Rattle.fam_words.specs.declared.wanted.ShadowCall.{ShadowCall}
use Rattle.fam_words.specs.Calls.{system_of}
use Rattle.fam_words.specs.Simple.{app_with, option_rule, rows_given, value_in, word_rule}
use Rattle.fam_words.specs.Values.{name_of_text, needed}

-- IMAGE --shadow --system
unfoldable pub shadow_app : App
shadow_app =
    app_with (codes "logplay") ((word_rule (codes "image")
    ∷ option_rule (codes "shadow") None true
    ∷ option_rule (codes "system") None false
    ∷ []))

-- the folder's name is not empty
abbrev pub shadow_with : Option Text → Option (List ℕ) → Option (Option (List ℕ)) → Option ShadowCall
shadow_with None folder system = None
shadow_with (Some image) None system = None
shadow_with (Some image) (Some folder) None = None
shadow_with (Some image) (Some folder) (Some system) = Some (record { image = image; folder = folder; system = system })

-- the shadow that the values of clap ask for
unfoldable pub shadow_in : List Row → Option ShadowCall
shadow_in rows =
    shadow_with (value_in (codes "image") rows) (needed name_of_text (value_in (codes "shadow") rows))
    (system_of (value_in (codes "system") rows))

-- the words behind the command's name
abbrev pub shadow_behind : List Text → Option ShadowCall
shadow_behind words = option_and_then shadow_in (rows_given shadow_app words)

-- the shadow that words ask for, or none
unfoldable pub shadow_call : List Text → Option ShadowCall
shadow_call [] = None
shadow_call (first ∷ words) = if bytes_eq first (codes "logplay") then shadow_behind words else None
