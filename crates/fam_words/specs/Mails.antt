-- Which words ask for a script over a mailbox. docs/MANUAL.md, "Mailboxes".
use Rattle.std.specs.Prelude.{if◌then◌else◌, List, ℕ, [], ◌∷◌, codes, Option, Some, None, option_and_then}
use Rattle.std.specs.Str.{bytes_eq}
use Rattle.clap.specs.Simple.{App}
use Rattle.clap.specs.Walk.{Row, Text}
use Rattle.fam_words.specs.declared.wanted.MailCall.{MailCall}
use Rattle.fam_words.specs.Simple.{app_with, rows_given, value_in, word_rule}
use Rattle.fam_words.specs.Values.{name_of_text, needed, path_of_text}

-- FILE IMAGE PATH
unfoldable pub mail_app : App
mail_app =
    app_with (codes "mail") ((word_rule (codes "file") ∷ word_rule (codes "image") ∷ word_rule (codes "path") ∷ []))

-- a script with these values, where each is good: its file's name is not empty
abbrev pub mail_with : Option (List ℕ) → Option Text → Option (List ℕ) → Option MailCall
mail_with None image path = None
mail_with (Some script) None path = None
mail_with (Some script) (Some image) None = None
mail_with (Some script) (Some image) (Some path) = Some (record { script = script; image = image; path = path })

-- the script that the values of clap ask for
unfoldable pub mail_in : List Row → Option MailCall
mail_in rows =
    mail_with (needed name_of_text (value_in (codes "file") rows)) (value_in (codes "image") rows)
    (needed path_of_text (value_in (codes "path") rows))

-- the words behind the command's name
abbrev pub mail_behind : List Text → Option MailCall
mail_behind words = option_and_then mail_in (rows_given mail_app words)

-- the script over a mailbox that words ask for, or none
unfoldable pub mail_call : List Text → Option MailCall
mail_call [] = None
mail_call (first ∷ words) = if bytes_eq first (codes "mail") then mail_behind words else None
