-- Which words ask for a recorded history to be judged. docs/MANUAL.md, "Recorded histories".
use Rattle.std.specs.Prelude.{List, [], ◌∷◌, ℕ, codes, Option, Some, None, option_and_then}
use Rattle.clap.specs.Simple.{App}
use Rattle.clap.specs.Walk.{Row, Text}
use Rattle.fam_words.specs.declared.wanted.JudgeCall.{JudgeCall}
use Rattle.fam_words.specs.Simple.{app_with, optional_rule, rows_given, value_in, word_rule}
use Rattle.fam_words.specs.Values.{name_of_text, needed}

-- HISTORY [IMAGE]
unfoldable pub judge_app : App
judge_app = app_with (codes "famfs-judge") (word_rule (codes "history") ∷ optional_rule (codes "image") ∷ [])

-- a history whose file's name is not empty, and an image, if any
abbrev pub judge_with : Option (List ℕ) → Option Text → Option JudgeCall
judge_with None image = None
judge_with (Some history) image = Some (record { history = history; image = image })

-- the history that the values of clap ask for
unfoldable pub judge_in : List Row → Option JudgeCall
judge_in rows = judge_with (needed name_of_text (value_in (codes "history") rows)) (value_in (codes "image") rows)

-- the history that words ask to be judged, or none
abbrev pub judge_call : List Text → Option JudgeCall
judge_call words = option_and_then judge_in (rows_given judge_app words)
