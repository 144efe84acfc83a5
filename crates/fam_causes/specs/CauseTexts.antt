-- How a cause is printed: behind the number of an illegal line. Numbers, names, entries and answers print as in a history.
use Rattle.std.specs.Prelude.{ℕ, List, [], ◌++◌, codes, Option, Some, None}
use Rattle.fam_base.specs.declared.entry.Entry.{Entry}
use Rattle.fam_history.specs.declared.answer.ToldAnswer.{ToldAnswer}
use Rattle.fam_history.specs.ToldAnswers.{told_answer_text}
use Rattle.fam_outcomes.specs.Texts.{line, number}
use Rattle.fam_tree.specs.Lines.{listing_line}
use Rattle.fam_causes.specs.declared.kinds.Cause.{Cause}
use Rattle.fam_causes.specs.declared.kinds.Cause.TheVariants as cause

-- an entry as a listing prints it, or `-` where the listing ends
abbrev pub entry_or_end : Option Entry → List ℕ
entry_or_end None = line (codes "-")
entry_or_end (Some e) = listing_line e

-- the answer that was wanted, where it is known
abbrev pub wanted_line : Option ToldAnswer → List ℕ
wanted_line None = []
wanted_line (Some answer) = line (told_answer_text answer)

-- the text of a cause, with its line feed and the lines behind it
abbrev pub cause_lines : Cause → List ℕ
cause_lines cause.NoSuchHost = line (codes "no such host")
cause_lines (cause.SameHost name) = line (codes "same host " ++ name)
cause_lines (cause.StillRunning name) = line (codes "still running " ++ name)
cause_lines cause.NotRunning = line (codes "not running")
cause_lines cause.NoAnswer = line (codes "no answer of this command")
cause_lines (cause.ShownFew shown floor mark) =
    line (codes "shown" ++ number shown ++ codes " of at least" ++ number floor ++ codes " settled at line" ++ number mark)
cause_lines (cause.ShownMany shown most) = line (codes "shown" ++ number shown ++ codes " of at most" ++ number most)
cause_lines (cause.OtherTree found wanted) = line (codes "other tree") ++ entry_or_end found ++ entry_or_end wanted
cause_lines (cause.OtherAnswer wanted) = line (codes "other answer") ++ wanted_line wanted
cause_lines (cause.NotAcknowledged seq) = line (codes "not acknowledged" ++ number seq)
cause_lines cause.OtherEntry = line (codes "other entry")
cause_lines (cause.Found found first second) = line (codes "found" ++ number found ++ codes " of" ++ number first ++ codes " or" ++ number second)
cause_lines cause.OtherDamage = line (codes "other damage")
