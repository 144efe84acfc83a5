-- The texts of the judge, and the status of each. docs/MANUAL.md, "Recorded histories".
use Rattle.std.specs.Prelude.{ℕ, ◌++◌, Bool, true, false, List, codes, Option, Some, None}
use Rattle.fam_causes.specs.CauseTexts.{cause_lines}
use Rattle.fam_outcomes.specs.declared.status.Status.{Status}
use Rattle.fam_outcomes.specs.declared.status.Status.TheVariants as status
use Rattle.fam_outcomes.specs.Programs.{memory_line, source_line}
use Rattle.fam_journal.specs.Follows as follows
use Rattle.fam_outcomes.specs.Texts.{line, name_text, number}
use Rattle.fam_sources.specs.declared.whole.WholeFault.{WholeFault}
use Rattle.fam_sources.specs.declared.whole.WholeFault.TheVariants as fault
use Rattle.fam_verdict.specs.declared.verdict.Known.{Known}
use Rattle.fam_verdict.specs.declared.verdict.Verdict.{Verdict}
use Rattle.fam_verdict.specs.declared.verdict.Verdict.TheVariants as verdict
use Rattle.fam_words.specs.declared.wanted.JudgeCall.{JudgeCall}

-- the line of words that ask for no history
abbrev pub judge_usage : List ℕ
judge_usage = line (codes "usage: famfs-judge HISTORY [IMAGE]")

-- a space and a number, or a question mark where the states differ
abbrev pub number_or : Option ℕ → List ℕ
number_or None = codes " ?"
number_or (Some n) = number n

-- so of whether an entry pends
abbrev pub pends_word : Option Bool → List ℕ
pends_word None = codes " ?"
pends_word (Some false) = codes " 0"
pends_word (Some true) = codes " 1"

-- what is known of a legal history
abbrev pub known_text : Known → List ℕ
known_text known =
    codes "legal" ++ (number known.lines ++ (codes " settled" ++ (number_or known.settled ++ (codes " pending" ++ (pends_word known.pending
    ++ (codes " states" ++ number known.states))))))

-- a verdict; an illegal line's cause may have lines behind it
abbrev pub verdict_text : Verdict → List ℕ
verdict_text (verdict.Legal known) = line (known_text known)
verdict_text (verdict.Illegal at cause) = codes "illegal" ++ number at ++ codes " " ++ cause_lines cause
verdict_text (verdict.BadLine at column) = line (codes "bad line" ++ number at ++ number column)

-- its status
abbrev pub verdict_status : Verdict → Status
verdict_status (verdict.Legal known) = status.Done
verdict_status (verdict.Illegal at cause) = status.Refused
verdict_status (verdict.BadLine at column) = status.BadScript

-- why the history of this name can't be read
abbrev pub unread_text : List ℕ → WholeFault → List ℕ
unread_text name fault.NoFile = line (codes "no file" ++ name_text name)
unread_text name (fault.TooLong size) = line (codes "history too long" ++ number size)
unread_text name fault.Faulted = source_line follows.Faulted
unread_text name (fault.Short size got) = source_line (follows.Short size got)
unread_text name fault.OutOfMemory = memory_line

-- its status
abbrev pub unread_status : WholeFault → Status
unread_status fault.NoFile = status.Refused
unread_status (fault.TooLong size) = status.BadScript
unread_status fault.Faulted = status.SourceFault
unread_status (fault.Short size got) = status.SourceFault
unread_status fault.OutOfMemory = status.OutOfMemory

-- the media of the image failed at this line
abbrev pub media_text : ℕ → List ℕ
media_text at = line (codes "media fault" ++ number at)

-- the image that the words name, where they name one
abbrev pub image_named : Option JudgeCall → Option (List ℕ)
image_named None = None
image_named (Some call) = call.image
