-- A note as a history tells it, of its lines: the first, and those of a listing or of a report.
use Rattle.std.specs.Prelude.{ℕ, zero, suc, List, [], ◌∷◌, Option, Some, None}
use Rattle.fam_base.specs.declared.entry.Entry.{Entry}
use Rattle.fam_format.specs.declared.faults.Reason.{Reason}
use Rattle.fam_rules.specs.declared.answers.LogState.{LogState}
use Rattle.fam_rules.specs.declared.answers.Report.{Report}
use Rattle.fam_rules.specs.declared.answers.SuperState.{SuperState}
use Rattle.fam_history.specs.declared.answer.ToldAnswer.{ToldAnswer}
use Rattle.fam_history.specs.declared.answer.ToldAnswer.TheVariants as given
use Rattle.fam_history.specs.declared.note.LineNote.{LineNote}
use Rattle.fam_history.specs.declared.note.LineNote.TheVariants as told
use Rattle.fam_history.specs.declared.note.ToldLine.{ToldLine}
use Rattle.fam_history.specs.ListedEntries.{listed_entry}
use Rattle.fam_history.specs.Notes.{history_line}
use Rattle.fam_history.specs.ReportLines.{bad_entry_line, files_line, log_state_line, overlap_line, past_line, superblock_line, units_line}
use Rattle.fam_records.specs.declared.record.Further.{Further}
use Rattle.fam_records.specs.declared.record.Further.TheVariants as further
use Rattle.fam_records.specs.Lines.{ALine, Left, NextLine, NoLine, next_line}
use Rattle.fam_records.specs.Taken.{TakenLines, Takes, both_of, line_taken, taken_as, then_takes}

-- a note: the number of its first line, what that line tells, the entries of its listing, and its report
pub record Recorded : Type 0 where
  pub line : ℕ
  pub told : ToldLine
  pub entries : List Entry
  pub report : Option Report

-- which lines follow an answer's first one
abbrev pub further_of_answer : ToldAnswer → Further
further_of_answer (given.Ok seq) = further.Nothing
further_of_answer (given.NotAppended why) = further.Nothing
further_of_answer (given.Played n) = further.Entries n
further_of_answer (given.Mounted n) = further.Nothing
further_of_answer (given.Same n) = further.Nothing
further_of_answer (given.Differs n offset found wanted) = further.Nothing
further_of_answer (given.Length n size wanted) = further.Nothing
further_of_answer (given.Bytes n bytes) = further.Nothing
further_of_answer (given.NotFound n) = further.Nothing
further_of_answer (given.IsDirectory n) = further.Nothing
further_of_answer (given.Checked n checked) = further.Nothing
further_of_answer (given.Report sound) = further.Report
further_of_answer (given.NoSuperblock fault) = further.Nothing
further_of_answer (given.BadHeader fault) = further.Nothing
further_of_answer (given.BadSlot seq why) = further.Nothing
further_of_answer (given.MediaFault at) = further.Nothing

-- which lines follow a note's first one
abbrev pub further_of : LineNote → Further
further_of (told.Host uuid) = further.Nothing
further_of (told.Made params) = further.Nothing
further_of (told.Cut k) = further.Nothing
further_of (told.Start cmd) = further.Nothing
further_of told.Mark = further.Nothing
further_of (told.Found n) = further.Nothing
further_of (told.Writes seq entry) = further.Nothing
further_of (told.Answered answer) = further_of_answer answer
further_of told.Stop = further.Nothing
further_of told.Halt = further.Nothing
further_of told.Umount = further.Nothing
further_of (told.Refused why) = further.Nothing

-- so many entries, one a line
abbrev pub listed_entries : ℕ → Left → TakenLines (List Entry)
listed_entries zero left = Takes [] left
listed_entries (suc n) left =
    then_takes (line_taken listed_entry left) (λ entry rest.
    then_takes (listed_entries n rest) (λ entries behind. Takes (entry ∷ entries) behind))

-- what a report says of the superblock and of the log
abbrev pub states_of : Left → TakenLines (SuperState × LogState)
states_of = both_of (line_taken superblock_line) (line_taken log_state_line)

-- its files and directories, and its units that are used and that are free
abbrev pub counts_of : Left → TakenLines ((ℕ × ℕ) × (ℕ × ℕ))
counts_of = both_of (line_taken files_line) (line_taken units_line)

-- two entries that overlap, and the first bad one
abbrev pub told_damage : Left → TakenLines (Option (ℕ × ℕ) × Option (ℕ × Reason))
told_damage = both_of (line_taken overlap_line) (line_taken bad_entry_line)

-- the seven other lines of a report
unfoldable pub told_report : Left → TakenLines Report
told_report left =
    then_takes (states_of left) (λ states rest.
    then_takes (counts_of rest) (λ counts rest.
    then_takes (told_damage rest) (λ damage rest.
    then_takes (line_taken past_line rest) (λ past behind.
    Takes (record {
      superblock = states.0;
      log = states.1;
      files = counts.0.0;
      directories = counts.0.1;
      used = counts.1.0;
      free = counts.1.1;
      overlap = damage.0;
      bad = damage.1;
      past = past;
    }) behind))))

-- the lines that follow: a listing, a report, or none
abbrev pub told_further : Further → Left → TakenLines (List Entry × Option Report)
told_further further.Nothing left = Takes ([], None) left
told_further (further.Entries n) left = then_takes (listed_entries n left) (λ entries behind. Takes (entries, None) behind)
told_further further.Report left = then_takes (told_report left) (λ report behind. Takes ([], Some report) behind)

-- a note, of whose first line this is told
abbrev pub record_of : ℕ → ToldLine → Left → TakenLines (Option Recorded)
record_of number line left =
    then_takes (told_further (further_of line.note) left) (λ more behind.
    Takes (Some (record { line = number; told = line; entries = more.0; report = more.1 })) behind)

-- the note of a line; none where no line is left
abbrev pub record_by : NextLine → TakenLines (Option Recorded)
record_by (NoLine number) = Takes None (record { number = number; lines = [] })
record_by (ALine line words left) = then_takes (taken_as line left (history_line line.end words)) (record_of line.number)

-- the next note of the lines that are left
unfoldable pub next_record : Left → TakenLines (Option Recorded)
next_record left = record_by (next_line left)
