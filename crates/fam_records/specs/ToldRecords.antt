-- What a journal's text tells of its notes, with all their lines.
use Rattle.std.specs.Prelude.{ℕ, ⊤, ◌≡◌, ◌+◌, ◌^◌, ◌<◌, All, List, [], ◌∷◌, length, Option, Some, None}
use Rattle.std.specs.FinMap as finmap
use Rattle.fam_base.specs.declared.entry.Entry.{Entry}
use Rattle.fam_rules.specs.declared.answers.Report.{Report}
use Rattle.fam_rules.specs.Reply as reply
use Rattle.fam_rules.specs.Reply.{Reply}
use Rattle.fam_tree.specs.Listings.{IsListed}
use Rattle.fam_journal.specs.Notes.{Answer, Replied, MediaFault, Note, Host, Made, Cut, Start, Mark, Found, Writes, Answered, Stop, Halt, Umount, Refused}
use Rattle.fam_outcomes.specs.Texts.{names_after}
use Rattle.fam_history.specs.ToldNotes.{IsTellingNote, line_told, told_of_note}
use Rattle.fam_history.specs.ToldReports.{IfTellingPair, IfTellingSlot, IsTellingLogState, IsTellingSuperState}
use Rattle.fam_records.specs.declared.record.Further.{Further}
use Rattle.fam_records.specs.declared.record.Further.TheVariants as further
use Rattle.fam_records.specs.Records.{Recorded, further_of}

-- the entries of a reply's listing, and its report
abbrev pub reply_further : Reply → List Entry × Option Report
reply_further (reply.Appended seq) = ([], None)
reply_further (reply.NotAppended why) = ([], None)
reply_further (reply.Played m tree) = (finmap.values tree, None)
reply_further (reply.Mounted m) = ([], None)
reply_further (reply.Same m) = ([], None)
reply_further (reply.Differs m offset found wanted) = ([], None)
reply_further (reply.Length m size wanted) = ([], None)
reply_further (reply.Bytes m bytes) = ([], None)
reply_further (reply.NotFound m) = ([], None)
reply_further (reply.IsDirectory m) = ([], None)
reply_further (reply.Checks m checked) = ([], None)
reply_further (reply.Reports report) = ([], Some report)
reply_further (reply.NoSuperblock fault) = ([], None)
reply_further (reply.BadHeader fault) = ([], None)
reply_further (reply.BadSlot seq why) = ([], None)

-- so of an answer
abbrev pub answer_further : Answer → List Entry × Option Report
answer_further (Replied given) = reply_further given
answer_further (MediaFault at) = ([], None)

-- so of a note
abbrev pub further_told : Note → List Entry × Option Report
further_told (Host name uuid) = ([], None)
further_told (Made host p) = ([], None)
further_told (Cut host k) = ([], None)
further_told (Start host cmd) = ([], None)
further_told (Mark host) = ([], None)
further_told (Found host n) = ([], None)
further_told (Writes host seq entry) = ([], None)
further_told (Answered host answer) = answer_further answer
further_told (Stop host) = ([], None)
further_told (Halt host) = ([], None)
further_told (Umount host) = ([], None)
further_told (Refused name cause) = ([], None)

-- a report has seven other lines
abbrev pub report_line_count : Option Report → ℕ
report_line_count None = 0
report_line_count (Some report) = 7

-- how many lines a note has
abbrev pub lines_of_note : Note → ℕ
lines_of_note note = 1 + (length (further_told note).0 + report_line_count (further_told note).1)

-- a note whose first line has this number
abbrev pub record_told : ℕ → List (List ℕ) → Note → Recorded
record_told number names note =
    record { line = number; told = line_told names note; entries = (further_told note).0; report = (further_told note).1 }

-- notes of which the first begins at this line, behind those that declared these names
abbrev pub records_told : ℕ → List (List ℕ) → List Note → List Recorded
records_told number names [] = []
records_told number names (note ∷ notes) = record_told number names note ∷ records_told (number + lines_of_note note) (names_after names note) notes

-- Notes whose text can be read.

-- a report whose numbers are those of the code's types
pub record IsTellingReport (r : Report) : Type 0 where
  pub superblock : IsTellingSuperState r.superblock
  pub log : IsTellingLogState r.log
  pub files : r.files < 2 ^ 64
  pub directories : r.directories < 2 ^ 64
  pub used : r.used < 2 ^ 64
  pub unused : r.free < 2 ^ 64
  pub overlap : IfTellingPair r.overlap
  pub bad : IfTellingSlot r.bad
  pub past : r.past < 2 ^ 64

-- so it is where there is one
abbrev pub IfTellingReport : Option Report → Type 0
IfTellingReport None = ⊤
IfTellingReport (Some report) = IsTellingReport report

-- the first line of a listing counts its entries
abbrev pub CountsListing : Further → List Entry → Type 0
CountsListing further.Nothing entries = ⊤
CountsListing (further.Entries n) entries = n ≡ length entries
CountsListing further.Report entries = ⊤

-- a note, with its listing or report
pub record IsTellingRecord (names : List (List ℕ)) (note : Note) : Type 0 where
  pub first : IsTellingNote names note
  pub count : CountsListing (further_of (told_of_note names note)) (further_told note).0
  pub entries : All IsListed (further_told note).0
  pub report : IfTellingReport (further_told note).1

-- notes behind those that declared these names
abbrev pub AreTellingRecords : List (List ℕ) → List Note → Type 0
AreTellingRecords names [] = ⊤
AreTellingRecords names (note ∷ notes) = IsTellingRecord names note × AreTellingRecords (names_after names note) notes
