-- What the first line of a note tells: all of it, but of a command what its text tells, of an answer what its first line tells,
-- and of a file system that was made neither the number of its slots nor the master's UUID. `names` are those of the hosts declared so far.
use Rattle.std.specs.Prelude.{ℕ, ⊤, ◌≡◌, ◌^◌, ◌<◌, IsTrue, List, [], ◌++◌, codes, length}
use Rattle.fam_base.specs.declared.entry.Params.{Params}
use Rattle.fam_base.specs.HostNames.{is_host_name}
use Rattle.fam_format.specs.Params.{IsUuid, is_format}
use Rattle.fam_journal.specs.Notes.{Note, Host, Made, Cut, Start, Mark, Found, Writes, Answered, Stop, Halt, Umount, Refused}
use Rattle.fam_outcomes.specs.Texts.{cmd_text, host_name, made_text, name_of_note, number, refusal_text, uuid_text}
use Rattle.fam_tree.specs.Lines.{entry_line}
use Rattle.fam_tree.specs.Listings.{IsListed}
use Rattle.fam_history.specs.declared.note.LineNote.{LineNote}
use Rattle.fam_history.specs.declared.note.LineNote.TheVariants as told
use Rattle.fam_history.specs.declared.note.ToldLine.{ToldLine}
use Rattle.fam_history.specs.declared.note.ToldParams.{ToldParams}
use Rattle.fam_history.specs.Told.{IsTelling, told_of_command}
use Rattle.fam_history.specs.ToldAnswers.{IsTellingAnswer, answer_lines, answer_told, told_answer_text}
use Rattle.fam_history.specs.ToldRefusals.{IsTellingRefusal, told_of_refusal}

-- what is told of a file system that was made
abbrev pub params_told : Params → ToldParams
params_told p = record { fs = p.fs; unit = p.unit; log_length = p.log_length; device = p.device; format = p.format }

-- what is told of a note, behind the host's name
abbrev pub told_of_note : List (List ℕ) → Note → LineNote
told_of_note names (Host name uuid) = told.Host uuid
told_of_note names (Made host p) = told.Made (params_told p)
told_of_note names (Cut host k) = told.Cut k
told_of_note names (Start host cmd) = told.Start (told_of_command cmd)
told_of_note names (Mark host) = told.Mark
told_of_note names (Found host n) = told.Found n
told_of_note names (Writes host seq entry) = told.Writes seq entry
told_of_note names (Answered host answer) = told.Answered (answer_told answer)
told_of_note names (Stop host) = told.Stop
told_of_note names (Halt host) = told.Halt
told_of_note names (Umount host) = told.Umount
told_of_note names (Refused name cause) = told.Refused (told_of_refusal names cause)

-- what its first line tells
abbrev pub line_told : List (List ℕ) → Note → ToldLine
line_told names note = record { name = name_of_note names note; note = told_of_note names note }

-- the text of a note's first line, behind the host's name
abbrev pub first_text : List (List ℕ) → Note → List ℕ
first_text names (Host name uuid) = codes "host" ++ uuid_text uuid
first_text names (Made host p) = made_text p
first_text names (Cut host k) = codes "mkfs halted" ++ number k
first_text names (Start host cmd) = codes "start " ++ cmd_text cmd
first_text names (Mark host) = codes "mark"
first_text names (Found host n) = codes "found" ++ number n
first_text names (Writes host seq entry) = codes "writes" ++ number seq ++ codes " " ++ entry_line entry
first_text names (Answered host answer) = told_answer_text (answer_told answer)
first_text names (Stop host) = codes "stop"
first_text names (Halt host) = codes "halt"
first_text names (Umount host) = codes "umount"
first_text names (Refused name cause) = codes "refused " ++ refusal_text names cause

-- the first line
abbrev pub head_line : List (List ℕ) → Note → List ℕ
head_line names note = name_of_note names note ++ codes " " ++ first_text names note

-- the lines that follow it
abbrev pub further_lines : Note → List ℕ
further_lines (Host name uuid) = []
further_lines (Made host p) = []
further_lines (Cut host k) = []
further_lines (Start host cmd) = []
further_lines (Mark host) = []
further_lines (Found host n) = []
further_lines (Writes host seq entry) = []
further_lines (Answered host answer) = answer_lines answer
further_lines (Stop host) = []
further_lines (Halt host) = []
further_lines (Umount host) = []
further_lines (Refused name cause) = []

-- Notes whose numbers are those of the code's types, and whose names, UUIDs, paths and bytes are such.

-- a file system that was made
pub record IsTellingParams (p : Params) : Type 0 where
  pub fs : IsUuid p.fs
  pub unit : p.unit < 2 ^ 64
  pub log_length : p.log_length < 2 ^ 64
  pub device : p.device < 2 ^ 64
  pub format : IsTrue (is_format p.format)

-- what a note tells behind its host's name
abbrev pub IsTellingText : List (List ℕ) → Note → Type 0
IsTellingText names (Host name uuid) = IsUuid uuid
IsTellingText names (Made host p) = IsTellingParams p
IsTellingText names (Cut host k) = k < 2 ^ 64
IsTellingText names (Start host cmd) = IsTelling cmd
IsTellingText names (Mark host) = ⊤
IsTellingText names (Found host n) = n < 2 ^ 64
IsTellingText names (Writes host seq entry) = (seq < 2 ^ 64) × IsListed entry
IsTellingText names (Answered host answer) = IsTellingAnswer (answer_told answer)
IsTellingText names (Stop host) = ⊤
IsTellingText names (Halt host) = ⊤
IsTellingText names (Umount host) = ⊤
IsTellingText names (Refused name cause) = IsTellingRefusal names cause

-- a note, with its host's name
pub record IsTellingNote (names : List (List ℕ)) (note : Note) : Type 0 where
  pub name : IsTrue (is_host_name (name_of_note names note))
  pub text : IsTellingText names note

-- Hosts.

-- no two hosts have one name
abbrev pub AreDistinctNames : List (List ℕ) → Type 0
AreDistinctNames names = (i j : ℕ) → i < j → j < length names → host_name names i ≡ host_name names j → ⊥
