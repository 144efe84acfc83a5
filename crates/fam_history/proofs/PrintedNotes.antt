-- The first line of a note that is printed reads as what is told of it.
use Rattle.std.proofs.Common.{◌≡◌, ℕ, ◌^◌, ◌<◌, Bool, true, false, cond, List, [], ◌∷◌, ◌++◌, Option, Some, None, codes, refl, ap, sym, ◌∙◌, arith, append-nil, append_assoc, decimal}
use Rattle.std.specs.Prelude.{◌==◌, if◌then◌else◌}
use Rattle.std.proofs.lemmas.Bool.Decides.{Decides-eqb, nat_tests}
use Rattle.uuid.specs.Text.{hyphenated_text, lower}
use Rattle.fam_base.specs.declared.cmd.Cmd.{Cmd}
use Rattle.fam_base.specs.declared.entry.Params.{Params}
use Rattle.fam_base.specs.HostNames.{is_host_name}
use Rattle.fam_format.specs.Params.{first_number, is_format}
use Rattle.fam_tree.specs.Lines.{entry_line, entry_words}
use Rattle.fam_journal.specs.Notes.{Note, Host, Made, Cut, Start, Mark, Found, Writes, Answered, Stop, Halt, Umount, Refused}
use Rattle.fam_rules.specs.declared.answers.Refused.TheVariants as cause
use Rattle.fam_format.specs.declared.faults.LogFault.TheVariants.{BadLog}
use Rattle.fam_format.specs.declared.faults.SuperFault.TheVariants.{NoSuper, BadSuper}
use Rattle.fam_grammar.specs.Reading.{Reading, Reads, ends_with, fitting_word, then_reads}
use Rattle.fam_grammar.specs.Spellings.{among_formats, format_of}
use Rattle.fam_grammar.specs.Words.{Word, words_from}
use Rattle.fam_grammar.proofs.Joined.{AreWords, IsOneWord, placed}
use Rattle.fam_grammar.proofs.Respelled.{decimal_word, number-decimal}
use Rattle.fam_outcomes.specs.Texts.{format_text, line, made_text, name_of_note, note_line, note_text, number, sizes_text, uuid_text}
use Rattle.fam_history.specs.declared.answer.ToldAnswer.{ToldAnswer}
use Rattle.fam_history.specs.declared.answer.ToldAnswer.TheVariants as given
use Rattle.fam_history.specs.declared.command.ToldCommand.{ToldCommand}
use Rattle.fam_history.specs.declared.note.LineNote.{LineNote}
use Rattle.fam_history.specs.declared.note.LineNote.TheVariants as told
use Rattle.fam_history.specs.declared.note.ToldLine.{ToldLine}
use Rattle.fam_history.specs.declared.note.ToldParams.{ToldParams}
use Rattle.fam_history.specs.declared.notes.NoteWord.{NoteWord}
use Rattle.fam_history.specs.declared.refusal.ToldRefusal.{ToldRefusal}
use Rattle.fam_history.specs.Answers.{answer_line}
use Rattle.fam_history.specs.Commands.{told_line}
use Rattle.fam_history.specs.Notes.{behind_begun, format_behind, history_line, made_line, note_or_answer, note_word, note_words}
use Rattle.fam_history.specs.Told.{IsTelling, told_of_command}
use Rattle.fam_history.specs.ToldAnswers.{IsTellingAnswer, answer_told}
use Rattle.fam_history.specs.ToldNotes.{IsTellingNote, IsTellingParams, IsTellingText, first_text, further_lines, head_line, line_told, params_told, told_of_note}
use Rattle.fam_history.proofs.CommandWords.{name_word, more_words, text_words}
use Rattle.fam_history.proofs.CommandWords as command
use Rattle.fam_history.proofs.PrintedAnswers.{answer_are, answer_first, answer_is, answer_more, answer_prints, answer_reads, answer_spaced, answer_words, past}
use Rattle.fam_history.proofs.PrintedCommands.{text_reads}
use Rattle.fam_history.proofs.PrintedEntries.{entry_are, entry_placed, entry_spaced}
use Rattle.fam_history.proofs.PrintedRefusals as refusal
use Rattle.fam_history.proofs.Spaced.{four, free, name_back, name_is_word, placed_words, spaced, uuid_back, uuid_is_word}

-- File systems that were made.

-- the words of a format
abbrev format_words : ℕ → List (List ℕ)
format_words format = if format == first_number then [] else codes "format" ∷ decimal format ∷ []

format_spaced : (format : ℕ) → format_text format ≡ spaced (format_words format)
format_spaced format =
    elim (format == first_number) as (λ t. cond t [] (codes " format" ++ number format) ≡ spaced (cond t [] (codes "format" ∷ decimal format ∷ []))) [
      | true ↦ refl
      | false ↦ ap (λ (l : List ℕ). codes " format" ++ 32 ∷ l) (sym (append-nil (decimal format)))
    ]

small_format : (format : ℕ) → is_format format ≡ true → format < 2 ^ 64
small_format format is = grind (arith, nat_tests)

format_are : (format : ℕ) → is_format format ≡ true → AreWords (format_words format)
format_are format is =
    elim (format == first_number) as (λ t. AreWords (cond t [] (codes "format" ∷ decimal format ∷ []))) [
      | true ↦ tt
      | false ↦ (free (codes "format") refl, (decimal_word format (small_format format is), tt))
    ]

format_back : (format : ℕ) → is_format format ≡ true → format_of (decimal format) ≡ Some format
format_back format is = ap among_formats (number-decimal format (small_format format is)) ∙ ap (λ (t : Bool). cond t (Some format) None) is

format_reads : (format column end : ℕ) → is_format format ≡ true → format_behind end (placed column (format_words format)) ≡ Reads format []
format_reads format column end is = cases (format == first_number) refl
  where
    cases : (t : Bool) → (format == first_number) ≡ t → format_behind end (placed column (format_words format)) ≡ Reads format []
    cases true e =
        ap (λ (t : Bool). format_behind end (placed column (cond t [] (codes "format" ∷ decimal format ∷ [])))) e
        ∙ ap (λ (n : ℕ). Reads n []) (sym ((Decides-eqb format first_number).0 e))
    cases false e =
        ap (λ (t : Bool). format_behind end (placed column (cond t [] (codes "format" ∷ decimal format ∷ [])))) e
        ∙ ap (λ (o : Option ℕ). then_reads (fitting_word o (past column (codes "format")) []) ends_with) (format_back format is)

-- the words behind `made`
abbrev made_words : Params → List (List ℕ)
made_words p =
    hyphenated_text lower p.fs ∷ codes "unit" ∷ decimal p.unit ∷ codes "log" ∷ decimal p.log_length ∷ codes "device" ∷ decimal p.device ∷ format_words p.format

sizes_spaced : (unit log device : ℕ) (words : List (List ℕ))
    → sizes_text unit log device ++ spaced words ≡ spaced (codes "unit" ∷ decimal unit ∷ codes "log" ∷ decimal log ∷ codes "device" ∷ decimal device ∷ words)
sizes_spaced unit log device words = simp append_assoc refl

made_spaced : (p : Params) → made_text p ≡ codes "made" ++ spaced (made_words p)
made_spaced p =
    four (codes "made") (uuid_text p.fs) (sizes_text p.unit p.log_length p.device) (format_text p.format)
    ∙ ap (λ (l : List ℕ). codes "made" ++ (uuid_text p.fs ++ (sizes_text p.unit p.log_length p.device ++ l))) (format_spaced p.format)
    ∙ ap (λ (l : List ℕ). codes "made" ++ (uuid_text p.fs ++ l)) (sizes_spaced p.unit p.log_length p.device (format_words p.format))

made_are : (p : Params) → IsTellingParams p → AreWords (made_words p)
made_are p is = (
  uuid_is_word p.fs,
  (
    free (codes "unit") refl,
    (
      decimal_word p.unit is.unit,
      (
        free (codes "log") refl,
        (decimal_word p.log_length is.log_length, (free (codes "device") refl, (decimal_word p.device is.device, format_are p.format is.format))),
      ),
    ),
  ),
)

made_reads : (p : Params) (column end : ℕ) → IsTellingParams p → made_line end (placed column (made_words p)) ≡ Reads (params_told p) []
made_reads p column end is =
    let unit : ℕ = past column (hyphenated_text lower p.fs) in
    let log : ℕ = past (past unit (codes "unit")) (decimal p.unit) in
    let device : ℕ = past (past log (codes "log")) (decimal p.log_length) in
    let last : ℕ = past (past device (codes "device")) (decimal p.device) in
    rw (
      uuid_back p.fs is.fs,
      number-decimal p.unit is.unit,
      number-decimal p.log_length is.log_length,
      number-decimal p.device is.device,
      format_reads p.format last end is.format,
    ) refl

-- Words of notes.

-- the first word
abbrev note_first : Note → List ℕ
note_first (Host name uuid) = codes "host"
note_first (Made host p) = codes "made"
note_first (Cut host k) = codes "mkfs"
note_first (Start host cmd) = codes "start"
note_first (Mark host) = codes "mark"
note_first (Found host n) = codes "found"
note_first (Writes host seq entry) = codes "writes"
note_first (Answered host answer) = answer_first (answer_told answer)
note_first (Stop host) = codes "stop"
note_first (Halt host) = codes "halt"
note_first (Umount host) = codes "umount"
note_first (Refused name why) = codes "refused"

-- the words behind it
abbrev note_more : List (List ℕ) → Note → List (List ℕ)
note_more names (Host name uuid) = hyphenated_text lower uuid ∷ []
note_more names (Made host p) = made_words p
note_more names (Cut host k) = codes "halted" ∷ decimal k ∷ []
note_more names (Start host cmd) = name_word cmd ∷ more_words cmd
note_more names (Mark host) = []
note_more names (Found host n) = decimal n ∷ []
note_more names (Writes host seq entry) = decimal seq ∷ entry_words entry
note_more names (Answered host answer) = answer_more (answer_told answer)
note_more names (Stop host) = []
note_more names (Halt host) = []
note_more names (Umount host) = []
note_more names (Refused name why) = refusal.first_of why ∷ refusal.more_of names why

note_spaced : (names : List (List ℕ)) (note : Note) → first_text names note ≡ note_first note ++ spaced (note_more names note)
note_spaced names (Host name uuid) = simp append-nil refl
note_spaced names (Made host p) = made_spaced p
note_spaced names (Cut host k) = simp append-nil refl
note_spaced names (Start host cmd) = ap (λ (l : List ℕ). codes "start " ++ l) (command.text_spaced cmd)
note_spaced names (Mark host) = refl
note_spaced names (Found host n) = simp append-nil refl
note_spaced names (Writes host seq entry) =
    four (codes "writes") (number seq) (codes " ") (entry_line entry)
    ∙ ap (λ (l : List ℕ). codes "writes" ++ (number seq ++ (codes " " ++ l))) (entry_spaced entry)
note_spaced names (Answered host answer) = answer_spaced (answer_told answer)
note_spaced names (Stop host) = refl
note_spaced names (Halt host) = refl
note_spaced names (Umount host) = refl
note_spaced names (Refused name why) = ap (λ (l : List ℕ). codes "refused " ++ l) (refusal.text_spaced names why)

first_is : (note : Note) → IsOneWord (note_first note)
first_is (Host name uuid) = free (codes "host") refl
first_is (Made host p) = free (codes "made") refl
first_is (Cut host k) = free (codes "mkfs") refl
first_is (Start host cmd) = free (codes "start") refl
first_is (Mark host) = free (codes "mark") refl
first_is (Found host n) = free (codes "found") refl
first_is (Writes host seq entry) = free (codes "writes") refl
first_is (Answered host answer) = answer_is (answer_told answer)
first_is (Stop host) = free (codes "stop") refl
first_is (Halt host) = free (codes "halt") refl
first_is (Umount host) = free (codes "umount") refl
first_is (Refused name why) = free (codes "refused") refl

more_are : (names : List (List ℕ)) (note : Note) → IsTellingText names note → AreWords (note_more names note)
more_are names (Host name uuid) is = (uuid_is_word uuid, tt)
more_are names (Made host p) is = made_are p is
more_are names (Cut host k) is = (free (codes "halted") refl, (decimal_word k is, tt))
more_are names (Start host cmd) is = (command.name_is cmd, command.more_are cmd is)
more_are names (Mark host) is = tt
more_are names (Found host n) is = (decimal_word n is, tt)
more_are names (Writes host seq entry) is = (decimal_word seq is.0, entry_are entry is.1)
more_are names (Answered host answer) is = answer_are (answer_told answer) is
more_are names (Stop host) is = tt
more_are names (Halt host) is = tt
more_are names (Umount host) is = tt
more_are names (Refused name why) is = (refusal.first_is why, refusal.more_are names why is)

-- Notes.

-- a command's words behind `start`
start_reads : (cmd : Cmd) (column end : ℕ) → IsTelling cmd → told_line end (placed column (name_word cmd ∷ more_words cmd)) ≡ Reads (told_of_command cmd) []
start_reads cmd column end is = ap (told_line end) (sym (text_words column cmd is)) ∙ text_reads cmd column end is

-- no word that begins an answer begins another note
begins_none : (a : ToldAnswer) → note_word (answer_first a) ≡ None
unfolding note_word
begins_none (given.Ok seq) = refl
begins_none (given.NotAppended (cause.NotMaster me master)) = refl
begins_none (given.NotAppended (cause.LongPath limit)) = refl
begins_none (given.NotAppended cause.BadStripe) = refl
begins_none (given.NotAppended (cause.Exists kind)) = refl
begins_none (given.NotAppended cause.NoParent) = refl
begins_none (given.NotAppended cause.ParentIsFile) = refl
begins_none (given.NotAppended (cause.LogFull slots)) = refl
begins_none (given.NotAppended (cause.NoSpace units)) = refl
begins_none (given.Played m) = refl
begins_none (given.Mounted m) = refl
begins_none (given.Same m) = refl
begins_none (given.Differs m offset found wanted) = refl
begins_none (given.Length m size wanted) = refl
begins_none (given.Bytes m bytes) = refl
begins_none (given.NotFound m) = refl
begins_none (given.IsDirectory m) = refl
begins_none (given.Checked m checked) = refl
begins_none (given.Report true) = refl
begins_none (given.Report false) = refl
begins_none (given.NoSuperblock (NoSuper word)) = refl
begins_none (given.NoSuperblock (BadSuper f found wanted)) = refl
begins_none (given.BadHeader (BadLog f found wanted)) = refl
begins_none (given.BadSlot seq why) = refl
begins_none (given.MediaFault at) = refl

-- an answer's words
given_reads : (a : ToldAnswer) (column end : ℕ) → IsTellingAnswer a → note_words end (placed column (answer_first a ∷ answer_more a)) ≡ Reads (told.Answered a) []
given_reads a column end is =
    let words : List Word = placed column (answer_first a ∷ answer_more a) in
    ap (λ (o : Option NoteWord). note_or_answer end o (behind_begun o words)) (begins_none a)
    ∙ ap (λ (r : Reading ToldAnswer). then_reads r (λ b none. Reads (told.Answered b) none))
    (ap (answer_line end) (sym (answer_words a column is)) ∙ answer_reads a column end is)

note_reads : (names : List (List ℕ)) (note : Note) (column end : ℕ) → IsTellingText names note
    → note_words end (placed column (note_first note ∷ note_more names note)) ≡ Reads (told_of_note names note) []
unfolding note_word
note_reads names (Host name uuid) column end is = rw (uuid_back uuid is) refl
note_reads names (Made host p) column end is =
    ap (λ (r : Reading ToldParams). then_reads r (λ params none. Reads (told.Made params) none)) (made_reads p (past column (codes "made")) end is)
note_reads names (Cut host k) column end is = rw (number-decimal k is) refl
note_reads names (Start host cmd) column end is =
    ap (λ (r : Reading ToldCommand). then_reads r (λ c none. Reads (told.Start c) none)) (start_reads cmd (past column (codes "start")) end is)
note_reads names (Mark host) column end is = refl
note_reads names (Found host n) column end is = rw (number-decimal n is) refl
note_reads names (Writes host seq entry) column end is =
    rw (number-decimal seq is.0, entry_placed entry (past (past column (codes "writes")) (decimal seq)) end is.1) refl
note_reads names (Answered host answer) column end is = given_reads (answer_told answer) column end is
note_reads names (Stop host) column end is = refl
note_reads names (Halt host) column end is = refl
note_reads names (Umount host) column end is = refl
note_reads names (Refused name why) column end is =
    ap (λ (r : Reading ToldRefusal). then_reads r (λ w none. Reads (told.Refused w) none)) (refusal.words_read names why (past column (codes "refused")) end is)

-- Lines.

-- what a line tells, by its host's name
abbrev with_name : List ℕ → LineNote → List Word → Reading ToldLine
with_name name note none = Reads (record { name = name; note = note }) none

behind_name : (name : List ℕ) (words : List (List ℕ)) (column end : ℕ) → is_host_name name ≡ true
    → history_line end (placed column (name ∷ words)) ≡ then_reads (note_words end (placed (past column name) words)) (with_name name)
unfolding history_line
behind_name name words column end is = rw (name_back name is) refl

line_words : (names : List (List ℕ)) (note : Note) (column : ℕ) → IsTellingNote names note
    → words_from column (head_line names note) ≡ placed column (name_of_note names note ∷ note_first note ∷ note_more names note)
line_words names note column is =
    let name : List ℕ = name_of_note names note in
    placed_words column (head_line names note) name (note_first note ∷ note_more names note)
    (append_assoc name (codes " ") (first_text names note) ∙ ap (λ (l : List ℕ). name ++ 32 ∷ l) (note_spaced names note))
    (name_is_word name is.name, (first_is note, more_are names note is.text))

pub line_reads : (names : List (List ℕ)) (note : Note) (column end : ℕ) → IsTellingNote names note
    → history_line end (words_from column (head_line names note)) ≡ Reads (line_told names note) []
line_reads names note column end is =
    let name : List ℕ = name_of_note names note in
    ap (history_line end) (line_words names note column is)
    ∙ behind_name name (note_first note ∷ note_more names note) column end is.name
    ∙ ap (λ (r : Reading LineNote). then_reads r (with_name name)) (note_reads names note (past column name) end is.text)

-- The text of a note: its first line, and the lines that follow.

alone : (text : List ℕ) → line text ≡ line text ++ []
alone text = sym (append-nil (line text))

text_prints : (names : List (List ℕ)) (note : Note) → note_text names note ≡ line (first_text names note) ++ further_lines note
text_prints names (Host name uuid) = alone (first_text names (Host name uuid))
text_prints names (Made host p) = alone (first_text names (Made host p))
text_prints names (Cut host k) = alone (first_text names (Cut host k))
text_prints names (Start host cmd) = alone (first_text names (Start host cmd))
text_prints names (Mark host) = alone (first_text names (Mark host))
text_prints names (Found host n) = alone (first_text names (Found host n))
text_prints names (Writes host seq entry) = alone (first_text names (Writes host seq entry))
text_prints names (Answered host answer) = answer_prints answer
text_prints names (Stop host) = alone (first_text names (Stop host))
text_prints names (Halt host) = alone (first_text names (Halt host))
text_prints names (Umount host) = alone (first_text names (Umount host))
text_prints names (Refused name why) = alone (first_text names (Refused name why))

pub note_prints : (names : List (List ℕ)) (note : Note) → note_line names note ≡ line (head_line names note) ++ further_lines note
note_prints names note =
    let name : List ℕ = name_of_note names note ++ codes " " in
    ap (λ (l : List ℕ). name ++ l) (text_prints names note)
    ∙ sym (append_assoc name (line (first_text names note)) (further_lines note))
    ∙ ap (λ (l : List ℕ). l ++ further_lines note) (sym (append_assoc name (first_text names note) (10 ∷ [])))
