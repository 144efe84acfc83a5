-- The grammar of a line: the host's name, and the words of a note, from left to right.
use Rattle.std.specs.Prelude.{ℕ, if◌then◌else◌, List, [], ◌∷◌, codes, Option, Some, None}
use Rattle.std.specs.Str.{bytes_eq}
use Rattle.fam_base.specs.PathOrder.{path_eq}
use Rattle.fam_format.specs.Params.{first_number}
use Rattle.fam_journal.specs.Members.{index_of}
use Rattle.fam_grammar.specs.Numbers.{number_of_text}
use Rattle.fam_grammar.specs.Reading.{Reading, Reads, ends_with, then_reads, word_of}
use Rattle.fam_grammar.specs.Spellings.{format_of, name_of, uuid_of}
use Rattle.fam_grammar.specs.Words.{Word}
use Rattle.fam_history.specs.declared.note.LineNote.{LineNote}
use Rattle.fam_history.specs.declared.note.LineNote.TheVariants as told
use Rattle.fam_history.specs.declared.note.ToldLine.{ToldLine}
use Rattle.fam_history.specs.declared.note.ToldParams.{ToldParams}
use Rattle.fam_history.specs.declared.notes.LoneWord.{LoneWord}
use Rattle.fam_history.specs.declared.notes.LoneWord.TheVariants as lone
use Rattle.fam_history.specs.declared.notes.NoteWord.{NoteWord}
use Rattle.fam_history.specs.declared.notes.NoteWord.TheVariants as word
use Rattle.fam_history.specs.declared.notes.SetupWord.{SetupWord}
use Rattle.fam_history.specs.declared.notes.SetupWord.TheVariants as setup
use Rattle.fam_history.specs.declared.notes.TaskWord.{TaskWord}
use Rattle.fam_history.specs.declared.notes.TaskWord.TheVariants as task
use Rattle.fam_history.specs.Answers.{answer_line, counted_word}
use Rattle.fam_history.specs.Commands.{told_line}
use Rattle.fam_history.specs.Faults.{numbered}
use Rattle.fam_history.specs.ListedEntries.{listed_entry}
use Rattle.fam_history.specs.Literals.{begins_with, behind_first, last_number}
use Rattle.fam_history.specs.Refusals.{refusal_line}

-- the note that a word begins; no word that begins an answer begins one
unfoldable pub note_word : List ℕ → Option NoteWord
note_word text =
    if bytes_eq text (codes "start") then Some (word.Task task.Start)
    else if bytes_eq text (codes "mark") then Some (word.Lone lone.Mark)
    else if bytes_eq text (codes "found") then Some (word.Task task.Found)
    else if bytes_eq text (codes "writes") then Some (word.Task task.Writes)
    else if bytes_eq text (codes "refused") then Some (word.Task task.Refused)
    else if bytes_eq text (codes "stop") then Some (word.Lone lone.Stop)
    else if bytes_eq text (codes "halt") then Some (word.Lone lone.Halt)
    else if bytes_eq text (codes "umount") then Some (word.Lone lone.Umount)
    else if bytes_eq text (codes "host") then Some (word.Setup setup.Host)
    else if bytes_eq text (codes "made") then Some (word.Setup setup.Made)
    else if bytes_eq text (codes "mkfs") then Some (word.Setup setup.Mkfs)
    else None

-- a note of one word
abbrev pub lone_note : LoneWord → LineNote
lone_note lone.Mark = told.Mark
lone_note lone.Stop = told.Stop
lone_note lone.Halt = told.Halt
lone_note lone.Umount = told.Umount

-- the number of a format: of the first one where none is told
abbrev pub format_behind : ℕ → List Word → Reading ℕ
format_behind end words =
    if begins_with (codes "format") words then then_reads (word_of format_of end (behind_first words)) ends_with
    else ends_with first_number words

-- made: a UUID, the bytes of a unit, of the log and of the device, and a format or none
abbrev pub made_line : ℕ → List Word → Reading ToldParams
made_line end words =
    then_reads (word_of uuid_of end words) (λ fs rest.
    then_reads (counted_word end (codes "unit") rest) (λ unit rest.
    then_reads (counted_word end (codes "log") rest) (λ log rest.
    then_reads (counted_word end (codes "device") rest) (λ device rest.
    then_reads (format_behind end rest) (λ format none.
    Reads (record { fs = fs; unit = unit; log_length = log; device = device; format = format }) none)))))

-- of hosts and file systems: behind `mkfs` stands `halted` and a number
abbrev pub setup_line : ℕ → SetupWord → List Word → Reading LineNote
setup_line end setup.Host words = then_reads (word_of uuid_of end words) (λ uuid. ends_with (told.Host uuid))
setup_line end setup.Made words = then_reads (made_line end words) (λ params none. Reads (told.Made params) none)
setup_line end setup.Mkfs words = then_reads (numbered end (codes "halted") words) (λ k none. Reads (told.Cut k) none)

-- writes: a number, and an entry
abbrev pub writes_line : ℕ → List Word → Reading LineNote
writes_line end words =
    then_reads (word_of number_of_text end words) (λ seq rest.
    then_reads (listed_entry end rest) (λ entry none. Reads (told.Writes seq entry) none))

-- of commands
abbrev pub task_line : ℕ → TaskWord → List Word → Reading LineNote
task_line end task.Start words = then_reads (told_line end words) (λ cmd none. Reads (told.Start cmd) none)
task_line end task.Found words = then_reads (last_number end words) (λ n none. Reads (told.Found n) none)
task_line end task.Writes words = writes_line end words
task_line end task.Refused words = then_reads (refusal_line end words) (λ why none. Reads (told.Refused why) none)

-- the words behind the first one
abbrev pub note_behind : ℕ → NoteWord → List Word → Reading LineNote
note_behind end (word.Lone first) words = ends_with (lone_note first) words
note_behind end (word.Setup first) words = setup_line end first words
note_behind end (word.Task first) words = task_line end first words

-- the note that the first word begins
abbrev pub begun_note : List Word → Option NoteWord
begun_note [] = None
begun_note (next ∷ words) = note_word next.text

-- the words behind that word; all where it begins none
abbrev pub behind_begun : Option NoteWord → List Word → List Word
behind_begun None words = words
behind_begun (Some first) words = behind_first words

-- the words of a note behind the word that begins it, or of an answer
abbrev pub note_or_answer : ℕ → Option NoteWord → List Word → Reading LineNote
note_or_answer end None words = then_reads (answer_line end words) (λ given none. Reads (told.Answered given) none)
note_or_answer end (Some first) words = note_behind end first words

-- a note, or the first line of an answer
abbrev pub note_words : ℕ → List Word → Reading LineNote
note_words end words = note_or_answer end (begun_note words) (behind_begun (begun_note words) words)

-- a line
unfoldable pub history_line : ℕ → List Word → Reading ToldLine
history_line end words =
    then_reads (word_of name_of end words) (λ name rest.
    then_reads (note_words end rest) (λ note none. Reads (record { name = name; note = note }) none))

-- the number of the host of a name, of those declared so far
abbrev pub host_number : List (List ℕ) → List ℕ → Option ℕ
host_number names name = index_of (λ declared. path_eq declared name) names
