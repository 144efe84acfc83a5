-- The grammar of an answer: the words of its first line behind the host's name, from left to right.
use Rattle.std.specs.Prelude.{ℕ, Bool, ◌==◌, ◌&&◌, true, false, if◌then◌else◌, List, codes, Option, Some, None}
use Rattle.std.specs.Str.{bytes_eq}
use Rattle.fam_format.specs.declared.faults.SuperFault.TheVariants.{NoSuper}
use Rattle.fam_rules.specs.declared.answers.Checked.{Checked}
use Rattle.fam_rules.specs.declared.answers.Refused.TheVariants as cause
use Rattle.fam_grammar.specs.Numbers.{number_of_text}
use Rattle.fam_grammar.specs.Reading.{Reading, Reads, ends_with, then_reads, word_of}
use Rattle.fam_grammar.specs.Spellings.{path_of, uuid_of}
use Rattle.fam_grammar.specs.Words.{Word}
use Rattle.fam_history.specs.declared.answers.AnswerWord.{AnswerWord}
use Rattle.fam_history.specs.declared.answers.AnswerWord.TheVariants as word
use Rattle.fam_history.specs.declared.answer.ToldAnswer.{ToldAnswer}
use Rattle.fam_history.specs.declared.answer.ToldAnswer.TheVariants as told
use Rattle.fam_history.specs.ByteWords.{bytes_of_word, one_byte}
use Rattle.fam_history.specs.Faults.{is_a_file, last_kind, log_fault_line, numbered, reason_line, super_line}
use Rattle.fam_history.specs.Literals.{begins_with, behind_first, last_number, last_two, the_word}

-- the answers that a word begins
unfoldable pub answer_word : List ℕ → Option AnswerWord
answer_word text =
    if bytes_eq text (codes "ok") then Some word.Done
    else if bytes_eq text (codes "not") then Some word.Not
    else if bytes_eq text (codes "path") then Some word.Path
    else if bytes_eq text (codes "bad") then Some word.Bad
    else if bytes_eq text (codes "exists") then Some word.Exists
    else if bytes_eq text (codes "no") then Some word.No
    else if bytes_eq text (codes "parent") then Some word.Parent
    else if bytes_eq text (codes "log") then Some word.Log
    else if bytes_eq text (codes "played") then Some word.Played
    else if bytes_eq text (codes "mounted") then Some word.Mounted
    else if bytes_eq text (codes "same") then Some word.Same
    else if bytes_eq text (codes "differs") then Some word.Differs
    else if bytes_eq text (codes "length") then Some word.Length
    else if bytes_eq text (codes "bytes") then Some word.Bytes
    else if bytes_eq text (codes "is") then Some word.Is
    else if bytes_eq text (codes "checked") then Some word.Checked
    else if bytes_eq text (codes "fsck") then Some word.Fsck
    else if bytes_eq text (codes "media") then Some word.Media
    else None

-- not: `found` and a number, or `master` and two UUIDs
abbrev pub not_line : ℕ → List Word → Reading ToldAnswer
not_line end words =
    if begins_with (codes "found") words then then_reads (last_number end (behind_first words)) (λ n none. Reads (told.NotFound n) none)
    else
    then_reads (word_of (the_word (codes "master")) end words) (λ it rest.
    then_reads (word_of uuid_of end rest) (λ me rest.
    then_reads (word_of uuid_of end rest) (λ master. ends_with (told.NotAppended (cause.NotMaster me master)))))

-- path: `too long`, and a number
abbrev pub path_line : ℕ → List Word → Reading ToldAnswer
path_line end words =
    then_reads (word_of (the_word (codes "too")) end words) (λ it rest.
    then_reads (numbered end (codes "long") rest) (λ n none. Reads (told.NotAppended (cause.LongPath n)) none))

-- entry: a number, and why
abbrev pub entry_line_of : ℕ → List Word → Reading ToldAnswer
entry_line_of end words =
    then_reads (word_of number_of_text end words) (λ seq rest.
    then_reads (reason_line end rest) (λ reason none. Reads (told.BadSlot seq reason) none))

-- bad: `stripe`, or `superblock`, `log` or `entry` with its fault
abbrev pub bad_answer : ℕ → List Word → Reading ToldAnswer
bad_answer end words =
    if begins_with (codes "stripe") words then ends_with (told.NotAppended cause.BadStripe) (behind_first words)
    else if begins_with (codes "superblock") words then then_reads (super_line end (behind_first words)) (λ fault none. Reads (told.NoSuperblock fault) none)
    else if begins_with (codes "log") words then then_reads (log_fault_line end (behind_first words)) (λ fault none. Reads (told.BadHeader fault) none)
    else then_reads (word_of (the_word (codes "entry")) end words) (λ it rest. entry_line_of end rest)

-- no: `parent`, `superblock` and the word there, or `space` and a number
abbrev pub no_answer : ℕ → List Word → Reading ToldAnswer
no_answer end words =
    if begins_with (codes "parent") words then ends_with (told.NotAppended cause.NoParent) (behind_first words)
    else if begins_with (codes "superblock") words then then_reads (last_number end (behind_first words)) (λ n none. Reads (told.NoSuperblock (NoSuper n)) none)
    else then_reads (numbered end (codes "space") words) (λ n none. Reads (told.NotAppended (cause.NoSpace n)) none)

-- differs: how many entries, the offset, and the bytes found and wanted
abbrev pub differs_line : ℕ → List Word → Reading ToldAnswer
differs_line end words =
    then_reads (word_of number_of_text end words) (λ m rest.
    then_reads (word_of number_of_text end rest) (λ offset rest.
    then_reads (word_of one_byte end rest) (λ found rest.
    then_reads (word_of one_byte end rest) (λ wanted. ends_with (told.Differs m offset found wanted)))))

-- length: `differs`, how many entries, and the sizes found and wanted
abbrev pub length_line : ℕ → List Word → Reading ToldAnswer
length_line end words =
    then_reads (word_of (the_word (codes "differs")) end words) (λ it rest.
    then_reads (word_of number_of_text end rest) (λ m rest.
    then_reads (last_two end rest) (λ p none. Reads (told.Length m p.0 p.1) none)))

-- bytes: how many entries, and the bytes
abbrev pub bytes_line : ℕ → List Word → Reading ToldAnswer
bytes_line end words =
    then_reads (word_of number_of_text end words) (λ m rest.
    then_reads (word_of bytes_of_word end rest) (λ bytes. ends_with (told.Bytes m bytes)))

-- is: `a directory`, and a number
abbrev pub is_line : ℕ → List Word → Reading ToldAnswer
is_line end words =
    then_reads (word_of (the_word (codes "a")) end words) (λ it rest.
    then_reads (numbered end (codes "directory") rest) (λ n none. Reads (told.IsDirectory n) none))

-- a number behind a word
abbrev pub counted_word : ℕ → List ℕ → List Word → Reading ℕ
counted_word end wanted words = then_reads (word_of (the_word wanted) end words) (λ it. word_of number_of_text end)

-- no path differs
abbrev pub none_differs : ℕ → ℕ → ℕ → Bool
none_differs missing extra changed = (missing == 0) && (extra == 0) && (changed == 0)

-- a path
abbrev pub some_path : ℕ → List Word → Reading (Option (List ℕ))
some_path end words = then_reads (word_of path_of end words) (λ path rest. Reads (Some path) rest)

-- a path; or `-` for none, where no path differs
abbrev pub path_or_none : ℕ → Bool → List Word → Reading (Option (List ℕ))
path_or_none end true words = if begins_with (codes "-") words then Reads None (behind_first words) else some_path end words
path_or_none end false words = some_path end words

-- how a tree differs: `missing`, `extra` and `changed` with a number each, and `first` with a path
abbrev pub checked_words : ℕ → List Word → Reading Checked
checked_words end words =
    then_reads (counted_word end (codes "missing") words) (λ missing rest.
    then_reads (counted_word end (codes "extra") rest) (λ extra rest.
    then_reads (counted_word end (codes "changed") rest) (λ changed rest.
    then_reads (word_of (the_word (codes "first")) end rest) (λ it rest.
    then_reads (path_or_none end (none_differs missing extra changed) rest) (λ first. ends_with (record { missing = missing; extra = extra; changed = changed; first = first }))))))

-- checked: how many entries, and how the tree differs
abbrev pub checked_line : ℕ → List Word → Reading ToldAnswer
checked_line end words =
    then_reads (word_of number_of_text end words) (λ m rest.
    then_reads (checked_words end rest) (λ checked none. Reads (told.Checked m checked) none))

-- fsck: `sound`, or `damaged`
abbrev pub fsck_line : ℕ → List Word → Reading ToldAnswer
fsck_line end words =
    if begins_with (codes "sound") words then ends_with (told.Report true) (behind_first words)
    else then_reads (word_of (the_word (codes "damaged")) end words) (λ it. ends_with (told.Report false))

-- the words behind the first one
abbrev pub answer_behind : ℕ → AnswerWord → List Word → Reading ToldAnswer
answer_behind end word.Done words = then_reads (last_number end words) (λ n none. Reads (told.Ok n) none)
answer_behind end word.Not words = not_line end words
answer_behind end word.Path words = path_line end words
answer_behind end word.Bad words = bad_answer end words
answer_behind end word.Exists words = then_reads (last_kind end words) (λ kind none. Reads (told.NotAppended (cause.Exists kind)) none)
answer_behind end word.No words = no_answer end words
answer_behind end word.Parent words = then_reads (is_a_file end words) (λ it none. Reads (told.NotAppended cause.ParentIsFile) none)
answer_behind end word.Log words = then_reads (numbered end (codes "full") words) (λ n none. Reads (told.NotAppended (cause.LogFull n)) none)
answer_behind end word.Played words = then_reads (last_number end words) (λ n none. Reads (told.Played n) none)
answer_behind end word.Mounted words = then_reads (last_number end words) (λ n none. Reads (told.Mounted n) none)
answer_behind end word.Same words = then_reads (last_number end words) (λ n none. Reads (told.Same n) none)
answer_behind end word.Differs words = differs_line end words
answer_behind end word.Length words = length_line end words
answer_behind end word.Bytes words = bytes_line end words
answer_behind end word.Is words = is_line end words
answer_behind end word.Checked words = checked_line end words
answer_behind end word.Fsck words = fsck_line end words
answer_behind end word.Media words = then_reads (numbered end (codes "fault") words) (λ n none. Reads (told.MediaFault n) none)

-- an answer
unfoldable pub answer_line : ℕ → List Word → Reading ToldAnswer
answer_line end words = then_reads (word_of answer_word end words) (answer_behind end)
