-- A command that a history begins has no bytes of a source: its grammar has none.
use Rattle.std.proofs.Common.{◌≡◌, ℕ, Bool, true, false, cond, List, [], ◌∷◌, Option, Some, None, refl, ap, sym, subst, ◌∙◌}
use Rattle.std.specs.Prelude.{⊤, codes, option_map}
use Rattle.std.specs.Str.{bytes_eq}
use Rattle.fam_base.specs.declared.cmd.Cmd.{Cmd}
use Rattle.fam_base.specs.declared.cmd.Cmd.TheVariants as cmd
use Rattle.fam_base.specs.declared.cmd.Content.TheVariants as content
use Rattle.fam_grammar.specs.declared.keywords.CommandWord.{CommandWord}
use Rattle.fam_grammar.specs.declared.keywords.CommandWord.TheVariants as command
use Rattle.fam_grammar.specs.Keywords.{command_word}
use Rattle.fam_grammar.specs.Lines.{cp_takes, creat_takes, fill_of, mkdir_takes}
use Rattle.fam_grammar.specs.Numbers.{number_of_text, size_of_text}
use Rattle.fam_grammar.specs.Options.{file_options, keyed, no_file_options}
use Rattle.fam_grammar.specs.Reading.{Reading, Reads, Misfit, ends_with, fitting_word, then_reads, word_of}
use Rattle.fam_grammar.specs.Spellings.{count_of, name_of, path_of, value_behind, uuid_of}
use Rattle.fam_grammar.specs.Words.{Word}
use Rattle.fam_history.specs.declared.command.ToldCommand.{ToldCommand}
use Rattle.fam_history.specs.declared.command.ToldCommand.TheVariants as told
use Rattle.fam_history.specs.declared.note.LineNote.{LineNote}
use Rattle.fam_history.specs.declared.note.ToldLine.{ToldLine}
use Rattle.fam_history.specs.declared.note.LineNote.TheVariants as note
use Rattle.fam_history.specs.Answers.{answer_line}
use Rattle.fam_history.specs.Faults.{numbered}
use Rattle.fam_history.specs.ListedEntries.{listed_entry}
use Rattle.fam_history.specs.Literals.{last_number}
use Rattle.fam_history.specs.Notes.{begun_note, behind_begun, history_line, made_line, note_or_answer, note_word, note_words}
use Rattle.fam_history.specs.Refusals.{refusal_line}
use Rattle.fam_history.specs.Commands.{told_against, told_behind, told_compared, told_line}
use Rattle.fam_history.specs.Told.{told_of_command}
use Rattle.fam_history.specs.ToldNotes.{line_told, told_of_note}
use Rattle.fam_grammar.specs.declared.words.Line.{Line as NumberedLine}
use Rattle.fam_records.specs.Histories.{History, history_by, history_left, left_behind, with_record}
use Rattle.fam_records.specs.Lines.{ALine, Left, NextLine, NoLine, next_line}
use Rattle.fam_records.specs.Records.{Recorded, further_of, next_record, record_by, record_of, told_further}
use Rattle.fam_records.specs.Taken.{Bad, TakenLines, Takes, taken_as, then_takes}
use Rattle.fam_records.proofs.NextLeft.{next_left}
use Rattle.fam_lines.specs.declared.line.Line.{Line}
use Rattle.fam_lines.specs.declared.line.Line.TheVariants as line
use Rattle.fam_lines.specs.Lines.{note_of_line, untold_of}
use Rattle.fam_settled.specs.Told.{HasToldFill, IsToldCreat, IsToldFill}
use Rattle.fam_verdict.specs.Fills.{BeginsFilled, HasToldFillIn}

-- What is read, if anything is, has this.
abbrev Read : {A : Type 0} → (A → Type 0) → Reading A → Type 0
Read P (Reads value rest) = P value
Read P (Misfit column) = ⊤

-- so of a spelling
abbrev Spells : {A : Type 0} → (A → Type 0) → Option A → Type 0
Spells P None = ⊤
Spells P (Some value) = P value

-- behind whatever stands first
behind : {A B : Type 0} (P : B → Type 0) (first : Reading A) (next : A → List Word → Reading B) → ((a : A) (rest : List Word) → Read P (next a rest))
    → Read P (then_reads first next)
behind P (Reads value rest) next all = all value rest
behind P (Misfit column) next all = tt

-- behind something of which this is known
onward : {A B : Type 0} (Q : A → Type 0) (P : B → Type 0) (first : Reading A) (next : A → List Word → Reading B) → Read Q first
    → ((a : A) (rest : List Word) → Q a → Read P (next a rest)) → Read P (then_reads first next)
onward Q P (Reads value rest) next has all = all value rest has
onward Q P (Misfit column) next has all = tt

last : {A : Type 0} (P : A → Type 0) (value : A) (words : List Word) → P value → Read P (ends_with value words)
last P value [] has = has
last P value (word ∷ words) has = tt

fitting : {A : Type 0} (P : A → Type 0) (found : Option A) (column : ℕ) (rest : List Word) → Spells P found → Read P (fitting_word found column rest)
fitting P None column rest has = tt
fitting P (Some value) column rest has = has

keyed_has : {A : Type 0} (P : A → Type 0) (value : Option (List ℕ)) (spelling : List ℕ → Option A) (other : Option A)
    → ((v : List ℕ) → Spells P (spelling v)) → Spells P other → Spells P (keyed value spelling other)
keyed_has P None spelling other has more = more
keyed_has P (Some value) spelling other has more = has value

mapped : {A B : Type 0} (P : B → Type 0) (f : A → B) (found : Option A) → ((a : A) → P (f a)) → Spells P (option_map f found)
mapped P f None has = tt
mapped P f (Some a) has = has a

filled : (seed : Option ℕ) → IsToldFill (fill_of seed)
filled None = tt
filled (Some seed) = tt

-- what a verify compares with
against_filled : (path word : List ℕ) → Spells HasToldFill (told_against path word)
against_filled path word =
    keyed_has HasToldFill (value_behind (codes "seed=") word) _ _
    (λ v. mapped HasToldFill (λ (seed : ℕ). told.Plain (cmd.Verify path (content.Seed seed))) (number_of_text v) (λ seed. tt))
    (keyed_has HasToldFill (value_behind (codes "bytes=") word) _ _
    (λ v. mapped HasToldFill (λ (count : ℕ). told.VerifySource path count) (number_of_text v) (λ count. tt)) tt)

compared_filled : (end : ℕ) (path : List ℕ) (words : List Word) → Read HasToldFill (told_compared end path words)
compared_filled end path [] = tt
compared_filled end path (word ∷ words) =
    onward HasToldFill HasToldFill (word_of (told_against path) end (word ∷ words)) _ (fitting HasToldFill (told_against path word.text) word.column words (against_filled path word.text))
    (λ a rest has. last HasToldFill a rest has)

command_filled : (end : ℕ) (first : CommandWord) (words : List Word) → Read HasToldFill (told_behind end first words)
command_filled end command.Logplay words = last HasToldFill (told.Plain cmd.Logplay) words tt
command_filled end command.Mount words = last HasToldFill (told.Plain cmd.Mount) words tt
command_filled end command.Fsck words = last HasToldFill (told.Plain cmd.Fsck) words tt
command_filled end command.Mkdir words =
    behind HasToldFill (word_of path_of end words) _ (λ path rest.
    behind HasToldFill (file_options mkdir_takes no_file_options rest) _ (λ o none. tt))
command_filled end command.Creat words =
    behind HasToldFill (word_of path_of end words) _ (λ path rest.
    behind HasToldFill (word_of size_of_text end rest) _ (λ size rest.
    behind HasToldFill (file_options creat_takes no_file_options rest) _ (λ o none. filled o.seed)))
command_filled end command.Cp words =
    behind HasToldFill (word_of path_of end words) _ (λ path rest.
    behind HasToldFill (word_of size_of_text end rest) _ (λ size rest.
    behind HasToldFill (file_options cp_takes no_file_options rest) _ (λ o none. tt)))
command_filled end command.Verify words =
    behind HasToldFill (word_of path_of end words) _ (λ path rest. compared_filled end path rest)
command_filled end command.Read words =
    behind HasToldFill (word_of path_of end words) _ (λ path rest.
    behind HasToldFill (word_of number_of_text end rest) _ (λ offset rest.
    behind HasToldFill (word_of count_of end rest) _ (λ count rest.
    last HasToldFill (told.Plain (cmd.Read path offset count)) rest tt)))
command_filled end command.Check words =
    behind HasToldFill (word_of number_of_text end words) _ (λ count rest. last HasToldFill (told.Check count) rest tt)

line_filled : (end : ℕ) (words : List Word) → Read HasToldFill (told_line end words)
unfolding told_line
line_filled end words = behind HasToldFill (word_of command_word end words) (told_behind end) (λ first rest. command_filled end first rest)

-- words that go on by one of two
either : {A : Type 0} (f : A → List Word → Reading LineNote) (words : List Word) (t : Bool) (a b : A)
    → Read HasToldFillIn (f a words) → Read HasToldFillIn (f b words) → Read HasToldFillIn (f (cond t a b) words)
either f words true a b one other = one
either f words false a b one other = other

answered_filled : (end : ℕ) (words : List Word) → Read HasToldFillIn (note_or_answer end None words)
answered_filled end words = behind HasToldFillIn (answer_line end words) _ (λ given none. tt)

-- whatever word begins the note
begun_filled : (end : ℕ) (words rest : List Word) → Read HasToldFillIn (note_or_answer end (begun_note words) rest)
unfolding note_word
begun_filled end [] rest = answered_filled end rest
begun_filled end (next ∷ words) rest =
    either (note_or_answer end) rest (bytes_eq next.text (codes "start")) _ _
    (onward HasToldFill HasToldFillIn (told_line end rest) _ (line_filled end rest) (λ cmd none has. has)) (
    either (note_or_answer end) rest (bytes_eq next.text (codes "mark")) _ _ (last HasToldFillIn note.Mark rest tt) (
    either (note_or_answer end) rest (bytes_eq next.text (codes "found")) _ _ (behind HasToldFillIn (last_number end rest) _ (λ n none. tt)) (
    either (note_or_answer end) rest (bytes_eq next.text (codes "writes")) _ _
    (behind HasToldFillIn (word_of number_of_text end rest) _ (λ seq more. behind HasToldFillIn (listed_entry end more) _ (λ entry none. tt))) (
    either (note_or_answer end) rest (bytes_eq next.text (codes "refused")) _ _ (behind HasToldFillIn (refusal_line end rest) _ (λ why none. tt)) (
    either (note_or_answer end) rest (bytes_eq next.text (codes "stop")) _ _ (last HasToldFillIn note.Stop rest tt) (
    either (note_or_answer end) rest (bytes_eq next.text (codes "halt")) _ _ (last HasToldFillIn note.Halt rest tt) (
    either (note_or_answer end) rest (bytes_eq next.text (codes "umount")) _ _ (last HasToldFillIn note.Umount rest tt) (
    either (note_or_answer end) rest (bytes_eq next.text (codes "host")) _ _
    (behind HasToldFillIn (word_of uuid_of end rest) _ (λ uuid more. last HasToldFillIn (note.Host uuid) more tt)) (
    either (note_or_answer end) rest (bytes_eq next.text (codes "made")) _ _ (behind HasToldFillIn (made_line end rest) _ (λ params none. tt)) (
    either (note_or_answer end) rest (bytes_eq next.text (codes "mkfs")) _ _ (behind HasToldFillIn (numbered end (codes "halted") rest) _ (λ k none. tt))
    (answered_filled end rest)))))))))))

-- what a line tells
abbrev FillIn : ToldLine → Type 0
FillIn line = HasToldFillIn line.note

history_filled : (end : ℕ) (words : List Word) → Read FillIn (history_line end words)
unfolding history_line
history_filled end words =
    behind FillIn (word_of name_of end words) _ (λ name rest.
    onward HasToldFillIn FillIn (note_words end rest) _ (begun_filled end rest (behind_begun (begun_note rest) rest)) (λ note none has. has))

-- Records.

-- what is taken of lines, if anything is, has this
abbrev Taking : {A : Type 0} → (A → Type 0) → TakenLines A → Type 0
Taking P (Takes value left) = P value
Taking P (Bad number column) = ⊤

-- so of a record, where there is one
abbrev FillOf : Option Recorded → Type 0
FillOf None = ⊤
FillOf (Some r) = HasToldFillIn r.told.note

taken_behind : {A B : Type 0} (P : B → Type 0) (first : TakenLines A) (next : A → Left → TakenLines B) → ((a : A) (left : Left) → Taking P (next a left))
    → Taking P (then_takes first next)
taken_behind P (Takes value left) next all = all value left
taken_behind P (Bad number column) next all = tt

taken_line : (line : NumberedLine) (left : Left) (said : Reading ToldLine) → Read FillIn said → Taking FillOf (then_takes (taken_as line left said) (record_of line.number))
taken_line line left (Reads told rest) has =
    taken_behind FillOf (told_further (further_of told.note) left) _ (λ more behind. has)
taken_line line left (Misfit column) has = tt

record_filled : (next : NextLine) → Taking FillOf (record_by next)
record_filled (NoLine number) = tt
record_filled (ALine line words left) = taken_line line left (history_line line.end words) (history_filled line.end words)

next_filled : (left : Left) → Taking FillOf (next_record left)
unfolding next_record
next_filled left = record_filled (next_line left)

-- the record that a history begins with is the one that was read
first_by : (r : Recorded) (said : TakenLines (Option Recorded)) (rest behind : History) → Taking FillOf said → history_by said rest ≡ with_record r behind
    → HasToldFillIn r.told.note
first_by r (Takes None left) rest behind has is = absurd (let no : [] ≡ r ∷ behind.records = ap (λ (h : History). h.records) is in cc)
first_by r (Takes (Some first) left) rest behind has is =
    let same : first ≡ r = let both : first ∷ rest.records ≡ r ∷ behind.records = ap (λ (h : History). h.records) is in cc in
    subst (λ (x : Recorded). HasToldFillIn x.told.note) same has
first_by r (Bad number column) rest behind has is = absurd (let no : [] ≡ r ∷ behind.records = ap (λ (h : History). h.records) is in cc)

-- a record that is read begins no command with bytes of a source
pub first_filled : (left : Left) (r : Recorded) (behind : History) → history_left left ≡ with_record r behind → HasToldFillIn r.told.note
first_filled left r behind is =
    first_by r (next_record left) (history_left (left_behind (next_record left))) behind (next_filled left) (sym (next_left left) ∙ is)

-- Lines.

-- what is told of a command is all that is told, but of a plain one's bytes
plain_filled : (c : Cmd) (d : ToldCommand) → told_of_command c ≡ d → HasToldFill d → IsToldCreat c
plain_filled cmd.Logplay d is has = tt
plain_filled cmd.Mount d is has = tt
plain_filled (cmd.Mkdir path attr) d is has = tt
plain_filled (cmd.Creat path size attr stripe fill) d is has = subst HasToldFill (sym is) has
plain_filled (cmd.Cp path attr stripe bytes) d is has = tt
plain_filled (cmd.Verify path against) d is has = tt
plain_filled (cmd.Read path offset count) d is has = tt
plain_filled (cmd.Check listing) d is has = tt
plain_filled cmd.Fsck d is has = tt

told_filled : (c d : ToldCommand) → told_of_command (untold_of c) ≡ d → HasToldFill d → HasToldFill c
told_filled (told.Plain c) d is has = plain_filled c d is has
told_filled (told.Cp path size attr stripe) d is has = tt
told_filled (told.VerifySource path count) d is has = tt
told_filled (told.Check count) d is has = tt

-- so a line begins none where what it tells begins none
begun_in : (names : List (List ℕ)) (line : Line) (note : LineNote) → told_of_note names (note_of_line line) ≡ note → HasToldFillIn note → BeginsFilled line
begun_in names (line.Host name uuid) note is has = tt
begun_in names (line.Made h p) note is has = tt
begun_in names (line.Cut h k) note is has = tt
begun_in names (line.Start h c) note is has = told_filled c (told_of_command (untold_of c)) refl (subst HasToldFillIn (sym is) has)
begun_in names (line.Mark h) note is has = tt
begun_in names (line.Found h n) note is has = tt
begun_in names (line.Writes h seq e) note is has = tt
begun_in names (line.Answered h answer) note is has = tt
begun_in names (line.Stop h) note is has = tt
begun_in names (line.Halt h) note is has = tt
begun_in names (line.Umount h) note is has = tt
begun_in names (line.Refused name why) note is has = tt

-- a line that tells what a record's first line does begins no command with bytes of a source where the record begins none
pub begins_filled : (names : List (List ℕ)) (l : Line) (t : ToldLine) → line_told names (note_of_line l) ≡ t → HasToldFillIn t.note → BeginsFilled l
begins_filled names l t is has = begun_in names l t.note (ap (λ (x : ToldLine). x.note) is) has
