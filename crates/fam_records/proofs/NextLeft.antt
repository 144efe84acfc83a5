-- A history is its next note, and the history of the lines behind that.
use Rattle.std.proofs.Common.{◌≡◌, ℕ, zero, suc, ◌+◌, ◌<◌, ◌≤◌, true, false, cond, List, [], ◌∷◌, length, Option, Some, None, Result, Ok, Err, refl, ap, sym, ◌∙◌, arith}
use Rattle.std.specs.Prelude.{⊤}
use Rattle.fam_grammar.specs.declared.fault.LineFault.{LineFault}
use Rattle.fam_grammar.specs.declared.fault.LineFault.TheVariants.{BadLine, OutOfMemory}
use Rattle.fam_grammar.specs.declared.words.Line.{Line}
use Rattle.fam_grammar.specs.Reading.{Reading, Reads, Misfit}
use Rattle.fam_grammar.specs.Scripts.{words_in}
use Rattle.fam_grammar.specs.Words.{Word}
use Rattle.fam_history.specs.ListedEntries.{listed_entry}
use Rattle.fam_history.specs.Notes.{history_line}
use Rattle.fam_history.specs.ReportLines.{bad_entry_line, files_line, log_state_line, overlap_line, past_line, superblock_line, units_line}
use Rattle.fam_records.specs.declared.record.Further.{Further}
use Rattle.fam_records.specs.declared.record.Further.TheVariants as further
use Rattle.fam_records.specs.declared.record.Record.{Record}
use Rattle.fam_records.specs.Histories.{BeginsHistory, history_by, history_left, history_up_to, left_behind, no_history, seen_if, with_record}
use Rattle.fam_records.specs.Lines.{ALine, Left, NextLine, NoLine, is_passed, next_from, next_line, numbered_line}
use Rattle.fam_records.specs.Records.{Recorded, counts_of, told_damage, listed_entries, told_further, further_of, next_record, record_by, record_of, told_report, states_of}
use Rattle.fam_records.specs.Taken.{Bad, Gives, TakenLines, Takes, both_of, line_by, line_taken, taken_as, then_takes}

-- at most so many lines are left behind what is read
abbrev IsWithin : {A : Type 0} → ℕ → TakenLines A → Type 0
IsWithin most (Takes value left) = length left.lines ≤ most
IsWithin most (Bad number column) = ⊤

then_within : {A B : Type 0} (most : ℕ) (said : TakenLines A) (next : A → Left → TakenLines B) → IsWithin most said
    → ((value : A) (left : Left) → length left.lines ≤ most → IsWithin most (next value left)) → IsWithin most (then_takes said next)
then_within most (Takes value left) next within more = more value left within
then_within most (Bad number column) next within more = tt

read_within : {A : Type 0} (most : ℕ) (line : Line) (left : Left) (said : Reading A) → length left.lines ≤ most → IsWithin most (taken_as line left said)
read_within most line left (Reads value rest) within = within
read_within most line left (Misfit column) within = tt

-- the next line is one of those that are left
abbrev IsOneOf : ℕ → NextLine → Type 0
IsOneOf count (NoLine number) = ⊤
IsOneOf count (ALine line words left) = length left.lines < count

later : (count : ℕ) (next : NextLine) → IsOneOf count next → IsOneOf (suc count) next
later count (NoLine number) one = tt
later count (ALine line words left) one = omega (arith, one)

one_of : (number : ℕ) (lines : List (List ℕ)) → IsOneOf (length lines) (next_from number lines)
one_of number [] = tt
one_of number (line ∷ lines) =
    let more = later (length lines) (next_from (number + 1) lines) (one_of (number + 1) lines) in
    let here : length lines < suc (length lines) = omega arith in
    elim (is_passed (words_in line)) as
    (λ t. IsOneOf (suc (length lines)) (cond t (next_from (number + 1) lines) (ALine (numbered_line number line) (words_in line) (record { number = number + 1; lines = lines })))) [
      | true ↦ more
      | false ↦ here
    ]

line_within : {A : Type 0} (most count : ℕ) (grammar : ℕ → List Word → Reading A) (next : NextLine) → IsOneOf count next → count ≤ most
    → IsWithin most (line_by grammar next)
line_within most count grammar (NoLine number) one few = tt
line_within most count grammar (ALine line words left) one few = read_within most line left (grammar line.end words) (omega (arith, one, few))

one_within : {A : Type 0} (most : ℕ) (grammar : ℕ → List Word → Reading A) (left : Left) → length left.lines ≤ most → IsWithin most (line_taken grammar left)
one_within most grammar left few = line_within most (length left.lines) grammar (next_line left) (one_of left.number left.lines) few

entries_within : (most n : ℕ) (left : Left) → length left.lines ≤ most → IsWithin most (listed_entries n left)
entries_within most zero left few = few
entries_within most (suc n) left few =
    then_within most (line_taken listed_entry left) _ (one_within most listed_entry left few) (λ entry rest less.
    then_within most (listed_entries n rest) _ (entries_within most n rest less) (λ entries behind last. last))

both_within : {A B : Type 0} (most : ℕ) (first : Left → TakenLines A) (second : Left → TakenLines B) (left : Left) → length left.lines ≤ most
    → ((l : Left) → length l.lines ≤ most → IsWithin most (first l)) → ((l : Left) → length l.lines ≤ most → IsWithin most (second l))
    → IsWithin most (both_of first second left)
both_within most first second left few one other =
    then_within most (first left) _ (one left few) (λ a rest less. then_within most (second rest) _ (other rest less) (λ b behind last. last))

report_within : (most : ℕ) (left : Left) → length left.lines ≤ most → IsWithin most (told_report left)
unfolding told_report
report_within most left few =
    then_within most (states_of left) _ (both_within most (line_taken superblock_line) (line_taken log_state_line) left few
    (one_within most superblock_line) (one_within most log_state_line)) (λ states rest less.
    then_within most (counts_of rest) _ (both_within most (line_taken files_line) (line_taken units_line) rest less
    (one_within most files_line) (one_within most units_line)) (λ counts rest less.
    then_within most (told_damage rest) _ (both_within most (line_taken overlap_line) (line_taken bad_entry_line) rest less
    (one_within most overlap_line) (one_within most bad_entry_line)) (λ damage rest less.
    then_within most (line_taken past_line rest) _ (one_within most past_line rest less) (λ past behind last. last))))

further_within : (most : ℕ) (more : Further) (left : Left) → length left.lines ≤ most → IsWithin most (told_further more left)
further_within most further.Nothing left few = few
further_within most (further.Entries n) left few =
    then_within most (listed_entries n left) _ (entries_within most n left few) (λ entries behind last. last)
further_within most further.Report left few =
    then_within most (told_report left) _ (report_within most left few) (λ report behind last. last)

-- fewer lines are left behind a note
abbrev IsFewer : ℕ → TakenLines (Option Recorded) → Type 0
IsFewer count (Takes None left) = ⊤
IsFewer count (Takes (Some first) left) = length left.lines < count
IsFewer count (Bad number column) = ⊤

fewer : (most count : ℕ) (said : TakenLines (Option Recorded)) → IsWithin most said → most < count → IsFewer count said
fewer most count (Takes None left) within less = tt
fewer most count (Takes (Some first) left) within less = omega (arith, within, less)
fewer most count (Bad number column) within less = tt

record_fewer : (count : ℕ) (next : NextLine) → IsOneOf count next → IsFewer count (record_by next)
record_fewer count (NoLine number) one = tt
record_fewer count (ALine line words left) one =
    let most : ℕ = length left.lines in
    fewer most count _ (then_within most (taken_as line left (history_line line.end words)) (record_of line.number)
    (read_within most line left (history_line line.end words) (omega arith)) (λ told behind few.
    then_within most (told_further (further_of told.note) behind) _ (further_within most (further_of told.note) behind few) (λ more rest last. last))) one

next_fewer : (left : Left) → IsFewer (length left.lines) (next_record left)
unfolding next_record
next_fewer left = record_fewer (length left.lines) (next_line left) (one_of left.number left.lines)

-- Histories.

ended : (n number : ℕ) (lines : List (List ℕ)) → length lines ≡ 0 → history_up_to n (record { number = number; lines = lines }) ≡ no_history
unfolding next_record
ended zero number [] none = refl
ended (suc n) number [] none = refl
ended n number (line ∷ lines) none = absurd (omega (arith, none))

same_by : (n m count : ℕ) (said : TakenLines (Option Recorded)) → IsFewer count said
    → ((rest : Left) → length rest.lines < count → history_up_to n rest ≡ history_up_to m rest)
    → history_by said (history_up_to n (left_behind said)) ≡ history_by said (history_up_to m (left_behind said))
same_by n m count (Takes None left) fewer same = refl
same_by n m count (Takes (Some first) left) fewer same = ap (with_record first) (same left fewer)
same_by n m count (Bad number column) fewer same = refl

-- more notes than lines are none
same_up_to : (n m : ℕ) (left : Left) → length left.lines ≤ n → length left.lines ≤ m → history_up_to n left ≡ history_up_to m left
same_up_to zero m left few other =
    ended zero left.number left.lines (omega (arith, few)) ∙ sym (ended m left.number left.lines (omega (arith, few)))
same_up_to (suc n) zero left few other =
    ended (suc n) left.number left.lines (omega (arith, other)) ∙ sym (ended zero left.number left.lines (omega (arith, other)))
same_up_to (suc n) (suc m) left few other =
    same_by n m (length left.lines) (next_record left) (next_fewer left)
    (λ rest less. same_up_to n m rest (omega (arith, few, less)) (omega (arith, other, less)))

left_by : (n count : ℕ) (said : TakenLines (Option Recorded)) → count ≤ suc n → IsFewer count said
    → history_by said (history_up_to n (left_behind said)) ≡ history_by said (history_left (left_behind said))
unfolding history_left
left_by n count (Takes None left) few fewer = refl
left_by n count (Takes (Some first) left) few fewer =
    ap (with_record first) (same_up_to n (length left.lines) left (omega (arith, few, fewer)) (omega arith))
left_by n count (Bad number column) few fewer = refl

-- the next note, and the notes of the lines behind it
pub next_left : (left : Left) → history_left left ≡ history_by (next_record left) (history_left (left_behind (next_record left)))
unfolding history_left
next_left left =
    same_up_to (length left.lines) (suc (length left.lines)) left (omega arith) (omega arith)
    ∙ left_by (length left.lines) (length left.lines) (next_record left) (omega arith) (next_fewer left)

-- what is left begins with the note that is read
pub begins : (left behind : Left) (result : Result (Option Record) LineFault) → Gives seen_if behind result (next_record left)
    → BeginsHistory (history_left left) (history_left behind) result
begins left behind (Ok None) says = next_left left ∙ ap (λ t. history_by t (history_left (left_behind t))) says
begins left behind (Ok (Some first)) says = next_left left ∙ ap (λ t. history_by t (history_left (left_behind t))) says
begins left behind (Err (BadLine number column)) says = next_left left ∙ ap (λ t. history_by t (history_left (left_behind t))) says
begins left behind (Err OutOfMemory) says = tt
