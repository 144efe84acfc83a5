-- The notes of a journal's text are read as what is told of them.
use Rattle.std.proofs.Common.{◌≡◌, ℕ, true, ◌+◌, List, [], ◌∷◌, ◌++◌, length, map, Option, Some, None, codes, refl, ap, ap₂, sym, ◌∙◌, arith, append-nil}
use Rattle.std.specs.Prelude.{All}
use Rattle.std.specs.FinMap as finmap
use Rattle.std.specs.List.{flat_map}
use Rattle.std.proofs.lemmas.List.Elements.{All-head, All-tail}
use Rattle.fam_base.specs.declared.entry.Entry.{Entry}
use Rattle.fam_base.specs.declared.entry.Kind.{Kind}
use Rattle.fam_base.specs.declared.entry.Kind.TheVariants.{File, Directory}
use Rattle.fam_rules.specs.declared.answers.Report.{Report}
use Rattle.fam_format.specs.declared.faults.Reason.{Reason}
use Rattle.fam_rules.specs.declared.answers.LogState.{LogState}
use Rattle.fam_rules.specs.declared.answers.LogState.TheVariants as log
use Rattle.fam_rules.specs.declared.answers.SuperState.{SuperState}
use Rattle.fam_rules.specs.declared.answers.SuperState.TheVariants as superblock
use Rattle.fam_rules.specs.Reply as reply
use Rattle.fam_rules.specs.Reply.{Reply}
use Rattle.fam_tree.specs.Lines.{entry_line, listing, listing_line}
use Rattle.fam_tree.specs.Listings.{IsListed, text_lines}
use Rattle.fam_tree.proofs.Cutting.{no_lines}
use Rattle.fam_grammar.specs.Words.{words_from}
use Rattle.fam_journal.specs.Notes.{Replied, MediaFault, Note, Answered}
use Rattle.fam_outcomes.specs.Texts.{bad_text, line, log_state_text, names_after, note_line, number, overlap_text, render, render_behind, super_state_text}
use Rattle.fam_history.specs.ListedEntries.{listed_entry}
use Rattle.fam_history.specs.Notes.{history_line}
use Rattle.fam_history.specs.ReportLines.{bad_entry_line, files_line, log_state_line, overlap_line, past_line, superblock_line, units_line}
use Rattle.fam_history.specs.ToldAnswers.{reply_lines, reply_told}
use Rattle.fam_history.specs.ToldNotes as told
use Rattle.fam_history.specs.ToldNotes.{head_line, line_told, told_of_note}
use Rattle.fam_history.proofs.PrintedEntries.{entry_reads}
use Rattle.fam_history.proofs.PrintedNotes.{line_reads, note_prints}
use Rattle.fam_history.proofs.PrintedReports.{bad_reads, files_read, log_reads, overlap_reads, past_reads, super_reads, units_read}
use Rattle.fam_records.specs.declared.record.Further.TheVariants as further
use Rattle.fam_records.specs.Lines.{Left}
use Rattle.fam_records.specs.Histories.{history_by, history_left, history_in, left_behind, with_record}
use Rattle.fam_records.specs.Records.{counts_of, told_damage, listed_entries, told_further, further_of, further_of_answer, next_record, record_by, record_of, told_report, states_of}
use Rattle.fam_records.specs.Taken.{TakenLines, Takes, both_of, line_taken, taken_as, then_takes}
use Rattle.fam_records.specs.ToldRecords.{AreTellingRecords, IfTellingReport, CountsListing, IsTellingRecord, IsTellingReport, further_told, lines_of_note, record_told, records_told, reply_further, report_line_count}
use Rattle.fam_records.proofs.Clean.{entry_clean}
use Rattle.fam_records.proofs.CleanNotes.{bad_clean, files_clean, head_printed, log_state_clean, overlap_clean, past_clean, super_state_clean, units_clean}
use Rattle.fam_records.proofs.PrintedLines.{ArePrinted, IsPrinted, is_begun, line_read, lines_are, next_is}
use Rattle.fam_records.proofs.NextLeft.{next_left}

-- one thing that is taken, and the next
then_is : {A B : Type 0} (said : TakenLines A) (next : A → Left → TakenLines B) (value : A) (left : Left) (last : TakenLines B) → said ≡ Takes value left → next value left ≡ last
    → then_takes said next ≡ last
then_is said next value left last first rest = ap (λ t. then_takes t next) first ∙ rest

-- lines from this number on
abbrev from : ℕ → List (List ℕ) → Left
from number lines = record { number = number; lines = lines }

-- Listings.

entry_begun : (e : Entry) → is_begun (entry_line e) ≡ true
unfolding entry_line
entry_begun e = by e.kind
  where
    by : (kind : Kind) → is_begun (entry_line (record e { kind = kind })) ≡ true
    by Directory = refl
    by File = refl

entry_printed : (e : Entry) → IsListed e → IsPrinted (entry_line e)
entry_printed e is = record { clean = entry_clean e is; starts = entry_begun e }

entries_printed : (es : List Entry) → All IsListed es → ArePrinted (map entry_line es)
entries_printed [] all = tt
entries_printed (e ∷ es) all = (entry_printed e (All-head IsListed e es all), entries_printed es (All-tail IsListed e es all))

entries_read : (es : List Entry) (n : ℕ) (lines : List (List ℕ)) → All IsListed es
    → listed_entries (length es) (from n (map entry_line es ++ lines)) ≡ Takes es (from (n + length es) lines)
entries_read [] n lines all = ap (λ (k : ℕ). Takes [] (from k lines)) (omega arith)
entries_read (e ∷ es) n lines all =
    let is = All-head IsListed e es all in
    then_is (line_taken listed_entry (from n (entry_line e ∷ (map entry_line es ++ lines)))) _ e (from (n + 1) (map entry_line es ++ lines)) _
    (line_read (entry_line e) (entry_printed e is) listed_entry e n (map entry_line es ++ lines) (entry_reads e 1 (length (entry_line e) + 1) is))
    (then_is (listed_entries (length es) (from (n + 1) (map entry_line es ++ lines))) _ es (from (n + 1 + length es) lines) _
    (entries_read es (n + 1) lines (All-tail IsListed e es all))
    (ap (λ (k : ℕ). Takes (e ∷ es) (from k lines)) (omega arith)))

-- Reports.

-- the seven other lines
abbrev report_texts : Report → List (List ℕ)
report_texts r =
    super_state_text r.superblock ∷ log_state_text r.log ∷ (codes "files" ++ number r.files ++ codes " directories" ++ number r.directories)
    ∷ (codes "units used" ++ number r.used ++ codes " free" ++ number r.free) ∷ overlap_text r.overlap ∷ bad_text r.bad ∷ (codes "past gate" ++ number r.past) ∷ []

super_begun : (s : SuperState) → is_begun (super_state_text s) ≡ true
super_begun superblock.Sound = refl
super_begun (superblock.NoSuper word) = refl
super_begun (superblock.BadSuper f found wanted) = refl

log_begun : (s : LogState) → is_begun (log_state_text s) ≡ true
log_begun (log.Sound entries slots) = refl
log_begun (log.BadLog f found wanted) = refl
log_begun log.Unread = refl

overlap_begun : (pair : Option (ℕ × ℕ)) → is_begun (overlap_text pair) ≡ true
overlap_begun None = refl
overlap_begun (Some pair) = refl

bad_begun : (bad : Option (ℕ × Reason)) → is_begun (bad_text bad) ≡ true
bad_begun None = refl
bad_begun (Some bad) = refl

report_printed : (r : Report) → IsTellingReport r → ArePrinted (report_texts r)
report_printed r is = (
  record { clean = super_state_clean r.superblock is.superblock; starts = super_begun r.superblock },
  (
    record { clean = log_state_clean r.log is.log; starts = log_begun r.log },
    (
      record { clean = files_clean r.files r.directories is.files is.directories; starts = refl },
      (
        record { clean = units_clean r.used r.free is.used is.unused; starts = refl },
        (
          record { clean = overlap_clean r.overlap is.overlap; starts = overlap_begun r.overlap },
          (record { clean = bad_clean r.bad is.bad; starts = bad_begun r.bad }, (record { clean = past_clean r.past is.past; starts = refl }, tt)),
        ),
      ),
    ),
  ),
)

-- they are read one by one, each with the number that its place gives
both_is : {A B : Type 0} (first : Left → TakenLines A) (second : Left → TakenLines B) (start middle last : Left) (a : A) (b : B) → first start ≡ Takes a middle
    → second middle ≡ Takes b last → both_of first second start ≡ Takes (a, b) last
both_is first second start middle last a b one other =
    then_is (first start) (λ a rest. then_takes (second rest) (λ b behind. Takes (a, b) behind)) a middle (Takes (a, b) last) one
    (then_is (second middle) (λ b behind. Takes (a, b) behind) b last (Takes (a, b) last) other refl)

report_read : (r : Report) (n : ℕ) (lines : List (List ℕ)) → IsTellingReport r → told_report (from n (report_texts r ++ lines)) ≡ Takes r (from (n + 7) lines)
unfolding told_report
report_read r n lines is =
    let a = report_printed r is in
    let b = a.1 in
    let c = b.1 in
    let d = c.1 in
    let e = d.1 in
    let f = e.1 in
    let g = f.1 in
    let same : n + 1 + 1 + 1 + 1 + 1 + 1 + 1 ≡ n + 7 = omega arith in
    let files : List ℕ = codes "files" ++ number r.files ++ codes " directories" ++ number r.directories in
    let units : List ℕ = codes "units used" ++ number r.used ++ codes " free" ++ number r.free in
    let past : List ℕ = codes "past gate" ++ number r.past in
    let l6 : List (List ℕ) = past ∷ lines in
    let l5 : List (List ℕ) = bad_text r.bad ∷ l6 in
    let l4 : List (List ℕ) = overlap_text r.overlap ∷ l5 in
    let l3 : List (List ℕ) = units ∷ l4 in
    let l2 : List (List ℕ) = files ∷ l3 in
    let l1 : List (List ℕ) = log_state_text r.log ∷ l2 in
    then_is (states_of (from n (super_state_text r.superblock ∷ l1))) _ (r.superblock, r.log) (from (n + 1 + 1) l2) _
    (both_is (line_taken superblock_line) (line_taken log_state_line) (from n (super_state_text r.superblock ∷ l1)) (from (n + 1) l1) (from (n + 1 + 1) l2) r.superblock r.log
    (line_read (super_state_text r.superblock) a.0 superblock_line r.superblock n l1 (super_reads 1 _ r.superblock is.superblock))
    (line_read (log_state_text r.log) b.0 log_state_line r.log (n + 1) l2 (log_reads 1 _ r.log is.log)))
    (then_is (counts_of (from (n + 1 + 1) l2)) _ ((r.files, r.directories), (r.used, r.free)) (from (n + 1 + 1 + 1 + 1) l4) _
    (both_is (line_taken files_line) (line_taken units_line) (from (n + 1 + 1) l2) (from (n + 1 + 1 + 1) l3) (from (n + 1 + 1 + 1 + 1) l4) (r.files, r.directories) (r.used, r.free)
    (line_read files c.0 files_line (r.files, r.directories) (n + 1 + 1) l3 (files_read 1 _ r.files r.directories is.files is.directories))
    (line_read units d.0 units_line (r.used, r.free) (n + 1 + 1 + 1) l4 (units_read 1 _ r.used r.free is.used is.unused)))
    (then_is (told_damage (from (n + 1 + 1 + 1 + 1) l4)) _ (r.overlap, r.bad) (from (n + 1 + 1 + 1 + 1 + 1 + 1) l6) _
    (both_is (line_taken overlap_line) (line_taken bad_entry_line) (from (n + 1 + 1 + 1 + 1) l4) (from (n + 1 + 1 + 1 + 1 + 1) l5) (from (n + 1 + 1 + 1 + 1 + 1 + 1) l6) r.overlap r.bad
    (line_read (overlap_text r.overlap) e.0 overlap_line r.overlap (n + 1 + 1 + 1 + 1) l5 (overlap_reads 1 _ r.overlap is.overlap))
    (line_read (bad_text r.bad) f.0 bad_entry_line r.bad (n + 1 + 1 + 1 + 1 + 1) l6 (bad_reads 1 _ r.bad is.bad)))
    (then_is (line_taken past_line (from (n + 1 + 1 + 1 + 1 + 1 + 1) l6)) _ r.past (from (n + 1 + 1 + 1 + 1 + 1 + 1 + 1) lines) _
    (line_read past g.0 past_line r.past (n + 1 + 1 + 1 + 1 + 1 + 1) lines (past_reads 1 _ r.past is.past))
    (ap (λ (k : ℕ). Takes r (from k lines)) same))))

-- Notes.

-- the lines of a report, where there is one
abbrev texts_if : Option Report → List (List ℕ)
texts_if None = []
texts_if (Some r) = report_texts r

-- the lines that follow a note's first one
abbrev texts_of : List Entry × Option Report → List (List ℕ)
texts_of more = map entry_line more.0 ++ texts_if more.1

listing_lines : (es : List Entry) → flat_map listing_line es ≡ flat_map line (map entry_line es ++ [])
listing_lines [] = refl
listing_lines (e ∷ es) = ap (λ (l : List ℕ). line (entry_line e) ++ l) (listing_lines es)

reply_prints : (given : Reply) → reply_lines given ≡ flat_map line (texts_of (reply_further given))
unfolding listing
reply_prints (reply.Played m tree) = listing_lines (finmap.values tree)
reply_prints (reply.Reports r) =
    ap (λ (l : List ℕ). line (super_state_text r.superblock)
    ++ (line (log_state_text r.log)
    ++ (line (codes "files" ++ number r.files ++ codes " directories" ++ number r.directories)
    ++ (line (codes "units used" ++ number r.used ++ codes " free" ++ number r.free) ++ (line (overlap_text r.overlap) ++ (line (bad_text r.bad) ++ l))))))
    (sym (append-nil (line (codes "past gate" ++ number r.past))))
reply_prints other = refl

more_prints : (note : Note) → told.further_lines note ≡ flat_map line (texts_of (further_told note))
more_prints (Answered host (Replied given)) = reply_prints given
more_prints (Answered host (MediaFault at)) = refl
more_prints other = refl

printed-append : (a b : List (List ℕ)) → ArePrinted a → ArePrinted b → ArePrinted (a ++ b)
printed-append [] b first second = second
printed-append (text ∷ texts) b first second = (first.0, printed-append texts b first.1 second)

report_printed_if : (r : Option Report) → IfTellingReport r → ArePrinted (texts_if r)
report_printed_if None is = tt
report_printed_if (Some r) is = report_printed r is

abbrev no_more : List Entry × Option Report
no_more = ([], None)

nothing_read : (n : ℕ) (lines : List (List ℕ)) → Takes no_more (from n lines) ≡ Takes no_more (from (n + 0) lines)
nothing_read n lines = let same : n ≡ n + 0 = omega arith in ap (λ (k : ℕ). Takes no_more (from k lines)) same

module _ (n : ℕ) (lines : List (List ℕ)) where
  listing_read : (m : ℕ) (es : List Entry) → m ≡ length es → All IsListed es
      → told_further (further.Entries m) (from n ((map entry_line es ++ []) ++ lines)) ≡ Takes (es, None) (from (n + (length es + 0)) lines)
  listing_read m es count all =
      then_is (listed_entries m (from n ((map entry_line es ++ []) ++ lines))) (λ entries behind. Takes (entries, None) behind) es (from (n + length es) lines) _
      (ap₂ (λ (k : ℕ) (l : List (List ℕ)). listed_entries k (from n (l ++ lines))) count (append-nil (map entry_line es)) ∙ entries_read es n lines all)
      (ap (λ (k : ℕ). Takes (es, None) (from (n + k) lines)) (omega arith))

  reply_read : (given : Reply) → CountsListing (further_of_answer (reply_told given)) (reply_further given).0 → All IsListed (reply_further given).0
      → IfTellingReport (reply_further given).1
      → told_further (further_of_answer (reply_told given)) (from n (texts_of (reply_further given) ++ lines))
      ≡ Takes (reply_further given) (from (n + (length (reply_further given).0 + report_line_count (reply_further given).1)) lines)
  reply_read (reply.Played m tree) count all report = listing_read m (finmap.values tree) count all
  reply_read (reply.Reports r) count all report =
      then_is (told_report (from n (report_texts r ++ lines))) (λ report behind. Takes ([], Some report) behind) r (from (n + 7) lines) _ (report_read r n lines report) refl
  reply_read other count all report = nothing_read n lines

  more_read : (names : List (List ℕ)) (note : Note) → CountsListing (further_of (told_of_note names note)) (further_told note).0 → All IsListed (further_told note).0
      → IfTellingReport (further_told note).1
      → told_further (further_of (told_of_note names note)) (from n (texts_of (further_told note) ++ lines))
      ≡ Takes (further_told note) (from (n + (length (further_told note).0 + report_line_count (further_told note).1)) lines)
  more_read names (Answered host (Replied given)) count all report = reply_read given count all report
  more_read names (Answered host (MediaFault at)) count all report = nothing_read n lines
  more_read names other count all report = nothing_read n lines

module _ (names : List (List ℕ)) (note : Note) (is : IsTellingRecord names note) where
  -- its lines
  note_lines : (rest : List ℕ) → text_lines (note_line names note ++ rest) ≡ head_line names note ∷ (texts_of (further_told note) ++ text_lines rest)
  note_lines rest =
      ap (λ (l : List ℕ). text_lines (l ++ rest)) (note_prints names note ∙ ap (λ (l : List ℕ). line (head_line names note) ++ l) (more_prints note))
      ∙ lines_are (head_line names note ∷ texts_of (further_told note)) rest (
        head_printed names note is.first,
        printed-append (map entry_line (further_told note).0) (texts_if (further_told note).1)
            (entries_printed (further_told note).0 is.entries) (report_printed_if (further_told note).1 is.report),
      )

  -- are read as what is told of it
  note_read : (n : ℕ) (lines : List (List ℕ)) → next_record (from n (head_line names note ∷ (texts_of (further_told note) ++ lines)))
      ≡ Takes (Some (record_told n names note)) (from (n + lines_of_note note) lines)
  unfolding next_record
  note_read n lines =
      let head = head_line names note in
      let more = texts_of (further_told note) in
      let end : ℕ = length head + 1 in
      ap record_by (next_is head (head_printed names note is.first) n (more ++ lines))
      ∙ then_is (taken_as (record { number = n; end = end }) (from (n + 1) (more ++ lines)) (history_line end (words_from 1 head))) (record_of n) (line_told names note)
      (from (n + 1) (more ++ lines)) _
      (ap (taken_as (record { number = n; end = end }) (from (n + 1) (more ++ lines))) (line_reads names note 1 end is.first))
      (then_is (told_further (further_of (told_of_note names note)) (from (n + 1) (more ++ lines))) _ (further_told note) _ _
      (more_read (n + 1) lines names note is.count is.entries is.report)
      (ap (λ (k : ℕ). Takes (Some (record_told n names note)) (from k lines)) (omega arith)))

-- Journals.

-- the text of notes is read as what is told of them, wherever it begins
pub notes_read : (names : List (List ℕ)) (notes : List Note) (n : ℕ) → AreTellingRecords names notes
    → history_left (from n (text_lines (render_behind names notes))) ≡ record { records = records_told n names notes; bad = None }
unfolding history_left
notes_read names [] n are = ap (λ l. history_left (from n l)) no_lines
notes_read names (note ∷ notes) n are =
    let behind : List ℕ = render_behind (names_after names note) notes in
    ap (λ l. history_left (from n l)) (note_lines names note are.0 behind)
    ∙ next_left (from n (head_line names note ∷ (texts_of (further_told note) ++ text_lines behind)))
    ∙ ap (λ t. history_by t (history_left (left_behind t))) (note_read names note are.0 n (text_lines behind))
    ∙ ap (with_record (record_told n names note)) (notes_read (names_after names note) notes (n + lines_of_note note) are.1)

-- the text of a journal as a history
pub journal_read : (journal : List Note) → AreTellingRecords [] journal → history_in (render journal) ≡ record { records = records_told 1 [] journal; bad = None }
unfolding history_in render
journal_read journal are = notes_read [] journal 1 are
