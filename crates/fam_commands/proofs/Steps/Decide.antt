-- What comes of the Digest behind the slots.
use Rattle.std.proofs.Common.{ℕ, zero, suc, ◌≡◌, ◌<◌, ◌≤◌, ◌+◌, ◌-◌, ◌*◌, ◌/◌, inl, inr, Bool, true, List, [], ◌∷◌, length, map, take, drop, Option, Some, None, Result, refl, sym, ◌∙◌, ap, subst, arith}
use Rattle.std.specs.Prelude.{find, nat_lt, nat_le, if◌then◌else◌, ◌==◌, ◌&&◌, min, option_map}
use Rattle.std.specs.FinMap as finmap
use Rattle.std.proofs.lemmas.Bool.{cases_lt, cases_eq, cases_Bool, eq-eqb, ne_eqb, le-leb, lt-leb, cond-true, cond-false}
use Rattle.std.proofs.lemmas.List.{length-map, drop_all, nil_from_length}
use Rattle.std.proofs.lemmas.List.FromFn.{length-map-range_with_len}
use Rattle.fam_base.specs.declared.cmd.Cmd.{Cmd}
use Rattle.fam_base.specs.declared.cmd.Cmd.TheVariants.{Logplay, Mount, Mkdir, Creat, Cp, Verify, Read, Check, Fsck}
use Rattle.fam_base.specs.declared.cmd.Content.{Content}
use Rattle.fam_base.specs.declared.cmd.Content.TheVariants as content
use Rattle.fam_base.specs.declared.entry.Entry.{Entry}
use Rattle.fam_base.specs.declared.entry.Kind.{Kind}
use Rattle.fam_base.specs.declared.entry.Kind.TheVariants as kind
use Rattle.fam_base.specs.PathOrder.{path_eq}
use Rattle.fam_format.specs.Tree.{replay}
use Rattle.fam_rules.specs.Asks as asks
use Rattle.fam_rules.specs.Asks.{entries_of, file_at, compared, verified, file_bytes_from, of_kind, of_file}
use Rattle.fam_rules.specs.Checks.{checked}
use Rattle.fam_rules.specs.Decide.{decide}
use Rattle.fam_rules.specs.Content.{byte_in}
use Rattle.fam_rules.specs.declared.answers.Refused.{Refused}
use Rattle.fam_rules.specs.declared.answers.Report.{Report}
use Rattle.fam_format.specs.Log.{gate_fault}
use Rattle.fam_rules.specs.Place.{line_bytes}
use Rattle.fam_rules.specs.Reply as reply
use Rattle.fam_rules.specs.Reports.{report_by, no_survey, survey_slots}
use Rattle.fam_rules.specs.Written.{lines_of}
use Rattle.fam_commands.specs.declared.phase.Part.TheVariants.{File}
use Rattle.fam_commands.specs.declared.phase.Phase.TheVariants as at
use Rattle.fam_commands.specs.Kept.{used}
use Rattle.fam_commands.proofs.UsedCounts.{used_fsck_count}
use Rattle.fam_commands.proofs.Steps.UsedTold.{first_told, first_told_is, used_told_by, shape_told, shape_told_is}
use Rattle.fam_commands.specs.Task.{used_in, first_in, Task, wanted_end, wanted_lines, first_line}
use Rattle.fam_commands.specs.Turns.{Turn, Ends, read_file, verify_lines, verify_turn, bytes_turn, kind_turn, found_turn, append_turn, decide_turn}
use Rattle.fam_commands.specs.Table.{Quiet, Answer, fed, fed_slots, fed_gate, fed_file, fed_files, entries_read, append_note, fits_content, reads_kind, reads_file, decision_note, words_before}
use Rattle.fam_commands.proofs.Rows.Numbered.{if_below, if_past}
use Rattle.fam_commands.proofs.Rows.Slots.{ReadsLog, read_of}
use Rattle.fam_commands.proofs.Rows.FileLines.{told_file, told_at}
use Rattle.fam_commands.proofs.FaultReplies.{report_on_slots}
use Rattle.fam_commands.proofs.Steps.Append.{append_by}
use Rattle.fam_commands.specs.Counts.{decided_steps, file_lines, told_entries}
use Rattle.fam_commands.proofs.Counted.Ends.{report_by_steps}
use Rattle.fam_commands.proofs.Counted.Files.{decided_at, without_lines, told_are, verify_file_lines, read_file_lines}
use Rattle.fam_commands.proofs.Steps.Outcomes.{Outcome, outcome_as, goes_on, ends}
use Rattle.fam_commands.proofs.Steps.Ties.{done_with, HasGate, AreRead, HasSlots, TaskSlots, FileKnown, TieAt, decided_and, words_to}
use Rattle.fam_base.specs.declared.entry.Params.{Params}

-- How many lines hold wanted bytes.

-- all lines of the file are compared
pub verify_lines_are : (path : List ℕ) (against : Content) (size : ℕ) → wanted_lines (Verify path against) size ≡ lines_of size
verify_lines_are path against size =
    elim (cases_lt 0 size) [
      | inl some ↦ cond-false (nat_le size 0) 0 (lines_of size - 0) (lt-leb size 0 some) ∙ omega arith
      | inr none ↦ cond-true (nat_le size 0) 0 (lines_of size - 0) (le-leb size 0 none) ∙ (let z : size ≡ 0 = omega arith in sym (ap lines_of z))
    ]

lines_none : (size : ℕ) → size ≡ 0 → lines_of size ≡ 0
lines_none size is = ap lines_of is

lines_some : (size : ℕ) → 0 < size → 0 < lines_of size
lines_some size some = omega arith

-- no byte is wanted
pub read_lines_none : (path : List ℕ) (offset count size : ℕ) → min size (offset + count) ≤ offset → wanted_lines (Read path offset count) size ≡ 0
read_lines_none path offset count size none = cond-true (nat_le (min size (offset + count)) offset) 0
    (lines_of (min size (offset + count)) - offset / line_bytes) (le-leb (min size (offset + count)) offset none)

-- the lines that hold a wanted byte
pub read_lines_are : (path : List ℕ) (offset count size : ℕ) → offset < min size (offset + count)
    → wanted_lines (Read path offset count) size ≡ lines_of (min size (offset + count)) - offset / line_bytes
read_lines_are path offset count size some = cond-false (nat_le (min size (offset + count)) offset) 0
    (lines_of (min size (offset + count)) - offset / line_bytes) (lt-leb (min size (offset + count)) offset some)

read_lines_some : (path : List ℕ) (offset count size : ℕ) → offset < min size (offset + count) → 0 < wanted_lines (Read path offset count) size
read_lines_some path offset count size some = omega (arith, read_lines_are path offset count size some)

-- A file that is compared.

module _ (t : Task) (e : Entry) (words : List ℕ) (made : ℕ) (bytes : List ℕ) (long : length bytes ≡ e.size)
    (at_made : made ≡ decided_steps (shape_told t words) (first_told t words) (fed_gate words)) where
  -- how many lines hold wanted bytes
  abbrev lines : ℕ
  lines = file_lines t.cmd (told_entries (used_told_by t words) words t.lines)

  lines_by : (path : List ℕ) (against : Content) → lines ≡ wanted_lines (Verify path against) e.size
      → (0 < e.size → Outcome t (read_file t e) Quiet words made)
      → Outcome t (verify_lines t e) (if nat_lt 0 (wanted_lines (Verify path against) e.size) then Quiet else Answer
      (compared (length t.entries) bytes against)) words made
  lines_by path against lines_are reads =
      elim (cases_eq e.size 0) [
        | inl none ↦
            outcome_as t _ (Ends (reply.Same (length t.entries))) _ (Answer (reply.Same (length t.entries))) words made
            (cond-true (e.size == 0) (Ends (reply.Same (length t.entries))) (read_file t e) (eq-eqb e.size 0 none))
            (if_past 0 (wanted_lines (Verify path against) e.size) Quiet (Answer (compared (length t.entries) bytes against))
            (omega (arith, verify_lines_are path against e.size, lines_none e.size none))
            ∙ ap (λ (b : List ℕ). Answer (compared (length t.entries) b against)) (nil_from_length bytes (long ∙ none)))
            (ends t (reply.Same (length t.entries)) _ words made refl
            (without_lines (shape_told t words) (first_told t words) (fed_gate words) lines (wanted_lines (Verify path against) e.size) made at_made
            lines_are (verify_lines_are path against e.size ∙ lines_none e.size none)))
        | inr size ↦
            let some : 0 < e.size = omega arith in
            outcome_as t _ (read_file t e) _ Quiet words made
            (cond-false (e.size == 0) (Ends (reply.Same (length t.entries))) (read_file t e) (ne_eqb e.size 0 size))
            (if_below 0 (wanted_lines (Verify path against) e.size) Quiet (Answer (compared (length t.entries) bytes against))
            (omega (arith, verify_lines_are path against e.size, lines_some e.size some)))
            (reads some)
      ]

  verify_by : (path : List ℕ) (against : Content) → lines ≡ wanted_lines (Verify path against) e.size
      → (fits_content (Verify path against) e.size ≡ true → 0 < e.size → Outcome t (read_file t e) Quiet words made)
      → Outcome t (verify_turn t e against)
      (if fits_content (Verify path against) e.size && nat_lt 0 (wanted_lines (Verify path against) e.size) then Quiet else Answer
      (verified (length t.entries) bytes against)) words made
  verify_by path (content.Bytes given) lines_are reads =
      elim (cases_Bool (length given == e.size)) [
        | inl same ↦
            outcome_as t _ (verify_lines t e) _
            (if nat_lt 0 (wanted_lines (Verify path (content.Bytes given)) e.size) then Quiet else Answer
            (compared (length t.entries) bytes (content.Bytes given))) words made
            (cond-true (length given == e.size) (verify_lines t e) _ same)
            (ap (λ (b : Bool). if b && nat_lt 0 (wanted_lines (Verify path (content.Bytes given)) e.size) then Quiet else Answer (verified (length t.entries) bytes (content.Bytes given))) same
            ∙ ap (λ (b : Bool). if nat_lt 0 (wanted_lines (Verify path (content.Bytes given)) e.size) then Quiet else Answer
            (if b then compared (length t.entries) bytes (content.Bytes given) else reply.Length (length t.entries) (length bytes)
            (length given))) (ap (λ (n : ℕ). length given == n) long ∙ same))
            (lines_by path (content.Bytes given) lines_are (reads same))
        | inr other ↦
            outcome_as t _ (Ends (reply.Length (length t.entries) e.size (length given))) _ (Answer (reply.Length (length t.entries) e.size (length given))) words made
            (cond-false (length given == e.size) (verify_lines t e) _ other)
            (ap (λ (b : Bool). if b && nat_lt 0 (wanted_lines (Verify path (content.Bytes given)) e.size) then Quiet else Answer (verified (length t.entries) bytes (content.Bytes given))) other
            ∙ ap (λ (b : Bool). Answer (if b then compared (length t.entries) bytes (content.Bytes given) else reply.Length (length t.entries)
            (length bytes) (length given))) (ap (λ (n : ℕ). length given == n) long ∙ other)
            ∙ ap (λ (n : ℕ). Answer (reply.Length (length t.entries) n (length given))) long)
            (ends t (reply.Length (length t.entries) e.size (length given)) _ words made refl at_made)
      ]
  verify_by path (content.Seed seed) lines_are reads = lines_by path (content.Seed seed) lines_are (reads refl)
  verify_by path content.Zero lines_are reads = lines_by path content.Zero lines_are (reads refl)

  nothing_wanted : (offset count : ℕ) → min e.size (offset + count) ≤ offset → file_bytes_from offset count bytes ≡ []
  nothing_wanted offset count none =
      elim (cases_lt offset e.size) [
        | inl inside ↦ (let z : count ≡ 0 = omega arith in ap (λ (n : ℕ). take n (drop offset bytes)) z)
        | inr past ↦ ap (take count) (drop_all offset bytes (omega arith)) ∙ take_none count
      ]
    where
      take_none : (n : ℕ) → take {A = ℕ} n [] ≡ []
      take_none zero = refl
      take_none (suc n) = refl

  read_by : (path : List ℕ) (offset count : ℕ) → lines ≡ wanted_lines (Read path offset count) e.size
      → wanted_end t.cmd e.size ≡ min e.size (offset + count)
      → (0 < wanted_lines (Read path offset count) e.size → Outcome t (read_file t e) Quiet words made)
      → Outcome t (bytes_turn t e offset)
      (if true && nat_lt 0 (wanted_lines (Read path offset count) e.size) then Quiet else Answer
      (reply.Bytes (length t.entries) (file_bytes_from offset count bytes))) words made
  read_by path offset count lines_are cmd_end reads =
      elim (cases_lt offset (min e.size (offset + count))) [
        | inl some ↦
            let some_line = read_lines_some path offset count e.size some in
            outcome_as t _ (read_file t e) _ Quiet words made
            (ap (λ (n : ℕ). if nat_le n offset then Ends (reply.Bytes (length t.entries) []) else read_file t e) cmd_end
            ∙ cond-false (nat_le (min e.size (offset + count)) offset) (Ends (reply.Bytes (length t.entries) [])) (read_file t e)
            (lt-leb (min e.size (offset + count)) offset some))
            (if_below 0 (wanted_lines (Read path offset count) e.size) Quiet _ some_line)
            (reads some_line)
        | inr none ↦
            outcome_as t _ (Ends (reply.Bytes (length t.entries) [])) _ (Answer (reply.Bytes (length t.entries) [])) words made
            (ap (λ (n : ℕ). if nat_le n offset then Ends (reply.Bytes (length t.entries) []) else read_file t e) cmd_end
            ∙ cond-true (nat_le (min e.size (offset + count)) offset) (Ends (reply.Bytes (length t.entries) [])) (read_file t e)
            (le-leb (min e.size (offset + count)) offset none))
            (if_past 0 (wanted_lines (Read path offset count) e.size) Quiet _ (omega (arith, read_lines_none path offset count e.size none))
            ∙ ap (λ (b : List ℕ). Answer (reply.Bytes (length t.entries) b)) (nothing_wanted offset count none))
            (ends t (reply.Bytes (length t.entries) []) _ words made refl
            (without_lines (shape_told t words) (first_told t words) (fed_gate words) lines (wanted_lines (Read path offset count) e.size) made
            at_made lines_are (read_lines_none path offset count e.size none)))
      ]

-- What stands at the path.

kind_by : (t : Task) (k : Kind) (turn : Turn) (cmd : Cmd) (size : ℕ) (reply : reply.Reply) (words : List ℕ) (made : ℕ)
    → made ≡ decided_steps (shape_told t words) (first_told t words) (fed_gate words)
    → (k ≡ kind.File → Outcome t turn (if fits_content cmd size && nat_lt 0 (wanted_lines cmd size) then Quiet else Answer reply) words made)
    → Outcome t (kind_turn t k turn) (if reads_kind k cmd size then Quiet else Answer (of_kind (length t.entries) k reply)) words made
kind_by t kind.Directory turn cmd size given words made at_made file = ends t (reply.IsDirectory (length t.entries)) _ words made refl at_made
kind_by t kind.File turn cmd size given words made at_made file = file refl

found_by : (t : Task) (cmd : Cmd) (o : Option Entry) (next : Entry → Turn) (told : Entry → asks.File) (question : List ℕ → reply.Reply)
    (words : List ℕ) (made : ℕ) → made ≡ decided_steps (shape_told t words) (first_told t words) (fed_gate words) → ((e : Entry) → (told e).entry ≡ e)
    → ((e : Entry) → o ≡ Some e → e.kind ≡ kind.File
    → Outcome t (next e) (if fits_content cmd e.size && nat_lt 0 (wanted_lines cmd e.size) then Quiet else Answer (question (told e).bytes)) words
    made) → Outcome t (found_turn t o next)
    (if reads_file cmd (option_map told o) then Quiet else Answer (of_file (length t.entries) (option_map told o) question)) words made
found_by t cmd None next told question words made at_made same file = ends t (reply.NotFound (length t.entries)) _ words made refl at_made
found_by t cmd (Some e) next told question words made at_made same file =
    outcome_as t _ _ _ (if reads_kind e.kind cmd e.size then Quiet else Answer (of_kind (length t.entries) e.kind (question (told e).bytes))) words made refl
    (ap (λ (x : Entry). if reads_kind x.kind cmd x.size then Quiet else Answer (of_kind (length t.entries) x.kind (question (told e).bytes))) (same e))
    (kind_by t e.kind (next e) cmd e.size (question (told e).bytes) words made at_made (file e refl))

-- the lines of the file are read
read_file_by : (t : Task) (e : Entry) (words : List ℕ) (made : ℕ) → TaskSlots t words t.gate → length words ≡ words_to t.params (first_in t) t.gate
    → made ≡ decided_and t.params (first_in t) t.gate 0 → FileKnown t.cmd t.params (first_in t) t.gate t.entries (Some e) words 0
    → 0 < wanted_lines t.cmd e.size → Outcome t (read_file t e) Quiet words made
read_file_by t e words made h long is known some =
    goes_on t (record t { entry = Some e; phase = at.Drop File 0; words = [] }) words made refl refl refl refl
    (record {
      known = (h, known);
      within = some;
      long = omega arith;
      held =
          sym (drop_all (words_to t.params (first_in t) t.gate + done_with File t.cmd 0) words (omega arith));
      made_is = omega arith;
    })

-- The commands.

entries_now : (cmd : Cmd) (t : Task) (words : List ℕ) (i : ℕ) → ReadsLog cmd → i ≡ t.gate
    → HasSlots t.kept cmd t.me t.lines t.params t.gate t.entries t.survey words i
    → entries_read (fed_slots words t.params (used t.kept cmd t.params t.gate) (fed_gate words)) ≡ t.entries
entries_now cmd t words i reads is h =
    let all = read_of t.kept cmd t.params t.gate t.entries t.survey words i reads h.known in
    ap (λ (n : ℕ). entries_read (fed_slots words t.params (used t.kept cmd t.params t.gate) n)) (h.gated.gate_is ∙ sym is) ∙ ap entries_read all.sound

entries_told : (cmd : Cmd) (words : List ℕ) (start : ℕ) (list : List Entry) → entries_of (map (fed_file words start) list) ≡ list
entries_told cmd words start [] = refl
entries_told cmd words start (e ∷ list) = ap (λ (l : List Entry). e ∷ l) (entries_told cmd words start list)

entries_of_files : (cmd : Cmd) (words : List ℕ) (p : Params) (f : ℕ) (list : List Entry) → entries_of (fed_files words p f cmd list) ≡ list
entries_of_files cmd words p f list = entries_told cmd (drop (words_before p f (length list)) words) (line_bytes * first_line cmd) list

-- each entry has its file
pub count_of_files : (cmd : Cmd) (words : List ℕ) (p : Params) (f : ℕ) (list : List Entry) → length (fed_files words p f cmd list) ≡ length list
count_of_files cmd words p f list = length-map list (fed_file (drop (words_before p f (length list)) words) (line_bytes * first_line cmd))

file_bytes : (cmd : Cmd) (words : List ℕ) (p : Params) (f : ℕ) (list : List Entry) (e : Entry) → length (told_file cmd words p f list e).bytes ≡ e.size
file_bytes cmd words p f list e = length-map-range_with_len (λ o. byte_in (drop (words_before p f (length list)) words) (o - line_bytes * first_line cmd)) 0 e.size

module _ (t : Task) (words : List ℕ) (made : ℕ) (at_made : made ≡ decided_steps (shape_told t words) (first_told t words) (fed_gate words)) where
  logplay_by : AreRead t.params (used_in t) t.entries words t.gate → Outcome t (decide_turn Logplay t) (decision_note Logplay t.me words t.lines t.params (first_in t) t.entries) words made
  logplay_by read =
      ends t (reply.Played (length t.entries) (replay t.entries)) _ words made
      (ap (λ (n : ℕ). Answer (reply.Played n (replay (entries_of (fed_files words t.params (first_in t) Logplay t.entries))))) (count_of_files Logplay words t.params (first_in t) t.entries)
      ∙ ap (λ (l : List Entry). Answer (reply.Played (length t.entries) (replay l))) (entries_of_files Logplay words t.params (first_in t) t.entries))
      at_made

  mount_by : AreRead t.params (used_in t) t.entries words t.gate → Outcome t (decide_turn Mount t) (decision_note Mount t.me words t.lines t.params (first_in t) t.entries) words made
  mount_by read =
      ends t (reply.Mounted (length t.entries)) _ words made
      (ap (λ (n : ℕ). Answer (reply.Mounted n)) (count_of_files Mount words t.params (first_in t) t.entries))
      at_made

  check_by : (listing : List Entry) → Outcome t (decide_turn (Check listing) t) (decision_note (Check listing) t.me words t.lines t.params (first_in t) t.entries) words made
  check_by listing =
      ends t (reply.Checks (length t.entries) (checked (replay t.entries) listing)) _ words made
      (ap (λ (n : ℕ). Answer (reply.Checks n
      (checked (replay (entries_of (fed_files words t.params (first_in t) (Check listing) t.entries))) listing)))
      (count_of_files (Check listing) words t.params (first_in t) t.entries)
      ∙ ap (λ (l : List Entry). Answer (reply.Checks (length t.entries) (checked (replay l) listing))) (entries_of_files (Check listing) words t.params (first_in t) t.entries))
      at_made

  -- a question about the file at a path
  path_by : (cmd : Cmd) (path : List ℕ) (next : Entry → Turn) (question : ℕ → List ℕ → reply.Reply)
      → AreRead t.params (used_in t) t.entries words t.gate
      → ((e : Entry) → find (λ x. path_eq x.path path) t.entries ≡ Some e → e.kind ≡ kind.File
      → Outcome t (next e) (if fits_content cmd e.size && nat_lt 0 (wanted_lines cmd e.size) then Quiet else Answer
      (question (length t.entries) (told_file cmd words t.params (first_in t) t.entries e).bytes)) words made)
      → Outcome t (found_turn t (finmap.get (replay t.entries) path) next)
      (if reads_file cmd (file_at (fed_files words t.params (first_in t) cmd t.entries) path) then Quiet else Answer
      (of_file (length (fed_files words t.params (first_in t) cmd t.entries)) (file_at (fed_files words t.params (first_in t) cmd t.entries) path)
      (question (length (fed_files words t.params (first_in t) cmd t.entries))))) words made
  path_by cmd path next question read file =
      outcome_as t _ (found_turn t (find (λ x. path_eq x.path path) t.entries) next) _
      (if reads_file cmd (option_map (told_file cmd words t.params (first_in t) t.entries) (find (λ x. path_eq x.path path) t.entries)) then Quiet
      else Answer (of_file (length t.entries)
      (option_map (told_file cmd words t.params (first_in t) t.entries) (find (λ x. path_eq x.path path) t.entries))
      (question (length t.entries)))) words made
      (ap (λ (o : Option Entry). found_turn t o next) (read.lookups path))
      (ap (λ (f : Option asks.File). if reads_file cmd f then Quiet else Answer
      (of_file (length (fed_files words t.params (first_in t) cmd t.entries)) f
      (question (length (fed_files words t.params (first_in t) cmd t.entries))))) (told_at cmd words t.params (first_in t) t.entries path)
      ∙ ap (λ (n : ℕ). if reads_file cmd
      (option_map (told_file cmd words t.params (first_in t) t.entries) (find (λ x. path_eq x.path path) t.entries)) then Quiet else Answer
      (of_file n (option_map (told_file cmd words t.params (first_in t) t.entries) (find (λ x. path_eq x.path path) t.entries)) (question n)))
      (count_of_files cmd words t.params (first_in t) t.entries))
      (found_by t cmd (find (λ x. path_eq x.path path) t.entries) next (told_file cmd words t.params (first_in t) t.entries) (question (length t.entries)) words made at_made (λ e. refl) file)

verify_decides : (t : Task) (path : List ℕ) (against : Content) (words : List ℕ) (made : ℕ) → t.cmd ≡ Verify path against → TaskSlots t words t.gate
    → AreRead t.params (used_in t) t.entries words t.gate → length words ≡ words_to t.params (first_in t) t.gate
    → made ≡ decided_and t.params (first_in t) t.gate 0
    → Outcome t (decide_turn (Verify path against) t) (decision_note (Verify path against) t.me words t.lines t.params (first_in t) t.entries) words
    made
verify_decides t path against words made cmd_is h read long is =
    let at_made = decided_at t.params (shape_told t words) (first_told t words) (first_in t) (fed_gate words) t.gate made
    (shape_told_is t words t.gate h) (first_told_is t words t.gate h) h.gated.gate_is is in
    let told : told_entries (used_told_by t words) words t.lines ≡ t.entries = told_are t.kept t.cmd t.me t.lines t.params t.gate t.entries t.survey words (subst ReadsLog (sym cmd_is) tt) h in
    path_by t words made at_made (Verify path against) path (λ e. verify_turn t e against) (λ n bytes. verified n bytes against) read
    (λ e found file.
    verify_by t e words made (told_file (Verify path against) words t.params (first_in t) t.entries e).bytes
    (file_bytes (Verify path against) words t.params (first_in t) t.entries e) at_made path against
    (ap (λ (c : Cmd). file_lines c (told_entries (used_told_by t words) words t.lines)) cmd_is ∙ verify_file_lines path against t.entries
    (told_entries (used_told_by t words) words t.lines) e told read.lookups found)
    (λ fits some.
    let lines : 0 < wanted_lines (Verify path against) e.size = omega (arith, verify_lines_are path against e.size, lines_some e.size some) in
    let known : FileKnown (Verify path against) t.params (first_in t) t.gate t.entries (Some e) words 0 =
    (e, record { is = refl; found = found; file = file; fits = fits; some = lines }, (λ o below inside. absurd (omega arith)), omega arith) in
    read_file_by t e words made h long is
    (subst (λ (c : Cmd). FileKnown c t.params (first_in t) t.gate t.entries (Some e) words 0) (sym cmd_is) known)
    (subst (λ (c : Cmd). 0 < wanted_lines c e.size) (sym cmd_is) lines)))

read_decides : (t : Task) (path : List ℕ) (offset count : ℕ) (words : List ℕ) (made : ℕ) → t.cmd ≡ Read path offset count → TaskSlots t words t.gate
    → AreRead t.params (used_in t) t.entries words t.gate → length words ≡ words_to t.params (first_in t) t.gate
    → made ≡ decided_and t.params (first_in t) t.gate 0
    → Outcome t (decide_turn (Read path offset count) t) (decision_note (Read path offset count) t.me words t.lines t.params (first_in t) t.entries)
    words made
read_decides t path offset count words made cmd_is h read long is =
    let at_made = decided_at t.params (shape_told t words) (first_told t words) (first_in t) (fed_gate words) t.gate made
    (shape_told_is t words t.gate h) (first_told_is t words t.gate h) h.gated.gate_is is in
    let told : told_entries (used_told_by t words) words t.lines ≡ t.entries = told_are t.kept t.cmd t.me t.lines t.params t.gate t.entries t.survey words (subst ReadsLog (sym cmd_is) tt) h in
    path_by t words made at_made (Read path offset count) path (λ e. bytes_turn t e offset) (λ n bytes. reply.Bytes n (file_bytes_from offset count bytes)) read
    (λ e found file.
    read_by t e words made (told_file (Read path offset count) words t.params (first_in t) t.entries e).bytes
    (file_bytes (Read path offset count) words t.params (first_in t) t.entries e) at_made path offset count
    (ap (λ (c : Cmd). file_lines c (told_entries (used_told_by t words) words t.lines)) cmd_is ∙ read_file_lines path offset count t.entries
    (told_entries (used_told_by t words) words t.lines) e told read.lookups found)
    (ap (λ (c : Cmd). wanted_end c e.size) cmd_is)
    (λ lines.
    let known : FileKnown (Read path offset count) t.params (first_in t) t.gate t.entries (Some e) words 0 = (e, record { is = refl; found = found; file = file; fits = refl; some = lines }) in
    read_file_by t e words made h long is
    (subst (λ (c : Cmd). FileKnown c t.params (first_in t) t.gate t.entries (Some e) words 0) (sym cmd_is) known)
    (subst (λ (c : Cmd). 0 < wanted_lines c e.size) (sym cmd_is) lines)))

-- a command that appends
wish_decides : (t : Task) (words : List ℕ) (made : ℕ) → TaskSlots t words t.gate → AreRead t.params (used_in t) t.entries words t.gate
    → made ≡ decided_and t.params (first_in t) t.gate 0 → (r : Result Entry Refused) → decide t.params t.me t.entries t.cmd ≡ Some r
    → Outcome t (append_turn t r) (append_note (length t.entries) (Some r)) words made
wish_decides t words made h read is r decided =
    outcome_as t _ (append_turn t r) _ (append_note t.gate (Some r)) words made refl (ap (λ (n : ℕ). append_note n (Some r)) read.count) (append_by t words made r decided h is)

fsck_decides : (t : Task) (words : List ℕ) (made : ℕ) → made ≡ decided_steps (shape_told t words) (first_told t words) t.params.slots
    → HasGate t.cmd t.me t.lines t.params t.gate words → t.survey ≡ survey_slots (fed t.params 0 words) t.params t.gate 0 t.params.slots no_survey
    → Outcome t (decide_turn Fsck t) (decision_note Fsck t.me words t.lines t.params 0 t.entries) words made
fsck_decides t words made at_made gated known =
    ends t (reply.Reports (report_by t.params t.gate t.survey)) _ words made
    (ap (λ (r : Report). Answer (reply.Reports r))
    (report_on_slots words t.lines t.params gated.log.head.super gated.log.header (ap (λ (n : ℕ). gate_fault n t.params) gated.gate_is ∙ gated.within)
    ∙ ap (λ (n : ℕ). report_by t.params n (survey_slots (fed t.params 0 words) t.params n 0 t.params.slots no_survey)) gated.gate_is
    ∙ ap (report_by t.params t.gate) (sym known)))
    (at_made ∙ sym (report_by_steps (shape_told t words) (first_told t words) (fed_gate words) (file_lines t.cmd (told_entries (used_told_by t words) words t.lines)) t.params t.gate t.survey))

decide_as : (cmd : Cmd) (t : Task) (words : List ℕ) (made : ℕ) → TieAt at.Decide (record t { cmd = cmd }) words made
    → Outcome (record t { cmd = cmd }) (decide_turn cmd (record t { cmd = cmd }))
    (decision_note cmd t.me words t.lines t.params (length (used t.kept cmd t.params t.gate))
    (entries_read (fed_slots words t.params (used t.kept cmd t.params t.gate) (fed_gate words)))) words (made + 1)
decide_as Fsck t words made (h, long, is) =
    let none : length (used t.kept Fsck t.params t.gate) ≡ 0 = used_fsck_count t.kept t.params t.gate in
    outcome_as (record t { cmd = Fsck }) _ _ _ _ words (made + 1) refl
    (ap (λ (n : ℕ). decision_note Fsck t.me words t.lines t.params n
    (entries_read (fed_slots words t.params (used t.kept Fsck t.params t.gate) (fed_gate words)))) none)
    (fsck_decides (record t { cmd = Fsck }) words (made + 1)
    (decided_at t.params (shape_told (record t { cmd = Fsck }) words) (first_told (record t { cmd = Fsck }) words)
    (first_in (record t { cmd = Fsck })) t.params.slots t.params.slots (made + 1) (shape_told_is (record t { cmd = Fsck }) words t.params.slots h)
    (first_told_is (record t { cmd = Fsck }) words t.params.slots h) refl (omega arith)) h.gated h.known)
decide_as Logplay t words made (h, long, is) =
    outcome_as (record t { cmd = Logplay }) _ _ _ _ words (made + 1) refl
    (ap (decision_note Logplay t.me words t.lines t.params (length (used t.kept Logplay t.params t.gate)))
    (entries_now Logplay t words t.gate tt refl h))
    (logplay_by (record t { cmd = Logplay }) words (made + 1)
    (decided_at t.params (shape_told (record t { cmd = Logplay }) words) (first_told (record t { cmd = Logplay }) words)
    (first_in (record t { cmd = Logplay })) (fed_gate words) t.gate (made + 1) (shape_told_is (record t { cmd = Logplay }) words t.gate h)
    (first_told_is (record t { cmd = Logplay }) words t.gate h) h.gated.gate_is (omega arith)) h.known)
decide_as Mount t words made (h, long, is) =
    outcome_as (record t { cmd = Mount }) _ _ _ _ words (made + 1) refl
    (ap (decision_note Mount t.me words t.lines t.params (length (used t.kept Mount t.params t.gate)))
    (entries_now Mount t words t.gate tt refl h))
    (mount_by (record t { cmd = Mount }) words (made + 1)
    (decided_at t.params (shape_told (record t { cmd = Mount }) words) (first_told (record t { cmd = Mount }) words)
    (first_in (record t { cmd = Mount })) (fed_gate words) t.gate (made + 1) (shape_told_is (record t { cmd = Mount }) words t.gate h)
    (first_told_is (record t { cmd = Mount }) words t.gate h) h.gated.gate_is (omega arith)) h.known)
decide_as (Check listing) t words made (h, long, is) =
    outcome_as (record t { cmd = Check listing }) _ _ _ _ words (made + 1) refl
    (ap (decision_note (Check listing) t.me words t.lines t.params (length (used t.kept (Check listing) t.params t.gate)))
    (entries_now (Check listing) t words t.gate tt refl h))
    (check_by (record t { cmd = Check listing }) words (made + 1)
    (decided_at t.params (shape_told (record t { cmd = Check listing }) words) (first_told (record t { cmd = Check listing }) words)
    (first_in (record t { cmd = Check listing })) (fed_gate words) t.gate (made + 1)
    (shape_told_is (record t { cmd = Check listing }) words t.gate h) (first_told_is (record t { cmd = Check listing }) words t.gate h)
    h.gated.gate_is (omega arith)) listing)
decide_as (Mkdir path attr) t words made (h, long, is) =
    outcome_as (record t { cmd = Mkdir path attr }) _ _ _ _ words (made + 1) refl
    (ap (decision_note (Mkdir path attr) t.me words t.lines t.params (length (used t.kept (Mkdir path attr) t.params t.gate)))
    (entries_now (Mkdir path attr) t words t.gate tt refl h))
    (wish_decides (record t { cmd = Mkdir path attr }) words (made + 1) h h.known (omega arith) _ refl)
decide_as (Creat path size attr stripe fill) t words made (h, long, is) =
    outcome_as (record t { cmd = Creat path size attr stripe fill }) _ _ _ _ words (made + 1) refl
    (ap (decision_note (Creat path size attr stripe fill) t.me words t.lines t.params
    (length (used t.kept (Creat path size attr stripe fill) t.params t.gate)))
    (entries_now (Creat path size attr stripe fill) t words t.gate tt refl h))
    (wish_decides (record t { cmd = Creat path size attr stripe fill }) words (made + 1) h h.known (omega arith) _ refl)
decide_as (Cp path attr stripe bytes) t words made (h, long, is) =
    outcome_as (record t { cmd = Cp path attr stripe bytes }) _ _ _ _ words (made + 1) refl
    (ap (decision_note (Cp path attr stripe bytes) t.me words t.lines t.params (length (used t.kept (Cp path attr stripe bytes) t.params t.gate)))
    (entries_now (Cp path attr stripe bytes) t words t.gate tt refl h))
    (wish_decides (record t { cmd = Cp path attr stripe bytes }) words (made + 1) h h.known (omega arith) _ refl)
decide_as (Verify path against) t words made (h, long, is) =
    outcome_as (record t { cmd = Verify path against }) _ _ _ _ words (made + 1) refl
    (ap (decision_note (Verify path against) t.me words t.lines t.params (length (used t.kept (Verify path against) t.params t.gate)))
    (entries_now (Verify path against) t words t.gate tt refl h))
    (verify_decides (record t { cmd = Verify path against }) path against words (made + 1) refl h h.known long (omega arith))
decide_as (Read path offset count) t words made (h, long, is) =
    outcome_as (record t { cmd = Read path offset count }) _ _ _ _ words (made + 1) refl
    (ap (decision_note (Read path offset count) t.me words t.lines t.params (length (used t.kept (Read path offset count) t.params t.gate)))
    (entries_now (Read path offset count) t words t.gate tt refl h))
    (read_decides (record t { cmd = Read path offset count }) path offset count words (made + 1) refl h h.known long (omega arith))

-- the decision, of every command
pub decide_step : (t : Task) (words : List ℕ) (made : ℕ) → TieAt at.Decide t words made
    → Outcome t (decide_turn t.cmd t)
    (decision_note t.cmd t.me words t.lines t.params (first_in t) (entries_read (fed_slots words t.params (used_in t) (fed_gate words)))) words
    (made + 1)
decide_step t words made h = decide_as t.cmd t words made h
