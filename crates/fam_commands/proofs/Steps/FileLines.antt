-- What comes of the lines of a file.
use Rattle.std.proofs.Common.{ℕ, ◌≡◌, ◌<◌, ◌≤◌, ◌+◌, ◌-◌, ◌*◌, ◌/◌, ◌%◌, inl, inr, true, List, [], length, map, drop, Option, Some, None, refl, sym, ◌∙◌, ap, subst, arith}
use Rattle.std.specs.Prelude.{find, nat_lt, if◌then◌else◌, ◌==◌, min, slice_index, option_map}
use Rattle.std.specs.List.{range_with_len}
use Rattle.std.proofs.lemmas.Bool.{cases_lt, cond-true}
use Rattle.std.proofs.lemmas.List.{drop_all}
use Rattle.fam_base.specs.declared.cmd.Cmd.{Cmd}
use Rattle.fam_base.specs.declared.cmd.Cmd.TheVariants.{Verify, Read}
use Rattle.fam_base.specs.declared.cmd.Content.{Content}
use Rattle.fam_base.specs.declared.cmd.Content.TheVariants as content
use Rattle.fam_base.specs.declared.entry.Entry.{Entry}
use Rattle.fam_base.specs.declared.entry.Kind.{Kind}
use Rattle.fam_base.specs.declared.entry.Kind.TheVariants as kind
use Rattle.fam_base.specs.PathOrder.{path_eq}
use Rattle.fam_rules.specs.Asks as asks
use Rattle.fam_rules.specs.Asks.{file_at, first_difference, compared_at, compared, verified, file_bytes_from, of_kind, of_file, ask}
use Rattle.fam_rules.specs.Content.{byte_in, content_byte}
use Rattle.fam_rules.specs.Reply as reply
use Rattle.fam_rules.specs.Reply.{Reply}
use Rattle.fam_commands.specs.declared.phase.Part.TheVariants.{File}
use Rattle.fam_commands.specs.declared.phase.Phase.TheVariants as at
use Rattle.fam_commands.specs.Kept.{used}
use Rattle.fam_commands.proofs.Steps.UsedTold.{first_told, first_told_is, used_told_by, shape_told, shape_told_is}
use Rattle.fam_commands.specs.Task.{Task, size_of, wanted_lines}
use Rattle.fam_commands.specs.Turns.{Goes, Ends, line_difference, compare_turn, loaded_bytes, file_turn, line_turn}
use Rattle.fam_commands.specs.Table.{RowNote, Quiet, Answer, fed_gate, fed_files, fits_content, answer_or, early_note, line_note, words_before}
use Rattle.fam_commands.proofs.Rows.Numbered.{if_below, if_past}
use Rattle.fam_commands.proofs.Rows.FileLines.{told_file, told_at}
use Rattle.fam_commands.proofs.Steps.Decide.{verify_lines_are, count_of_files}
use Rattle.fam_commands.proofs.Finds.{IsSearched, searched}
use Rattle.fam_commands.proofs.Comparisons.{byte_of_line, bytes_by, length-bytes, byte_told, line_differs, no_difference, late_difference, line_difference_found, same_more, wanted_bytes}
use Rattle.fam_commands.specs.Counts.{file_lines, told_entries}
use Rattle.fam_commands.proofs.Counted.Files.{with_lines, up_to_line, told_are, verify_file_lines, read_file_lines}
use Rattle.fam_commands.proofs.Steps.Outcomes.{Outcome, outcome_as, goes_on, ends, by_less, in_part}
use Rattle.fam_commands.proofs.Steps.Ties.{AreRead, TaskSlots, IsChosen, IsSame, FileKnown, InPart, line_end, decided_and, words_to}
use Rattle.fam_base.specs.declared.entry.Params.{Params}

-- What is asked of the words.

verified_is : (path : List ℕ) (against : Content) (m : ℕ) (bytes : List ℕ) → fits_content (Verify path against) (length bytes) ≡ true → verified m bytes against ≡ compared m bytes against
verified_is path (content.Bytes given) m bytes fits = cond-true (length given == length bytes) (compared m bytes (content.Bytes given)) (reply.Length m (length bytes) (length given)) fits
verified_is path (content.Seed seed) m bytes fits = refl
verified_is path content.Zero m bytes fits = refl

-- a question about the file at a path
asked : (cmd : Cmd) (path : List ℕ) (words : List ℕ) (p : Params) (f : ℕ) (entries : List Entry) (e : Entry) (question : ℕ → List ℕ → Reply)
    → find (λ x. path_eq x.path path) entries ≡ Some e → e.kind ≡ kind.File
    → of_file (length (fed_files words p f cmd entries)) (file_at (fed_files words p f cmd entries) path)
    (question (length (fed_files words p f cmd entries))) ≡ question (length entries) (told_file cmd words p f entries e).bytes
asked cmd path words p f entries e question found file =
    ap (λ (x : Option asks.File). of_file (length (fed_files words p f cmd entries)) x (question (length (fed_files words p f cmd entries))))
    (told_at cmd words p f entries path ∙ ap (option_map (told_file cmd words p f entries)) found)
    ∙ ap (λ (n : ℕ). of_kind n e.kind (question n (told_file cmd words p f entries e).bytes)) (count_of_files cmd words p f entries)
    ∙ ap (λ (k : Kind). of_kind (length entries) k (question (length entries) (told_file cmd words p f entries e).bytes)) file

-- The note of a line, by the answer to the question.

-- an answer that is noted with the last line, or at a difference before
abbrev note_by : ℕ → ℕ → Reply → RowNote
note_by count j answer = if nat_lt (j + 1) count then early_note (64 * (j + 1)) (Some answer) else Answer answer

note_is : (cmd : Cmd) (words : List ℕ) (p : Params) (f : ℕ) (entries : List Entry) (count j : ℕ) (answer : Reply)
    → ask (fed_files words p f cmd entries) cmd ≡ Some answer → line_note cmd words p f entries count j ≡ note_by count j answer
note_is cmd words p f entries count j answer is = ap (λ (a : Option Reply). if nat_lt (j + 1) count then early_note (64 * (j + 1)) a else answer_or a) is

-- a difference in this line is noted, whether the line is the last one or not
difference_noted : (count j m o found wanted : ℕ) → o < 64 * (j + 1) → note_by count j (reply.Differs m o found wanted) ≡ Answer (reply.Differs m o found wanted)
difference_noted count j m o found wanted below =
    elim (cases_lt (j + 1) count) [
      | inl less ↦
          if_below (j + 1) count _ (Answer (reply.Differs m o found wanted)) less
          ∙ if_below o (64 * (j + 1)) (Answer (reply.Differs m o found wanted)) Quiet below
      | inr past ↦ if_past (j + 1) count (early_note (64 * (j + 1)) (Some (reply.Differs m o found wanted))) _ past
    ]

-- where no line up to this one has a difference, nothing is noted yet
quiet_before : (m : ℕ) (bytes : List ℕ) (against : Content) (end : ℕ) (r : Option ℕ) → ((o : ℕ) → r ≡ Some o → end ≤ o) → early_note end (Some (compared_at m bytes against r)) ≡ Quiet
quiet_before m bytes against end None late = refl
quiet_before m bytes against end (Some o) late = if_past o end (Answer (reply.Differs m o (slice_index bytes o) (content_byte against o))) Quiet (late o refl)

-- A line that is compared.

module _ (t : Task) (path : List ℕ) (against : Content) (e : Entry) (words : List ℕ) (j made : ℕ) where
  -- the first slot that is read
  abbrev from : ℕ
  from = length (used t.kept (Verify path against) t.params t.gate)

  -- the first word of the file, among those that were loaded
  abbrev first : ℕ
  first = words_to t.params from t.gate

  -- short names, while a file is compared
  abbrev cmd : Cmd
  cmd = Verify path against

  abbrev now : Task
  now = record t { cmd = cmd; entry = Some e; words = drop (first + 8 * j) words }

  abbrev all : List ℕ
  all = bytes_by (drop first words) 0 e.size

  abbrev m : ℕ
  m = length t.entries

  module _ (h : TaskSlots now words t.gate) (read : AreRead t.params (used t.kept cmd t.params t.gate) t.entries words t.gate)
      (chosen : IsChosen cmd path t.entries (Some e) e) (same : IsSame against e (drop first words) j) (within : j < wanted_lines cmd e.size)
      (long : length words ≡ first + (8 * j + 8)) (is : made ≡ decided_and t.params from t.gate 0 + (9 * j + 9)) where
    ask_is : ask (fed_files words t.params from cmd t.entries) cmd ≡ Some (compared m all against)
    ask_is =
        ap Some
        (asked cmd path words t.params from t.entries e (λ n bytes. verified n bytes against) chosen.found chosen.file
        ∙ ap (λ (n : ℕ). verified m (bytes_by (drop n words) 0 e.size) against) (ap (words_before t.params from) read.count)
        ∙ verified_is path against m all (ap (fits_content cmd) (length-bytes (drop first words) 0 e.size) ∙ chosen.fits))

    found_in_line : (b : ℕ) → IsSearched (line_differs against e words first j) 0 (min 64 (e.size - 64 * j)) (Some b)
        → Outcome now (compare_turn now against j (Some b)) (note_by (wanted_lines cmd e.size) j (compared m all against)) words made
    found_in_line b found =
        let below = found.below in
        let inside : 64 * j + b < e.size = omega arith in
        ends now (reply.Differs m (64 * j + b) (byte_in (drop (first + 8 * j) words) b) (content_byte against (64 * j + b))) _ words made
        (ap (λ (r : Option ℕ). note_by (wanted_lines cmd e.size) j (compared_at m all against r)) (line_difference_found against e words first j b same found)
        ∙ ap (λ (x : ℕ). note_by (wanted_lines cmd e.size) j (reply.Differs m (64 * j + b) x (content_byte against (64 * j + b))))
        (byte_told against e words first (64 * j + b) inside ∙ sym (byte_of_line words first j b))
        ∙ difference_noted (wanted_lines cmd e.size) j m (64 * j + b) (byte_in (drop (first + 8 * j) words) b) (content_byte against (64 * j + b)) (omega arith))
        (up_to_line t.params (shape_told now words) (first_told now words) from (fed_gate words) t.gate j b made (shape_told_is now words t.gate h)
        (first_told_is now words t.gate h) h.gated.gate_is (omega arith) is)

    none_in_line : IsSearched (line_differs against e words first j) 0 (min 64 (e.size - 64 * j)) None
        → Outcome now (compare_turn now against j None) (note_by (wanted_lines cmd e.size) j (compared m all against)) words made
    none_in_line none =
        let more : IsSame against e (drop first words) (j + 1) = same_more against e words first j same none in
        by_less now (j + 1) (wanted_lines cmd e.size) (Goes (record now { words = []; phase = at.Drop File (j + 1) })) (Ends (reply.Same m))
        (early_note (64 * (j + 1)) (Some (compared m all against))) (Answer (compared m all against)) words made
        (λ less.
        outcome_as now _ (Goes (record now { words = []; phase = at.Drop File (j + 1) })) _ Quiet words made refl
        (quiet_before m all against (64 * (j + 1)) (first_difference all against) (λ o at_o. late_difference against e words first (j + 1) o more at_o))
        (goes_on now (record now { words = []; phase = at.Drop File (j + 1) }) words made refl refl refl refl
        (in_part File now [] (at.Drop File (j + 1)) words (j + 1) 0 0 made (h, (e, chosen, more, omega arith)) less (omega arith)
        (sym (drop_all (first + 8 * (j + 1)) words (omega arith))) (omega arith))))
        (λ past.
        ends now (reply.Same m) _ words made
        (ap (λ (r : Option ℕ). Answer (compared_at m all against r)) (no_difference against e words first (j + 1) more (omega (arith, verify_lines_are path against e.size))))
        (with_lines t.params (shape_told now words) (first_told now words) from (fed_gate words) t.gate
        (file_lines cmd (told_entries (used_told_by now words) words t.lines)) (wanted_lines cmd e.size) made (shape_told_is now words t.gate h)
        (first_told_is now words t.gate h) h.gated.gate_is
        (verify_file_lines path against t.entries (told_entries (used_told_by now words) words t.lines) e
        (told_are t.kept cmd t.me t.lines t.params t.gate t.entries t.survey words tt h) read.lookups chosen.found) (omega arith)))

    by_line : (r : Option ℕ) → IsSearched (line_differs against e words first j) 0 (min 64 (e.size - 64 * j)) r
        → Outcome now (compare_turn now against j r) (note_by (wanted_lines cmd e.size) j (compared m all against)) words made
    by_line (Some b) found = found_in_line b found
    by_line None none = none_in_line none

    verify_line : Outcome now (file_turn cmd now j) (line_note cmd words t.params from t.entries (wanted_lines cmd e.size) j) words made
    verify_line =
        outcome_as now _ (file_turn cmd now j) _ (note_by (wanted_lines cmd e.size) j (compared m all against)) words made refl
        (note_is cmd words t.params from t.entries (wanted_lines cmd e.size) j (compared m all against) ask_is)
        (by_line (line_difference now against j) (searched (line_differs against e words first j) (min 64 (e.size - 64 * j)) 0))

-- A line that is read.

module _ (t : Task) (path : List ℕ) (offset count : ℕ) (e : Entry) (words : List ℕ) (j made : ℕ) where
  -- short names, while a file is read
  abbrev begin : ℕ
  begin = length (used t.kept (Read path offset count) t.params t.gate)

  abbrev start : ℕ
  start = words_to t.params begin t.gate

  abbrev ask_cmd : Cmd
  ask_cmd = Read path offset count

  abbrev here : Task
  here = record t { cmd = ask_cmd; entry = Some e; words = drop (start + 0) words }

  abbrev wanted : List ℕ
  wanted = file_bytes_from offset count (bytes_by (drop start words) (64 * (offset / 64)) e.size)

  read_line : TaskSlots here words t.gate → AreRead t.params (used t.kept ask_cmd t.params t.gate) t.entries words t.gate
      → IsChosen ask_cmd path t.entries (Some e) e → j < wanted_lines ask_cmd e.size → length words ≡ start + (8 * j + 8)
      → made ≡ decided_and t.params begin t.gate 0 + (9 * j + 9)
      → Outcome here (file_turn ask_cmd here j) (line_note ask_cmd words t.params begin t.entries (wanted_lines ask_cmd e.size) j) words made
  read_line h read chosen within long is =
      outcome_as here _ (file_turn ask_cmd here j) _ (note_by (wanted_lines ask_cmd e.size) j (reply.Bytes (length t.entries) wanted)) words made refl
      (note_is ask_cmd words t.params begin t.entries (wanted_lines ask_cmd e.size) j (reply.Bytes (length t.entries) wanted)
      (ap Some (asked ask_cmd path words t.params begin t.entries e (λ n bytes. reply.Bytes n (file_bytes_from offset count bytes)) chosen.found chosen.file
      ∙ ap (λ (n : ℕ). reply.Bytes (length t.entries) (file_bytes_from offset count (bytes_by (drop n words) (64 * (offset / 64)) e.size))) (ap (words_before t.params begin) read.count))))
      (by_less here (j + 1) (wanted_lines ask_cmd e.size) (Goes (record here { phase = at.Drop File (j + 1) }))
      (Ends (reply.Bytes (length t.entries) (loaded_bytes here offset))) Quiet (Answer (reply.Bytes (length t.entries) wanted)) words made
      (λ less.
      goes_on here (record here { phase = at.Drop File (j + 1) }) words made refl refl refl refl
      (in_part File here (drop (start + 0) words) (at.Drop File (j + 1)) words (j + 1) 0 0 made (h, (e, chosen)) less (omega arith) refl (omega arith)))
      (λ past.
      ends here (reply.Bytes (length t.entries) (loaded_bytes here offset)) _ words made
      (ap (λ (b : List ℕ). Answer (reply.Bytes (length t.entries) b))
      (wanted_bytes (drop start words) offset count e.size
      ∙ ap (λ (n : ℕ). map (λ i. byte_in (drop n words) (offset % 64 + i)) (range_with_len 0 (min e.size (offset + count) - offset))) (let z : start ≡ start + 0 = omega arith in z)))
      (with_lines t.params (shape_told here words) (first_told here words) begin (fed_gate words) t.gate
      (file_lines ask_cmd (told_entries (used_told_by here words) words t.lines)) (wanted_lines ask_cmd e.size) made
      (shape_told_is here words t.gate h) (first_told_is here words t.gate h) h.gated.gate_is
      (read_file_lines path offset count t.entries (told_entries (used_told_by here words) words t.lines) e
      (told_are t.kept ask_cmd t.me t.lines t.params t.gate t.entries t.survey words tt h) read.lookups chosen.found) (omega arith))))

-- Either.

file_as : (cmd : Cmd) (t : Task) (words : List ℕ) (j made : ℕ) → InPart File (record t { cmd = cmd }) words j 8 9 made
    → Outcome (record t { cmd = cmd }) (file_turn cmd (record t { cmd = cmd }) j)
    (line_note cmd words t.params (length (used t.kept cmd t.params t.gate)) t.entries (wanted_lines cmd (size_of t.entry)) j) words made
file_as (Verify path against) t words j made h =
    let known : FileKnown (Verify path against) t.params (length (used t.kept (Verify path against) t.params t.gate)) t.gate t.entries t.entry words j = h.known.1 in
    let is : t.entry ≡ Some known.0 = known.1.is in
    let chosen : IsChosen (Verify path against) path t.entries (Some known.0) known.0 = record { is = refl; found = known.1.found; file = known.1.file; fits = known.1.fits; some = known.1.some } in
    subst (λ (o : Option Entry). Outcome (record t { cmd = Verify path against; entry = o })
    (file_turn (Verify path against) (record t { cmd = Verify path against; entry = o }) j)
    (line_note (Verify path against) words t.params (length (used t.kept (Verify path against) t.params t.gate)) t.entries
    (wanted_lines (Verify path against) (size_of o)) j) words made) (sym is)
    (subst (λ (w : List ℕ). Outcome (record t { cmd = Verify path against; entry = Some known.0; words = w })
    (file_turn (Verify path against) (record t { cmd = Verify path against; entry = Some known.0; words = w }) j)
    (line_note (Verify path against) words t.params (length (used t.kept (Verify path against) t.params t.gate)) t.entries
    (wanted_lines (Verify path against) known.0.size) j) words made) (sym h.held)
    (verify_line t path against known.0 words j made h.known.0 h.known.0.known chosen known.2
    (subst (λ (o : Option Entry). j < wanted_lines (Verify path against) (size_of o)) is h.within) h.long h.made_is))
file_as (Read path offset count) t words j made h =
    let known : FileKnown (Read path offset count) t.params (length (used t.kept (Read path offset count) t.params t.gate)) t.gate t.entries t.entry words j = h.known.1 in
    let is : t.entry ≡ Some known.0 = known.1.is in
    let chosen : IsChosen (Read path offset count) path t.entries (Some known.0) known.0 = record { is = refl; found = known.1.found; file = known.1.file; fits = known.1.fits; some = known.1.some } in
    subst (λ (o : Option Entry). Outcome (record t { cmd = Read path offset count; entry = o })
    (file_turn (Read path offset count) (record t { cmd = Read path offset count; entry = o }) j)
    (line_note (Read path offset count) words t.params (length (used t.kept (Read path offset count) t.params t.gate)) t.entries
    (wanted_lines (Read path offset count) (size_of o)) j) words made) (sym is)
    (subst (λ (w : List ℕ). Outcome (record t { cmd = Read path offset count; entry = Some known.0; words = w })
    (file_turn (Read path offset count) (record t { cmd = Read path offset count; entry = Some known.0; words = w }) j)
    (line_note (Read path offset count) words t.params (length (used t.kept (Read path offset count) t.params t.gate)) t.entries
    (wanted_lines (Read path offset count) known.0.size) j) words made) (sym h.held)
    (read_line t path offset count known.0 words j made h.known.0 h.known.0.known chosen
    (subst (λ (o : Option Entry). j < wanted_lines (Read path offset count) (size_of o)) is h.within) h.long h.made_is))
file_as other t words j made h = absurd h.known.1

-- a line of a file is loaded whole
pub file_line_step : (t : Task) (words : List ℕ) (j made : ℕ) → InPart File t words j 8 9 made → Outcome t (line_turn t File j) (line_end File t words j) words made
file_line_step t words j made h = file_as t.cmd t words j made h
