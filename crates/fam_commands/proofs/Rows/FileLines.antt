-- The rows of a file that is read.
use Rattle.std.proofs.Common.{ℕ, ◌≡◌, ◌<◌, ◌≤◌, ◌+◌, ◌*◌, ◌⊎◌, inl, inr, Bool, true, false, cond, List, [], ◌∷◌, ◌++◌, length, map, drop, Option, Some, refl, sym, ◌∙◌, ap, arith}
use Rattle.std.specs.Prelude.{slice_get, if◌then◌else◌, find, option_map}
use Rattle.std.proofs.lemmas.Bool.{cases_lt, and_from, lt-ltb}
use Rattle.std.proofs.lemmas.List.{append-nil}
use Rattle.fam_base.specs.declared.entry.Params.{Params}
use Rattle.fam_base.specs.declared.cmd.Cmd.{Cmd}
use Rattle.fam_base.specs.declared.cmd.Cmd.TheVariants.{Verify, Read}
use Rattle.fam_base.specs.declared.entry.Entry.{Entry}
use Rattle.fam_base.specs.declared.entry.Kind.{Kind}
use Rattle.fam_base.specs.declared.entry.Kind.TheVariants as kind
use Rattle.fam_base.specs.PathOrder.{path_eq}
use Rattle.fam_rules.specs.Asks as asks
use Rattle.fam_rules.specs.Asks.{file_at}
use Rattle.fam_rules.specs.Place.{line_bytes}
use Rattle.fam_rules.specs.Written.{file_line}
use Rattle.fam_machine.specs.declared.op.Op.TheVariants.{Load, Invalidate}
use Rattle.fam_commands.specs.declared.phase.Part.TheVariants.{File}
use Rattle.fam_commands.specs.declared.phase.Phase.TheVariants as at
use Rattle.fam_commands.specs.Task.{Task, first_in, line_of, size_of, first_line, wanted_lines, op_at}
use Rattle.fam_machine.specs.Operations.{line_no, load_ops}
use Rattle.fam_commands.specs.Table.{RowNote, Quiet, Row, rows, fed_file, fed_files, fits_content, reads_kind, reads_file, line_note, file_rows, wanted_rows, last_rows, table, words_before}
use Rattle.fam_commands.proofs.ListPlaces.{piece_at}
use Rattle.fam_commands.proofs.Rows.Numbered.{row, row_before, row_last, length-rows, load_word, if_below, if_past}
use Rattle.fam_commands.proofs.Rows.Head.{Here}
use Rattle.fam_commands.proofs.Rows.Slots.{ReadsLog, tail_at}
use Rattle.fam_commands.proofs.Steps.Ties.{TaskSlots, FileKnown, note_at, line_end, decided_and}

-- the first of a map is the map of the first
find-map_more : {A B : Type 0} (test : B → Bool) (f : A → B) (x : A) (xs : List A) (b : Bool)
    → find test (map f xs) ≡ option_map f (find (λ y. test (f y)) xs)
    → cond b (Some (f x)) (find test (map f xs)) ≡ option_map f (cond b (Some x) (find (λ y. test (f y)) xs))
find-map_more test f x xs true h = refl
find-map_more test f x xs false h = h

-- a search in a mapped list
pub find-map : {A B : Type 0} (test : B → Bool) (f : A → B) (xs : List A) → find test (map f xs) ≡ option_map f (find (λ x. test (f x)) xs)
find-map test f [] = refl
find-map test f (x ∷ xs) = find-map_more test f x xs (test (f x)) (find-map test f xs)

-- an entry with the bytes that the words tell
abbrev pub told_file : Cmd → List ℕ → Params → ℕ → List Entry → Entry → asks.File
told_file cmd words p first entries e = fed_file (drop (words_before p first (length entries)) words) (line_bytes * first_line cmd) e

-- the file at a path
pub told_at : (cmd : Cmd) (words : List ℕ) (p : Params) (first : ℕ) (entries : List Entry) (path : List ℕ)
    → file_at (fed_files words p first cmd entries) path ≡ option_map (told_file cmd words p first entries) (find (λ x. path_eq x.path path) entries)
told_at cmd words p first entries path = find-map (λ f. path_eq f.entry.path path) (told_file cmd words p first entries) entries

-- what comes behind the decision where a file is read
file_last : (cmd : Cmd) (words : List ℕ) (p : Params) (first : ℕ) (entries : List Entry) (wanted : Option asks.File) (f : asks.File) → wanted ≡ Some f
    → f.entry.kind ≡ kind.File → fits_content cmd f.entry.size ≡ true → 0 < wanted_lines cmd f.entry.size
    → (if reads_file cmd wanted then wanted_rows cmd words p first entries wanted else []) ≡ file_rows cmd words p first entries f.entry
file_last cmd words p first entries wanted f is file fits some =
    ap (λ (w : Option asks.File). if reads_file cmd w then wanted_rows cmd words p first entries w else []) is
    ∙ ap (λ (b : Bool). if b then file_rows cmd words p first entries f.entry else [])
    (ap (λ (k : Kind). reads_kind k cmd f.entry.size) file ∙ and_from _ _ fits (lt-ltb 0 (wanted_lines cmd f.entry.size) some))

-- the entry whose file is read, and the rows of its lines
pub record IsReading (cmd : Cmd) (entries : List Entry) (entry : Option Entry) : Type 0 where
  -- of a command that reads a file: it reads the log alone, and this file
  pub reads : ReadsLog cmd
  pub e : Entry
  pub is : entry ≡ Some e
  pub last : (me : List ℕ) (words : List ℕ) (p : Params) (first : ℕ) → last_rows cmd me words p first entries ≡ file_rows cmd words p first entries e

-- a task at a file reads this file
pub reading_of : (cmd : Cmd) (p : Params) (f gate : ℕ) (entries : List Entry) (entry : Option Entry) (words : List ℕ) (j : ℕ)
    → FileKnown cmd p f gate entries entry words j → IsReading cmd entries entry
reading_of (Verify path against) q f gate entries entry words j (e, chosen, same, long) =
    record {
      reads = tt;
      e = e;
      is = chosen.is;
      last = λ me ws p first. file_last (Verify path against) ws p first entries (file_at (fed_files ws p first (Verify path against) entries) path)
          (told_file (Verify path against) ws p first entries e)
          (told_at (Verify path against) ws p first entries path ∙ ap (option_map (told_file (Verify path against) ws p first entries)) chosen.found) chosen.file chosen.fits chosen.some;
    }
reading_of (Read path offset count) q f gate entries entry words j (e, chosen) =
    record {
      reads = tt;
      e = e;
      is = chosen.is;
      last = λ me ws p first. file_last (Read path offset count) ws p first entries
          (file_at (fed_files ws p first (Read path offset count) entries) path) (told_file (Read path offset count) ws p first entries e)
          (told_at (Read path offset count) ws p first entries path ∙ ap (option_map (told_file (Read path offset count) ws p first entries)) chosen.found) chosen.file chosen.fits chosen.some;
    }
reading_of cmd p f gate entries entry words j known = absurd known

line_width : (cmd : Cmd) (words : List ℕ) (p : Params) (first : ℕ) (entries : List Entry) (e : Entry) (j : ℕ)
    → length (rows (load_ops (file_line e (first_line cmd + j)) 8) (line_note cmd words p first entries (wanted_lines cmd e.size) j)) ≡ 9
line_width cmd words p first entries e j = length-rows (load_ops (file_line e (first_line cmd + j)) 8) (line_note cmd words p first entries (wanted_lines cmd e.size) j)

module _ (t : Task) (words more : List ℕ) (h : TaskSlots t words t.gate) (j : ℕ)
    (known : FileKnown t.cmd t.params (first_in t) t.gate t.entries t.entry words j) (within : j < wanted_lines t.cmd (size_of t.entry)) where
  -- the words with those to come, and what the row has
  abbrev now : List ℕ
  now = words ++ more

  chosen : IsReading t.cmd t.entries t.entry
  chosen = reading_of t.cmd t.params (first_in t) t.gate t.entries t.entry words j known

  abbrev line : ℕ
  line = file_line chosen.e (first_line t.cmd + j)

  abbrev note : RowNote
  note = line_note t.cmd now t.params (first_in t) t.entries (wanted_lines t.cmd chosen.e.size) j

  -- row r of line j
  line_at : (r m : ℕ) → r < 9 → m ≡ decided_and t.params (first_in t) t.gate 0 + (9 * j + r) → slice_get (table t.kept t.cmd t.me t.lines now) m ≡ slice_get (rows (load_ops line 8) note) r
  line_at r m small is =
      tail_at t words more (9 * j + r) m chosen.reads h is
      ∙ ap (λ (l : List Row). slice_get l (9 * j + r)) (chosen.last t.me now t.params (first_in t) ∙ sym (append-nil (file_rows t.cmd now t.params (first_in t) t.entries chosen.e)))
      ∙ piece_at (λ j. rows (load_ops (file_line chosen.e (first_line t.cmd + j)) 8)
      (line_note t.cmd now t.params (first_in t) t.entries (wanted_lines t.cmd chosen.e.size) j)) 9
      (line_width t.cmd now t.params (first_in t) t.entries chosen.e) (wanted_lines t.cmd chosen.e.size) j r (9 * j + r) []
      (omega (arith, ap (λ (o : Option Entry). wanted_lines t.cmd (size_of o)) chosen.is)) small refl

  -- a line of the file is dropped
  pub file_drop_row : (made : ℕ) → made ≡ decided_and t.params (first_in t) t.gate 0 + (9 * j + 0) → Here t words more made (op_at t (at.Drop File j)) Quiet
  file_drop_row made is =
      line_at 0 made (omega arith) is
      ∙ row_before (load_ops line 8) note 0 (Invalidate (line_no line)) (omega arith) refl
      ∙ ap (λ (o : Option Entry). Some (row (Invalidate (line_no (line_of o (first_line t.cmd + j)))) Quiet)) (sym chosen.is)

  -- a word of it is loaded
  pub file_word_row : (k made : ℕ) → k < 8 → made ≡ decided_and t.params (first_in t) t.gate 0 + (9 * j + (1 + k))
      → Here t words more made (op_at t (at.Word File j k)) (note_at (at.Word File j k) t now)
  file_word_row k made small is = line_at (1 + k) made (omega arith) is ∙ by_word (cases_lt k 7)
    where
      word : slice_get (load_ops line 8) (1 + k) ≡ Some (Load (line_no line) k)
      word = load_word line k small

      back : (n : RowNote) → Some (row (Load (line_no line) k) n) ≡ Some (row (op_at t (at.Word File j k)) n)
      back n = ap (λ (o : Option Entry). Some (row (Load (line_no (line_of o (first_line t.cmd + j))) k) n)) (sym chosen.is)

      by_word : (k < 7) ⊎ (7 ≤ k) → slice_get (rows (load_ops line 8) note) (1 + k) ≡ Some (row (op_at t (at.Word File j k)) (note_at (at.Word File j k) t now))
      by_word (inl less) =
          row_before (load_ops line 8) note (1 + k) _ (let z : 1 + k + 1 < 9 = omega arith in z) word
          ∙ back Quiet
          ∙ ap (λ (n : RowNote). Some (row (op_at t (at.Word File j k)) n)) (sym (if_below k 7 Quiet (line_end File t now j) less))
      by_word (inr past) =
          row_last (load_ops line 8) note (1 + k) _ (let z : 1 + k + 1 ≡ 9 = omega arith in z) word
          ∙ back note
          ∙ ap (λ (o : Option Entry). Some (row (op_at t (at.Word File j k)) (line_note t.cmd now t.params (first_in t) t.entries (wanted_lines t.cmd (size_of o)) j))) (sym chosen.is)
          ∙ ap (λ (n : RowNote). Some (row (op_at t (at.Word File j k)) n)) (sym (if_past k 7 Quiet (line_end File t now j) past))
