-- The rows of superblock, header and gate.
use Rattle.std.proofs.Common.{ℕ, ◌≡◌, ◌<◌, ◌+◌, ◌*◌, inl, inr, Option, List, [], ◌∷◌, ◌++◌, length, Some, refl, sym, ◌∙◌, ap, arith}
use Rattle.std.specs.Prelude.{slice_get, slice_index}
use Rattle.std.proofs.lemmas.Bool.{cases_lt}
use Rattle.std.proofs.lemmas.List.{append_assoc}
use Rattle.fam_base.specs.declared.cmd.Cmd.{Cmd}
use Rattle.fam_base.specs.declared.entry.Params.{Params}
use Rattle.fam_format.specs.Layout.{log_line, gate_line}
use Rattle.fam_format.specs.Super.{magic_fault}
use Rattle.fam_format.specs.Log.{log_fault, gate_fault}
use Rattle.fam_machine.specs.declared.op.Op.{Op}
use Rattle.fam_machine.specs.declared.op.Op.TheVariants.{Load, Invalidate}
use Rattle.fam_commands.specs.declared.phase.Part.TheVariants.{Superblock, Header}
use Rattle.fam_commands.specs.declared.phase.Phase.TheVariants as at
use Rattle.fam_commands.specs.Kept.{Kept}
use Rattle.fam_commands.specs.Task.{Task, no_params, op_at}
use Rattle.fam_machine.specs.Operations.{line_no, load_ops}
use Rattle.fam_commands.specs.Table.{RowNote, Quiet, Mark, Row, rows, fed_super, fed_gate, magic_note, super_note, header_note, gate_note, body_rows, params_or, table, fed_head}
use Rattle.fam_commands.proofs.ListPlaces.{get-append_left, get-append_right}
use Rattle.fam_commands.proofs.Rows.Numbered.{row, row_before, row_last, drop_at, word_at, if_below, if_past}
use Rattle.fam_commands.proofs.Steps.TieStays.{has_super_stays}
use Rattle.fam_commands.proofs.Steps.Ties.{HasSuper, HasHeader, note_at, line_end}

-- a row of a table
abbrev pub HasRow : List Row → ℕ → Op → RowNote → Type 0
HasRow table made op note = slice_get table made ≡ Some (row op note)

-- Five pieces and a rest.

module _ {A : Type 0} (a b c d e rest : List A) where
  flat : ((((a ++ b) ++ c) ++ d) ++ e) ++ rest ≡ a ++ (b ++ (c ++ (d ++ (e ++ rest))))
  flat = simp append_assoc

  -- a place in the first of five pieces
  pub in_first : (k : ℕ) → k < length a → slice_get (((((a ++ b) ++ c) ++ d) ++ e) ++ rest) k ≡ slice_get a k
  in_first k below = ap (λ (l : List A). slice_get l k) flat ∙ get-append_left a _ k below

  -- in the second
  pub in_second : (n k m : ℕ) → length a ≡ n → k < length b → m ≡ n + k → slice_get (((((a ++ b) ++ c) ++ d) ++ e) ++ rest) m ≡ slice_get b k
  in_second n k m one below is = ap (λ (l : List A). slice_get l m) flat ∙ get-append_right a _ n k m one is ∙ get-append_left b _ k below

  -- in the third
  pub in_third : (n k m : ℕ) → length a + length b ≡ n → k < length c → m ≡ n + k → slice_get (((((a ++ b) ++ c) ++ d) ++ e) ++ rest) m ≡ slice_get c k
  in_third n k m two below is =
      ap (λ (l : List A). slice_get l m) flat
      ∙ get-append_right a _ (length a) (length b + k) m refl (omega arith)
      ∙ get-append_right b _ (length b) k (length b + k) refl refl
      ∙ get-append_left c _ k below

  -- in the fourth
  pub in_fourth : (n k m : ℕ) → length a + length b + length c ≡ n → k < length d → m ≡ n + k → slice_get (((((a ++ b) ++ c) ++ d) ++ e) ++ rest) m ≡ slice_get d k
  in_fourth n k m three below is =
      ap (λ (l : List A). slice_get l m) flat
      ∙ get-append_right a _ (length a) (length b + (length c + k)) m refl (omega arith)
      ∙ get-append_right b _ (length b) (length c + k) (length b + (length c + k)) refl refl
      ∙ get-append_right c _ (length c) k (length c + k) refl refl
      ∙ get-append_left d _ k below

  -- in the fifth
  pub in_fifth : (n k m : ℕ) → length a + length b + length c + length d ≡ n → k < length e → m ≡ n + k → slice_get (((((a ++ b) ++ c) ++ d) ++ e) ++ rest) m ≡ slice_get e k
  in_fifth n k m four below is =
      ap (λ (l : List A). slice_get l m) flat
      ∙ get-append_right a _ (length a) (length b + (length c + (length d + k))) m refl (omega arith)
      ∙ get-append_right b _ (length b) (length c + (length d + k)) (length b + (length c + (length d + k))) refl refl
      ∙ get-append_right c _ (length c) (length d + k) (length c + (length d + k)) refl refl
      ∙ get-append_right d _ (length d) k (length d + k) refl refl
      ∙ get-append_left e _ k below

  -- and behind them
  pub behind_five : (n k m : ℕ) → length a + length b + length c + length d + length e ≡ n → m ≡ n + k → slice_get (((((a ++ b) ++ c) ++ d) ++ e) ++ rest) m ≡ slice_get rest k
  behind_five n k m five is =
      ap (λ (l : List A). slice_get l m) flat
      ∙ get-append_right a _ (length a) (length b + (length c + (length d + (length e + k)))) m refl (omega arith)
      ∙ get-append_right b _ (length b) (length c + (length d + (length e + k))) (length b + (length c + (length d + (length e + k)))) refl refl
      ∙ get-append_right c _ (length c) (length d + (length e + k)) (length c + (length d + (length e + k))) refl refl
      ∙ get-append_right d _ (length d) (length e + k) (length d + (length e + k)) refl refl
      ∙ get-append_right e _ (length e) k (length e + k) refl refl

-- The table's head, by the parameters that the words tell.

module _ (kept : Option Kept) (cmd : Cmd) (me : List ℕ) (lines : ℕ) (words : List ℕ) where
  -- the parameters that the words tell
  abbrev pub told : Params
  told = params_or no_params (fed_super words lines)

  -- the five pieces of the table before the slots
  abbrev pub magic_piece : List Row
  magic_piece = rows (load_ops 0 1) (magic_note cmd words lines (magic_fault (slice_index words 0)))

  abbrev pub super_piece : List Row
  super_piece = rows (load_ops 1 8 ++ load_ops 2 8) (super_note cmd me words lines (fed_super words lines))

  abbrev pub header_piece : List Row
  header_piece = rows (load_ops log_line 8) (header_note cmd words lines (log_fault (fed_head words log_line) told))

  abbrev pub mark_piece : List Row
  mark_piece = rows (Invalidate (line_no gate_line) ∷ []) Mark

  abbrev pub gate_piece : List Row
  gate_piece = rows (Load (line_no gate_line) 0 ∷ []) (gate_note cmd words lines (gate_fault (fed_gate words) told))

  -- and what comes behind them
  abbrev pub body : List Row
  body = body_rows kept cmd me lines words told

  -- the rows of the magic
  pub magic_rows : (k : ℕ) → k < 2 → slice_get (table kept cmd me lines words) k ≡ slice_get magic_piece k
  magic_rows k below = in_first magic_piece super_piece header_piece mark_piece gate_piece body k below

  -- of the superblock
  pub super_rows : (k m : ℕ) → k < 18 → m ≡ 2 + k → slice_get (table kept cmd me lines words) m ≡ slice_get super_piece k
  super_rows k m below is = in_second magic_piece super_piece header_piece mark_piece gate_piece body 2 k m refl below is

  -- of the header
  pub header_rows : (k m : ℕ) → k < 9 → m ≡ 20 + k → slice_get (table kept cmd me lines words) m ≡ slice_get header_piece k
  header_rows k m below is = in_third magic_piece super_piece header_piece mark_piece gate_piece body 20 k m refl below is

  -- of the mark
  pub mark_rows : slice_get (table kept cmd me lines words) 29 ≡ slice_get mark_piece 0
  mark_rows = in_fourth magic_piece super_piece header_piece mark_piece gate_piece body 29 0 29 refl (omega arith) refl

  -- and of the gate
  pub gate_rows : slice_get (table kept cmd me lines words) 30 ≡ slice_get gate_piece 0
  gate_rows = in_fifth magic_piece super_piece header_piece mark_piece gate_piece body 30 0 30 refl (omega arith) refl

  -- what stands behind the head
  pub behind_head : (k m : ℕ) → m ≡ 31 + k → slice_get (table kept cmd me lines words) m ≡ slice_get body k
  behind_head k m is = behind_five magic_piece super_piece header_piece mark_piece gate_piece body 31 k m refl is

-- The row of each place of the head, also with more words.

-- a row by its number, whose note is another spelling of the one that the table has
pub as_row : (table : List Row) (made m : ℕ) (op : Op) (note other : RowNote) → made ≡ m → slice_get table m ≡ Some (row op note) → note ≡ other → HasRow table made op other
as_row table made m op note other at is same = ap (λ (k : ℕ). slice_get table k) at ∙ is ∙ ap (λ (n : RowNote). Some (row op n)) same

-- the parameters that longer words tell
pub told_is : (kept : Option Kept) (cmd : Cmd) (me : List ℕ) (lines : ℕ) (p : Params) (words : List ℕ) → HasSuper cmd me lines p words → told kept cmd me lines words ≡ p
told_is kept cmd me lines p words h = ap (params_or no_params) h.super

module _ (t : Task) (words more : List ℕ) where
  -- the words with those to come, and the table that they make
  abbrev now : List ℕ
  now = words ++ more

  abbrev whole : List Row
  whole = table t.kept t.cmd t.me t.lines now

  -- the table has this operation and note at this place
  abbrev pub Here : ℕ → Op → RowNote → Type 0
  Here made op note = HasRow (table t.kept t.cmd t.me t.lines (words ++ more)) made op note

  -- line 0 is dropped
  pub drop_magic_row : (made : ℕ) → made ≡ 0 → Here made (op_at t at.DropMagic) Quiet
  drop_magic_row made is = as_row whole made 0 _ Quiet Quiet is (magic_rows t.kept t.cmd t.me t.lines now 0 (omega arith)) refl

  -- the magic is loaded
  pub magic_row : (made : ℕ) → made ≡ 1 → Here made (op_at t at.Magic) (note_at at.Magic t now)
  magic_row made is = as_row whole made 1 _ _ _ is (magic_rows t.kept t.cmd t.me t.lines now 1 (omega arith)) refl

  -- a line of the superblock is dropped
  pub super_drop_row : (j made : ℕ) → j < 2 → made ≡ 2 + (9 * j + 0) → Here made (op_at t (at.Drop Superblock j)) Quiet
  super_drop_row j made below is =
      super_rows t.kept t.cmd t.me t.lines now (9 * j) made (omega arith) (omega arith)
      ∙ row_before (load_ops 1 8 ++ load_ops 2 8) _ (9 * j) _ (let z : 9 * j + 1 < 18 = omega arith in z) (drop_at (λ j. 1 + j) 2 j (9 * j) [] below refl)

  -- a word of it is loaded
  pub super_word_row : (j k made : ℕ) → j < 2 → k < 8 → made ≡ 2 + (9 * j + (1 + k)) → Here made (op_at t (at.Word Superblock j k)) (note_at (at.Word Superblock j k) t now)
  super_word_row j k made below small is =
      super_rows t.kept t.cmd t.me t.lines now (9 * j + (1 + k)) made (omega arith) is
      ∙ elim (cases_lt k 7) [
        | inl less ↦
            row_before (load_ops 1 8 ++ load_ops 2 8) _ (9 * j + (1 + k)) _ (let z : 9 * j + (1 + k) + 1 < 18 = omega arith in z) word
            ∙ ap (λ (n : RowNote). Some (row (op_at t (at.Word Superblock j k)) n)) (sym (if_below k 7 Quiet (line_end Superblock t now j) less))
        | inr seven ↦
            elim (cases_lt (j + 1) 2) [
              | inl first ↦
                  row_before (load_ops 1 8 ++ load_ops 2 8) _ (9 * j + (1 + k)) _ (let z : 9 * j + (1 + k) + 1 < 18 = omega arith in z) word
                  ∙ ap (λ (n : RowNote). Some (row (op_at t (at.Word Superblock j k)) n)) (sym (if_past k 7 Quiet (line_end Superblock t now j) seven ∙ if_below (j + 1) 2 Quiet _ first))
              | inr last ↦
                  row_last (load_ops 1 8 ++ load_ops 2 8) _ (9 * j + (1 + k)) _ (let z : 9 * j + (1 + k) + 1 ≡ 18 = omega arith in z) word
                  ∙ ap (λ (n : RowNote). Some (row (op_at t (at.Word Superblock j k)) n)) (sym (if_past k 7 Quiet (line_end Superblock t now j) seven ∙ if_past (j + 1) 2 Quiet _ last))
            ]
      ]
    where
      word : slice_get (load_ops 1 8 ++ load_ops 2 8) (9 * j + (1 + k)) ≡ Some (Load (line_no (1 + j)) k)
      word = word_at (λ j. 1 + j) 2 j k (9 * j + (1 + k)) [] below small refl

  -- the header is dropped
  pub header_drop_row : (j made : ℕ) → j < 1 → made ≡ 20 + (9 * j + 0) → Here made (op_at t (at.Drop Header j)) Quiet
  header_drop_row j made below is =
      header_rows t.kept t.cmd t.me t.lines now (9 * j) made (omega arith) (omega arith)
      ∙ row_before (load_ops log_line 8) _ (9 * j) _ (let z : 9 * j + 1 < 9 = omega arith in z) (drop_at (λ j. log_line) 1 j (9 * j) [] below refl)

  -- a word of it is loaded
  pub header_word_row : (j k made : ℕ) → HasSuper t.cmd t.me t.lines t.params words → j < 1 → k < 8 → made ≡ 20 + (9 * j + (1 + k))
      → Here made (op_at t (at.Word Header j k)) (note_at (at.Word Header j k) t now)
  header_word_row j k made h below small is =
      header_rows t.kept t.cmd t.me t.lines now (9 * j + (1 + k)) made (omega arith) is
      ∙ elim (cases_lt k 7) [
        | inl less ↦
            row_before (load_ops log_line 8) _ (9 * j + (1 + k)) _ (let z : 9 * j + (1 + k) + 1 < 9 = omega arith in z) word
            ∙ ap (λ (n : RowNote). Some (row (op_at t (at.Word Header j k)) n)) (sym (if_below k 7 Quiet (line_end Header t now j) less))
        | inr seven ↦
            row_last (load_ops log_line 8) _ (9 * j + (1 + k)) _ (let z : 9 * j + (1 + k) + 1 ≡ 9 = omega arith in z) word
            ∙ ap (λ (p : Params). Some (row (op_at t (at.Word Header j k)) (header_note t.cmd now t.lines (log_fault (fed_head now log_line) p))))
            (told_is t.kept t.cmd t.me t.lines t.params now (has_super_stays t.cmd t.me t.lines t.params words more h))
            ∙ ap (λ (n : RowNote). Some (row (op_at t (at.Word Header j k)) n)) (sym (if_past k 7 Quiet (line_end Header t now j) seven))
      ]
    where
      word : slice_get (load_ops log_line 8) (9 * j + (1 + k)) ≡ Some (Load (line_no log_line) k)
      word = word_at (λ j. log_line) 1 j k (9 * j + (1 + k)) [] below small refl

  -- the gate's line is dropped, which is the mark
  pub drop_gate_row : (made : ℕ) → made ≡ 29 → Here made (op_at t at.DropGate) Mark
  drop_gate_row made is = as_row whole made 29 _ Mark Mark is (mark_rows t.kept t.cmd t.me t.lines now) refl

  -- the gate is loaded
  pub gate_row : (made : ℕ) → HasHeader t.cmd t.me t.lines t.params words → made ≡ 30 → Here made (op_at t at.Gate) (note_at at.Gate t now)
  gate_row made h is =
      as_row whole made 30 _ _ _ is (gate_rows t.kept t.cmd t.me t.lines now)
      (ap (λ (p : Params). gate_note t.cmd now t.lines (gate_fault (fed_gate now) p)) (told_is t.kept t.cmd t.me t.lines t.params now (has_super_stays t.cmd t.me t.lines t.params words more h.head)))
