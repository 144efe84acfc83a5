-- A task that stands for a command has of the words what its phase says, and the table has its operation and note.
use Rattle.std.proofs.Common.{ℕ, ◌≡◌, ◌+◌, List, [], ◌∷◌, ◌++◌, Option, Some, None, refl, sym, ◌∙◌, ap, subst}
use Rattle.std.specs.Prelude.{slice_get, option_map, unwrap_or}
use Rattle.std.proofs.lemmas.List.{append-nil}
use Rattle.std.proofs.lemmas.Option.{same_Some}
use Rattle.fam_base.specs.declared.cmd.Cmd.{Cmd}
use Rattle.fam_commands.specs.declared.phase.Part.{Part}
use Rattle.fam_commands.specs.declared.phase.Part.TheVariants.{Superblock, Header, Slot, File}
use Rattle.fam_commands.specs.declared.phase.Phase.{Phase}
use Rattle.fam_commands.specs.declared.phase.Phase.TheVariants as at
use Rattle.fam_rules.specs.Reply.{Reply}
use Rattle.fam_commands.specs.Counts.{steps_of}
use Rattle.fam_commands.specs.Kept.{Kept, IsKept}
use Rattle.fam_commands.specs.Task.{Task, op_at, op_of}
use Rattle.fam_commands.specs.Turns.{Turn, Goes, Marks, Finds, Writes, Ends, line_turn, with_word, turn_at}
use Rattle.fam_commands.specs.Table.{RowNote, Row, table}
use Rattle.fam_machine.specs.Operations.{given_by}
use Rattle.fam_commands.specs.Stands.{with_given, task_after, note_of, turn_given, StandsFor, starts, goes}
use Rattle.fam_commands.proofs.Rows.Head.{HasRow}
use Rattle.fam_commands.proofs.Rows.At.{row_at}
use Rattle.fam_commands.proofs.Steps.Outcomes.{Outcome, goes_on, ends, first_word, word_outcome}
use Rattle.fam_commands.proofs.Steps.Head.{magic_step, super_line, header_line, drop_gate_step, gate_step}
use Rattle.fam_commands.proofs.Steps.Slots.{slot_line_step, check_step}
use Rattle.fam_commands.proofs.Steps.Decide.{decide_step}
use Rattle.fam_commands.proofs.Steps.Append.{store_data_step, send_data_step, store_slot_step, send_slot_step, fence_slot_step, store_gate_step, send_gate_step, fence_gate_step}
use Rattle.fam_commands.proofs.Steps.FileLines.{file_line_step}
use Rattle.fam_commands.proofs.Steps.Ties.{InPart, TieAt, Tied, TurnTied, line_end, note_at}

-- One operation.

-- the outcome of a line's end is that of the task before its last word
before_word : (t : Task) (word : ℕ) (turn : Turn) (note : RowNote) (words : List ℕ) (made : ℕ) → Outcome (with_word t word) turn note words made → Outcome t turn note words made
before_word t word turn note words made o = record { noted = o.noted; tied = o.tied }

line_step : (part : Part) (t : Task) (words : List ℕ) (word j made : ℕ) → InPart part (with_word t word) words j 8 9 made
    → Outcome t (line_turn (with_word t word) part j) (line_end part t words j) words made
line_step Superblock t words word j made h = before_word t word _ _ words made (super_line (with_word t word) words j made h)
line_step Header t words word j made h = before_word t word _ _ words made (header_line (with_word t word) words j made h)
line_step (Slot i) t words word j made h = before_word t word _ _ words made (slot_line_step (with_word t word) words i j made h)
line_step File t words word j made h = before_word t word _ _ words made (file_line_step (with_word t word) words j made h)

-- what comes of any operation
pub step : (phase : Phase) (t : Task) (words : List ℕ) (word made : ℕ) → TieAt phase t words made
    → Outcome t (turn_at phase t (unwrap_or (given_by (op_at t phase) word) 0)) (note_at phase t (with_given words (given_by (op_at t phase) word)))
    (with_given words (given_by (op_at t phase) word)) (made + 1)
step at.DropMagic t words word made (empty, is, fresh) = goes_on t (record t { phase = at.Magic }) words (made + 1) refl refl refl refl (empty, ap (λ (n : ℕ). n + 1) is, fresh)
step at.Magic t words word made h = magic_step t words word made h
step (at.Drop part j) t words word made h = first_word part t words j made h
step (at.Word part j k) t words word made h = word_outcome part t words word j k made h.0 h.1 (λ seven last. line_step part t (words ++ word ∷ []) word j (made + 1) last)
step at.DropGate t words word made h = drop_gate_step t words made h
step at.Gate t words word made h = gate_step t words word made h
step (at.Check i) t words word made h = check_step t words i made h
step at.Decide t words word made h = decide_step t words made h
step (at.StoreData j k) t words word made h = store_data_step t words j k made h
step (at.SendData j) t words word made h = send_data_step t words j made h
step (at.StoreSlot j k) t words word made h = store_slot_step t words j k made h
step (at.SendSlot j) t words word made h = send_slot_step t words j made h
step at.StoreGate t words word made h = store_gate_step t words made h
step at.FenceSlot t words word made h = fence_slot_step t words made h
step at.SendGate t words word made h = send_gate_step t words made h
step at.FenceGate t words word made h = fence_gate_step t words made h

-- All operations.

after_turn : (cmd : Cmd) (me : List ℕ) (lines : ℕ) (first : Option Kept) (turn : Turn) (next : Task) (words : List ℕ) (made : ℕ)
    → TurnTied cmd me lines first turn words made → task_after turn ≡ Some next → Tied cmd me lines first next words made
after_turn cmd me lines first (Goes t) next words made tied is = subst (λ (x : Task). Tied cmd me lines first x words made) (same_Some t next is) tied
after_turn cmd me lines first (Marks t) next words made tied is = subst (λ (x : Task). Tied cmd me lines first x words made) (same_Some t next is) tied
after_turn cmd me lines first (Finds n t) next words made tied is = subst (λ (x : Task). Tied cmd me lines first x words made) (same_Some t next is) tied
after_turn cmd me lines first (Writes seq e t) next words made tied is = subst (λ (x : Task). Tied cmd me lines first x words made) (same_Some t next is) tied
after_turn cmd me lines first (Ends reply) next words made tied is = absurd cc

-- a task that stands for a command is tied to the table
pub standing_tied : (kept : Option Kept) (cmd : Cmd) (me : List ℕ) (lines : ℕ) (t : Task) (words : List ℕ) (made : ℕ) → IsKept kept
    → StandsFor kept cmd me lines t words made → Tied cmd me lines kept t words made
standing_tied kept cmd me lines t words made joined starts =
    record {
      cmd_is = refl;
      me_is = refl;
      lines_is = refl;
      kept_is = refl;
      tie =
          (refl, refl, record { joined = joined; no_entry = refl; nothing = refl });
    }
standing_tied kept cmd me lines next _ _ joined (goes {t = t} {words = words} {made = made} word before is) =
    let tied = standing_tied kept cmd me lines t words made joined before in
    let on = after_turn t.cmd t.me t.lines t.kept (turn_given t word) next (with_given words (given_by (op_of t) word)) (made + 1) (step t.phase t words word made tied.tie).tied is in
    record { cmd_is = on.cmd_is ∙ tied.cmd_is; me_is = on.me_is ∙ tied.me_is; lines_is = on.lines_is ∙ tied.lines_is; kept_is = on.kept_is ∙ tied.kept_is; tie = on.tie }

-- a task keeps what its host kept
pub kept_of : (kept : Option Kept) (cmd : Cmd) (me : List ℕ) (lines : ℕ) (t : Task) (words : List ℕ) (made : ℕ) → IsKept kept → StandsFor kept cmd me lines t words made → t.kept ≡ kept
kept_of kept cmd me lines t words made joined stands = (standing_tied kept cmd me lines t words made joined stands).kept_is

-- The laws.

-- what was given, as words behind the others
given_words : Option ℕ → List ℕ
given_words None = []
given_words (Some word) = word ∷ []

with_given_is : (words : List ℕ) (given : Option ℕ) → with_given words given ≡ words ++ given_words given
unfolding given_words
with_given_is words None = sym (append-nil words)
with_given_is words (Some word) = refl

table_is : (kept : Option Kept) (cmd : Cmd) (me : List ℕ) (lines : ℕ) (t : Task) (words : List ℕ) → t.kept ≡ kept → t.cmd ≡ cmd → t.me ≡ me
    → t.lines ≡ lines → table t.kept t.cmd t.me t.lines words ≡ table kept cmd me lines words
table_is kept cmd me lines t words kept_is cmd_is me_is lines_is =
    ap (λ (k : Option Kept). table k t.cmd t.me t.lines words) kept_is ∙ ap (λ (c : Cmd). table kept c t.me t.lines words) cmd_is
    ∙ ap (λ (m : List ℕ). table kept cmd m t.lines words) me_is ∙ ap (λ (l : ℕ). table kept cmd me l words) lines_is

-- the row, also after words that are given
row_of_standing : (kept : Option Kept) (cmd : Cmd) (me : List ℕ) (lines : ℕ) (t : Task) (words : List ℕ) (made : ℕ) (given : Option ℕ)
    → Tied cmd me lines kept t words made
    → HasRow (table kept cmd me lines (with_given words given)) made (op_of t) (note_at t.phase t (with_given words given))
row_of_standing kept cmd me lines t words made given tied =
    subst (λ (w : List ℕ). HasRow (table kept cmd me lines w) made (op_of t) (note_at t.phase t w)) (sym (with_given_is words given))
    (ap (λ (rows : List Row). slice_get rows made) (sym (table_is kept cmd me lines t (words ++ given_words given) tied.kept_is tied.cmd_is tied.me_is tied.lines_is))
    ∙ row_at t.phase t words (given_words given) made tied.tie)

-- it does the operation that the table has next
pub next_operation : (kept : Option Kept) (cmd : Cmd) (me : List ℕ) (lines : ℕ) (t : Task) (words : List ℕ) (made : ℕ) → IsKept kept
    → StandsFor kept cmd me lines t words made → option_map (λ (r : Row). r.op) (slice_get (table kept cmd me lines words) made) ≡ Some (op_of t)
next_operation kept cmd me lines t words made joined stands =
    ap (option_map (λ (r : Row). r.op)) (row_of_standing kept cmd me lines t words made None (standing_tied kept cmd me lines t words made joined stands))

-- what comes of it is noted there
pub next_note : (kept : Option Kept) (cmd : Cmd) (me : List ℕ) (lines : ℕ) (t : Task) (words : List ℕ) (made : ℕ) → IsKept kept
    → StandsFor kept cmd me lines t words made → (word : ℕ)
    → option_map (λ (r : Row). r.note) (slice_get (table kept cmd me lines (with_given words (given_by (op_of t) word))) made)
    ≡ Some (note_of (turn_given t word))
next_note kept cmd me lines t words made joined stands word =
    let tied = standing_tied kept cmd me lines t words made joined stands in
    ap (option_map (λ (r : Row). r.note)) (row_of_standing kept cmd me lines t words made (given_by (op_of t) word) tied)
    ∙ ap Some (step t.phase t words word made tied.tie).noted

-- a task that ends has made as many operations as its answer says
pub steps_at_end : (kept : Option Kept) (cmd : Cmd) (me : List ℕ) (lines : ℕ) (t : Task) (words : List ℕ) (made : ℕ) → IsKept kept
    → StandsFor kept cmd me lines t words made → (word : ℕ) (reply : Reply) → turn_given t word ≡ Ends reply
    → made + 1 ≡ steps_of kept cmd lines (with_given words (given_by (op_of t) word)) reply
steps_at_end kept cmd me lines t words made joined stands word reply ends =
    let tied = standing_tied kept cmd me lines t words made joined stands in
    let now : List ℕ = with_given words (given_by (op_of t) word) in
    let count : made + 1 ≡ steps_of t.kept t.cmd t.lines now reply = subst (λ (turn : Turn). TurnTied t.cmd t.me t.lines t.kept turn now (made + 1))
    ends (step t.phase t words word made tied.tie).tied in
    count ∙ ap (λ (c : Cmd). steps_of t.kept c t.lines now reply) tied.cmd_is ∙ ap (λ (l : ℕ). steps_of t.kept cmd l now reply) tied.lines_is
    ∙ ap (λ (k : Option Kept). steps_of k cmd lines now reply) tied.kept_is

-- On a host that keeps nothing.
