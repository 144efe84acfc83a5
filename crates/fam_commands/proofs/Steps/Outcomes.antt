-- What comes of an operation, beside what the table notes: the same note, and a task that still stands.
use Rattle.std.proofs.Common.{ℕ, ◌≡◌, ◌<◌, ◌≤◌, ◌+◌, ◌*◌, inl, inr, List, [], ◌∷◌, ◌++◌, length, drop, refl, sym, ◌∙◌, ap, subst, arith, length-append}
use Rattle.std.specs.Prelude.{nat_lt, if◌then◌else◌}
use Rattle.std.proofs.lemmas.Bool.{cases_lt}
use Rattle.std.proofs.lemmas.List.{drop-append-le, drop_all}
use Rattle.fam_base.specs.declared.cmd.Cmd.{Cmd}
use Rattle.fam_base.specs.declared.cmd.Cmd.TheVariants.{Verify}
use Rattle.fam_format.proofs.Formats.{shape}
use Rattle.fam_commands.specs.declared.phase.Part.{Part}
use Rattle.fam_commands.specs.declared.phase.Part.TheVariants.{Superblock, Slot, File}
use Rattle.fam_commands.specs.declared.phase.Phase.{Phase}
use Rattle.fam_commands.specs.declared.phase.Phase.TheVariants as at
use Rattle.fam_rules.specs.Reply.{Reply}
use Rattle.fam_commands.specs.Task.{Task, part_count, first_in}
use Rattle.fam_commands.specs.Turns.{Turn, Goes, Ends, word_turn, line_turn, with_word, slots_read, slot_or_decide}
use Rattle.fam_commands.specs.Table.{RowNote, Quiet, Answer}
use Rattle.fam_commands.specs.Counts.{steps_of}
use Rattle.fam_commands.specs.Stands.{note_of}
use Rattle.fam_commands.proofs.Rows.Numbered.{if_below, if_past}
use Rattle.fam_commands.proofs.Steps.TieStays.{part_stays}
use Rattle.fam_commands.proofs.Steps.Ties.{PartKnown, InPart, TaskSlots, TieAt, Tied, TurnTied, part_words, part_made, done_with, line_end, note_at, words_to, steps_to}

-- what comes of a turn: its note is the table's, and the task is tied again or has ended in time
pub record Outcome (t : Task) (turn : Turn) (note : RowNote) (words : List ℕ) (made : ℕ) : Type 0 where
  pub noted : note ≡ note_of turn
  pub tied : TurnTied t.cmd t.me t.lines t.kept turn words made

-- by other spellings of the turn and the note
pub outcome_as : (t : Task) (turn other : Turn) (note noted : RowNote) (words : List ℕ) (made : ℕ) → turn ≡ other → note ≡ noted → Outcome t other noted words made → Outcome t turn note words made
outcome_as t turn other note noted words made turn_is note_is o =
    subst (λ (x : Turn). Outcome t x note words made) (sym turn_is) (subst (λ (n : RowNote). Outcome t other n words made) (sym note_is) o)

-- a task of the same command that stands
pub still_tied : (t next : Task) (words : List ℕ) (made : ℕ) → next.cmd ≡ t.cmd → next.me ≡ t.me → next.lines ≡ t.lines → next.kept ≡ t.kept
    → TieAt next.phase next words made → Tied t.cmd t.me t.lines t.kept next words made
still_tied t next words made cmd me lines first tie = record { cmd_is = cmd; me_is = me; lines_is = lines; kept_is = first; tie = tie }

-- a turn that goes on
pub goes_on : (t next : Task) (words : List ℕ) (made : ℕ) → next.cmd ≡ t.cmd → next.me ≡ t.me → next.lines ≡ t.lines → next.kept ≡ t.kept
    → TieAt next.phase next words made → Outcome t (Goes next) Quiet words made
goes_on t next words made cmd me lines first tie = record { noted = refl; tied = still_tied t next words made cmd me lines first tie }

-- a turn that ends
pub ends : (t : Task) (reply : Reply) (note : RowNote) (words : List ℕ) (made : ℕ) → note ≡ Answer reply → made ≡ steps_of t.kept t.cmd t.lines words reply → Outcome t (Ends reply) note words made
ends t reply note words made is count = record { noted = is; tied = count }

-- by a test of two numbers
pub by_less : (t : Task) (a b : ℕ) (first second : Turn) (note other : RowNote) (words : List ℕ) (made : ℕ)
    → (a < b → Outcome t first note words made) → (b ≤ a → Outcome t second other words made)
    → Outcome t (if nat_lt a b then first else second) (if nat_lt a b then note else other) words made
by_less t a b first second note other words made less past =
    elim (cases_lt a b) [
      | inl below ↦ outcome_as t _ first _ note words made (if_below a b first second below) (if_below a b note other below) (less below)
      | inr behind ↦ outcome_as t _ second _ other words made (if_past a b first second behind) (if_past a b note other behind) (past behind)
    ]

-- The next line, word and slot.

-- a part knows nothing of the words that are held, nor of the place
pub in_part : (part : Part) (t : Task) (held : List ℕ) (phase : Phase) (words : List ℕ) (j k ops made : ℕ) → PartKnown part t words j
    → j < part_count t part → length words ≡ part_words t part + (8 * j + k) → held ≡ drop (part_words t part + done_with part t.cmd j) words
    → made ≡ part_made t part + (9 * j + ops) → InPart part (record t { words = held; phase = phase }) words j k ops made
in_part Superblock t held phase words j k ops made known within long is at_made = record { known = known; within = within; long = long; held = is; made_is = at_made }
in_part part t held phase words j k ops made known within long is at_made = record { known = known; within = within; long = long; held = is; made_is = at_made }

-- the next line of a part comes
pub next_line : (part : Part) (t : Task) (words : List ℕ) (j made : ℕ) → PartKnown part t words (j + 1) → j + 1 < part_count t part
    → length words ≡ part_words t part + (8 * j + 8) → t.words ≡ drop (part_words t part + done_with part t.cmd (j + 1)) words
    → made ≡ part_made t part + (9 * j + 9) → Outcome t (Goes (record t { phase = at.Drop part (j + 1) })) Quiet words made
next_line part t words j made known within long held is =
    goes_on t (record t { phase = at.Drop part (j + 1) }) words made refl refl refl refl
    (in_part part t t.words (at.Drop part (j + 1)) words (j + 1) 0 0 made known within (omega arith) held (omega arith))

-- the loads of a line begin
pub first_word : (part : Part) (t : Task) (words : List ℕ) (j made : ℕ) → InPart part t words j 0 0 made → Outcome t (Goes (record t { phase = at.Word part j 0 })) Quiet words (made + 1)
first_word part t words j made h =
    goes_on t (record t { phase = at.Word part j 0 }) words (made + 1) refl refl refl refl
    (in_part part t t.words (at.Word part j 0) words j 0 (1 + 0) (made + 1) h.known h.within h.long h.held (let e = h.made_is in omega arith), omega arith)

done_below : (part : Part) (cmd : Cmd) (j : ℕ) → done_with part cmd j ≤ 8 * j
done_below File (Verify path against) j = omega arith
done_below File cmd j = omega arith
done_below part cmd j = omega arith

-- the task with the word that was loaded, its line not yet looked at
pub word_held : (part : Part) (t : Task) (words : List ℕ) (word j k ops made : ℕ) → InPart part t words j k ops made
    → InPart part (with_word t word) (words ++ word ∷ []) j (k + 1) (ops + 1) (made + 1)
word_held part t words word j k ops made h =
    in_part part t (t.words ++ word ∷ []) t.phase (words ++ word ∷ []) j (k + 1) (ops + 1) (made + 1)
    (part_stays part t words (word ∷ []) j h.known)
    h.within
    (let e = h.long in omega (arith, length-append words (word ∷ [])))
    (ap (λ (l : List ℕ). l ++ word ∷ []) h.held ∙ sym (drop-append-le (part_words t part + done_with part t.cmd j) words (word ∷ []) (let e = h.long in omega (arith, done_below part t.cmd j))))
    (let e = h.made_is in omega arith)

-- the next word, or the line's end
pub word_outcome : (part : Part) (t : Task) (words : List ℕ) (word j k made : ℕ) → InPart part t words j k (1 + k) made → k < 8
    → (k ≡ 7 → InPart part (with_word t word) (words ++ word ∷ []) j 8 9 (made + 1)
    → Outcome t (line_turn (with_word t word) part j) (line_end part t (words ++ word ∷ []) j) (words ++ word ∷ []) (made + 1))
    → Outcome t (word_turn (with_word t word) part j k) (note_at (at.Word part j k) t (words ++ word ∷ [])) (words ++ word ∷ []) (made + 1)
word_outcome part t words word j k made h small last =
    by_less t k 7 (Goes (record t { words = t.words ++ word ∷ []; phase = at.Word part j (k + 1) })) (line_turn (with_word t word) part j) Quiet
    (line_end part t (words ++ word ∷ []) j) (words ++ word ∷ []) (made + 1)
    (λ less.
    let g = word_held part t words word j k (1 + k) made h in
    goes_on t (record t { words = t.words ++ word ∷ []; phase = at.Word part j (k + 1) }) (words ++ word ∷ []) (made + 1) refl refl refl refl (
      in_part part (with_word t word) (t.words ++ word ∷ []) (at.Word part j (k + 1)) (words ++ word ∷ []) j (k + 1) (1 + (k + 1))
          (made + 1) g.known g.within g.long g.held (let e = g.made_is in omega arith),
      omega arith,
    ))
    (λ past.
    let seven : k ≡ 7 = omega arith in
    let g = word_held part t words word j k (1 + k) made h in
    last seven (record { known = g.known; within = g.within; long = let e = g.long in omega arith; held = g.held; made_is = let e = g.made_is in omega arith }))

-- the slots below i are known: slot i is next, or the decision
pub slot_or_decide_tie : (t : Task) (phase : Phase) (words : List ℕ) (i made : ℕ) → TaskSlots t words i → i ≤ slots_read t → t.words ≡ []
    → length words ≡ words_to t.params (first_in t) i → made ≡ steps_to t.params (first_in t) i
    → TieAt (slot_or_decide t i) (record t { phase = phase }) words made
slot_or_decide_tie t phase words i made h within held long is =
    elim (cases_lt i (slots_read t)) [
      | inl below ↦
          subst (λ (p : Phase). TieAt p (record t { phase = phase }) words made) (sym (if_below i (slots_read t) (at.Drop (Slot i) 0) at.Decide below))
          (record {
            known = (h, below);
            within = omega (arith, (shape t.params).lines);
            long = omega arith;
            held =
                held ∙ sym (drop_all (words_to t.params (first_in t) i + 0) words (omega arith));
            made_is = omega arith;
          })
      | inr past ↦
          let last : i ≡ slots_read t = omega arith in
          subst (λ (p : Phase). TieAt p (record t { phase = phase }) words made) (sym (if_past i (slots_read t) (at.Drop (Slot i) 0) at.Decide past))
          (subst (λ (n : ℕ). TaskSlots t words n) last h, long ∙ ap (λ (n : ℕ). words_to t.params (first_in t) n) last, is ∙ ap (λ (n : ℕ). steps_to t.params (first_in t) n) last)
    ]
