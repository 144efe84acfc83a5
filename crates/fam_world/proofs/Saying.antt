-- What a task says of an operation, as notes and as its turn.
use Rattle.std.proofs.Common.{◌≡◌, ◌≢◌, ◌⊎◌, ℕ, ◌<◌, ◌≤◌, ◌++◌, ◌∷◌, [], inl, inr, Bool, true, List, Option, Some, None, refl, ap, sym, ◌∙◌, subst}
use Rattle.std.specs.Prelude.{unwrap_or, option_map}
use Rattle.std.specs.List.{list_any}
use Rattle.std.proofs.lemmas.Bool.{cases_eq}
use Rattle.fam_base.specs.declared.line.LineNo.{LineNo}
use Rattle.fam_base.specs.Image.{Image, line_at}
use Rattle.fam_media.specs.Causes.{Rose}
use Rattle.fam_media.specs.Outside.{IfModelled}
use Rattle.fam_machine.specs.declared.op.Op.{Op}
use Rattle.fam_machine.specs.declared.op.Op.TheVariants.{Load, Store, WriteBack, Fence, Invalidate, Digest}
use Rattle.fam_machine.specs.Caches.{Cache, asked_lines, cell_at}
use Rattle.fam_machine.specs.Cuts.{HasFailed, IsMachine}
use Rattle.fam_machine.specs.OneLine.{IsHeld, brought, words_of}
use Rattle.fam_machine.specs.Operations.{IsWithin, Machine, given, given_by, machine, operated}
use Rattle.fam_machine.proofs.CacheLemmas.{cell_at-with_cell_same}
use Rattle.fam_cache.specs.Operations.{LeavesCache, word_of}
use Rattle.fam_cache.proofs.Performed.{cleaned_held, others_left}
use Rattle.fam_cache.proofs.StoreLemmas.{brought_words}
use Rattle.fam_commands.specs.Stands.{note_of, task_after, turn_given}
use Rattle.fam_commands.specs.Task.{Task, op_of}
use Rattle.fam_commands.specs.Turns as turns
use Rattle.fam_commands.specs.Turns.{turn_of}
use Rattle.fam_rules.specs.Reply.{Reply}
use Rattle.fam_tasks.specs.declared.answer.Answer.{Answer}
use Rattle.fam_tasks.specs.declared.answer.Answer.TheVariants as answer
use Rattle.fam_tasks.specs.declared.answer.TaskNote.TheVariants as says
use Rattle.fam_tasks.specs.declared.answer.Turn.{Turn}
use Rattle.fam_tasks.specs.declared.answer.Turn.TheVariants as turn
use Rattle.fam_tasks.specs.Answers.{reply_of}
use Rattle.fam_tasks.specs.Tells.{Tells}
use Rattle.fam_run.specs.Operation.{GoesOn, HasTurned, KeepsLines}
use Rattle.fam_notes.specs.Notes.{answer_view}
use Rattle.fam_journal.specs.CallRecords.{TaskFits, heading}
use Rattle.fam_journal.specs.Ends.{is_answer_note}
use Rattle.fam_journal.specs.Machines.{notes_of}
use Rattle.fam_journal.specs.Notes.{Answered, MediaFault, Note, Replied}
use Rattle.fam_journal.specs.Notes as journal
use Rattle.fam_world.specs.Steps.{HostChange, StepsHost}
use Rattle.fam_world.specs.Turns.{ends_task, task_left_by, turn_notes}
use Rattle.fam_commands.specs.Keeping.{kept_after}

-- Words.

-- the word that an operation gave comes back as it was
given_again : (op : Op) (c : Cache) → given_by op (unwrap_or (word_of op c) 0) ≡ word_of op c
given_again (Load line k) c = refl
given_again other c = refl

-- it is the machine's
word_is : (op : Op) (m : Machine) → word_of op (operated op m).cache ≡ given op m
word_is (Load line k) m =
    ap (λ (ws : List ℕ). Some (Rattle.std.specs.Prelude.slice_index ws k))
    (ap words_of (cell_at-with_cell_same line.0 (brought (line_at m.image line.0) (cell_at m.cache line.0)) m.cache) ∙ brought_words (line_at m.image line.0) (cell_at m.cache line.0))
word_is other m = refl

-- Lines.

at_line : (line : LineNo) (lines l : ℕ) (P : Type 0) → line.0 < lines → (l ≢ line.0 → P) → (l < lines) ⊎ P
at_line line lines l P below other =
    elim (cases_eq l line.0) [
      | inl e ↦ inl (subst (λ (n : ℕ). n < lines) (sym e) below)
      | inr ne ↦ inr (other ne)
    ]

not_same : (line : LineNo) (l : ℕ) → l ≢ line.0 → Some line ≢ Some (record { 0 = l })
not_same line l ne e = ne (sym (ap (λ (o : Option LineNo). unwrap_or (option_map (λ (x : LineNo). x.0) o) 0) e))

-- an operation brings its own line at most
pub lines_held : (op : Op) (lines : ℕ) (told : Option Image) (old new : Cache) → IsWithin lines op → LeavesCache op told old new → (l : ℕ)
    → IsHeld (cell_at new l) → (l < lines) ⊎ IsHeld (cell_at old l)
lines_held (Load line k) lines told old new within leaves l held =
    at_line line lines l _ within.0 (λ ne. subst IsHeld (others_left (Load line k) told old new leaves tt l (not_same line l ne)) held)
lines_held (Store line k value) lines told old new within leaves l held =
    at_line line lines l _ within.0 (λ ne. subst IsHeld (others_left (Store line k value) told old new leaves tt l (not_same line l ne)) held)
lines_held (WriteBack line) lines told old new within leaves l held =
    at_line line lines l _ within (λ ne. subst IsHeld (others_left (WriteBack line) told old new leaves tt l (not_same line l ne)) held)
lines_held Fence lines told old new within leaves l held =
    inr (cleaned_held (asked_lines old) old l (subst (λ (c : Cache). IsHeld (cell_at c l)) leaves held))
lines_held (Invalidate line) lines told old new within leaves l held =
    at_line line lines l _ within (λ ne. subst IsHeld (others_left (Invalidate line) told old new leaves tt l (not_same line l ne)) held)
lines_held Digest lines told old new within leaves l held = inr (subst (λ (c : Cache). IsHeld (cell_at c l)) leaves held)

-- Answers.

pub answer_told : (a : Answer) (reply : Reply) → reply_of a ≡ Some reply → answer_view a ≡ Replied reply
answer_told (answer.MediaFault line) reply is = absurd cc
answer_told other reply is = cc

-- what a turn of the definition tells: its notes, the task behind it, and whether it is over
pub record IsTold (at : ℕ) (said : Turn) (next : Task) (z : turns.Turn) : Type 0 where
  pub notes : turn_notes at said ≡ notes_of at (note_of z)
  pub task : task_left_by said (Some next) ≡ task_after z
  pub over : ends_task said ≡ list_any is_answer_note (notes_of at (note_of z))

plain_told : (at : ℕ) (said : Turn) (next n : Task) (z : turns.Turn) (wanted : Turn) → said ≡ wanted → next ≡ n → IsTold at wanted n z → IsTold at said next z
plain_told at said next n z wanted e same told = subst (λ (x : Turn). IsTold at x next z) (sym e) (subst (λ (x : Task). IsTold at wanted x z) (sym same) told)

pub told_by : (at : ℕ) (said : Turn) (next : Task) (z : turns.Turn) → Tells z said next → IsTold at said next z
told_by at said next (turns.Goes n) tells = plain_told at said next n (turns.Goes n) turn.Go tells.0 tells.1 (record { notes = refl; task = refl; over = refl })
told_by at said next (turns.Marks n) tells = plain_told at said next n (turns.Marks n) (turn.Note says.Mark) tells.0 tells.1 (record { notes = refl; task = refl; over = refl })
told_by at said next (turns.Finds k n) tells = plain_told at said next n (turns.Finds k n) (turn.Note (says.Found k)) tells.0 tells.1 (record { notes = refl; task = refl; over = refl })
told_by at said next (turns.Writes seq e n) tells = plain_told at said next n (turns.Writes seq e n) (turn.Note (says.Writes seq e)) tells.0 tells.1 (record { notes = refl; task = refl; over = refl })
told_by at turn.Go next (turns.Ends reply) tells = absurd tells
told_by at (turn.Note note) next (turns.Ends reply) tells = absurd tells
told_by at (turn.Done given) next (turns.Ends reply) tells = record {
  notes = ap (λ (a : journal.Answer). Answered at a ∷ []) (answer_told given reply tells);
  task = refl;
  over = refl;
}

-- An operation that was done.

module _ (at : ℕ) (t next : Task) (said : Turn) (a : HostChange) (over : Bool) (goes : GoesOn t a.new.cache said next) where
  abbrev word : ℕ
  word = unwrap_or (word_of (op_of t) a.new.cache) 0

  turn_is : turn_given t word ≡ turn_of t (word_of (op_of t) a.new.cache)
  turn_is = ap (turn_of t) (given_again (op_of t) a.new.cache)

  told : IsTold at said next (turn_given t word)
  told = subst (λ (z : turns.Turn). IsTold at said next z) (sym turn_is) (told_by at said next (turn_of t (word_of (op_of t) a.new.cache)) goes)

  fits_on : (x : Turn) → KeepsLines x t next → TaskFits t.lines (task_left_by x (Some next))
  fits_on turn.Go keeps = keeps refl
  fits_on (turn.Note note) keeps = keeps refl
  fits_on (turn.Done given) keeps = tt

  pub step_served : a.old.kept ≡ t.kept → a.new.kept ≡ kept_after (turn_of t (word_of (op_of t) a.new.cache)) t t.kept → (mid : Option Task)
      → mid ≡ Some next → a.new.task ≡ task_left_by said mid → a.after ≡ a.before ++ turn_notes at said → heading a.new ≡ heading a.old
      → a.media.old.faults ≤ a.media.new.faults → over ≡ ends_task said
      → IfModelled a.media.old.image (λ image. HasTurned t (machine image a.old.cache) said next a.media.new.image a.new.cache)
      → KeepsLines said t next → LeavesCache (op_of t) a.media.old.image a.old.cache a.new.cache → IsWithin t.lines (op_of t) → t.lines ≡ a.lines
      → StepsHost at t a over
  step_served own keeps_log mid mid_is task joined host later over_is turned keeps leaves within lines =
      let task_is : a.new.task ≡ task_left_by said (Some next) = task ∙ ap (task_left_by said) mid_is in
      record {
        notes = turn_notes at said;
        joined = joined;
        host = host;
        later = later;
        how = inl record {
          word = word;
          notes_are = told.notes;
          task = task_is ∙ told.task;
          kept = keeps_log ∙ ap (λ (z : turns.Turn). kept_after z t t.kept) (sym turn_is) ∙ ap (kept_after (turn_given t word) t) (sym own);
          done = λ image is. (turned image is).is;
          own = λ image is.
              let m : Machine = machine image a.old.cache in
              let d : IsMachine (operated (op_of t) m) a.media.new.image a.new.cache = (turned image is).is in
              ap (λ (o : Option ℕ). turn_given t (unwrap_or o 0)) (ap (word_of (op_of t)) d.cache ∙ word_is (op_of t) m);
          held = lines_held (op_of t) a.lines a.media.old.image a.old.cache a.new.cache (subst (λ (n : ℕ). IsWithin n (op_of t)) lines within) leaves;
          fits = subst (TaskFits t.lines) (sym task_is) (fits_on said keeps);
          over_is = over_is ∙ told.over ∙ ap (λ (n : List Note). list_any is_answer_note n) (sym told.notes);
        };
      }

-- the media failed in it
pub step_cut : (at : ℕ) (t : Task) (a : HostChange) (line : LineNo) → a.new.kept ≡ a.old.kept
    → a.after ≡ a.before ++ Answered at (MediaFault line.0) ∷ [] → heading a.new ≡ heading a.old → a.media.old.faults ≤ a.media.new.faults
    → a.new.task ≡ None → ((l : ℕ) → IsHeld (cell_at a.new.cache l) → IsHeld (cell_at a.old.cache l))
    → IfModelled a.media.old.image (λ image. HasFailed (op_of t) (machine image a.old.cache) line a.media.new.image a.new.cache) → Rose a.media.old.faults a.media.new.faults → StepsHost at t a true
step_cut at t a line same joined host later task kept failed rose = record {
  notes = Answered at (MediaFault line.0) ∷ [];
  joined = joined;
  host = host;
  later = later;
  how = inr record { line = line; notes_are = refl; task = task; kept = same; held = kept; failed = failed; rose = rose; over_is = refl };
}
