-- A slot that has the words which an earlier task found in it.
use Rattle.std.proofs.Common.{ℕ, ◌≡◌, ◌+◌, Bool, true, false, cond, nat_lt, List, [], ◌∷◌, ◌++◌, length, length-append, take, slice_index_or, ◌<◌, Option, None, Ok, refl, sym, ap, ap₂, subst, ◌∙◌, arith}
use Rattle.std.proofs.lemmas.Bool.{le-ltb}
use Rattle.std.proofs.lemmas.List.{take_all}
use Rattle.std.specs.List.{flat_map}
use Rattle.fam_base.specs.declared.entry.Entry.{Entry}
use Rattle.fam_format.specs.Layout.{geometry, slot_line}
use Rattle.fam_format.specs.Slot.{entry_of}
use Rattle.fam_format.proofs.Formats.{shape}
use Rattle.fam_commands.specs.declared.phase.Part.TheVariants.{Slot}
use Rattle.fam_commands.specs.declared.phase.Phase.{Phase}
use Rattle.fam_commands.specs.declared.phase.Phase.TheVariants as at
use Rattle.fam_commands.specs.Classes.{is_fsck}
use Rattle.fam_commands.specs.Kept.{Kept}
use Rattle.fam_commands.specs.Task.{Task}
use Rattle.fam_commands.specs.Turns as turns
use Rattle.fam_commands.specs.Turns.{Goes, join_turn, slot_turn, turn_of}
use Rattle.fam_replay.specs.Replay.{entries_in}
use Rattle.fam_replay.specs.Replica.{FindsNext}
use Rattle.fam_tasks.specs.declared.task.Task.TheInside.{Inside}
use Rattle.fam_tasks.specs.History.{HistoryState}
use Rattle.fam_tasks.specs.Invariant.{HasLooked, IsInvariantAt, IsTask}
use Rattle.fam_tasks.specs.Model.{task_of}
use Rattle.fam_tasks.specs.SlotLines.{FindsSlot, LoadsSlotLines, words_in}
use Rattle.fam_tasks.specs.Sound.{IsSound, IsSoundAt}
use Rattle.fam_tasks.proofs.Feeding.{slot_checked}
use Rattle.fam_tasks.proofs.FlatLines.{flat_words}
use Rattle.fam_tasks.proofs.Phases.{next_phase, same_gate}
use Rattle.fam_tasks.proofs.SlotRun.{slot_lines_loaded, words_count}

-- the words of all lines, as one list
pub flat_all : (lines : List (List ℕ)) (n : ℕ) → length lines ≡ n → ((k : ℕ) → k < n → length (slice_index_or lines k []) ≡ 8) → flat_map (λ (line : List ℕ). line) lines ≡ words_in lines n
flat_all lines n all wide =
    ap (flat_map (λ (line : List ℕ). line)) (sym (take_all n lines (omega (arith, all)))) ∙ flat_words lines n (omega (arith, all)) wide

no_words : (words : List ℕ) → length words ≡ 0 → words ≡ []
no_words [] none = refl
no_words (w ∷ words) none = absurd (omega (arith, none))

module _ (t : Inside) (i first : ℕ) (lines : List (List ℕ)) (task : IsTask t) (drops : t.phase ≡ at.Drop (Slot i) 0) where
  stands : IsSoundAt (at.Drop (Slot i) 0) (task_of t)
  stands = subst (λ (p : Phase). IsSoundAt p (task_of t)) drops task.sound.stands

  looked : HasLooked i t
  looked = subst (λ (p : Phase). IsInvariantAt p t) drops task.held

  empty : t.buffer ≡ []
  empty = no_words t.buffer (omega (arith, stands.1))

  -- behind its lines
  abbrev words : List ℕ
  words = t.buffer ++ words_in lines (geometry t.params).lines

  abbrev loaded : Inside
  loaded = record t { phase = at.Check i; buffer = words }

  loaded_sound : IsSound (task_of loaded)
  loaded_sound = record {
    command = task.sound.command;
    least = task.sound.least;
    most = task.sound.most;
    stands = (
      same_gate (task_of t) (task_of loaded) refl refl refl stands.0.line.0,
      stands.0.line.1,
      omega (arith, stands.1, length-append t.buffer (words_in lines (geometry t.params).lines), words_count lines (geometry t.params).lines, (shape t.params).words),
    );
    kept = task.sound.kept;
  }

  module _ (history : HistoryState) (phase : Phase) (other : is_fsck t.cmd ≡ false)
      (found : FindsNext t.params (words_in lines (geometry t.params).lines) (entries_in t.history.replay) (entries_in history.replay))
      (kept : history.kept ≡ t.history.kept) (next : phase ≡ next_phase (i + 1) t.gate) where
    -- its words tell an entry that joins
    read : entry_of t.params words i ≡ Ok found.entry
    read =
        ap (λ (b : List ℕ). entry_of t.params (b ++ words_in lines (geometry t.params).lines) i) empty
        ∙ ap (entry_of t.params (words_in lines (geometry t.params).lines)) (sym (looked.entries other)) ∙ found.read

    behind : turns.slot_or_decide (task_of loaded) (i + 1) ≡ phase
    behind = ap (λ (b : Bool). next_phase (i + 1) (cond b t.params.slots t.gate)) other ∙ sym next

    goes : record (task_of loaded) {
      entries = entries_in t.history.replay ++ found.entry ∷ [];
      words = [];
      phase =
          turns.slot_or_decide (task_of loaded) (i + 1);
    } ≡ task_of (record t { history = history; phase = phase })
    goes =
        ap₂ (λ (list : List Entry) (b : List ℕ). record (task_of loaded) { entries = list; words = b; phase = turns.slot_or_decide (task_of loaded) (i + 1) }) (sym found.added) (sym empty)
        ∙ ap₂ (λ (p : Phase) (k : Option Kept). record (task_of t) { entries = entries_in history.replay; phase = p; kept = k }) behind (sym kept)

    pub found_slot : first ≡ slot_line t.params i 0 → FindsSlot first lines (geometry t.params).lines i (task_of t) (task_of (record t { history = history; phase = phase }))
    found_slot is = record {
      loaded = task_of loaded;
      loads = slot_lines_loaded (task_of t) i first lines task.sound drops is (geometry t.params).lines (omega arith) (task_of loaded)
          (ap (λ (b : Bool). record (task_of t) { words = words; phase = cond b (at.Drop (Slot i) (geometry t.params).lines) (at.Check i) })
          (sym (le-ltb (geometry t.params).lines (geometry t.params).lines (omega arith))));
      sound = loaded_sound;
      phase = refl;
      turn = slot_checked (task_of loaded) i refl other ∙ ap (slot_turn (task_of loaded) i) read ∙ ap (join_turn (task_of loaded) i found.entry) found.joins ∙ ap Goes goes;
    }
