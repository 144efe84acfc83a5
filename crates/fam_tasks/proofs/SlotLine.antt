-- A line of a slot: it is dropped, and its eight words are loaded.
use Rattle.std.proofs.Common.{ℕ, ◌≡◌, ◌+◌, ◌<◌, List, [], ◌∷◌, ◌++◌, length-append, Some, None, nat_lt, cond, refl, sym, ap, subst, ◌∙◌, arith}
use Rattle.std.specs.Prelude.{slice_index}
use Rattle.std.proofs.lemmas.Bool.{lt-ltb}
use Rattle.fam_base.specs.Image.{eight}
use Rattle.fam_base.specs.declared.line.LineNo.{LineNo}
use Rattle.fam_format.specs.Layout.{geometry}
use Rattle.fam_machine.specs.declared.op.Op.TheVariants.{Load, Invalidate}
use Rattle.fam_machine.specs.Operations.{line_no}
use Rattle.fam_commands.specs.declared.phase.Part.TheVariants.{Slot}
use Rattle.fam_commands.specs.declared.phase.Phase.{Phase}
use Rattle.fam_commands.specs.declared.phase.Phase.TheVariants as at
use Rattle.fam_commands.specs.Task.{Task, op_at, part_line}
use Rattle.fam_commands.specs.Turns.{Goes, Turn, turn_of, with_word, word_turn}
use Rattle.fam_tasks.specs.declared.answer.Turn.TheVariants.{Go}
use Rattle.fam_tasks.specs.Rest.{DropsLine, Taken}
use Rattle.fam_tasks.specs.SlotLines.{IsSlotLine, LoadsSlotLine}
use Rattle.fam_tasks.specs.Sound.{IsLine, IsSound, IsSoundAt}
use Rattle.fam_tasks.specs.Tells.{Tells}
use Rattle.fam_tasks.proofs.Phases.{same_gate}
use Rattle.fam_tasks.proofs.Rest.{first_taken, last_taken, next_taken, slot_goes, turn_in, word_goes}

-- words that are added one by one
pub eight_pushed : (held words : List ℕ)
    → (((((((held ++ slice_index words 0 ∷ []) ++ slice_index words 1 ∷ []) ++ slice_index words 2 ∷ []) ++ slice_index words 3 ∷ [])
    ++ slice_index words 4 ∷ []) ++ slice_index words 5 ∷ []) ++ slice_index words 6 ∷ []) ++ slice_index words 7 ∷ [] ≡ held ++ eight words
eight_pushed [] words = refl
eight_pushed (x ∷ held) words = ap (λ (more : List ℕ). x ∷ more) (eight_pushed held words)

-- behind the drop
abbrev dropped : ℕ → ℕ → Task → Task
dropped slot j t = record t { phase = at.Word (Slot slot) j 0 }

-- behind a word
abbrev behind : ℕ → ℕ → ℕ → List ℕ → Task → Task
behind slot j k words t = record (with_word t (slice_index words k)) { phase = at.Word (Slot slot) j (k + 1) }

drop_sound : (t : Task) (slot j : ℕ) → t.phase ≡ at.Drop (Slot slot) j → IsSound t → IsSound (dropped slot j t)
drop_sound t slot j phase sound =
    let stands : IsSoundAt (at.Drop (Slot slot) j) t = subst (λ (p : Phase). IsSoundAt p t) phase sound.stands in
    let line : IsLine (Slot slot) j (dropped slot j t) = (same_gate t (dropped slot j t) refl refl refl stands.0.line.0, stands.0.line.1, stands.0.line.2) in
    record {
      command = sound.command;
      least = sound.least;
      most = sound.most;
      stands = (record { line = line; few = stands.0.few }, omega arith, omega (arith, stands.1));
      kept = sound.kept;
    }

word_sound : (t : Task) (slot j k : ℕ) (words : List ℕ) → k < 7 → t.phase ≡ at.Word (Slot slot) j k → IsSound t → IsSound (behind slot j k words t)
word_sound t slot j k words small phase sound =
    let stands : IsSoundAt (at.Word (Slot slot) j k) t = subst (λ (p : Phase). IsSoundAt p t) phase sound.stands in
    let line : IsLine (Slot slot) j (behind slot j k words t) = (same_gate t (behind slot j k words t) refl refl refl stands.0.line.0, stands.0.line.1, stands.0.line.2) in
    record {
      command = sound.command;
      least = sound.least;
      most = sound.most;
      stands = (
        record { line = line; few = stands.0.few },
        omega (arith, small),
        omega (arith, stands.2, length-append t.words (slice_index words k ∷ [])),
      );
      kept = sound.kept;
    }

word_turn_goes : (t : Task) (slot j k : ℕ) (words : List ℕ) → k < 7 → t.phase ≡ at.Word (Slot slot) j k → turn_of t (Some (slice_index words k)) ≡ Goes (behind slot j k words t)
word_turn_goes t slot j k words small phase =
    turn_in t (at.Word (Slot slot) j k) (Some (slice_index words k)) phase ∙ word_goes (with_word t (slice_index words k)) (Slot slot) j k small

-- one word more, of a sound task
record Read (line : LineNo) (words : List ℕ) (slot j : ℕ) (t now : Task) (k : ℕ) : Type 0 where
  pub taken : Taken line words (Slot slot) j t now k
  pub sound : IsSound now

read_next : (line : LineNo) (words : List ℕ) (slot j k : ℕ) (t now : Task) → k < 7 → Read line words slot j t now k → Read line words slot j t (behind slot j k words now) (k + 1)
read_next line words slot j k t now small read = record {
  taken = next_taken line words (Slot slot) j k t now (behind slot j k words now) read.sound small refl (word_turn_goes now slot j k words small read.taken.phase) read.taken;
  sound = word_sound now slot j k words small read.taken.phase read.sound;
}

module _ (line : LineNo) (words : List ℕ) (slot j : ℕ) (t : Task) (sound : IsSound t) (phase : t.phase ≡ at.Drop (Slot slot) j) (here : IsSlotLine line t) where
  is : line.0 ≡ part_line t (Slot slot) j
  is =
      let both : at.Drop (Slot here.slot) here.j ≡ at.Drop (Slot slot) j = sym here.phase ∙ phase in
      let slot_is : here.slot ≡ slot = cc in
      let number_is : here.j ≡ j = cc in
      here.is ∙ ap (λ (s : ℕ). part_line t (Slot s) here.j) slot_is ∙ ap (part_line t (Slot slot)) number_is

  abbrev first : Task
  first = behind slot j 0 words (dropped slot j t)

  abbrev due : Task
  due = behind slot j 6 words (behind slot j 5 words (behind slot j 4 words (behind slot j 3 words (behind slot j 2 words (behind slot j 1 words first)))))

  begins : Read line words slot j first first 1
  begins = record {
    taken = first_taken line words (Slot slot) j first refl (record { part = Slot slot; j = j; phase = refl; is = is; within = here.within });
    sound = word_sound (dropped slot j t) slot j 0 words (omega arith) refl (drop_sound t slot j phase sound);
  }

  reads : Read line words slot j first due 7
  reads =
      read_next line words slot j 6 first (behind slot j 5 words (behind slot j 4 words (behind slot j 3 words (behind slot j 2 words (behind slot j 1 words first))))) (omega arith)
      (read_next line words slot j 5 first (behind slot j 4 words (behind slot j 3 words (behind slot j 2 words (behind slot j 1 words first)))) (omega arith)
      (read_next line words slot j 4 first (behind slot j 3 words (behind slot j 2 words (behind slot j 1 words first))) (omega arith)
      (read_next line words slot j 3 first (behind slot j 2 words (behind slot j 1 words first)) (omega arith)
      (read_next line words slot j 2 first (behind slot j 1 words first) (omega arith)
      (read_next line words slot j 1 first first (omega arith) begins)))))

  -- the phase behind the line
  abbrev phase_behind : Phase
  phase_behind = cond (nat_lt (j + 1) (geometry t.params).lines) (at.Drop (Slot slot) (j + 1)) (at.Check slot)

  -- the last word's turn
  tells : (next : Task) → next ≡ record t { words = t.words ++ eight words; phase = phase_behind } → Tells (word_turn (with_word due (slice_index words 7)) (Slot slot) j 7) Go next
  tells next same =
      subst (λ (turn : Turn). Tells turn Go next) (sym (slot_goes (with_word due (slice_index words 7)) slot j))
      (refl, same ∙ ap (λ (held : List ℕ). record t { words = held; phase = phase_behind }) (sym (eight_pushed t.words words)))

  -- the drop alone
  pub slot_line_dropped : DropsLine line t (dropped slot j t)
  slot_line_dropped = record {
    within = here.within;
    op = ap (op_at t) phase ∙ ap (λ (l : ℕ). Invalidate (line_no l)) (sym is);
    turn = turn_in t (at.Drop (Slot slot) j) None phase;
    loads = ap (λ (l : ℕ). Load (line_no l) 0) (sym is);
    lines = refl;
  }

  -- and all loads
  pub slot_line_loaded : (next : Task) → next ≡ record t { words = t.words ++ eight words; phase = phase_behind } → LoadsSlotLine line words t next
  slot_line_loaded next same = record {
    dropped = dropped slot j t;
    drops = slot_line_dropped;
    dropped_sound = drop_sound t slot j phase sound;
    begun = first;
    turn = word_turn_goes (dropped slot j t) slot j 0 words (omega arith) refl;
    rest = last_taken line words (Slot slot) slot j first due next Go refl reads.sound (tells next same) reads.taken;
  }

-- the slot's next line is dropped behind one that isn't the last
pub line_follows : (t : Task) (slot j : ℕ) → j + 1 < (geometry t.params).lines
    → cond (nat_lt (j + 1) (geometry t.params).lines) (at.Drop (Slot slot) (j + 1)) (at.Check slot) ≡ at.Drop (Slot slot) (j + 1)
line_follows t slot j below = rw (lt-ltb (j + 1) (geometry t.params).lines below) refl
