-- A line of a file that is compared: it is dropped, and its eight words are loaded.
use Rattle.std.proofs.Common.{ℕ, ◌≡◌, ◌+◌, ◌<◌, List, [], ◌∷◌, ◌++◌, length-append, Some, None, refl, sym, ap, subst, ◌∙◌, arith}
use Rattle.std.specs.Prelude.{slice_index}
use Rattle.fam_base.specs.Image.{eight}
use Rattle.fam_base.specs.declared.line.LineNo.{LineNo}
use Rattle.fam_machine.specs.declared.op.Op.TheVariants.{Load, Invalidate}
use Rattle.fam_machine.specs.Operations.{line_no}
use Rattle.fam_commands.specs.declared.phase.Part.TheVariants.{File}
use Rattle.fam_commands.specs.declared.phase.Phase.{Phase}
use Rattle.fam_commands.specs.declared.phase.Phase.TheVariants as at
use Rattle.fam_commands.specs.Task.{Task, op_at, part_line}
use Rattle.fam_commands.specs.Turns.{Goes, file_turn, turn_of, with_word}
use Rattle.fam_tasks.specs.declared.answer.Turn.{Turn}
use Rattle.fam_tasks.specs.Rest.{ComparesLine, DropsLine, IsComparedLine, Taken}
use Rattle.fam_tasks.specs.Sound.{IsSound, IsSoundAt, IsWantedLine}
use Rattle.fam_tasks.specs.Tells.{Tells}
use Rattle.fam_tasks.proofs.FileLines.{same_proper, verify_kept}
use Rattle.fam_tasks.proofs.FileTurns.{no_words}
use Rattle.fam_tasks.proofs.Keeping.{keeps_same}
use Rattle.fam_tasks.proofs.Phases.{same_gate}
use Rattle.fam_tasks.proofs.Rest.{first_taken, next_taken, six_taken, turn_in, word_goes}

-- the line is wanted still
same_wanted : (t : Task) (j : ℕ) (phase : Phase) (words : List ℕ) → IsWantedLine j t → IsWantedLine j (record t { phase = phase; words = words })
same_wanted t j phase words line =
    let u : Task = record t { phase = phase; words = words } in
    record {
      found = same_gate t u refl refl refl line.found;
      looks = line.looks;
      file = record { proper = same_proper t.entry t u refl line.file.proper; below = line.file.below };
      wanted = line.wanted;
    }

-- behind the drop
abbrev dropped : ℕ → Task → Task
dropped j t = record t { phase = at.Word File j 0 }

-- behind a word
abbrev behind : ℕ → ℕ → List ℕ → Task → Task
behind j k words t = record (with_word t (slice_index words k)) { phase = at.Word File j (k + 1) }

drop_sound : (t : Task) (j : ℕ) → t.phase ≡ at.Drop File j → IsSound t → IsSound (dropped j t)
drop_sound t j phase sound =
    let stands : IsSoundAt (at.Drop File j) t = subst (λ (p : Phase). IsSoundAt p t) phase sound.stands in
    record {
      command = sound.command;
      least = sound.least;
      most = sound.most;
      stands = (record { line = same_wanted t j (at.Word File j 0) t.words stands.0.line; few = stands.0.few }, omega arith, omega (arith, stands.1));
      kept = sound.kept;
    }

word_sound : (t : Task) (j k : ℕ) (words : List ℕ) → k < 7 → t.phase ≡ at.Word File j k → IsSound t → IsSound (behind j k words t)
word_sound t j k words small phase sound =
    let stands : IsSoundAt (at.Word File j k) t = subst (λ (p : Phase). IsSoundAt p t) phase sound.stands in
    record {
      command = sound.command;
      least = sound.least;
      most = sound.most;
      stands = (
        record { line = same_wanted t j (at.Word File j (k + 1)) (t.words ++ slice_index words k ∷ []) stands.0.line; few = stands.0.few },
        omega (arith, small),
        omega (arith, stands.2, length-append t.words (slice_index words k ∷ [])),
      );
      kept = sound.kept;
    }

word_turn_goes : (t : Task) (j k : ℕ) (words : List ℕ) → k < 7 → t.phase ≡ at.Word File j k → turn_of t (Some (slice_index words k)) ≡ Goes (behind j k words t)
word_turn_goes t j k words small phase =
    turn_in t (at.Word File j k) (Some (slice_index words k)) phase ∙ word_goes (with_word t (slice_index words k)) File j k small

-- one word more, of a sound task
record Read (line : LineNo) (words : List ℕ) (j : ℕ) (t now : Task) (k : ℕ) : Type 0 where
  pub taken : Taken line words File j t now k
  pub sound : IsSound now

read_next : (line : LineNo) (words : List ℕ) (j k : ℕ) (t now : Task) → k < 7 → Read line words j t now k → Read line words j t (behind j k words now) (k + 1)
read_next line words j k t now small read = record {
  taken = next_taken line words File j k t now (behind j k words now) read.sound small refl (word_turn_goes now j k words small read.taken.phase) read.taken;
  sound = word_sound now j k words small read.taken.phase read.sound;
}

module _ (line : LineNo) (words : List ℕ) (j : ℕ) (t : Task) (sound : IsSound t) (phase : t.phase ≡ at.Drop File j) (compared : IsComparedLine line t) where
  number : j ≡ compared.j
  number = (let both : at.Drop File j ≡ at.Drop File compared.j = sym phase ∙ compared.phase in cc)

  is : line.0 ≡ part_line t File j
  is = compared.is ∙ sym (ap (part_line t File) number)

  abbrev first : Task
  first = behind j 0 words (dropped j t)

  abbrev due : Task
  due = behind j 6 words (behind j 5 words (behind j 4 words (behind j 3 words (behind j 2 words (behind j 1 words first)))))

  begins : Read line words j first first 1
  begins = record {
    taken = first_taken line words File j first refl (record { part = File; j = j; phase = refl; is = is; within = compared.within });
    sound = word_sound (dropped j t) j 0 words (omega arith) refl (drop_sound t j phase sound);
  }

  reads : Read line words j first due 7
  reads =
      read_next line words j 6 first (behind j 5 words (behind j 4 words (behind j 3 words (behind j 2 words (behind j 1 words first))))) (omega arith)
      (read_next line words j 5 first (behind j 4 words (behind j 3 words (behind j 2 words (behind j 1 words first)))) (omega arith)
      (read_next line words j 4 first (behind j 3 words (behind j 2 words (behind j 1 words first))) (omega arith)
      (read_next line words j 3 first (behind j 2 words (behind j 1 words first)) (omega arith)
      (read_next line words j 2 first (behind j 1 words first) (omega arith)
      (read_next line words j 1 first first (omega arith) begins)))))

  -- no word is held before the line
  none_held : t.words ≡ []
  none_held =
      let stands : IsSoundAt (at.Drop File j) t = subst (λ (p : Phase). IsSoundAt p t) phase sound.stands in
      no_words t.words (stands.1 ∙ verify_kept t.cmd j compared.verify)

  -- with the last word all of the line are
  all_read : (found : List ℕ) → found ≡ eight words → with_word due (slice_index words 7) ≡ record t { phase = at.Word File j 7; words = found }
  all_read found same =
      ap (λ (held : List ℕ). record t {
        phase = at.Word File j 7;
        words =
            (((((((held ++ slice_index words 0 ∷ []) ++ slice_index words 1 ∷ []) ++ slice_index words 2 ∷ []) ++ slice_index words 3 ∷ [])
            ++ slice_index words 4 ∷ []) ++ slice_index words 5 ∷ []) ++ slice_index words 6 ∷ []) ++ slice_index words 7 ∷ [];
      }) none_held
      ∙ ap (λ (held : List ℕ). record t { phase = at.Word File j 7; words = held }) (sym same)

  -- the drop alone
  pub line_dropped : DropsLine line t (dropped j t)
  line_dropped = record {
    within = compared.within;
    op = ap (op_at t) phase ∙ ap (λ (l : ℕ). Invalidate (line_no l)) (sym is);
    turn = turn_in t (at.Drop File j) None phase;
    loads = ap (λ (l : ℕ). Load (line_no l) 0) (sym is);
    lines = refl;
  }

  -- and all loads
  pub line_compared : (found : List ℕ) (next : Task) (said : Turn) → found ≡ eight words
      → ((p : Phase) → Tells (file_turn t.cmd (record t { phase = p; words = found }) j) said next) → next.kept ≡ t.kept
      → ComparesLine line words t next said
  line_compared found next said same tells kept = record {
    dropped = dropped j t;
    drops = line_dropped;
    dropped_sound = drop_sound t j phase sound;
    begun = first;
    begins = word_turn_goes (dropped j t) j 0 words (omega arith) refl;
    due = due;
    loads = six_taken line words File j first due reads.taken;
    due_sound = reads.sound;
    due_lines = refl;
    last = ap (λ (l : ℕ). Load (line_no l) 7) (sym is);
    tells = subst (λ (u : Task). Tells (file_turn t.cmd u j) said next) (sym (all_read found same)) (tells (at.Word File j 7));
    keeps = kept ∙ sym (keeps_same due (Some (slice_index words 7)) (λ is. cc));
  }
