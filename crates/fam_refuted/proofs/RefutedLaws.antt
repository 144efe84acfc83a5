-- The five runs of the protocols that are refused.
use Rattle.std.proofs.Common.{ℕ, zero, suc, Option, Some, None, true, ◌≡◌, ◌≢◌, inr, ◌+◌, ◌-◌, ◌*◌, ◌<◌, not, List, [], ◌∷◌, ◌++◌, length, map, refl, sym, ap, subst, ◌∙◌, append_assoc, arith}
use Rattle.std.specs.Prelude.{flat_map, slice_get, slice_index, slice_set}
use Rattle.std.specs.List.{range_with_len}
use Rattle.std.proofs.lemmas.Bool.{false≢true}
use Rattle.std.proofs.lemmas.List.{append-nil, get_or-set_same, length-map, map-append}
use Rattle.std.proofs.lemmas.List.FromFn.{length-map-range_with_len}
use Rattle.fam_base.specs.Image.{line_at}
use Rattle.fam_format.specs.Layout.{Geometry, geometry, gate_line, slot_line}
use Rattle.fam_format.specs.Reading.{Lines, slot_words, slot_word}
use Rattle.fam_format.specs.Slot.{entry_of, spelling}
use Rattle.fam_format.proofs.Formats.{shape, either}
use Rattle.fam_format.proofs.EntryLawsProofs.{spelling_count, spelling_read}
use Rattle.fam_machine.specs.declared.cell.Cell.TheVariants.{Absent}
use Rattle.fam_machine.specs.declared.op.Op.{Op}
use Rattle.fam_machine.specs.declared.op.Op.TheVariants.{Load, Store, WriteBack, Fence, Invalidate, Digest}
use Rattle.fam_commands.specs.Table.{data_ops}
use Rattle.fam_machine.specs.Operations.{load_ops, store_ops, line_no}
use Rattle.fam_commands.specs.Task.{content_of}
use Rattle.fam_rules.specs.Asks.{File}
use Rattle.fam_rules.specs.Content.{content_line, fill}
use Rattle.fam_rules.specs.Written.{file_line, lines_of, slot_part}
use Rattle.fam_protocol.specs.SharedState.{SharedState}
use Rattle.fam_protocol.specs.Lines.{gate_of}
use Rattle.fam_commands.specs.Turns.{first_store}
use Rattle.fam_protocol.specs.After.{Run}
use Rattle.fam_protocol.specs.Invariant.{Known, Invariant, solo, held_file}
use Rattle.fam_refuted.proofs.Runs.{are_here, ran_on}
use Rattle.fam_refuted.proofs.Appends.{AreDrops, all_drops, appends_answers, master_is, reader_is, run_at, invariant_answers, invariant_drops, invariant_fetches, invariant_named, with_run}
use Rattle.fam_refuted.specs.Refused.{Step, Does, Transfers, at_slots, is_drop, Scene, Begins, RanSteps, Misleads, Misreads, Misses, TearsEntry, AnswersSettled, IsPublished, IsWrong, all_by, answers_early, appends, drops, drops_early, drops_gate, fetches, fetches_gate, fetches_slot, gate_first, history, keeps_gate, keeps_slots, next, old_history, reads_gate, reads_slot, reads_well, sends_gate, sends_late, slot_lines, stores_gate, without_drops, writes_slot}
use Rattle.fam_protocol.proofs.Lines.Apart.{last_member, line_behind, slot_no_file, slots_apart}
use Rattle.fam_machine.proofs.WideLines.{eight_whole}
use Rattle.fam_protocol.proofs.Lines.Publish.{slot_of_parts}
use Rattle.fam_protocol.proofs.Lines.Stored.{part_length}
use Rattle.fam_refuted.proofs.Scenes.{may, read, sound}
use Rattle.fam_refuted.proofs.Phases.{Who, Master, Reader, Which, Slot, Gate, IsThere, View, Phase, AtSlot, AtGate, Elsewhere, Sending, line, IsApart, AreAway, AreElsewhere, Loaded, Shown, all_away, both_away, some_away, load_away, loads_at, loads_in, PassedAll, all_elsewhere, pass_all, steps_of, steps_of_all, then, then_all, words_of, words_of_all}

-- Lists.

-- what is done before a list's rest
split_at : (host : ℕ) (xs ys zs : List Op) → all_by host (xs ++ ys ++ zs) ≡ all_by host xs ++ all_by host (ys ++ zs)
split_at host [] ys zs = refl
split_at host (x ∷ xs) ys zs = ap (λ (steps : List Step). all_by host (x ∷ []) ++ steps) (split_at host xs ys zs)

-- a range in two parts
flat_split : (f : ℕ → List Op) (from n m total start : ℕ) → n + m ≡ total → from + n ≡ start
    → flat_map f (range_with_len from total) ≡ flat_map f (range_with_len from n) ++ flat_map f (range_with_len start m)
flat_split f from zero m total start whole at =
    ap (λ (k : ℕ). flat_map f (range_with_len from k)) (omega (arith, whole)) ∙ ap (λ (k : ℕ). flat_map f (range_with_len k m)) (omega (arith, at))
flat_split f from (suc n) m zero start whole at = absurd (omega (arith, whole))
flat_split f from (suc n) m (suc total) start whole at =
    ap (λ (ops : List Op). f from ++ ops) (flat_split f (from + 1) n m total start (omega (arith, whole)) (omega (arith, at)))
    ∙ sym (append_assoc (f from) (flat_map f (range_with_len (from + 1) n)) (flat_map f (range_with_len start m)))

-- a line after each of its words was stored
abbrev stored_all : List ℕ → List ℕ → List ℕ
stored_all new old =
    slice_set (slice_set (slice_set
    (slice_set (slice_set (slice_set (slice_set (slice_set old 0 (slice_index new 0)) 1 (slice_index new 1)) 2 (slice_index new 2)) 3
    (slice_index new 3)) 4 (slice_index new 4)) 5 (slice_index new 5)) 6 (slice_index new 6)) 7 (slice_index new 7)

-- What the steps are.

abbrev fetch : Phase
fetch = AtSlot Reader (λ j. Transfers 0 0 ∷ [])

abbrev drop : Phase
drop = AtSlot Reader (λ j. all_by 0 (Invalidate (line_no 0) ∷ []))

abbrev load : Phase
load = AtSlot Reader (λ j. all_by 0 (map (λ k. Load (line_no 0) k) (range_with_len 0 8)))

abbrev drop_load : Phase
drop_load = AtSlot Reader (λ j. all_by 0 (load_ops 0 8))

abbrev think : Phase
think = Elsewhere Reader (Digest ∷ [])

abbrev read_gate : Phase
read_gate = AtGate Reader (all_by 0 reads_gate)

module _ (c : Scene) where
  abbrev memory : Lines
  memory = line_at c.image

  abbrev new_words : List ℕ
  new_words = spelling (geometry c.params) c.entry (next c)

  -- the lines of a slot
  abbrev lines : ℕ
  lines = (geometry c.params).lines

  abbrev put_data : Phase
  put_data = Elsewhere Master (data_ops c.entry (content_of c.cmd))

  abbrev put_slot : Phase
  put_slot = AtSlot Master (λ j. all_by 0 (store_ops 0 (slot_part new_words j) ++ WriteBack (line_no 0) ∷ []))

  abbrev send : Phase
  send = Sending Master

  abbrev move_gate : Phase
  move_gate = AtGate Master (all_by 0 (stores_gate c) ++ Transfers 0 0 ∷ [])

  abbrev ask_gate : Phase
  ask_gate = AtGate Master (all_by 0 (WriteBack (line_no gate_line) ∷ []))

  abbrev put_gate : Phase
  put_gate = AtGate Master (all_by 0 (Store (line_no gate_line) 0 (next c + 1) ∷ WriteBack (line_no gate_line) ∷ []))

  abbrev host : Who → ℕ
  host Master = c.master
  host Reader = c.reader

  -- what memory and caches show at first
  abbrev at_first : View
  at_first = record { words = λ w. memory (line c.params (next c) w); cell = λ h w. Absent }

  module _ (begins : Begins c) where
    -- the file's lines are apart from the slot's and the gate's
    file_apart : (j : ℕ) → j < lines_of c.entry.size → IsApart c.params (next c) (file_line c.entry j)
    file_apart j below (Slot k) there e =
        absurd (slot_no_file c.params (next c) c.entry (file_line c.entry j) (sound c begins) (may c begins).left (may c begins).proper
        (k, there, sym e) (j, omega (arith, below), refl))
    file_apart j below Gate there e =
        absurd (omega (
          arith,
          e,
          line_behind c.params (next c) c.entry (file_line c.entry j) (sound c begins) (may c begins).left
              (may c begins).proper (inr (j, omega (arith, below), refl)),
        ))

    -- a line of the file is stored and sent
    abbrev data_line : ℕ → List Op
    data_line j = store_ops (file_line c.entry j) (content_line (content_of c.cmd) c.entry.size j) ++ Invalidate (line_no (file_line c.entry j)) ∷ []

    line_elsewhere : (j : ℕ) → j < lines_of c.entry.size → AreElsewhere c.params (next c) (data_line j)
    line_elsewhere j below =
        let at : IsApart c.params (next c) (file_line c.entry j) = file_apart j below in
        (at, (at, (at, (at, (at, (at, (at, (at, (at, tt)))))))))

    data_elsewhere : AreElsewhere c.params (next c) (data_ops c.entry (content_of c.cmd))
    data_elsewhere = all_elsewhere c.params (next c) data_line 0 (lines_of c.entry.size) (λ j low high. line_elsewhere j (omega (arith, high)))

    two : host Master ≢ host Reader
    two = begins.hosts

    shown : Shown c.params (next c) host two (solo c.image) at_first
    shown = record { words = λ w there. refl; cell = λ h w there. refl; unasked = λ h l apart asked. false≢true asked }

    -- phases
    abbrev Goes : List Phase → SharedState → View → Type 0
    Goes phases s v = PassedAll c.params (next c) host two phases s v

    -- a run of them, with the words that they give
    ran_as : (phases : List Phase) (s : SharedState) (v : View) (run : List Step) (words : List ℕ) (went : Goes phases s v)
        → steps_of_all c.params (next c) host two lines phases ≡ run → words_of_all lines phases v ≡ words → RanSteps run words s went.after
    ran_as phases s v run words went steps given =
        subst (λ (steps : List Step). RanSteps steps words s went.after) steps
        (subst (λ (words : List ℕ). RanSteps (steps_of_all c.params (next c) host two lines phases) words s went.after) given went.ran)

    -- the new file, the last of the history
    abbrev file : File
    file = record { entry = c.entry; bytes = fill (content_of c.cmd) c.entry.size }

    listed : slice_get (history c) (next c) ≡ Some file
    listed = subst (λ (n : ℕ). slice_get (history c) n ≡ Some file) (length-map c.entries (held_file memory)) (last_member (old_history c) file)

    -- words of a line of the slot, as the master stored them
    part_stored : (j : ℕ) → j < lines → stored_all (slot_part new_words j) (memory (slot_line c.params (next c) j)) ≡ slot_part new_words j
    part_stored j there = eight_whole (slot_part new_words j) (part_length new_words j (omega (arith, there, spelling_count c.params c.entry (next c), (shape c.params).words)))

    -- the gate that it stored
    new_gate : slice_index (slice_set (memory gate_line) 0 (next c + 1)) 0 ≡ next c + 1
    new_gate = get_or-set_same (memory gate_line) 0 (next c + 1) 0 (omega arith)

    old_gate : gate_of (memory gate_line) ≡ next c
    old_gate = sym (read c begins).count

    -- what the master put is published
    published : (s : SharedState) →
        ((j : ℕ) → j < lines → s.memory (slot_line c.params (next c) j) ≡ stored_all (slot_part new_words j) (memory (slot_line c.params (next c) j)))
        → s.memory gate_line ≡ slice_set (memory gate_line) 0 (next c + 1) → IsPublished c s
    published s slot gate = record {
      gate = ap gate_of gate ∙ new_gate;
      slot = ap (λ (words : List ℕ). entry_of c.params words (next c))
          (slot_of_parts s.memory c.params (next c) new_words (spelling_count c.params c.entry (next c))
          (λ j there. slot j there ∙ part_stored j there))
          ∙ spelling_read c.params c.entry (next c) (may c begins).proper;
    }

    whole : length (slot_words memory c.params (next c)) ≡ (geometry c.params).words
    unfolding slot_words
    whole = length-map-range_with_len (slot_word memory c.params (next c)) 0 (geometry c.params).words

    -- the new gate, words of the slots before, and the slot's old words
    stale : (given before : List ℕ) → given ≡ (next c + 1) ∷ before ++ slot_words memory c.params (next c) → length before ≡ (geometry c.params).words * next c → IsWrong c given
    stale given before are phase = record {
      before = before;
      words = slot_words memory c.params (next c);
      are = are;
      phase = phase;
      whole = whole;
      file = file;
      is = listed;
      wrong = begins.other;
    }

    -- Another slot's lines are apart from this one's and the gate's.

    slot_apart : (i j : ℕ) → i ≢ next c → j < lines → IsApart c.params (next c) (slot_line c.params i j)
    slot_apart i j other below (Slot k) there e = absurd (other (sym (slots_apart c.params (next c) i k j there below e).0))
    slot_apart i j other below Gate there e = absurd (omega (arith, e, (shape c.params).lines))

    -- so are the operations of a read of it
    line_away : (i j : ℕ) → i ≢ next c → j < lines → AreAway c.params (next c) (load_ops (slot_line c.params i j) 8)
    line_away i j other below =
        let at : IsApart c.params (next c) (slot_line c.params i j) = slot_apart i j other below in
        (at, (at, (at, (at, (at, (at, (at, (at, (at, tt)))))))))

    slot_away : (i : ℕ) → i ≢ next c → AreAway c.params (next c) (reads_slot c i)
    slot_away i other =
        both_away c.params (next c) (flat_map (λ j. load_ops (slot_line c.params i j) 8) (range_with_len 0 lines)) (Digest ∷ [])
        (all_away c.params (next c) (λ j. load_ops (slot_line c.params i j) 8) 0 lines (λ j low high. line_away i j other (omega (arith, high))))
        (tt, tt)

    kept_away : (i : ℕ) → i ≢ next c → AreAway c.params (next c) (without_drops (reads_slot c i))
    kept_away i other = some_away c.params (next c) (λ op. not (is_drop op)) (reads_slot c i) (slot_away i other)

    -- a read of a slot, without the Digest
    abbrev loaded_lines : ℕ → ℕ → List Op
    loaded_lines i count = flat_map (λ j. load_ops (slot_line c.params i j) 8) (range_with_len 0 count)

    -- its drops
    drops_are : (i : ℕ) → drops (reads_slot c i) ≡ flat_map (λ j. Invalidate (line_no (slot_line c.params i j)) ∷ []) (range_with_len 0 lines)
    drops_are i =
        either (λ (g : Geometry). drops (loaded_lines i g.lines ++ Digest ∷ []) ≡ flat_map (λ j. Invalidate (line_no (slot_line c.params i j)) ∷ []) (range_with_len 0 g.lines)) refl refl c.params

    dropped_elsewhere : (i : ℕ) → i ≢ next c → AreElsewhere c.params (next c) (drops (reads_slot c i))
    dropped_elsewhere i other =
        subst (AreElsewhere c.params (next c)) (sym (drops_are i))
        (all_elsewhere c.params (next c) (λ j. Invalidate (line_no (slot_line c.params i j)) ∷ []) 0 lines (λ j low high. (slot_apart i j other (omega (arith, high)), tt)))

    -- The reader loads the gate, and then the slots that it counts.

    record HasRead (ops : ℕ → List Op) (slot : ℕ → List Step) (s : SharedState) (v : View) : Type 0 where
      given : List ℕ
      after : SharedState
      ran : RanSteps (all_by c.reader (reads_gate ++ at_slots ops (next c + 1))) given s after
      wrong : IsWrong c given
      shown : Shown c.params (next c) host two after (then_all (read_gate ∷ AtSlot Reader slot ∷ think ∷ []) v)

    slots_split : (ops : ℕ → List Op) → at_slots ops (next c + 1) ≡ at_slots ops (next c) ++ (ops (next c) ++ [])
    slots_split ops = flat_split ops 0 (next c) 1 (next c + 1) (next c) (omega arith) (omega arith)

    reads_by : (ops : ℕ → List Op) → all_by c.reader (reads_gate ++ at_slots ops (next c + 1)) ≡ all_by c.reader reads_gate
        ++ (all_by c.reader (at_slots ops (next c)) ++ all_by c.reader (ops (next c) ++ []))
    reads_by ops =
        ap (λ (more : List Op). all_by c.reader (reads_gate ++ more)) (slots_split ops)
        ∙ ap (λ (more : List Step). all_by c.reader reads_gate ++ more) (map-append (Does c.reader) (at_slots ops (next c)) (ops (next c) ++ []))

    read_slots : (ops : ℕ → List Op) (slot : ℕ → List Step) (s : SharedState) (v : View) → ((j : ℕ) → are_here (slot j) ≡ true)
        → Shown c.params (next c) host two s v → ((i : ℕ) → i ≢ next c → AreAway c.params (next c) (ops i))
        → ((i : ℕ) → loads_in (ops i) ≡ (geometry c.params).words)
        → steps_of_all c.params (next c) host two lines (AtSlot Reader slot ∷ think ∷ []) ≡ all_by c.reader (ops (next c) ++ [])
        → words_of_all lines (read_gate ∷ []) v ≡ (next c + 1) ∷ []
        → words_of_all lines (AtSlot Reader slot ∷ think ∷ []) (then_all (read_gate ∷ []) v) ≡ slot_words memory c.params (next c)
        → HasRead ops slot s v
    read_slots ops slot s v here shown away loads steps gate words =
        let first : Goes (read_gate ∷ []) s v = pass_all c.params (next c) host two (read_gate ∷ []) s v shown (refl, tt) in
        let w = then_all (read_gate ∷ []) v in
        let before : Loaded c.params (next c) host two Reader (at_slots ops (next c)) first.after w =
        load_away c.params (next c) host two Reader (at_slots ops (next c)) first.after w first.shown
        (all_away c.params (next c) ops 0 (next c) (λ i low high. away i (λ e. omega (arith, e, high)))) in
        let last : Goes (AtSlot Reader slot ∷ think ∷ []) before.after w = pass_all c.params (next c) host two (AtSlot Reader slot ∷ think ∷ []) before.after w before.shown (here, ((tt, tt), tt)) in
        let gate_ran : RanSteps (all_by c.reader reads_gate) ((next c + 1) ∷ []) s first.after = ran_as (read_gate ∷ []) s v (all_by c.reader reads_gate) _ first refl gate in
        let last_ran : RanSteps (all_by c.reader (ops (next c) ++ [])) (slot_words memory c.params (next c)) before.after last.after =
        ran_as (AtSlot Reader slot ∷ think ∷ []) before.after w _ _ last steps words in
        record {
          given = (next c + 1) ∷ (before.words ++ slot_words memory c.params (next c));
          after = last.after;
          ran = subst (λ (steps : List Step). RanSteps steps ((next c + 1) ∷ (before.words ++ slot_words memory c.params (next c))) s last.after)
              (sym (reads_by ops)) (ran_on gate_ran (ran_on before.ran last_ran));
          wrong = stale _ before.words refl (before.count ∙ loads_at ops (geometry c.params).words 0 (next c) loads);
          shown = last.shown;
        }

    -- The master appends, and answers.

    abbrev put : List Phase
    put = put_data ∷ put_slot ∷ send ∷ put_gate ∷ send ∷ []

    -- the master's stores of the slot
    put_steps : steps_of c.params (next c) host two lines put_slot ≡ all_by c.master (writes_slot c)
    put_steps =
        either (λ (g : Geometry). steps_of c.params (next c) host two g.lines put_slot
        ≡ all_by c.master (flat_map (λ j. store_ops (slot_line c.params (next c) j) (slot_part new_words j)
        ++ WriteBack (line_no (slot_line c.params (next c) j)) ∷ []) (range_with_len 0 g.lines))) refl refl c.params

    -- and what it does behind them
    slot_then : (rest : List Op) → steps_of c.params (next c) host two lines put_slot ++ all_by c.master rest ≡ all_by c.master (writes_slot c ++ rest)
    slot_then rest = ap (λ (steps : List Step). steps ++ all_by c.master rest) put_steps ∙ sym (map-append (Does c.master) (writes_slot c) rest)

    -- they give no words
    put_gives : (v : View) → words_of lines put_slot v ≡ []
    put_gives v = either (λ (g : Geometry). words_of g.lines put_slot v ≡ []) refl refl c.params

    append_steps : steps_of_all c.params (next c) host two lines put ≡ all_by c.master (appends c)
    append_steps =
        ap (λ (steps : List Step). all_by c.master (data_ops c.entry (content_of c.cmd)) ++ steps) (slot_then (Fence ∷ stores_gate c ++ sends_gate))
        ∙ sym (split_at c.master (data_ops c.entry (content_of c.cmd)) (writes_slot c) (Fence ∷ stores_gate c ++ sends_gate))

    -- behind early moves of the reader
    record Answered (early : List Step) (v : View) : Type 0 where
      after : SharedState
      began : RanSteps (early ++ all_by c.master (appends c)) [] (solo c.image) after
      answered : AnswersSettled c after
      shown : Shown c.params (next c) host two after (then_all put v)

    abbrev named : Option Run
    named = Some (run_at c (first_store c.entry.size))

    append_behind : (early : List Step) (s : SharedState) (v : View) → RanSteps early [] (solo c.image) s → Shown c.params (next c) host two s v
        → Invariant (Known c.params (history c) (next c)) (length c.image) (with_run c named) s → Answered early v
    append_behind early s v ran shown invariant =
        let went : Goes put s v = pass_all c.params (next c) host two put s v shown (data_elsewhere, ((λ j. refl), (tt, (refl, (tt, tt))))) in
        let appended : RanSteps (all_by c.master (appends c)) [] s went.after = ran_as put s v (all_by c.master (appends c)) [] went append_steps
        (ap (λ (words : List ℕ). words ++ []) (put_gives (then put_data v))) in
        record {
          after = went.after;
          began = ran_on ran appended;
          answered = record {
            hosts = with_run c None;
            master = master_is c begins;
            reader = λ none. absurd (let is = reader_is c begins in cc);
            invariant = invariant_answers c begins (appends_answers c) appended invariant;
          };
          shown = went.shown;
        }

    -- The slot's lines aren't dropped behind the gate.

    kept_words : slot_words memory c.params (next c) ≡ words_of_all lines (load ∷ think ∷ []) (then_all (fetch ∷ put_data ∷ put_slot ∷ send ∷ put_gate ∷ send ∷ read_gate ∷ []) at_first)
    unfolding slot_words
    kept_words =
        either (λ (g : Geometry). map (slot_word memory c.params (next c)) (range_with_len 0 g.words) ≡ words_of_all g.lines (load ∷ think ∷ [])
        (then_all (fetch ∷ put_data ∷ put_slot ∷ send ∷ put_gate ∷ send ∷ read_gate ∷ []) at_first)) refl refl c.params

    -- as many words are loaded as of a slot
    kept_loads : (i : ℕ) → loads_in (without_drops (reads_slot c i)) ≡ (geometry c.params).words
    kept_loads i = either (λ (g : Geometry). loads_in (without_drops (loaded_lines i g.lines ++ Digest ∷ [])) ≡ g.words) refl refl c.params

    kept_steps : steps_of_all c.params (next c) host two lines (load ∷ think ∷ []) ≡ all_by c.reader (without_drops (reads_slot c (next c)) ++ [])
    kept_steps = either (λ (g : Geometry). steps_of_all c.params (next c) host two g.lines (load ∷ think ∷ [])
        ≡ all_by c.reader (without_drops (loaded_lines (next c) g.lines ++ Digest ∷ []) ++ [])) refl refl c.params

    gate_words : (next c + 1) ∷ [] ≡ words_of_all lines (read_gate ∷ []) (then_all (fetch ∷ put) at_first)
    gate_words = ap (λ (gate : ℕ). gate ∷ []) (sym new_gate)

    read_kept : (early : List Step) → Answered early (then_all (fetch ∷ []) at_first) → Misreads c (early ++ all_by c.master (appends c)) (keeps_slots c)
    read_kept early done =
        let read = read_slots (λ i. without_drops (reads_slot c i)) (λ j. all_by 0 (map (λ k. Load (line_no 0) k) (range_with_len 0 8))) done.after
        (then_all (fetch ∷ put) at_first) (λ j. refl) done.shown kept_away kept_loads kept_steps (sym gate_words) (sym kept_words) in
        record { middle = done.after; began = done.began; answered = done.answered; given = read.given; after = read.after; ran = read.ran; wrong = read.wrong }

    -- the early fetch
    fetch_steps : steps_of_all c.params (next c) host two lines (fetch ∷ []) ≡ fetches c.reader (slot_lines c)
    fetch_steps = either (λ (g : Geometry). steps_of_all c.params (next c) host two g.lines (fetch ∷ [])
        ≡ fetches c.reader (map (λ j. slot_line c.params (next c) j) (range_with_len 0 g.lines))) refl refl c.params

    fetch_gives : words_of_all lines (fetch ∷ []) at_first ≡ []
    fetch_gives = either (λ (g : Geometry). words_of_all g.lines (fetch ∷ []) at_first ≡ []) refl refl c.params

    -- they are never dropped
    pub no_drop : Misreads c (fetches_slot c) (keeps_slots c)
    no_drop =
        let first : Goes (fetch ∷ []) (solo c.image) at_first = pass_all c.params (next c) host two (fetch ∷ []) (solo c.image) at_first shown ((λ j. refl), tt) in
        let ran : RanSteps (fetches c.reader (slot_lines c)) [] (solo c.image) first.after = ran_as (fetch ∷ []) (solo c.image) at_first
        (fetches c.reader (slot_lines c)) [] first fetch_steps fetch_gives in
        read_kept (fetches c.reader (slot_lines c))
        (append_behind (fetches c.reader (slot_lines c)) first.after (then_all (fetch ∷ []) at_first) ran first.shown
        (invariant_fetches c begins (slot_lines c) (next c) (history c) named ran (invariant_named c begins)))

    -- a drop of what isn't there changes nothing
    module _ (s : SharedState) (dropped : Shown c.params (next c) host two s (then_all (drop ∷ []) at_first)) where
      words_there : (w : Which) → IsThere c.params w → s.memory (line c.params (next c) w) ≡ at_first.words w
      words_there (Slot j) there = dropped.words (Slot j) there
      words_there Gate there = dropped.words Gate there

      cell_there : (h : Who) (w : Which) → IsThere c.params w → s.copy (host h) (line c.params (next c) w) ≡ at_first.cell h w
      cell_there Master (Slot j) there = dropped.cell Master (Slot j) there
      cell_there Reader (Slot j) there = dropped.cell Reader (Slot j) there
      cell_there h Gate there = dropped.cell h Gate there

      still : Shown c.params (next c) host two s at_first
      still = record { words = words_there; cell = cell_there; unasked = dropped.unasked }

    -- every slot of the log is dropped
    abbrev dropped : ℕ → List Op
    dropped i = drops (reads_slot c i)

    rest : ℕ
    rest = c.params.slots - (next c + 1)

    rest_is : next c + suc rest ≡ c.params.slots
    unfolding rest
    rest_is = omega (arith, (may c begins).left)

    abbrev drop_all : List Phase
    drop_all = Elsewhere Reader (at_slots dropped (next c)) ∷ drop ∷ Elsewhere Reader (flat_map dropped (range_with_len (next c + 1) rest)) ∷ []

    -- those of the new slot among them
    dropped_steps : steps_of c.params (next c) host two lines drop ≡ all_by c.reader (dropped (next c))
    dropped_steps = either (λ (g : Geometry). steps_of c.params (next c) host two g.lines drop ≡ all_by c.reader (drops (loaded_lines (next c) g.lines ++ Digest ∷ []))) refl refl c.params

    drop_gives : words_of_all lines drop_all at_first ≡ []
    drop_gives = either (λ (g : Geometry). words_of_all g.lines drop_all at_first ≡ []) refl refl c.params

    -- drops alone
    are_drops : (i : ℕ) → AreDrops (dropped i)
    are_drops i = subst AreDrops (sym (drops_are i)) (all_drops (λ j. Invalidate (line_no (slot_line c.params i j)) ∷ []) 0 lines (λ j. tt))

    drop_steps : steps_of_all c.params (next c) host two lines drop_all ≡ all_by c.reader (at_slots dropped c.params.slots)
    drop_steps =
        let later = flat_map dropped (range_with_len (next c + 1) rest) in
        ap (λ (here : List Step). all_by c.reader (at_slots dropped (next c)) ++ (here ++ (all_by c.reader later ++ []))) dropped_steps
        ∙ ap (λ (more : List Step). all_by c.reader (at_slots dropped (next c)) ++ (all_by c.reader (dropped (next c)) ++ more)) (append-nil (all_by c.reader later))
        ∙ ap (λ (more : List Step). all_by c.reader (at_slots dropped (next c)) ++ more) (sym (map-append (Does c.reader) (dropped (next c)) later))
        ∙ sym (map-append (Does c.reader) (at_slots dropped (next c)) (dropped (next c) ++ later)) ∙ ap (λ (ops : List Op). all_by c.reader ops)
        (sym (flat_split dropped 0 (next c) (suc rest) c.params.slots (next c) rest_is (omega arith)))

    -- they are dropped before
    pub early_drop : Misreads c (drops_early c) (keeps_slots c)
    early_drop =
        let first : Goes drop_all (solo c.image) at_first =
        pass_all c.params (next c) host two drop_all (solo c.image) at_first shown (
          all_elsewhere c.params (next c) dropped 0 (next c) (λ i low high. dropped_elsewhere i (λ e. omega (arith, e, high))),
          (
            (λ j. refl),
            (
              all_elsewhere c.params (next c) dropped (next c + 1) rest (λ i low high. dropped_elsewhere i (λ e. omega (arith, e, low))),
              tt,
            ),
          ),
        ) in
        let early = all_by c.reader (at_slots dropped c.params.slots) in
        let gone : RanSteps early [] (solo c.image) first.after = ran_as drop_all (solo c.image) at_first early [] first drop_steps drop_gives in
        let second : Goes (fetch ∷ []) first.after at_first = pass_all c.params (next c) host two (fetch ∷ []) first.after at_first (still first.after first.shown) ((λ j. refl), tt) in
        let ran : RanSteps (fetches c.reader (slot_lines c)) [] first.after second.after = ran_as (fetch ∷ []) first.after at_first
        (fetches c.reader (slot_lines c)) [] second fetch_steps fetch_gives in
        read_kept (early ++ fetches c.reader (slot_lines c))
        (append_behind (early ++ fetches c.reader (slot_lines c)) second.after (then_all (fetch ∷ []) at_first) (ran_on gone ran) second.shown
        (invariant_fetches c begins (slot_lines c) (next c) (history c) named ran
        (invariant_drops c begins (at_slots dropped c.params.slots) (next c) (history c) named (all_drops dropped 0 c.params.slots are_drops) gone
        (invariant_named c begins))))

    -- The gate's line isn't dropped.
    pub no_gate_drop : Misses c (fetches_gate c) (keeps_gate c)
    no_gate_drop =
        let fetch_gate = AtGate Reader (Transfers 0 0 ∷ []) ∷ [] in
        let first : Goes fetch_gate (solo c.image) at_first = pass_all c.params (next c) host two fetch_gate (solo c.image) at_first shown (refl, tt) in
        let ran : RanSteps (fetches c.reader (gate_line ∷ [])) [] (solo c.image) first.after = first.ran in
        let done : Answered (fetches c.reader (gate_line ∷ [])) (then_all fetch_gate at_first) =
        append_behind (fetches c.reader (gate_line ∷ [])) first.after (then_all fetch_gate at_first) ran first.shown
        (invariant_fetches c begins (gate_line ∷ []) (next c) (history c) named ran (invariant_named c begins)) in
        let keep_gate = AtGate Reader (all_by 0 (without_drops reads_gate)) ∷ [] in
        let v = then_all put (then_all fetch_gate at_first) in
        let went : Goes keep_gate done.after v = pass_all c.params (next c) host two keep_gate done.after v done.shown (refl, tt) in
        record {
          middle = done.after;
          began = done.began;
          answered = done.answered;
          gate = next c;
          after = went.after;
          ran = ran_as keep_gate done.after v (keeps_gate c) (next c ∷ []) went refl (ap (λ (gate : ℕ). gate ∷ []) old_gate);
          low = omega arith;
        }

    -- The gate is sent before the slot.

    abbrev put_early : List Phase
    put_early = put_data ∷ put_slot ∷ move_gate ∷ []

    torn_words : slot_words memory c.params (next c) ≡ words_of_all lines (drop_load ∷ think ∷ []) (then_all (put_data ∷ put_slot ∷ move_gate ∷ read_gate ∷ []) at_first)
    unfolding slot_words
    torn_words =
        either (λ (g : Geometry). map (slot_word memory c.params (next c)) (range_with_len 0 g.words) ≡ words_of_all g.lines (drop_load ∷ think ∷ [])
        (then_all (put_data ∷ put_slot ∷ move_gate ∷ read_gate ∷ []) at_first)) refl refl c.params

    torn_loads : (i : ℕ) → loads_in (reads_slot c i) ≡ (geometry c.params).words
    torn_loads i = either (λ (g : Geometry). loads_in (loaded_lines i g.lines ++ Digest ∷ []) ≡ g.words) refl refl c.params

    torn_steps : steps_of_all c.params (next c) host two lines (drop_load ∷ think ∷ []) ≡ all_by c.reader (reads_slot c (next c) ++ [])
    torn_steps = either (λ (g : Geometry). steps_of_all c.params (next c) host two g.lines (drop_load ∷ think ∷ [])
        ≡ all_by c.reader ((loaded_lines (next c) g.lines ++ Digest ∷ []) ++ [])) refl refl c.params

    torn_gate : (next c + 1) ∷ [] ≡ words_of_all lines (read_gate ∷ []) (then_all put_early at_first)
    torn_gate = ap (λ (gate : ℕ). gate ∷ []) (sym new_gate)

    early_steps : steps_of_all c.params (next c) host two lines put_early ≡ gate_first c
    early_steps =
        ap (λ (steps : List Step). all_by c.master (data_ops c.entry (content_of c.cmd)) ++ steps)
        (sym (append_assoc (steps_of c.params (next c) host two lines put_slot) (all_by c.master (stores_gate c)) (Transfers c.master gate_line ∷ []))
        ∙ ap (λ (steps : List Step). steps ++ Transfers c.master gate_line ∷ []) (slot_then (stores_gate c)))
        ∙ sym (append_assoc (all_by c.master (data_ops c.entry (content_of c.cmd))) (all_by c.master (writes_slot c ++ stores_gate c)) (Transfers c.master gate_line ∷ []))
        ∙ ap (λ (steps : List Step). steps ++ Transfers c.master gate_line ∷ []) (sym (split_at c.master (data_ops c.entry (content_of c.cmd)) (writes_slot c) (stores_gate c)))

    pub early_gate : TearsEntry c (gate_first c) (reads_well c) (sends_late c)
    early_gate =
        let first : Goes put_early (solo c.image) at_first = pass_all c.params (next c) host two put_early (solo c.image) at_first shown (data_elsewhere, ((λ j. refl), (refl, tt))) in
        let v = then_all put_early at_first in
        let read = read_slots (λ i. reads_slot c i) (λ j. all_by 0 (load_ops 0 8)) first.after v (λ j. refl) first.shown slot_away torn_loads torn_steps (sym torn_gate) (sym torn_words) in
        let w = then_all (read_gate ∷ drop_load ∷ think ∷ []) v in
        let last : Goes (ask_gate ∷ send ∷ []) read.after w = pass_all c.params (next c) host two (ask_gate ∷ send ∷ []) read.after w read.shown (refl, (tt, tt)) in
        record {
          middle = first.after;
          began = ran_as put_early (solo c.image) at_first (gate_first c) [] first early_steps (ap (λ (words : List ℕ). words ++ []) (put_gives (then put_data at_first)));
          given = read.given;
          later = read.after;
          ran = read.ran;
          wrong = read.wrong;
          after = last.after;
          ended = ran_as (ask_gate ∷ send ∷ []) read.after w (sends_late c) [] last refl refl;
          published = published last.after (λ j there. last.shown.words (Slot j) there) (last.shown.words Gate tt);
        }

    -- The answer comes before the gate is sent.

    abbrev put_unfenced : List Phase
    put_unfenced = put_data ∷ put_slot ∷ send ∷ put_gate ∷ []

    unfenced_steps : steps_of_all c.params (next c) host two lines put_unfenced ≡ answers_early c
    unfenced_steps =
        ap (λ (steps : List Step). all_by c.master (data_ops c.entry (content_of c.cmd)) ++ steps) (slot_then (Fence ∷ Store (line_no gate_line) 0 (next c + 1) ∷ WriteBack (line_no gate_line) ∷ []))
        ∙ sym (split_at c.master (data_ops c.entry (content_of c.cmd)) (writes_slot c) (Fence ∷ Store (line_no gate_line) 0 (next c + 1) ∷ WriteBack (line_no gate_line) ∷ []))

    pub early_answer : Misleads c (answers_early c) (drops_gate c)
    early_answer =
        let first : Goes put_unfenced (solo c.image) at_first = pass_all c.params (next c) host two put_unfenced (solo c.image) at_first shown (data_elsewhere, ((λ j. refl), (tt, (refl, tt)))) in
        let v = then_all put_unfenced at_first in
        let went : Goes (read_gate ∷ []) first.after v = pass_all c.params (next c) host two (read_gate ∷ []) first.after v first.shown (refl, tt) in
        record {
          middle = first.after;
          began = ran_as put_unfenced (solo c.image) at_first (answers_early c) [] first unfenced_steps (ap (λ (words : List ℕ). words ++ []) (put_gives (then put_data at_first)));
          gate = next c;
          after = went.after;
          ran = ran_as (read_gate ∷ []) first.after v (drops_gate c) (next c ∷ []) went refl (ap (λ (gate : ℕ). gate ∷ []) old_gate);
          low = omega arith;
        }
