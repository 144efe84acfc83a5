-- The operations of a host that nothing interrupts are those of a command alone, and what the journal has of them.
use Prim.Native.Nat.{zero, suc}
use Rattle.std.proofs.Common.{◌≡◌, ℕ, ◌+◌, ◌⊎◌, inl, inr, true, false, List, [], ◌∷◌, ◌++◌, length, Option, Some, None, refl, ap, ap₂, sym, ◌∙◌, subst}
use Rattle.std.specs.Prelude.{slice_get, option_map, unwrap_or, Ok}
use Rattle.std.proofs.lemmas.List.{append-nil, append_assoc}
use Rattle.std.proofs.lemmas.Option.{same_Some}
use Rattle.fam_base.specs.declared.cmd.Cmd.{Cmd}
use Rattle.fam_base.specs.declared.entry.Entry.{Entry}
use Rattle.fam_base.specs.declared.entry.Params.{Params}
use Rattle.fam_base.specs.Image.{Image, line_at}
use Rattle.fam_machine.specs.declared.op.Op.{Op}
use Rattle.fam_machine.specs.Operations.{Machine, given, operated, IsInImage}
use Rattle.fam_commands.specs.Solo.{SoloRun, goes, notes_up_to, noted, starts, turn_on}
use Rattle.fam_commands.specs.Keeping.{kept_after, kept_by, read_by}
use Rattle.fam_commands.specs.Kept.{IsKept, Kept}
use Rattle.fam_commands.specs.Stands.{StandsFor, note_of, task_after, with_given}
use Rattle.fam_commands.specs.Table.{Row, table}
use Rattle.fam_commands.specs.Task.{Task, mounted, op_of}
use Rattle.fam_commands.specs.Turns.{Turn, Goes, Marks, Finds, Writes, Ends}
use Rattle.fam_commands.proofs.Steps.Standing.{next_operation, standing_tied}
use Rattle.fam_solo.proofs.Machine.{ran_length, ran_stands, same_turn}
use Rattle.fam_rules.specs.Solo.{content_of}
use Rattle.fam_rules.specs.Asks.{File, entries_of}
use Rattle.fam_rules.specs.Content.{fill}
use Rattle.fam_rules.specs.Decide.{decide}
use Rattle.fam_rules.specs.Reply.{Reply}
use Rattle.fam_journal.specs.Calls.{DoesOperations, busy_at, is_busy_host}
use Rattle.fam_journal.specs.Ends.{IsFaultless}
use Rattle.fam_journal.specs.View.{TaskStands, HostView}
use Rattle.fam_journal.specs.Kept.{IfRuns, Reached, TaskTold, hosts_of, run_at, protocol_run, run_with, shared_of, settled_of, copy_at}
use Rattle.fam_journal.specs.Legal.{AnswerAllowed, LegalBehind, OfHost, WritesAllowed}
use Rattle.fam_journal.specs.declared.event.Event.{Event}
use Rattle.fam_journal.specs.Machines as machine
use Rattle.fam_journal.specs.Machines.{Done, HostState, Machines, Operation, Passes, TaskState, notes_of, operation, task_on, with_parts, with_machine}
use Rattle.fam_journal.specs.Notes.{Note, Answered, Mark, Found, Writes as NoteWrites, Replied}
use Rattle.fam_journal.specs.Past.{HostPast, Past, State, Bad, Sound, cmd_of, filled_bytes, finds, first_past, past_behind, past_of, pends}
use Rattle.fam_journal.proofs.Runs.Following.{operation_kept}
use Rattle.fam_machine.specs.Caches.{Cache, cell_at}
use Rattle.fam_protocol.proofs.Hosts.Inside.{asks_inside}
use Rattle.fam_journal.proofs.Settled.Journals.{legal_rest, past_both}
use Rattle.fam_journal.proofs.Calls.Members.{changed_alike, changed_at_member}
use Rattle.fam_journal.proofs.Calls.MkfsRows.{changed_twice}
use Rattle.fam_journal.proofs.Calls.Rows.{Declared, declared}
use Rattle.fam_journal.proofs.Calls.TaskRows.{row_served}
use Rattle.fam_journal.proofs.Runs.Unique.{clean_prefix, clean_rest, passes}
use Rattle.fam_whole.specs.Whole.{AreWholeNotes, HasNothingPending, image_behind}
use Rattle.fam_whole.proofs.Folds.{all_noted, finds_sure, image_both, noted_both, noted_one, whole_both}
use Rattle.fam_protocol.specs.After.{HasNamed}
use Rattle.fam_whole.proofs.Phases.{IsLateTurn, WritesLate, late_turn, writes_turn}

-- from the moment at which host h of these machines has begun the command of this event, behind this journal
module _ (ev : Event) (start : Image) (h : ℕ) (base : Machines) (host : HostState) (host_is : slice_get base.hosts h ≡ Some host)
    (joined : IsKept host.kept) (cmd : Cmd) (journal : List Note) (sure : HasNothingPending (past_of start journal).state) where
  abbrev image : Image
  image = base.memory

  abbrev me : List ℕ
  me = host.uuid

  abbrev x : Past
  x = past_of start journal

  abbrev pub at : Machine → Option TaskState → Machines
  at m t = with_machine h m t base

  abbrev pub state_of : List ℕ → ℕ → TaskState
  state_of words made = record { cmd = cmd; me = me; kept = host.kept; words = words; made = made }

  host_at : (m : Machine) (t : Option TaskState) → slice_get (at m t).hosts h ≡ Some (record host { cache = m.cache; task = t })
  host_at m t = changed_at_member h (λ z. record z { cache = m.cache; task = t }) base.hosts host host_is

  twice : (m n : Machine) (s t : Option TaskState) → with_machine h n t (at m s) ≡ at n t
  twice m n s t =
      ap (λ (hosts : List HostState). record { memory = n.image; hosts = hosts })
      (changed_twice h (λ z. record z { cache = n.cache; task = t }) (λ z. record z { cache = m.cache; task = s }) base.hosts)

  -- and what it keeps
  abbrev pub left_at : Machine → Option TaskState → Option Kept → Machines
  left_at m t kept = with_parts h m t kept base

  host_left : (m : Machine) (t : Option TaskState) (kept : Option Kept) → slice_get (left_at m t kept).hosts h ≡ Some (record host { cache = m.cache; task = t; kept = kept })
  host_left m t kept = changed_at_member h (λ z. record z { cache = m.cache; task = t; kept = kept }) base.hosts host host_is

  parts_twice : (m n : Machine) (s t : Option TaskState) (kept : Option Kept) → with_parts h n t kept (at m s) ≡ left_at n t kept
  parts_twice m n s t kept =
      ap (λ (hosts : List HostState). record { memory = n.image; hosts = hosts })
      (changed_twice h (λ z. record z { cache = n.cache; task = t; kept = kept }) (λ z. record z { cache = m.cache; task = s }) base.hosts)

  -- what the host keeps is as before
  as_before : (n : Machine) (t : Option TaskState) → left_at n t host.kept ≡ at n t
  as_before n t =
      ap (λ (hosts : List HostState). record { memory = n.image; hosts = hosts })
      (changed_alike h (λ z. record z { cache = n.cache; task = t; kept = host.kept }) (λ z. record z { cache = n.cache; task = t }) base.hosts host host_is refl)

  -- One operation is the machine's row.

  module _ (t : Task) (words : List ℕ) (made : ℕ) (m : Machine) (ran : SoloRun host.kept cmd me image host.cache t words made m) where
    abbrev s : TaskState
    s = state_of words made

    abbrev turn : Turn
    turn = turn_on t m

    abbrev after : Machine
    after = operated (op_of t) m

    count : length m.image ≡ length image
    count = ran_length host.kept cmd me image host.cache t words made m ran

    standing : StandsFor host.kept cmd me (length image) t words made
    standing = ran_stands host.kept cmd me image host.cache t words made m ran

    row_is : operation Passes h (at m (Some s))
        ≡ Some (record {
          notes = notes_of h (note_of turn);
          left = left_at after (machine.task_behind (note_of turn) (task_on s (given (op_of t) m)))
              (kept_after turn t host.kept);
        })
    row_is =
        row_served (at m (Some s)) h (record host { cache = m.cache; task = Some s }) (host_at m (Some s)) s refl
        (length image) count t record { joined = joined; stands = standing } m refl turn (same_turn t m)
        ∙ ap (λ (z : Machines). Some (record { notes = notes_of h (note_of turn); left = z }))
        (parts_twice m after (Some s) (machine.task_behind (note_of turn) (task_on s (given (op_of t) m))) (kept_after turn t host.kept))

    -- What the journal and the protocol say of the task.

    record Now (j : List Note) : Type 0 where
      told : HostPast
      told_is : slice_get (past_of start j).hosts h ≡ Some told
      cmd_is : told.cmd ≡ Some cmd
      uuid_is : told.uuid ≡ me
      inside : IsInImage (op_of t) m

    now_of : (j : List Note) (kept : Reached start (at m (Some s)) j) → Declared start (at m (Some s)) (record { hosts = kept.views; journal = j }) h → Now j
    now_of j kept d = by_task d.view.task refl
      where
        same : d.host ≡ record host { cache = m.cache; task = Some s }
        same = same_Some d.host (record host { cache = m.cache; task = Some s }) (sym d.host_is ∙ host_at m (Some s))

        lines : length image ≡ length start
        lines = sym count ∙ kept.held.lines

        stands : (o : Option Task) → d.view.task ≡ o → TaskStands (length start) (Some s) o
        stands o is = subst (λ (z : Option Task). TaskStands (length start) (Some s) z) is (subst (λ (z : HostState). TaskStands (length start) z.task d.view.task) same d.stands.task)

        by_task : (o : Option Task) → d.view.task ≡ o → Now j
        by_task None none = absurd (stands None none)
        by_task (Some z) runs =
            let other : StandsFor host.kept cmd me (length start) z words made = (stands (Some z) runs).stands in
            let told_task : TaskTold z d.told = subst (λ (o : Option Task). IfRuns o d.told) runs d.host_told.task in
            let ops : op_of z ≡ op_of t =
            same_Some (op_of z) (op_of t)
            (sym (next_operation host.kept cmd me (length start) z words made joined other)
            ∙ ap (λ (n : ℕ). option_map (λ (r : Row). r.op) (slice_get (table host.kept cmd me n words) made)) (sym lines)
            ∙ next_operation host.kept cmd me (length image) t words made joined standing) in
            record {
              told = d.told;
              told_is = d.told_is;
              cmd_is = told_task.cmd ∙ ap Some (standing_tied host.kept cmd me (length start) z words made joined other).cmd_is;
              uuid_is = d.host_told.uuid ∙ sym d.stands.uuid ∙ ap (λ (y : HostState). y.uuid) same;
              inside = subst (λ (op : Op). IsInImage op m) ops
                  (asks_inside (settled_of (past_of start j).state (line_at m.image)) (length start) (hosts_of kept.views (past_of start j).hosts)
                  (shared_of m.image kept.views) kept.held.limit kept.held.invariant.stage h (protocol_run z d.told)
                  (ap₂ run_at d.view_is d.told_is ∙ ap (λ (o : Option Task). run_with o (Some d.told)) runs) m
                  record {
                    memory = λ l. refl;
                    copies = λ l. ap (λ (o : Option HostView). copy_at o l) d.view_is ∙ ap (λ (c : Cache). cell_at c l)
                        (sym d.stands.cache ∙ ap (λ (y : HostState). y.cache) same);
                  } kept.held.lines);
            }

    now : (j : List Note) → Reached start (at m (Some s)) j → Now j
    now j kept = now_of j kept (declared start (at m (Some s)) (record { hosts = kept.views; journal = j }) m.image kept.held h (record host { cache = m.cache; task = Some s }) (host_at m (Some s)))

  -- What the journal settles meanwhile: what was settled, or that and the entry that the task writes.

  pub record OnLate (t : Task) (y : Past) : Type 0 where
    pub p : Params
    pub history : List File
    pub e : Entry
    pub was : x.state ≡ Sound p history None
    pub is : y.state ≡ Sound p history (Some (record { entry = e; bytes = fill (content_of cmd) e.size }))
    pub decided : decide p me (entries_of history) cmd ≡ Some (Ok e)
    pub late : HasNamed t.phase

  abbrev pub On : Task → Past → Type 0
  On t y = (y.state ≡ x.state) ⊎ OnLate t y

  -- so far, with these notes
  record Along (state : Machines) (notes : List Note) : Type 0 where
    t : Task
    words : List ℕ
    made : ℕ
    m : Machine
    ran : SoloRun host.kept cmd me image host.cache t words made m
    state_is : state ≡ at m (Some (state_of words made))
    notes_are : notes ≡ all_noted h (notes_up_to host.kept cmd me image host.cache t words made m ran)
    on : On t (past_of start (journal ++ notes))
    same : image_behind ev x image notes ≡ image
    whole : AreWholeNotes ev x image notes

  -- up to the answer
  pub record Ended (state : Machines) (notes : List Note) : Type 0 where
    pub t : Task
    pub words : List ℕ
    pub made : ℕ
    pub m : Machine
    pub ran : SoloRun host.kept cmd me image host.cache t words made m
    pub inside : IsInImage (op_of t) m
    pub reply : Reply
    pub ends : turn_on t m ≡ Ends reply
    pub state_is : state ≡ left_at (operated (op_of t) m) None (kept_by reply (read_by t) host.kept)
    pub before : List Note
    pub before_is : before ≡ all_noted h (notes_up_to host.kept cmd me image host.cache t words made m ran)
    pub notes_are : notes ≡ before ++ Answered h (Replied reply) ∷ []
    pub on : On t (past_of start (journal ++ before))
    pub same : image_behind ev x image before ≡ image
    pub whole : AreWholeNotes ev x image before
    pub told : HostPast
    pub told_is : slice_get (past_of start (journal ++ before)).hosts h ≡ Some told
    pub cmd_is : told.cmd ≡ Some cmd
    pub uuid_is : told.uuid ≡ me
    pub legal : OfHost (slice_get (past_of start (journal ++ before)).hosts h) (λ host. AnswerAllowed (Replied reply) host (past_of start (journal ++ before)).state)

  past_on : (notes first : List Note) → past_of start (journal ++ (notes ++ first)) ≡ past_behind (past_of start (journal ++ notes)) first
  past_on notes first = ap (past_of start) (sym (append_assoc journal notes first)) ∙ past_both (first_past start) (journal ++ notes) first

  past_here : (notes : List Note) → past_of start (journal ++ notes) ≡ past_behind x notes
  past_here notes = past_both (first_past start) journal notes

  module _ (t : Task) (words : List ℕ) (made : ℕ) (m : Machine) (ran : SoloRun host.kept cmd me image host.cache t words made m) (notes : List Note)
      (notes_are : notes ≡ all_noted h (notes_up_to host.kept cmd me image host.cache t words made m ran))
      (on : On t (past_of start (journal ++ notes))) (same : image_behind ev x image notes ≡ image) (whole : AreWholeNotes ev x image notes)
      (info : Now t words made m ran (journal ++ notes)) where
    abbrev y : Past
    y = past_of start (journal ++ notes)

    -- what is left and noted by this turn
    abbrev left : Turn → Machines
    left z = left_at (operated (op_of t) m) (machine.task_behind (note_of z) (task_on (state_of words made) (given (op_of t) m))) (kept_after z t host.kept)

    abbrev first : Turn → List Note
    first z = notes_of h (note_of z)

    -- the task goes on, with one note more or none
    goes_on : (z : Turn) (n : Task) → turn_on t m ≡ z → task_after z ≡ Some n
        → machine.task_behind (note_of z) (task_on (state_of words made) (given (op_of t) m))
        ≡ Some (task_on (state_of words made) (given (op_of t) m)) → kept_after z t host.kept ≡ host.kept → On n (past_behind y (first z))
        → image_behind ev y image (first z) ≡ image → AreWholeNotes ev y image (first z) → Along (left z) (notes ++ first z)
    goes_on z n is next task keeps on' same' whole' =
        let came' : SoloRun host.kept cmd me image host.cache n (with_given words (given (op_of t) m)) (made + 1) (operated (op_of t) m) = goes ran info.inside (ap task_after is ∙ next) in
        record {
          t = n;
          words = with_given words (given (op_of t) m);
          made = made + 1;
          m = operated (op_of t) m;
          ran = came';
          state_is = ap₂ (left_at (operated (op_of t) m)) task keeps ∙ as_before (operated (op_of t) m) (Some (task_on (state_of words made) (given (op_of t) m)));
          notes_are =
              ap₂ (λ (u v : List Note). u ++ v) notes_are (sym (noted_one h (note_of z)) ∙ ap (λ (w : Turn). all_noted h (noted (note_of w))) (sym is))
              ∙ sym (noted_both h (notes_up_to host.kept cmd me image host.cache t words made m ran) (noted (note_of (turn_on t m))));
          on = subst (On n) (sym (past_on notes (first z))) on';
          same = image_both ev x image notes (first z) ∙ ap (λ (i : Image). image_behind ev (past_behind x notes) i (first z)) same
              ∙ ap (λ (w : Past). image_behind ev w image (first z)) (sym (past_here notes)) ∙ same';
          whole = whole_both ev x image notes (first z) whole
              (subst (λ (i : Image). AreWholeNotes ev (past_behind x notes) i (first z)) (sym same)
              (subst (λ (w : Past). AreWholeNotes ev w image (first z)) (past_here notes) whole'));
        }

    -- the turn of a task that writes
    late_now : OnLate t y → IsLateTurn (turn_on t m)
    late_now late = late_turn t.phase t (unwrap_or (given (op_of t) m) 0) late.late

    names_now : WritesLate (turn_on t m)
    names_now = writes_turn t.phase t (unwrap_or (given (op_of t) m) 0)

    -- the state goes on
    on_goes : (n : Task) → turn_on t m ≡ Goes n → On t y → On n y
    on_goes n is (inl e) = inl e
    on_goes n is (inr late) = inr (record { p = late.p; history = late.history; e = late.e; was = late.was; is = late.is; decided = late.decided; late = subst IsLateTurn is (late_now late) })

    on_marks : (n : Task) → turn_on t m ≡ Marks n → On t y → On n (past_behind y (Mark h ∷ []))
    on_marks n is (inl e) = inl e
    on_marks n is (inr late) = absurd (subst IsLateTurn is (late_now late))

    on_finds : (k : ℕ) (n : Task) → turn_on t m ≡ Finds k n → On t y → On n (past_behind y (Found h k ∷ []))
    on_finds k n is (inl e) = inl (ap (finds k) e ∙ finds_sure k x.state sure)
    on_finds k n is (inr late) = absurd (subst IsLateTurn is (late_now late))

    of_told : (P : HostPast → Type 0) → OfHost (slice_get y.hosts h) P → P info.told
    of_told P of = subst (λ (o : Option HostPast). OfHost o P) info.told_is of

    on_writes : (seq : ℕ) (e : Entry) (n : Task) → turn_on t m ≡ Writes seq e n → LegalBehind y (NoteWrites h seq e ∷ []) → On t y → On n (past_behind y (NoteWrites h seq e ∷ []))
    on_writes seq e n is legal (inr late) = absurd (subst IsLateTurn is (late_now late))
    on_writes seq e n is legal (inl eq) = by_state x.state refl
      where
        allowed : WritesAllowed seq e info.told y.state
        allowed = of_told (λ host. WritesAllowed seq e host y.state) legal.0

        cmd_told : cmd_of (slice_get y.hosts h) ≡ Some cmd
        cmd_told = ap cmd_of info.told_is ∙ info.cmd_is

        by_state : (z : State) → x.state ≡ z → On n (past_behind y (NoteWrites h seq e ∷ []))
        by_state (Bad own damage gate) was = absurd (subst (WritesAllowed seq e info.told) (eq ∙ was) allowed)
        by_state (Sound p history pending) was = by_pending pending was (subst (WritesAllowed seq e info.told) (eq ∙ was) allowed)
          where
            by_pending : (pending : Option File) → x.state ≡ Sound p history pending → WritesAllowed seq e info.told (Sound p history pending) → On n (past_behind y (NoteWrites h seq e ∷ []))
            by_pending (Some f) was says = absurd (let none = says.1.none in cc)
            by_pending None was says =
                let commands : says.1.cmd ≡ cmd = same_Some says.1.cmd cmd (sym says.1.told ∙ info.cmd_is) in
                inr (record {
                  p = p;
                  history = history;
                  e = e;
                  was = was;
                  is = ap (pends _) (eq ∙ was) ∙ ap (λ (o : Option Cmd). Sound p history (Some (record { entry = e; bytes = filled_bytes o e.size }))) cmd_told;
                  decided = ap₂ (λ (u : List ℕ) (c : Cmd). decide p u (entries_of history) c) (sym info.uuid_is) (sym commands) ∙ says.1.is;
                  late = subst WritesLate is names_now;
                })

    by_turn : (z : Turn) → turn_on t m ≡ z → LegalBehind y (first z) → Along (left z) (notes ++ first z) ⊎ Ended (left z) (notes ++ first z)
    by_turn (Goes n) is legal = inl (goes_on (Goes n) n is refl refl refl (on_goes n is on) refl tt)
    by_turn (Marks n) is legal = inl (goes_on (Marks n) n is refl refl refl (on_marks n is on) refl (tt, tt))
    by_turn (Finds k n) is legal = inl (goes_on (Finds k n) n is refl refl refl (on_finds k n is on) refl (tt, tt))
    by_turn (Writes seq e n) is legal = inl (goes_on (Writes seq e n) n is refl refl refl (on_writes seq e n is legal on) refl (tt, tt))
    by_turn (Ends given) is legal = inr (record {
      t = t;
      words = words;
      made = made;
      m = m;
      ran = ran;
      inside = info.inside;
      reply = given;
      ends = is;
      state_is = refl;
      before = notes;
      before_is = notes_are;
      notes_are = refl;
      on = on;
      same = same;
      whole = whole;
      told = info.told;
      told_is = info.told_is;
      cmd_is = info.cmd_is;
      uuid_is = info.uuid_is;
      legal = legal.0;
    })

  -- one operation more
  step : (state mid : Machines) (notes first : List Note) → Along state notes → Reached start state (journal ++ notes) → Operation h state first mid
      → IsFaultless first → Along mid (notes ++ first) ⊎ Ended mid (notes ++ first)
  step state mid notes first along kept op clean =
      let s : TaskState = state_of along.words along.made in
      let kept' : Reached start (at along.m (Some s)) (journal ++ notes) = subst (λ (z : Machines). Reached start z (journal ++ notes)) along.state_is kept in
      let op' : Operation h (at along.m (Some s)) first mid = subst (λ (z : Machines). Operation h z first mid) along.state_is op in
      let info = now along.t along.words along.made along.m along.ran (journal ++ notes) kept' in
      let turn : Turn = turn_on along.t along.m in
      let same : record {
        notes = notes_of h (note_of turn);
        left = left_at (operated (op_of along.t) along.m)
            (machine.task_behind (note_of turn) (task_on s (given (op_of along.t) along.m))) (kept_after turn along.t host.kept);
      }
      ≡ record { notes = first; left = mid } =
      same_Some _ (record { notes = first; left = mid })
      (sym (row_is along.t along.words along.made along.m along.ran) ∙ passes h (at along.m (Some s)) op'.outcome
      (record { notes = first; left = mid }) op'.is clean) in
      let legal : LegalBehind (past_of start (journal ++ notes)) first = legal_rest (first_past start) (journal ++ notes) first
      (operation_kept start h (at along.m (Some s)) (journal ++ notes) kept' first mid op').held.legal in
      subst (λ (d : Done). Along d.left (notes ++ d.notes) ⊎ Ended d.left (notes ++ d.notes)) same
      (by_turn along.t along.words along.made along.m along.ran notes along.notes_are along.on along.same along.whole info turn refl
      (subst (λ (d : Done). LegalBehind (past_of start (journal ++ notes)) d.notes) (sym same) legal))

  busy : (state : Machines) (notes : List Note) → Along state notes → busy_at h state ≡ true
  busy state notes along = ap (busy_at h) along.state_is ∙ ap is_busy_host (host_at along.m (Some (state_of along.words along.made)))

  idle : (state : Machines) (notes : List Note) → Ended state notes → busy_at h state ≡ false
  idle state notes ended = ap (busy_at h) ended.state_is ∙ ap is_busy_host (host_left (operated (op_of ended.t) ended.m) None (kept_by ended.reply (read_by ended.t) host.kept))

  -- nothing comes behind the answer
  rests : (count : ℕ) (state new : Machines) (rest : List Note) → busy_at h state ≡ false → DoesOperations h count state rest new → (rest ≡ []) × (new ≡ state)
  rests zero state new rest idle o = (o.0, o.1)
  rests (suc count) state new rest idle (inl o) = (o.1, o.2)
  rests (suc count) state new rest idle (inr o) = absurd (let b = o.0 in cc)

  run : (count : ℕ) (state new : Machines) (notes rest : List Note) → Along state notes → Reached start state (journal ++ notes)
      → DoesOperations h count state rest new → IsFaultless rest → busy_at h new ≡ false → Ended new (notes ++ rest)
  run zero state new notes rest along kept o clean done = absurd (let b = busy state notes along in let same = ap (busy_at h) o.1 in cc)
  run (suc count) state new notes rest along kept (inl o) clean done = absurd (let b = busy state notes along in let f = o.0 in cc)
  run (suc count) state new notes rest along kept (inr o) clean done =
      let first_clean : IsFaultless o.2 = clean_prefix o.2 o.3 rest o.6 clean in
      let rest_clean : IsFaultless o.3 = clean_rest o.2 o.3 rest o.6 clean in
      let joined : (notes ++ o.2) ++ o.3 ≡ notes ++ rest = append_assoc notes o.2 o.3 ∙ ap (λ (z : List Note). notes ++ z) (sym o.6) in
      let kept' : Reached start o.1 (journal ++ (notes ++ o.2)) = subst (λ (z : List Note). Reached start o.1 z) (append_assoc journal notes o.2)
      (operation_kept start h state (journal ++ notes) kept o.2 o.1 o.4) in
      elim (step state o.1 notes o.2 along kept o.4 first_clean) [
        | inl more ↦ subst (Ended new) joined (run count o.1 new (notes ++ o.2) o.3 more kept' o.5 rest_clean done)
        | inr ended ↦
            let over = rests count o.1 new o.3 (idle o.1 (notes ++ o.2) ended) o.5 in
            subst (λ (z : Machines). Ended z (notes ++ rest)) (sym over.1)
            (subst (Ended o.1) (sym (append-nil (notes ++ o.2)) ∙ ap (λ (z : List Note). (notes ++ o.2) ++ z) (sym over.0) ∙ joined) ended)
      ]

  -- all operations of the command
  pub run_solo : (count : ℕ) (new : Machines) (notes : List Note)
      → Reached start (at (record { image = image; cache = host.cache }) (Some (state_of [] 0))) journal
      → DoesOperations h count (at (record { image = image; cache = host.cache }) (Some (state_of [] 0))) notes new → IsFaultless notes
      → busy_at h new ≡ false → Ended new notes
  run_solo count new notes kept o clean done =
      run count (at (record { image = image; cache = host.cache }) (Some (state_of [] 0))) new [] notes
      record {
        t = mounted host.kept cmd me (length image);
        words = [];
        made = 0;
        m = record { image = image; cache = host.cache };
        ran = starts;
        state_is = refl;
        notes_are = refl;
        on = inl (ap (λ (z : List Note). (past_of start z).state) (append-nil journal));
        same = refl;
        whole = tt;
      }
      (subst (λ (z : List Note). Reached start (at (record { image = image; cache = host.cache }) (Some (state_of [] 0))) z) (sym (append-nil journal)) kept) o clean done
