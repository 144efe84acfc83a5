-- What comes of an operation has the shape of its task's notes.
use Rattle.std.proofs.Common.{◌≡◌, ◌≢◌, ℕ, ◌+◌, ◌*◌, ◌⊎◌, inl, inr, Bool, true, false, List, [], length, Option, Some, None, Ok, Err, refl, sym, ap, ◌∙◌, subst}
use Rattle.std.specs.Cmp.Lexicographic.{pointwise_decides}
use Rattle.std.proofs.lemmas.Bool.Decides.{Decides-eqb}
use Rattle.std.specs.Prelude.{⊤, unwrap_or, ◌==◌, nat_lt, nat_le, if◌then◌else◌, Result}
use Rattle.std.specs.FinMap as finmap
use Rattle.fam_base.specs.declared.cmd.Cmd.{Cmd}
use Rattle.fam_base.specs.declared.cmd.Cmd.TheVariants.{Logplay, Mount, Mkdir, Creat, Cp, Verify, Read, Check, Fsck}
use Rattle.fam_base.specs.declared.cmd.Content.{Content}
use Rattle.fam_base.specs.declared.cmd.Content.TheVariants as content
use Rattle.fam_base.specs.declared.entry.Params.{Params}
use Rattle.fam_base.specs.declared.entry.Entry.{Entry}
use Rattle.fam_base.specs.declared.entry.Kind.{Kind}
use Rattle.fam_base.specs.declared.entry.Kind.TheVariants as kind
use Rattle.fam_base.specs.Paths.{parent_of}
use Rattle.fam_base.specs.PathOrder.{path_eq}
use Rattle.fam_format.specs.declared.faults.SuperFault.{SuperFault}
use Rattle.fam_format.specs.declared.faults.LogFault.{LogFault}
use Rattle.fam_format.specs.declared.faults.LogFault.TheVariants as log_faults
use Rattle.fam_format.specs.declared.faults.Reason.{Reason}
use Rattle.fam_format.specs.Log.{gate_fault, log_fault}
use Rattle.fam_format.specs.Slot.{entry_of}
use Rattle.fam_format.specs.Stop.{stop}
use Rattle.fam_format.specs.Super.{magic_fault, super_body_of}
use Rattle.fam_format.specs.Tree.{join_fault, replay}
use Rattle.fam_commands.specs.declared.phase.Part.{Part}
use Rattle.fam_commands.specs.declared.phase.Part.TheVariants.{Superblock, Header, Slot, File}
use Rattle.fam_commands.specs.declared.phase.Phase.{Phase}
use Rattle.fam_commands.specs.declared.phase.Phase.TheVariants as at
use Rattle.fam_machine.specs.Operations.{given_by}
use Rattle.fam_commands.specs.Stands.{turn_given}
use Rattle.fam_commands.specs.Kept.{first_slot}
use Rattle.fam_commands.specs.Task.{Task, op_of, part_count, size_of, wanted_end}
use Rattle.fam_commands.specs.Turns.{Turn, Goes, Marks, Finds, Writes, Ends, super_fault_reply, log_fault_reply, magic_turn, host_refusal, host_turn, super_turn, header_turn, slot_or_decide, slots_read, finds_or_goes, gate_loaded, gate_turn, join_turn, slot_turn, check_turn, first_store, append_turn, verify_lines, verify_turn, bytes_turn, kind_turn, found_turn, wish_turn, decide_turn, line_or, line_difference, compare_turn, file_turn, line_turn, with_word, word_turn, turn_at}
use Rattle.fam_rules.specs.declared.answers.Refused.{Refused}
use Rattle.fam_rules.specs.declared.answers.Refused.TheVariants as cause
use Rattle.fam_rules.specs.Decide.{Wish, Room, decide_wish, early_refusal, entry_or, exists_refusal, first_refusal, full_refusal, length_refusal, master_refusal, parent_refusal, path_fits, room_for, stripe_refusal, wish_of, file_refusal, found_refusal, is_stripe, room_or, room_by}
use Rattle.fam_rules.specs.Place.{line_bytes}
use Rattle.fam_rules.specs.Reports.{log_report, report_by}
use Rattle.fam_rules.specs.Written.{lines_of}
use Rattle.fam_format.specs.Layout.{geometry}
use Rattle.fam_commands.specs.Appends.{HasWish}
use Rattle.fam_commands.specs.Classes.{IsCheck, IsRead, IsVerify}
use Rattle.fam_journal.specs.Past.{reported_count}
use Rattle.fam_journal.specs.Shapes.{CauseShape, CountShape, EntryShape, IsHead, HasReadGate, IsWished, ReplyShape, CommandStage, Begun, Marked, Met, Named, reading_stage, stage_at, stage_of}

-- the task that goes on is of the same command and host, at this stage
pub record IsNext (me : List ℕ) (cmd : Cmd) (stage : CommandStage) (next : Task) : Type 0 where
  pub cmd_is : next.cmd ≡ cmd
  pub me_is : next.me ≡ me
  pub stage_is : stage_of next ≡ stage

abbrev pub TurnShape : List ℕ → Cmd → CommandStage → Turn → Type 0
TurnShape me cmd stage (Goes next) = IsNext me cmd stage next
TurnShape me cmd stage (Marks next) = (stage ≡ Begun) × IsNext me cmd Marked next
TurnShape me cmd stage (Finds n next) = HasWish cmd × (stage ≡ Marked) × IsNext me cmd (Met n) next
TurnShape me cmd stage (Writes seq e next) = EntryShape cmd e × (stage ≡ Met seq) × IsNext me cmd (Named seq) next
TurnShape me cmd stage (Ends given) = ReplyShape me cmd stage given

-- bytes that a test tells apart
other_of : (a b : List ℕ) → path_eq a b ≡ false → a ≢ b
other_of a b is e = absurd (let same : path_eq a b ≡ true = (pointwise_decides Decides-eqb a b).1 e in cc)

-- The decision.

-- a refusal of an append, where the entries were read
MetCause : List ℕ → Refused → Type 0
MetCause me why = (n : ℕ) → CauseShape me (Met n) why

abbrev OptionCause : List ℕ → Option Refused → Type 0
OptionCause me None = ⊤
OptionCause me (Some why) = MetCause me why

-- what is decided: an entry of the wish, or such a refusal
abbrev DecisionShape : List ℕ → Wish → Result Entry Refused → Type 0
DecisionShape me w (Ok e) = IsWished w e
DecisionShape me w (Err why) = MetCause me why

module _ (me : List ℕ) where
  stopped : (w : Wish) (o : Option Refused) (r : Result Entry Refused) → OptionCause me o → DecisionShape me w r → DecisionShape me w (stop o r)
  stopped w None r first rest = rest
  stopped w (Some why) r first rest = first

  master_cause : (p : Params) → OptionCause me (master_refusal p me)
  unfolding MetCause
  master_cause p = by_test (path_eq me p.master) refl
    where
      by_test : (b : Bool) → path_eq me p.master ≡ b → OptionCause me (if b then None else Some (cause.NotMaster me p.master))
      by_test true is = tt
      by_test false is = λ n. (refl, other_of me p.master is, inr tt)

  length_cause : (p : Params) (path : List ℕ) → OptionCause me (length_refusal p path)
  unfolding MetCause
  length_cause p path = by_test (path_fits p path)
    where
      by_test : (b : Bool) → OptionCause me (if b then None else Some (cause.LongPath (geometry p).path_limit))
      by_test true = tt
      by_test false = λ n. inr tt

  first_cause : (first behind : Option Refused) → OptionCause me first → OptionCause me behind → OptionCause me (first_refusal first behind)
  first_cause (Some why) behind is rest = is
  first_cause None behind is rest = rest

  stripe_cause : (p : Params) (o : Option _) → OptionCause me (stripe_refusal p o)
  unfolding MetCause
  stripe_cause p None = tt
  stripe_cause p (Some s) = by_test (is_stripe p s)
    where
      by_test : (b : Bool) → OptionCause me (if b then None else Some cause.BadStripe)
      by_test true = tt
      by_test false = λ n. tt

  exists_cause : (o : Option Entry) → OptionCause me (exists_refusal o)
  unfolding MetCause
  exists_cause None = tt
  exists_cause (Some old) = λ n. tt

  file_cause : (k : Kind) → OptionCause me (file_refusal k)
  unfolding MetCause
  file_cause kind.File = λ n. tt
  file_cause kind.Directory = tt

  found_cause : (o : Option Entry) → OptionCause me (found_refusal o)
  unfolding MetCause
  found_cause None = λ n. tt
  found_cause (Some parent) = file_cause parent.kind

  parent_cause : (tree : Rattle.fam_format.specs.Tree.Tree) (o : Option (List ℕ)) → OptionCause me (parent_refusal tree o)
  parent_cause tree None = tt
  parent_cause tree (Some parent) = found_cause (finmap.get tree parent)

  full_cause : (p : Params) (list : List Entry) → OptionCause me (full_refusal p list)
  unfolding MetCause
  full_cause p list = by_test (nat_le p.slots (length list))
    where
      by_test : (b : Bool) → OptionCause me (if b then Some (cause.LogFull p.slots) else None)
      by_test true = λ n. tt
      by_test false = tt

  abbrev RoomShape : Result Room Refused → Type 0
  RoomShape (Ok found) = ⊤
  RoomShape (Err why) = MetCause me why

  room_or_shape : (k : ℕ) (o : Option Room) → RoomShape (room_or k o)
  unfolding MetCause
  room_or_shape k None = λ n. tt
  room_or_shape k (Some found) = tt

  room_by_shape : (p : Params) (list : List Entry) (size : ℕ) (o : Option _) → RoomShape (room_by p list size o)
  room_by_shape p list size None = room_or_shape _ _
  room_by_shape p list size (Some s) = room_or_shape _ _

  room_shape : (p : Params) (list : List Entry) (w : Wish) → RoomShape (room_for p list w)
  unfolding room_for
  room_shape p list w = by_test (w.size == 0)
    where
      by_test : (b : Bool) → RoomShape (if b then Ok Rattle.fam_rules.specs.Decide.no_room_needed else room_by p list w.size w.stripe)
      by_test true = tt
      by_test false = room_by_shape p list w.size w.stripe

  entry_shape : (w : Wish) (r : Result Room Refused) → RoomShape r → DecisionShape me w (entry_or w r)
  entry_shape w (Ok found) is = record { kind = refl; path = refl; size = refl; mode = refl; uid = refl; gid = refl }
  entry_shape w (Err why) is = is

  decided : (p : Params) (list : List Entry) (w : Wish) → DecisionShape me w (decide_wish p me list w)
  unfolding decide_wish
  decided p list w =
      stopped w (early_refusal p me w.path) _ (first_cause (master_refusal p me) (length_refusal p w.path) (master_cause p) (length_cause p w.path))
      (stopped w (stripe_refusal p w.stripe) _ (stripe_cause p w.stripe)
      (stopped w (exists_refusal (finmap.get (replay list) w.path)) _ (exists_cause (finmap.get (replay list) w.path))
      (stopped w (parent_refusal (replay list) (parent_of w.path)) _ (parent_cause (replay list) (parent_of w.path))
      (stopped w (full_refusal p list) _ (full_cause p list)
      (entry_shape w (room_for p list w) (room_shape p list w))))))

-- A test either way, and answers on a damaged image.
module _ (me : List ℕ) (cmd : Cmd) (stage : CommandStage) where
  either : (b : Bool) (one other : Turn) → TurnShape me cmd stage one → TurnShape me cmd stage other → TurnShape me cmd stage (if b then one else other)
  either true one other first second = first
  either false one other first second = second

  super_ends : stage ≡ Begun → (fault : SuperFault) → ReplyShape me cmd stage (super_fault_reply cmd fault)
  super_ends at fault = by_cmd cmd
    where
      by_cmd : (c : Cmd) → ReplyShape me c stage (super_fault_reply c fault)
      by_cmd Fsck = (refl, tt)
      by_cmd Logplay = ((λ e. absurd cc), at)
      by_cmd Mount = ((λ e. absurd cc), at)
      by_cmd (Mkdir path attr) = ((λ e. absurd cc), at)
      by_cmd (Creat path size attr stripe fill) = ((λ e. absurd cc), at)
      by_cmd (Cp path attr stripe bytes) = ((λ e. absurd cc), at)
      by_cmd (Verify path against) = ((λ e. absurd cc), at)
      by_cmd (Read path offset count) = ((λ e. absurd cc), at)
      by_cmd (Check listing) = ((λ e. absurd cc), at)

  log_ends : IsHead stage → (fault : LogFault) → ReplyShape me cmd stage (log_fault_reply cmd fault)
  log_ends head fault = by_cmd cmd
    where
      no_count : (f : LogFault) → CountShape (reported_count (log_report f).log) stage
      no_count (log_faults.BadLog field found wanted) = tt

      by_cmd : (c : Cmd) → ReplyShape me c stage (log_fault_reply c fault)
      by_cmd Fsck = (refl, no_count fault)
      by_cmd c = ((λ e. absurd cc), head)

-- Superblock and header.
abbrev BegunCause : List ℕ → Option Refused → Type 0
BegunCause me None = ⊤
BegunCause me (Some why) = CauseShape me Begun why

begun_master : (me : List ℕ) (p : Params) → BegunCause me (master_refusal p me)
begun_master me p = by_test (path_eq me p.master) refl
  where
    by_test : (b : Bool) → path_eq me p.master ≡ b → BegunCause me (if b then None else Some (cause.NotMaster me p.master))
    by_test true is = tt
    by_test false is = (refl, other_of me p.master is, inl refl)

begun_length : (me : List ℕ) (p : Params) (path : List ℕ) → BegunCause me (length_refusal p path)
begun_length me p path = by_test (path_fits p path)
  where
    by_test : (b : Bool) → BegunCause me (if b then None else Some (cause.LongPath (geometry p).path_limit))
    by_test true = tt
    by_test false = inl refl

begun_first : (me : List ℕ) (first behind : Option Refused) → BegunCause me first → BegunCause me behind → BegunCause me (first_refusal first behind)
begun_first me (Some why) behind is rest = is
begun_first me None behind is rest = rest

module _ (t : Task) where
  magic_shape : (o : Option SuperFault) → TurnShape t.me t.cmd Begun (magic_turn t o)
  magic_shape (Some fault) = super_ends t.me t.cmd Begun refl fault
  magic_shape None = record { cmd_is = refl; me_is = refl; stage_is = refl }

  host_shape : (p : Params) (o : Option Refused) → BegunCause t.me o → HasWish t.cmd → TurnShape t.me t.cmd Begun (host_turn t p o)
  host_shape p None may wish = record { cmd_is = refl; me_is = refl; stage_is = refl }
  host_shape p (Some why) may wish = (wish, may)

  wished_shape : (p : Params) (o : Option Wish) → wish_of t.cmd ≡ o → TurnShape t.me t.cmd Begun (host_turn t p (host_refusal o p t.me))
  wished_shape p None is = record { cmd_is = refl; me_is = refl; stage_is = refl }
  wished_shape p (Some w) is = host_shape p (early_refusal p t.me w.path)
      (begun_first t.me (master_refusal p t.me) (length_refusal p w.path) (begun_master t.me p) (begun_length t.me p w.path)) (w, is)

  super_shape : (r : Result Params SuperFault) → TurnShape t.me t.cmd Begun (super_turn t r)
  super_shape (Err fault) = super_ends t.me t.cmd Begun refl fault
  super_shape (Ok p) = wished_shape p (wish_of t.cmd) refl

  header_shape : (o : Option LogFault) → TurnShape t.me t.cmd Begun (header_turn t o)
  header_shape (Some fault) = log_ends t.me t.cmd Begun tt fault
  header_shape None = record { cmd_is = refl; me_is = refl; stage_is = refl }

-- Gate and slots.

slot_stage : (t u : Task) (i : ℕ) → stage_at (slot_or_decide t i) u ≡ reading_stage (wish_of u.cmd) u.gate
slot_stage t u i = by_test (nat_lt i (slots_read t))
  where
    by_test : (b : Bool) → stage_at (if b then at.Drop (Slot i) 0 else at.Decide) u ≡ reading_stage (wish_of u.cmd) u.gate
    by_test true = refl
    by_test false = refl

is_reading : (o : Option Wish) (gate : ℕ) → HasReadGate (reading_stage o gate)
is_reading None gate = tt
is_reading (Some w) gate = tt

module _ (t : Task) where
  abbrev reads : CommandStage
  reads = reading_stage (wish_of t.cmd) t.gate

  gate_shape : (n : ℕ) (o : Option LogFault) → TurnShape t.me t.cmd Marked (gate_turn t n o)
  gate_shape n (Some fault) = log_ends t.me t.cmd Marked tt fault
  gate_shape n None = by_wish (wish_of t.cmd) refl
    where
      next : (o : Option Wish) → wish_of t.cmd ≡ o → stage_of (gate_loaded t n) ≡ reading_stage o n
      next o is = slot_stage (record t { gate = n }) (gate_loaded t n) (first_slot t.kept t.cmd t.params n) ∙ ap (λ (z : Option Wish). reading_stage z n) is

      by_wish : (o : Option Wish) → wish_of t.cmd ≡ o → TurnShape t.me t.cmd Marked (finds_or_goes o n (gate_loaded t n))
      by_wish None is = record { cmd_is = refl; me_is = refl; stage_is = next None is }
      by_wish (Some w) is = ((w, is), refl, record { cmd_is = refl; me_is = refl; stage_is = next (Some w) is })

  join_shape : t.cmd ≢ Fsck → (i : ℕ) (e : Entry) (o : Option Reason) → TurnShape t.me t.cmd reads (join_turn t i e o)
  join_shape other i e (Some reason) = (other, is_reading (wish_of t.cmd) t.gate)
  join_shape other i e None = record { cmd_is = refl; me_is = refl; stage_is = slot_stage t _ (i + 1) }

  slot_shape : t.cmd ≢ Fsck → (i : ℕ) (r : Result Entry Reason) → TurnShape t.me t.cmd reads (slot_turn t i r)
  slot_shape other i (Err reason) = (other, is_reading (wish_of t.cmd) t.gate)
  slot_shape other i (Ok e) = join_shape other i e (join_fault t.params t.entries e)

  check_shape : (i : ℕ) → TurnShape t.me t.cmd reads (check_turn t.cmd t i)
  check_shape i = by_cmd t.cmd refl
    where
      reads_slot : t.cmd ≢ Fsck → TurnShape t.me t.cmd reads (slot_turn t i (entry_of t.params t.words i))
      reads_slot other = slot_shape other i (entry_of t.params t.words i)

      by_cmd : (c : Cmd) → t.cmd ≡ c → TurnShape t.me t.cmd reads (check_turn c t i)
      by_cmd Fsck is = record { cmd_is = refl; me_is = refl; stage_is = slot_stage t _ (i + 1) }
      by_cmd c is = reads_slot (λ e. absurd cc)

  -- The decision.

  first_stage : (size : ℕ) (u : Task) → stage_at (first_store size) u ≡ Named u.gate
  first_stage size u = by_test (size == 0)
    where
      by_test : (b : Bool) → stage_at (if b then at.StoreSlot 0 0 else at.StoreData 0 0) u ≡ Named u.gate
      by_test true = refl
      by_test false = refl

  append_shape : (w : Wish) → wish_of t.cmd ≡ Some w → (r : Result Entry Refused) → DecisionShape t.me w r → TurnShape t.me t.cmd reads (append_turn t r)
  unfolding MetCause
  append_shape w is (Err why) shape =
      ((w, is), subst (λ (s : CommandStage). CauseShape t.me s why) (sym (ap (λ (z : Option Wish). reading_stage z t.gate) is)) (shape t.gate))
  append_shape w is (Ok e) shape =
      ((w, is, shape), ap (λ (z : Option Wish). reading_stage z t.gate) is, record { cmd_is = refl; me_is = refl; stage_is = first_stage e.size _ })

  module _ (phase : t.phase ≡ at.Decide) where
    wish_shape : (o : Option Wish) → wish_of t.cmd ≡ o → TurnShape t.me t.cmd reads (wish_turn t o)
    wish_shape None is = record { cmd_is = refl; me_is = refl; stage_is = ap (λ (p : Phase). stage_at p t) phase }
    wish_shape (Some w) is = append_shape w is (decide_wish t.params t.me t.entries w) (decided t.me t.params t.entries w)

    marked : wish_of t.cmd ≡ None → reads ≡ Marked
    marked is = ap (λ (z : Option Wish). reading_stage z t.gate) is

    read_shape : (e : Entry) → TurnShape t.me t.cmd reads (Goes (record t { entry = Some e; phase = at.Drop File 0; words = [] }))
    read_shape e = record { cmd_is = refl; me_is = refl; stage_is = refl }

    lines_shape : IsVerify t.cmd → reads ≡ Marked → (e : Entry) → TurnShape t.me t.cmd reads (verify_lines t e)
    lines_shape mine at e = either t.me t.cmd reads (e.size == 0) _ _ (mine, at) (read_shape e)

    verify_shape : IsVerify t.cmd → reads ≡ Marked → (e : Entry) (against : Content) → TurnShape t.me t.cmd reads (verify_turn t e against)
    verify_shape mine at e (content.Bytes given) = either t.me t.cmd reads (length given == e.size) _ _ (lines_shape mine at e) (mine, at)
    verify_shape mine at e (content.Seed seed) = lines_shape mine at e
    verify_shape mine at e content.Zero = lines_shape mine at e

    bytes_shape : IsRead t.cmd → reads ≡ Marked → (e : Entry) (offset : ℕ) → TurnShape t.me t.cmd reads (bytes_turn t e offset)
    bytes_shape mine at e offset = either t.me t.cmd reads (nat_le (wanted_end t.cmd e.size) offset) _ _ (mine, at) (read_shape e)

    kind_shape : IsVerify t.cmd ⊎ IsRead t.cmd → reads ≡ Marked → (k : Kind) (turn : Turn) → TurnShape t.me t.cmd reads turn → TurnShape t.me t.cmd reads (kind_turn t k turn)
    kind_shape mine at kind.Directory turn says = (mine, at)
    kind_shape mine at kind.File turn says = says

    found_shape : IsVerify t.cmd ⊎ IsRead t.cmd → reads ≡ Marked → (o : Option Entry) (turn : Entry → Turn)
        → ((e : Entry) → TurnShape t.me t.cmd reads (turn e)) → TurnShape t.me t.cmd reads (found_turn t o turn)
    found_shape mine at None turn says = (mine, at)
    found_shape mine at (Some e) turn says = kind_shape mine at e.kind (turn e) (says e)

    decide_shape : (c : Cmd) → t.cmd ≡ c → TurnShape t.me t.cmd reads (decide_turn c t)
    decide_shape Logplay is = (is, marked (ap wish_of is))
    decide_shape Mount is = (is, marked (ap wish_of is))
    decide_shape (Check listing) is = (subst IsCheck (sym is) tt, marked (ap wish_of is))
    decide_shape Fsck is = (is, fsck_count)
      where
        fsck_count : CountShape (reported_count (report_by t.params t.gate t.survey).log) reads
        fsck_count = any_count (reported_count (report_by t.params t.gate t.survey).log)
          where
            any_count : (o : Option ℕ) → CountShape o reads
            any_count None = tt
            any_count (Some m) = marked (ap wish_of is)
    decide_shape (Verify path against) is =
        let mine : IsVerify t.cmd = subst IsVerify (sym is) tt in
        found_shape (inl mine) (marked (ap wish_of is)) (finmap.get (replay t.entries) path) (λ e. verify_turn t e against) (λ e. verify_shape mine (marked (ap wish_of is)) e against)
    decide_shape (Read path offset count) is =
        let mine : IsRead t.cmd = subst IsRead (sym is) tt in
        found_shape (inr mine) (marked (ap wish_of is)) (finmap.get (replay t.entries) path) (λ e. bytes_turn t e offset) (λ e. bytes_shape mine (marked (ap wish_of is)) e offset)
    decide_shape (Mkdir path attr) is = wish_shape (wish_of t.cmd) refl
    decide_shape (Creat path size attr stripe fill) is = wish_shape (wish_of t.cmd) refl
    decide_shape (Cp path attr stripe bytes) is = wish_shape (wish_of t.cmd) refl

-- Lines that were loaded.

line_or_shape : (t : Task) (stage : CommandStage) (part : Part) (j : ℕ) (turn : Turn)
    → stage_at (at.Drop part (j + 1)) (record t { phase = at.Drop part (j + 1) }) ≡ stage → TurnShape t.me t.cmd stage turn
    → TurnShape t.me t.cmd stage (line_or t part j turn)
line_or_shape t stage part j turn next says =
    either t.me t.cmd stage (nat_lt (j + 1) (part_count t part)) _ _ record { cmd_is = refl; me_is = refl; stage_is = next } says

compare_shape : (t : Task) (against : Content) (j : ℕ) (o : Option ℕ) → IsVerify t.cmd → reading_stage (wish_of t.cmd) t.gate ≡ Marked
    → TurnShape t.me t.cmd (reading_stage (wish_of t.cmd) t.gate) (compare_turn t against j o)
compare_shape t against j (Some b) mine at = (mine, at)
compare_shape t against j None mine at = line_or_shape (record t { words = [] }) (reading_stage (wish_of t.cmd) t.gate) File j _ refl (mine, at)

file_shape : (t : Task) (j k : ℕ) → t.phase ≡ at.Word File j k → (c : Cmd) → t.cmd ≡ c → TurnShape t.me t.cmd (reading_stage (wish_of t.cmd) t.gate) (file_turn c t j)
file_shape t j k phase c is = by_cmd c is
  where
    stays : TurnShape t.me t.cmd (reading_stage (wish_of t.cmd) t.gate) (Goes t)
    stays = record { cmd_is = refl; me_is = refl; stage_is = ap (λ (p : Phase). stage_at p t) phase }

    by_cmd : (c : Cmd) → t.cmd ≡ c → TurnShape t.me t.cmd (reading_stage (wish_of t.cmd) t.gate) (file_turn c t j)
    by_cmd (Verify path against) is =
        compare_shape t against j (line_difference t against j) (subst IsVerify (sym is) tt) (ap (λ (z : Cmd). reading_stage (wish_of z) t.gate) is)
    by_cmd (Read path offset count) is =
        line_or_shape t (reading_stage (wish_of t.cmd) t.gate) File j _ refl (subst IsRead (sym is) tt, ap (λ (z : Cmd). reading_stage (wish_of z) t.gate) is)
    by_cmd e is = stays

part_shape : (t : Task) (part : Part) (j k : ℕ) → t.phase ≡ at.Word part j k → TurnShape t.me t.cmd (stage_at (at.Word part j k) t) (line_turn t part j)
part_shape t Superblock j k phase = line_or_shape t Begun Superblock j _ refl (super_shape t (super_body_of t.words (line_bytes * t.lines)))
part_shape t Header j k phase = header_shape t (log_fault t.words t.params)
part_shape t (Slot i) j k phase = line_or_shape t (reading_stage (wish_of t.cmd) t.gate) (Slot i) j _ refl record { cmd_is = refl; me_is = refl; stage_is = refl }
part_shape t File j k phase = file_shape t j k phase t.cmd refl

word_shape : (t : Task) (part : Part) (j k : ℕ) → t.phase ≡ at.Word part j k → TurnShape t.me t.cmd (stage_at (at.Word part j k) t) (word_turn t part j k)
word_shape t part j k phase = either t.me t.cmd (stage_at (at.Word part j k) t) (nat_lt k 7) _ _ (next part) (part_shape t part j k phase)
  where
    next : (part : Part) → TurnShape t.me t.cmd (stage_at (at.Word part j k) t) (Goes (record t { phase = at.Word part j (k + 1) }))
    next Superblock = record { cmd_is = refl; me_is = refl; stage_is = refl }
    next Header = record { cmd_is = refl; me_is = refl; stage_is = refl }
    next (Slot i) = record { cmd_is = refl; me_is = refl; stage_is = refl }
    next File = record { cmd_is = refl; me_is = refl; stage_is = refl }

with_word_shape : (t : Task) (word : ℕ) (part : Part) (j k : ℕ) → t.phase ≡ at.Word part j k → TurnShape t.me t.cmd (stage_at (at.Word part j k) t) (word_turn (with_word t word) part j k)
with_word_shape t word part j k phase = by_part part phase
  where
    by_part : (part : Part) → t.phase ≡ at.Word part j k → TurnShape t.me t.cmd (stage_at (at.Word part j k) t) (word_turn (with_word t word) part j k)
    by_part Superblock phase = word_shape (with_word t word) Superblock j k phase
    by_part Header phase = word_shape (with_word t word) Header j k phase
    by_part (Slot i) phase = word_shape (with_word t word) (Slot i) j k phase
    by_part File phase = word_shape (with_word t word) File j k phase

drop_shape : (t : Task) (part : Part) (j : ℕ) → TurnShape t.me t.cmd (stage_at (at.Drop part j) t) (Goes (record t { phase = at.Word part j 0 }))
drop_shape t Superblock j = record { cmd_is = refl; me_is = refl; stage_is = refl }
drop_shape t e j = record { cmd_is = refl; me_is = refl; stage_is = refl }

-- Lines that are written.

named_either : (u : Task) (b : Bool) (one other : Phase) → stage_at one u ≡ Named u.gate → stage_at other u ≡ Named u.gate → stage_at (if b then one else other) u ≡ Named u.gate
named_either u true one other first second = first
named_either u false one other first second = second

shape_at : (p : Phase) (t : Task) (word : ℕ) → t.phase ≡ p → TurnShape t.me t.cmd (stage_at p t) (turn_at p t word)
shape_at at.Magic t word phase = magic_shape t (magic_fault word)
shape_at (at.Drop part j) t word phase = drop_shape t part j
shape_at (at.Word part j k) t word phase = with_word_shape t word part j k phase
shape_at at.DropGate t word phase = (refl, record { cmd_is = refl; me_is = refl; stage_is = refl })
shape_at at.Gate t word phase = gate_shape t word (gate_fault word t.params)
shape_at (at.Check i) t word phase = check_shape t i
shape_at at.Decide t word phase = decide_shape t phase t.cmd refl
shape_at (at.StoreData j k) t word phase = record { cmd_is = refl; me_is = refl; stage_is = named_either _ (nat_lt k 7) (at.StoreData j (k + 1)) (at.SendData j) refl refl }
shape_at (at.SendData j) t word phase =
    record {
      cmd_is = refl;
      me_is = refl;
      stage_is = named_either _ (nat_lt (j + 1) (lines_of (size_of t.entry))) (at.StoreData (j + 1) 0)
          (at.StoreSlot 0 0) refl refl;
    }
shape_at (at.StoreSlot j k) t word phase = record { cmd_is = refl; me_is = refl; stage_is = named_either _ (nat_lt k 7) (at.StoreSlot j (k + 1)) (at.SendSlot j) refl refl }
shape_at (at.SendSlot j) t word phase = record { cmd_is = refl; me_is = refl; stage_is = named_either _ (nat_lt (j + 1) (geometry t.params).lines) (at.StoreSlot (j + 1) 0) at.FenceSlot refl refl }
shape_at at.FenceGate t word phase = refl
shape_at e t word phase = record { cmd_is = refl; me_is = refl; stage_is = refl }

-- whatever word an operation gives
pub turn_shape : (t : Task) (word : ℕ) → TurnShape t.me t.cmd (stage_of t) (turn_given t word)
turn_shape t word = shape_at t.phase t (unwrap_or (given_by (op_of t) word) 0) refl
