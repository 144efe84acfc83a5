-- What a running command answers stands where the tables of operations give it, by its phase.
use Rattle.std.proofs.Common.{◌≡◌, ℕ, ◌+◌, ◌*◌, Bool, true, false, List, [], length, Option, Some, None, Ok, Err, refl, ap, ◌∙◌}
use Rattle.std.specs.Prelude.{⊤, unwrap_or, ◌==◌, nat_lt, nat_le, if◌then◌else◌, slice_index, Result}
use Rattle.std.specs.FinMap as finmap
use Rattle.fam_base.specs.declared.cmd.Cmd.{Cmd}
use Rattle.fam_base.specs.declared.cmd.Cmd.TheVariants.{Logplay, Mount, Mkdir, Creat, Cp, Verify, Read, Check, Fsck}
use Rattle.fam_base.specs.declared.cmd.Content.{Content}
use Rattle.fam_base.specs.declared.cmd.Content.TheVariants as content
use Rattle.fam_base.specs.declared.cmd.Stripe.{Stripe}
use Rattle.fam_base.specs.declared.entry.Entry.{Entry}
use Rattle.fam_base.specs.declared.entry.Kind.{Kind}
use Rattle.fam_base.specs.declared.entry.Kind.TheVariants as kind
use Rattle.fam_base.specs.declared.entry.Params.{Params}
use Rattle.fam_base.specs.Paths.{parent_of}
use Rattle.fam_commands.proofs.BeforeWrites.{IsBehindSuper}
use Rattle.fam_commands.proofs.Steps.Behind.{behind_super}
use Rattle.fam_commands.proofs.Steps.Standing.{standing_tied}
use Rattle.fam_commands.proofs.Steps.Ties.{Tied}
use Rattle.fam_commands.specs.declared.phase.Part.{Part}
use Rattle.fam_commands.specs.declared.phase.Part.TheVariants.{Superblock, Header, Slot, File}
use Rattle.fam_commands.specs.declared.phase.Phase.{Phase}
use Rattle.fam_commands.specs.declared.phase.Phase.TheVariants as at
use Rattle.fam_commands.specs.Classes.{Class, class_of, Compares, Reads, Surveys}
use Rattle.fam_commands.specs.Kept.{IsKept, Kept}
use Rattle.fam_commands.specs.Stands.{StandsFor, turn_given}
use Rattle.fam_commands.specs.Task.{Task, op_of, part_count, wanted_end}
use Rattle.fam_commands.specs.Turns.{Turn, Goes, Marks, Finds, Writes, Ends, append_turn, bytes_turn, check_turn_in, compare_turn, decide_turn, file_turn_in, finds_or_goes, found_turn, gate_loaded, gate_turn, header_turn, host_refusal, host_turn, join_turn, kind_turn, line_difference, line_or, line_turn, log_fault_reply_in, magic_turn, slot_turn, super_fault_reply_in, super_turn, turn_at, verify_lines, verify_turn, wish_turn, with_word, word_turn}
use Rattle.fam_format.specs.declared.faults.LogFault.{LogFault}
use Rattle.fam_format.specs.declared.faults.LogFault.TheVariants.{BadLog}
use Rattle.fam_format.specs.declared.faults.LogField.{LogField}
use Rattle.fam_format.specs.declared.faults.LogField.TheVariants as field
use Rattle.fam_format.specs.declared.faults.Reason.{Reason}
use Rattle.fam_format.specs.declared.faults.SuperFault.{SuperFault}
use Rattle.fam_format.specs.Log.{field_fault, gate_fault, log_crc, log_fault, log_magic}
use Rattle.fam_format.specs.Slot.{entry_of}
use Rattle.fam_format.specs.Stop.{or_else, stop}
use Rattle.fam_format.specs.Super.{magic_fault, super_body_of}
use Rattle.fam_format.specs.Tree.{Tree, join_fault, replay}
use Rattle.fam_format.specs.Words.{word_of_bytes}
use Rattle.fam_machine.specs.Operations.{given_by}
use Rattle.fam_rules.specs.declared.answers.Refused.{Refused}
use Rattle.fam_rules.specs.declared.answers.Refused.TheVariants as cause
use Rattle.fam_rules.specs.Decide.{Room, Wish, decide_wish, early_refusal, entry_or, exists_refusal, file_refusal, found_refusal, full_refusal, is_stripe, no_room_needed, parent_refusal, room_by, room_for, room_or, stripe_refusal, wish_of}
use Rattle.fam_rules.specs.Place.{line_bytes}
use Rattle.fam_rules.specs.Reports.{report_by}
use Rattle.fam_journal.specs.Shapes.{Begun, CommandStage, Marked, Met, reading_stage, stage_at, stage_of}
use Rattle.fam_judge.specs.Formed.{CausePlace, FaultPlace, FieldPlace, ReplyPlace, SlotPlace}

-- what a turn answers has its place
abbrev pub TurnPlace : Cmd → CommandStage → Turn → Type 0
TurnPlace cmd stage (Goes next) = ⊤
TurnPlace cmd stage (Marks next) = ⊤
TurnPlace cmd stage (Finds n next) = ⊤
TurnPlace cmd stage (Writes seq e next) = ⊤
TurnPlace cmd stage (Ends given) = ReplyPlace cmd stage given

-- Faults of the header and of the gate.

-- the fault, if any, is of a field that is read at this stage
abbrev FaultAt : CommandStage → Option LogFault → Type 0
FaultAt stage None = ⊤
FaultAt stage (Some fault) = FaultPlace fault stage

field_at : (stage : CommandStage) (f : LogField) (found wanted : ℕ) → FieldPlace f stage → FaultAt stage (field_fault f found wanted)
field_at stage f found wanted here = by_test (found == wanted)
  where
    by_test : (b : Bool) → FaultAt stage (if b then None else Some (BadLog f found wanted))
    by_test true = tt
    by_test false = here

or_at : (stage : CommandStage) (a b : Option LogFault) → FaultAt stage a → FaultAt stage b → FaultAt stage (or_else a b)
or_at stage (Some fault) b first rest = first
or_at stage None b first rest = rest

-- one field, and those behind it
first_at : (stage : CommandStage) (f : LogField) (found wanted : ℕ) (rest : Option LogFault) → FieldPlace f stage → FaultAt stage rest
    → FaultAt stage (or_else (field_fault f found wanted) rest)
first_at stage f found wanted rest here more = or_at stage (field_fault f found wanted) rest (field_at stage f found wanted here) more

-- the header's fields are none of the gate
header_at : (w : List ℕ) (p : Params) → FaultAt Begun (log_fault w p)
unfolding log_fault
header_at w p =
    first_at Begun field.Magic (slice_index w 0) log_magic _ refl
    (first_at Begun field.Crc (slice_index w 7) (log_crc w) _ refl
    (first_at Begun field.Length (slice_index w 1) p.log_length _ refl
    (first_at Begun field.Slots (slice_index w 2) p.slots _ refl
    (first_at Begun field.Uuid (slice_index w 3) (word_of_bytes p.fs 0) _ refl
    (first_at Begun field.Uuid (slice_index w 4) (word_of_bytes p.fs 1) _ refl
    (first_at Begun field.Rest (slice_index w 5) 0 _ refl
    (field_at Begun field.Rest (slice_index w 6) 0 refl)))))))

gate_at : (gate : ℕ) (p : Params) → FaultAt Marked (gate_fault gate p)
gate_at gate p = by_test (nat_lt p.slots gate)
  where
    by_test : (b : Bool) → FaultAt Marked (if b then Some (BadLog field.Gate gate p.slots) else None)
    by_test true = refl
    by_test false = tt

-- Why nothing is appended.

-- when the superblock is read
early_at : (why : Refused) → CausePlace why Begun
early_at (cause.NotMaster own master) = refl
early_at (cause.LongPath limit) = refl
early_at other = tt

-- behind the slots: a command that was let through meets no other host's refusal, and no path that is too long
module _ (n : ℕ) where
  -- the refusal, if any, is none that the superblock tells
  abbrev CauseAt : Option Refused → Type 0
  CauseAt None = ⊤
  CauseAt (Some why) = CausePlace why (Met n)

  -- so is that of a decision
  abbrev DecidedAt : {A : Type 0} → Result A Refused → Type 0
  DecidedAt (Ok e) = ⊤
  DecidedAt (Err why) = CausePlace why (Met n)

  stopped : {A : Type 0} (o : Option Refused) (r : Result A Refused) → CauseAt o → DecidedAt r → DecidedAt (stop o r)
  stopped None r first rest = rest
  stopped (Some why) r first rest = first

  let_through : {A : Type 0} (o : Option Refused) (r : Result A Refused) → o ≡ None → DecidedAt r → DecidedAt (stop o r)
  let_through None r none rest = rest
  let_through (Some why) r none rest = absurd cc

  tested : (b : Bool) (one other : Option Refused) → CauseAt one → CauseAt other → CauseAt (if b then one else other)
  tested true one other first second = first
  tested false one other first second = second

  stripe_at : (p : Params) (o : Option Stripe) → CauseAt (stripe_refusal p o)
  stripe_at p None = tt
  stripe_at p (Some s) = tested (is_stripe p s) None (Some cause.BadStripe) tt tt

  exists_at : (o : Option Entry) → CauseAt (exists_refusal o)
  exists_at None = tt
  exists_at (Some old) = tt

  file_at : (k : Kind) → CauseAt (file_refusal k)
  file_at kind.File = tt
  file_at kind.Directory = tt

  found_at : (o : Option Entry) → CauseAt (found_refusal o)
  found_at None = tt
  found_at (Some parent) = file_at parent.kind

  parent_at : (tree : Tree) (o : Option (List ℕ)) → CauseAt (parent_refusal tree o)
  parent_at tree None = tt
  parent_at tree (Some parent) = found_at (finmap.get tree parent)

  full_at : (p : Params) (list : List Entry) → CauseAt (full_refusal p list)
  full_at p list = tested (nat_le p.slots (length list)) (Some (cause.LogFull p.slots)) None tt tt

  room_or_at : (k : ℕ) (o : Option Room) → DecidedAt (room_or k o)
  room_or_at k None = tt
  room_or_at k (Some found) = tt

  room_by_at : (p : Params) (list : List Entry) (size : ℕ) (o : Option Stripe) → DecidedAt (room_by p list size o)
  room_by_at p list size None = room_or_at _ _
  room_by_at p list size (Some s) = room_or_at _ _

  room_at : (p : Params) (list : List Entry) (w : Wish) → DecidedAt (room_for p list w)
  unfolding room_for
  room_at p list w = by_test (w.size == 0)
    where
      by_test : (b : Bool) → DecidedAt (if b then Ok no_room_needed else room_by p list w.size w.stripe)
      by_test true = tt
      by_test false = room_by_at p list w.size w.stripe

  entry_at : (w : Wish) (r : Result Room Refused) → DecidedAt r → DecidedAt (entry_or w r)
  entry_at w (Ok found) is = tt
  entry_at w (Err why) is = is

  decided : (p : Params) (me : List ℕ) (list : List Entry) (w : Wish) → early_refusal p me w.path ≡ None → DecidedAt (decide_wish p me list w)
  unfolding decide_wish
  decided p me list w early =
      let_through (early_refusal p me w.path) _ early
      (stopped (stripe_refusal p w.stripe) _ (stripe_at p w.stripe)
      (stopped (exists_refusal (finmap.get (replay list) w.path)) _ (exists_at (finmap.get (replay list) w.path))
      (stopped (parent_refusal (replay list) (parent_of w.path)) _ (parent_at (replay list) (parent_of w.path))
      (stopped (full_refusal p list) _ (full_at p list)
      (entry_at w (room_for p list w) (room_at p list w))))))

-- Answers of a command.

module _ (cmd : Cmd) where
  either : (stage : CommandStage) (b : Bool) (one other : Turn) → TurnPlace cmd stage one → TurnPlace cmd stage other → TurnPlace cmd stage (if b then one else other)
  either stage true one other first second = first
  either stage false one other first second = second

  super_ends : (c : Class) (fault : SuperFault) → ReplyPlace cmd Begun (super_fault_reply_in c fault)
  super_ends Surveys fault = refl
  super_ends other fault = tt

  log_ends : (stage : CommandStage) (c : Class) (fault : LogFault) → FaultPlace fault stage → ReplyPlace cmd stage (log_fault_reply_in c fault)
  log_ends stage Surveys (BadLog f found wanted) here = here
  log_ends stage other fault here = here

  -- a command that appends has found what it reads
  has_met : (o : Option Wish) (gate : ℕ) → SlotPlace o (reading_stage o gate)
  has_met None gate = tt
  has_met (Some w) gate = tt

module _ (t : Task) where
  -- the stage at which it reads entries
  abbrev reads : CommandStage
  reads = reading_stage (wish_of t.cmd) t.gate

  magic_place : (o : Option SuperFault) → TurnPlace t.cmd Begun (magic_turn t o)
  magic_place (Some fault) = super_ends t.cmd (class_of t.cmd) fault
  magic_place None = tt

  host_place : (p : Params) (o : Option Refused) → TurnPlace t.cmd Begun (host_turn t p o)
  host_place p None = tt
  host_place p (Some why) = early_at why

  super_place : (r : Result Params SuperFault) → TurnPlace t.cmd Begun (super_turn t r)
  super_place (Err fault) = super_ends t.cmd (class_of t.cmd) fault
  super_place (Ok p) = host_place p (host_refusal (wish_of t.cmd) p t.me)

  header_place : (o : Option LogFault) → FaultAt Begun o → TurnPlace t.cmd Begun (header_turn t o)
  header_place (Some fault) here = log_ends t.cmd Begun (class_of t.cmd) fault here
  header_place None here = tt

  found_place : (stage : CommandStage) (o : Option Wish) (n : ℕ) (next : Task) → TurnPlace t.cmd stage (finds_or_goes o n next)
  found_place stage None n next = tt
  found_place stage (Some w) n next = tt

  gate_place : (n : ℕ) (o : Option LogFault) → FaultAt Marked o → TurnPlace t.cmd Marked (gate_turn t n o)
  gate_place n (Some fault) here = log_ends t.cmd Marked (class_of t.cmd) fault here
  gate_place n None here = found_place Marked (wish_of t.cmd) n (gate_loaded t n)

  -- Slots.

  join_place : (i : ℕ) (e : Entry) (o : Option Reason) → TurnPlace t.cmd reads (join_turn t i e o)
  join_place i e (Some reason) = has_met t.cmd (wish_of t.cmd) t.gate
  join_place i e None = tt

  slot_place : (i : ℕ) (r : Result Entry Reason) → TurnPlace t.cmd reads (slot_turn t i r)
  slot_place i (Err reason) = has_met t.cmd (wish_of t.cmd) t.gate
  slot_place i (Ok e) = join_place i e (join_fault t.params t.entries e)

  check_place : (i : ℕ) (c : Class) → TurnPlace t.cmd reads (check_turn_in c t i)
  check_place i Surveys = tt
  check_place i other = slot_place i (entry_of t.params t.words i)

  -- The decision.

  append_place : (r : Result Entry Refused) → DecidedAt t.gate r → TurnPlace t.cmd (Met t.gate) (append_turn t r)
  append_place (Ok e) here = tt
  append_place (Err why) here = here

  wish_place : (o : Option Wish) → host_refusal o t.params t.me ≡ None → TurnPlace t.cmd (reading_stage o t.gate) (wish_turn t o)
  wish_place None early = tt
  wish_place (Some w) early = append_place (decide_wish t.params t.me t.entries w) (decided t.gate t.params t.me t.entries w early)

  lines_place : (e : Entry) → TurnPlace t.cmd reads (verify_lines t e)
  lines_place e = either t.cmd reads (e.size == 0) _ _ tt tt

  verify_place : (e : Entry) (against : Content) → TurnPlace t.cmd reads (verify_turn t e against)
  verify_place e (content.Bytes given) = either t.cmd reads (length given == e.size) _ _ (lines_place e) tt
  verify_place e (content.Seed seed) = lines_place e
  verify_place e content.Zero = lines_place e

  bytes_place : (e : Entry) (offset : ℕ) → TurnPlace t.cmd reads (bytes_turn t e offset)
  bytes_place e offset = either t.cmd reads (nat_le (wanted_end t.cmd e.size) offset) _ _ tt tt

  kind_place : (k : Kind) (turn : Turn) → TurnPlace t.cmd reads turn → TurnPlace t.cmd reads (kind_turn t k turn)
  kind_place kind.Directory turn here = tt
  kind_place kind.File turn here = here

  at_path : (o : Option Entry) (turn : Entry → Turn) → ((e : Entry) → TurnPlace t.cmd reads (turn e)) → TurnPlace t.cmd reads (found_turn t o turn)
  at_path None turn each = tt
  at_path (Some e) turn each = kind_place e.kind (turn e) (each e)

  module _ (early : host_refusal (wish_of t.cmd) t.params t.me ≡ None) where
    decide_place : (c : Cmd) → TurnPlace t.cmd reads (decide_turn c t)
    unfolding report_by
    decide_place Logplay = tt
    decide_place Mount = tt
    decide_place (Check listing) = tt
    decide_place Fsck = tt
    decide_place (Verify path against) = at_path (finmap.get (replay t.entries) path) (λ e. verify_turn t e against) (λ e. verify_place e against)
    decide_place (Read path offset count) = at_path (finmap.get (replay t.entries) path) (λ e. bytes_turn t e offset) (λ e. bytes_place e offset)
    decide_place (Mkdir path attr) = wish_place (wish_of t.cmd) early
    decide_place (Creat path size attr stripe fill) = wish_place (wish_of t.cmd) early
    decide_place (Cp path attr stripe bytes) = wish_place (wish_of t.cmd) early

-- Lines that were loaded.

more_place : (cmd : Cmd) (t : Task) (stage : CommandStage) (part : Part) (j : ℕ) (turn : Turn) → TurnPlace cmd stage turn → TurnPlace cmd stage (line_or t part j turn)
more_place cmd t stage part j turn here = either cmd stage (nat_lt (j + 1) (part_count t part)) _ _ tt here

compare_place : (t : Task) (stage : CommandStage) (against : Content) (j : ℕ) (o : Option ℕ) → TurnPlace t.cmd stage (compare_turn t against j o)
compare_place t stage against j (Some b) = tt
compare_place t stage against j None = more_place t.cmd (record t { words = [] }) stage File j _ tt

file_place : (t : Task) (stage : CommandStage) (j : ℕ) (c : Class) → TurnPlace t.cmd stage (file_turn_in c t j)
file_place t stage j (Compares path against) = compare_place t stage against j (line_difference t against j)
file_place t stage j (Reads path offset count) = more_place t.cmd t stage File j _ tt
file_place t stage j other = tt

part_place : (t : Task) (part : Part) (j k : ℕ) → TurnPlace t.cmd (stage_at (at.Word part j k) t) (line_turn t part j)
part_place t Superblock j k = more_place t.cmd t Begun Superblock j _ (super_place t (super_body_of t.words (line_bytes * t.lines)))
part_place t Header j k = header_place t (log_fault t.words t.params) (header_at t.words t.params)
part_place t (Slot i) j k = more_place t.cmd t (reads t) (Slot i) j _ tt
part_place t File j k = file_place t (reads t) j (class_of t.cmd)

word_place : (t : Task) (part : Part) (j k : ℕ) → TurnPlace t.cmd (stage_at (at.Word part j k) t) (word_turn t part j k)
word_place t part j k = either t.cmd (stage_at (at.Word part j k) t) (nat_lt k 7) _ _ tt (part_place t part j k)

with_word_place : (t : Task) (word : ℕ) (part : Part) (j k : ℕ) → TurnPlace t.cmd (stage_at (at.Word part j k) t) (word_turn (with_word t word) part j k)
with_word_place t word Superblock j k = word_place (with_word t word) Superblock j k
with_word_place t word Header j k = word_place (with_word t word) Header j k
with_word_place t word (Slot i) j k = word_place (with_word t word) (Slot i) j k
with_word_place t word File j k = word_place (with_word t word) File j k

-- Any operation.

place_at : (p : Phase) (t : Task) (word : ℕ) → (IsBehindSuper p → host_refusal (wish_of t.cmd) t.params t.me ≡ None) → TurnPlace t.cmd (stage_at p t) (turn_at p t word)
place_at at.Magic t word through = magic_place t (magic_fault word)
place_at (at.Word part j k) t word through = with_word_place t word part j k
place_at at.Gate t word through = gate_place t word (gate_fault word t.params) (gate_at word t.params)
place_at (at.Check i) t word through = check_place t i (class_of t.cmd)
place_at at.Decide t word through = decide_place t (through tt) t.cmd
place_at other t word through = tt

-- so of a task that stands for a command, whatever word its operation gives: a host that appends was let through
pub standing_place : (kept : Option Kept) (cmd : Cmd) (me : List ℕ) (lines : ℕ) (t : Task) (words : List ℕ) (made : ℕ) → IsKept kept
    → StandsFor kept cmd me lines t words made → (word : ℕ) → TurnPlace t.cmd (stage_of t) (turn_given t word)
standing_place kept cmd me lines t words made joined stands word =
    place_at t.phase t (unwrap_or (given_by (op_of t) word) 0) (λ behind.
    ap (λ (m : List ℕ). host_refusal (wish_of t.cmd) t.params m) tied.me_is ∙ ap (λ (c : Cmd). host_refusal (wish_of c) t.params me) tied.cmd_is
    ∙ behind_super kept cmd me lines t words made joined stands behind)
  where
    tied : Tied cmd me lines kept t words made
    tied = standing_tied kept cmd me lines t words made joined stands
