-- What a turn says up to the first store of an append.
use Rattle.std.proofs.Common.{ℕ, ◌≡◌, ◌+◌, ◌*◌, Bool, true, false, [], length, Option, Some, None, Ok, Err, refl, sym, ap, subst}
use Rattle.std.specs.Prelude.{⊤, ◌==◌, nat_lt, nat_le, if◌then◌else◌, Result}
use Rattle.std.specs.FinMap as finmap
use Rattle.fam_base.specs.declared.cmd.Cmd.{Cmd}
use Rattle.fam_base.specs.declared.cmd.Cmd.TheVariants.{Logplay, Mount, Mkdir, Creat, Cp, Verify, Read, Check, Fsck}
use Rattle.fam_base.specs.declared.cmd.Content.{Content}
use Rattle.fam_base.specs.declared.cmd.Content.TheVariants as content
use Rattle.fam_base.specs.declared.entry.Params.{Params}
use Rattle.fam_base.specs.declared.entry.Entry.{Entry}
use Rattle.fam_base.specs.declared.entry.Kind.{Kind}
use Rattle.fam_base.specs.declared.entry.Kind.TheVariants as kind
use Rattle.fam_format.specs.declared.faults.SuperFault.{SuperFault}
use Rattle.fam_format.specs.declared.faults.LogFault.{LogFault}
use Rattle.fam_format.specs.declared.faults.Reason.{Reason}
use Rattle.fam_format.specs.Log.{gate_fault, log_fault}
use Rattle.fam_format.specs.Slot.{entry_of}
use Rattle.fam_format.specs.Super.{magic_fault, super_body_of}
use Rattle.fam_format.specs.Tree.{join_fault, replay}
use Rattle.fam_commands.specs.declared.phase.Part.{Part}
use Rattle.fam_commands.specs.declared.phase.Part.TheVariants.{Superblock, Header, Slot, File}
use Rattle.fam_commands.specs.declared.phase.Phase.{Phase}
use Rattle.fam_commands.specs.declared.phase.Phase.TheVariants as at
use Rattle.fam_commands.specs.Kept.{first_slot}
use Rattle.fam_commands.specs.Task.{Task, part_count, wanted_end}
use Rattle.fam_commands.specs.Turns.{Turn, Goes, Marks, Finds, Writes, Ends, super_fault_reply, log_fault_reply, magic_turn, host_refusal, host_turn, super_turn, header_turn, slot_or_decide, slots_read, finds_or_goes, gate_loaded, gate_turn, join_turn, slot_turn, check_turn, first_store, append_turn, verify_lines, verify_turn, bytes_turn, kind_turn, found_turn, wish_turn, decide_turn, line_or, line_difference, compare_turn, file_turn, line_turn, with_word, word_turn, turn_at}
use Rattle.fam_rules.specs.declared.answers.Refused.{Refused}
use Rattle.fam_rules.specs.Decide.{Wish, decide_wish, early_refusal, wish_of}
use Rattle.fam_rules.specs.Place.{line_bytes}
use Rattle.fam_rules.specs.Reply.{Reply, Appended, NotAppended, Reports, NoSuperblock, BadHeader, BadSlot, Played, Mounted, Same, Differs, Length, Bytes, NotFound, IsDirectory, Checks}
use Rattle.fam_commands.specs.Appends.{IsBeforeWrites, HasWish}

-- the superblock is read there
abbrev pub IsBehindSuper : Phase → Type 0
IsBehindSuper at.DropMagic = ⊥
IsBehindSuper at.Magic = ⊥
IsBehindSuper (at.Drop Superblock j) = ⊥
IsBehindSuper (at.Word Superblock j k) = ⊥
IsBehindSuper (at.Drop Header j) = ⊤
IsBehindSuper (at.Drop (Slot i) j) = ⊤
IsBehindSuper (at.Drop File j) = ⊤
IsBehindSuper (at.Word Header j k) = ⊤
IsBehindSuper (at.Word (Slot i) j k) = ⊤
IsBehindSuper (at.Word File j k) = ⊤
IsBehindSuper at.DropGate = ⊤
IsBehindSuper at.Gate = ⊤
IsBehindSuper (at.Check i) = ⊤
IsBehindSuper at.Decide = ⊤
IsBehindSuper (at.StoreData j k) = ⊤
IsBehindSuper (at.SendData j) = ⊤
IsBehindSuper (at.StoreSlot j k) = ⊤
IsBehindSuper (at.SendSlot j) = ⊤
IsBehindSuper at.StoreGate = ⊤
IsBehindSuper at.FenceSlot = ⊤
IsBehindSuper at.SendGate = ⊤
IsBehindSuper at.FenceGate = ⊤

-- the append begins, with the first line of the file or of the slot
pub record Begins (cmd : Cmd) (seq : ℕ) (e : Entry) (next : Task) : Type 0 where
  pub wish : HasWish cmd
  pub gate : next.gate ≡ seq
  pub entry : next.entry ≡ Some e
  pub phase : next.phase ≡ first_store e.size

-- who gives such an answer, and where
abbrev pub EndsAt : Phase → Cmd → Reply → Type 0
EndsAt p cmd (Appended seq) = ⊥
EndsAt p cmd (NotAppended refused) = HasWish cmd
EndsAt p cmd (Reports report) = cmd ≡ Fsck
EndsAt p cmd (NoSuperblock fault) = cmd ≡ Fsck → ⊥
EndsAt p cmd (BadHeader fault) = IsBehindSuper p × (cmd ≡ Fsck → ⊥)
EndsAt p cmd (BadSlot i reason) = IsBehindSuper p × (cmd ≡ Fsck → ⊥)
EndsAt p cmd (Played m tree) = ⊤
EndsAt p cmd (Mounted m) = ⊤
EndsAt p cmd (Same m) = ⊤
EndsAt p cmd (Differs m offset found wanted) = ⊤
EndsAt p cmd (Length m size wanted) = ⊤
EndsAt p cmd (Bytes m bytes) = ⊤
EndsAt p cmd (NotFound m) = ⊤
EndsAt p cmd (IsDirectory m) = ⊤
EndsAt p cmd (Checks m checked) = ⊤

abbrev pub SaysAt : Phase → Cmd → Turn → Type 0
SaysAt p cmd (Goes next) = IsBeforeWrites next.phase
SaysAt p cmd (Marks next) = IsBeforeWrites next.phase
SaysAt p cmd (Finds n next) = IsBeforeWrites next.phase
SaysAt p cmd (Writes seq e next) = Begins cmd seq e next
SaysAt p cmd (Ends reply) = EndsAt p cmd reply

-- A test either way, and answers on a damaged image.
module _ (p : Phase) (cmd : Cmd) where
  either : (b : Bool) (one other : Turn) → SaysAt p cmd one → SaysAt p cmd other → SaysAt p cmd (if b then one else other)
  either true one other first second = first
  either false one other first second = second

  super_ends : (fault : SuperFault) → EndsAt p cmd (super_fault_reply cmd fault)
  super_ends fault = by_cmd cmd
    where
      by_cmd : (c : Cmd) → EndsAt p c (super_fault_reply c fault)
      by_cmd Fsck = refl
      by_cmd other = λ e. absurd (cc)

  log_ends : IsBehindSuper p → (fault : LogFault) → EndsAt p cmd (log_fault_reply cmd fault)
  log_ends behind fault = by_cmd cmd
    where
      by_cmd : (c : Cmd) → EndsAt p c (log_fault_reply c fault)
      by_cmd Fsck = refl
      by_cmd other = (behind, λ e. absurd (cc))

-- Superblock and header.
module _ (p : Phase) (t : Task) where
  magic_says : (o : Option SuperFault) → SaysAt p t.cmd (magic_turn t o)
  magic_says (Some fault) = super_ends p t.cmd fault
  magic_says None = tt

  host_says : (params : Params) (o : Option Refused) → HasWish t.cmd → SaysAt p t.cmd (host_turn t params o)
  host_says params (Some refused) has = has
  host_says params None has = tt

  wished_host : (params : Params) (o : Option Wish) → wish_of t.cmd ≡ o → SaysAt p t.cmd (host_turn t params (host_refusal o params t.me))
  wished_host params None is = tt
  wished_host params (Some w) is = host_says params (early_refusal params t.me w.path) (w, is)

  super_says : (r : Result Params SuperFault) → SaysAt p t.cmd (super_turn t r)
  super_says (Err fault) = super_ends p t.cmd fault
  super_says (Ok params) = wished_host params (wish_of t.cmd) refl

  header_says : IsBehindSuper p → (o : Option LogFault) → SaysAt p t.cmd (header_turn t o)
  header_says behind (Some fault) = log_ends p t.cmd behind fault
  header_says behind None = tt

-- Gate and slots.
slot_or : (t : Task) (i : ℕ) → IsBeforeWrites (slot_or_decide t i)
slot_or t i = by_test (nat_lt i (slots_read t))
  where
    by_test : (b : Bool) → IsBeforeWrites (if b then at.Drop (Slot i) 0 else at.Decide)
    by_test true = tt
    by_test false = tt

module _ (p : Phase) (behind : IsBehindSuper p) (t : Task) where
  gate_says : (n : ℕ) (o : Option LogFault) → SaysAt p t.cmd (gate_turn t n o)
  gate_says n (Some fault) = log_ends p t.cmd behind fault
  gate_says n None = by_wish (wish_of t.cmd)
    where
      by_wish : (o : Option Wish) → SaysAt p t.cmd (finds_or_goes o n (gate_loaded t n))
      by_wish None = slot_or (record t { gate = n }) (first_slot t.kept t.cmd t.params n)
      by_wish (Some w) = slot_or (record t { gate = n }) (first_slot t.kept t.cmd t.params n)

  join_says : (t.cmd ≡ Fsck → ⊥) → (i : ℕ) (e : Entry) (o : Option Reason) → SaysAt p t.cmd (join_turn t i e o)
  join_says other i e (Some reason) = (behind, other)
  join_says other i e None = slot_or t (i + 1)

  slot_says : (t.cmd ≡ Fsck → ⊥) → (i : ℕ) (r : Result Entry Reason) → SaysAt p t.cmd (slot_turn t i r)
  slot_says other i (Err reason) = (behind, other)
  slot_says other i (Ok e) = join_says other i e (join_fault t.params t.entries e)

  check_says : (i : ℕ) → SaysAt p t.cmd (check_turn t.cmd t i)
  check_says i = by_cmd t.cmd refl
    where
      by_cmd : (c : Cmd) → t.cmd ≡ c → SaysAt p t.cmd (check_turn c t i)
      by_cmd Fsck is = slot_or t (i + 1)
      by_cmd other is = slot_says (λ e. absurd (cc)) i (entry_of t.params t.words i)

-- The decision, and lines of files.
module _ (p : Phase) (t : Task) where
  append_says : HasWish t.cmd → (r : Result Entry Refused) → SaysAt p t.cmd (append_turn t r)
  append_says has (Err refused) = has
  append_says has (Ok e) = record { wish = has; gate = refl; entry = refl; phase = refl }

  lines_say : (e : Entry) → SaysAt p t.cmd (verify_lines t e)
  lines_say e = either p t.cmd (e.size == 0) _ _ tt tt

  verify_says : (e : Entry) (against : Content) → SaysAt p t.cmd (verify_turn t e against)
  verify_says e (content.Bytes given) = either p t.cmd (length given == e.size) _ _ (lines_say e) tt
  verify_says e (content.Seed seed) = lines_say e
  verify_says e content.Zero = lines_say e

  bytes_say : (e : Entry) (offset : ℕ) → SaysAt p t.cmd (bytes_turn t e offset)
  bytes_say e offset = either p t.cmd (nat_le (wanted_end t.cmd e.size) offset) _ _ tt tt

  kind_says : (k : Kind) (turn : Turn) → SaysAt p t.cmd turn → SaysAt p t.cmd (kind_turn t k turn)
  kind_says kind.Directory turn says = tt
  kind_says kind.File turn says = says

  found_says : (o : Option Entry) (turn : Entry → Turn) → ((e : Entry) → SaysAt p t.cmd (turn e)) → SaysAt p t.cmd (found_turn t o turn)
  found_says None turn says = tt
  found_says (Some e) turn says = kind_says e.kind (turn e) (says e)

  wish_says : (o : Option Wish) → wish_of t.cmd ≡ o → HasWish t.cmd → SaysAt p t.cmd (wish_turn t o)
  wish_says None is has = absurd (let some = has.1 in cc)
  wish_says (Some w) is has = append_says has (decide_wish t.params t.me t.entries w)

  decide_says : (c : Cmd) → t.cmd ≡ c → SaysAt p t.cmd (decide_turn c t)
  decide_says Logplay is = tt
  decide_says Mount is = tt
  decide_says (Check listing) is = tt
  decide_says Fsck is = is
  decide_says (Verify path against) is = found_says (finmap.get (replay t.entries) path) (λ e. verify_turn t e against) (λ e. verify_says e against)
  decide_says (Read path offset count) is = found_says (finmap.get (replay t.entries) path) (λ e. bytes_turn t e offset) (λ e. bytes_say e offset)
  decide_says (Mkdir path attr) is = wish_says (wish_of t.cmd) refl (_, ap wish_of is)
  decide_says (Creat path size attr stripe fill) is = wish_says (wish_of t.cmd) refl (_, ap wish_of is)
  decide_says (Cp path attr stripe bytes) is = wish_says (wish_of t.cmd) refl (_, ap wish_of is)

  line_says : (part : Part) (j : ℕ) (turn : Turn) → SaysAt p t.cmd turn → SaysAt p t.cmd (line_or t part j turn)
  line_says part j turn says = either p t.cmd (nat_lt (j + 1) (part_count t part)) _ _ tt says

compare_says : (p : Phase) (t : Task) (against : Content) (j : ℕ) (o : Option ℕ) → SaysAt p t.cmd (compare_turn t against j o)
compare_says p t against j (Some b) = tt
compare_says p t against j None = line_says p (record t { words = [] }) File j _ tt

file_says : (p : Phase) (t : Task) (j : ℕ) → IsBeforeWrites t.phase → (c : Cmd) → SaysAt p t.cmd (file_turn c t j)
file_says p t j before (Verify path against) = compare_says p t against j (line_difference t against j)
file_says p t j before (Read path offset count) = line_says p t File j _ tt
file_says p t j before other = before

part_says : (t : Task) (part : Part) (j k : ℕ) → IsBeforeWrites t.phase → SaysAt (at.Word part j k) t.cmd (line_turn t part j)
part_says t Superblock j k before = line_says (at.Word Superblock j k) t Superblock j _ (super_says (at.Word Superblock j k) t (super_body_of t.words (line_bytes * t.lines)))
part_says t Header j k before = header_says (at.Word Header j k) t tt (log_fault t.words t.params)
part_says t (Slot i) j k before = line_says (at.Word (Slot i) j k) t (Slot i) j _ tt
part_says t File j k before = file_says (at.Word File j k) t j before t.cmd

word_says : (t : Task) (part : Part) (j k : ℕ) → IsBeforeWrites t.phase → SaysAt (at.Word part j k) t.cmd (word_turn t part j k)
word_says t part j k before = either (at.Word part j k) t.cmd (nat_lt k 7) _ _ tt (part_says t part j k before)

pub turn_says : (p : Phase) (t : Task) (word : ℕ) → IsBeforeWrites p → t.phase ≡ p → SaysAt p t.cmd (turn_at p t word)
turn_says at.DropMagic t word before is = tt
turn_says at.Magic t word before is = magic_says at.Magic t (magic_fault word)
turn_says (at.Drop part j) t word before is = tt
turn_says (at.Word part j k) t word before is = word_says (with_word t word) part j k (subst IsBeforeWrites (sym is) tt)
turn_says at.DropGate t word before is = tt
turn_says at.Gate t word before is = gate_says at.Gate tt t word (gate_fault word t.params)
turn_says (at.Check i) t word before is = check_says (at.Check i) tt t i
turn_says at.Decide t word before is = decide_says at.Decide t t.cmd refl
turn_says other t word before is = absurd before
