-- A task keeps what its host kept; and what a logplay lists, or a mount counts, are the entries that it has.
use Rattle.std.proofs.Common.{ℕ, ◌≡◌, ◌+◌, [], length, Bool, true, false, Option, Some, None, Result, Ok, Err, refl, ap, nat_lt}
use Rattle.std.specs.Prelude.{⊤, ◌*◌, if◌then◌else◌, nat_le, ◌==◌}
use Rattle.std.specs.FinMap as finmap
use Rattle.fam_base.specs.declared.cmd.Cmd.{Cmd}
use Rattle.fam_base.specs.declared.cmd.Cmd.TheVariants.{Logplay, Mount, Mkdir, Creat, Cp, Verify, Read, Check, Fsck}
use Rattle.fam_base.specs.declared.cmd.Content.{Content}
use Rattle.fam_base.specs.declared.cmd.Content.TheVariants as content
use Rattle.fam_base.specs.declared.entry.Params.{Params}
use Rattle.fam_base.specs.declared.entry.Entry.{Entry}
use Rattle.fam_base.specs.declared.entry.Kind.{Kind}
use Rattle.fam_base.specs.declared.entry.Kind.TheVariants as kind
use Rattle.fam_format.specs.declared.faults.SuperFault.{SuperFault}
use Rattle.fam_format.specs.declared.faults.LogFault.{LogFault}
use Rattle.fam_format.specs.declared.faults.Reason.{Reason}
use Rattle.fam_format.specs.Line.{line_bytes}
use Rattle.fam_format.specs.Log.{log_fault, gate_fault}
use Rattle.fam_format.specs.Slot.{entry_of}
use Rattle.fam_format.specs.Super.{magic_fault, super_body_of}
use Rattle.fam_format.specs.Tree.{join_fault, replay}
use Rattle.fam_rules.specs.declared.answers.Refused.{Refused}
use Rattle.fam_rules.specs.Decide.{Wish, wish_of, decide_wish}
use Rattle.fam_rules.specs.Reply.{Reply, Appended, NotAppended, Played, Mounted, Same, Differs, Length, Bytes, NotFound, IsDirectory, Checks, NoSuperblock, BadHeader, BadSlot, Reports}
use Rattle.fam_commands.specs.declared.phase.Part.{Part}
use Rattle.fam_commands.specs.declared.phase.Part.TheVariants.{Superblock, Header, Slot, File}
use Rattle.fam_commands.specs.declared.phase.Phase.{Phase}
use Rattle.fam_commands.specs.declared.phase.Phase.TheVariants as at
use Rattle.fam_commands.specs.Classes.{class_of, Replays}
use Rattle.fam_commands.specs.Task.{Task, part_count, wanted_end}
use Rattle.fam_commands.specs.Turns.{Turn, Goes, Marks, Finds, Writes, Ends, append_turn, bytes_turn, check_turn, compare_turn, decide_turn, file_turn, finds_or_goes, found_turn, gate_loaded, gate_turn, header_turn, host_refusal, host_turn, join_turn, kind_turn, line_difference, line_or, line_turn, log_fault_reply, magic_turn, slot_turn, super_fault_reply, super_turn, turn_at, verify_lines, verify_turn, wish_turn, with_word, word_turn}

-- a logplay or a mount decided, and tells of all its entries
pub record Lists (t : Task) (p : Phase) (m : ℕ) : Type 0 where
  pub phase : p ≡ at.Decide
  pub class : class_of t.cmd ≡ Replays
  pub count : m ≡ length t.entries

abbrev pub ReplyTells : Task → Phase → Reply → Type 0
ReplyTells t p (Played m tree) = Lists t p m
ReplyTells t p (Mounted m) = Lists t p m
ReplyTells t p (Appended seq) = ⊤
ReplyTells t p (NotAppended refused) = ⊤
ReplyTells t p (Same m) = ⊤
ReplyTells t p (Differs m offset found wanted) = ⊤
ReplyTells t p (Length m size wanted) = ⊤
ReplyTells t p (Bytes m bytes) = ⊤
ReplyTells t p (NotFound m) = ⊤
ReplyTells t p (IsDirectory m) = ⊤
ReplyTells t p (Checks m checked) = ⊤
ReplyTells t p (Reports report) = ⊤
ReplyTells t p (NoSuperblock fault) = ⊤
ReplyTells t p (BadHeader fault) = ⊤
ReplyTells t p (BadSlot seq reason) = ⊤

-- what a turn tells
abbrev pub Tells : Task → Phase → Turn → Type 0
Tells t p (Goes next) = next.kept ≡ t.kept
Tells t p (Marks next) = next.kept ≡ t.kept
Tells t p (Finds n next) = next.kept ≡ t.kept
Tells t p (Writes seq e next) = next.kept ≡ t.kept
Tells t p (Ends reply) = ReplyTells t p reply

module _ (p : Phase) (t : Task) where
  either : (b : Bool) (one other : Turn) → Tells t p one → Tells t p other → Tells t p (if b then one else other)
  either true one other first second = first
  either false one other first second = second

  super_ends : (cmd : Cmd) (fault : SuperFault) → ReplyTells t p (super_fault_reply cmd fault)
  super_ends Fsck fault = tt
  super_ends cmd fault = tt

  log_ends : (cmd : Cmd) (fault : LogFault) → ReplyTells t p (log_fault_reply cmd fault)
  log_ends Fsck fault = tt
  log_ends cmd fault = tt

  magic_tells : (o : Option SuperFault) → Tells t p (magic_turn t o)
  magic_tells (Some fault) = super_ends t.cmd fault
  magic_tells None = refl

  host_tells : (q : Params) (o : Option Refused) → Tells t p (host_turn t q o)
  host_tells q (Some refused) = tt
  host_tells q None = refl

  super_tells : (r : Result Params SuperFault) → Tells t p (super_turn t r)
  super_tells (Err fault) = super_ends t.cmd fault
  super_tells (Ok q) = host_tells q (host_refusal (wish_of t.cmd) q t.me)

  header_tells : (o : Option LogFault) → Tells t p (header_turn t o)
  header_tells (Some fault) = log_ends t.cmd fault
  header_tells None = refl

  gate_tells : (n : ℕ) (o : Option LogFault) → Tells t p (gate_turn t n o)
  gate_tells n (Some fault) = log_ends t.cmd fault
  gate_tells n None = by_wish (wish_of t.cmd)
    where
      by_wish : (o : Option Wish) → Tells t p (finds_or_goes o n (gate_loaded t n))
      by_wish None = refl
      by_wish (Some w) = refl

  join_tells : (i : ℕ) (e : Entry) (o : Option Reason) → Tells t p (join_turn t i e o)
  join_tells i e (Some reason) = tt
  join_tells i e None = refl

  slot_tells : (i : ℕ) (r : Result Entry Reason) → Tells t p (slot_turn t i r)
  slot_tells i (Err reason) = tt
  slot_tells i (Ok e) = join_tells i e (join_fault t.params t.entries e)

  check_tells : (cmd : Cmd) (i : ℕ) → Tells t p (check_turn cmd t i)
  check_tells Fsck i = refl
  check_tells cmd i = slot_tells i (entry_of t.params t.words i)

  append_tells : (r : Result Entry Refused) → Tells t p (append_turn t r)
  append_tells (Err refused) = tt
  append_tells (Ok e) = refl

  lines_tell : (e : Entry) → Tells t p (verify_lines t e)
  lines_tell e = either (e.size == 0) _ _ tt refl

  verify_tells : (e : Entry) (against : Content) → Tells t p (verify_turn t e against)
  verify_tells e (content.Bytes given) = either (length given == e.size) _ _ (lines_tell e) tt
  verify_tells e (content.Seed seed) = lines_tell e
  verify_tells e content.Zero = lines_tell e

  bytes_tell : (e : Entry) (offset : ℕ) → Tells t p (bytes_turn t e offset)
  bytes_tell e offset = either (nat_le (wanted_end t.cmd e.size) offset) _ _ tt refl

  kind_tells : (k : Kind) (turn : Turn) → Tells t p turn → Tells t p (kind_turn t k turn)
  kind_tells kind.Directory turn tells = tt
  kind_tells kind.File turn tells = tells

  found_tells : (o : Option Entry) (turn : Entry → Turn) → ((e : Entry) → Tells t p (turn e)) → Tells t p (found_turn t o turn)
  found_tells None turn tells = tt
  found_tells (Some e) turn tells = kind_tells e.kind (turn e) (tells e)

  wish_tells : (o : Option Wish) → Tells t p (wish_turn t o)
  wish_tells None = refl
  wish_tells (Some w) = append_tells (decide_wish t.params t.me t.entries w)

  decide_tells : p ≡ at.Decide → (c : Cmd) → t.cmd ≡ c → Tells t p (decide_turn c t)
  decide_tells at_decide Logplay is = record { phase = at_decide; class = ap class_of is; count = refl }
  decide_tells at_decide Mount is = record { phase = at_decide; class = ap class_of is; count = refl }
  decide_tells at_decide (Check listing) is = tt
  decide_tells at_decide Fsck is = tt
  decide_tells at_decide (Verify path against) is = found_tells (finmap.get (replay t.entries) path) (λ e. verify_turn t e against) (λ e. verify_tells e against)
  decide_tells at_decide (Read path offset count) is = found_tells (finmap.get (replay t.entries) path) (λ e. bytes_turn t e offset) (λ e. bytes_tell e offset)
  decide_tells at_decide (Mkdir path attr) is = wish_tells (wish_of t.cmd)
  decide_tells at_decide (Creat path size attr stripe fill) is = wish_tells (wish_of t.cmd)
  decide_tells at_decide (Cp path attr stripe bytes) is = wish_tells (wish_of t.cmd)

  line_tells : (part : Part) (j : ℕ) (turn : Turn) → Tells t p turn → Tells t p (line_or t part j turn)
  line_tells part j turn tells = either (nat_lt (j + 1) (part_count t part)) _ _ refl tells

compare_tells : (p : Phase) (t : Task) (against : Content) (j : ℕ) (o : Option ℕ) → Tells t p (compare_turn t against j o)
compare_tells p t against j (Some b) = tt
compare_tells p t against j None = either p t (nat_lt (j + 1) (part_count (record t { words = [] }) File)) _ _ refl tt

file_tells : (p : Phase) (t : Task) (cmd : Cmd) (j : ℕ) → Tells t p (file_turn cmd t j)
file_tells p t (Verify path against) j = compare_tells p t against j (line_difference t against j)
file_tells p t (Read path offset count) j = line_tells p t File j _ tt
file_tells p t cmd j = refl

part_tells : (p : Phase) (t : Task) (part : Part) (j : ℕ) → Tells t p (line_turn t part j)
part_tells p t Superblock j = line_tells p t Superblock j _ (super_tells p t (super_body_of t.words (line_bytes * t.lines)))
part_tells p t Header j = header_tells p t (log_fault t.words t.params)
part_tells p t (Slot i) j = line_tells p t (Slot i) j _ refl
part_tells p t File j = file_tells p t t.cmd j

-- of the task with a word more
as_before : (p : Phase) (t : Task) (word : ℕ) (turn : Turn) → Tells (with_word t word) p turn → Tells t p turn
as_before p t word (Ends reply) tells = by_reply reply tells
  where
    by_reply : (r : Reply) → ReplyTells (with_word t word) p r → ReplyTells t p r
    by_reply (Played m tree) h = record { phase = h.phase; class = h.class; count = h.count }
    by_reply (Mounted m) h = record { phase = h.phase; class = h.class; count = h.count }
    by_reply other h = tt
as_before p t word other tells = tells

word_tells : (p : Phase) (t : Task) (part : Part) (j k word : ℕ) → Tells t p (word_turn (with_word t word) part j k)
word_tells p t part j k word = either p t (nat_lt k 7) _ _ refl (as_before p t word _ (part_tells p (with_word t word) part j))

pub turn_tells : (p : Phase) (t : Task) (word : ℕ) → Tells t p (turn_at p t word)
turn_tells at.Magic t word = magic_tells at.Magic t (magic_fault word)
turn_tells (at.Word part j k) t word = word_tells (at.Word part j k) t part j k word
turn_tells at.Gate t word = gate_tells at.Gate t word (gate_fault word t.params)
turn_tells (at.Check i) t word = check_tells (at.Check i) t t.cmd i
turn_tells at.Decide t word = decide_tells at.Decide t refl t.cmd refl
turn_tells at.FenceGate t word = tt
turn_tells other t word = refl
