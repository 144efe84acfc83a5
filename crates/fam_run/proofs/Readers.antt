-- What a turn of a task that only reads leads to: it goes on reading, and loads no line but the one that it has just loaded or
-- dropped.
use Rattle.std.proofs.Common.{ℕ, ◌≡◌, ◌+◌, ◌*◌, Bool, true, false, [], length, Option, Some, None, Ok, Err, refl, sym, subst}
use Rattle.std.specs.Prelude.{⊤, ◌==◌, nat_lt, nat_le, if◌then◌else◌, Result}
use Rattle.std.specs.FinMap as finmap
use Rattle.std.proofs.lemmas.Option.{same_Some}
use Rattle.fam_base.specs.declared.cmd.Cmd.{Cmd}
use Rattle.fam_base.specs.declared.cmd.Cmd.TheVariants.{Mkdir, Creat, Cp, Verify, Read}
use Rattle.fam_base.specs.declared.cmd.Content.{Content}
use Rattle.fam_base.specs.declared.cmd.Content.TheVariants as content
use Rattle.fam_base.specs.declared.entry.Params.{Params}
use Rattle.fam_base.specs.declared.entry.Entry.{Entry}
use Rattle.fam_base.specs.declared.entry.Kind.{Kind}
use Rattle.fam_base.specs.declared.entry.Kind.TheVariants as kind
use Rattle.fam_format.specs.declared.faults.SuperFault.{SuperFault}
use Rattle.fam_format.specs.declared.faults.LogFault.{LogFault}
use Rattle.fam_format.specs.declared.faults.Reason.{Reason}
use Rattle.fam_format.specs.Log.{gate_fault, log_fault}
use Rattle.fam_format.specs.Slot.{entry_of}
use Rattle.fam_format.specs.Super.{magic_fault, super_body_of}
use Rattle.fam_format.specs.Tree.{join_fault, replay}
use Rattle.fam_machine.specs.Caches.{Cache}
use Rattle.fam_cache.specs.Operations.{IsOneLine}
use Rattle.fam_cache.specs.Shed.{WantsSame}
use Rattle.fam_cache.proofs.Shedding.{HasSame}
use Rattle.fam_commands.specs.declared.phase.Part.{Part}
use Rattle.fam_commands.specs.declared.phase.Part.TheVariants.{Superblock, Header, Slot, File}
use Rattle.fam_commands.specs.declared.phase.Phase.{Phase}
use Rattle.fam_commands.specs.declared.phase.Phase.TheVariants as at
use Rattle.fam_commands.specs.Appends.{IsBeforeWrites}
use Rattle.fam_commands.specs.Classes.{Class, class_of, Appends, Compares, Reads, Replays, Surveys}
use Rattle.fam_commands.specs.Kept.{first_slot}
use Rattle.fam_commands.specs.Stands.{task_after}
use Rattle.fam_commands.specs.Task.{Task, op_at, op_of, part_count, wanted_end}
use Rattle.fam_commands.specs.Turns.{Turn, Goes, Marks, Finds, Writes, Ends, magic_turn, host_refusal, host_turn, super_turn, header_turn, slot_or_decide, slots_read, finds_or_goes, gate_loaded, gate_turn, join_turn, slot_turn, check_turn_in, verify_lines, verify_turn, bytes_turn, kind_turn, found_turn, decide_turn, line_or, line_difference, compare_turn, file_turn_in, line_turn, with_word, word_turn, turn_at}
use Rattle.fam_rules.specs.declared.answers.Refused.{Refused}
use Rattle.fam_rules.specs.Decide.{Wish, wish_of}
use Rattle.fam_rules.specs.Place.{line_bytes}
use Rattle.fam_run.specs.Shows.{OnlyReads}

-- an operation there drops a line, or is at none
abbrev pub IsFree : Phase → Type 0
IsFree at.DropMagic = ⊤
IsFree at.Magic = ⊥
IsFree (at.Drop part j) = ⊤
IsFree (at.Word part j k) = ⊥
IsFree at.DropGate = ⊤
IsFree at.Gate = ⊥
IsFree (at.Check i) = ⊤
IsFree at.Decide = ⊤
IsFree (at.StoreData j k) = ⊥
IsFree (at.SendData j) = ⊥
IsFree (at.StoreSlot j k) = ⊥
IsFree (at.SendSlot j) = ⊥
IsFree at.StoreGate = ⊥
IsFree at.FenceSlot = ⊥
IsFree at.SendGate = ⊥
IsFree at.FenceGate = ⊥

free_before : (p : Phase) → IsFree p → IsBeforeWrites p
free_before at.DropMagic free = tt
free_before (at.Drop part j) free = tt
free_before at.DropGate free = tt
free_before (at.Check i) free = tt
free_before at.Decide free = tt
free_before other free = absurd free

-- it wants nothing of a copy
free_wants : (p : Phase) (t : Task) (real shown : Cache) → IsFree p → WantsSame (op_at t p) real shown
free_wants at.DropMagic t real shown free = tt
free_wants (at.Drop part j) t real shown free = tt
free_wants at.DropGate t real shown free = tt
free_wants (at.Check i) t real shown free = tt
free_wants at.Decide t real shown free = tt
free_wants other t real shown free = absurd free

-- an operation of a reader is at one line, or at none
pub reads_one : (p : Phase) (t : Task) → IsBeforeWrites p → IsOneLine (op_at t p)
reads_one (at.StoreData j k) t before = absurd before
reads_one (at.SendData j) t before = absurd before
reads_one (at.StoreSlot j k) t before = absurd before
reads_one (at.SendSlot j) t before = absurd before
reads_one at.StoreGate t before = absurd before
reads_one at.FenceSlot t before = absurd before
reads_one at.SendGate t before = absurd before
reads_one at.FenceGate t before = absurd before
reads_one other t before = tt

-- Behind an operation of which both caches have the same, as this says, the task goes on with a command.
module _ (Same : Cache → Cache → Type 0) where
  pub record ReadsOn (cmd : Cmd) (next : Task) : Type 0 where
    pub cmd_is : next.cmd ≡ cmd
    pub before : IsBeforeWrites next.phase
    pub wants : (real shown : Cache) → Same real shown → WantsSame (op_of next) real shown

  abbrev pub Leads : Cmd → Turn → Type 0
  Leads cmd (Goes next) = ReadsOn cmd next
  Leads cmd (Marks next) = ReadsOn cmd next
  Leads cmd (Finds n next) = ReadsOn cmd next
  Leads cmd (Writes seq e next) = ⊥
  Leads cmd (Ends reply) = ⊤

  free_on : (cmd : Cmd) (next : Task) → next.cmd ≡ cmd → IsFree next.phase → ReadsOn cmd next
  free_on cmd next same free = record {
    cmd_is = same;
    before = free_before next.phase free;
    wants = λ real shown has. free_wants next.phase next real shown free;
  }

  -- the next slot, or the decision
  slot_free : (t : Task) (i : ℕ) → IsFree (slot_or_decide t i)
  slot_free t i = by_test (nat_lt i (slots_read t))
    where
      by_test : (b : Bool) → IsFree (if b then at.Drop (Slot i) 0 else at.Decide)
      by_test true = tt
      by_test false = tt

  module _ (t : Task) where
    either : (b : Bool) (one other : Turn) → Leads t.cmd one → Leads t.cmd other → Leads t.cmd (if b then one else other)
    either true one other first second = first
    either false one other first second = second

    magic_leads : (o : Option SuperFault) → Leads t.cmd (magic_turn t o)
    magic_leads (Some fault) = tt
    magic_leads None = free_on t.cmd _ refl tt

    host_leads : (p : Params) (o : Option Refused) → Leads t.cmd (host_turn t p o)
    host_leads p (Some refused) = tt
    host_leads p None = free_on t.cmd _ refl tt

    super_leads : (r : Result Params SuperFault) → Leads t.cmd (super_turn t r)
    super_leads (Err fault) = tt
    super_leads (Ok p) = host_leads p (host_refusal (wish_of t.cmd) p t.me)

    header_leads : (o : Option LogFault) → Leads t.cmd (header_turn t o)
    header_leads (Some fault) = tt
    header_leads None = free_on t.cmd _ refl tt

    gate_leads : (n : ℕ) (o : Option LogFault) → Leads t.cmd (gate_turn t n o)
    gate_leads n (Some fault) = tt
    gate_leads n None = by_wish (wish_of t.cmd)
      where
        by_wish : (o : Option Wish) → Leads t.cmd (finds_or_goes o n (gate_loaded t n))
        by_wish None = free_on t.cmd _ refl (slot_free (record t { gate = n }) (first_slot t.kept t.cmd t.params n))
        by_wish (Some w) = free_on t.cmd _ refl (slot_free (record t { gate = n }) (first_slot t.kept t.cmd t.params n))

    join_leads : (i : ℕ) (e : Entry) (o : Option Reason) → Leads t.cmd (join_turn t i e o)
    join_leads i e (Some reason) = tt
    join_leads i e None = free_on t.cmd _ refl (slot_free t (i + 1))

    slot_leads : (i : ℕ) (r : Result Entry Reason) → Leads t.cmd (slot_turn t i r)
    slot_leads i (Err reason) = tt
    slot_leads i (Ok e) = join_leads i e (join_fault t.params t.entries e)

    check_leads : (c : Class) (i : ℕ) → Leads t.cmd (check_turn_in c t i)
    check_leads Surveys i = free_on t.cmd _ refl (slot_free t (i + 1))
    check_leads other i = slot_leads i (entry_of t.params t.words i)

    lines_lead : (e : Entry) → Leads t.cmd (verify_lines t e)
    lines_lead e = either (e.size == 0) _ _ tt (free_on t.cmd _ refl tt)

    verify_leads : (e : Entry) (against : Content) → Leads t.cmd (verify_turn t e against)
    verify_leads e (content.Bytes given) = either (length given == e.size) _ _ (lines_lead e) tt
    verify_leads e (content.Seed seed) = lines_lead e
    verify_leads e content.Zero = lines_lead e

    bytes_lead : (e : Entry) (offset : ℕ) → Leads t.cmd (bytes_turn t e offset)
    bytes_lead e offset = either (nat_le (wanted_end t.cmd e.size) offset) _ _ tt (free_on t.cmd _ refl tt)

    kind_leads : (k : Kind) (turn : Turn) → Leads t.cmd turn → Leads t.cmd (kind_turn t k turn)
    kind_leads kind.Directory turn leads = tt
    kind_leads kind.File turn leads = leads

    found_leads : (o : Option Entry) (turn : Entry → Turn) → ((e : Entry) → Leads t.cmd (turn e)) → Leads t.cmd (found_turn t o turn)
    found_leads None turn leads = tt
    found_leads (Some e) turn leads = kind_leads e.kind (turn e) (leads e)

    decide_leads : (c : Cmd) → wish_of c ≡ None → Leads t.cmd (decide_turn c t)
    decide_leads (Verify path against) none = found_leads (finmap.get (replay t.entries) path) (λ e. verify_turn t e against) (λ e. verify_leads e against)
    decide_leads (Read path offset count) none = found_leads (finmap.get (replay t.entries) path) (λ e. bytes_turn t e offset) (λ e. bytes_lead e offset)
    decide_leads (Mkdir path attr) none = absurd cc
    decide_leads (Creat path size attr stripe fill) none = absurd cc
    decide_leads (Cp path attr stripe bytes) none = absurd cc
    decide_leads other none = tt

    line_leads : (part : Part) (j : ℕ) (turn : Turn) → Leads t.cmd turn → Leads t.cmd (line_or t part j turn)
    line_leads part j turn leads = either (nat_lt (j + 1) (part_count t part)) _ _ (free_on t.cmd _ refl tt) leads

  compare_leads : (t : Task) (against : Content) (j : ℕ) (o : Option ℕ) → Leads t.cmd (compare_turn t against j o)
  compare_leads t against j (Some b) = tt
  compare_leads t against j None = line_leads (record t { words = [] }) File j _ tt

  -- a task that stays where it is loads the same line again
  file_leads : (t : Task) (j : ℕ) → ReadsOn t.cmd t → (c : Class) → Leads t.cmd (file_turn_in c t j)
  file_leads t j stay (Compares path against) = compare_leads t against j (line_difference t against j)
  file_leads t j stay (Reads path offset count) = line_leads t File j _ tt
  file_leads t j stay Replays = stay
  file_leads t j stay Appends = stay
  file_leads t j stay Surveys = stay

  part_leads : (t : Task) (part : Part) (j : ℕ) → ReadsOn t.cmd t → Leads t.cmd (line_turn t part j)
  part_leads t Superblock j stay = line_leads t Superblock j _ (super_leads t (super_body_of t.words (line_bytes * t.lines)))
  part_leads t Header j stay = header_leads t (log_fault t.words t.params)
  part_leads t (Slot i) j stay = line_leads t (Slot i) j _ (free_on t.cmd _ refl tt)
  part_leads t File j stay = file_leads t j stay (class_of t.cmd)

  word_leads : (t : Task) (part : Part) (j k : ℕ) → ReadsOn t.cmd t → ReadsOn t.cmd (record t { phase = at.Word part j (k + 1) }) → Leads t.cmd (word_turn t part j k)
  word_leads t part j k stay on = either t (nat_lt k 7) _ _ on (part_leads t part j stay)

-- The line of a part is the same before its drop and before its loads.

drop_word : (t : Task) (part : Part) (j : ℕ) (real shown : Cache) → HasSame (op_at t (at.Drop part j)) real shown → WantsSame (op_of (record t { phase = at.Word part j 0 })) real shown
drop_word t Superblock j real shown same = same
drop_word t other j real shown same = same

word_word : (t : Task) (word : ℕ) (part : Part) (j k : ℕ) (real shown : Cache) → HasSame (op_at t (at.Word part j k)) real shown
    → WantsSame (op_of (record (with_word t word) { phase = at.Word part j (k + 1) })) real shown
word_word t word Superblock j k real shown same = same
word_word t word other j k real shown same = same

word_again : (t : Task) (word : ℕ) (part : Part) (j k : ℕ) (real shown : Cache) → HasSame (op_at t (at.Word part j k)) real shown → WantsSame (op_at (with_word t word) (at.Word part j k)) real shown
word_again t word Superblock j k real shown same = same
word_again t word other j k real shown same = same

turn_leads : (p : Phase) (t : Task) (word : ℕ) → IsBeforeWrites p → wish_of t.cmd ≡ None → t.phase ≡ p → Leads (HasSame (op_at t p)) t.cmd (turn_at p t word)
turn_leads at.DropMagic t word before none is = record { cmd_is = refl; before = tt; wants = λ real shown same. same }
turn_leads at.Magic t word before none is = magic_leads (HasSame (op_at t at.Magic)) t (magic_fault word)
turn_leads (at.Drop part j) t word before none is = record { cmd_is = refl; before = tt; wants = drop_word t part j }
turn_leads (at.Word part j k) t word before none is =
    word_leads (HasSame (op_at t (at.Word part j k))) (with_word t word) part j k
    (record {
      cmd_is = refl;
      before = subst IsBeforeWrites (sym is) tt;
      wants = λ real shown same. subst (λ (q : Phase). WantsSame (op_at (with_word t word) q) real shown) (sym is) (word_again t word part j k real shown same);
    })
    (record { cmd_is = refl; before = tt; wants = word_word t word part j k })
turn_leads at.DropGate t word before none is = record { cmd_is = refl; before = tt; wants = λ real shown same. same }
turn_leads at.Gate t word before none is = gate_leads (HasSame (op_at t at.Gate)) t word (gate_fault word t.params)
turn_leads (at.Check i) t word before none is = check_leads (HasSame (op_at t (at.Check i))) t (class_of t.cmd) i
turn_leads at.Decide t word before none is = decide_leads (HasSame (op_at t at.Decide)) t t.cmd none
turn_leads other t word before none is = absurd before

leads_next : (Same : Cache → Cache → Type 0) (cmd : Cmd) (turn : Turn) (next : Task) → Leads Same cmd turn → task_after turn ≡ Some next → ReadsOn Same cmd next
leads_next Same cmd (Goes t) next leads is = subst (ReadsOn Same cmd) (same_Some t next is) leads
leads_next Same cmd (Marks t) next leads is = subst (ReadsOn Same cmd) (same_Some t next is) leads
leads_next Same cmd (Finds n t) next leads is = subst (ReadsOn Same cmd) (same_Some t next is) leads
leads_next Same cmd (Writes seq e t) next leads is = absurd leads
leads_next Same cmd (Ends reply) next leads is = absurd cc

-- whatever its operation gives, a task that only reads goes on so
pub reads_on : (t next : Task) (word : ℕ) → OnlyReads t → task_after (turn_at t.phase t word) ≡ Some next → ReadsOn (HasSame (op_of t)) t.cmd next
reads_on t next word reads is = leads_next (HasSame (op_of t)) t.cmd (turn_at t.phase t word) next (turn_leads t.phase t word reads.before reads.wish refl) is

pub still_reads : (t next : Task) (word : ℕ) → OnlyReads t → task_after (turn_at t.phase t word) ≡ Some next → OnlyReads next
still_reads t next word reads is =
    let on = reads_on t next word reads is in
    record { before = on.before; wish = subst (λ (c : Cmd). wish_of c ≡ None) (sym on.cmd_is) reads.wish }
