-- A task that writes goes on writing, and then acknowledges its entry.
use Rattle.std.proofs.Common.{ℕ, ◌+◌, ◌*◌, Bool, true, false, [], length, Option, Some, None}
use Rattle.std.specs.Prelude.{⊤, ◌==◌, nat_lt, nat_le, if◌then◌else◌, Result, Ok, Err}
use Rattle.std.specs.FinMap as finmap
use Rattle.fam_base.specs.declared.cmd.Cmd.{Cmd}
use Rattle.fam_base.specs.declared.cmd.Cmd.TheVariants.{Mkdir, Creat, Cp, Verify, Read, Check, Fsck}
use Rattle.fam_base.specs.declared.cmd.Content.{Content}
use Rattle.fam_base.specs.declared.cmd.Content.TheVariants as content
use Rattle.fam_base.specs.declared.entry.Entry.{Entry}
use Rattle.fam_base.specs.declared.entry.Kind.{Kind}
use Rattle.fam_base.specs.declared.entry.Kind.TheVariants as kind
use Rattle.fam_base.specs.declared.entry.Params.{Params}
use Rattle.fam_format.specs.declared.faults.SuperFault.{SuperFault}
use Rattle.fam_format.specs.declared.faults.LogFault.{LogFault}
use Rattle.fam_format.specs.declared.faults.Reason.{Reason}
use Rattle.fam_format.specs.Layout.{geometry}
use Rattle.fam_format.specs.Log.{gate_fault, log_fault}
use Rattle.fam_format.specs.Slot.{entry_of}
use Rattle.fam_format.specs.Super.{magic_fault, super_body_of}
use Rattle.fam_format.specs.Tree.{join_fault, replay}
use Rattle.fam_commands.specs.declared.phase.Part.{Part}
use Rattle.fam_commands.specs.declared.phase.Part.TheVariants.{Superblock, Header, Slot, File}
use Rattle.fam_commands.specs.declared.phase.Phase.{Phase}
use Rattle.fam_commands.specs.declared.phase.Phase.TheVariants as at
use Rattle.fam_commands.specs.Task.{Task, part_count, size_of, wanted_end}
use Rattle.fam_commands.specs.Turns.{Turn, Goes, Marks, Finds, Writes, Ends, append_turn, bytes_turn, check_turn, compare_turn, decide_turn, file_turn, finds_or_goes, found_turn, gate_turn, header_turn, host_refusal, host_turn, join_turn, kind_turn, line_difference, line_or, line_turn, magic_turn, slot_turn, super_turn, turn_at, verify_lines, verify_turn, wish_turn, gate_loaded, with_word}
use Rattle.fam_protocol.specs.After.{HasNamed}
use Rattle.fam_rules.specs.declared.answers.Refused.{Refused}
use Rattle.fam_rules.specs.Decide.{Wish, decide_wish, wish_of}
use Rattle.fam_rules.specs.Place.{line_bytes}
use Rattle.fam_rules.specs.Reply.{Same}
use Rattle.fam_rules.specs.Written.{lines_of}

either : (t : Bool) (p q : Phase) → HasNamed p → HasNamed q → HasNamed (if t then p else q)
either true p q a b = a
either false p q a b = b

-- what comes of an operation of a task that writes
abbrev pub IsLateTurn : Turn → Type 0
IsLateTurn (Goes t) = HasNamed t.phase
IsLateTurn (Marks t) = ⊥
IsLateTurn (Finds n t) = ⊥
IsLateTurn (Writes seq e t) = ⊥
IsLateTurn (Ends given) = ⊤

pub late_turn : (p : Phase) (t : Task) (word : ℕ) → HasNamed p → IsLateTurn (turn_at p t word)
late_turn (at.StoreData j k) t word late = either (nat_lt k 7) (at.StoreData j (k + 1)) (at.SendData j) tt tt
late_turn (at.SendData j) t word late = either (nat_lt (j + 1) (lines_of (size_of t.entry))) (at.StoreData (j + 1) 0) (at.StoreSlot 0 0) tt tt
late_turn (at.StoreSlot j k) t word late = either (nat_lt k 7) (at.StoreSlot j (k + 1)) (at.SendSlot j) tt tt
late_turn (at.SendSlot j) t word late = either (nat_lt (j + 1) (geometry t.params).lines) (at.StoreSlot (j + 1) 0) at.FenceSlot tt tt
late_turn at.StoreGate t word late = tt
late_turn at.FenceSlot t word late = tt
late_turn at.SendGate t word late = tt
late_turn at.FenceGate t word late = tt
late_turn e t word late = absurd late

-- who names its entry writes next
abbrev pub WritesLate : Turn → Type 0
WritesLate (Goes t) = ⊤
WritesLate (Marks t) = ⊤
WritesLate (Finds n t) = ⊤
WritesLate (Writes seq e t) = HasNamed t.phase
WritesLate (Ends given) = ⊤

one_of : (t : Bool) (a b : Turn) → WritesLate a → WritesLate b → WritesLate (if t then a else b)
one_of true a b x y = x
one_of false a b x y = y

writes_magic : (t : Task) (fault : Option SuperFault) → WritesLate (magic_turn t fault)
writes_magic t None = tt
writes_magic t (Some fault) = tt

writes_host : (t : Task) (p : Params) (refused : Option Refused) → WritesLate (host_turn t p refused)
writes_host t p None = tt
writes_host t p (Some refused) = tt

writes_super : (t : Task) (r : Result Params SuperFault) → WritesLate (super_turn t r)
writes_super t (Err fault) = tt
writes_super t (Ok p) = writes_host t p (host_refusal (wish_of t.cmd) p t.me)

writes_header : (t : Task) (fault : Option LogFault) → WritesLate (header_turn t fault)
writes_header t None = tt
writes_header t (Some fault) = tt

writes_finds : (o : Option Wish) (n : ℕ) (t : Task) → WritesLate (finds_or_goes o n t)
writes_finds None n t = tt
writes_finds (Some w) n t = tt

writes_gate : (t : Task) (n : ℕ) (fault : Option LogFault) → WritesLate (gate_turn t n fault)
writes_gate t n None = writes_finds (wish_of t.cmd) n (gate_loaded t n)
writes_gate t n (Some fault) = tt

writes_join : (t : Task) (i : ℕ) (e : Entry) (fault : Option Reason) → WritesLate (join_turn t i e fault)
writes_join t i e None = tt
writes_join t i e (Some reason) = tt

writes_slot : (t : Task) (i : ℕ) (r : Result Entry Reason) → WritesLate (slot_turn t i r)
writes_slot t i (Err reason) = tt
writes_slot t i (Ok e) = writes_join t i e (join_fault t.params t.entries e)

writes_check : (cmd : Cmd) (t : Task) (i : ℕ) → WritesLate (check_turn cmd t i)
writes_check Fsck t i = tt
writes_check e t i = writes_slot t i (entry_of t.params t.words i)

writes_append : (t : Task) (r : Result Entry Refused) → WritesLate (append_turn t r)
writes_append t (Err refused) = tt
writes_append t (Ok e) = either (e.size == 0) (at.StoreSlot 0 0) (at.StoreData 0 0) tt tt

writes_wish : (t : Task) (o : Option Wish) → WritesLate (wish_turn t o)
writes_wish t None = tt
writes_wish t (Some w) = writes_append t (decide_wish t.params t.me t.entries w)

writes_lines : (t : Task) (e : Entry) → WritesLate (verify_lines t e)
writes_lines t e = one_of (e.size == 0) _ _ tt tt

writes_verify : (t : Task) (e : Entry) (against : Content) → WritesLate (verify_turn t e against)
writes_verify t e (content.Bytes given) = one_of (length given == e.size) _ _ (writes_lines t e) tt
writes_verify t e (content.Seed seed) = writes_lines t e
writes_verify t e content.Zero = writes_lines t e

writes_bytes : (t : Task) (e : Entry) (offset : ℕ) → WritesLate (bytes_turn t e offset)
writes_bytes t e offset = one_of (nat_le (wanted_end t.cmd e.size) offset) _ _ tt tt

writes_kind : (t : Task) (k : Kind) (turn : Turn) → WritesLate turn → WritesLate (kind_turn t k turn)
writes_kind t kind.Directory turn w = tt
writes_kind t kind.File turn w = w

writes_found : (t : Task) (o : Option Entry) (turn : Entry → Turn) → ((e : Entry) → WritesLate (turn e)) → WritesLate (found_turn t o turn)
writes_found t None turn w = tt
writes_found t (Some e) turn w = writes_kind t e.kind (turn e) (w e)

writes_decide : (cmd : Cmd) (t : Task) → WritesLate (decide_turn cmd t)
writes_decide (Verify path against) t = writes_found t (finmap.get (replay t.entries) path) (λ e. verify_turn t e against) (λ e. writes_verify t e against)
writes_decide (Read path offset count) t = writes_found t (finmap.get (replay t.entries) path) (λ e. bytes_turn t e offset) (λ e. writes_bytes t e offset)
writes_decide (Mkdir path attr) t = writes_wish t (wish_of t.cmd)
writes_decide (Creat path size attr stripe fill) t = writes_wish t (wish_of t.cmd)
writes_decide (Cp path attr stripe bytes) t = writes_wish t (wish_of t.cmd)
writes_decide e t = tt

writes_or : (t : Task) (part : Part) (j : ℕ) (turn : Turn) → WritesLate turn → WritesLate (line_or t part j turn)
writes_or t part j turn w = one_of (nat_lt (j + 1) (part_count t part)) _ _ tt w

writes_compare : (t : Task) (against : Content) (j : ℕ) (o : Option ℕ) → WritesLate (compare_turn t against j o)
writes_compare t against j (Some b) = tt
writes_compare t against j None = writes_or (record t { words = [] }) File j (Ends (Same (length t.entries))) tt

writes_file : (cmd : Cmd) (t : Task) (j : ℕ) → WritesLate (file_turn cmd t j)
writes_file (Verify path against) t j = writes_compare t against j (line_difference t against j)
writes_file (Read path offset count) t j = writes_or t File j _ tt
writes_file e t j = tt

writes_line : (part : Part) (t : Task) (j : ℕ) → WritesLate (line_turn t part j)
writes_line Superblock t j = writes_or t Superblock j _ (writes_super t (super_body_of t.words (line_bytes * t.lines)))
writes_line Header t j = writes_header t (log_fault t.words t.params)
writes_line (Slot i) t j = writes_or t (Slot i) j _ tt
writes_line File t j = writes_file t.cmd t j

pub writes_turn : (p : Phase) (t : Task) (word : ℕ) → WritesLate (turn_at p t word)
writes_turn at.Magic t word = writes_magic t (magic_fault word)
writes_turn (at.Word part j k) t word = one_of (nat_lt k 7) _ _ tt (writes_line part (with_word t word) j)
writes_turn at.Gate t word = writes_gate t word (gate_fault word t.params)
writes_turn (at.Check i) t word = writes_check t.cmd t i
writes_turn at.Decide t word = writes_decide t.cmd t
writes_turn e t word = tt
