-- A task that goes on comes nearer to its end.
use Rattle.std.proofs.Common.{ℕ, ◌≡◌, ◌+◌, ◌-◌, ◌*◌, ◌^◌, ◌<◌, ◌≤◌, Bool, true, false, cond, [], ◌∷◌, ◌++◌, Option, Some, None, Result, Ok, Err, refl, ap, subst, ◌∙◌, arith}
use Rattle.std.proofs.Math.Nat.{mul-le-mul_left, mul-le-mul_right}
use Rattle.std.specs.Prelude.{⊤, length, nat_le, nat_lt, ◌==◌}
use Rattle.std.specs.FinMap as finmap
use Rattle.std.proofs.lemmas.Grind.{div_ceil_times}
use Rattle.std.proofs.lemmas.Option.{same_Some}
use Rattle.fam_base.specs.declared.cmd.Cmd.{Cmd}
use Rattle.fam_base.specs.declared.cmd.Cmd.TheVariants.{Mkdir, Creat, Cp, Verify, Read, Fsck}
use Rattle.fam_base.specs.declared.cmd.Content.{Content}
use Rattle.fam_base.specs.declared.cmd.Content.TheVariants as content
use Rattle.fam_base.specs.declared.entry.Entry.{Entry}
use Rattle.fam_base.specs.declared.entry.Kind.{Kind}
use Rattle.fam_base.specs.declared.entry.Kind.TheVariants as kind
use Rattle.fam_base.specs.declared.entry.Params.{Params}
use Rattle.fam_format.specs.declared.faults.LogFault.{LogFault}
use Rattle.fam_format.specs.declared.faults.Reason.{Reason}
use Rattle.fam_format.specs.declared.faults.SuperFault.{SuperFault}
use Rattle.fam_format.specs.Log.{log_fault, gate_fault}
use Rattle.fam_format.specs.Params.{SoundParams}
use Rattle.fam_format.specs.Slot.{entry_of}
use Rattle.fam_format.specs.Super.{magic_fault, super_body_of}
use Rattle.fam_format.specs.Tree.{join_fault, replay}
use Rattle.fam_rules.specs.declared.answers.Refused.{Refused}
use Rattle.fam_rules.specs.Decide.{Wish, wish_of, decide_wish}
use Rattle.fam_rules.specs.Place.{line_bytes}
use Rattle.fam_rules.specs.Written.{lines_of}
use Rattle.fam_commands.specs.declared.phase.Part.{Part}
use Rattle.fam_commands.specs.declared.phase.Part.TheVariants as part
use Rattle.fam_commands.specs.declared.phase.Phase.{Phase}
use Rattle.fam_commands.specs.declared.phase.Phase.TheVariants as at
use Rattle.fam_commands.specs.Counts.{line_steps, slot_steps}
use Rattle.fam_commands.specs.Stands.{task_after}
use Rattle.fam_commands.specs.Kept.{first_slot}
use Rattle.fam_commands.specs.Task.{Task, first_line, size_of, wanted_end, wanted_lines, wanted_start}
use Rattle.fam_commands.specs.Turns.{Turn, Goes, Marks, Finds, Writes, Ends, turn_at, magic_turn, super_turn, host_turn, host_refusal, header_turn, gate_turn, finds_or_goes, gate_loaded, slot_or_decide, check_turn, slot_turn, survey_turn, join_turn, decide_turn, wish_turn, append_turn, read_file, verify_lines, verify_turn, bytes_turn, kind_turn, found_turn, compare_turn, file_turn, line_difference, line_turn, word_turn, with_word, data_or_slot, slot_or_fence}
use Rattle.fam_commands.specs.Classes.{LooksAtFile}
use Rattle.fam_format.specs.Layout.{geometry, second_format}
use Rattle.fam_format.specs.Line.{line_words}
use Rattle.fam_format.proofs.Formats.{shape, times}
use Rattle.fam_tasks.specs.Commands.{slots_told}
use Rattle.fam_tasks.specs.Sound.{HasSuper, HasValidGate, IsLine, IsProperFor, IsSoundAt, IsWantedLine}
use Rattle.fam_tasks.proofs.Found.{size_fits}
use Rattle.fam_tasks.proofs.Phases.{slots_within}
use Rattle.fam_tasks.proofs.FileLines.{end_within}

-- how many operations may still come behind a decision, at most: a size is below 2 ^ 64
abbrev pub behind_decision : ℕ
behind_decision = line_steps * 2 ^ 58 + 200

-- behind the loads of the header: the log has no more slots than the image has lines
abbrev pub behind_head : Task → ℕ
behind_head t = slot_steps (geometry t.params) * t.lines + behind_decision + 4

-- behind the superblock's loads: which shape the slots have is not known before
abbrev pub behind_super : Task → ℕ
behind_super t = slot_steps second_format * t.lines + behind_decision + 4

-- behind the lines of a new file: those of the slot, and what is behind it
abbrev pub behind_file : Task → ℕ
behind_file t = line_steps * (geometry t.params).lines + 5

-- of the slots from i on, and what is behind the decision
abbrev pub from_slot : Task → ℕ → ℕ
from_slot t i = slot_steps (geometry t.params) * (slots_told t.cmd t.params t.gate - i) + behind_decision + 1

-- with line j of a part still to be read from its word k on
abbrev pub reading : Part → ℕ → ℕ → Task → ℕ
reading part.Superblock j k t = behind_super t + line_steps * (2 - j) + (line_words - k) + line_steps
reading part.Header j k t = behind_head t + (line_words - k)
reading (part.Slot i) j k t = from_slot t (i + 1) + line_steps * ((geometry t.params).lines - 1 - j) + (line_words - k)
reading part.File j k t = line_steps * (wanted_lines t.cmd (size_of t.entry) - 1 - j) + (line_words - k)

-- in a phase
abbrev pub left_at : Phase → Task → ℕ
left_at at.DropMagic t = behind_super t + 38
left_at at.Magic t = behind_super t + 37
left_at (at.Drop part j) t = reading part j 0 t + 1
left_at (at.Word part j k) t = reading part j k t
left_at at.DropGate t = behind_head t
left_at at.Gate t = slot_steps (geometry t.params) * t.lines + behind_decision + 3
left_at (at.Check i) t = from_slot t (i + 1)
left_at at.Decide t = behind_decision
left_at (at.StoreData j k) t = line_steps * (lines_of (size_of t.entry) - 1 - j) + (line_words - k) + behind_file t
left_at (at.SendData j) t = line_steps * (lines_of (size_of t.entry) - 1 - j) + behind_file t
left_at (at.StoreSlot j k) t = line_steps * ((geometry t.params).lines - 1 - j) + (line_words - k) + 5
left_at (at.SendSlot j) t = line_steps * ((geometry t.params).lines - 1 - j) + 5
left_at at.FenceSlot t = 4
left_at at.StoreGate t = 3
left_at at.SendGate t = 2
left_at at.FenceGate t = 1

abbrev pub left : Task → ℕ
left t = left_at t.phase t

-- the task goes on: fewer than n operations may still come
pub record Kept (n : ℕ) (t next : Task) : Type 0 where
  pub lines : next.lines ≡ t.lines
  pub falls : IsSoundAt next.phase next → left next < n

-- the task that a turn goes on with, if it does
abbrev pub Keeps : ℕ → Task → Turn → Type 0
Keeps n t (Goes next) = Kept n t next
Keeps n t (Marks next) = Kept n t next
Keeps n t (Finds m next) = Kept n t next
Keeps n t (Writes seq e next) = Kept n t next
Keeps n t (Ends reply) = ⊤

-- Head.

magic_keeps : (t : Task) (fault : Option SuperFault) → Keeps (left_at at.Magic t) t (magic_turn t fault)
magic_keeps t (Some fault) = tt
magic_keeps t None = record { lines = refl; falls = λ _. omega arith }

-- the longer slots take no fewer operations
few_steps : (p : Params) (n : ℕ) → slot_steps (geometry p) * n ≤ slot_steps second_format * n
few_steps p n =
    let few : slot_steps (geometry p) ≤ slot_steps second_format = omega (arith, (shape p).most) in
    mul-le-mul_right n few

host_keeps : (t : Task) (p : Params) (j k : ℕ) (refused : Option Refused) → k < 8 → Keeps (reading part.Superblock j k t) t (host_turn t p refused)
host_keeps t p j k (Some refused) small = tt
host_keeps t p j k None small = record { lines = refl; falls = λ _. omega (arith, few_steps p t.lines) }

super_keeps : (t : Task) (j k : ℕ) (r : Result Params SuperFault) → k < 8 → Keeps (reading part.Superblock j k t) t (super_turn t r)
super_keeps t j k (Err fault) small = tt
super_keeps t j k (Ok p) small = host_keeps t p j k (host_refusal (wish_of t.cmd) p t.me) small

header_keeps : (t : Task) (j k : ℕ) (fault : Option LogFault) → k < 8 → Keeps (reading part.Header j k t) t (header_turn t fault)
header_keeps t j k (Some fault) small = tt
header_keeps t j k None small = record { lines = refl; falls = λ _. omega arith }

-- Lines that are loaded.

either : (n : ℕ) (t : Task) (b : Bool) (x y : Turn) → Keeps n t x → Keeps n t y → Keeps n t (cond b x y)
either n t true x y kx ky = kx
either n t false x y kx ky = ky

-- the next line of the file
next_line : (t next : Task) (j k : ℕ) → next.lines ≡ t.lines → next.cmd ≡ t.cmd → next.entry ≡ t.entry → next.phase ≡ at.Drop part.File (j + 1) → k < 8 → Kept (reading part.File j k t) t next
next_line t next j k lines cmd entry phase small = record {
  lines = lines;
  falls = λ h.
      let at_line : IsSoundAt (at.Drop part.File (j + 1)) next = subst (λ (p : Phase). IsSoundAt p next) phase h in
      let wanted : wanted_lines next.cmd (size_of next.entry) ≡ wanted_lines t.cmd (size_of t.entry) =
      ap (λ (c : Cmd). wanted_lines c (size_of next.entry)) cmd ∙ ap (λ (e : Option Entry). wanted_lines t.cmd (size_of e)) entry in
      let here : left next ≡ left_at (at.Drop part.File (j + 1)) next = ap (λ (p : Phase). left_at p next) phase in
      let below = at_line.0.line.wanted in
      omega (arith, here, wanted, below);
}

compare_keeps : (t : Task) (against : Content) (j k : ℕ) (r : Option ℕ) → k < 8 → Keeps (reading part.File j k t) t (compare_turn t against j r)
compare_keeps t against j k (Some b) small = tt
compare_keeps t against j k None small =
    either (reading part.File j k t) t (nat_lt (j + 1) (wanted_lines t.cmd (size_of t.entry))) _ _
    (next_line t _ j k refl refl refl refl small) tt

file_keeps : (cmd : Cmd) (t : Task) (j k : ℕ) → LooksAtFile cmd → k < 8 → Keeps (reading part.File j k t) t (file_turn cmd t j)
file_keeps (Verify path against) t j k looks small = compare_keeps t against j k (line_difference t against j) small
file_keeps (Read path offset count) t j k looks small =
    either (reading part.File j k t) t (nat_lt (j + 1) (wanted_lines t.cmd (size_of t.entry))) _ _
    (next_line t _ j k refl refl refl refl small) tt
file_keeps other t j k looks small = absurd looks

line_keeps : (p : Part) (t : Task) (j k : ℕ) → IsLine p j t → k < 8 → Keeps (reading p j k t) t (line_turn t p j)
line_keeps part.Superblock t j k is small =
    either (reading part.Superblock j k t) t (nat_lt (j + 1) 2) _ _
    (record { lines = refl; falls = λ h. let below = h.0.line in omega (arith, below) })
    (super_keeps t j k (super_body_of t.words (line_bytes * t.lines)) small)
line_keeps part.Header t j k is small = header_keeps t j k (log_fault t.words t.params) small
line_keeps (part.Slot i) t j k is small =
    either (reading (part.Slot i) j k t) t (nat_lt (j + 1) (geometry t.params).lines) _ _
    (record { lines = refl; falls = λ h. let below = h.0.line.2 in omega (arith, below) })
    (record { lines = refl; falls = λ _. omega arith })
line_keeps part.File t j k is small = file_keeps t.cmd t j k is.looks small

next_word : (p : Part) (t : Task) (j k word : ℕ) → k < 8 → reading p j (k + 1) (record (with_word t word) { phase = at.Word p j (k + 1) }) < reading p j k t
next_word part.Superblock t j k word small = omega arith
next_word other t j k word small = omega arith

same_super : (t : Task) (word : ℕ) → HasSuper t → HasSuper (with_word t word)
same_super t word has = record { sound = has.sound; device = has.device; slots = has.slots }

same_gate : (t : Task) (word : ℕ) → HasValidGate t → HasValidGate (with_word t word)
same_gate t word has = record { super = same_super t word has.super; gate = has.gate }

same_proper : (e : Option Entry) (t : Task) (word : ℕ) → IsProperFor t e → IsProperFor (with_word t word) e
same_proper None t word is = is
same_proper (Some e) t word is = is

same_line : (p : Part) (t : Task) (j word : ℕ) → IsLine p j t → IsLine p j (with_word t word)
same_line part.Superblock t j word is = is
same_line part.Header t j word is = (same_super t word is.0, is.1)
same_line (part.Slot i) t j word is = (same_gate t word is.0, is.1, is.2)
same_line part.File t j word is = record {
  found = same_gate t word is.found;
  looks = is.looks;
  file = record { proper = same_proper t.entry t word is.file.proper; below = is.file.below };
  wanted = is.wanted;
}

same_reading : (p : Part) (t : Task) (j k word : ℕ) → reading p j k (with_word t word) ≡ reading p j k t
same_reading part.Superblock t j k word = refl
same_reading other t j k word = refl

-- the task with one word more goes on as the task does
before_word : (n : ℕ) (t : Task) (word : ℕ) (turn : Turn) → Keeps n (with_word t word) turn → Keeps n t turn
before_word n t word (Ends reply) k = tt
before_word n t word other k = record { lines = k.lines; falls = k.falls }

word_keeps : (p : Part) (t : Task) (j k word : ℕ) → IsLine p j t → k < 8 → Keeps (reading p j k t) t (word_turn (with_word t word) p j k)
word_keeps p t j k word is small =
    either (reading p j k t) t (nat_lt k 7) _ _
    (record { lines = refl; falls = λ _. next_word p t j k word small })
    (before_word (reading p j k t) t word (line_turn (with_word t word) p j)
    (subst (λ (n : ℕ). Keeps n (with_word t word) (line_turn (with_word t word) p j)) (same_reading p t j k word)
    (line_keeps p (with_word t word) j k (same_line p t j word is) small)))

first_word : (p : Part) (t : Task) (j : ℕ) → Keeps (reading p j 0 t + 1) t (Goes (record t { phase = at.Word p j 0 }))
first_word part.Superblock t j = record { lines = refl; falls = λ _. omega arith }
first_word other t j = record { lines = refl; falls = λ _. omega arith }

-- Gate and slots.

-- the slots that are read are no more than the lines
few_slots : (t : Task) → HasValidGate t → slots_told t.cmd t.params t.gate ≤ t.lines
few_slots t gate =
    omega (arith, slots_within t.cmd t.params t.gate gate.gate, gate.super.slots, times t.params (t.params.slots + 1))

-- of pieces of so many each, the first one that is left, and the others
pieces_left : (m i n : ℕ) → i < n → m * (n - i) ≡ m * (n - (i + 1)) + m
pieces_left m i n below = let same : m * (n - i) ≡ m * (n - (i + 1) + 1) = ap (λ (k : ℕ). m * k) (omega arith) in omega (arith, same)

-- the next slot or the decision, whichever it is
slot_falls : (next : Task) (i n : ℕ) (b : Bool) → (slots_told next.cmd next.params next.gate ≤ next.lines → from_slot next i ≤ n)
    → behind_decision < n → IsSoundAt (cond b (at.Drop (part.Slot i) 0) at.Decide) next
    → left_at (cond b (at.Drop (part.Slot i) 0) at.Decide) next < n
slot_falls next i n true below more h =
    let line : IsLine (part.Slot i) 0 next = h.0.line in
    let steps : ℕ = slot_steps (geometry next.params) in
    omega (arith, below (few_slots next line.0), line.1, (shape next.params).lines, pieces_left steps i (slots_told next.cmd next.params next.gate) line.1)
slot_falls next i n false below more h = more

finds_keeps : (n : ℕ) (t : Task) (m : ℕ) (next : Task) (w : Option Wish) → Kept n t next → Keeps n t (finds_or_goes w m next)
finds_keeps n t m next None k = k
finds_keeps n t m next (Some w) k = k

-- at the gate all slots are left, of which there are no more than the image has lines
gate_left : (t : Task) (m : ℕ) → slots_told t.cmd t.params m ≤ t.lines → from_slot (gate_loaded t m) (first_slot t.kept t.cmd t.params m) ≤ left_at at.Gate t
gate_left t m few =
    let left : ℕ = slots_told t.cmd t.params m - first_slot t.kept t.cmd t.params m in
    omega (arith, mul-le-mul_left {m = left} {n = t.lines} (slot_steps (geometry t.params)) (omega (arith, few)))

gate_keeps : (t : Task) (m : ℕ) (fault : Option LogFault) → Keeps (left_at at.Gate t) t (gate_turn t m fault)
gate_keeps t m (Some fault) = tt
gate_keeps t m None =
    finds_keeps (left_at at.Gate t) t m (gate_loaded t m) (wish_of t.cmd)
    (record { lines = refl; falls = slot_falls (gate_loaded t m) (first_slot t.kept t.cmd t.params m) (left_at at.Gate t) _ (λ h. gate_left t m h) (omega arith) })

join_keeps : (t : Task) (i : ℕ) (e : Entry) (fault : Option Reason) → Keeps (from_slot t (i + 1)) t (join_turn t i e fault)
join_keeps t i e (Some reason) = tt
join_keeps t i e None = record {
  lines = refl;
  falls = slot_falls (record t { entries = t.entries ++ e ∷ []; words = []; phase = slot_or_decide t (i + 1) }) (i + 1) (from_slot t (i + 1)) _ (λ _. omega arith) (omega arith);
}

slot_keeps : (t : Task) (i : ℕ) (r : Result Entry Reason) → Keeps (from_slot t (i + 1)) t (slot_turn t i r)
slot_keeps t i (Err reason) = tt
slot_keeps t i (Ok e) = join_keeps t i e (join_fault t.params t.entries e)

survey_keeps : (t : Task) (i : ℕ) → Keeps (from_slot t (i + 1)) t (survey_turn t i)
survey_keeps t i = record { lines = refl; falls = slot_falls _ (i + 1) (from_slot t (i + 1)) _ (λ _. omega arith) (omega arith) }

check_keeps : (cmd : Cmd) (t : Task) (i : ℕ) → Keeps (from_slot t (i + 1)) t (check_turn cmd t i)
check_keeps Fsck t i = survey_keeps t i
check_keeps other t i = slot_keeps t i (entry_of t.params t.words i)

-- The decision, and lines that are written.

-- the lines of a file whose size fits its word
few_lines : (size : ℕ) → size < 2 ^ 64 → lines_of size ≤ 2 ^ 58
few_lines size fits = omega (arith, (div_ceil_times size 64 (omega arith)).1)

-- the size of a proper file
proper_size : (e : Option Entry) (t : Task) → SoundParams t.params → IsProperFor t e → size_of e < 2 ^ 64
proper_size None t sound is = absurd is
proper_size (Some e) t sound is = size_fits t.params e sound is

first_falls : (next : Task) (b : Bool) → IsSoundAt (cond b (at.StoreSlot 0 0) (at.StoreData 0 0)) next → left_at (cond b (at.StoreSlot 0 0) (at.StoreData 0 0)) next < behind_decision
first_falls next true h = omega (arith, (shape next.params).most)
first_falls next false h =
    omega (arith, (shape next.params).most, few_lines (size_of next.entry) (proper_size next.entry next h.0.found.super.sound h.1.proper))

append_keeps : (t : Task) (r : Result Entry Refused) → Keeps behind_decision t (append_turn t r)
append_keeps t (Err refused) = tt
append_keeps t (Ok e) = record { lines = refl; falls = first_falls _ (e.size == 0) }

wish_keeps : (t : Task) (wish : Wish) (w : Option Wish) → w ≡ Some wish → Keeps behind_decision t (wish_turn t w)
wish_keeps t wish None is = absurd cc
wish_keeps t wish (Some w) is = append_keeps t (decide_wish t.params t.me t.entries w)

-- the lines that are wanted are lines of the file
wanted_by : (end start : ℕ) (b : Bool) → cond b 0 (lines_of end - start) ≤ lines_of end
wanted_by end start true = omega arith
wanted_by end start false = omega arith

few_wanted : (cmd : Cmd) (size : ℕ) → size < 2 ^ 64 → wanted_lines cmd size ≤ 2 ^ 58
few_wanted cmd size fits =
    omega (arith, wanted_by (wanted_end cmd size) (first_line cmd) (nat_le (wanted_end cmd size) (wanted_start cmd)), few_lines (wanted_end cmd size) (omega (arith, end_within cmd size, fits)))

-- a file that is read
read_keeps : (t : Task) (e : Entry) → Keeps behind_decision t (read_file t e)
read_keeps t e = record {
  lines = refl;
  falls = λ h.
      let line : IsWantedLine 0 _ = h.0.line in
      omega (arith, few_wanted t.cmd e.size (size_fits t.params e line.found.super.sound line.file.proper));
}

verify_keeps : (t : Task) (e : Entry) → Keeps behind_decision t (verify_lines t e)
verify_keeps t e = either behind_decision t (e.size == 0) _ _ tt (read_keeps t e)

content_keeps : (t : Task) (e : Entry) (against : Content) → Keeps behind_decision t (verify_turn t e against)
content_keeps t e (content.Bytes given) = either behind_decision t (length given == e.size) _ _ (verify_keeps t e) tt
content_keeps t e (content.Seed seed) = verify_keeps t e
content_keeps t e content.Zero = verify_keeps t e

bytes_keeps : (t : Task) (e : Entry) (offset : ℕ) → Keeps behind_decision t (bytes_turn t e offset)
bytes_keeps t e offset = either behind_decision t (nat_le (wanted_end t.cmd e.size) offset) _ _ tt (read_keeps t e)

kind_keeps : (t : Task) (k : Kind) (turn : Turn) → Keeps behind_decision t turn → Keeps behind_decision t (kind_turn t k turn)
kind_keeps t kind.Directory turn keeps = tt
kind_keeps t kind.File turn keeps = keeps

found_keeps : (t : Task) (found : Option Entry) (turn : Entry → Turn) → ((e : Entry) → Keeps behind_decision t (turn e)) → Keeps behind_decision t (found_turn t found turn)
found_keeps t None turn keeps = tt
found_keeps t (Some e) turn keeps = kind_keeps t e.kind (turn e) (keeps e)

decide_keeps : (cmd : Cmd) (t : Task) → t.cmd ≡ cmd → Keeps behind_decision t (decide_turn cmd t)
decide_keeps (Mkdir path attr) t is = wish_keeps t _ (wish_of t.cmd) (ap wish_of is)
decide_keeps (Creat path size attr stripe fill) t is = wish_keeps t _ (wish_of t.cmd) (ap wish_of is)
decide_keeps (Cp path attr stripe bytes) t is = wish_keeps t _ (wish_of t.cmd) (ap wish_of is)
decide_keeps (Verify path against) t is = found_keeps t (finmap.get (replay t.entries) path) (λ e. verify_turn t e against) (λ e. content_keeps t e against)
decide_keeps (Read path offset count) t is = found_keeps t (finmap.get (replay t.entries) path) (λ e. bytes_turn t e offset) (λ e. bytes_keeps t e offset)
decide_keeps other t is = tt

data_falls : (t next : Task) (j k : ℕ) (b : Bool) → next.params ≡ t.params → next.entry ≡ t.entry → k < 8
    → left_at (cond b (at.StoreData j (k + 1)) (at.SendData j)) next < left_at (at.StoreData j k) t
data_falls t next j k true params entry small = omega (arith, ap (λ (p : Params). (geometry p).lines) params, ap (λ (e : Option Entry). lines_of (size_of e)) entry)
data_falls t next j k false params entry small = omega (arith, ap (λ (p : Params). (geometry p).lines) params, ap (λ (e : Option Entry). lines_of (size_of e)) entry)

-- a line of the file is one of so many
line_of_file : (size j : ℕ) → 64 * j < size → j < lines_of size
line_of_file size j below = omega (arith, (div_ceil_times size 64 (omega arith)).0)

sent_falls : (t : Task) (j : ℕ) (b : Bool) → IsSoundAt (cond b (at.StoreData (j + 1) 0) (at.StoreSlot 0 0)) t
    → left_at (cond b (at.StoreData (j + 1) 0) (at.StoreSlot 0 0)) t < left_at (at.SendData j) t
sent_falls t j true h = omega (arith, line_of_file (size_of t.entry) (j + 1) h.1.below)
sent_falls t j false h = omega (arith, (shape t.params).lines)

store_falls : (t next : Task) (j k : ℕ) (b : Bool) → next.params ≡ t.params → k < 8 → left_at (cond b (at.StoreSlot j (k + 1)) (at.SendSlot j)) next < left_at (at.StoreSlot j k) t
store_falls t next j k true params small = omega (arith, ap (λ (p : Params). (geometry p).lines) params)
store_falls t next j k false params small = omega (arith, ap (λ (p : Params). (geometry p).lines) params)

send_falls : (t : Task) (j : ℕ) (b : Bool) → IsSoundAt (cond b (at.StoreSlot (j + 1) 0) at.FenceSlot) t → left_at (cond b (at.StoreSlot (j + 1) 0) at.FenceSlot) t < left_at (at.SendSlot j) t
send_falls t j true h = omega (arith, h.1)
send_falls t j false h = omega arith

-- All phases.

keeps_at : (phase : Phase) (t : Task) (word : ℕ) → IsSoundAt phase t → Keeps (left_at phase t) t (turn_at phase t word)
keeps_at at.Magic t word stands = magic_keeps t (magic_fault word)
keeps_at (at.Drop p j) t word stands = first_word p t j
keeps_at (at.Word p j k) t word stands = word_keeps p t j k word stands.0.line stands.1
keeps_at at.Gate t word stands = gate_keeps t word (gate_fault word t.params)
keeps_at (at.Check i) t word stands = check_keeps t.cmd t i
keeps_at at.Decide t word stands = decide_keeps t.cmd t refl
keeps_at (at.StoreData j k) t word stands = record { lines = refl; falls = λ _. data_falls t _ j k (nat_lt k 7) refl refl stands.2 }
keeps_at (at.SendData j) t word stands =
    record { lines = refl; falls = sent_falls (record t { phase = data_or_slot t j }) j (nat_lt (j + 1) (lines_of (size_of t.entry))) }
keeps_at (at.StoreSlot j k) t word stands = record { lines = refl; falls = λ _. store_falls t _ j k (nat_lt k 7) refl stands.2 }
keeps_at (at.SendSlot j) t word stands =
    record { lines = refl; falls = send_falls (record t { phase = slot_or_fence t j }) j (nat_lt (j + 1) (geometry t.params).lines) }
keeps_at at.FenceGate t word stands = tt
keeps_at other t word stands = record { lines = refl; falls = λ _. omega arith }

kept_by : (n : ℕ) (t next : Task) (turn : Turn) → Keeps n t turn → task_after turn ≡ Some next → Kept n t next
kept_by n t next (Goes other) k is = subst (λ (x : Task). Kept n t x) (same_Some other next is) k
kept_by n t next (Marks other) k is = subst (λ (x : Task). Kept n t x) (same_Some other next is) k
kept_by n t next (Finds m other) k is = subst (λ (x : Task). Kept n t x) (same_Some other next is) k
kept_by n t next (Writes seq e other) k is = subst (λ (x : Task). Kept n t x) (same_Some other next is) k
kept_by n t next (Ends reply) k is = absurd cc

-- the task after any word that an operation may give
pub kept : (t next : Task) (word : ℕ) → IsSoundAt t.phase t → task_after (turn_at t.phase t word) ≡ Some next → Kept (left t) t next
kept t next word stands is = kept_by (left t) t next (turn_at t.phase t word) (keeps_at t.phase t word stands) is
