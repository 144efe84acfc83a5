-- Whatever words its loads give, a task comes to its answer.
use Prim.Native.Nat.{zero, suc}
use Rattle.std.proofs.Common.{◌≡◌, ℕ, ◌+◌, ◌*◌, ◌≤◌, Bool, true, false, List, [], ◌∷◌, ◌++◌, length, Option, Some, None, refl, ap, sym, subst, arith}
use Rattle.std.specs.Prelude.{⊤, ◌==◌, nat_lt, nat_le, if◌then◌else◌, Result, Ok, Err}
use Rattle.std.specs.FinMap as finmap
use Rattle.std.proofs.lemmas.Bool.Decides.{nat_tests}
use Rattle.std.proofs.lemmas.Option.{same_Some}
use Rattle.fam_base.specs.declared.cmd.Cmd.{Cmd}
use Rattle.fam_base.specs.declared.cmd.Cmd.TheVariants.{Logplay, Mount, Mkdir, Creat, Cp, Verify, Read, Check, Fsck}
use Rattle.fam_base.specs.declared.cmd.Content.{Content}
use Rattle.fam_base.specs.declared.cmd.Content.TheVariants as content
use Rattle.fam_base.specs.declared.entry.Entry.{Entry}
use Rattle.fam_base.specs.declared.entry.Kind.{Kind}
use Rattle.fam_base.specs.declared.entry.Kind.TheVariants as kind
use Rattle.fam_base.specs.declared.entry.Params.{Params}
use Rattle.fam_format.specs.declared.faults.SuperFault.{SuperFault}
use Rattle.fam_format.specs.declared.faults.LogFault.{LogFault}
use Rattle.fam_format.specs.declared.faults.Reason.{Reason}
use Rattle.fam_format.specs.Layout.{geometry}
use Rattle.fam_format.specs.Log.{gate_fault, log_fault}
use Rattle.fam_format.specs.Slot.{entry_of, spelling}
use Rattle.fam_format.specs.Super.{magic_fault, super_body_of}
use Rattle.fam_format.specs.Tree.{join_fault, replay}
use Rattle.fam_commands.specs.declared.phase.Part.{Part}
use Rattle.fam_commands.specs.declared.phase.Part.TheVariants.{Superblock, Header, Slot, File}
use Rattle.fam_commands.specs.declared.phase.Phase.{Phase}
use Rattle.fam_commands.specs.declared.phase.Phase.TheVariants as at
use Rattle.fam_commands.specs.Stands.{task_after}
use Rattle.fam_commands.specs.Kept.{Kept, first_slot, used}
use Rattle.fam_commands.specs.Task.{Task, part_count, size_of, mounted, wanted_end}
use Rattle.fam_commands.specs.Turns.{Turn, Goes, Marks, Finds, Writes, Ends, append_turn, check_turn, compare_turn, decide_turn, file_turn, finds_or_goes, found_turn, gate_turn, header_turn, host_refusal, host_turn, join_turn, kind_turn, line_difference, line_turn, magic_turn, slot_or_decide, slot_turn, slots_read, super_turn, turn_at, verify_lines, verify_turn, wish_turn, gate_loaded}
use Rattle.fam_commands.specs.Classes.{LooksAtFile}
use Rattle.fam_rules.specs.declared.answers.Refused.{Refused}
use Rattle.fam_rules.specs.Decide.{Wish, decide_wish, wish_of}
use Rattle.fam_rules.specs.Place.{line_bytes}
use Rattle.fam_rules.specs.Reports.{survey_slot}
use Rattle.fam_rules.specs.Written.{lines_of}

-- a task from which each way of words comes to an answer
pub data Halts : Task → Type 0 where
  halts : {t : Task} → ((word : ℕ) (next : Task) → task_after (turn_at t.phase t word) ≡ Some next → Halts next) → Halts t

abbrev pub HaltsTurn : Turn → Type 0
HaltsTurn (Goes t) = Halts t
HaltsTurn (Marks t) = Halts t
HaltsTurn (Finds n t) = Halts t
HaltsTurn (Writes seq e t) = Halts t
HaltsTurn (Ends given) = ⊤

halting : (t : Task) → ((word : ℕ) → HaltsTurn (turn_at t.phase t word)) → Halts t
halting t each = halts (λ word next is. by_turn (turn_at t.phase t word) next (each word) is)
  where
    by_turn : (z : Turn) (next : Task) → HaltsTurn z → task_after z ≡ Some next → Halts next
    by_turn (Goes n) next h is = subst Halts (same_Some n next is) h
    by_turn (Marks n) next h is = subst Halts (same_Some n next is) h
    by_turn (Finds k n) next h is = subst Halts (same_Some n next is) h
    by_turn (Writes seq e n) next h is = subst Halts (same_Some n next is) h
    by_turn (Ends given) next h is = absurd cc

-- by a test of turns, and of places
pick : (b : Bool) (x y : Turn) → (b ≡ true → HaltsTurn x) → (b ≡ false → HaltsTurn y) → HaltsTurn (if b then x else y)
pick true x y f g = f refl
pick false x y f g = g refl

pick_place : (t : Task) (b : Bool) (p q : Phase) → (b ≡ true → Halts (record t { phase = p })) → (b ≡ false → Halts (record t { phase = q })) → Halts (record t { phase = if b then p else q })
pick_place t true p q f g = f refl
pick_place t false p q f g = g refl

-- Writing.

fence_gate : (t : Task) → Halts (record t { phase = at.FenceGate })
fence_gate t = halting (record t { phase = at.FenceGate }) (λ word. tt)

send_gate : (t : Task) → Halts (record t { phase = at.SendGate })
send_gate t = halting (record t { phase = at.SendGate }) (λ word. fence_gate t)

store_gate : (t : Task) → Halts (record t { phase = at.StoreGate })
store_gate t = halting (record t { phase = at.StoreGate }) (λ word. send_gate t)

fence_slot : (t : Task) → Halts (record t { phase = at.FenceSlot })
fence_slot t = halting (record t { phase = at.FenceSlot }) (λ word. store_gate t)

-- words of a line, and then its sending
module _ (store : ℕ → Phase) (send : Phase)
    (turns : (t : Task) (k word : ℕ) → turn_at (store k) (record t { phase = store k }) word
    ≡ Goes (record t { phase = if nat_lt k 7 then store (k + 1) else send })) where
  words_stored : (m k : ℕ) → 7 ≤ k + m → (t : Task) → Halts (record t { phase = send }) → Halts (record t { phase = store k })
  words_stored zero k enough t sends =
      halting (record t { phase = store k }) (λ word. subst HaltsTurn (sym (turns t k word))
      (pick_place t (nat_lt k 7) (store (k + 1)) send (λ is. absurd (grind (arith, nat_tests, enough))) (λ is. sends)))
  words_stored (suc m) k enough t sends =
      halting (record t { phase = store k }) (λ word. subst HaltsTurn (sym (turns t k word))
      (pick_place t (nat_lt k 7) (store (k + 1)) send (λ is. words_stored m (k + 1) (omega (arith, enough)) t sends) (λ is. sends)))

send_slot : (n j : ℕ) (t : Task) → (geometry t.params).lines ≤ j + 1 + n → Halts (record t { phase = at.SendSlot j })
send_slot zero j t enough =
    halting (record t { phase = at.SendSlot j })
    (λ word. pick_place t (nat_lt (j + 1) (geometry t.params).lines) (at.StoreSlot (j + 1) 0) at.FenceSlot
    (λ is. absurd (grind (arith, nat_tests, enough))) (λ is. fence_slot t))
send_slot (suc n) j t enough =
    halting (record t { phase = at.SendSlot j }) (λ word. pick_place t (nat_lt (j + 1) (geometry t.params).lines) (at.StoreSlot (j + 1) 0) at.FenceSlot
    (λ is. words_stored (at.StoreSlot (j + 1)) (at.SendSlot (j + 1)) (λ t k word. refl) 7 0 (omega arith) t (send_slot n (j + 1) t (omega (arith, enough)))) (λ is. fence_slot t))

store_slot : (t : Task) → Halts (record t { phase = at.StoreSlot 0 0 })
store_slot t = words_stored (at.StoreSlot 0) (at.SendSlot 0) (λ t k word. refl) 7 0 (omega arith) t (send_slot (geometry t.params).lines 0 t (omega arith))

send_data : (n j : ℕ) (t : Task) → lines_of (size_of t.entry) ≤ j + 1 + n → Halts (record t { phase = at.SendData j })
send_data zero j t enough =
    halting (record t { phase = at.SendData j })
    (λ word. pick_place t (nat_lt (j + 1) (lines_of (size_of t.entry))) (at.StoreData (j + 1) 0) (at.StoreSlot 0 0)
    (λ is. absurd (grind (arith, nat_tests, enough))) (λ is. store_slot t))
send_data (suc n) j t enough =
    halting (record t { phase = at.SendData j }) (λ word. pick_place t (nat_lt (j + 1) (lines_of (size_of t.entry))) (at.StoreData (j + 1) 0) (at.StoreSlot 0 0)
    (λ is. words_stored (at.StoreData (j + 1)) (at.SendData (j + 1)) (λ t k word. refl) 7 0 (omega arith) t (send_data n (j + 1) t (omega (arith, enough)))) (λ is. store_slot t))

store_data : (t : Task) → Halts (record t { phase = at.StoreData 0 0 })
store_data t = words_stored (at.StoreData 0) (at.SendData 0) (λ t k word. refl) 7 0 (omega arith) t (send_data (lines_of (size_of t.entry)) 0 t (omega arith))

-- Reading: the words of a line, and then what its part makes of them.

module _ (part : Part) (j : ℕ) (P : Task → Type 0) (stays : (t : Task) (w : List ℕ) (p : Phase) → P t → P (record t { words = w; phase = p }))
    (line : (t : Task) → P t → HaltsTurn (line_turn t part j)) where
  words_read : (m k : ℕ) → 7 ≤ k + m → (t : Task) → P t → Halts (record t { phase = at.Word part j k })
  words_read zero k enough t p =
      halting (record t { phase = at.Word part j k }) (λ word. pick (nat_lt k 7) _ _ (λ is. absurd (grind (arith, nat_tests, enough)))
      (λ is. line (record t { words = t.words ++ word ∷ []; phase = at.Word part j k }) (stays t (t.words ++ word ∷ []) (at.Word part j k) p)))
  words_read (suc m) k enough t p =
      halting (record t { phase = at.Word part j k }) (λ word. pick (nat_lt k 7) _ _
      (λ is. words_read m (k + 1) (omega (arith, enough)) (record t { words = t.words ++ word ∷ [] }) (stays t (t.words ++ word ∷ []) t.phase p))
      (λ is. line (record t { words = t.words ++ word ∷ []; phase = at.Word part j k }) (stays t (t.words ++ word ∷ []) (at.Word part j k) p)))

  line_read : (t : Task) → P t → Halts (record t { phase = at.Drop part j })
  line_read t p = halting (record t { phase = at.Drop part j }) (λ word. words_read 7 0 (omega arith) t p)

-- Lines of a file.

record AtFile (n j : ℕ) (t : Task) : Type 0 where
  reads : LooksAtFile t.cmd
  left : part_count t File ≤ j + 1 + n

file_line : (j : ℕ) (t : Task) → LooksAtFile t.cmd
    → ((u : Task) → u.cmd ≡ t.cmd → u.entry ≡ t.entry → nat_lt (j + 1) (part_count t File) ≡ true → Halts (record u { phase = at.Drop File (j + 1) }))
    → HaltsTurn (line_turn t File j)
file_line j t reads next = by_cmd t.cmd refl reads
  where
    by_found : (against : Content) (o : Option ℕ) → HaltsTurn (compare_turn t against j o)
    by_found against (Some b) = tt
    by_found against None = pick (nat_lt (j + 1) (part_count t File)) _ _ (λ is. next (record t { words = [] }) refl refl is) (λ is. tt)

    by_cmd : (c : Cmd) → t.cmd ≡ c → LooksAtFile c → HaltsTurn (file_turn c t j)
    by_cmd (Verify path against) is reads = by_found against (line_difference t against j)
    by_cmd (Read path offset count) is reads = pick (nat_lt (j + 1) (part_count t File)) _ _ (λ is. next t refl refl is) (λ is. tt)
    by_cmd e is reads = absurd reads

same_count : (t u : Task) → u.cmd ≡ t.cmd → u.entry ≡ t.entry → part_count u File ≡ part_count t File
same_count t u e f = rw e (rw f refl)

file_read : (n j : ℕ) (t : Task) → AtFile n j t → Halts (record t { phase = at.Drop File j })
file_read zero j = line_read File j (AtFile zero j) (λ t w p x. record { reads = x.reads; left = x.left })
    (λ t x. file_line j t x.reads (λ u e f is. absurd (let left = x.left in grind (arith, nat_tests, left, is))))
file_read (suc n) j = line_read File j (AtFile (suc n) j) (λ t w p x. record { reads = x.reads; left = x.left }) (λ t x. file_line j t x.reads
    (λ u e f is. file_read n (j + 1) u (record { reads = subst LooksAtFile (sym e) x.reads; left = let left = x.left in let same = same_count t u e f in omega (arith, left, same) })))

-- The decision.

decides_kind : (t : Task) (k : Kind) (turn : Turn) → HaltsTurn turn → HaltsTurn (kind_turn t k turn)
decides_kind t kind.Directory turn h = tt
decides_kind t kind.File turn h = h

decides_found : (t : Task) (o : Option Entry) (turn : Entry → Turn) → ((e : Entry) → HaltsTurn (turn e)) → HaltsTurn (found_turn t o turn)
decides_found t None turn h = tt
decides_found t (Some e) turn h = decides_kind t e.kind (turn e) (h e)

reads_entry : (t : Task) (e : Entry) → LooksAtFile t.cmd → Halts (record t { entry = Some e; phase = at.Drop File 0; words = [] })
reads_entry t e reads = file_read (part_count (record t { entry = Some e }) File) 0 (record t { entry = Some e; words = [] }) (record { reads = reads; left = omega arith })

decides_lines : (t : Task) (e : Entry) → LooksAtFile t.cmd → HaltsTurn (verify_lines t e)
decides_lines t e reads = pick (e.size == 0) _ _ (λ is. tt) (λ is. reads_entry t e reads)

decides_verify : (t : Task) (e : Entry) (against : Content) → LooksAtFile t.cmd → HaltsTurn (verify_turn t e against)
decides_verify t e (content.Bytes given) reads = pick (length given == e.size) _ _ (λ is. decides_lines t e reads) (λ is. tt)
decides_verify t e (content.Seed seed) reads = decides_lines t e reads
decides_verify t e content.Zero reads = decides_lines t e reads

decides_append : (t : Task) (r : Result Entry Refused) → HaltsTurn (append_turn t r)
decides_append t (Err refused) = tt
decides_append t (Ok e) =
    pick_place (record t { entry = Some e; words = spelling (geometry t.params) e t.gate }) (e.size == 0) (at.StoreSlot 0 0) (at.StoreData 0 0)
    (λ is. store_slot (record t { entry = Some e; words = spelling (geometry t.params) e t.gate })) (λ is. store_data (record t { entry = Some e; words = spelling (geometry t.params) e t.gate }))

decides_wish : (t : Task) (w : Wish) → wish_of t.cmd ≡ Some w → HaltsTurn (wish_turn t (wish_of t.cmd))
decides_wish t w is = subst (λ (o : Option Wish). HaltsTurn (wish_turn t o)) (sym is) (decides_append t (decide_wish t.params t.me t.entries w))

decide_halts : (t : Task) → Halts (record t { phase = at.Decide })
decide_halts s = halting (record s { phase = at.Decide }) (λ word. by_cmd s.cmd refl)
  where
    by_cmd : (c : Cmd) → s.cmd ≡ c → HaltsTurn (decide_turn c (record s { phase = at.Decide }))
    by_cmd Logplay is = tt
    by_cmd Mount is = tt
    by_cmd (Check listing) is = tt
    by_cmd Fsck is = tt
    by_cmd (Verify path against) is = decides_found (record s { phase = at.Decide }) (finmap.get (replay s.entries) path) _
        (λ e. decides_verify (record s { phase = at.Decide }) e against (subst LooksAtFile (sym is) tt))
    by_cmd (Read path offset count) is =
        decides_found (record s { phase = at.Decide }) (finmap.get (replay s.entries) path) _
        (λ e. pick (nat_le (wanted_end s.cmd e.size) offset) _ _ (λ b. tt)
        (λ b. reads_entry (record s { phase = at.Decide }) e (subst LooksAtFile (sym is) tt)))
    by_cmd (Mkdir path attr) is = decides_wish (record s { phase = at.Decide }) _ (ap wish_of is)
    by_cmd (Creat path size attr stripe fill) is = decides_wish (record s { phase = at.Decide }) _ (ap wish_of is)
    by_cmd (Cp path attr stripe bytes) is = decides_wish (record s { phase = at.Decide }) _ (ap wish_of is)

-- Slots.

-- the slots from i on are read, where there are no more than n
SlotsHalt : ℕ → Type 0
SlotsHalt n = (i : ℕ) (t : Task) → slots_read t ≤ i + n → Halts (record t { phase = slot_or_decide t i })

-- the entry of slot i
check_halts : (n i : ℕ) (t : Task) → SlotsHalt n → slots_read t ≤ i + 1 + n → Halts (record t { phase = at.Check i })
unfolding SlotsHalt
check_halts n i s next left = halting (record s { phase = at.Check i }) (λ word. by_cmd s.cmd refl)
  where
    by_join : (e : Entry) (o : Option Reason) → HaltsTurn (join_turn (record s { phase = at.Check i }) i e o)
    by_join e (Some reason) = tt
    by_join e None = next (i + 1) (record s { entries = s.entries ++ e ∷ []; words = [] }) left

    by_slot : (r : Result Entry Reason) → HaltsTurn (slot_turn (record s { phase = at.Check i }) i r)
    by_slot (Err reason) = tt
    by_slot (Ok e) = by_join e (join_fault s.params s.entries e)

    by_cmd : (c : Cmd) → s.cmd ≡ c → HaltsTurn (check_turn c (record s { phase = at.Check i }) i)
    by_cmd Fsck is = next (i + 1) (record s { survey = survey_slot s.params s.gate i s.words s.survey; words = [] }) left
    by_cmd e is = by_slot (entry_of s.params s.words i)

record AtSlot (n i m j : ℕ) (t : Task) : Type 0 where
  slots : slots_read t ≤ i + 1 + n
  left : (geometry t.params).lines ≤ j + 1 + m

slot_read : (n i : ℕ) → SlotsHalt n → (m j : ℕ) (t : Task) → AtSlot n i m j t → Halts (record t { phase = at.Drop (Slot i) j })
slot_read n i next zero j = line_read (Slot i) j (AtSlot n i zero j) (λ t w p x. record { slots = x.slots; left = x.left })
    (λ t x. pick (nat_lt (j + 1) (geometry t.params).lines) _ _ (λ is. absurd (let left = x.left in grind (arith, nat_tests, left, is))) (λ is. check_halts n i t next x.slots))
slot_read n i next (suc m) j = line_read (Slot i) j (AtSlot n i (suc m) j) (λ t w p x. record { slots = x.slots; left = x.left })
    (λ t x. pick (nat_lt (j + 1) (geometry t.params).lines) _ _
    (λ is. slot_read n i next m (j + 1) t (record { slots = x.slots; left = let left = x.left in omega (arith, left) }))
    (λ is. check_halts n i t next x.slots))

slots_halt : (n : ℕ) → SlotsHalt n
unfolding SlotsHalt
slots_halt zero i t left = pick_place t (nat_lt i (slots_read t)) (at.Drop (Slot i) 0) at.Decide (λ is. absurd (grind (arith, nat_tests, left))) (λ is. decide_halts t)
slots_halt (suc n) i t left =
    pick_place t (nat_lt i (slots_read t)) (at.Drop (Slot i) 0) at.Decide
    (λ is. slot_read n i (slots_halt n) (geometry t.params).lines 0 t (record { slots = omega (arith, left); left = omega arith })) (λ is. decide_halts t)

-- Head.

gate_halts : (t : Task) → Halts (record t { phase = at.Gate })
unfolding SlotsHalt
gate_halts t = halting (record t { phase = at.Gate }) (λ word. by_fault word (gate_fault word t.params))
  where
    by_wish : (word : ℕ) (o : Option Wish) → HaltsTurn (finds_or_goes o word (gate_loaded (record t { phase = at.Gate }) word))
    by_wish word None = slots_halt (slots_read (record t { gate = word })) (first_slot t.kept t.cmd t.params word) (record t { gate = word; entries = used t.kept t.cmd t.params word }) (omega arith)
    by_wish word (Some w) = slots_halt (slots_read (record t { gate = word })) (first_slot t.kept t.cmd t.params word)
        (record t { gate = word; entries = used t.kept t.cmd t.params word }) (omega arith)

    by_fault : (word : ℕ) (o : Option LogFault) → HaltsTurn (gate_turn (record t { phase = at.Gate }) word o)
    by_fault word (Some fault) = tt
    by_fault word None = by_wish word (wish_of t.cmd)

drop_gate : (t : Task) → Halts (record t { phase = at.DropGate })
drop_gate t = halting (record t { phase = at.DropGate }) (λ word. gate_halts t)

header_halts : (t : Task) → Halts (record t { phase = at.Drop Header 0 })
header_halts t = line_read Header 0 (λ t. ⊤) (λ t w p x. tt) (λ t x. by_fault t (log_fault t.words t.params)) t tt
  where
    by_fault : (t : Task) (o : Option LogFault) → HaltsTurn (header_turn t o)
    by_fault t (Some fault) = tt
    by_fault t None = drop_gate (record t { words = [] })

super_behind : (t : Task) → HaltsTurn (super_turn t (super_body_of t.words (line_bytes * t.lines)))
super_behind t = by_super (super_body_of t.words (line_bytes * t.lines))
  where
    by_host : (p : Params) (o : Option Refused) → HaltsTurn (host_turn t p o)
    by_host p (Some refused) = tt
    by_host p None = header_halts (record t { params = p; words = [] })

    by_super : (r : Result Params SuperFault) → HaltsTurn (super_turn t r)
    by_super (Err fault) = tt
    by_super (Ok p) = by_host p (host_refusal (wish_of t.cmd) p t.me)

super_second : (t : Task) → Halts (record t { phase = at.Drop Superblock 1 })
super_second t = line_read Superblock 1 (λ t. ⊤) (λ t w p x. tt) (λ t x. super_behind t) t tt

super_first : (t : Task) → Halts (record t { phase = at.Drop Superblock 0 })
super_first t = line_read Superblock 0 (λ t. ⊤) (λ t w p x. tt) (λ t x. super_second t) t tt

magic_halts : (t : Task) → Halts (record t { phase = at.Magic })
magic_halts t = halting (record t { phase = at.Magic }) (λ word. by_fault (magic_fault word))
  where
    by_fault : (o : Option SuperFault) → HaltsTurn (magic_turn (record t { phase = at.Magic }) o)
    by_fault (Some fault) = tt
    by_fault None = super_first (record t { words = [] })

-- a command before its first operation
pub begin_halts : (kept : Option Kept) (cmd : Cmd) (me : List ℕ) (lines : ℕ) → Halts (mounted kept cmd me lines)
begin_halts kept cmd me lines = halting (mounted kept cmd me lines) (λ word. magic_halts (mounted kept cmd me lines))
