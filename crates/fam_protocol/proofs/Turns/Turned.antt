-- What a task's own turn does, at any place, where memory and caches stand.
use Rattle.std.proofs.Common.{ℕ, refl, [], ◌∷◌, ◌++◌, ◌+◌, ◌*◌, ◌<◌, ◌≡◌, List, Bool, true, false, cond, sym, ◌∙◌, subst, arith, nat_lt}
use Rattle.std.specs.Prelude.{Option, Some, None}
use Rattle.std.proofs.lemmas.Bool.Decides.{nat_tests}
use Rattle.fam_base.specs.declared.cmd.Cmd.{Cmd}
use Rattle.fam_base.specs.declared.cmd.Cmd.TheVariants.{Logplay, Mount, Mkdir, Creat, Cp, Verify, Read, Check, Fsck}
use Rattle.fam_commands.specs.declared.phase.Part.{Part}
use Rattle.fam_commands.specs.declared.phase.Part.TheVariants.{Superblock, Header, Slot, File as FileLines}
use Rattle.fam_commands.specs.declared.phase.Phase.{Phase}
use Rattle.fam_commands.specs.declared.phase.Phase.TheVariants as at
use Rattle.fam_commands.specs.Task.{Task, part_count}
use Rattle.fam_commands.specs.Turns.{Goes, turn_at, check_turn, decide_turn, file_turn, line_turn, with_word}
use Rattle.fam_rules.specs.Asks.{File}
use Rattle.fam_rules.specs.Place.{line_bytes}
use Rattle.fam_protocol.specs.SharedState.{SharedState}
use Rattle.fam_protocol.specs.Core.{System, Core}
use Rattle.fam_protocol.specs.Tasks.{KeepsPrefix, IsCommand, IsStable, HasLoaded, OnPart, AtPhase, wanted_path}
use Rattle.fam_protocol.specs.After.{After, Named, HasNamed, HoldsNamed}
use Rattle.fam_protocol.proofs.Hosts.Given.{Given}
use Rattle.fam_protocol.proofs.Turns.PartWords.{loaded, loaded_more, loaded_next, loaded_whole, kept_slot}
use Rattle.fam_protocol.proofs.Turns.Moved.{IsTask, moved, task_moved, head_moved, slot_moved, on_moved, count_moved, loaded_moved, sure_moved, reading_moved, after_moved}
use Rattle.fam_protocol.proofs.Turns.Tell.{goes}
use Rattle.fam_protocol.proofs.Turns.Head.{drop_magic, magic, drop, drop_gate, next_line, super_line, header_line}
use Rattle.fam_protocol.proofs.Turns.Stores.{store_data, send_data, store_slot, send_slot, fence_slot, store_gate, send_gate, fence_gate}
use Rattle.fam_protocol.proofs.Turns.Gate.{gate}
use Rattle.fam_protocol.proofs.Turns.Slots.{commanded, reads_log, slot_checked}
use Rattle.fam_protocol.proofs.Turns.Decide.{decide_logplay, decide_mount, decide_check, decide_append}
use Rattle.fam_protocol.proofs.Turns.Ask.{decide_verify, decide_read}
use Rattle.fam_protocol.proofs.Turns.FileLines.{verify_line, read_line}
use Rattle.fam_protocol.proofs.Turns.Survey.{survey_checked, survey_told}

module _ (sys : System) (host : ℕ) (floor : Option ℕ) (named : Option Named) (s : SharedState) (all : List File) (settled : ℕ) (core : Core sys s all settled) where
  check_by : (cmd : Cmd) (i : ℕ) (t : Task) → IsTask sys host (commanded t cmd) → AtPhase (at.Check i) sys host floor (commanded t cmd) s all settled
      → After (check_turn cmd (commanded t cmd) i) sys host floor named (commanded t cmd) s all settled
  check_by Fsck i t is g = survey_checked sys host floor named s all settled core t i is g
  check_by cmd i t is g = slot_checked sys host floor named s all settled core cmd (reads_log cmd (λ e. cc)) i t is g

  decide_by : (cmd : Cmd) (t : Task) → IsTask sys host (commanded t cmd) → AtPhase at.Decide sys host floor (commanded t cmd) s all settled
      → After (decide_turn cmd (commanded t cmd)) sys host floor named (commanded t cmd) s all settled
  decide_by Logplay t is g = decide_logplay sys host floor named s all settled core (reads_log Logplay (λ e. cc)) t g
  decide_by Mount t is g = decide_mount sys host floor named s all settled core (reads_log Mount (λ e. cc)) t g
  decide_by (Mkdir path attr) t is g = decide_append sys host floor named s all settled core (Mkdir path attr) (reads_log (Mkdir path attr) (λ e. cc)) _ refl t is g
  decide_by (Creat path size attr stripe fill) t is g = decide_append sys host floor named s all settled core (Creat path size attr stripe fill)
      (reads_log (Creat path size attr stripe fill) (λ e. cc)) _ refl t is g
  decide_by (Cp path attr stripe bytes) t is g = decide_append sys host floor named s all settled core (Cp path attr stripe bytes) (reads_log (Cp path attr stripe bytes) (λ e. cc)) _ refl t is g
  decide_by (Verify path against) t is g = decide_verify sys host floor named s all settled core t path against (reads_log (Verify path against) (λ e. cc)) is g
  decide_by (Read path offset count) t is g = decide_read sys host floor named s all settled core t path offset count (reads_log (Read path offset count) (λ e. cc)) is g
  decide_by (Check listing) t is g = decide_check sys host floor named s all settled core listing (reads_log (Check listing) (λ e. cc)) t g
  decide_by Fsck t is g = survey_told sys host floor named s all settled core t g

  -- only two commands read the lines of a file
  no_file : (cmd : Cmd) (path : List ℕ) → wanted_path cmd ≡ None → wanted_path cmd ≡ Some path → ⊥
  no_file cmd path none some = absurd (let e : None ≡ Some path = sym none ∙ some in cc)

  file_by : (cmd : Cmd) (j : ℕ) (t : Task) → IsTask sys host (commanded t cmd) → OnPart FileLines j sys host floor (commanded t cmd) s all settled
      → j < part_count (commanded t cmd) FileLines → HasLoaded s.memory (commanded t cmd) FileLines j 8
      → After (file_turn cmd (commanded t cmd) j) sys host floor named (commanded t cmd) s all settled
  file_by (Verify path against) j t is on within has = verify_line sys host floor named s all settled core t path against (reads_log (Verify path against) (λ e. cc)) j is on.0 on.1 within has
  file_by (Read path offset count) j t is on within has = read_line sys host floor named s all settled core t path offset count (reads_log (Read path offset count) (λ e. cc)) j is on.0 on.1 within has
  file_by e j t is on within has = absurd (no_file e on.1.file.path refl on.1.file.wanted)

  -- a line of a part was loaded
  line : (part : Part) (j : ℕ) (t : Task) → IsTask sys host t → OnPart part j sys host floor t s all settled → j < part_count t part
      → (IsStable t part → HasLoaded s.memory t part j 8) → After (line_turn t part j) sys host floor named t s all settled
  line Superblock j t is on within has = super_line sys host floor named s all settled core j t is on (has tt)
  line Header j t is on within has = header_line sys host floor named s all settled core j t is on.0 on.1 (has tt)
  line (Slot i) j t is on within has =
      next_line sys host floor named s all settled core (Slot i) j t (Goes (record t { phase = at.Check i })) is on
      (λ sure. has sure ∙ loaded_next s.memory t (Slot i) j (kept_slot t.cmd i j) (kept_slot t.cmd i (j + 1)))
      (λ last. goes sys host floor named s all settled core t (moved t (at.Check i) t.words) (task_moved t (at.Check i) t.words sys host is) (
        head_moved t (at.Check i) t.words sys host on.0,
        slot_moved t (at.Check i) t.words host floor s all settled i on.1,
        λ below.
            has below ∙ loaded_whole s.memory t (Slot i) j (kept_slot t.cmd i j) last,
      ))
  line FileLines j t is on within has = file_by t.cmd j t is on within (has tt)

  -- a word was loaded
  word_turned : (part : Part) (j k : ℕ) (t : Task) (word : ℕ) → IsTask sys host t → Given (at.Word part j k) sys host floor word t s all settled
      → After (turn_at (at.Word part j k) t word) sys host floor named t s all settled
  word_turned part j k t word is g = go (nat_lt k 7) refl
    where
      more : IsStable t part → t.words ++ word ∷ [] ≡ loaded s.memory t part j (k + 1)
      more sure = loaded_more s.memory t part j k word g.0.1 g.0.2 (g.0.3 sure).1 (g.1 sure)

      go : (b : Bool) → nat_lt k 7 ≡ b → After (cond b (Goes (record (with_word t word) { phase = at.Word part j (k + 1) })) (line_turn (with_word t word) part j)) sys host floor named t s all settled
      go true e =
          let p : Phase = at.Word part j (k + 1) in
          let w : List ℕ = t.words ++ word ∷ [] in
          goes sys host floor named s all settled core t (moved t p w) (task_moved t p w sys host is) (
            on_moved t p w host floor s all settled part j sys g.0.0,
            subst (λ (n : ℕ). j < n) (sym (count_moved t p w part)) g.0.1,
            grind (arith, nat_tests),
            reading_moved t p w part host j (k + 1) s (λ sure. ((g.0.3 sure).0, more sure)),
          )
      go false e =
          let w : List ℕ = t.words ++ word ∷ [] in
          let last : k + 1 ≡ 8 = let below = g.0.2 in grind (arith, nat_tests) in
          after_moved t t.phase w sys floor named all settled (line_turn (with_word t word) part j) host s
          (line part j (moved t t.phase w) (task_moved t t.phase w sys host is)
          (on_moved t t.phase w host floor s all settled part j sys g.0.0)
          (subst (λ (n : ℕ). j < n) (sym (count_moved t t.phase w part)) g.0.1)
          (λ sure. loaded_moved t t.phase w part s.memory j 8 (subst (λ (n : ℕ). w ≡ loaded s.memory t part j n) last (more (sure_moved t t.phase w part sure)))))

  -- the whole
  pub turned : (p : Phase) (t : Task) (word : ℕ) → IsCommand t.cmd → sys.uuid host ≡ Some t.me → line_bytes * t.lines ≡ sys.have
      → KeepsPrefix sys.params all settled t.kept → (HasNamed p → HoldsNamed t named) → Given p sys host floor word t s all settled
      → After (turn_at p t word) sys host floor named t s all settled
  turned p t word command me lines keeps holds given = by_phase p (record { command = command; me = me; lines = lines }) holds given
    where
      by_phase : (p : Phase) → IsTask sys host t → (HasNamed p → HoldsNamed t named) → Given p sys host floor word t s all settled → After (turn_at p t word) sys host floor named t s all settled
      by_phase at.DropMagic is holds g = drop_magic sys host floor named s all settled core t word is g
      by_phase at.Magic is holds g = magic sys host floor named s all settled core t word is g
      by_phase (at.Drop part j) is holds g = drop sys host floor named s all settled core part j t word is g
      by_phase (at.Word part j k) is holds g = word_turned part j k t word is g
      by_phase at.DropGate is holds g = drop_gate sys host floor named s all settled core t word is g
      by_phase at.Gate is holds g = gate sys host floor named s all settled core t word keeps is g
      by_phase (at.Check i) is holds g = check_by t.cmd i t is g
      by_phase at.Decide is holds g = decide_by t.cmd t is g
      by_phase (at.StoreData j k) is holds g = store_data sys host floor named s all settled core j k t word is g
      by_phase (at.SendData j) is holds g = send_data sys host floor named s all settled core j t word is g
      by_phase (at.StoreSlot j k) is holds g = store_slot sys host floor named s all settled core j k t word is g
      by_phase (at.SendSlot j) is holds g = send_slot sys host floor named s all settled core j t word is g
      by_phase at.StoreGate is holds g = store_gate sys host floor named s all settled core t word is g
      by_phase at.FenceSlot is holds g = fence_slot sys host floor named s all settled core t word is g
      by_phase at.SendGate is holds g = send_gate sys host floor named s all settled core t word is g
      by_phase at.FenceGate is holds g = fence_gate sys host floor named s all settled core t word is (holds tt) g
