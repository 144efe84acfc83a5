-- A check of the whole file system that runs alone, on any image.
use Rattle.std.proofs.Common.{ℕ, ◌≡◌, ◌*◌, List, Option, length, map, Some, None, refl, sym, ◌∙◌, ap, subst}
use Rattle.std.specs.Prelude.{slice_index, unwrap_or}
use Rattle.std.proofs.lemmas.Option.{same_Some}
use Rattle.fam_base.specs.declared.cmd.Cmd.{Cmd}
use Rattle.fam_base.specs.declared.cmd.Cmd.TheVariants.{Fsck}
use Rattle.fam_base.specs.Image.{Image, eight, line_at}
use Rattle.fam_format.specs.Layout.{gate_line}
use Rattle.fam_machine.specs.declared.op.Op.TheVariants.{Invalidate, Load}
use Rattle.fam_commands.specs.declared.phase.Phase.{Phase}
use Rattle.fam_commands.specs.declared.phase.Phase.TheVariants as at
use Rattle.fam_machine.specs.Caches.{Cache, IsClean, cell_at}
use Rattle.fam_machine.specs.Operations.{Machine, given, operated, line_no}
use Rattle.fam_commands.specs.Kept.{IsKept, Kept, class_used}
use Rattle.fam_commands.specs.Solo.{SoloRun, starts, goes, turn_on}
use Rattle.fam_commands.specs.Stands.{task_after}
use Rattle.fam_commands.specs.Task.{Task, op_at, op_of, part_line}
use Rattle.fam_commands.specs.Turns.{Turn, Goes, Marks, Finds, Writes, Ends, turn_at}
use Rattle.fam_rules.specs.Place.{line_bytes}
use Rattle.fam_rules.specs.Reply.{Reply, Appended, NotAppended, Reports, NoSuperblock, BadHeader, BadSlot}
use Rattle.fam_rules.specs.Reports.{report_of}
use Rattle.fam_commands.specs.Appends.{IsBeforeWrites}
use Rattle.fam_protocol.specs.Bad.{AtDamagedPhase, BadTaskHolds, GoesOnBad, MayReplyBad, MaySayBad}
use Rattle.fam_solo.proofs.Machine.{Looks, ran_cmd, ran_looks, ran_normal, dropped_fresh, quiet_fresh, reader_before, word_of}
use Rattle.fam_commands.proofs.BeforeWrites.{EndsAt, SaysAt, turn_says}
use Rattle.fam_protocol.specs.Lines.{Fresh}
use Rattle.fam_solo.proofs.OneHost.{only, shared}
use Rattle.fam_protocol.proofs.Damaged.DamagedTurns.{Bare, BadTurn, decide_says, drop_says, gate_says, header_moved, magic_says, none_moved, slot_says, word_says}
use Rattle.fam_protocol.proofs.Damaged.Words.{slot_words_are}
use Rattle.fam_protocol.proofs.Lines.Moves.{fresh_current}

-- One operation on a machine with the image in memory and nothing to send.

module _ (image : Image) (me : List ℕ) (m : Machine) (normal : map eight m.image ≡ m.image) (image_is : m.image ≡ image) (clean : IsClean m.cache)
    (t : Task) (is_fsck : t.cmd ≡ Fsck) (me_is : t.me ≡ me) (lines : line_bytes * t.lines ≡ line_bytes * length image) where
  bare : Bare (line_at image) (line_bytes * length image) t.cmd
  bare = record { wide = λ l. refl; bad = λ other. absurd (other is_fsck) }

  -- the machine after the operation
  abbrev then : Phase → Machine
  then p = operated (op_at t p) m

  abbrev Turned : Phase → Turn → Type 0
  Turned p turn = BadTurn turn (line_at image) (line_bytes * length image) (only (Some me) None) 0 t (shared (then p))

  mine : only (Some me) None 0 ≡ Some t.me
  mine = ap Some (sym me_is)

  -- a load gives the image's word, where the copy isn't stale
  loads : (l k : ℕ) → Fresh (line_at m.image l) (cell_at m.cache l) → unwrap_or (given (Load (line_no l) k) m) 0 ≡ slice_index (line_at image l) k
  loads l k fresh = ap (λ (w : List ℕ). slice_index w k) (fresh_current (line_at m.image l) (cell_at m.cache l) fresh ∙ ap (λ (i : Image). line_at i l) image_is)

  -- a line that was dropped, and one that is loaded
  dropped : (l : ℕ) → Fresh (line_at (operated (Invalidate (line_no l)) m).image l) (cell_at (operated (Invalidate (line_no l)) m).cache l)
  dropped l = dropped_fresh (line_at (operated (Invalidate (line_no l)) m).image l) l m.cache

  loaded : (l k : ℕ) → Fresh (line_at m.image l) (cell_at m.cache l) → Fresh (line_at (operated (Load (line_no l) k) m).image l) (cell_at (operated (Load (line_no l) k) m).cache l)
  loaded l k fresh = quiet_fresh m normal clean (Load (line_no l) k) tt l fresh

  says : (p : Phase) → AtDamagedPhase p (line_at image) (line_bytes * length image) 0 t (shared m) → Turned p (turn_at p t (unwrap_or (given (op_at t p) m) 0))
  says at.DropMagic a = record { may = tt; task = record { me = mine; lines = lines; phase = (none_moved (line_at image) (line_bytes * length image) t at.Magic t.words a, dropped 0) } }
  says at.Magic a = magic_says (line_at image) (line_bytes * length image) (only (Some me) None) 0 (shared (then at.Magic)) t bare mine lines
      (unwrap_or (given (op_at t at.Magic) m) 0) a.0 (loads 0 0 a.1)
  says (at.Drop part j) a = drop_says (line_at image) (line_bytes * length image) (only (Some me) None) 0 (shared (then (at.Drop part j))) t bare mine
      lines part j a.0 a.1 a.2 (dropped (part_line t part j))
  says (at.Word part j k) a =
      word_says (line_at image) (line_bytes * length image) (only (Some me) None) 0 (shared (then (at.Word part j k))) t bare mine lines part j k
      (unwrap_or (given (op_at t (at.Word part j k)) m) 0) a.0 a.1 a.2 (loaded (part_line t part j) k a.3) a.4 (loads (part_line t part j) k a.3)
  says at.DropGate a = record {
    may = tt;
    task = record {
      me = mine;
      lines = lines;
      phase = (
        none_moved (line_at image) (line_bytes * length image) t at.Gate t.words a.0,
        a.1,
        header_moved (line_at image) (line_bytes * length image) t at.Gate t.words a.2,
        dropped gate_line,
      );
    };
  }
  says at.Gate a = gate_says (line_at image) (line_bytes * length image) (only (Some me) None) 0 (shared (then at.Gate)) t bare mine lines
      (unwrap_or (given (op_at t at.Gate) m) 0) a.0 a.1 a.2 (loads gate_line 0 a.3)
  says (at.Check i) a = slot_says (line_at image) (line_bytes * length image) (only (Some me) None) 0 (shared (then (at.Check i))) t bare mine lines i
      a.0 a.1 (a.2 ∙ slot_words_are (line_at image) t i)
  says at.Decide a = decide_says (line_at image) (line_bytes * length image) (only (Some me) None) 0 (shared (then at.Decide)) t bare mine lines a
  says e a = absurd a

module _ (kept : Option Kept) (me : List ℕ) (image : Image) (cache : Cache) (normal : map eight image ≡ image) (clean : IsClean cache) (joined : IsKept kept) where
  Holds : Task → Machine → Type 0
  Holds t m = BadTaskHolds (line_at image) (line_bytes * length image) (only (Some me) None) 0 t (shared m)

  by_turn : (turn : Turn) (next : Task) (m : Machine) → GoesOnBad turn (line_at image) (line_bytes * length image) (only (Some me) None) 0 (shared m) → task_after turn ≡ Some next → Holds next m
  unfolding Holds
  by_turn (Goes x) next m on is = subst (λ (y : Task). Holds y m) (same_Some x next is) on
  by_turn (Marks x) next m on is = subst (λ (y : Task). Holds y m) (same_Some x next is) on
  by_turn (Finds n x) next m on is = subst (λ (y : Task). Holds y m) (same_Some x next is) on
  by_turn (Writes seq e x) next m on is = absurd on
  by_turn (Ends reply) next m on is = absurd (cc)

  module _ (t : Task) (words : List ℕ) (made : ℕ) (m : Machine) (ran : SoloRun kept Fsck me image cache t words made m) (holds : Holds t m) where
    before : IsBeforeWrites t.phase
    before = reader_before kept Fsck me image cache joined refl t words made m ran

    looks : Looks image t.phase m
    looks = ran_looks kept Fsck me image cache normal clean t words made m ran before

    turned : BadTurn (turn_on t m) (line_at image) (line_bytes * length image) (only (Some me) None) 0 t (shared (operated (op_of t) m))
    unfolding Holds
    turned =
        says image me m (ran_normal kept Fsck me image cache normal t words made m ran) looks.image_is looks.clean t
        (ran_cmd kept Fsck me image cache joined t words made m ran) (same_Some t.me me (sym holds.me)) holds.lines t.phase holds.phase

  ran_holds : (t : Task) (words : List ℕ) (made : ℕ) (m : Machine) → SoloRun kept Fsck me image cache t words made m → Holds t m
  unfolding Holds class_used
  ran_holds t words made m starts = record { me = refl; lines = refl; phase = record { entries = refl; survey = refl; unused = λ p gate. refl } }
  ran_holds next _ _ _ (goes {t = t} {words = words} {made = made} {m = m} ran inside is) =
      by_turn (turn_on t m) next (operated (op_of t) m) (turned t words made m ran (ran_holds t words made m ran)).task is

  -- a check of the whole file system reports
  reported : (t : Task) (p : Phase) (given : Reply) → MayReplyBad given (line_at image) (line_bytes * length image) t → EndsAt p Fsck given
      → given ≡ Reports (report_of (line_at image) (line_bytes * length image))
  reported t p (Appended seq) may ends = absurd ends
  reported t p (NotAppended refused) may ends = absurd (let none = ends.1 in cc)
  reported t p (Reports report) may ends = ap Reports may
  reported t p (NoSuperblock fault) may ends = absurd (ends refl)
  reported t p (BadHeader fault) may ends = absurd (ends.1 refl)
  reported t p (BadSlot i reason) may ends = absurd (ends.1 refl)
  reported t p other may ends = absurd may

  pub fsck_reports : (t : Task) (words : List ℕ) (made : ℕ) (m : Machine) (given : Reply) → SoloRun kept Fsck me image cache t words made m
      → turn_on t m ≡ Ends given → given ≡ Reports (report_of (line_at image) (line_bytes * length image))
  fsck_reports t words made m given ran is =
      let holds : Holds t m = ran_holds t words made m ran in
      let fsck : t.cmd ≡ Fsck = ran_cmd kept Fsck me image cache joined t words made m ran in
      reported t t.phase given (subst (λ (turn : Turn). MaySayBad turn (line_at image) (line_bytes * length image) t) is (turned t words made m ran holds).may)
      (subst (λ (c : Cmd). EndsAt t.phase c given) fsck (subst (SaysAt t.phase t.cmd) is (turn_says t.phase t (word_of t m) (before t words made m ran holds) refl)))
