-- Tasks that go on behind a line of a slot, behind a slot, and to the first store of an append.
use Rattle.std.proofs.Common.{◌≡◌, ℕ, ◌+◌, ◌<◌, ◌≤◌, Bool, true, false, cond, nat_lt, List, [], length, Option, Some, refl, sym, ap, subst, ◌∙◌, arith}
use Rattle.std.specs.Prelude.{◌==◌, IsSome}
use Rattle.std.proofs.lemmas.Bool.Decides.{nat_tests}
use Rattle.fam_base.specs.declared.cmd.Cmd.{Cmd}
use Rattle.fam_base.specs.declared.cmd.Cmd.TheVariants.{Verify, Check}
use Rattle.fam_base.specs.declared.cmd.Content.{Content}
use Rattle.fam_base.specs.declared.entry.Entry.{Entry}
use Rattle.fam_format.specs.Layout.{geometry}
use Rattle.fam_format.specs.Slot.{Proper, spelling}
use Rattle.fam_format.proofs.EntryLawsProofs.{spelling_count}
use Rattle.fam_format.proofs.Formats.{shape}
use Rattle.fam_rules.specs.Content.{content_line}
use Rattle.fam_rules.specs.Decide.{wish_of}
use Rattle.fam_fsck.specs.Scan.{Scan}
use Rattle.fam_commands.specs.declared.phase.Part.TheVariants.{Slot}
use Rattle.fam_commands.specs.declared.phase.Phase.{Phase}
use Rattle.fam_commands.specs.declared.phase.Phase.TheVariants as at
use Rattle.fam_commands.specs.Kept.{IsKept}
use Rattle.fam_commands.specs.Task.{Task, content_of, size_of}
use Rattle.fam_commands.specs.Turns.{first_store}
use Rattle.fam_tasks.specs.declared.task.Task.TheInside.{Inside}
use Rattle.fam_tasks.specs.Commands.{content_used, slots_told}
use Rattle.fam_tasks.specs.Contents.{ContentsState}
use Rattle.fam_tasks.specs.History.{HistoryState}
use Rattle.fam_tasks.specs.Invariant.{HasLooked, HoldsLine, IsInvariantAt, IsTask, MayPlay}
use Rattle.fam_tasks.specs.Model.{task_of}
use Rattle.fam_tasks.specs.Sound.{HasSpelledSlot, HasValidGate, IsProperFor, IsSoundAt}
use Rattle.fam_tasks.proofs.Begun.{begun_sound}
use Rattle.fam_tasks.proofs.Phases.{held_by, next_phase, same_gate}
use Rattle.fam_tasks.proofs.Slots.{some_line}

-- the last word of a line was loaded that isn't the slot's last
pub next_line : (t : Inside) (i j : ℕ) (words : List ℕ) → IsTask t → t.phase ≡ at.Word (Slot i) j 7 → length words ≡ length t.buffer + 1
    → j + 1 < (geometry t.params).lines → IsTask (record t { phase = at.Drop (Slot i) (j + 1); buffer = words })
next_line t i j words task phase count below =
    let u : Inside = record t { phase = at.Drop (Slot i) (j + 1); buffer = words } in
    let stands : IsSoundAt (at.Word (Slot i) j 7) (task_of t) = subst (λ (p : Phase). IsSoundAt p (task_of t)) phase task.sound.stands in
    let held : HasLooked i t = subst (λ (p : Phase). IsInvariantAt p t) phase task.held in
    record {
      sound = record {
        command = task.sound.command;
        least = task.sound.least;
        most = task.sound.most;
        stands = (
          record {
            line = (same_gate (task_of t) (task_of u) refl refl refl stands.0.line.0, stands.0.line.1, below);
            few = omega (arith, below, (shape t.params).most);
          },
          omega (arith, count, stands.2),
        );
        kept = task.sound.kept;
      };
      held = record { replay = held.replay; scan = held.scan; entries = held.entries; slots = held.slots };
    }

-- that of its last line was
pub all_lines : (t : Inside) (i j : ℕ) (words : List ℕ) → IsTask t → t.phase ≡ at.Word (Slot i) j 7 → length words ≡ length t.buffer + 1
    → (geometry t.params).lines ≤ j + 1 → IsTask (record t { phase = at.Check i; buffer = words })
all_lines t i j words task phase count last =
    let u : Inside = record t { phase = at.Check i; buffer = words } in
    let stands : IsSoundAt (at.Word (Slot i) j 7) (task_of t) = subst (λ (p : Phase). IsSoundAt p (task_of t)) phase task.sound.stands in
    let held : HasLooked i t = subst (λ (p : Phase). IsInvariantAt p t) phase task.held in
    record {
      sound = record {
        command = task.sound.command;
        least = task.sound.least;
        most = task.sound.most;
        stands = (
          same_gate (task_of t) (task_of u) refl refl refl stands.0.line.0,
          stands.0.line.1,
          omega (arith, count, stands.2, stands.0.line.2, last, (shape t.params).words),
        );
        kept = task.sound.kept;
      };
      held = record { replay = held.replay; scan = held.scan; entries = held.entries; slots = held.slots };
    }

-- a slot was looked at
pub behind_slot : (t : Inside) (i n : ℕ) (phase : Phase) (history : HistoryState) (scan : Option Scan) (words : List ℕ) → IsTask t
    → t.phase ≡ at.Check i → phase ≡ next_phase (i + 1) n → n ≡ slots_told t.cmd t.params t.gate → history.kept ≡ t.history.kept → words ≡ []
    → HasLooked (i + 1) (record t { phase = phase; history = history; scan = scan; buffer = words }) → (nat_lt (i + 1) n ≡ false → MayPlay t.cmd history)
    → IsTask (record t { phase = phase; history = history; scan = scan; buffer = words })
behind_slot t i n phase history scan words task checked next told kept empty looked plays =
    let u : Inside = record t { phase = phase; history = history; scan = scan; buffer = words } in
    let stands : IsSoundAt (at.Check i) (task_of t) = subst (λ (p : Phase). IsSoundAt p (task_of t)) checked task.sound.stands in
    let valid : HasValidGate (task_of u) = same_gate (task_of t) (task_of u) refl refl refl stands.0 in
    let within : i + 1 ≤ n = omega (arith, stands.1, told) in
    record {
      sound = record {
        command = task.sound.command;
        least = task.sound.least;
        most = task.sound.most;
        stands = subst (λ (p : Phase). IsSoundAt p (task_of u)) (sym next) (begun_sound (task_of u) (i + 1) n (nat_lt (i + 1) n) refl told valid (ap length empty));
        kept = subst IsKept (sym kept) task.sound.kept;
      };
      held = subst (λ (p : Phase). IsInvariantAt p u) (sym next) (held_by u (i + 1) n (nat_lt (i + 1) n) told refl within looked plays);
    }

-- what an append writes is its content
content_same : (cmd : Cmd) → IsSome (wish_of cmd) → content_used cmd ≡ content_of cmd
content_same (Verify path against) is = absurd cc
content_same other is = refl

stores_stand : (t : Task) (e : Entry) (b : Bool) → (e.size == 0) ≡ b → t.entry ≡ Some e → Proper t.params e → HasSpelledSlot t → IsSoundAt (cond b (at.StoreSlot 0 0) (at.StoreData 0 0)) t
stores_stand t e true bare is proper spelled = (spelled, some_line t.params, omega arith)
stores_stand t e false some is proper spelled = (
  spelled,
  record {
    proper = subst (IsProperFor t) (sym is) proper;
    below = (let positive : 0 < e.size = grind (arith, nat_tests, some) in omega (arith, ap size_of is, positive));
  },
  omega arith,
)

stores_held : (t : Inside) (b : Bool) → (b ≡ false → HoldsLine 0 t) → IsInvariantAt (cond b (at.StoreSlot 0 0) (at.StoreData 0 0)) t
stores_held t true held = tt
stores_held t false held = held refl

-- an entry is to be appended
pub first_stores : (t : Inside) (e : Entry) (phase : Phase) (words : List ℕ) (contents : ContentsState) → IsTask t → t.phase ≡ at.Decide
    → IsSome (wish_of t.cmd) → t.gate < t.params.slots → Proper t.params e → phase ≡ first_store e.size
    → words ≡ spelling (geometry t.params) e t.gate → contents.content ≡ content_used t.cmd → (0 < e.size → contents.taken ≡ 1)
    → (0 < e.size → contents.line ≡ content_line (content_used t.cmd) e.size 0)
    → IsTask (record t { phase = phase; buffer = words; entry = Some e; contents = contents })
first_stores t e phase words contents task decides wish room proper first spelled content taken line =
    let u : Inside = record t { phase = phase; buffer = words; entry = Some e; contents = contents } in
    let stands : IsSoundAt at.Decide (task_of t) = subst (λ (p : Phase). IsSoundAt p (task_of t)) decides task.sound.stands in
    let slot : HasSpelledSlot (task_of u) = record {
      found = same_gate (task_of t) (task_of u) refl refl refl stands;
      room = room;
      words = ap length spelled ∙ spelling_count t.params e t.gate;
    } in
    let same : content_used t.cmd ≡ content_of t.cmd = content_same t.cmd wish in
    let some : (e.size == 0) ≡ false → 0 < e.size = λ test. grind (arith, nat_tests, test) in
    record {
      sound = record {
        command = task.sound.command;
        least = task.sound.least;
        most = task.sound.most;
        stands = subst (λ (p : Phase). IsSoundAt p (task_of u)) (sym first) (stores_stand (task_of u) e (e.size == 0) refl refl proper slot);
        kept = task.sound.kept;
      };
      held = subst (λ (p : Phase). IsInvariantAt p u) (sym first) (stores_held u (e.size == 0) (λ test. record {
        content = content ∙ same;
        taken = taken (some test);
        line = line (some test) ∙ ap (λ (x : Content). content_line x e.size 0) same;
      }));
    }
