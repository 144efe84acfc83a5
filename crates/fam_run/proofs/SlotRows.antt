-- Rows of slots that a host has found before: each is loaded and looked at, one behind another.
use Rattle.std.proofs.Common.{◌≡◌, ℕ, suc, ◌+◌, ◌-◌, ◌<◌, ◌≤◌, Bool, true, false, cond, nat_lt, inl, inr, List, [], Option, None, take, drop, refl, sym, ap, ap₂, subst, ◌∙◌, arith}
use Rattle.std.proofs.lemmas.List.{get_or-take, get_or-drop}
use Rattle.std.proofs.lemmas.Bool.{cases_lt, false≢true, lt-ltb, ltb-false}
use Rattle.fam_base.specs.Image.{Image, IsNormal, eight, line_at}
use Rattle.fam_base.specs.declared.entry.Params.{Params}
use Rattle.fam_format.specs.Layout.{geometry, slot_line}
use Rattle.fam_format.proofs.Formats.{times}
use Rattle.fam_commands.specs.declared.phase.Part.TheVariants.{Slot}
use Rattle.fam_commands.specs.declared.phase.Phase.{Phase}
use Rattle.fam_commands.specs.declared.phase.Phase.TheVariants as at
use Rattle.fam_base.specs.declared.line.LineNo.{LineNo}
use Rattle.fam_machine.specs.declared.cell.Cell.{Cell}
use Rattle.fam_machine.specs.declared.cell.Cell.TheVariants.{Absent, Clean, Dirty}
use Rattle.fam_machine.specs.Caches.{Cache, cell_at, with_cell}
use Rattle.fam_machine.specs.OneLine.{IsDirty}
use Rattle.fam_commands.specs.Task.{Task}
use Rattle.fam_commands.specs.Turns.{turn_of}
use Rattle.fam_media.specs.Causes.{Rose}
use Rattle.fam_media.specs.Outside.{IfModelled}
use Rattle.fam_media.specs.Runs.{AreRead}
use Rattle.fam_cache.specs.BroughtRuns.{AreClean, IsClean, LacksNone, brought_run}
use Rattle.fam_cache.proofs.CleanRuns.{brought_both, clean_behind}
use Rattle.fam_cache.proofs.SetRuns.{brought_take}
use Rattle.fam_tasks.specs.declared.answer.Turn.{Turn}
use Rattle.fam_tasks.specs.declared.answer.Turn.TheVariants.{Go}
use Rattle.fam_tasks.specs.Rest.{DropsLine}
use Rattle.fam_tasks.specs.SlotLines.{FindsSlot, LoadsSlotLines}
use Rattle.fam_tasks.specs.Sound.{IsSound}
use Rattle.fam_tasks.specs.Tells.{Tells}
use Rattle.fam_tasks.proofs.Keeping.{go_keeps}
use Rattle.fam_run.specs.Checked.{IsChecked, did}
use Rattle.fam_run.specs.Led.{HasBrokenOff, HasDone}
use Rattle.fam_run.specs.Rows.{BreaksRow, FindsSlots, more, none}
use Rattle.fam_run.proofs.Cached.{tells_go}
use Rattle.fam_run.proofs.Checked.{checked, checked_behind}
use Rattle.fam_run.proofs.Joined.{broken_behind, done_both}
use Rattle.fam_run.proofs.SlotRuns.{brought_other, change, run_done, run_failed}

-- no lines were found: the task is as before
pub found_none : (first : ℕ) (lines : List (List ℕ)) (wide i : ℕ) (t next : Task) (n m : ℕ) → 0 < wide → FindsSlots first lines wide i t next n m → m ≡ 0 → next ≡ t
found_none first lines wide i t _ _ _ some none is = refl
found_none first lines wide i t next _ _ some (more {m = m} run finds) is = absurd (omega (arith, some, is))

-- the first line of the slot behind one
pub slot_line_next : (p : Params) (i : ℕ) → slot_line p (i + 1) 0 ≡ slot_line p i 0 + (geometry p).lines
slot_line_next p i = omega (arith, times p i, times p (i + 1))

-- that slot is dropped next, where the gate counts it
pub next_drop : (phase : Phase) (i k gate : ℕ) → i + k + 1 < gate → phase ≡ cond (nat_lt (i + k + 1) gate) (at.Drop (Slot (i + k + 1)) 0) at.Decide → phase ≡ at.Drop (Slot (i + (k + 1))) 0
next_drop phase i k gate below is =
    let number : i + k + 1 ≡ i + (k + 1) = omega arith in
    is ∙ ap (λ (b : Bool). cond b (at.Drop (Slot (i + k + 1)) 0) at.Decide) (lt-ltb (i + k + 1) gate below) ∙ ap (λ (n : ℕ). at.Drop (Slot n) 0) number

module _ (first : ℕ) (lines : List (List ℕ)) (modelled shown : Option Image) (same : shown ≡ modelled) (normal : IsNormal modelled)
    (size before now : ℕ) (old : Cache) (t : Task) (wide i : ℕ) (some : 0 < wide) where
  -- so many lines were read
  abbrev Read : ℕ → Type 0
  Read n = IfModelled modelled (λ image. AreRead image first lines n)

  -- memory lacks no word of those behind the first m
  lacks_behind : (m n : ℕ) → LacksNone old first (m + n) → LacksNone (brought_run first lines m old) (first + m) n
  lacks_behind m n clean = λ k below.
      let place : first + (m + k) ≡ first + m + k = omega arith in
      subst (λ (c : Cell). ¬ (IsDirty c)) (ap (cell_at old) place ∙ sym (brought_other first lines m old (first + m + k) (omega arith))) (clean (m + k) (omega (arith, below)))

  read_behind : (m n : ℕ) → Read (m + n) → IfModelled modelled (λ image. AreRead image (first + m) (drop m lines) n)
  read_behind m n read = λ image is k below.
      let place : first + (m + k) ≡ first + m + k = omega arith in
      ap eight (get_or-drop m lines k []) ∙ read image is (m + k) (omega (arith, below)) ∙ ap (line_at image) place

  read_part : (m : ℕ) → Read (m + wide) → IfModelled modelled (λ image. AreRead image (first + m) (take wide (drop m lines)) wide)
  read_part m read = λ image is k below. ap eight (get_or-take wide (drop m lines) k [] below) ∙ read_behind m wide read image is k below

  -- one more slot
  slot_more : (n m : ℕ) (mid next : Task) → FindsSlot (first + m) (take wide (drop m lines)) wide (i + n) mid next → LacksNone old first (m + wide) → Read (m + wide) →
      HasDone (change size before now modelled shown mid (brought_run first lines m old) next (brought_run first lines (m + wide) old)) Go
  slot_more n m mid next finds clean read =
      let held : Cache = brought_run first lines m old in
      let then : Cache = brought_run first lines (m + wide) old in
      let put : then ≡ brought_run (first + m) (take wide (drop m lines)) wide held =
      sym (brought_take (first + m) (drop m lines) wide wide held (omega arith) ∙ brought_both first lines m wide old) in
      let run = run_done (first + m) (take wide (drop m lines)) modelled shown same normal size before now held mid wide some finds.loaded finds.loads
      (lacks_behind m wide clean) (read_part m read) then put in
      let tells : Tells (turn_of finds.loaded None) Go next = tells_go (turn_of finds.loaded None) next finds.turn in
      checked_behind (change size before now modelled shown mid held finds.loaded then) same run next Go
      (did (checked finds.loaded next (i + n) size Go then (record { image = shown; faults = now }) finds.phase finds.sound tells (go_keeps finds.loaded next None tells)))

  -- all that were found are done
  pub row_loaded : (n m : ℕ) (next : Task) → FindsSlots first lines wide i t next n m → 0 < m → LacksNone old first m → Read m
      → HasDone (change size before now modelled shown t old next (brought_run first lines m old)) Go
  row_loaded _ _ _ none any clean read = absurd (omega (arith, any))
  row_loaded _ _ next (more none finds) any clean read = slot_more 0 0 t next finds clean read
  row_loaded _ _ next (more {mid = mid} {n = n} {m = m} (more {mid = before_mid} {n = k} {m = j} run here) finds) any clean read =
      done_both (change size before now modelled shown t old mid (brought_run first lines (j + wide) old)) same
      (row_loaded (suc k) (j + wide) mid (more run here) (omega (arith, some)) (λ l below. clean l (omega (arith, below))) (λ image is l below. read image is l (omega (arith, below))))
      next (brought_run first lines (j + wide + wide) old) shown now size before same
      (subst (λ (m : Option Image). HasDone (change size before now m shown mid (brought_run first lines (j + wide) old) next (brought_run first lines (j + wide + wide) old)) Go) (sym same)
      (slot_more (suc k) (j + wide) mid next finds clean read))

  -- the same of a cache that is the one behind them
  pub row_done : (n m : ℕ) (next : Task) → FindsSlots first lines wide i t next n m → 0 < m → LacksNone old first m → Read m → (new : Cache)
      → new ≡ brought_run first lines m old → HasDone (change size before now modelled shown t old next new) Go
  row_done n m next found any clean read new is =
      subst (λ (c : Cache). HasDone (change size before now modelled shown t old next c) Go) (sym is) (row_loaded n m next found any clean read)

  -- none was found: the first one is loaded, and looked at
  pub first_judged : (u loaded next : Task) (turn : Turn) → u ≡ t → LoadsSlotLines first lines u loaded wide → LacksNone old first wide → Read wide
      → (new : Cache) → new ≡ brought_run first lines wide old →
      IsChecked (record {
        task = loaded;
        next = next;
        old = new;
        new = new;
        lines = size;
        media =
            record { old = record { image = shown; faults = now }; new = record { image = shown; faults = now } };
      }) turn
      → HasDone (change size before now modelled shown t old next new) turn
  first_judged u loaded next turn is loads clean read new put looked =
      checked_behind (change size before now modelled shown t old loaded new) same
      (run_done first lines modelled shown same normal size before now old t wide some loaded (subst (λ (v : Task). LoadsSlotLines first lines v loaded wide) is loads) clean read new put)
      next turn looked

  -- behind them the media failed at a line
  part_breaks : (at done : ℕ) (mid next : Task) (new : Cache) (line : LineNo) → at ≤ done → BreaksRow first lines at done line mid next old new
      → LacksNone old first (suc done) → Read done → Rose before now → line.0 < size →
      HasBrokenOff (change size before now modelled shown mid (brought_run first lines at old) next new) line
  part_breaks at done mid next new line from breaks clean read rose inside =
      let rest : done ≡ at + (done - at) = omega (arith, from) in
      let place : first + done ≡ first + at + (done - at) = omega (arith, from) in
      run_failed (first + at) (drop at lines) modelled shown same normal size before now (brought_run first lines at old) mid
      (done - at) breaks.mid next line (breaks.is ∙ place) breaks.loads breaks.sound breaks.drops breaks.dropped_sound
      (lacks_behind at (suc (done - at)) (λ k below. clean k (omega (arith, below, from))))
      (read_behind at (done - at) (λ image is k below. read image is k (omega (arith, below, from)))) rose inside new
      (breaks.cache ∙ ap₂ (λ (q : ℕ) (c : Cache). with_cell q Absent c) place (ap (λ (k : ℕ). brought_run first lines k old) rest ∙ sym (brought_both first lines at (done - at) old)))

  pub row_breaks : (n at done : ℕ) (mid next : Task) (new : Cache) (line : LineNo) → FindsSlots first lines wide i t mid n at → at ≤ done
      → BreaksRow first lines at done line mid next old new → LacksNone old first (suc done) → Read done → Rose before now → line.0 < size →
      HasBrokenOff (change size before now modelled shown t old next new) line
  row_breaks _ _ done _ next new line none from breaks clean read rose inside = part_breaks 0 done t next new line from breaks clean read rose inside
  row_breaks n at done mid next new line (more {mid = u} {n = k} {m = j} run here) from breaks clean read rose inside =
      broken_behind (change size before now modelled shown t old mid (brought_run first lines (j + wide) old)) same
      (row_loaded (suc k) (j + wide) mid (more run here) (omega (arith, some)) (λ l below. clean l (omega (arith, below, from))) (λ image is l below. read image is l (omega (arith, below, from))))
      next new shown now size before line (omega arith) refl
      (subst (λ (m : Option Image). HasBrokenOff (change size before now m shown mid (brought_run first lines (j + wide) old) next new) line) (sym same)
      (part_breaks (j + wide) done mid next new line from breaks clean read rose inside))

undirty : (cell : Cell) → IsClean cell → ¬ (IsDirty cell)
undirty Absent clean dirty = clean
undirty (Clean words) clean dirty = false≢true dirty
undirty (Dirty asked words) clean dirty = clean

-- memory lacks no word of the line behind those that were brought
pub clean_next : (start : ℕ) (lines : List (List ℕ)) (read n : ℕ) (old now : Cache) (line : ℕ) → AreClean old start n → read < n
    → now ≡ brought_run start lines read old → line ≡ start + read → ¬ (IsDirty (cell_at now line))
clean_next start lines read n old now line clean below put at =
    let there : IsClean (cell_at (brought_run start lines read old) (start + read)) = clean_behind start lines read n old clean below in
    undirty (cell_at now line) (subst IsClean (sym (ap₂ cell_at put at)) there)

-- what a row has that was broken off
pub broken_row : (start : ℕ) (lines : List (List ℕ)) (at read first : ℕ) (line : LineNo) (t mid next : Task) (old here new : Cache)
    → start + at ≡ first → at ≤ read → LoadsSlotLines first (drop at lines) t mid (read - at) → IsSound mid → DropsLine line mid next → IsSound next →
    line.0 ≡ first + (read - at) → here ≡ brought_run start lines read old → new ≡ with_cell line.0 Absent here → BreaksRow start lines at read line t next old new
broken_row start lines at read first line t mid next old here new place from loads sound drops dropped_sound is put dropped =
    let number : line.0 ≡ start + read = omega (arith, is, place, from) in
    record {
      mid = mid;
      loads = subst (λ (q : ℕ). LoadsSlotLines q (drop at lines) t mid (read - at)) (sym place) loads;
      sound = sound;
      drops = drops;
      dropped_sound = dropped_sound;
      is = number;
      cache = dropped ∙ ap₂ (λ (q : ℕ) (c : Cache). with_cell q Absent c) number put;
    }

-- a row that doesn't break off, and of which no slot was found, has all lines of its first slot
pub wide_read : (read most found slots at wide : ℕ) (breaks : Bool) → breaks ≡ false
    → (breaks ≡ false → nat_lt found slots ≡ true → read < most → nat_lt (read - at) wide ≡ false) → found < slots → wide ≤ most → at ≡ 0
    → wide ≤ read
wide_read read most found slots at wide breaks is other left whole nothing =
    elim (cases_lt read most) [
      | inl less ↦ omega (arith, ltb-false (read - at) wide (other is (lt-ltb found slots left) less), nothing)
      | inr past ↦ omega (arith, past, whole)
    ]
