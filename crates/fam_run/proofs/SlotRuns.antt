-- Lines of a slot that are dropped and loaded whole, one behind another, by one call.
use Rattle.std.proofs.Common.{◌≡◌, ℕ, zero, suc, ◌+◌, ◌<◌, ◌≤◌, List, Option, refl, sym, ap, subst, ◌∙◌, arith}
use Rattle.fam_base.specs.Image.{Image, IsNormal, eight}
use Rattle.fam_base.specs.declared.line.LineNo.{LineNo}
use Rattle.fam_format.specs.Layout.{slot_line}
use Rattle.fam_machine.specs.declared.cell.Cell.{Cell}
use Rattle.fam_machine.specs.declared.cell.Cell.TheVariants.{Absent, Clean}
use Rattle.fam_machine.specs.Caches.{Cache, cell_at, with_cell}
use Rattle.fam_machine.specs.OneLine.{IsDirty}
use Rattle.fam_machine.specs.Operations.{line_no}
use Rattle.fam_machine.proofs.CacheLemmas.{cell_at-with_cell_other}
use Rattle.fam_commands.specs.declared.phase.Part.TheVariants.{Slot}
use Rattle.fam_commands.specs.declared.phase.Phase.{Phase}
use Rattle.fam_commands.specs.declared.phase.Phase.TheVariants as at
use Rattle.fam_commands.specs.Task.{Task, part_line}
use Rattle.fam_media.specs.Causes.{Rose}
use Rattle.fam_media.specs.Outside.{IfModelled}
use Rattle.fam_media.specs.Runs.{AreRead, line_in}
use Rattle.fam_cache.specs.BroughtRuns.{LacksNone, brought_run}
use Rattle.fam_tasks.specs.declared.answer.Turn.TheVariants.{Go}
use Rattle.fam_tasks.specs.Rest.{DropsLine}
use Rattle.fam_tasks.specs.SlotLines.{IsSlotLine, LoadsSlotLine, LoadsSlotLines, more, none}
use Rattle.fam_tasks.specs.Sound.{IsSound}
use Rattle.fam_run.specs.Led.{HasBrokenOff, HasDone}
use Rattle.fam_run.specs.TaskChange.{TaskChange}
use Rattle.fam_run.proofs.Joined.{broken_behind, done_both}
use Rattle.fam_run.proofs.Renewed.{line_unread}
use Rattle.fam_run.proofs.SlotLines.{slot_line_read}

-- the line that a task drops in a phase
dropped_line : Task → Phase → ℕ
dropped_line t (at.Drop part j) = part_line t part j
dropped_line t other = 0

-- the line of a slot that is dropped next is the one of its number
pub slot_line_is : (t : Task) (line : LineNo) (slot first j : ℕ) → t.phase ≡ at.Drop (Slot slot) j → first ≡ slot_line t.params slot 0 → IsSlotLine line t → line.0 ≡ first + j
unfolding dropped_line
slot_line_is t line slot first j phase is due =
    let same : part_line t (Slot due.slot) due.j ≡ part_line t (Slot slot) j = sym (ap (dropped_line t) due.phase) ∙ ap (dropped_line t) phase in
    omega (arith, due.is, same, is)

-- a line behind those that were brought, in such a row
pub brought_other : (first : ℕ) (lines : List (List ℕ)) (k : ℕ) (cache : Cache) (q : ℕ) → first + k ≤ q → cell_at (brought_run first lines k cache) q ≡ cell_at cache q
brought_other first lines zero cache q behind = refl
brought_other first lines (suc k) cache q behind =
    cell_at-with_cell_other (first + k) (Clean (eight (line_in lines k))) (brought_run first lines k cache) q (λ e. omega (arith, e, behind))
    ∙ brought_other first lines k cache q (omega (arith, behind))

-- a media that shows the same image, before and behind operations of a task
abbrev pub change : (lines before now : ℕ) (modelled shown : Option Image) → Task → Cache → Task → Cache → TaskChange
change lines before now modelled shown task old next new = record {
  task = task;
  next = next;
  old = old;
  new = new;
  lines = lines;
  media = record { old = record { image = modelled; faults = before }; new = record { image = shown; faults = now } };
}

module _ (first : ℕ) (lines : List (List ℕ)) (modelled shown : Option Image) (same : shown ≡ modelled) (normal : IsNormal modelled) (size before now : ℕ) (old : Cache) (t : Task) where
  -- so many lines were read
  abbrev Read : ℕ → Type 0
  Read n = IfModelled modelled (λ image. AreRead image first lines n)

  -- memory lacks nothing of the line at hand
  clean_next : (n : ℕ) → LacksNone old first (suc n) → ¬ (IsDirty (cell_at (brought_run first lines n old) (first + n)))
  clean_next n clean = subst (λ (c : Cell). ¬ (IsDirty c)) (sym (brought_other first lines n old (first + n) (omega arith))) (clean n (omega arith))

  -- one more line
  line_more : (n : ℕ) (mid next : Task) → IsSound mid → LoadsSlotLine (line_no (first + n)) (eight (line_in lines n)) mid next → LacksNone old first (suc n) → Read (suc n) →
      HasDone (change size before now modelled shown mid (brought_run first lines n old) next (brought_run first lines (suc n) old)) Go
  line_more n mid next sound loads absent read =
      slot_line_read (line_no (first + n)) (line_in lines n) mid next modelled shown (brought_run first lines n old) (brought_run first lines (suc n) old) size before now normal sound loads
      (clean_next n absent)
      (λ image is. read image is n (omega arith)) refl same

  -- all that were loaded are done
  pub run_loaded : (n : ℕ) (next : Task) → LoadsSlotLines first lines t next (suc n) → LacksNone old first (suc n) → Read (suc n)
      → HasDone (change size before now modelled shown t old next (brought_run first lines (suc n) old)) Go
  run_loaded zero next (more none sound loads) absent read = line_more 0 t next sound loads absent read
  run_loaded (suc n) next (more {mid = mid} run sound loads) absent read =
      done_both (change size before now modelled shown t old mid (brought_run first lines (suc n) old)) same
      (run_loaded n mid run (λ k below. absent k (omega (arith, below))) (λ image is k below. read image is k (omega (arith, below))))
      next (brought_run first lines (suc (suc n)) old) shown now size before same
      (subst (λ (m : Option Image). HasDone (change size before now m shown mid (brought_run first lines (suc n) old) next (brought_run first lines (suc (suc n)) old)) Go) (sym same)
      (line_more (suc n) mid next sound loads absent read))

  -- the next line is dropped, and can't be brought
  pub line_breaks : (n : ℕ) (mid dropped : Task) → IsSound mid → DropsLine (line_no (first + n)) mid dropped → IsSound dropped
      → LacksNone old first (suc n) → Rose before now → first + n < size →
      HasBrokenOff (change size before now modelled shown mid (brought_run first lines n old) dropped (with_cell (first + n) Absent (brought_run first lines n old))) (line_no (first + n))
  line_breaks n mid dropped sound drops dropped_sound clean rose inside =
      line_unread (line_no (first + n)) mid dropped modelled (brought_run first lines n old) normal sound drops (clean_next n clean) dropped_sound size before now
      (with_cell (first + n) Absent (brought_run first lines n old)) shown same refl rose inside

  -- so behind some that are done
  pub breaks_behind : (n : ℕ) (mid dropped : Task) → HasDone (change size before now modelled shown t old mid (brought_run first lines n old)) Go → IsSound mid
      → DropsLine (line_no (first + n)) mid dropped → IsSound dropped → LacksNone old first (suc n) → Rose before now → first + n < size →
      HasBrokenOff (change size before now modelled shown t old dropped (with_cell (first + n) Absent (brought_run first lines n old))) (line_no (first + n))
  breaks_behind n mid dropped done sound drops dropped_sound clean rose inside =
      broken_behind (change size before now modelled shown t old mid (brought_run first lines n old)) same done
      dropped (with_cell (first + n) Absent (brought_run first lines n old)) shown now size before (line_no (first + n)) (omega arith) refl
      (subst (λ (m : Option Image). HasBrokenOff
      (change size before now m shown mid (brought_run first lines n old) dropped
      (with_cell (first + n) Absent (brought_run first lines n old))) (line_no (first + n))) (sym same)
      (line_breaks n mid dropped sound drops dropped_sound clean rose inside))

  pub run_breaks : (n : ℕ) (mid dropped : Task) → LoadsSlotLines first lines t mid n → IsSound mid → DropsLine (line_no (first + n)) mid dropped
      → IsSound dropped → LacksNone old first (suc n) → Read n → Rose before now → first + n < size →
      HasBrokenOff (change size before now modelled shown t old dropped (with_cell (first + n) Absent (brought_run first lines n old))) (line_no (first + n))
  run_breaks zero mid dropped none sound drops dropped_sound clean read rose inside = line_breaks 0 t dropped sound drops dropped_sound clean rose inside
  run_breaks (suc n) mid dropped run sound drops dropped_sound clean read rose inside =
      breaks_behind (suc n) mid dropped (run_loaded n mid run (λ k below. clean k (omega (arith, below))) read) sound drops dropped_sound clean rose inside

  -- the same of a cache that is the one behind them
  pub run_done : (count : ℕ) → 0 < count → (next : Task) → LoadsSlotLines first lines t next count → LacksNone old first count → Read count
      → (new : Cache) → new ≡ brought_run first lines count old → HasDone (change size before now modelled shown t old next new) Go
  run_done zero some next run absent read new is = absurd (omega (arith, some))
  run_done (suc n) some next run absent read new is =
      subst (λ (c : Cache). HasDone (change size before now modelled shown t old next c) Go) (sym is) (run_loaded n next run absent read)

  pub run_failed : (n : ℕ) (mid dropped : Task) (line : LineNo) → line.0 ≡ first + n → LoadsSlotLines first lines t mid n → IsSound mid
      → DropsLine line mid dropped → IsSound dropped → LacksNone old first (suc n) → Read n → Rose before now → line.0 < size →
      (new : Cache) → new ≡ with_cell (first + n) Absent (brought_run first lines n old) → HasBrokenOff (change size before now modelled shown t old dropped new) line
  run_failed n mid dropped line at run sound drops dropped_sound absent read rose inside new is =
      subst (λ (l : LineNo). HasBrokenOff (change size before now modelled shown t old dropped new) l) (sym (ap line_no at))
      (subst (λ (c : Cache). HasBrokenOff (change size before now modelled shown t old dropped c) (line_no (first + n))) (sym is)
      (run_breaks n mid dropped run sound (subst (λ (l : LineNo). DropsLine l mid dropped) (ap line_no at) drops) dropped_sound absent read rose (omega (arith, at, inside))))
