-- A line of a slot is dropped and loaded whole, by one read.
use Rattle.std.proofs.Common.{ℕ, ◌≡◌, List, Option, refl, sym, ap, subst}
use Rattle.fam_base.specs.Image.{Image, IsNormal, eight, line_at}
use Rattle.fam_base.specs.declared.line.LineNo.{LineNo}
use Rattle.fam_machine.specs.declared.cell.Cell.TheVariants.{Clean}
use Rattle.fam_machine.specs.Caches.{Cache, cell_at, with_cell}
use Rattle.fam_machine.specs.OneLine.{IsDirty, IsHeld, words_of}
use Rattle.fam_machine.proofs.CacheLemmas.{cell_at-with_cell_same}
use Rattle.fam_commands.specs.Task.{Task}
use Rattle.fam_media.specs.Outside.{IfModelled}
use Rattle.fam_tasks.specs.declared.answer.Turn.TheVariants.{Go}
use Rattle.fam_tasks.specs.SlotLines.{LoadsSlotLine}
use Rattle.fam_tasks.specs.Sound.{IsSound}
use Rattle.fam_run.specs.Led.{HasDone, none}
use Rattle.fam_run.proofs.Cached.{loads_held}
use Rattle.fam_run.proofs.Joined.{led_done}
use Rattle.fam_run.proofs.Renewed.{led_dropped, renews, without}
use Rattle.fam_run.proofs.Stored.{cached_led}

pub slot_line_read : (line : LineNo) (words : List ℕ) (t next : Task) (modelled shown : Option Image) (old new : Cache) (size before now : ℕ)
    → IsNormal modelled → IsSound t → LoadsSlotLine line (eight words) t next → ¬ (IsDirty (cell_at old line.0))
    → IfModelled modelled (λ image. eight words ≡ line_at image line.0) → new ≡ with_cell line.0 (Clean (eight words)) old → shown ≡ modelled
    → HasDone (record {
      task = t;
      next = next;
      old = old;
      new = new;
      lines = size;
      media =
          record { old = record { image = modelled; faults = before }; new = record { image = shown; faults = now } };
    }) Go
slot_line_read line words t next modelled shown old new size before now normal sound loads clean from copy same =
    let full : Cache = with_cell line.0 (Clean (eight words)) old in
    let cell : cell_at full line.0 ≡ Clean (eight words) = cell_at-with_cell_same line.0 (Clean (eight words)) old in
    let there : IsHeld (cell_at full line.0) = subst IsHeld {x = Clean (eight words)} (sym cell) refl in
    subst (λ (c : Cache). HasDone (record {
      task = t;
      next = next;
      old = old;
      new = c;
      lines = size;
      media =
          record { old = record { image = modelled; faults = before }; new = record { image = shown; faults = now } };
    }) Go) (sym copy)
    (led_done modelled shown same size before now t loads.dropped loads.begun next old (without line old) full full
    (led_dropped line t loads.dropped modelled old normal sound loads.drops clean)
    (renews line t loads.dropped modelled old normal sound loads.drops clean loads.dropped_sound words loads.begun loads.turn from)
    (cached_led modelled normal loads.begun next full full loads.begun full none
    (loads_held line (eight words) loads.begun next full there (sym (ap words_of cell)) loads.rest)))
