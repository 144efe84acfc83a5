-- A line of which memory lacks no word is dropped and brought anew: its drop, and the load of its first word.
use Rattle.std.proofs.Common.{ℕ, ◌≡◌, ◌<◌, List, Option, Some, sym, subst}
use Rattle.std.specs.Prelude.{slice_index}
use Rattle.fam_base.specs.Image.{Image, IsNormal, eight, line_at}
use Rattle.fam_base.specs.declared.line.LineNo.{LineNo}
use Rattle.fam_machine.specs.declared.cell.Cell.TheVariants.{Absent, Clean}
use Rattle.fam_machine.specs.Caches.{Cache, cell_at, with_cell}
use Rattle.fam_machine.specs.OneLine.{IsDirty}
use Rattle.fam_machine.proofs.CacheLemmas.{cell_at-with_cell_same, with_cell_twice}
use Rattle.fam_commands.specs.Task.{Task}
use Rattle.fam_commands.specs.Turns.{Goes, turn_of}
use Rattle.fam_media.specs.Causes.{Rose}
use Rattle.fam_media.specs.Outside.{IfModelled}
use Rattle.fam_tasks.specs.Rest.{DropsLine}
use Rattle.fam_tasks.specs.Sound.{IsSound}
use Rattle.fam_run.specs.Led.{HasBrokenOff, KeepsMemory, Led, none}
use Rattle.fam_run.proofs.Brought.{brings, not_brought}
use Rattle.fam_run.proofs.Cached.{drop_held}
use Rattle.fam_run.proofs.Stored.{cached_led}

-- the cache without a copy of a line
abbrev pub without : LineNo → Cache → Cache
without line held = with_cell line.0 Absent held

module _ (line : LineNo) (t dropped : Task) (modelled : Option Image) (old : Cache) (normal : IsNormal modelled) (sound : IsSound t)
    (drops : DropsLine line t dropped) (clean : ¬ (IsDirty (cell_at old line.0))) where
  pub led_dropped : Led modelled t old dropped (without line old)
  led_dropped = cached_led modelled normal t dropped old (without line old) t old none (drop_held line t dropped old sound drops clean)

  none_there : cell_at (without line old) line.0 ≡ Absent
  none_there = cell_at-with_cell_same line.0 Absent old

  dropped_small : line.0 < dropped.lines
  dropped_small = subst (λ (n : ℕ). line.0 < n) (sym drops.lines) drops.within

  -- the line can't be brought
  pub line_unread : (dropped_sound : IsSound dropped) (size before now : ℕ) (new : Cache) (shown : Option Image) → shown ≡ modelled
      → new ≡ without line old → Rose before now → line.0 < size
      → HasBrokenOff (record {
        task = t;
        next = dropped;
        old = old;
        new = new;
        lines = size;
        media =
            record { old = record { image = modelled; faults = before }; new = record { image = shown; faults = now } };
      }) line
  line_unread dropped_sound = not_brought line dropped modelled (without line old) dropped_sound drops.loads dropped_small none_there t old led_dropped

  -- its words are read
  pub renews : (dropped_sound : IsSound dropped) (words : List ℕ) (begun : Task) → turn_of dropped (Some (slice_index words 0)) ≡ Goes begun
      → IfModelled modelled (λ image. eight words ≡ line_at image line.0)
      → KeepsMemory modelled dropped (without line old) begun (with_cell line.0 (Clean (eight words)) old)
  renews dropped_sound words begun turn from =
      subst (λ (c : Cache). KeepsMemory modelled dropped (without line old) begun c) (with_cell_twice line.0 Absent (Clean (eight words)) old)
      (brings line dropped modelled (without line old) dropped_sound drops.loads dropped_small none_there words begun turn from)
