-- The first word of a line is loaded, of which the host has no copy: the line is brought.
use Rattle.std.proofs.Common.{ℕ, ◌≡◌, ◌<◌, List, Option, Some, refl, sym, ap, subst, ◌∙◌, arith}
use Rattle.std.specs.Prelude.{slice_index}
use Rattle.fam_base.specs.Image.{Image, eight, line_at}
use Rattle.fam_base.specs.declared.line.LineNo.{LineNo}
use Rattle.fam_machine.specs.declared.cell.Cell.{Cell}
use Rattle.fam_machine.specs.declared.cell.Cell.TheVariants.{Absent, Clean}
use Rattle.fam_machine.specs.declared.op.Op.{Op}
use Rattle.fam_machine.specs.declared.op.Op.TheVariants.{Load}
use Rattle.fam_machine.specs.Caches.{Cache, cell_at, with_cell}
use Rattle.fam_machine.specs.OneLine.{brought, current, is_held, words_of}
use Rattle.fam_machine.specs.Operations.{IsWithin, given, machine, operated}
use Rattle.fam_machine.proofs.CacheLemmas.{cell_at-with_cell_same}
use Rattle.fam_cache.specs.Operations.{LeavesCache, LeavesFailed, word_of}
use Rattle.fam_cache.proofs.Performed.{load_failed}
use Rattle.fam_commands.specs.Task.{Task, op_of}
use Rattle.fam_commands.specs.Turns.{Goes, turn_of}
use Rattle.fam_media.specs.Causes.{Rose}
use Rattle.fam_media.specs.Outside.{IfModelled}
use Rattle.fam_tasks.specs.Sound.{IsSound}
use Rattle.fam_run.specs.Led.{HasBrokenOff, KeepsMemory, Led}
use Rattle.fam_run.proofs.Cached.{tells_go}

module _ (line : LineNo) (t : Task) (modelled : Option Image) (old : Cache) (sound : IsSound t) (op : op_of t ≡ Load line 0) (small : line.0 < t.lines) (absent : cell_at old line.0 ≡ Absent) where
  first_within : IsWithin t.lines (op_of t)
  first_within = subst (IsWithin t.lines) (sym op) (small, omega arith)

  -- the media failed in it, behind other operations
  pub not_brought : (first : Task) (start : Cache) → Led modelled first start t old → (size before now : ℕ) (new : Cache) (shown : Option Image)
      → shown ≡ modelled → new ≡ old → Rose before now → line.0 < size
      → HasBrokenOff (record {
        task = first;
        next = t;
        old = start;
        new = new;
        lines = size;
        media =
            record { old = record { image = modelled; faults = before }; new = record { image = shown; faults = now } };
      }) line
  not_brought first start led size before now new shown same copies rose inside = record {
    task = t;
    held = old;
    led = led;
    sound = sound;
    within = first_within;
    kept = refl;
    copies = subst (λ (o : Op). LeavesFailed o old new) (sym op) copies;
    failed = load_failed (op_of t) line 0 modelled shown old new op (λ held. absurd (let no : is_held Absent ≡ is_held (cell_at old line.0) = sym (ap is_held absent) in cc)) same copies;
    rose = rose;
    inside = inside;
  }

  -- the copy is there, with these words
  pub brings : (words : List ℕ) (begun : Task) → turn_of t (Some (slice_index words 0)) ≡ Goes begun
      → IfModelled modelled (λ image. eight words ≡ line_at image line.0)
      → KeepsMemory modelled t old begun (with_cell line.0 (Clean (eight words)) old)
  brings words begun turn from =
      let full : Cache = with_cell line.0 (Clean (eight words)) old in
      let full_cell : cell_at full line.0 ≡ Clean (eight words) = cell_at-with_cell_same line.0 (Clean (eight words)) old in
      record {
        sound = sound;
        within = first_within;
        leaves = subst (λ (o : Op). LeavesCache o modelled old full) (sym op) (record {
          memory = eight words;
          whole = refl;
          modelled_is = from;
          is = sym (ap (λ (c : Cell). with_cell line.0 (brought (eight words) c) old) absent);
        });
        goes = tells_go (turn_of t (word_of (op_of t) full)) begun
            (ap (λ (o : Op). turn_of t (word_of o full)) op ∙ ap (λ (c : Cell). turn_of t (Some (slice_index (words_of c) 0))) full_cell ∙ turn);
        turned = λ image is. record {
          is = record {
            image = is ∙ sym (ap (λ (o : Op). Some (operated o (machine image old)).image) op);
            cache =
                ap (λ (w : List ℕ). with_cell line.0 (Clean w) old) (from image is)
                ∙ sym (ap (λ (o : Op). (operated o (machine image old)).cache) op ∙ ap (λ (c : Cell). with_cell line.0 (brought (line_at image line.0) c) old) absent);
          };
          tells = tells_go (turn_of t (given (op_of t) (machine image old))) begun
              (ap (λ (o : Op). turn_of t (given o (machine image old))) op
              ∙ ap (λ (c : Cell). turn_of t (Some (slice_index (current (line_at image line.0) c) 0))) absent
              ∙ sym (ap (λ (w : List ℕ). turn_of t (Some (slice_index w 0))) (from image is))
              ∙ turn);
        };
      }
