-- A line of a file that is compared is dropped and loaded whole: nine operations, by one read.
use Rattle.std.proofs.Common.{ℕ, ◌≡◌, ◌<◌, List, Option, Some, refl, sym, ap, subst, ◌∙◌, arith}
use Rattle.std.specs.Prelude.{IfSome, slice_index}
use Rattle.fam_base.specs.Image.{Image, IsNormal, eight, line_at}
use Rattle.fam_base.specs.declared.line.LineNo.{LineNo}
use Rattle.fam_machine.specs.declared.cell.Cell.{Cell}
use Rattle.fam_machine.specs.declared.cell.Cell.TheVariants.{Clean}
use Rattle.fam_machine.specs.declared.op.Op.{Op}
use Rattle.fam_machine.specs.declared.op.Op.TheVariants.{Load}
use Rattle.fam_machine.specs.Caches.{Cache, cell_at, with_cell}
use Rattle.fam_machine.specs.OneLine.{IsDirty, IsHeld, words_of}
use Rattle.fam_machine.specs.Operations.{IsWithin, machine, operated}
use Rattle.fam_machine.proofs.CacheLemmas.{cell_at-with_cell_same}
use Rattle.fam_cache.specs.Operations.{word_of}
use Rattle.fam_commands.specs.Task.{Task, op_of}
use Rattle.fam_commands.specs.Turns.{turn_of}
use Rattle.fam_media.specs.Outside.{IfModelled}
use Rattle.fam_tasks.specs.declared.answer.Turn.{Turn}
use Rattle.fam_tasks.specs.Rest.{ComparesLine}
use Rattle.fam_tasks.specs.Sound.{IsSound}
use Rattle.fam_tasks.specs.Tells.{Keeps, Tells}
use Rattle.fam_run.specs.Cached.{IsCached, cached_after}
use Rattle.fam_run.specs.Led.{HasDone, KeepsMemory, Led, more}
use Rattle.fam_run.proofs.Cached.{given_held, cached_leaves, loads_held, machine_after}
use Rattle.fam_run.proofs.Renewed.{led_dropped, renews, without}
use Rattle.fam_run.proofs.Running.{no_fault}
use Rattle.fam_run.proofs.Stored.{cached_led}

-- what holds of what is there
pub of_some : (o : Option (List ℕ)) (words : List ℕ) (P : List ℕ → Type 0) → o ≡ Some words → IfSome o P → P words
of_some o words P is holds = subst (λ (x : Option (List ℕ)). IfSome x P) is holds

-- Its words are read.
module _ (line : LineNo) (words : List ℕ) (t next : Task) (said : Turn) (modelled : Option Image) (old : Cache) (normal : IsNormal modelled)
    (sound : IsSound t) (compares : ComparesLine line (eight words) t next said) (clean : ¬ (IsDirty (cell_at old line.0)))
    (from : IfModelled modelled (λ image. eight words ≡ line_at image line.0)) where
  -- the copy is there
  abbrev full : Cache
  full = with_cell line.0 (Clean (eight words)) old

  full_cell : cell_at full line.0 ≡ Clean (eight words)
  full_cell = cell_at-with_cell_same line.0 (Clean (eight words)) old

  begins : KeepsMemory modelled compares.dropped (without line old) compares.begun full
  begins = renews line t compares.dropped modelled old normal sound compares.drops clean compares.dropped_sound words compares.begun compares.begins from

  there : IsHeld (cell_at full line.0)
  there = subst IsHeld {x = Clean (eight words)} (sym full_cell) refl

  led : Led modelled t old compares.due full
  led =
      cached_led modelled normal compares.begun compares.due full full t old
      (more (led_dropped line t compares.dropped modelled old normal sound compares.drops clean) begins)
      (loads_held line (eight words) compares.begun compares.due full there (sym (ap words_of full_cell)) compares.loads)

  of_held : IsCached (op_of compares.due) full
  of_held = subst (λ (o : Op). IsCached o full) (sym compares.last) there

  due_within : IsWithin compares.due.lines (op_of compares.due)
  due_within = subst (IsWithin compares.due.lines) (sym compares.last) (subst (λ (n : ℕ). line.0 < n) (sym compares.due_lines) compares.drops.within, omega arith)

  -- the word that is looked at
  last_word_is : word_of (op_of compares.due) full ≡ Some (slice_index (eight words) 7)
  last_word_is = ap (λ (o : Op). word_of o full) compares.last ∙ ap (λ (c : Cell). Some (slice_index (words_of c) 7)) full_cell

  after_last : (image : Image) → modelled ≡ Some image → operated (op_of compares.due) (machine image full) ≡ machine image full
  after_last image modelled_is = ap (λ (o : Op). operated o (machine image full)) compares.last ∙ machine_after (Load line 7) image full (subst IsNormal modelled_is normal) there

  pub line_matched : (size before now : ℕ) (new : Cache) (shown : Option Image) → shown ≡ modelled → new ≡ full
      → HasDone (record {
        task = t;
        next = next;
        old = old;
        new = new;
        lines = size;
        media =
            record { old = record { image = modelled; faults = before }; new = record { image = shown; faults = now } };
      }) said
  line_matched size before now new shown same copy = record {
    task = compares.due;
    held = full;
    led = led;
    sound = compares.due_sound;
    within = due_within;
    leaves = cached_leaves (op_of compares.due) modelled full new of_held
        (copy ∙ sym (subst (λ (o : Op). cached_after o full ≡ full) (sym compares.last) refl));
    goes = subst (λ (c : Cache). Tells (turn_of compares.due (word_of (op_of compares.due) c)) said next) (sym copy)
        (subst (λ (w : Option ℕ). Tells (turn_of compares.due w) said next) (sym last_word_is) compares.tells);
    kept = subst (λ (c : Cache). Keeps compares.due (turn_of compares.due (word_of (op_of compares.due) c)) next) (sym copy)
        (subst (λ (w : Option ℕ). Keeps compares.due (turn_of compares.due w) next) (sym last_word_is) compares.keeps);
    turned = λ image is. record {
      is = record {
        image = same ∙ is ∙ sym (ap (λ m. Some m.image) (after_last image is));
        cache = copy ∙ sym (ap (λ m. m.cache) (after_last image is));
      };
      tells = subst (λ (w : Option ℕ). Tells (turn_of compares.due w) said next) (sym (given_held (op_of compares.due) image full of_held ∙ last_word_is)) compares.tells;
    };
    own = no_fault (turn_of compares.due (Some (slice_index (eight words) 7))) said next compares.tells;
  }
