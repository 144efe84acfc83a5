-- A line of the new file is stored whole and sent: nine operations, by one write.
use Rattle.std.proofs.Common.{ℕ, ◌≡◌, ◌<◌, List, [], length, Option, Some, None, false, refl, sym, ap, subst, ◌∙◌, arith}
use Rattle.std.specs.Prelude.{⊤, slice_index, slice_set}
use Rattle.std.specs.Option.{option_map}
use Rattle.fam_base.specs.Image.{Image, IsNormal, eight, line_at, with_line}
use Rattle.fam_base.specs.declared.line.LineNo.{LineNo}
use Rattle.fam_machine.specs.declared.cell.Cell.{Cell}
use Rattle.fam_machine.specs.declared.cell.Cell.TheVariants.{Absent, Dirty}
use Rattle.fam_machine.specs.declared.op.Op.{Op}
use Rattle.fam_machine.specs.declared.op.Op.TheVariants.{Invalidate}
use Rattle.fam_machine.specs.Caches.{Cache, cell_at, cell_changed, with_cell}
use Rattle.fam_machine.specs.OneLine.{IsHeld, failed_send, sent, stored, words_of}
use Rattle.fam_machine.specs.Operations.{IsWithin, given, machine, operated}
use Rattle.fam_machine.proofs.CacheLemmas.{cell_at-with_cell_same, with_cell_own, with_cell_twice}
use Rattle.fam_cache.specs.Effects.{FailsTo, FromMemory}
use Rattle.fam_cache.specs.Operations.{LeavesCache, LeavesFailed, rest_stored, word_of}
use Rattle.fam_cache.proofs.MemoryLemmas.{from_any, torn_send}
use Rattle.fam_cache.proofs.Performed.{invalidate_failed}
use Rattle.fam_commands.specs.Task.{Task, op_of}
use Rattle.fam_commands.specs.Turns.{turn_of}
use Rattle.fam_media.specs.Causes.{Rose}
use Rattle.fam_media.specs.Outside.{IfModelled, IsTorn}
use Rattle.fam_tasks.specs.declared.answer.Turn.TheVariants.{Go}
use Rattle.fam_tasks.specs.Rest.{StoresFileLine}
use Rattle.fam_tasks.specs.Sound.{IsSound}
use Rattle.fam_tasks.specs.Tells.{Tells}
use Rattle.fam_run.specs.Cached.{CachedRun}
use Rattle.fam_run.specs.Cached as held
use Rattle.fam_tasks.proofs.Keeping.{go_keeps}
use Rattle.fam_run.specs.Led.{HasBrokenOff, HasDone, KeepsMemory, Led, none, more}
use Rattle.fam_run.specs.TaskChange.{TaskChange}
use Rattle.fam_run.proofs.Cached.{cached_goes, cached_leaves, cached_turned, stores_held, tells_go}

-- operations on a line that is held leave memory
pub cached_led : (modelled : Option Image) → IsNormal modelled → (t next : Task) (now after : Cache) (u : Task) (before : Cache) {n : ℕ}
    → Led modelled u before t now → CachedRun t now next after n → Led modelled u before next after
cached_led modelled normal t _ now _ u before led held.none = led
cached_led modelled normal t next now after u before led (held.more {mid = mid} {now = mid_held} run sound within of is turn) =
    more (cached_led modelled normal t mid now mid_held u before led run) (record {
      sound = sound;
      within = within;
      leaves = cached_leaves (op_of mid) modelled mid_held after of is;
      goes = cached_goes mid next mid_held after of is turn;
      turned = cached_turned mid next mid_held after of is turn modelled normal;
    })

-- a line has its own words, once they were stored into it one by one
words_stored : (words memory : List ℕ) → rest_stored words (slice_set (eight memory) 0 (slice_index words 0)) ≡ eight words
words_stored words memory = refl

module _ (line : LineNo) (words : List ℕ) (t u : Task) (modelled : Option Image) (old : Cache) (normal : IsNormal modelled)
    (stores : StoresFileLine line words t u) (absent : cell_at old line.0 ≡ Absent) (sound : IsSound t) where
  -- memory's words, as far as it is modelled
  from : FromMemory modelled line.0 (λ memory. ⊤)
  from = from_any modelled line.0 (λ memory. ⊤) (λ memory. tt)

  first : Cache
  first = cell_changed line.0 (stored 0 (slice_index words 0) from.memory) old

  -- the copy is there, all of it
  abbrev full : Cache
  full = with_cell line.0 (Dirty false (eight words)) old

  -- the first word is stored
  begins : KeepsMemory modelled t old stores.begun first
  unfolding first
  begins =
      let op = stores.op in
      record {
        sound = sound;
        within = subst (IsWithin t.lines) (sym op) (stores.within, omega arith);
        leaves = subst (λ (o : Op). LeavesCache o modelled old first) (sym op) (record { memory = from.memory; whole = from.whole; modelled_is = from.modelled_is; is = refl });
        goes = tells_go (turn_of t (word_of (op_of t) first)) stores.begun (ap (λ (o : Op). turn_of t (word_of o first)) op ∙ stores.turn);
        turned = λ image is. record {
          is = record {
            image = is ∙ sym (ap (λ (o : Op). Some (operated o (machine image old)).image) op);
            cache =
                ap (λ (memory : List ℕ). cell_changed line.0 (stored 0 (slice_index words 0) memory) old) (from.modelled_is image is)
                ∙ sym (ap (λ (o : Op). (operated o (machine image old)).cache) op);
          };
          tells = tells_go (turn_of t (given (op_of t) (machine image old))) stores.begun (ap (λ (o : Op). turn_of t (given o (machine image old))) op ∙ stores.turn);
        };
      }

  first_cell : cell_at first line.0 ≡ Dirty false (slice_set (eight from.memory) 0 (slice_index words 0))
  unfolding first
  first_cell =
      cell_at-with_cell_same line.0 (stored 0 (slice_index words 0) from.memory (cell_at old line.0)) old
      ∙ ap (stored 0 (slice_index words 0) from.memory) absent
      ∙ ap (λ (w : List ℕ). Dirty false (slice_set w 0 (slice_index words 0))) (sym from.whole)

  -- and the others
  full_is : full ≡ with_cell line.0 (Dirty false (rest_stored words (words_of (cell_at first line.0)))) first
  unfolding first
  full_is =
      sym
      (ap (λ (c : Cell). with_cell line.0 (Dirty false (rest_stored words (words_of c))) first) first_cell
      ∙ ap (λ (w : List ℕ). with_cell line.0 (Dirty false w) first) (words_stored words from.memory)
      ∙ with_cell_twice line.0 (stored 0 (slice_index words 0) from.memory (cell_at old line.0)) (Dirty false (eight words)) old)

  led : Led modelled t old u full
  led =
      cached_led modelled normal stores.begun u first full t old (more none begins)
      (stores_held line words stores.begun u first full
      (subst IsHeld {x = Dirty false (slice_set (eight from.memory) 0 (slice_index words 0))} (sym first_cell) refl)
      (ap (λ (c : Cell). length (words_of c)) first_cell)
      full_is stores.rest)

  -- the copy that is sent
  full_cell : cell_at full line.0 ≡ Dirty false (eight words)
  full_cell = cell_at-with_cell_same line.0 (Dirty false (eight words)) old

  -- behind its sending no copy is left, as before
  none_left : (image : Image) → (operated (Invalidate line) (machine image full)).cache ≡ old
  none_left image =
      with_cell_twice line.0 (Dirty false (eight words)) Absent old
      ∙ ap (λ (c : Cell). with_cell line.0 c old) (sym absent)
      ∙ with_cell_own line.0 old

  sent_image : (image : Image) → (operated (Invalidate line) (machine image full)).image ≡ with_line line.0 words image
  sent_image image = ap (λ (c : Cell). with_line line.0 (sent (line_at image line.0) c) image) full_cell

  u_within : IsWithin u.lines (op_of u)
  u_within = subst (IsWithin u.lines) (sym stores.sends) (subst (λ (n : ℕ). line.0 < n) (sym stores.lines) stores.within)

  module _ (u_sound : IsSound u) (size before now : ℕ) (after : Task) (new : Cache) (shown : Option Image) where
    abbrev around : TaskChange
    around = record { task = t; next = after; old = old; new = new; lines = size; media = record { old = record { image = modelled; faults = before }; new = record { image = shown; faults = now } } }

    -- the line was sent
    pub line_sent : new ≡ old → shown ≡ option_map (with_line line.0 words) modelled → Tells (turn_of u None) Go after → HasDone around Go
    line_sent same written tells =
        let sends = stores.sends in
        record {
          task = u;
          held = full;
          led = led;
          sound = u_sound;
          within = u_within;
          leaves = subst (λ (o : Op). LeavesCache o modelled full new) (sym sends) (same ∙ sym (none_left []));
          goes = subst (λ (o : Op). Tells (turn_of u (word_of o new)) Go after) (sym sends) tells;
          kept = go_keeps u after (word_of (op_of u) new) (subst (λ (o : Op). Tells (turn_of u (word_of o new)) Go after) (sym sends) tells);
          turned = λ image is. record {
            is = record {
              image =
                  written ∙ ap (option_map (with_line line.0 words)) is
                  ∙ sym (ap (λ (o : Op). Some (operated o (machine image full)).image) sends ∙ ap (λ (i : Image). Some i) (sent_image image));
              cache = same ∙ sym (ap (λ (o : Op). (operated o (machine image full)).cache) sends ∙ none_left image);
            };
            tells = subst (λ (o : Op). Tells (turn_of u (given o (machine image full))) Go after) (sym sends) tells;
          };
          own = λ l is. absurd cc;
        }

    -- the media failed in it
    pub line_torn : after.kept ≡ u.kept → new ≡ full → IsTorn modelled shown line.0 words → Rose before now → line.0 < size → HasBrokenOff around line
    line_torn keeps same torn rose inside = record {
      task = u;
      held = full;
      led = led;
      sound = u_sound;
      within = u_within;
      kept = keeps;
      copies = subst (λ (o : Op). LeavesFailed o full new) (sym stores.sends) same;
      failed =
          invalidate_failed (op_of u) line modelled shown full new stores.sends
          (subst (λ (c : Cell). IfModelled modelled (λ image. FailsTo line.0 (λ through memory. failed_send through memory c) image shown)) (sym full_cell)
          (torn_send modelled shown line.0 words (Dirty false words) refl torn))
          same;
      rose = rose;
      inside = inside;
    }
