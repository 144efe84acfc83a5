-- Lines of the new file that are stored and sent one behind another, by one write.
use Rattle.std.proofs.Common.{ℕ, zero, suc, ◌≡◌, ◌<◌, ◌≤◌, ◌+◌, false, List, Option, Some, None, unwrap_or, refl, sym, ap, subst, ◌∙◌, arith, inl, inr}
use Rattle.std.specs.Option.{option_map}
use Rattle.std.proofs.lemmas.Bool.{cases_eq}
use Rattle.fam_base.specs.Image.{Image, IsNormal, eight, with_line}
use Rattle.fam_base.proofs.ImageLemmas.{normal-with_line}
use Rattle.fam_machine.specs.declared.cell.Cell.TheVariants.{Absent, Dirty}
use Rattle.fam_machine.specs.Caches.{Cache, cell_at, with_cell}
use Rattle.fam_machine.specs.Operations.{line_no}
use Rattle.fam_cache.specs.States.{CacheState}
use Rattle.fam_commands.specs.Task.{Task}
use Rattle.fam_commands.specs.Turns as turns
use Rattle.fam_commands.specs.Turns.{Goes, turn_of}
use Rattle.fam_commands.proofs.TurnTells as told
use Rattle.fam_commands.proofs.TurnTells.{turn_tells}
use Rattle.fam_media.specs.Causes.{Rose}
use Rattle.fam_media.specs.Runs.{IsRunTorn, line_in, run_written, with_run}
use Rattle.fam_tasks.specs.declared.answer.Turn.TheVariants.{Go}
use Rattle.fam_base.specs.declared.line.LineNo.{LineNo}
use Rattle.fam_tasks.specs.Rest as rest
use Rattle.fam_tasks.specs.Rest.{Stores}
use Rattle.fam_tasks.specs.Sound.{IsSound}
use Rattle.fam_tasks.specs.StoreRuns.{StoresNext, StoresRun}
use Rattle.fam_tasks.specs.StoreRuns as row
use Rattle.fam_tasks.specs.Tells.{Tells}
use Rattle.fam_run.specs.Led.{HasDone}
use Rattle.fam_run.specs.Places.{KeepsPlaces}
use Rattle.fam_run.specs.Runs.{HasRun, HasRunOff, Sent}
use Rattle.fam_run.specs.Runs as run
use Rattle.fam_run.specs.TaskChange.{TaskChange}
use Rattle.fam_run.proofs.PlacesKept.{put_kept}
use Rattle.fam_run.proofs.Stored.{line_sent, line_torn}

-- a change, by its parts
abbrev pub around : Task → Task → Cache → Cache → Option Image → Option Image → (size before now : ℕ) → TaskChange
around task next old new modelled shown size before now = record {
  task = task;
  next = next;
  old = old;
  new = new;
  lines = size;
  media = record { old = record { image = modelled; faults = before }; new = record { image = shown; faults = now } };
}

-- What the host keeps, behind the first lines of a run.

goes_kept : (t next : Task) (word : Option ℕ) → turn_of t word ≡ Goes next → next.kept ≡ t.kept
goes_kept t next word is = subst (told.Tells t t.phase) is (turn_tells t.phase t (unwrap_or word 0))

stores_kept : (line : LineNo) (words : List ℕ) (t next : Task) (n : ℕ) → Stores line words t next n → next.kept ≡ t.kept
stores_kept line words t _ _ rest.begins = refl
stores_kept line words t next _ (rest.stores {mid = mid} {n = n} before sound op within turn) = goes_kept mid next None turn ∙ stores_kept line words t mid n before

sending_kept : (first : ℕ) (lines : List (List ℕ)) (k : ℕ) (t sending : Task) → StoresNext first lines k t sending → sending.kept ≡ t.kept
sending_kept first lines k t sending s =
    stores_kept (line_no (first + k)) (line_in lines k) s.stores.begun sending 7 s.stores.rest ∙ goes_kept t s.stores.begun None s.stores.turn

told_kept : (t next : Task) (turn : turns.Turn) → told.Tells t t.phase turn → Tells turn Go next → next.kept ≡ t.kept
told_kept t next (turns.Goes on) keeps goes = ap (λ (u : Task). u.kept) goes.1 ∙ keeps
told_kept t next (turns.Marks on) keeps goes = absurd (let is = goes.0 in cc)
told_kept t next (turns.Finds n on) keeps goes = absurd (let is = goes.0 in cc)
told_kept t next (turns.Writes seq e on) keeps goes = absurd (let is = goes.0 in cc)
told_kept t next (turns.Ends reply) keeps goes = absurd goes

pub chain_kept : (first : ℕ) (lines : List (List ℕ)) (t next : Task) (n : ℕ) → StoresRun first lines t next n → next.kept ≡ t.kept
chain_kept first lines t _ _ row.none = refl
chain_kept first lines t next _ (row.more {mid = mid} {sending = sending} {n = n} before s tells) =
    told_kept sending next (turn_of sending None) (turn_tells sending.phase sending 0) tells ∙ sending_kept first lines n mid sending s ∙ chain_kept first lines t mid n before

-- Memory behind the first lines of a run.

none_written : (first : ℕ) (lines : List (List ℕ)) (modelled : Option Image) → run_written first lines 0 modelled ≡ modelled
none_written first lines None = refl
none_written first lines (Some image) = refl

one_more : (first : ℕ) (lines : List (List ℕ)) (k : ℕ) (modelled : Option Image)
    → run_written first lines (suc k) modelled ≡ option_map (with_line (first + k) (line_in lines k)) (run_written first lines k modelled)
one_more first lines k None = refl
one_more first lines k (Some image) = refl

normal_run : (first : ℕ) (lines : List (List ℕ)) (k : ℕ) (image : Image) → IsNormal (Some image) → IsNormal (Some (with_run first lines k image))
normal_run first lines zero image normal = normal
normal_run first lines (suc k) image normal = normal-with_line (with_run first lines k image) (normal_run first lines k image normal) (first + k) (line_in lines k)

normal_written : (first : ℕ) (lines : List (List ℕ)) (k : ℕ) (modelled : Option Image) → IsNormal modelled → IsNormal (run_written first lines k modelled)
normal_written first lines k None normal = tt
normal_written first lines k (Some image) normal = normal_run first lines k image normal

unknown_written : (words : List ℕ) (line : ℕ) (modelled : Option Image) → modelled ≡ None → option_map (with_line line words) modelled ≡ None
unknown_written words line modelled is = ap (option_map (with_line line words)) is

module _ (first : ℕ) (lines : List (List ℕ)) (modelled : Option Image) (old : Cache) (normal : IsNormal modelled) where
  abbrev absent_up_to : ℕ → Type 0
  absent_up_to n = (k : ℕ) → k < n → cell_at old (first + k) ≡ Absent

  -- one line of the run
  one_sent : (k : ℕ) (mid sending next : Task) → cell_at old (first + k) ≡ Absent → StoresNext first lines k mid sending
      → Tells (turn_of sending None) Go next → (size before now : ℕ) (new : Cache) (shown : Option Image) → new ≡ old
      → shown ≡ run_written first lines (suc k) modelled
      → HasDone (around mid next old new (run_written first lines k modelled) shown size before now) Go
  one_sent k mid sending next absent s tells size before now new shown same written =
      line_sent (line_no (first + k)) (line_in lines k) mid sending (run_written first lines k modelled) old (normal_written first lines k modelled normal) s.stores absent s.sound s.sending_sound
      size before now next new shown same (written ∙ one_more first lines k modelled) tells

  -- all lines of a run
  pub run_sent : (t next : Task) (n : ℕ) → StoresRun first lines t next n → IsSound next → absent_up_to n → Sent modelled t old (run_written first lines n modelled) next old
  run_sent t _ _ row.none sound absent = subst (λ (m : Option Image). Sent modelled t old m t old) (sym (none_written first lines modelled)) run.none
  run_sent t next _ (row.more {mid = mid} {sending = sending} {n = n} before s tells) sound absent =
      run.more (run_sent t mid n before s.sound (λ k below. absent k (omega (arith, below))))
      (record {
        number = s.due.j;
        at = s.due.phase;
        done = λ size faults. one_sent n mid sending next (absent n (omega arith)) s tells size faults faults old (run_written first lines (suc n) modelled) refl refl;
        sound = sound;
        unknown = λ is. one_more first lines n modelled ∙ unknown_written (line_in lines n) (first + n) (run_written first lines n modelled) is;
      })

  -- the last line of a run was sent, and those before it
  pub run_done : (t next : Task) (n : ℕ) → 0 < n → StoresRun first lines t next n → absent_up_to n
      → (size before now : ℕ) (new : Cache) (shown : Option Image) → new ≡ old → shown ≡ run_written first lines n modelled
      → HasRun (around t next old new modelled shown size before now) Go
  run_done t _ _ some row.none absent size before now new shown same written = absurd (omega (arith, some))
  run_done t next _ some (row.more {mid = mid} {sending = sending} {n = n} earlier s tells) absent size before now new shown same written = record {
    mid = run_written first lines n modelled;
    task = mid;
    held = old;
    sent = run_sent t mid n earlier s.sound (λ k below. absent k (omega (arith, below)));
    done = one_sent n mid sending next (absent n (omega arith)) s tells size before now new shown same written;
  }

-- where the media failed in line k of a run, those before it are a run, and its own words were stored
pub record BeginsLine (first : ℕ) (lines : List (List ℕ)) (t : Task) (k : ℕ) : Type 0 where
  pub mid : Task
  pub sending : Task
  pub earlier : StoresRun first lines t mid k
  pub next : StoresNext first lines k mid sending

pub begins_line : (first : ℕ) (lines : List (List ℕ)) (t next : Task) (n k : ℕ) → StoresRun first lines t next n → k < n → BeginsLine first lines t k
begins_line first lines t _ _ k row.none below = absurd (omega (arith, below))
begins_line first lines t next _ k (row.more {mid = mid} {sending = sending} {n = n} before s tells) below =
    elim (cases_eq k n) [
      | inl e ↦ subst (λ (z : ℕ). BeginsLine first lines t z) (sym e) (record { mid = mid; sending = sending; earlier = before; next = s })
      | inr other ↦ begins_line first lines t mid n k before (omega (arith, below, other))
    ]

module _ (first : ℕ) (lines : List (List ℕ)) (modelled : Option Image) (old : Cache) (normal : IsNormal modelled) where
  pub run_torn : (t next : Task) (n k : ℕ) → StoresRun first lines t next n → k < n → ((j : ℕ) → j < n → cell_at old (first + j) ≡ Absent)
      → (size before now : ℕ) (after : Task) (new : Cache) (shown : Option Image) → after.kept ≡ t.kept
      → new ≡ with_cell (first + k) (Dirty false (eight (line_in lines k))) old → IsRunTorn modelled shown first lines k → Rose before now
      → first + k < size → HasRunOff (around t after old new modelled shown size before now) (line_no (first + k))
  run_torn t next n k chain below absent size before now after new shown keeps same torn rose inside =
      let b = begins_line first lines t next n k chain below in
      record {
        mid = run_written first lines k modelled;
        task = b.mid;
        held = old;
        sent = run_sent first lines modelled old normal t b.mid k b.earlier b.next.sound (λ j under. absent j (omega (arith, under, below)));
        broken = line_torn (line_no (first + k)) (line_in lines k) b.mid b.sending (run_written first lines k modelled) old
            (normal_written first lines k modelled normal) b.next.stores (absent k below) b.next.sound b.next.sending_sound
            size before now after new shown (keeps ∙ sym (sending_kept first lines k b.mid b.sending b.next ∙ chain_kept first lines t b.mid k b.earlier)) same torn rose inside;
      }

-- a run keeps the places of an append
run_kept_here : (first : ℕ) (lines : List (List ℕ)) (t next : Task) (n : ℕ) (cache : CacheState) → StoresRun first lines t next n → KeepsPlaces t cache next cache
run_kept_here first lines t _ _ cache row.none = λ has. has
run_kept_here first lines t next _ cache (row.more {mid = mid} {sending = sending} {n = n} before s tells) = λ has.
    put_kept (line_no (first + n)) (line_in lines n) mid cache s.due sending next cache s.sound s.sending_sound s.stores (omega arith) tells (run_kept_here first lines t mid n cache before has)

pub run_kept : (first : ℕ) (lines : List (List ℕ)) (t next : Task) (n : ℕ) (cache after : CacheState) → 0 < n → StoresRun first lines t next n
    → cache.spare ≤ after.spare → KeepsPlaces t cache next after
run_kept first lines t _ _ cache after some row.none le = absurd (omega (arith, some))
run_kept first lines t next _ cache after some (row.more {mid = mid} {sending = sending} {n = n} before s tells) le = λ has.
    put_kept (line_no (first + n)) (line_in lines n) mid cache s.due sending next after s.sound s.sending_sound s.stores le tells (run_kept_here first lines t mid n cache before has)
