-- A cache's move, as its calls have it, is the machine's.
use Rattle.std.proofs.Common.{◌≡◌, ◌⊎◌, ℕ, inl, inr, List, Option, Some, Result, Ok, Err, refl, ap, sym, ◌∙◌, subst, arith}
use Rattle.std.specs.Prelude.{OnErr, OnOk, IsErrOf, IsOk, is_err, option_map}
use Rattle.std.proofs.lemmas.Bool.{cases_eq}
use Rattle.fam_base.specs.declared.line.Mask.{Mask}
use Rattle.fam_base.specs.Image.{Image, IsNormal, line_at, with_line}
use Rattle.fam_base.proofs.ImageLemmas.{with_line-line_at}
use Rattle.fam_machine.specs.declared.cell.Cell.{Cell}
use Rattle.fam_machine.specs.declared.cell.Cell.TheVariants.{Absent, Clean, Dirty}
use Rattle.fam_machine.specs.Caches.{Cache, cell_at, cell_changed, line_changed, with_cell}
use Rattle.fam_machine.specs.Cuts.{IsMachine}
use Rattle.fam_machine.specs.HostMoves.{failed_fetch, failed_move, moved}
use Rattle.fam_machine.specs.OneLine.{IsDirty, IsHeld, fetched, leaked}
use Rattle.fam_machine.specs.Operations.{machine}
use Rattle.fam_machine.proofs.CacheLemmas.{cell_at-with_cell_other, with_cell_own}
use Rattle.fam_media.specs.declared.media.Failed.{Failed}
use Rattle.fam_media.specs.Outside.{IfModelled}
use Rattle.fam_media.specs.Plans.{count_if}
use Rattle.fam_cache.specs.declared.fault.CacheFault.{CacheFault}
use Rattle.fam_cache.specs.declared.fault.CacheFault.TheVariants as cache_fault
use Rattle.fam_cache.specs.Effects.{FailsTo, FromMemory}
use Rattle.fam_cache.specs.Faults.{is_failed}
use Rattle.fam_cache.specs.declared.own_moves.OwnMove.{OwnMove}
use Rattle.fam_cache.specs.declared.own_moves.OwnMove.TheVariants as own
use Rattle.fam_cache.specs.OwnMoves.{send_fault, move_of}

abbrev Sent : Type 0
Sent = Result (Unit {0}) Failed

abbrev Fetched : Type 0
Fetched = Result (Unit {0}) CacheFault

-- a send that failed
pub failed_sent : (r : Sent) (P : Type 0) → OnErr r P → IsErrOf (send_fault r) cache_fault.Failed → P
failed_sent (Ok x) P p is = absurd cc
failed_sent (Err e) P p is = p

-- what a send counts, its call does
pub sent_counted : (r : Sent) (told : Fetched) (old now : ℕ) → told ≡ send_fault r → now ≡ count_if (is_err r) old → now ≡ count_if (is_failed told) old
sent_counted (Ok x) told old now is counted = counted ∙ ap (λ (t : Fetched). count_if (is_failed t) old) (sym is)
sent_counted (Err e) told old now is counted = counted ∙ ap (λ (t : Fetched). count_if (is_failed t) old) (sym is)

-- another line is as before
other_held : (line : ℕ) (cell : Cell) (old new : Cache) → new ≡ with_cell line cell old → (l : ℕ) → IsHeld (cell_at new l) → (l ≡ line) ⊎ IsHeld (cell_at old l)
other_held line cell old new is l held =
    elim (cases_eq l line) [
      | inl e ↦ inl e
      | inr ne ↦ inr (subst IsHeld (ap (λ (k : Cache). cell_at k l) is ∙ cell_at-with_cell_other line cell old l ne) held)
    ]

-- a cache that evicts a line holds no other one
pub evict_held : (r : Sent) (line : ℕ) (old new : Cache) → OnOk r (new ≡ with_cell line Absent old) → OnErr r (new ≡ old) → (l : ℕ) → IsHeld (cell_at new l) → (l ≡ line) ⊎ IsHeld (cell_at old l)
evict_held (Ok x) line old new done err l held = other_held line Absent old new done l held
evict_held (Err e) line old new done err l held = inr (subst (λ (k : Cache). IsHeld (cell_at k l)) err held)

leak_moved : (r : Sent) (what : OwnMove) (mask : Mask) (line : ℕ) (old new : Cache) (told now : Option Image) → what ≡ own.Leak mask → new ≡ old
    → OnOk r (now ≡ option_map (line_changed line (λ memory. leaked mask.0 memory (cell_at old line))) told)
    → OnOk (send_fault r) (IfModelled told (λ image. IsMachine (moved (move_of what) line (machine image old)) now new))
leak_moved (Err e) what mask line old new told now is same memory = tt
leak_moved (Ok x) what mask line old new told now is same memory = λ image told_is.
    subst (λ (w : OwnMove). IsMachine (moved (move_of w) line (machine image old)) now new) (sym is)
    record { image = memory ∙ ap (option_map (line_changed line (λ m. leaked mask.0 m (cell_at old line)))) told_is; cache = same ∙ sym (with_cell_own line old) }

-- a leak that is done is the machine's move
pub leak_done : (r : Sent) (s : Fetched) (what : OwnMove) (mask : Mask) (line : ℕ) (old new : Cache) (told now : Option Image) → s ≡ send_fault r → what ≡ own.Leak mask → new ≡ old
    → OnOk r (now ≡ option_map (line_changed line (λ memory. leaked mask.0 memory (cell_at old line))) told)
    → OnOk s (IfModelled told (λ image. IsMachine (moved (move_of what) line (machine image old)) now new))
leak_done r s what mask line old new told now e is same memory =
    subst (λ (z : Fetched). OnOk z (IfModelled told (λ image. IsMachine (moved (move_of what) line (machine image old)) now new))) (sym e)
    (leak_moved r what mask line old new told now is same memory)

-- Fetches.

-- an image stays where a line is written as it stands
pub written_own : (image : Image) (line : ℕ) (told now : Option Image) → IsNormal told → now ≡ told → told ≡ Some image → now ≡ Some (with_line line (line_at image line) image)
written_own image line told now normal same is = same ∙ is ∙ ap Some (sym (with_line-line_at image (subst IsNormal is normal) line))

-- so is a fetch
pub fetch_moved : (r : Fetched) (what : OwnMove) (mask : Mask) (line : ℕ) (old new : Cache) (told now : Option Image) → what ≡ own.Fetch mask → IsNormal told → now ≡ told
    → OnOk r (FromMemory told line (λ memory. new ≡ cell_changed line (fetched mask.0 memory) old))
    → OnOk r (IfModelled told (λ image. IsMachine (moved (move_of what) line (machine image old)) now new))
fetch_moved (Err e) what mask line old new told now is normal same from = tt
fetch_moved (Ok x) what mask line old new told now is normal same from = λ image told_is.
    subst (λ (w : OwnMove). IsMachine (moved (move_of w) line (machine image old)) now new) (sym is)
    record {
      image = written_own image line told now normal same told_is;
      cache = from.is ∙ ap (λ m. with_cell line (fetched mask.0 m (cell_at old line)) old) (from.modelled_is image told_is);
    }

-- a cache that fetches a line holds no other one
pub fetch_held : (r : Fetched) (mask line : ℕ) (old new : Cache) (told : Option Image) → OnOk r (FromMemory told line (λ memory. new ≡ cell_changed line (fetched mask memory) old))
    → OnErr r (new ≡ old) → (l : ℕ) → IsHeld (cell_at new l) → (l ≡ line) ⊎ IsHeld (cell_at old l)
fetch_held (Ok x) mask line old new told from err l held = other_held line (fetched mask from.memory (cell_at old line)) old new from.is l held
fetch_held (Err e) mask line old new told from err l held = inr (subst (λ (k : Cache). IsHeld (cell_at k l)) err held)

not_dirty : (memory : List ℕ) (cell : Cell) → (IsDirty cell → ⊥) → failed_fetch memory cell ≡ Some memory
not_dirty memory Absent never = refl
not_dirty memory (Clean words) never = refl
not_dirty memory (Dirty a words) never = absurd (never refl)

-- a fetch in which the media failed is the machine's
pub fetch_failed : (r : Fetched) (what : OwnMove) (mask : Mask) (line : ℕ) (old : Cache) (told now : Option Image) → what ≡ own.Fetch mask → IsNormal told → now ≡ told
    → (IsDirty (cell_at old line) → IsOk r) → IsErrOf r cache_fault.Failed
    → IfModelled told (λ image. FailsTo line (λ through memory. failed_move (move_of what) through memory (cell_at old line)) image now)
fetch_failed (Ok x) what mask line old told now is normal same ok err image told_is = absurd cc
fetch_failed (Err e) what mask line old told now is normal same ok err image told_is =
    subst (λ (w : OwnMove). FailsTo line (λ through memory. failed_move (move_of w) through memory (cell_at old line)) image now) (sym is)
    record {
      through = 0;
      fits = omega arith;
      words = line_at image line;
      left = not_dirty (line_at image line) (cell_at old line) (λ dirty. absurd (let bad = ok dirty in cc));
      written
          = written_own image line told now normal same told_is;
    }
