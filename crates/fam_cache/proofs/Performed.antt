-- One operation on a cache, as the machine says it.
use Rattle.std.proofs.Common.{◌≡◌, ◌≢◌, ℕ, inl, inr, List, [], ◌∷◌, Option, Some, take, refl, sym, ap, subst, ◌∙◌, arith}
use Rattle.std.specs.Prelude.{option_map, slice_index}
use Rattle.std.proofs.lemmas.Bool.{cases_eq}
use Rattle.fam_base.specs.declared.line.LineNo.{LineNo}
use Rattle.fam_base.specs.Image.{Image, line_at}
use Rattle.fam_machine.specs.declared.cell.Cell.{Cell}
use Rattle.fam_machine.specs.declared.cell.Cell.TheVariants.{Absent, Clean, Dirty}
use Rattle.fam_machine.specs.declared.op.Op.{Op}
use Rattle.fam_machine.specs.declared.op.Op.TheVariants.{Load, Store, WriteBack, Fence, Invalidate, Digest}
use Rattle.fam_machine.specs.Caches.{Cache, asked_lines, cell_at, cell_changed, line_changed, with_cell}
use Rattle.fam_machine.specs.Cuts.{HasFailed, IsMachine}
use Rattle.fam_machine.specs.OneLine.{IsHeld, asked_for, brought, cleaned, current, failed_send, sent, stored, words_of}
use Rattle.fam_machine.specs.Operations.{Breaking, Machine, failed, given, line_no, machine, not_brought, not_sent, op_line, operated, torn_at}
use Rattle.fam_cache.specs.Operations.{IsOneLine, LeavesCache, LeavesFailed, SendsWithin, cleaned_lines}
use Rattle.fam_machine.proofs.CacheLemmas.{cell_at-with_cell_same, cell_at-with_cell_other, with_cell_own}
use Rattle.fam_media.specs.Outside.{IfModelled}
use Rattle.fam_cache.specs.Effects.{FailsTo, FromMemory}
use Rattle.fam_cache.proofs.MemoryLemmas.{held_still}
use Rattle.fam_cache.proofs.StoreLemmas.{brought_words}

-- What is left of image and cache where the media doesn't fail.

done : (op did : Op) (image : Image) (now : Option Image) (old new : Cache) → op ≡ did → IsMachine (operated did (machine image old)) now new → IsMachine (operated op (machine image old)) now new
done op did image now old new is left = subst (λ (o : Op). IsMachine (operated o (machine image old)) now new) (sym is) left

pub load_operated : (op : Op) (line : LineNo) (k : ℕ) (modelled now : Option Image) (old new : Cache) → op ≡ Load line k → now ≡ modelled
    → FromMemory modelled line.0 (λ memory. new ≡ cell_changed line.0 (brought memory) old)
    → IfModelled modelled (λ image. IsMachine (operated op (machine image old)) now new)
load_operated op line k modelled now old new is same from image modelled_is =
    done op (Load line k) image now old new is (record {
      image = same ∙ modelled_is;
      cache = from.is ∙ ap (λ (memory : List ℕ). cell_changed line.0 (brought memory) old) (from.modelled_is image modelled_is);
    })

pub store_operated : (op : Op) (line : LineNo) (k value : ℕ) (modelled now : Option Image) (old new : Cache) → op ≡ Store line k value
    → now ≡ modelled → FromMemory modelled line.0 (λ memory. new ≡ cell_changed line.0 (stored k value memory) old)
    → IfModelled modelled (λ image. IsMachine (operated op (machine image old)) now new)
store_operated op line k value modelled now old new is same from image modelled_is =
    done op (Store line k value) image now old new is (record {
      image = same ∙ modelled_is;
      cache = from.is ∙ ap (λ (memory : List ℕ). cell_changed line.0 (stored k value memory) old) (from.modelled_is image modelled_is);
    })

pub write_back_operated : (op : Op) (line : LineNo) (modelled : Option Image) (old new : Cache) → op ≡ WriteBack line
    → new ≡ cell_changed line.0 asked_for old → IfModelled modelled (λ image. IsMachine (operated op (machine image old)) modelled new)
write_back_operated op line modelled old new is asked image modelled_is =
    done op (WriteBack line) image modelled old new is (record { image = modelled_is; cache = asked })

pub fence_operated : (op : Op) (modelled now : Option Image) (old new : Cache) → op ≡ Fence
    → IfModelled modelled (λ image. IsMachine (operated Fence (machine image old)) now new)
    → IfModelled modelled (λ image. IsMachine (operated op (machine image old)) now new)
fence_operated op modelled now old new is left image modelled_is = done op Fence image now old new is (left image modelled_is)

pub invalidate_operated : (op : Op) (line : LineNo) (modelled now : Option Image) (old new : Cache) → op ≡ Invalidate line
    → now ≡ option_map (line_changed line.0 (λ memory. sent memory (cell_at old line.0))) modelled → new ≡ with_cell line.0 Absent old
    → IfModelled modelled (λ image. IsMachine (operated op (machine image old)) now new)
invalidate_operated op line modelled now old new is written dropped image modelled_is =
    done op (Invalidate line) image now old new is (record {
      image = written ∙ ap (option_map (line_changed line.0 (λ memory. sent memory (cell_at old line.0)))) modelled_is;
      cache = dropped;
    })

-- a load gives the word that the machine gives
pub load_gives : (op : Op) (line : LineNo) (k value : ℕ) (modelled : Option Image) (old new : Cache) → op ≡ Load line k
    → value ≡ slice_index (words_of (cell_at new line.0)) k → FromMemory modelled line.0 (λ memory. new ≡ cell_changed line.0 (brought memory) old)
    → IfModelled modelled (λ image. Some value ≡ given op (machine image old))
load_gives op line k value modelled old new is reads from image modelled_is =
    let cell : Cell = cell_at old line.0 in
    let words : words_of (cell_at new line.0) ≡ current (line_at image line.0) cell =
    ap (λ (cache : Cache). words_of (cell_at cache line.0)) from.is
    ∙ ap words_of (cell_at-with_cell_same line.0 (brought from.memory cell) old)
    ∙ brought_words from.memory cell
    ∙ ap (λ (memory : List ℕ). current memory cell) (from.modelled_is image modelled_is) in
    ap Some (reads ∙ ap (λ (ws : List ℕ). slice_index ws k) words) ∙ ap (λ (o : Op). given o (machine image old)) (sym is)

-- a line that can't be brought is absent, and everything stays
not_held : (line : LineNo) (m : Machine) (cell : Cell) → (IsHeld cell → ⊥) → not_brought line m cell ≡ Some (record { line = line; left = m })
not_held line m Absent never = refl
not_held line m (Clean words) never = absurd (never refl)
not_held line m (Dirty a words) never = absurd (never refl)

bring_fails : (op : Op) (line at : LineNo) (modelled now : Option Image) (old new : Cache) → at ≡ line
    → ((image : Image) → (through : Breaking) → failed through op (machine image old) ≡ not_brought line (machine image old) (cell_at old line.0))
    → (IsHeld (cell_at old line.0) → ⊥) → now ≡ modelled → new ≡ old → IfModelled modelled (λ image. HasFailed op (machine image old) at now new)
bring_fails op line at modelled now old new here brings never same kept image is = record {
  left = machine image old;
  fails = record {
    through = record { mask = 0; sent = 0 };
    fits = omega arith;
    is = brings image (record { mask = 0; sent = 0 })
        ∙ not_held line (machine image old) (cell_at old line.0) never
        ∙ ap (λ (l : LineNo). Some (record { line = l; left = machine image old })) (sym here);
  };
  is = record { image = same ∙ is; cache = kept };
}

-- a load that would bring a line fails
pub load_failed : (op : Op) (line : LineNo) (k : ℕ) (modelled now : Option Image) (old new : Cache) → op ≡ Load line k
    → (IsHeld (cell_at old line.0) → ⊥) → now ≡ modelled → new ≡ old → IfModelled modelled (λ image. HasFailed op (machine image old) line now new)
load_failed op line k modelled now old new is = bring_fails op line line modelled now old new refl (λ image through. ap (λ (o : Op). failed through o (machine image old)) is)

-- and so does a store
pub store_failed : (op : Op) (line : LineNo) (k value : ℕ) (modelled now : Option Image) (old new : Cache) → op ≡ Store line k value
    → (IsHeld (cell_at old line.0) → ⊥) → now ≡ modelled → new ≡ old → IfModelled modelled (λ image. HasFailed op (machine image old) line now new)
store_failed op line k value modelled now old new is = bring_fails op line line modelled now old new refl (λ image through. ap (λ (o : Op). failed through o (machine image old)) is)

-- a send fails
send_failed : (op : Op) (line : LineNo) (modelled now : Option Image) (old new : Cache)
    → ((image : Image) → (through : Breaking) → failed through op (machine image old) ≡ not_sent through.mask line (machine image old))
    → IfModelled modelled (λ image. FailsTo line.0 (λ through memory. failed_send through memory (cell_at old line.0)) image now) → new ≡ old
    → IfModelled modelled (λ image. HasFailed op (machine image old) line now new)
send_failed op line modelled now old new sends torn kept image is =
    let t = torn image is in
    record {
      left = (torn_at line (machine image old) t.words).left;
      fails = record {
        through = record { mask = t.through; sent = 0 };
        fits = t.fits;
        is = sends image (record { mask = t.through; sent = 0 }) ∙ ap (option_map (torn_at line (machine image old))) t.left;
      };
      is = record { image = t.written; cache = kept };
    }

pub invalidate_failed : (op : Op) (line : LineNo) (modelled now : Option Image) (old new : Cache) → op ≡ Invalidate line
    → IfModelled modelled (λ image. FailsTo line.0 (λ through memory. failed_send through memory (cell_at old line.0)) image now) → new ≡ old
    → IfModelled modelled (λ image. HasFailed op (machine image old) line now new)
invalidate_failed op line modelled now old new is = send_failed op line modelled now old new (λ image through. ap (λ (o : Op). failed through o (machine image old)) is)

-- What an operation leaves of the cache.

brought_held : (memory : List ℕ) (cell : Cell) → IsHeld (brought memory cell)
brought_held memory Absent = refl
brought_held memory (Clean words) = refl
brought_held memory (Dirty a words) = refl

-- the line is held after a load, and after a store
pub held_after_load : (modelled : Option Image) (line : ℕ) (old new : Cache) → FromMemory modelled line (λ memory. new ≡ cell_changed line (brought memory) old) → IsHeld (cell_at new line)
held_after_load modelled line old new from =
    subst IsHeld (sym (ap (λ (cache : Cache). cell_at cache line) from.is ∙ cell_at-with_cell_same line (brought from.memory (cell_at old line)) old)) (brought_held from.memory (cell_at old line))

pub held_after_store : (modelled : Option Image) (line word value : ℕ) (old new : Cache)
    → FromMemory modelled line (λ memory. new ≡ cell_changed line (stored word value memory) old) → IsHeld (cell_at new line)
held_after_store modelled line word value old new from =
    subst IsHeld (sym (ap (λ (cache : Cache). cell_at cache line) from.is ∙ cell_at-with_cell_same line (stored word value from.memory (cell_at old line)) old)) refl

-- a load of a line that is held leaves the cache
pub held_loaded : (modelled : Option Image) (line : ℕ) (old new : Cache) → IsHeld (cell_at old line) → FromMemory modelled line (λ memory. new ≡ cell_changed line (brought memory) old) → new ≡ old
held_loaded modelled line old new held from =
    from.is ∙ ap (λ (cell : Cell). with_cell line cell old) (held_still (cell_at old line) held from.memory) ∙ with_cell_own line old

one_changed : (line : ℕ) (cell : Cell) (old new : Cache) → new ≡ with_cell line cell old → (other : ℕ) → other ≢ line → cell_at new other ≡ cell_at old other
one_changed line cell old new is other differs = ap (λ (cache : Cache). cell_at cache other) is ∙ cell_at-with_cell_other line cell old other differs

-- every line that the operation doesn't ask for is as before
pub others_left : (op : Op) (modelled : Option Image) (old new : Cache) → LeavesCache op modelled old new → IsOneLine op → (other : ℕ)
    → op_line op ≢ Some (line_no other) → cell_at new other ≡ cell_at old other
others_left (Load line k) modelled old new from one other differs = one_changed line.0 (brought from.memory (cell_at old line.0)) old new from.is
    other (λ e. differs (ap (λ (l : ℕ). Some (line_no l)) (sym e)))
others_left (Store line k value) modelled old new from one other differs =
    one_changed line.0 (stored k value from.memory (cell_at old line.0)) old new from.is other
    (λ e. differs (ap (λ (l : ℕ). Some (line_no l)) (sym e)))
others_left Fence modelled old new is one other differs = absurd one
others_left (WriteBack line) modelled old new is one other differs = one_changed line.0 (asked_for (cell_at old line.0)) old new is other (λ e. differs (ap (λ (l : ℕ). Some (line_no l)) (sym e)))
others_left (Invalidate line) modelled old new is one other differs = one_changed line.0 Absent old new is other (λ e. differs (ap (λ (l : ℕ). Some (line_no l)) (sym e)))
others_left Digest modelled old new is one other differs = ap (λ (cache : Cache). cell_at cache other) is

-- An operation at one line, or at none.

pub sends_one : (op : Op) (lines : ℕ) (cache : Cache) → IsOneLine op → SendsWithin op lines cache
sends_one Fence lines cache one = absurd one
sends_one other lines cache one = tt

-- A line that is cleaned is held as before.

held_cleaned : (cell : Cell) → IsHeld (cleaned cell) → IsHeld cell
held_cleaned Absent held = held
held_cleaned (Clean words) held = held
held_cleaned (Dirty a words) held = refl

pub cleaned_held : (lines : List ℕ) (cache : Cache) (l : ℕ) → IsHeld (cell_at (cleaned_lines lines cache) l) → IsHeld (cell_at cache l)
cleaned_held [] cache l held = held
cleaned_held (x ∷ lines) cache l held =
    let later : IsHeld (cell_at (cell_changed x cleaned cache) l) = cleaned_held lines (cell_changed x cleaned cache) l held in
    elim (cases_eq l x) [
      | inl same ↦ held_cleaned (cell_at cache l)
          (subst IsHeld (ap (λ (k : ℕ). cell_at (cell_changed k cleaned cache) l) (sym same) ∙ cell_at-with_cell_same l
          (cleaned (cell_at cache l)) cache) later)
      | inr other ↦ subst IsHeld (cell_at-with_cell_other x (cleaned (cell_at cache x)) cache l other) later
    ]

same_held : (old new : Cache) → new ≡ old → (l : ℕ) → IsHeld (cell_at new l) → IsHeld (cell_at old l)
same_held old new is l held = subst (λ (cache : Cache). IsHeld (cell_at cache l)) is held

-- where the media failed, no line is held that wasn't so before
pub left_held : (op : Op) (old new : Cache) → LeavesFailed op old new → (l : ℕ) → IsHeld (cell_at new l) → IsHeld (cell_at old l)
left_held Fence old new left = λ l held. cleaned_held (take left.count (asked_lines old)) old l (subst (λ (cache : Cache). IsHeld (cell_at cache l)) left.is held)
left_held other old new left = same_held old new left
