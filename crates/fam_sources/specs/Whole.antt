-- What comes of reading a file of a shelf whole.
use Rattle.std.specs.Prelude.{ℕ, ◌≡◌, ◌⊎◌, ◌+◌, ◌-◌, ◌^◌, ◌<◌, ◌≤◌, min, List, length, Option, Some, None, Result, Ok, Err}
use Rattle.std.specs.FinMap as map
use Rattle.fam_media.specs.Causes.{Rose}
use Rattle.fam_media.specs.Files.{Files, HasNone}
use Rattle.fam_media.specs.Outside.{IfModelled}
use Rattle.fam_media.specs.States.{ShelfChange}
use Rattle.fam_sources.specs.declared.whole.WholeFault.{WholeFault}
use Rattle.fam_sources.specs.declared.whole.WholeFault.TheVariants.{NoFile, TooLong, Faulted, Short, OutOfMemory}

-- a file: its name, the bytes that were read of others before, and the most bytes of all
pub record Wanted : Type 0 where
  pub name : List ℕ
  pub copied : ℕ
  pub limit : ℕ

-- where the files are modelled, this is the file's bytes
abbrev pub FilesHold : Option Files → List ℕ → (List ℕ → Type 0) → Type 0
FilesHold files name P = IfModelled files (λ files. (bytes : List ℕ) × (map.get files name ≡ Some bytes) × P bytes)

-- bytes of others and those of a file, as one number of 64 bits
abbrev pub sum_of : ℕ → ℕ → ℕ
sum_of copied size = min (copied + size) (2 ^ 64 - 1)

-- the bytes are the file's, and within the limit; or each fault has its cause: memory is wanted only for a file that is there and
-- within the limit. A file has fewer than 2 ^ 64 bytes, so with none of
-- others the sum is its size
abbrev pub WholeSays : ShelfChange → Wanted → Result (List ℕ) WholeFault → Type 0
WholeSays change w (Ok bytes) =
    (w.copied + length bytes ≤ w.limit) × IfModelled change.old.files (λ files. map.get files w.name ≡ Some bytes)
WholeSays change w (Err NoFile) = IfModelled change.old.files (λ files. map.get files w.name ≡ None)
WholeSays change w (Err (TooLong sum)) =
    (w.limit < sum) × FilesHold change.old.files w.name (λ bytes. (sum ≡ sum_of w.copied (length bytes)) × (length bytes < 2 ^ 64))
WholeSays change w (Err Faulted) = Rose change.old.faults change.new.faults
WholeSays change w (Err (Short size got)) =
    (got < size) × (w.copied + size ≤ w.limit) × Rose change.old.shorts change.new.shorts
    × FilesHold change.old.files w.name (λ bytes. size ≡ length bytes)
WholeSays change w (Err OutOfMemory) = FilesHold change.old.files w.name (λ bytes. w.copied + length bytes ≤ w.limit)

-- filling a place of so many bytes fails: the shelf does, or a read gave no byte
abbrev pub FillFails : ShelfChange → List ℕ → ℕ → WholeFault → Type 0
FillFails change name size NoFile = ⊥
FillFails change name size (TooLong sum) = ⊥
FillFails change name size Faulted = Rose change.old.faults change.new.faults
FillFails change name size (Short of got) =
    (of ≡ size) × (got < size) × (HasNone change.old.files name got ⊎ Rose change.old.shorts change.new.shorts)
FillFails change name size OutOfMemory = ⊥
