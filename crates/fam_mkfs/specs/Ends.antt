-- How making a file system ends, once its numbers are taken.
use Rattle.std.specs.Prelude.{ℕ, ◌≡◌, ◌<◌, Bool, true, false, List, Ok, Option, None, Some}
use Rattle.fam_base.specs.declared.entry.Params.{Params}
use Rattle.fam_machine.specs.declared.op.Op.{Op}
use Rattle.fam_machine.specs.Operations.{Machine, machine}
use Rattle.fam_media.specs.Causes.{Rose}
use Rattle.fam_mkfs.specs.declared.make.MkfsEnd.{MkfsEnd}
use Rattle.fam_mkfs.specs.declared.make.MkfsEnd.TheVariants.{Made, BadGeometry, TooSmall, HasSuper, Failed, Halted}
use Rattle.fam_machine.specs.Mkfs.{read_ops, mkfs_ops, halted_ops, expected_ops, superblock_found, goes_on}
use Rattle.fam_cache.specs.Runs.{AreDone, CacheOver}
use Rattle.fam_base.specs.declared.line.LineNo.{LineNo}
use Rattle.fam_machine.specs.Cuts.{HasCut}
use Rattle.fam_media.specs.Outside.{IfModelled}

-- these operations were done, and no superblock stood in the way
pub record IsDoneAsAsked (ops : List Op) (p : Params) (force : Bool) (before now : CacheOver) : Type 0 where
  pub done : AreDone ops before now
  pub free : IfModelled before.image (λ image. goes_on force (superblock_found p (machine image before.lines)) ≡ true)

-- all operations were done, since the maker isn't to halt
pub record IsMadeAsAsked (p : Params) (force : Bool) (halt : Option ℕ) (before now : CacheOver) : Type 0 where
  pub unhalted : halt ≡ None
  pub done : IsDoneAsAsked (mkfs_ops p) p force before now

-- the first operations were done, so many of them as were asked for
pub record IsHaltedAsAsked (p : Params) (force : Bool) (halt : Option ℕ) (k : ℕ) (before now : CacheOver) : Type 0 where
  pub asked : halt ≡ Some k
  pub done : IsDoneAsAsked (halted_ops k p) p force before now

-- a superblock with this UUID reads
pub record ReadsUuid (p : Params) (m : Machine) (id : List ℕ) : Type 0 where
  pub other : Params
  pub reads : superblock_found p m ≡ Ok other
  pub named : id ≡ other.fs

-- lines 0, 1 and 2 were read, and a superblock stands there that isn't to be written over
pub record FindsSuper (p : Params) (force : Bool) (id : List ℕ) (before now : CacheOver) : Type 0 where
  pub unforced : force ≡ false
  pub done : AreDone read_ops before now
  pub names : IfModelled before.image (λ image. ReadsUuid p (machine image before.lines) id)

-- the media failed at this line, in one of the operations that were expected
pub record IsCut (p : Params) (force : Bool) (halt : Option ℕ) (size : ℕ) (line : LineNo) (before now : CacheOver) (faults faults_now : ℕ) : Type 0 where
  pub within : line.0 < size
  pub rose : Rose faults faults_now
  pub cut : IfModelled before.image (λ image. HasCut (expected_ops force halt p (machine image before.lines)) (machine image before.lines) line now.image now.lines)

-- what an end says, where these parameters are asked for, and by after how many operations the maker is to halt
abbrev pub MkfsEnds : Params → Bool → Option ℕ → ℕ → CacheOver → CacheOver → ℕ → ℕ → MkfsEnd → Type 0
MkfsEnds p force halt size before now faults faults_now (Made made) = (made ≡ p) × IsMadeAsAsked p force halt before now
MkfsEnds p force halt size before now faults faults_now (HasSuper id) = FindsSuper p force id before now
MkfsEnds p force halt size before now faults faults_now (Failed line) = IsCut p force halt size line before now faults faults_now
MkfsEnds p force halt size before now faults faults_now (Halted k) = IsHaltedAsAsked p force halt k before now
MkfsEnds p force halt size before now faults faults_now (BadGeometry unit log) = ⊥
MkfsEnds p force halt size before now faults faults_now (TooSmall need have) = ⊥

-- how it ends where all that was expected was done
abbrev pub done_end : Params → Option ℕ → MkfsEnd
done_end p None = Made p
done_end p (Some k) = Halted k
