-- What a fence sends of a cache whose lines are the media's.
use Rattle.std.proofs.Common.{ℕ, ◌<◌, refl}
use Rattle.fam_machine.specs.declared.cell.Cell.{Cell}
use Rattle.fam_machine.specs.declared.cell.Cell.TheVariants.{Absent, Clean, Dirty}
use Rattle.fam_machine.specs.declared.op.Op.{Op}
use Rattle.fam_machine.specs.declared.op.Op.TheVariants.{Fence}
use Rattle.fam_machine.specs.Caches.{Cache, cell_at}
use Rattle.fam_machine.specs.OneLine.{IsAsked, IsHeld}
use Rattle.fam_cache.specs.Operations.{SendsWithin}

-- an asked line is held
asked_held : (cell : Cell) → IsAsked cell → IsHeld cell
asked_held Absent asked = asked
asked_held (Clean words) asked = refl
asked_held (Dirty a words) asked = refl

-- a fence sends lines of the media, where the cache holds no other
pub held_sends : (op : Op) (lines : ℕ) (cache : Cache) → ((l : ℕ) → IsHeld (cell_at cache l) → l < lines) → SendsWithin op lines cache
held_sends Fence lines cache below = λ line asked. below line (asked_held (cell_at cache line) asked)
held_sends other lines cache below = tt
