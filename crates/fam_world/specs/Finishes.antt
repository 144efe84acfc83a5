-- Operations of a host's task, one behind another: what they come to.
use Rattle.std.specs.Prelude.{ℕ, ◌≡◌, ◌≤◌, not, Bool, true, List, length, slice_get, Some, None}
use Rattle.fam_base.specs.Image.{Image}
use Rattle.fam_journal.specs.Calls.{DoesOperations}
use Rattle.fam_journal.specs.CallRecords.{Adds, refusal_noted}
use Rattle.fam_journal.specs.Kept.{Held}
use Rattle.fam_journal.specs.Machines.{Machines}
use Rattle.fam_journal.specs.Notes.{Note}
use Rattle.fam_journal.specs.Shapes.{IsShaped, OperationsShape, runs_shape, shapes_of}
use Rattle.fam_world.specs.Counted.{WorldStanding}

-- on a state for which the world was held
pub record RanTo (at count : ℕ) (start : Image) (state : Machines) (notes : List Note) (b : WorldStanding) : Type 0 where
  pub left : Machines
  pub does : DoesOperations at count state notes left
  pub held : Held start left b.world left.memory
  pub told_is : b.media.image ≡ Some left.memory

-- so many operations of host `at` led from the one to the other: where the world has its shape they have at most a note each,
-- none of them a refusal, and the task is over behind them, or runs on
pub record SoFar (at lines count : ℕ) (over : Bool) (a b : WorldStanding) : Type 0 where
  pub adds : Adds lines a.media.faults b.media.faults a.world b.world
  pub said : None ≡ refusal_noted adds.notes
  pub shape : IsShaped a.world → OperationsShape at (shapes_of a.world.journal) adds.notes
  pub within : IsShaped a.world → length adds.notes ≤ count
  pub runs : IsShaped a.world → runs_shape (slice_get (shapes_of a.world.journal) at) ≡ true → runs_shape (slice_get (shapes_of b.world.journal) at) ≡ not over
  pub ran : (start : Image) (state : Machines) → a.media.image ≡ Some state.memory → Held start state a.world state.memory → RanTo at count start state adds.notes b
