-- States that are put among others: those to which a line leads from one state, and what a loop over hosts and states comes to.
use Rattle.std.specs.Prelude.{ℕ, ◌<◌, ◌⊎◌, List}
use Rattle.fam_base.specs.Image.{Image}
use Rattle.fam_journal.specs.Notes.{Note}
use Rattle.fam_judge.specs.Covering.{HasBelow, IsOf}
use Rattle.fam_judge.specs.Possible.{Elsewhere, MayLead, Possible, StepsTo, Wrote}

-- the states of the first list stay, and each other one of the second list is one of which P holds
pub record PutsInto (P : Possible → Type 0) (old new : List Possible) : Type 0 where
  pub kept : (z : Possible) → IsOf old z → IsOf new z
  pub sound : (z : Possible) → IsOf new z → IsOf old z ⊎ P z

-- those to which the line leads from the state are put among the others
pub record StepsInto (start : Image) (line : Note) (x : Possible) (old new : List Possible) : Type 0 where
  pub puts : PutsInto (StepsTo start x line) old new
  pub all : (z : Possible) → StepsTo start x line z → HasBelow new z

-- so are those to which it leads where host k named an entry before of which the line tells
pub record WritesInto (start : Image) (line : Note) (k : ℕ) (x : Possible) (old new : List Possible) : Type 0 where
  pub puts : PutsInto (MayLead start x line) old new
  pub all : (w z : Possible) → (wrote : Wrote start k x w) → (Elsewhere k wrote.seq line → ⊥) → StepsTo start w line z → HasBelow new z

-- so are all to which it leads from the state, as far as hosts of numbers below n may have named an entry before
pub record LeadsInto (start : Image) (line : Note) (n : ℕ) (x : Possible) (old new : List Possible) : Type 0 where
  pub puts : PutsInto (MayLead start x line) old new
  pub own : (z : Possible) → StepsTo start x line z → HasBelow new z
  pub named : (w z : Possible) (k : ℕ) → k < n → (wrote : Wrote start k x w) → (Elsewhere k wrote.seq line → ⊥) → StepsTo start w line z → HasBelow new z
