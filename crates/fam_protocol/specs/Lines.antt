-- What one host's copy of a line may be beside memory's words m. Every move of a cache keeps each of these.
-- docs/MODEL.md, "The protocol".
use Rattle.std.specs.Prelude.{ℕ, zero, suc, ⊤, ◌≡◌, ◌≤◌, List, take, slice_index, Option, Some, None}
use Rattle.fam_format.specs.Line.{line_words}
use Rattle.fam_machine.specs.OneLine.{IsAsked, IsDirty}
use Rattle.fam_machine.specs.declared.cell.Cell.{Cell}
use Rattle.fam_machine.specs.declared.cell.Cell.TheVariants.{Absent, Clean, Dirty}

-- it can't be stale: what the host reads there is memory's
abbrev pub Fresh : List ℕ → Cell → Type 0
Fresh m Absent = ⊤
Fresh m (Clean words) = words ≡ m
Fresh m (Dirty a words) = ⊥

-- the count of published entries, of the gate's line
abbrev pub gate_of : List ℕ → ℕ
gate_of words = slice_index words 0

-- there is a mark, and so many entries are no fewer than were settled at it
abbrev pub IsAtLeast : Option ℕ → ℕ → Type 0
IsAtLeast None count = ⊥
IsAtLeast (Some floor) count = floor ≤ count

-- a copy of the gate's line that a reader may load: no older than its mark, and no newer than memory
abbrev pub FreshGate : Option ℕ → List ℕ → Cell → Type 0
FreshGate floor m Absent = ⊤
FreshGate floor m (Clean words) = IsAtLeast floor (gate_of words) × (gate_of words ≤ gate_of m)
FreshGate floor m (Dirty a words) = ⊥

-- the larger of memory's gate and a dirty one
abbrev pub top : List ℕ → Cell → ℕ
top m Absent = gate_of m
top m (Clean words) = gate_of m
top m (Dirty a words) = gate_of words

-- a line that a writer is at: the first k words that it stored stand in its copy, or in memory where it has no
-- other copy. Before its first store nothing is said: an old copy may be stale
abbrev pub Holding : ℕ → List ℕ → List ℕ → Cell → Type 0
Holding zero wanted m c = ⊤
Holding (suc k) wanted m Absent = take (suc k) m ≡ take (suc k) wanted
Holding (suc k) wanted m (Clean words) = (words ≡ m) × (take (suc k) m ≡ take (suc k) wanted)
Holding (suc k) wanted m (Dirty a words) = take (suc k) words ≡ take (suc k) wanted

-- the next fence sends it, where it is dirty
abbrev pub IsHandedOver : Cell → Type 0
IsHandedOver cell = IsDirty cell → IsAsked cell

-- a line that a writer has stored whole and asked for to be sent: behind the next fence it is finished
abbrev pub Asked : List ℕ → List ℕ → Cell → Type 0
Asked wanted m c = Holding line_words wanted m c × IsHandedOver c

-- a line that a writer has finished: its words stand in memory, and the writer's copy is no other
abbrev pub Finished : List ℕ → List ℕ → Cell → Type 0
Finished wanted m c = (m ≡ wanted) × Fresh m c
