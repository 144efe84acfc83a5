-- The moves that a cache may make by itself at one line, asked or not, and lists of them.
use Rattle.std.specs.Prelude.{ℕ, Bool, true, List}
use Rattle.fam_base.specs.Image.{masked}
use Rattle.fam_machine.specs.declared.cell.Cell.{Cell}
use Rattle.fam_machine.specs.declared.cell.Cell.TheVariants.{Absent, Clean, Dirty}

-- memory's words m and the host's copy, before and after one move
pub data Transfer : List ℕ → Cell → List ℕ → Cell → Type 0 where
  brings : {m : List ℕ} → Transfer m Absent m (Clean m)
  refreshes : {m w : List ℕ} (mask : ℕ) → Transfer m (Clean w) m (Clean (masked mask m w))
  sends : {m w : List ℕ} {asked : Bool} (mask : ℕ) → Transfer m (Dirty asked w) (masked mask w m) (Dirty asked w)
  sends_whole : {m w : List ℕ} {asked : Bool} → Transfer m (Dirty asked w) w (Dirty asked w)
  asks : {m w : List ℕ} {asked : Bool} → Transfer m (Dirty asked w) m (Dirty true w)
  cleans : {m : List ℕ} {asked : Bool} → Transfer m (Dirty asked m) m (Clean m)
  drops : {m w : List ℕ} → Transfer m (Clean w) m Absent

-- any number of moves, one after another
pub data Transfers : List ℕ → Cell → List ℕ → Cell → Type 0 where
  rests : {m : List ℕ} {c : Cell} → Transfers m c m c
  goes : {m m' m'' : List ℕ} {c c' c'' : Cell} → Transfer m c m' c' → Transfers m' c' m'' c'' → Transfers m c m'' c''
