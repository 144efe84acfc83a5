-- What the parts of making a file system promise.
use Rattle.std.specs.Prelude.{ℕ, ◌≡◌, ◌≢◌, ◌++◌, Bool, false, List, Result, Ok, get_or, map}
use Rattle.std.specs.List.{range_with_len}
use Rattle.fam_base.specs.declared.entry.Params.{Params}
use Rattle.fam_format.specs.declared.faults.SuperFault.{SuperFault}
use Rattle.fam_format.specs.Layout.{gate_line, log_line}
use Rattle.fam_machine.specs.Caches.{Cache, cell_at}
use Rattle.fam_machine.specs.OneLine.{IsHeld}
use Rattle.fam_machine.specs.declared.op.Op.{Op}
use Rattle.fam_machine.specs.declared.op.Op.TheVariants.{Store}
use Rattle.fam_machine.specs.Operations.{line_no}
use Rattle.fam_machine.specs.Mkfs.{put_ops}
use Rattle.fam_rules.specs.Written.{zero_line}

-- lines 0, 1 and 2 are held
pub record HeldLines (cache : Cache) : Type 0 where
  pub magic : IsHeld (cell_at cache 0)
  pub prefix : IsHeld (cell_at cache 1)
  pub rest : IsHeld (cell_at cache 2)

-- a superblock with this UUID was found, and it isn't to be written over
pub record Stands (force : Bool) (found : Result Params SuperFault) (id : List ℕ) : Type 0 where
  pub unforced : force ≡ false
  pub other : Params
  pub reads : found ≡ Ok other
  pub named : id ≡ other.fs

-- a line that making a file system has nothing to do with
pub record IsElsewhere (line : ℕ) : Type 0 where
  pub magic : line ≢ 0
  pub prefix : line ≢ 1
  pub rest : line ≢ 2
  pub log : line ≢ log_line
  pub gate : line ≢ gate_line

-- the stores of the first so many words of a line
abbrev pub stores : ℕ → List ℕ → ℕ → List Op
stores line words count = map (λ k. Store (line_no line) k (get_or words k 0)) (range_with_len 0 count)

-- the gate's line with zeros, and the log's first line
abbrev pub header_puts : List ℕ → List Op
header_puts header = put_ops (gate_line, zero_line) ++ put_ops (log_line, header)

-- the words of the superblock, and then its magic
abbrev pub word_puts : List ℕ → List ℕ → List ℕ → List Op
word_puts magic first second = put_ops (1, first) ++ (put_ops (2, second) ++ put_ops (0, magic))
