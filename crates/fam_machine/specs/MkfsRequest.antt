-- What a mkfs is asked for, from its parts.
use Rattle.std.specs.Prelude.{ℕ, Bool, List, Option}
use Rattle.fam_machine.specs.declared.request.MkfsRequest.{MkfsRequest}

-- a file system of this UUID, unit, log and format, whether one that stands there is written over, and after how many operations
-- the maker halts
abbrev pub mkfs_request : List ℕ → ℕ → ℕ → ℕ → Bool → Option ℕ → MkfsRequest
mkfs_request fs unit log format force halt = record { fs = fs; unit = unit; log = log; format = format; force = force; halt = halt }
