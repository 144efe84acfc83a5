-- The moves of a cache by itself, as the code has them.
use Rattle.std.specs.Prelude.{Result, Ok, Err}
use Rattle.fam_cache.specs.declared.fault.CacheFault.{CacheFault}
use Rattle.fam_cache.specs.declared.fault.CacheFault.TheVariants as cache_fault
use Rattle.fam_machine.specs.HostMoves.{Move, Evict, Leak, Fetch}
use Rattle.fam_media.specs.declared.media.Failed.{Failed}
use Rattle.fam_cache.specs.declared.own_moves.OwnMove.{OwnMove}
use Rattle.fam_cache.specs.declared.own_moves.OwnMove.TheVariants as own

-- the move that it is
abbrev pub move_of : OwnMove → Move
move_of own.Evict = Evict
move_of (own.Leak mask) = Leak mask.0
move_of (own.Fetch mask) = Fetch mask.0

-- a failed send, as a fault of a cache
abbrev pub send_fault : Result (Unit {0}) Failed → Result (Unit {0}) CacheFault
send_fault (Ok x) = Ok x
send_fault (Err failed) = Err cache_fault.Failed
