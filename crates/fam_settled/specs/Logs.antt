-- What the fields of a log stand for.
use Rattle.std.specs.Prelude.{◌≡◌, length}
use Rattle.fam_settled.specs.declared.log.Log.TheInside.{Inside}
use Rattle.fam_settled.specs.Settled.{MayPend, SettledLog}

-- as a contract sees it
abbrev pub settled_inside : Inside → SettledLog
settled_inside l = record { params = l.plan.params; entries = l.plan.entries; bytes = l.bytes.value.items; pending = l.pending }

-- each entry has its bytes, and the pending one may be added
pub record IsLog (l : Inside) : Type 0 where
  pub counted : length l.bytes.value.items ≡ length l.plan.entries
  pub pending : MayPend l.plan l.pending
