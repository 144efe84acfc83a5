-- Tests in an order: the first that names a fault decides.
use Rattle.std.specs.Prelude.{Option, Some, None, Result, Err}

-- the fault of this test, or else what comes behind it
abbrev pub stop : {T E : Type 0} → Option E → Result T E → Result T E
stop (Some fault) next = Err fault
stop None next = next

-- the fault of this test, or else that of the next one
abbrev pub or_else : {E : Type 0} → Option E → Option E → Option E
or_else (Some fault) next = Some fault
or_else None next = next
