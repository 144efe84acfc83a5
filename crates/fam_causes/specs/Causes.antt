-- When each cause holds of a line at which no state is left: what it says is so. Which one comes first of several that hold isn't told.
use Rattle.std.specs.Prelude.{⊤, Some, None}
use Rattle.fam_causes.specs.declared.kinds.Cause.{Cause}
use Rattle.fam_causes.specs.declared.kinds.Cause.TheVariants as cause
use Rattle.fam_causes.specs.Asked.{Asked, HasNoHost, HasRunning, HasSameHost, IsIdle, NeverGives}
use Rattle.fam_causes.specs.Bounds.{ShowsFew, ShowsMany}
use Rattle.fam_causes.specs.Differing.{AcknowledgesOther, FindsOther, IsOtherDamage, ListsOther, NamesOther, WantsAnswer}

-- the cause holds. Where nothing is known to be wanted, that another answer was is said of any line: it is the last resort
abbrev pub IsCause : Asked → Cause → Type 0
IsCause x cause.NoSuchHost = HasNoHost x
IsCause x (cause.SameHost named) = HasSameHost x named
IsCause x (cause.StillRunning named) = HasRunning x named
IsCause x cause.NotRunning = IsIdle x
IsCause x cause.NoAnswer = NeverGives x
IsCause x (cause.ShownFew shown floor mark) = ShowsFew x shown floor mark
IsCause x (cause.ShownMany shown most) = ShowsMany x shown most
IsCause x (cause.OtherTree found wanted) = ListsOther x found wanted
IsCause x (cause.OtherAnswer None) = ⊤
IsCause x (cause.OtherAnswer (Some wanted)) = WantsAnswer x wanted
IsCause x (cause.NotAcknowledged seq) = AcknowledgesOther x seq
IsCause x cause.OtherEntry = NamesOther x
IsCause x (cause.Found found first second) = FindsOther x found first second
IsCause x cause.OtherDamage = IsOtherDamage x
