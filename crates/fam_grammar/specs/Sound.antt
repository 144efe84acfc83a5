-- Asks and events within their limits. A source holds bytes, or entries of a listing, which are within theirs.
use Rattle.std.specs.Prelude.{⊤, ◌<◌, IsTrue, Option, Some, None}
use Rattle.fam_base.specs.Commands.{IsSoundAttr, IsSoundCmd}
use Rattle.fam_format.specs.Params.{is_format}
use Rattle.fam_journal.specs.declared.event.Ask.{Ask}
use Rattle.fam_journal.specs.declared.event.Ask.TheVariants.{Plain, Cp, VerifySource, Check}
use Rattle.fam_journal.specs.declared.event.Event.{Event}
use Rattle.fam_journal.specs.declared.event.Event.TheVariants as event

-- the mode, the count and the listing that stand in the ask
abbrev pub IsSoundAsk : Ask → Type 0
IsSoundAsk (Plain cmd) = IsSoundCmd cmd
IsSoundAsk (Cp source path attr stripe) = IsSoundAttr attr
IsSoundAsk (VerifySource path source) = ⊤
IsSoundAsk (Check source) = ⊤

-- its ask is within its limits, its format is one that there is, and some operations are done
abbrev pub IsSoundEvent : Event → Type 0
IsSoundEvent (event.Host name uuid) = ⊤
IsSoundEvent (event.Mkfs name request) = IsTrue (is_format request.format)
IsSoundEvent (event.Begin name what) = IsSoundAsk what
IsSoundEvent (event.Run name what) = IsSoundAsk what
IsSoundEvent (event.Step name count) = 0 < count
IsSoundEvent (event.Finish name) = ⊤
IsSoundEvent (event.Stop name) = ⊤
IsSoundEvent (event.Halt name) = ⊤
IsSoundEvent (event.Umount name) = ⊤
IsSoundEvent (event.Evict name line) = ⊤
IsSoundEvent (event.Leak name line mask) = ⊤
IsSoundEvent (event.Fetch name line mask) = ⊤

-- where a line has an event
abbrev pub IfEvent : Option Event → Type 0
IfEvent None = ⊤
IfEvent (Some event) = IsSoundEvent event
