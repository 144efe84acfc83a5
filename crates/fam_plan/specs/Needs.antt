-- Decisions for which the units of a device are looked at.
use Rattle.std.specs.Prelude.{⊤, Option, Some, None, Result, Ok, Err}
use Rattle.fam_base.specs.declared.entry.Entry.{Entry}
use Rattle.fam_rules.specs.declared.answers.Refused.{Refused}
use Rattle.fam_rules.specs.declared.answers.Refused.TheVariants.{NotMaster, LongPath, BadStripe, Exists, NoParent, ParentIsFile, LogFull, NoSpace}

-- no room was found in the units
abbrev pub IsNoSpace : Refused → Type 0
IsNoSpace (NotMaster me master) = ⊥
IsNoSpace (LongPath limit) = ⊥
IsNoSpace BadStripe = ⊥
IsNoSpace (Exists kind) = ⊥
IsNoSpace NoParent = ⊥
IsNoSpace ParentIsFile = ⊥
IsNoSpace (LogFull slots) = ⊥
IsNoSpace (NoSpace count) = ⊤

-- an entry, or want of room: nothing else is against the wish
abbrev pub NeedsRoom : Result Entry Refused → Type 0
NeedsRoom (Ok e) = ⊤
NeedsRoom (Err refused) = IsNoSpace refused

-- the same of a command, which appends
abbrev pub NeedsUnits : Option (Result Entry Refused) → Type 0
NeedsUnits None = ⊥
NeedsUnits (Some decision) = NeedsRoom decision
