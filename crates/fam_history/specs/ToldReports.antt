-- Reports whose numbers are those of the code's types.
use Rattle.std.specs.Prelude.{ℕ, ⊤, ◌^◌, ◌<◌, Option, Some, None}
use Rattle.fam_format.specs.declared.faults.Reason.{Reason}
use Rattle.fam_rules.specs.declared.answers.LogState.{LogState}
use Rattle.fam_rules.specs.declared.answers.LogState.TheVariants as log
use Rattle.fam_rules.specs.declared.answers.SuperState.{SuperState}
use Rattle.fam_rules.specs.declared.answers.SuperState.TheVariants as superblock
use Rattle.fam_history.specs.ToldAnswers.{IsTellingReason}

-- what a report says of the superblock
abbrev pub IsTellingSuperState : SuperState → Type 0
IsTellingSuperState superblock.Sound = ⊤
IsTellingSuperState (superblock.NoSuper word) = word < 2 ^ 64
IsTellingSuperState (superblock.BadSuper f found wanted) = (found < 2 ^ 64) × (wanted < 2 ^ 64)

-- what it says of the log
abbrev pub IsTellingLogState : LogState → Type 0
IsTellingLogState (log.Sound entries slots) = (entries < 2 ^ 64) × (slots < 2 ^ 64)
IsTellingLogState (log.BadLog f found wanted) = (found < 2 ^ 64) × (wanted < 2 ^ 64)
IsTellingLogState log.Unread = ⊤

-- two entries that overlap
abbrev pub IfTellingPair : Option (ℕ × ℕ) → Type 0
IfTellingPair None = ⊤
IfTellingPair (Some pair) = (pair.0 < 2 ^ 64) × (pair.1 < 2 ^ 64)

-- the first bad entry
abbrev pub IfTellingSlot : Option (ℕ × Reason) → Type 0
IfTellingSlot None = ⊤
IfTellingSlot (Some bad) = (bad.0 < 2 ^ 64) × IsTellingReason bad.1
