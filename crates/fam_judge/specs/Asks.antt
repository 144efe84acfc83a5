-- Events whose commands are sound, whatever their sources hold: what stands in an ask is within the limits.
use Rattle.std.specs.Prelude.{⊤, ◌≡◌, All, List, [], ◌∷◌}
use Rattle.fam_base.specs.declared.cmd.Cmd.TheVariants.{Check as Checks}
use Rattle.fam_base.specs.declared.entry.Entry.{Entry}
use Rattle.fam_grammar.specs.Sound.{IsSoundAsk}
use Rattle.fam_tree.specs.Listings.{IsListed}
use Rattle.fam_journal.specs.declared.event.Ask.{Ask}
use Rattle.fam_journal.specs.declared.event.Ask.TheVariants.{Plain, Cp, VerifySource, Check}
use Rattle.fam_journal.specs.declared.event.Event.{Event}
use Rattle.fam_journal.specs.declared.event.Event.TheVariants as event

-- a listing that stands in an ask has entries such as a source's lines have. A script has none there: its listings are in sources
abbrev pub HasListedAsk : Ask → Type 0
HasListedAsk (Plain cmd) = (entries : List Entry) → cmd ≡ Checks entries → All IsListed entries
HasListedAsk (Cp source path attr stripe) = ⊤
HasListedAsk (VerifySource path source) = ⊤
HasListedAsk (Check source) = ⊤

-- the mode, the count and the listing that stand in the ask of a command are within their limits. Its path, numbers and bytes
-- fit wherever it begins, and a source that is read holds bytes, or entries as a listing has them
abbrev pub AsksSoundCommand : Event → Type 0
AsksSoundCommand (event.Host name uuid) = ⊤
AsksSoundCommand (event.Mkfs name request) = ⊤
AsksSoundCommand (event.Begin name what) = IsSoundAsk what × HasListedAsk what
AsksSoundCommand (event.Run name what) = IsSoundAsk what × HasListedAsk what
AsksSoundCommand (event.Step name count) = ⊤
AsksSoundCommand (event.Finish name) = ⊤
AsksSoundCommand (event.Stop name) = ⊤
AsksSoundCommand (event.Halt name) = ⊤
AsksSoundCommand (event.Umount name) = ⊤
AsksSoundCommand (event.Evict name line) = ⊤
AsksSoundCommand (event.Leak name line mask) = ⊤
AsksSoundCommand (event.Fetch name line mask) = ⊤

-- so of each of these events
abbrev pub AskSoundCommands : List Event → Type 0
AskSoundCommands [] = ⊤
AskSoundCommands (e ∷ events) = AsksSoundCommand e × AskSoundCommands events
