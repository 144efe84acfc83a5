-- What an ask comes to: the command that holds its source's bytes, or why there is none. The rules are those of the
-- journal's events; here they are tied to what a shelf's calls tell, modelled or not.
use Rattle.std.specs.Prelude.{ℕ, ◌≡◌, ◌+◌, ◌<◌, ◌≤◌, List, length, Some, Ok, Err}
use Rattle.std.specs.FinMap as map
use Rattle.fam_base.specs.declared.cmd.Cmd.{Cmd}
use Rattle.fam_base.specs.declared.cmd.Cmd.TheVariants.{Check}
use Rattle.fam_base.specs.declared.entry.Entry.{Entry}
use Rattle.fam_base.specs.Commands.{IsListing, IsSoundCmd}
use Rattle.fam_media.specs.Causes.{Rose}
use Rattle.fam_media.specs.Outside.{IfModelled}
use Rattle.fam_media.specs.States.{ShelfChange}
use Rattle.fam_journal.specs.declared.event.Ask.{Ask}
use Rattle.fam_journal.specs.declared.event.Ask.TheVariants as ask
use Rattle.fam_journal.specs.declared.refusal.Refusal.{Refusal}
use Rattle.fam_journal.specs.declared.refusal.Refusal.TheVariants as why
use Rattle.fam_tree.specs.Listings.{ListingSays}
use Rattle.fam_journal.specs.EventShapes.{AskShape, UnfitShape}
use Rattle.fam_journal.specs.Events.{Ready, SourceSays, Unfit, copy_limit, source_of}
use Rattle.fam_grammar.specs.Sound.{IsSoundAsk}
use Rattle.fam_journal.specs.Follows as journal
use Rattle.fam_journal.specs.Follows.{IsShortOf}
use Rattle.fam_sources.specs.Whole.{FilesHold}
use Rattle.fam_sources.specs.declared.sourced.Given.{Given}
use Rattle.fam_sources.specs.declared.sourced.Given.TheVariants as given
use Rattle.fam_sources.specs.declared.sourced.SourceEnd.{SourceEnd}
use Rattle.fam_sources.specs.declared.sourced.SourceEnd.TheVariants.{Faulted, Short}
use Rattle.fam_sources.specs.declared.sourced.Sourced.{Sourced}
use Rattle.fam_sources.specs.declared.sourced.Sourced.TheVariants as sourced

-- an end, as the journal's definitions speak of it
abbrev pub end_of : SourceEnd → journal.SourceEnd
end_of Faulted = journal.Faulted
end_of (Short size got) = journal.Short size got

-- the count that tells of an end; a short source gave fewer bytes than it has
abbrev pub HasEndCause : ShelfChange → SourceEnd → Type 0
HasEndCause change Faulted = Rose change.old.faults change.new.faults
HasEndCause change (Short size got) = Rose change.old.shorts change.new.shorts × (got < size)

-- the command holds the bytes of the source, or the entries of its listing
pub record HoldsSource (change : ShelfChange) (copied : ℕ) (what : Ask) (now : ℕ) (cmd : Cmd) : Type 0 where
  pub shape : AskShape what cmd
  pub sound : IsSoundAsk what → IsSoundCmd cmd
  pub says : IfModelled change.old.files (λ files. SourceSays files copied what (Ready cmd now))

-- there is no such source, or it is too long, or no listing
pub record IsUnfit (change : ShelfChange) (copied : ℕ) (what : Ask) (now : ℕ) (cause : Refusal) : Type 0 where
  pub shape : UnfitShape what cause
  pub says : IfModelled change.old.files (λ files. SourceSays files copied what (Unfit cause now))

-- the shelf failed, or the source was short
pub record IsEnded (change : ShelfChange) (copied : ℕ) (what : Ask) (end : SourceEnd) : Type 0 where
  pub name : List ℕ
  pub source : source_of what ≡ Some name
  pub cause : HasEndCause change end
  pub short : IfModelled change.old.files (λ files. IsShortOf files name copied (end_of end))

-- one of them; `now` bytes of sources were read then
abbrev pub IsSourced : ShelfChange → ℕ → Ask → ℕ → Sourced → Type 0
IsSourced change copied what now (sourced.Ready cmd) = HoldsSource change copied what now cmd
IsSourced change copied what now (sourced.Unfit cause) = IsUnfit change copied what now cause
IsSourced change copied what now (sourced.Ended end) = IsEnded change copied what end

-- what came of a source of this name: its bytes, or why there are none
abbrev pub IsAbsent : ShelfChange → ℕ → List ℕ → Refusal → Type 0
IsAbsent change copied name cause = (what : Ask) → source_of what ≡ Some name → IsUnfit change copied what copied cause

-- what an ask with a source comes to, by the shelf's own content
abbrev pub IsGiven : ShelfChange → ℕ → List ℕ → Given → Type 0
IsGiven change copied name (given.Bytes bytes) =
    (copied + length bytes.items ≤ copy_limit) × IfModelled change.old.files (λ files. map.get files name ≡ Some bytes.items)
IsGiven change copied name (given.Unfit cause) = IsAbsent change copied name cause
IsGiven change copied name (given.Ended end) = (what : Ask) → source_of what ≡ Some name → IsEnded change copied what end

-- what comes of the bytes of a listing, or of bytes that are none
abbrev pub ReadsListing : List ℕ → Sourced → Type 0
ReadsListing bytes (sourced.Ready cmd) =
    (entries : List Entry) × (cmd ≡ Check entries) × IsListing entries × ListingSays bytes (Ok entries)
ReadsListing bytes (sourced.Unfit cause) = (line : ℕ) × (cause ≡ why.BadListing line) × ListingSays bytes (Err line)
ReadsListing bytes (sourced.Ended end) = ⊥

-- memory is wanted for a source alone, one that is there and within the limit
abbrev pub WantsBytes : ShelfChange → ℕ → List ℕ → Type 0
WantsBytes change copied name = FilesHold change.old.files name (λ bytes. copied + length bytes ≤ copy_limit)

-- so of an ask: a plain one wants none
abbrev pub WantsSource : ShelfChange → ℕ → Ask → Type 0
WantsSource change copied (ask.Plain cmd) = ⊥
WantsSource change copied (ask.Cp source path attr stripe) = WantsBytes change copied source
WantsSource change copied (ask.VerifySource path source) = WantsBytes change copied source
WantsSource change copied (ask.Check source) = WantsBytes change copied source
