-- From what a shelf tells of a source to what the journal's rules say of an ask.
use Rattle.std.proofs.Common.{◌≡◌, ℕ, List, Some, Err, sym, subst}
use Rattle.fam_media.specs.States.{ShelfChange}
use Rattle.fam_journal.specs.declared.event.Ask.{Ask}
use Rattle.fam_journal.specs.declared.refusal.Refusal.{Refusal}
use Rattle.fam_journal.specs.Events.{source_of}
use Rattle.fam_sources.specs.declared.sourced.SourceEnd.TheVariants as end
use Rattle.fam_sources.specs.declared.sourced.Given.{Given}
use Rattle.fam_sources.specs.declared.sourced.Given.TheVariants as given
use Rattle.fam_sources.specs.declared.sourced.Resolved.{Resolved}
use Rattle.fam_sources.specs.declared.sourced.Sourced.TheVariants as sourced
use Rattle.fam_sources.specs.Sourced.{IsEnded, IsGiven, IsSourced}
use Rattle.fam_sources.specs.declared.whole.WholeFault.{WholeFault}
use Rattle.fam_sources.specs.declared.whole.WholeFault.TheVariants as whole
use Rattle.fam_sources.specs.Whole.{Wanted, WholeSays}

-- what came of a source is no command
pub unfit_resolved : (change : ShelfChange) (copied : ℕ) (name : List ℕ) (what : Ask) (came : Given) (cause : Refusal) (r : Resolved) → came ≡ given.Unfit cause → source_of what ≡ Some name
    → IsGiven change copied name came → r ≡ record { sourced = sourced.Unfit cause; copied = copied } → IsSourced change copied what r.copied r.sourced
unfit_resolved change copied name what came cause r is source says made =
    subst (λ (x : Resolved). IsSourced change copied what x.copied x.sourced) (sym made) (subst (IsGiven change copied name) is says what source)

-- the shelf failed while the source was read
pub faulted_source : (change : ShelfChange) (copied : ℕ) (name : List ℕ) (w : Wanted) (fault : WholeFault) → fault ≡ whole.Faulted → WholeSays change w (Err fault)
    → (what : Ask) → source_of what ≡ Some name → IsEnded change copied what end.Faulted
faulted_source change copied name w fault is says what source = record {
  name = name;
  source = source;
  cause = subst (λ (f : WholeFault). WholeSays change w (Err f)) is says;
  short = λ files at. tt;
}
