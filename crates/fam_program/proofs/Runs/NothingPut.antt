-- A run of which nothing is put ends, with an event or behind one.
use Rattle.std.proofs.Common.{◌≡◌, ℕ, ◌++◌, false, List, take, Some, Err, ap, sym, subst, ◌∙◌}
use Rattle.std.specs.Prelude.{slice_get}
use Rattle.std.specs.List.{list_any}
use Rattle.std.proofs.lemmas.List.{append-nil}
use Rattle.fam_media.specs.States.{ShelfChange, SinkChange}
use Rattle.fam_journal.specs.declared.event.Event.{Event}
use Rattle.fam_journal.specs.Ends.{AllDone}
use Rattle.fam_journal.specs.Shapes.{shapes_of}
use Rattle.fam_journal.specs.Notes.{Note}
use Rattle.fam_outcomes.specs.Statuses.{note_stops}
use Rattle.fam_journal.proofs.JournalLaws.{held_reads_as}
use Rattle.fam_events.specs.declared.fault.EventFault.{EventFault}
use Rattle.fam_events.specs.declared.fault.EventFault.TheVariants as fault
use Rattle.fam_events.specs.Happens.{EventSays}
use Rattle.fam_program.specs.Far.{Base, Far, Now}
use Rattle.fam_program.specs.Unprinted.{OnlyLastStops, IsShotEvent}
use Rattle.fam_program.specs.Runs.{HasEnded, ending_of}
use Rattle.fam_program.proofs.Runs.Ends.{broken_ended, out_of, part_ended, source_ended}
use Rattle.fam_program.proofs.Runs.GoesOn.{next_of}
use Rattle.fam_program.proofs.Runs.Stops.{all_go, breaks_goes, cut_goes, go_behind}

-- by why nothing goes on
pub fault_ended : (b : Base) (count : ℕ) (n m : Now) → Far b count n → (e : Event) → slice_get b.events count ≡ Some e → (shelf : ShelfChange) (all : SinkChange) (x : EventFault)
    → EventSays e shelf (next_of b n m) (Err x) → HasEnded (ending_of x) (out_of b m shelf all) b.events m.world.journal
fault_ended b count n m far e is shelf all fault.MkfsFailed says = broken_ended b count n m far e is shelf all says
fault_ended b count n m far e is shelf all (fault.SourceEnded end) says = source_ended b count n m far e is shelf all end says.0 says.1
fault_ended b count n m far e is shelf all fault.OutOfMemory says = part_ended b count n m far e is shelf all says

-- the first ones are done, and no more are run
pub taken_ended : (b : Base) (count : ℕ) (n : Now) → Far b count n → (shelf : ShelfChange) (all : SinkChange) → HasEnded AllDone (out_of b n shelf all) (take count b.events) n.world.journal
taken_ended b count n far shelf all = record {
  named = far.named;
  shape = far.shape;
  counted = far.counted;
  caused = tt;
  told = λ start told_is files files_are.
      let f = far.on start told_is files files_are in
      record { last = f.last; legal = f.held.kept.held.legal; follows = f.follows; left = f.left; reads = held_reads_as start f.last.machines n.world f.last.machines.memory f.held };
}

-- of the notes of an event that ends a run at most the last one stops
pub fault_goes : (b : Base) (n m : Now) (e : Event) → IsShotEvent e → (shelf : ShelfChange) (x : EventFault)
    → list_any note_stops n.world.journal ≡ false → EventSays e shelf (next_of b n m) (Err x) → OnlyLastStops m.world.journal
fault_goes b n m e is shelf fault.MkfsFailed goes says =
    subst OnlyLastStops (sym says.adds.joined) (go_behind n.world.journal says.adds.notes goes (breaks_goes e b.lines (shapes_of n.world.journal) says.adds.notes says.adds.shape))
fault_goes b n m e is shelf (fault.SourceEnded end) goes says =
    let same : m.world.journal ≡ n.world.journal = says.0.adds.joined ∙ ap (λ (ns : List Note). n.world.journal ++ ns) says.0.adds.shape.none ∙ append-nil n.world.journal in
    subst OnlyLastStops (sym same) (all_go n.world.journal goes)
fault_goes b n m e is shelf fault.OutOfMemory goes says =
    subst OnlyLastStops (sym says.adds.joined) (go_behind n.world.journal says.adds.notes goes (cut_goes e is b.lines (shapes_of n.world.journal) says.adds.notes says.adds.shape))
