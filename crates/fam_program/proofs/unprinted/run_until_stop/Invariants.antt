use Rattle.std.proofs.Common.{◌≡◌, false}
use Rattle.std.specs.List.{list_any}
use Rattle.fam_outcomes.specs.Statuses.{note_stops}
use Rattle.fam_program.specs.Unprinted.{AreShotEvents}
use Rattle.fam_program.proofs.Runs.Turns.{Turns}
use Rattle.fam_program.proofs.unprinted.run_until_stop.Given as goal

abbrev pub invariant-events : goal.invariant-events
invariant-events g l = record {
  turns : Turns g.M.Media.size g.M.Media.state g.S.Shelf.state l.fn.events.items l.fn.media l.media l.fn.shelf l.shelf l.world l.copied l.yielded l.event-iterator.rest.items;
  shot : AreShotEvents l.event-iterator.rest.items;
  goes : list_any note_stops l.world.journal ≡ false;
}
