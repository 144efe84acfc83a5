use Rattle.std.proofs.Common.{◌≡◌, ◌≤◌, [], option_map}
use Rattle.fam_media.specs.Outside.{with_piece}
use Rattle.fam_outcomes.specs.Texts.{names_behind, render}
use Rattle.fam_program.proofs.Runs.Turns.{Turns}
use Rattle.fam_program.proofs.script.run_script.Given as goal

abbrev pub invariant-events : goal.invariant-events
invariant-events g l = record {
  turns : Turns g.M.Media.size g.M.Media.state g.S.Shelf.state l.fn.events.items l.fn.media l.media l.fn.shelf l.shelf l.world l.copied l.yielded l.event-iterator.rest.items;
  names : l.names.items ≡ names_behind [] l.world.journal;
  put : (g.K.Sink.state l.out).bytes ≡ option_map (with_piece (render l.world.journal)) (g.K.Sink.state l.fn.out).bytes;
  later : (g.K.Sink.state l.fn.out).faults ≤ (g.K.Sink.state l.out).faults;
}
