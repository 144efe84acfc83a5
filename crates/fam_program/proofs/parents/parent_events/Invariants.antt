use Rattle.std.proofs.Common.{◌≡◌, ◌++◌, ◌∷◌, map}
use Rattle.fam_journal.specs.declared.event.Event.TheVariants as event
use Rattle.fam_outcomes.specs.Programs.{MakesParents, shot_events}
use Rattle.fam_program.proofs.Commands.Events.{makes}
use Rattle.fam_program.proofs.parents.parent_events.Given as goal

abbrev pub invariant-paths : goal.invariant-paths
invariant-paths l =
    l.events.items ++ map (makes l.name l.attr) l.directory-iterator.rest.items ≡ event.Host l.name l.fn.me ∷ shot_events l.name (MakesParents l.path l.attr)
