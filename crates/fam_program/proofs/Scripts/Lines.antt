-- A script's events are sound.
use Rattle.std.proofs.Common.{◌≡◌, ℕ, List, [], ◌∷◌, ◌++◌, refl}
use Rattle.fam_journal.specs.declared.event.Event.{Event}
use Rattle.fam_grammar.specs.Scripts.{events_in, line_reads, script_events}
use Rattle.fam_grammar.specs.Sound.{IsSoundEvent}
use Rattle.fam_program.specs.Far.{AreSoundEvents}

pub sound_more : (events : List Event) (event : Event) → AreSoundEvents events → IsSoundEvent event → AreSoundEvents (events ++ event ∷ [])
sound_more [] event all one = (one, tt)
sound_more (e ∷ events) event all one = (all.0, sound_more events event all.1 one)

-- they are those of its lines
pub script_is : (bytes : List ℕ) → script_events bytes ≡ events_in line_reads bytes
unfolding script_events
script_is bytes = refl
