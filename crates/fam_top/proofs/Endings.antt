-- Calls for which no event is run: the words are no command, or no memory was left for them.
use Rattle.std.proofs.Common.{◌≡◌, Option, None, inl, refl}
use Rattle.fam_grammar.specs.Scripts.{script_events}
use Rattle.fam_outcomes.specs.declared.status.Status.{Status}
use Rattle.fam_outcomes.specs.declared.status.Status.TheVariants as status
use Rattle.fam_outcomes.specs.Programs.{Command, EarlyOutOfMemory, NoCommand, TopEnds, memory_line, usage_line}
use Rattle.fam_outcomes.specs.Runs.{NoneFalls, Outside}
use Rattle.fam_program.specs.Puts.{Put}
use Rattle.fam_program.proofs.Runs.OneText.{memory_own, put_alone}
use Rattle.fam_storm.specs.Storm.{storm}

usage_own : status.Usage ≡ status.SinkFault → ⊥
usage_own e = absurd cc

module _ (out : Outside) (given : Status) (same : out.media.new.image ≡ out.media.old.image) (later : NoneFalls out) where
  pub no_command : (asked : Option Command) → asked ≡ None → Put status.Usage usage_line out.sink given → TopEnds script_events storm asked out given
  no_command asked none put = record {
    text = usage_line;
    own = status.Usage;
    shows = inl record { early = NoCommand; is = none; text_is = refl; status_is = refl; same = same };
    later = later;
    put = put_alone out usage_line status.Usage given usage_own put;
  }

  pub no_memory : (asked : Option Command) → Put status.OutOfMemory memory_line out.sink given → TopEnds script_events storm asked out given
  no_memory asked put = record {
    text = memory_line;
    own = status.OutOfMemory;
    shows = inl record { early = EarlyOutOfMemory; is = tt; text_is = refl; status_is = refl; same = same };
    later = later;
    put = put_alone out memory_line status.OutOfMemory given memory_own put;
  }
