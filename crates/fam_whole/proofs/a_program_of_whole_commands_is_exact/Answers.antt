use Rattle.fam_grammar.proofs.UuidLaw.{script_uuids}
use Rattle.fam_grammar.specs.Scripts.{script_events}
use Rattle.fam_storm.specs.Storm.{storm}
use Rattle.fam_whole.proofs.Fronts.{program_front}
use Rattle.fam_whole.proofs.Scripts.{program_exact}
use Rattle.fam_whole.proofs.a_program_of_whole_commands_is_exact.Goals as goal

pub returns : goal.returns
returns c = record {
  whole = λ me random out given name files bytes events start none top told_start told holds within reads whole.
      program_exact out none script_events storm name files bytes events told holds within reads start told_start (top.image start told_start) (script_uuids bytes events reads) whole given top.ends;
  front = λ me random out given name files bytes events start media top told_start told holds reads whole.
      program_front out media script_events storm name files bytes events told holds reads start told_start (top.image start told_start) (script_uuids bytes events reads) whole given top.ends;
}
