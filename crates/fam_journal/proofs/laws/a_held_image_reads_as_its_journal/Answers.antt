use Rattle.fam_journal.proofs.Settled.BadStates.{bad_image}
use Rattle.fam_journal.proofs.Settled.DamagedTurns.{report_cleared}
use Rattle.fam_journal.proofs.Runs.Staying.{does_stay}
use Rattle.fam_journal.proofs.JournalLaws.{held_reads_as}
use Rattle.fam_journal.proofs.laws.a_held_image_reads_as_its_journal.Goals as goal

pub returns : goal.returns
returns c = record {
  reads = λ start state world image held. held_reads_as start state world image held;
  bad = λ start image damage gate journal is. bad_image start image damage gate journal is;
  stays = λ start state left world call notes origin damage gate held is does none. does_stay start state world.journal held.kept origin damage gate is notes left none call does;
  reported = report_cleared;
}
