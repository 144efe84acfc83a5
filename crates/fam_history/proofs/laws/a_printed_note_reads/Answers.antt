use Rattle.fam_history.proofs.PrintedNotes.{line_reads, note_prints}
use Rattle.fam_history.proofs.laws.a_printed_note_reads.Goals as goal

pub returns : goal.returns
returns c = record {
  reads = λ names note column end is. line_reads names note column end is;
  prints = λ names note. note_prints names note;
}
