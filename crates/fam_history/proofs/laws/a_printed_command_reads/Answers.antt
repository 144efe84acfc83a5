use Rattle.fam_history.proofs.PrintedCommands.{one_text, text_reads, told_prints}
use Rattle.fam_history.proofs.laws.a_printed_command_reads.Goals as goal

pub returns : goal.returns
returns c = record {
  reads = λ cmd column end is. text_reads cmd column end is;
  prints = λ cmd. told_prints cmd;
  alike = λ a b first second same. one_text a b first second same;
}
