use Rattle.fam_history.proofs.PrintedAnswers.{answer_prints, answer_reads, check_told}
use Rattle.fam_history.proofs.laws.a_printed_answer_reads.Goals as goal

pub returns : goal.returns
returns c = record {
  reads = λ given column end is. answer_reads given column end is;
  prints = λ answer. answer_prints answer;
  whole = λ tree listing. check_told tree listing;
}
