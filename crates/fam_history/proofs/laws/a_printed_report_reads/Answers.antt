use Rattle.fam_history.proofs.PrintedReports.{bad_reads, files_read, log_reads, overlap_reads, past_reads, super_reads, units_read}
use Rattle.fam_history.proofs.laws.a_printed_report_reads.Goals as goal

pub returns : goal.returns
returns c = record {
  superblock = λ s column end is. super_reads column end s is;
  log = λ s column end is. log_reads column end s is;
  files = λ files directories column end first second. files_read column end files directories first second;
  units = λ used unused column end first second. units_read column end used unused first second;
  overlap = λ pair column end is. overlap_reads column end pair is;
  bad = λ slot column end is. bad_reads column end slot is;
  past = λ n column end small. past_reads column end n small;
}
