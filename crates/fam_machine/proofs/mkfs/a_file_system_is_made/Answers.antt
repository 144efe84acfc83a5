use Rattle.fam_machine.proofs.MkfsOps.{all_left, all_sent, clean_formats, count_all, count_read, read_image, read_sent}
use Rattle.fam_machine.proofs.mkfs.a_file_system_is_made.Goals as goal

pub returns : goal.returns
returns c = record {
  read_count = count_read;
  count = count_all;
  leaves = all_left;
  reads = λ image cache normal clean. read_image image cache normal clean;
  clean = λ p image cache normal clean. clean_formats image cache normal clean p;
  reads_sent = λ image cache normal clean. read_sent image cache normal clean;
  sent = λ p image cache normal clean. all_sent image cache normal clean p;
}
