use Rattle.fam_protocol.proofs.Hosts.FindingLaws.{bad_fault, bad_report, bad_no_entries, bad_not_appended, bad_not_refused, bad_client, bad_long, bad_same}
use Rattle.fam_protocol.proofs.findings.a_damaged_image_names_its_fault.Goals as goal

pub returns : goal.returns
returns c = record {
  fault = λ image lines reply step is has. bad_fault image lines step reply is has;
  reported = λ image lines report step is. bad_report image lines step report is;
  no_entries = λ image lines reply step is has. bad_no_entries image lines step reply is has;
  not_appended = λ image lines seq step is. bad_not_appended image lines step seq is;
  not_refused = λ image lines r step is has. bad_not_refused image lines step r is has;
  client = λ image lines me master step is. bad_client image lines step me master is;
  long = λ image lines limit step is. bad_long image lines step limit is;
  same = λ image lines step. bad_same image lines step;
}
