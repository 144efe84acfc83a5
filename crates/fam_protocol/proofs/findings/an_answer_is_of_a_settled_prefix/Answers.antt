use Rattle.fam_protocol.proofs.Hosts.FindingLaws.{asked, reported, appended, refused_for, client, long, no_fault}
use Rattle.fam_protocol.proofs.findings.an_answer_is_of_a_settled_prefix.Goals as goal

pub returns : goal.returns
returns c = record {
  asked = λ p all settled reply step is has. asked p all settled step reply is has;
  reported = λ p all settled report step is. reported p all settled step report is;
  appended = λ p all settled seq step is. appended p all settled step seq is;
  refused = λ p all settled r step is has. refused_for p all settled step r is has;
  client = λ p all settled me master step is. client p all settled step me master is;
  long = λ p all settled limit step is. long p all settled step limit is;
  no_fault = λ p all settled reply step is has. no_fault p all settled step reply is has;
}
