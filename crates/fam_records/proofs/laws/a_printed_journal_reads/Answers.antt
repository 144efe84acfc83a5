use Rattle.std.proofs.Common.{ap}
use Rattle.fam_records.specs.Histories.{all_or_bad}
use Rattle.fam_records.proofs.ReadRecords.{journal_read}
use Rattle.fam_records.proofs.laws.a_printed_journal_reads.Goals as goal

pub returns : goal.returns
returns c = record {
  whole = λ journal are. journal_read journal are;
  notes = λ journal are. ap (λ h. all_or_bad h.records h.bad) (journal_read journal are);
}
