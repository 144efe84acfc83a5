use Rattle.fam_mail.proofs.RunLaws.{each_note}
use Rattle.fam_mail.proofs.runs.a_legal_journal_allows_each_note.Goals as goal

pub returns : goal.returns
returns c = each_note
