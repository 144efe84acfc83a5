use Rattle.fam_journal.proofs.Calls.WorldRows.{row_done}
use Rattle.fam_journal.proofs.laws.a_call_without_media_does_its_row.Goals as goal

pub returns : goal.returns
returns c = λ state world call stands takes. row_done state world stands call takes
