use Rattle.fam_mail.proofs.RunLaws.{shown_left}
use Rattle.fam_mail.proofs.runs.a_run_leaves_its_box.Goals as goal

pub returns-clause-legal : goal.returns-clause-legal
returns-clause-legal c = λ start image records events v run. run.held.legal

pub returns-clause-left : goal.returns-clause-left
returns-clause-left c = λ start image records events v run. shown_left v.entry start image records run.last v.journal run.shown_is run.held

pub returns-clause-part_legal : goal.returns-clause-part_legal
returns-clause-part_legal c = λ start image records events e v run. run.held.legal

pub returns-clause-part_left : goal.returns-clause-part_left
returns-clause-part_left c = λ start image records events e v run. shown_left v.entry start image records run.last v.journal run.shown_is run.held
