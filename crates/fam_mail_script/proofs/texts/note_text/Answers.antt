use Rattle.fam_mail_script.proofs.texts.note_text.Goals as goal

pub returns-in-Found : goal.returns-in-Found
returns-in-Found c = rw c.in-Found.is (c.line_of.ensures _ c.format.ensures.ok)

pub returns-in-Posted : goal.returns-in-Posted
returns-in-Posted c = rw c.in-Posted.is (c.line_of-in-Posted.ensures _ c.format-in-Posted.ensures.ok)

pub returns-in-Full : goal.returns-in-Full
returns-in-Full c = rw c.in-Full.is (c.line_of-in-Full.ensures _ c.format-in-Full.ensures.ok)

pub returns-in-BadBox : goal.returns-in-BadBox
returns-in-BadBox c = rw c.in-BadBox.is (c.line_of-in-BadBox.ensures _ c.format-in-BadBox.ensures.ok)

pub returns-in-BadRecord : goal.returns-in-BadRecord
returns-in-BadRecord c = rw c.in-BadRecord.is (c.line_of-in-BadRecord.ensures _ c.format-in-BadRecord.ensures.ok)

pub returns-in-MediaFault : goal.returns-in-MediaFault
returns-in-MediaFault c = rw c.in-MediaFault.is (c.line_of-in-MediaFault.ensures _ c.format-in-MediaFault.ensures.ok)
