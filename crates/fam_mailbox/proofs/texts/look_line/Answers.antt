use Rattle.fam_mailbox.proofs.texts.look_line.Goals as goal

pub returns-in-BoxSmall : goal.returns-in-BoxSmall
returns-in-BoxSmall c = rw c.in-BoxSmall.is (c.line_of.ensures _ c.format.ensures.ok)

pub returns-in-BadBox : goal.returns-in-BadBox
returns-in-BadBox c = rw c.in-BadBox.is (c.line_of-in-BadBox.ensures _ c.format-in-BadBox.ensures.ok)

pub returns-in-BadRecord : goal.returns-in-BadRecord
returns-in-BadRecord c = rw c.in-BadRecord.is (c.line_of-in-BadRecord.ensures _ c.format-in-BadRecord.ensures.ok)
