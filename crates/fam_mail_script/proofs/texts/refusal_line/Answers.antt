use Rattle.fam_mail_script.proofs.texts.refusal_line.Goals as goal

pub returns-in-NoLine : goal.returns-in-NoLine
returns-in-NoLine c = rw c.in-NoLine.is (c.line_of.ensures _ c.format.ensures.ok)

pub returns-in-MediaFault : goal.returns-in-MediaFault
returns-in-MediaFault c = rw c.in-MediaFault.is (c.line_of-in-MediaFault.ensures _ c.format-in-MediaFault.ensures.ok)
