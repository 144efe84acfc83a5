use Rattle.fam_mail_script.proofs.texts.count_line.Goals as goal

pub returns : goal.returns
returns c = c.line_of.ensures _ c.format.ensures.ok
