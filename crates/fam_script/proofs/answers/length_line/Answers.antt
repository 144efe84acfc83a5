use Rattle.fam_script.proofs.answers.length_line.Goals as goal

pub returns : goal.returns
returns c = c.line_of.ensures _ c.length_text.ensures
