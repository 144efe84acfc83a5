use Rattle.fam_script.proofs.lines.number_line.Goals as goal

pub returns : goal.returns
returns c = c.line_of.ensures _ c.format.ensures.ok
