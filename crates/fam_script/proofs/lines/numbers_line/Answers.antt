use Rattle.fam_script.proofs.lines.numbers_line.Goals as goal

pub returns : goal.returns
returns c = c.line_of.ensures _ c.format.ensures.ok
