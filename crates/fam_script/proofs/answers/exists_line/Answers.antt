use Rattle.fam_script.proofs.answers.exists_line.Goals as goal

pub returns : goal.returns
returns c = rw (← c.kind-name.ensures) (c.line_of.ensures _ c.format.ensures.ok)
