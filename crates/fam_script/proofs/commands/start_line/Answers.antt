use Rattle.fam_script.proofs.commands.start_line.Goals as goal

pub returns-in-Check : goal.returns-in-Check
returns-in-Check c = rw c.in-Check.is (rw (← c.as_slice-count.ensures) c.number_line.ensures)
