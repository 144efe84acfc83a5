use Rattle.fam_script.proofs.notes.note_text.Goals as goal

pub returns-in-Host : goal.returns-in-Host
returns-in-Host c = rw c.in-Host.is c.uuid_line.ensures

pub returns-in-Made : goal.returns-in-Made
returns-in-Made c = rw c.in-Made.is (c.line_of.ensures _ c.made_text.ensures)

pub returns-in-Cut : goal.returns-in-Cut
returns-in-Cut c = rw c.in-Cut.is c.number_line.ensures

pub returns-in-Found : goal.returns-in-Found
returns-in-Found c = rw c.in-Found.is c.number_line-in-Found.ensures
