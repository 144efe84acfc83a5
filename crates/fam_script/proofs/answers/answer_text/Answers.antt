use Rattle.fam_script.proofs.answers.answer_text.Goals as goal

pub returns-in-Ok : goal.returns-in-Ok
returns-in-Ok c = rw c.in-Ok.is c.number_line.ensures

pub returns-in-Mounted : goal.returns-in-Mounted
returns-in-Mounted c = rw c.in-Mounted.is c.number_line-in-Mounted.ensures

pub returns-in-Same : goal.returns-in-Same
returns-in-Same c = rw c.in-Same.is c.number_line-in-Same.ensures

pub returns-in-NotFound : goal.returns-in-NotFound
returns-in-NotFound c = rw c.in-NotFound.is c.number_line-in-NotFound.ensures

pub returns-in-IsDirectory : goal.returns-in-IsDirectory
returns-in-IsDirectory c = rw c.in-IsDirectory.is c.number_line-in-IsDirectory.ensures

pub returns-in-MediaFault : goal.returns-in-MediaFault
returns-in-MediaFault c = rw c.in-MediaFault.is c.number_line-in-MediaFault.ensures

pub returns-in-LongPath : goal.returns-in-LongPath
returns-in-LongPath c = rw c.in-LongPath.is c.number_line-in-LongPath.ensures

pub returns-in-LogFull : goal.returns-in-LogFull
returns-in-LogFull c = rw c.in-LogFull.is c.number_line-in-LogFull.ensures

pub returns-in-NoSpace : goal.returns-in-NoSpace
returns-in-NoSpace c = rw c.in-NoSpace.is c.number_line-in-NoSpace.ensures

pub returns-in-Length : goal.returns-in-Length
returns-in-Length c = rw c.in-Length.is c.length_line.ensures
