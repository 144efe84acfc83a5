use Rattle.fam_program.proofs.dups.stopped_line.Goals as goal

pub returns-in-LongPath : goal.returns-in-LongPath
returns-in-LongPath c = rw c.in-LongPath.is (c.line_of.ensures _ c.format.ensures.ok)

pub returns-in-LogFull : goal.returns-in-LogFull
returns-in-LogFull c = rw c.in-LogFull.is (c.line_of-in-LogFull.ensures _ c.format-in-LogFull.ensures.ok)

pub returns-in-NoSpace : goal.returns-in-NoSpace
returns-in-NoSpace c = rw c.in-NoSpace.is (c.line_of-in-NoSpace.ensures _ c.format-in-NoSpace.ensures.ok)
