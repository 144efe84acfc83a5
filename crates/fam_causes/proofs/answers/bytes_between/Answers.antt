use Rattle.fam_causes.proofs.answers.bytes_between.Goals as goal

pub lines-preserved : goal.lines-preserved
lines-preserved c = c.line-line.ensures.stands c.lines.j c.lines.invariant

pub line-line-requires : goal.line-line-requires
line-line-requires c =
    record { given = c.lines.j; stands = c.lines.invariant; left = (c.lines_of-j-end.ensures.each c.lines.j).1 c.lines-test.true }
