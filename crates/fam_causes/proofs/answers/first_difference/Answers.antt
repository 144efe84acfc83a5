use Rattle.fam_causes.proofs.answers.first_difference.Goals as goal

pub lines-preserved : goal.lines-preserved
lines-preserved c = record {
  first = c.line-found.ensures.stands c.lines.j c.lines.invariant.first;
  second = c.line-wanted.ensures.stands c.lines.j c.lines.invariant.second;
}

pub line-found-requires : goal.line-found-requires
line-found-requires c =
    record { given = c.lines.j; stands = c.lines.invariant.first; left = (c.lines_of-j-end.ensures.each c.lines.j).1 c.lines-test.true }

pub line-wanted-requires : goal.line-wanted-requires
line-wanted-requires c =
    record { given = c.lines.j; stands = c.lines.invariant.second; left = (c.lines_of-j-end.ensures.each c.lines.j).1 c.lines-test.true }
