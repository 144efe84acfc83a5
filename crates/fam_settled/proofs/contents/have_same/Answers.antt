use Rattle.std.proofs.Common.{sym}
use Rattle.std.proofs.lemmas.Bool.{true≢false}
use Rattle.fam_settled.proofs.Fills.{none_differs, one_differs}
use Rattle.fam_settled.proofs.contents.have_same.Goals as goal

pub returns-in-Some : goal.returns-in-Some
returns-in-Some c =
    let found = c.line-found in
    let wanted = c.line-wanted in
    let at = c.in-Some.field-0 in (
      λ h. absurd (true≢false (sym h)),
      λ same.
          absurd (one_differs c.args.a.now c.args.b.now c.args.end c.lines.j found.result wanted.result c.holds_bytes.ensures c.holds_bytes-2.ensures
          (found.ensures.line c.lines.j c.lines.invariant.first) (wanted.ensures.line c.lines.j c.lines.invariant.second) at.0 at.1 at.2 c.in-Some.ensures same),
    )

pub lines-preserved : goal.lines-preserved
lines-preserved c =
    let found = c.line-found in
    let wanted = c.line-wanted in
    record {
      first = found.ensures.stands c.lines.j c.lines.invariant.first;
      second = wanted.ensures.stands c.lines.j c.lines.invariant.second;
      same = none_differs c.args.a.now c.args.b.now c.args.end c.lines.j found.result wanted.result c.holds_bytes.ensures c.holds_bytes-2.ensures
          (found.ensures.line c.lines.j c.lines.invariant.first) (wanted.ensures.line c.lines.j c.lines.invariant.second) c.in-None.ensures c.lines.invariant.same;
    }

pub line-found-requires : goal.line-found-requires
line-found-requires c =
    record { given = c.lines.j; stands = c.lines.invariant.first; left = (c.lines_of-j-end.ensures.each c.lines.j).1 c.lines-test.true }

pub line-wanted-requires : goal.line-wanted-requires
line-wanted-requires c =
    record { given = c.lines.j; stands = c.lines.invariant.second; left = (c.lines_of-j-end.ensures.each c.lines.j).1 c.lines-test.true }
