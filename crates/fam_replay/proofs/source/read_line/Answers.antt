use Rattle.std.proofs.Common.{refl}
use Rattle.fam_replay.proofs.source.read_line.Goals as goal

pub returns-in-Ok-clause-quiet : goal.returns-in-Ok-clause-quiet
returns-in-Ok-clause-quiet g c = c.in-Ok.ensures.counted

pub returns-in-Ok-clause-same : goal.returns-in-Ok-clause-same
returns-in-Ok-clause-same g c = c.in-Ok.ensures.same

pub returns-in-Ok-clause-steady : goal.returns-in-Ok-clause-steady
returns-in-Ok-clause-steady g c = record { size = c.in-Ok.ensures.size; later = c.in-Ok.ensures.cause.later }

pub returns-in-Err : goal.returns-in-Err
returns-in-Err g c =
    let e = c.in-Err.ensures in
    record {
      words = tt;
      failed = refl;
      rose = e.cause.failed;
      quiet = tt;
      counted = e.counted;
      line = c.requires.within;
      same = e.same;
      steady = record { size = e.size; later = e.cause.later };
    }
