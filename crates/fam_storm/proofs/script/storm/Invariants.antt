use Rattle.std.proofs.Common.{◌≡◌, ◌-◌, ◌++◌}
use Rattle.fam_storm.specs.Storm.{storm, text_of, rounds}
use Rattle.fam_storm.proofs.script.storm.Given as goal

abbrev pub invariant-loop-i : goal.invariant-loop-i
invariant-loop-i l = l.script.items ++ text_of (rounds l.i (l.size - l.i) l.generator) ≡ storm l.seed l.size
