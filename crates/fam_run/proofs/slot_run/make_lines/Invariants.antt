use Rattle.std.proofs.Common.{◌≡◌, ◌≤◌, length, vec_capacity}
use Rattle.fam_run.proofs.slot_run.make_lines.Given as goal

abbrev pub invariant-loop : goal.invariant-loop
invariant-loop l = record {
  counted : length l.lines.items ≡ l.counter;
  room : l.count ≤ vec_capacity l.lines;
}
