use Rattle.std.proofs.Common.{◌≡◌, length}
use Rattle.fam_program.specs.Far.{AreSoundEvents}
use Rattle.fam_grammar.specs.Scripts.{line_reads}
use Rattle.fam_grammar.proofs.LinesRead.{HasRead}
use Rattle.fam_program.proofs.read.read_script.Given as goal

abbrev pub invariant-loop-line : goal.invariant-loop-line
invariant-loop-line l = record {
  number : l.number ≡ length l.yielded;
  read : HasRead line_reads l.bytes l.number l.events.items;
  sound : AreSoundEvents l.events.items;
}
