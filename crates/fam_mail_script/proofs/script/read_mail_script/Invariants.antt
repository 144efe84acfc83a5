use Rattle.std.proofs.Common.{◌≡◌, length}
use Rattle.fam_mail_script.specs.Scripts.{mail_line_reads}
use Rattle.fam_grammar.proofs.LinesRead.{HasRead}
use Rattle.fam_mail_script.proofs.script.read_mail_script.Given as goal

abbrev pub invariant-loop-line : goal.invariant-loop-line
invariant-loop-line l = record {
  number : l.number ≡ length l.yielded;
  read : HasRead mail_line_reads l.bytes l.number l.events.items;
}
