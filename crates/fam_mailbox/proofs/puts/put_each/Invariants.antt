use Rattle.std.proofs.Common.{◌≤◌, take}
use Rattle.fam_mail_script.specs.Texts.{mail_text}
use Rattle.fam_media.specs.States.{change}
use Rattle.fam_program.specs.Puts.{PutWhole}
use Rattle.fam_mailbox.proofs.puts.put_each.Given as goal

abbrev pub invariant-notes : goal.invariant-notes
invariant-notes g l = record {
  put : PutWhole (mail_text (take l.note-index l.notes)) (change g.K.Sink.state l.fn.out l.out);
  later : (g.K.Sink.state l.fn.out).faults ≤ (g.K.Sink.state l.out).faults;
}
