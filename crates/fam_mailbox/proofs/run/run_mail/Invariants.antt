use Rattle.std.proofs.Common.{◌≡◌, ◌≤◌, [], true}
use Rattle.fam_mail.specs.Happens.{IsCountedIn}
use Rattle.fam_mail_script.specs.Texts.{mail_text}
use Rattle.fam_media.specs.States.{change}
use Rattle.fam_program.specs.Puts.{PutWhole}
use Rattle.fam_mailbox.proofs.Running.{Going}
use Rattle.fam_mailbox.proofs.run.run_mail.Given as goal

abbrev pub invariant-events : goal.invariant-events
invariant-events g l = record {
  going : Going g.M.Media.size g.M.Media.state l.entry l.events l.event-index l.fn.media l.media l.world;
  exactly : g.M.Media.exact ≡ true → IsCountedIn [] l.world.journal (g.M.Media.state l.fn.media).faults (g.M.Media.state l.media).faults;
  put : PutWhole (mail_text l.world.journal) (change g.K.Sink.state l.fn.out l.out);
  later : (g.K.Sink.state l.fn.out).faults ≤ (g.K.Sink.state l.out).faults;
}
