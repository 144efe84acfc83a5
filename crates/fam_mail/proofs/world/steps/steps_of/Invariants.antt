use Rattle.std.proofs.Common.{◌≡◌, ◌≤◌, true}
use Rattle.std.specs.Prelude.{is_some}
use Rattle.fam_media.specs.States.{change}
use Rattle.fam_mail.specs.Boxes.{capacity_of}
use Rattle.fam_mail.specs.Calls.{HostNotes, HostStays, MailHostFits}
use Rattle.fam_mail.specs.Happens.{IsCountedIn}
use Rattle.fam_mail.specs.World.{mail_host}
use Rattle.fam_mail.proofs.world.steps.steps_of.Given as goal

abbrev pub invariant-loop-done : goal.invariant-loop-done
invariant-loop-done g l = record {
  stays : (s : HostNotes (HostStays (g.M.Media.size l.fn.media) l.entry l.name (mail_host l.fn.host) (change g.M.Media.state l.fn.media l.media)
      (mail_host l.host)) l.fn.journal.items l.journal.items) × (s.does.count ≡ l._done);
  runs : is_some l.host.task ≡ true;
  fits : MailHostFits (g.M.Media.size l.fn.media) (capacity_of l.entry.size) (mail_host l.host);
  size : g.M.Media.size l.media ≡ g.M.Media.size l.fn.media;
  later : (g.M.Media.state l.fn.media).faults ≤ (g.M.Media.state l.media).faults;
  counted : g.M.Media.exact ≡ true → IsCountedIn l.fn.journal.items l.journal.items (g.M.Media.state l.fn.media).faults (g.M.Media.state l.media).faults;
}
