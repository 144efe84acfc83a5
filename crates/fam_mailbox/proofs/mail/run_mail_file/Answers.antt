use Rattle.std.proofs.Common.{ℕ, List, inl, inr, refl, subst, sym, ◌∙◌, arith}
use Rattle.fam_mail.specs.declared.event.MailEvent.{MailEvent}
use Rattle.fam_media.specs.States.{change}
use Rattle.fam_mailbox.specs.Lookups.{IsFilePlaced}
use Rattle.fam_mailbox.specs.Runs.{MailRan}
use Rattle.fam_mailbox.proofs.Found.{proper_entry}
use Rattle.fam_mailbox.proofs.Mailing.{ran_before}
use Rattle.fam_mailbox.proofs.mail.run_mail_file.Goals as goal

pub returns-in-Err-clause-ends : goal.returns-in-Err-clause-ends
returns-in-Err-clause-ends g c =
    let read = c.events_of.ensures.steady in
    record {
      shows = inl record { fault = c.in-Err.fault; cause = c.in-Err.ensures.fault; untouched = refl {a = g.M.Media.state c.args.media.now}; put = c.put_unread.ensures.put };
      later = record { media = omega arith; shelf = read.faults_later; shorts = read.shorts_later; sink = c.put_unread.ensures.later };
    }

pub returns-clause-ends : goal.returns-clause-ends
returns-clause-ends g c =
    let read = c.events_of.ensures.steady in
    let e = c.in-Err-find_box.ensures in
    record {
      shows = inr (inl record {
        events = c.in-Ok.events.items;
        holds = c.in-Ok.ensures.read;
        fault = c.in-Err-find_box.fault;
        is = e.fault;
        cause = e.cause;
        counted = e.counted;
        same = e.same;
        put
            = c.put_look.ensures.put;
      });
      later = record { media = e.steady.later; shelf = read.faults_later; shorts = read.shorts_later; sink = c.put_look.ensures.later };
    }

pub run_mail-requires : goal.run_mail-requires
run_mail-requires g c =
    let look = c.find_box.ensures in
    record {
      placed = subst (λ (n : ℕ). IsFilePlaced n c.in-Ok-find_box.entry) (sym look.steady.size) c.in-Ok-find_box.ensures.placed;
      room = c.in-Ok-find_box.ensures.room;
      reads = λ image is. c.in-Ok-find_box.ensures.read image (sym look.same ∙ is);
    }

pub returns-in-Ok-find_box-clause-ends : goal.returns-in-Ok-find_box-clause-ends
returns-in-Ok-find_box-clause-ends g c =
    let read = c.events_of.ensures.steady in
    let look = c.find_box.ensures in
    let found = c.in-Ok-find_box.ensures in
    let entry = c.in-Ok-find_box.entry in
    record {
      shows = inr (inr record {
        events = c.in-Ok.events.items;
        holds = c.in-Ok.ensures.read;
        entry = entry;
        proper = proper_entry (g.M.Media.size c.args.media.now) entry found.placed;
        room = found.room;
        at = found.found;
        ran = ran_before g.M.Media.exact entry c.in-Ok.events.items (g.M.Media.state c.args.media.now) (g.M.Media.state c.find_box.new.media) (g.M.Media.state c.run_mail.new.media)
            (change g.K.Sink.state c.args.out.now c.run_mail.new.out) c.run_mail.result look.same look.steady.later found.quiet
            (subst (λ (es : List MailEvent). MailRan g.M.Media.exact entry es (change g.M.Media.state c.find_box.new.media c.run_mail.new.media)
            (change g.K.Sink.state c.args.out.now c.run_mail.new.out)
            c.run_mail.result) c.as_slice.ensures.value c.run_mail.ensures.ran);
      });
      later = record {
        media = let x = look.steady.later in let y = c.run_mail.ensures.steady.later in omega (arith, x, y);
        shelf = read.faults_later;
        shorts = read.shorts_later;
        sink
            = c.run_mail.ensures.later;
      };
    }
