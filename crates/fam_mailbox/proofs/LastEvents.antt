-- The event that ended a run early, from what the loop knows before it.
use Rattle.std.proofs.Common.{◌≡◌, ℕ, ◌≤◌, List, length, take, drop, Some, Result, refl, subst}
use Rattle.std.specs.Prelude.{slice_get}
use Rattle.fam_base.specs.Image.{Image}
use Rattle.fam_base.specs.declared.entry.Entry.{Entry}
use Rattle.fam_base.specs.declared.line.OutOfMemory.{OutOfMemory}
use Rattle.fam_mail.specs.Happens.{HasRunMail, MailRunsOn}
use Rattle.fam_mail.specs.World.{MailView}
use Rattle.fam_mail.specs.declared.event.MailEvent.{MailEvent}
use Rattle.fam_mail.specs.declared.note.MailNote.{MailNote}
use Rattle.fam_mail_script.specs.Texts.{mail_text}
use Rattle.fam_media.specs.States.{MediaState, SinkChange, SinkState, change}
use Rattle.fam_program.specs.Puts.{PutWhole}
use Rattle.fam_mailbox.specs.Runs.{EndsIn}
use Rattle.fam_mailbox.proofs.Running.{Going, Noted, entry_here, rest}

module _ {M : Type 0} (size : M → ℕ) (state : M → MediaState) (entry : Entry) (events : List MailEvent) (media : M) (count : ℕ) (here next : M) (v w : MailView)
    (going : Going size state entry events count media here v) (n : Noted state here next v w) (kept : ℕ) (kept_is : kept ≡ length v.journal) where
  -- it puts this of its notes
  pub ends_in : (e : MailEvent) → slice_get events count ≡ Some e → (ended : Result (Unit {0}) OutOfMemory)
      → ((start : Image) (records : List (List ℕ)) (done : List MailEvent) → HasRunMail start records done v (state here).image → MailRunsOn start records done e w (state next).image ended)
      → (Puts : List MailNote → SinkChange → Type 0) (old mid new : SinkState) → old.faults ≤ mid.faults → PutWhole (mail_text v.journal) (record { old = old; new = mid })
      → Puts (drop kept w.journal) (record { old = mid; new = new })
      → EndsIn entry ended Puts events w.journal (change state media next) (record { old = old; new = new })
  ends_in e is ended runs Puts old mid new later whole puts = record {
    count = count;
    event = e;
    event_is = is;
    before = v.journal;
    notes = n.notes;
    joined = n.joined;
    mid = mid;
    later = later;
    whole = whole;
    puts = subst (λ (ns : List MailNote). Puts ns (record { old = mid; new = new })) (rest size state entry events media count here next v w going n kept kept_is) puts;
    told = λ start is_start.
        let t = going.told start is_start in
        record {
          records = t.records;
          first = v;
          first_entry = going.entry_is;
          before_is = refl;
          shown = (state here).image;
          done = t.run;
          world = w;
          world_entry = entry_here size state entry events media count here next v w going n;
          journal_is = refl;
          runs = runs start t.records (take count events) t.run;
        };
  }
