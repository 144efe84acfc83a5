-- A run behind the look at its box, and the script's own faults.
use Rattle.std.proofs.Common.{◌≡◌, ◌≤◌, ℕ, Bool, true, List, Result, Ok, Err, inl, inr, ◌∙◌, ap, arith}
use Rattle.fam_base.specs.declared.entry.Entry.{Entry}
use Rattle.fam_base.specs.declared.line.OutOfMemory.{OutOfMemory as Full}
use Rattle.fam_mail.specs.Happens.{mail_counted}
use Rattle.fam_mail.specs.declared.event.MailEvent.{MailEvent}
use Rattle.fam_mail.specs.declared.note.MailNote.{MailNote}
use Rattle.fam_media.specs.States.{MediaState, SinkChange}
use Rattle.fam_outcomes.specs.declared.status.Status.{Status}
use Rattle.fam_mailbox.specs.Runs.{AllDone, EndsIn, MailEnding, MailRan, PutsByEvent, PutsFirst, PutsPart, SinkFails, WantsMemory}

-- the event that ended it
module _ (entry : Entry) (events : List MailEvent) (journal : List MailNote) (first before behind : MediaState) (s : SinkChange) (same : before.image ≡ first.image) where
  ends_before : (ended : Result (Unit {0}) Full) (Puts : List MailNote → SinkChange → Type 0) → EndsIn entry ended Puts events journal (record { old = before; new = behind }) s
      → EndsIn entry ended Puts events journal (record { old = first; new = behind }) s
  ends_before ended Puts x = record {
    count = x.count;
    event = x.event;
    event_is = x.event_is;
    before = x.before;
    notes = x.notes;
    joined = x.joined;
    mid = x.mid;
    later = x.later;
    whole = x.whole;
    puts = x.puts;
    told = λ start is. x.told start (same ∙ is);
  }

  each_before : (ending : MailEnding) (given : Status) → PutsByEvent ending entry events journal (record { old = before; new = behind }) s given
      → PutsByEvent ending entry events journal (record { old = first; new = behind }) s given
  each_before AllDone given each = tt
  each_before SinkFails given each = ends_before (Ok tt) PutsPart each
  each_before WantsMemory given (inl each) = inl (ends_before (Ok tt) (PutsFirst given) each)
  each_before WantsMemory given (inr each) = inr (ends_before (Err (record {})) (PutsFirst given) each)

-- a run, from before the look: the media's count was no higher then, and as high where it counts exactly
pub ran_before : (exact : Bool) (entry : Entry) (events : List MailEvent) (first before behind : MediaState) (s : SinkChange) (given : Status)
    → before.image ≡ first.image → first.faults ≤ before.faults → (exact ≡ true → before.faults ≡ first.faults)
    → MailRan exact entry events (record { old = before; new = behind }) s given → MailRan exact entry events (record { old = first; new = behind }) s given
ran_before exact entry events first before behind s given same later quiet x = record {
  ending = x.ending;
  journal = x.journal;
  counted = let counted = x.counted in omega (arith, counted, later);
  exactly = λ is. x.exactly is ∙ ap (λ (n : ℕ). mail_counted n x.journal) (quiet is);
  by_words = x.by_words;
  told = λ start is. x.told start (same ∙ is);
  put = x.put;
  each = each_before entry events x.journal first before behind s same x.ending given x.each;
}
