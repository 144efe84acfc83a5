-- What a run over a mailbox leaves.
use Rattle.std.proofs.Common.{◌≡◌, Bool, List, ℕ, Option, Some, Ok, inl, inr, sym, subst, ◌∙◌}
use Rattle.std.proofs.lemmas.Option.{same_Some}
use Rattle.fam_base.specs.Image.{Image, line_at}
use Rattle.fam_base.specs.declared.entry.Entry.{Entry}
use Rattle.fam_mail.specs.Boxes.{box_of, capacity_of}
use Rattle.fam_mail.specs.Happens.{IsMailHeld, HasRunMail, HasRunMailPart}
use Rattle.fam_mail.specs.Legal.{mail_state}
use Rattle.fam_mail.specs.Machines.{MailMachines}
use Rattle.fam_mail.specs.RunLaws.{IsBoxLeft}
use Rattle.fam_mail.specs.World.{MailView}
use Rattle.fam_mail.specs.declared.event.MailEvent.{MailEvent}
use Rattle.fam_mail.specs.declared.note.MailNote.{MailNote}
use Rattle.fam_mail.proofs.RunLaws.{left_box}
use Rattle.fam_media.specs.States.{MediaChange, SinkChange}
use Rattle.fam_outcomes.specs.declared.status.Status.{Status}
use Rattle.fam_rules.specs.Written.{file_line}
use Rattle.fam_mailbox.specs.Runs.{AllDone, HasDoneMail, IsMailLeft, MailEnding, MailRan, SinkFails, WantsMemory}

-- a state that is held, as the media shows it
held_left : (v : MailView) (start image : Image) (records : List (List ℕ)) (m : MailMachines) (now : Option Image)
    → box_of (file_line v.entry) (capacity_of v.entry.size) (line_at start) ≡ Ok records → IsMailHeld v.entry start records m v.journal → now ≡ Some m.memory → now ≡ Some image
    → IsMailLeft v.entry start image v.journal
held_left v start image records m now reads held shown told = record {
  records = records;
  reads = reads;
  legal = held.legal;
  left = subst (λ (i : Image). IsBoxLeft v.entry start i (mail_state (capacity_of v.entry.size) records v.journal).mail) (same_Some m.memory image (sym shown ∙ told))
      (left_box v.entry start records m v.journal held);
}

run_left : (events : List MailEvent) (v : MailView) (start image : Image) (records : List (List ℕ)) (now : Option Image) → now ≡ Some image → HasRunMail start records events v now
    → IsMailLeft v.entry start image v.journal
run_left events v start image records now told run = held_left v start image records run.last now run.reads run.held run.shown_is told

part_left : (events : List MailEvent) (e : MailEvent) (v : MailView) (start image : Image) (records : List (List ℕ)) (now : Option Image) → now ≡ Some image
    → HasRunMailPart start records events e v now → IsMailLeft v.entry start image v.journal
part_left events e v start image records now told run = held_left v start image records run.last now run.reads run.held run.shown_is told

done_left : (ending : MailEnding) (events : List MailEvent) (v : MailView) (start image : Image) (records : List (List ℕ)) (now : Option Image) → now ≡ Some image
    → HasDoneMail ending start records events v now → IsMailLeft v.entry start image v.journal
done_left AllDone events v start image records now told run = run_left events v start image records now told run
done_left SinkFails events v start image records now told first = run_left _ v start image records now told first.run
done_left WantsMemory events v start image records now told (inl first) = run_left _ v start image records now told first.run
done_left WantsMemory events v start image records now told (inr first) = part_left _ first.event v start image records now told first.run

-- what a run leaves, however it ends
pub ran_left : (exact : Bool) (entry : Entry) (events : List MailEvent) (media : MediaChange) (s : SinkChange) (given : Status) (start image : Image) (ran : MailRan exact entry events media s given)
    → media.old.image ≡ Some start → media.new.image ≡ Some image → IsMailLeft entry start image ran.journal
ran_left exact entry events media s given start image ran first last =
    let t = ran.told start first in
    subst (λ (ns : List MailNote). IsMailLeft entry start image ns) t.journal_is
    (subst (λ (e : Entry). IsMailLeft e start image t.world.journal) t.entry_is (done_left ran.ending events t.world start image t.records media.new.image last t.done))
