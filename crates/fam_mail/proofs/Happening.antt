-- A run goes on with what an event says.
use Rattle.std.proofs.Common.{◌≡◌, ℕ, List, [], ◌∷◌, ◌++◌, sym, subst}
use Rattle.std.specs.Prelude.{Result, Ok, Err}
use Rattle.fam_base.specs.Image.{Image, line_at}
use Rattle.fam_base.specs.declared.entry.Entry.{Entry}
use Rattle.fam_base.specs.declared.line.OutOfMemory.{OutOfMemory}
use Rattle.fam_media.specs.States.{MediaChange}
use Rattle.fam_mail.specs.declared.event.MailEvent.{MailEvent}
use Rattle.fam_mail.specs.declared.note.MailNote.{MailNote}
use Rattle.fam_rules.specs.Written.{file_line}
use Rattle.fam_mail.specs.Boxes.{box_of, capacity_of}
use Rattle.fam_mail.specs.Follows.{MailDoes, MailDoesPart, MailFollows, MailFollowsCut, IsSoundMailEvent}
use Rattle.fam_mail.specs.Happens.{MailAdds, MailEventSays, HasRunMail, IsMailHeld, MailRunsOn}
use Rattle.fam_mail.specs.Machines.{MailMachines, unused_machines}
use Rattle.fam_mail.specs.World.{MailHost, MailView}
use Rattle.fam_mail.proofs.Following.{does_held, follows_more, part_held}

module _ (start : Image) (records : List (List ℕ)) (events : List MailEvent) (e : MailEvent) (sound : IsSoundMailEvent e) (told : MediaChange) (old new : MailView)
    (run : HasRunMail start records events old told.old.image) where
  -- what was done of the world's machine was done of the run's
  from_last : (P : MailMachines → List MailNote → MailMachines → Type 0) (adds : MailAdds P told old new) → P run.last adds.notes (adds.leads run.last.memory run.shown_is).left
  from_last P adds =
      let leads = adds.leads run.last.memory run.shown_is in
      subst (λ (hs : List MailHost). P (record { memory = run.last.memory; hosts = hs }) adds.notes leads.left) run.hosts_are leads.does

  reads : new.entry ≡ old.entry → box_of (file_line new.entry) (capacity_of new.entry.size) (line_at start) ≡ Ok records
  reads same = subst (λ (entry : Entry). box_of (file_line entry) (capacity_of entry.size) (line_at start) ≡ Ok records) (sym same) run.reads

  -- a run goes on with an event, or ends in it
  pub runs_on : (r : Result (Unit {0}) OutOfMemory) → MailEventSays e told old new r → MailRunsOn start records events e new told.new.image r
  runs_on (Ok x) adds =
      let leads = adds.leads run.last.memory run.shown_is in
      let does = from_last (MailDoes old.entry e) adds in
      let journal : new.journal ≡ old.journal ++ adds.notes = adds.joined in
      record {
        reads = reads adds.entry_is;
        last = leads.left;
        follows = subst (λ (entry : Entry). MailFollows entry (events ++ e ∷ []) (unused_machines start) new.journal leads.left) (sym adds.entry_is)
            (subst (λ (j : List MailNote). MailFollows old.entry (events ++ e ∷ []) (unused_machines start) j leads.left) (sym journal)
            (follows_more old.entry events e (unused_machines start) run.last leads.left old.journal adds.notes run.follows does));
        shown_is = leads.shown_is;
        hosts_are = leads.hosts_are;
        held = subst (λ (entry : Entry). IsMailHeld entry start records leads.left new.journal) (sym adds.entry_is)
            (subst (λ (j : List MailNote). IsMailHeld old.entry start records leads.left j) (sym journal)
            (does_held old.entry start records run.last old.journal run.held e sound adds.notes leads.left does));
      }
  runs_on (Err full) adds =
      let leads = adds.leads run.last.memory run.shown_is in
      let does = from_last (MailDoesPart old.entry e) adds in
      let cut : MailFollowsCut old.entry events e (unused_machines start) new.journal leads.left = record
      { mid = run.last; whole = old.journal; part = adds.notes; follows = run.follows; does = does; joined = adds.joined } in
      record {
        reads = reads adds.entry_is;
        last = leads.left;
        follows = subst (λ (entry : Entry). MailFollowsCut entry events e (unused_machines start) new.journal leads.left) (sym adds.entry_is) cut;
        shown_is = leads.shown_is;
        hosts_are = leads.hosts_are;
        held = subst (λ (entry : Entry). IsMailHeld entry start records leads.left new.journal) (sym adds.entry_is)
            (subst (λ (j : List MailNote). IsMailHeld old.entry start records leads.left j) (sym adds.joined)
            (part_held old.entry start records run.last old.journal run.held e sound adds.notes leads.left does));
      }
