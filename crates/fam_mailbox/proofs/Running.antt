-- What the loop over a run's events knows before each of them, and behind it.
use Rattle.std.proofs.Common.{◌≡◌, Bool, true, ℕ, suc, ◌+◌, ◌≤◌, List, [], ◌∷◌, ◌++◌, length, take, drop, Option, Some, Result, Ok, Err, refl, ap, sym, ◌∙◌, subst, inl, inr, arith}
use Rattle.std.specs.Prelude.{slice_get}
use Rattle.std.proofs.lemmas.List.{length-append, take_all}
use Rattle.fam_base.specs.Image.{Image, IsNormal, line_at}
use Rattle.fam_base.specs.declared.entry.Entry.{Entry}
use Rattle.fam_base.specs.declared.line.OutOfMemory.{OutOfMemory}
use Rattle.fam_mail.specs.Boxes.{IsBox, box_of, capacity_of}
use Rattle.fam_mail.specs.Calls.{MailWorldFits}
use Rattle.fam_mail.specs.Happens.{MailAdds, AreByWords, IsCountedIn, MailEventSays, mail_counted, HasMailCounted, HasRunMail, MailRunsOn, mail_faults}
use Rattle.fam_mail.specs.Machines.{MailMachines}
use Rattle.fam_mail.specs.World.{MailView}
use Rattle.fam_mail.specs.declared.event.MailEvent.{MailEvent}
use Rattle.fam_mail.specs.declared.note.MailNote.{MailNote}
use Rattle.fam_mail.proofs.Readying.{first_ready}
use Rattle.fam_mail.proofs.RunLaws.{first_run}
use Rattle.fam_mail_script.specs.Statuses.{is_good_mail}
use Rattle.fam_mail_script.specs.Texts.{mail_text}
use Rattle.fam_media.specs.Causes.{IsSteady}
use Rattle.fam_media.specs.Outside.{IfModelled}
use Rattle.fam_media.specs.States.{MediaState, SinkState, change}
use Rattle.fam_outcomes.specs.declared.status.Status.{Status}
use Rattle.fam_outcomes.specs.declared.status.Status.TheVariants as status
use Rattle.fam_outcomes.specs.Statuses.{good_status}
use Rattle.fam_program.specs.Puts.{PutPart, PutWhole}
use Rattle.fam_program.proofs.Runs.OneMore.{take_next}
use Rattle.fam_program.proofs.Texts.Pieces.{part_both, whole_both}
use Rattle.fam_rules.specs.Written.{file_line}
use Rattle.fam_mailbox.specs.Lookups.{IsFilePlaced}
use Rattle.fam_mailbox.specs.Puts.{PutShortMail}
use Rattle.fam_mailbox.specs.Runs.{AllDone, EndsIn, HasDoneMail, MailEnding, MailRan, PutsByEvent, PutsFirst, PutsPart, SinkFails, WantsMemory}
use Rattle.fam_mailbox.proofs.Found.{lines_apart, lines_within}
use Rattle.fam_mailbox.proofs.Rendering.{short_behind, text_both}

-- events lead to a world, from an image of which the box reads as a list
pub record LeadsTo (start : Image) (events : List MailEvent) (v : MailView) (now : Option Image) : Type 0 where
  pub records : List (List ℕ)
  pub run : HasRunMail start records events v now

-- the first `count` events are done
pub record Going {M : Type 0} (size : M → ℕ) (state : M → MediaState) (entry : Entry) (events : List MailEvent) (count : ℕ) (media here : M) (v : MailView) : Type 0 where
  pub size_is : size here ≡ size media
  pub later : (state media).faults ≤ (state here).faults
  pub fits : MailWorldFits (size here) v
  pub entry_is : v.entry ≡ entry
  pub counted : HasMailCounted (state media).faults (state here).faults v.journal
  pub by_words : AreByWords v.journal
  pub told : IfModelled (state media).image (λ start. LeadsTo start (take count events) v (state here).image)

-- Notes behind others.

both_faults : (a b : List MailNote) → mail_faults (a ++ b) ≡ mail_faults a + mail_faults b
both_faults [] b = omega arith
both_faults (x ∷ a) b = omega (arith, both_faults a b)

both_words : (a b : List MailNote) → AreByWords a → AreByWords b → AreByWords (a ++ b)
both_words [] b first second = second
both_words (x ∷ a) b first second = (first.0, both_words a b first.1 second)

take_front : {A : Type 0} (xs ys : List A) → take (length xs) (xs ++ ys) ≡ xs
take_front [] ys = refl
take_front (x ∷ xs) ys = ap (λ zs. x ∷ zs) (take_front xs ys)

drop_front : {A : Type 0} (xs ys : List A) → drop (length xs) (xs ++ ys) ≡ ys
drop_front [] ys = refl
drop_front (x ∷ xs) ys = drop_front xs ys

-- what was counted behind all notes of a journal
pub counted_whole : (journal : List MailNote) (old now : ℕ) → IsCountedIn [] journal old now → now ≡ mail_counted old journal
counted_whole journal old now c = c.count ∙ ap (mail_counted old) (sym c.joined)

-- a world by its fields
fresh : (v : MailView) (e : Entry) → v.entry ≡ e → v.hosts ≡ [] → v.journal ≡ [] → v ≡ record { entry = e; hosts = []; journal = [] }
fresh v e entry hosts journal =
    ap (λ x. record { entry = x; hosts = v.hosts; journal = v.journal }) entry
    ∙ ap (λ x. record { entry = e; hosts = x; journal = v.journal }) hosts
    ∙ ap (λ x. record { entry = e; hosts = []; journal = x }) journal

-- the notes that an event adds, however it ended
pub record Noted {M : Type 0} (state : M → MediaState) (before behind : M) (old new : MailView) : Type 0 where
  pub notes : List MailNote
  pub entry_is : new.entry ≡ old.entry
  pub joined : new.journal ≡ old.journal ++ notes
  pub counted : HasMailCounted (state before).faults (state behind).faults notes
  pub by_words : AreByWords notes

noted_by : {M : Type 0} {P : MailMachines → List MailNote → MailMachines → Type 0} (state : M → MediaState) (before behind : M) (old new : MailView)
    → MailAdds P (change state before behind) old new → Noted state before behind old new
noted_by state before behind old new adds = record { notes = adds.notes; entry_is = adds.entry_is; joined = adds.joined; counted = adds.counted; by_words = adds.by_words }

-- an event adds its notes, however it ends
pub noted : {M : Type 0} (state : M → MediaState) (before behind : M) (e : MailEvent) (old new : MailView) (ended : Result (Unit {0}) OutOfMemory)
    → MailEventSays e (change state before behind) old new ended → Noted state before behind old new
noted state before behind e old new (Ok done) says = noted_by state before behind old new says
noted state before behind e old new (Err full) says = noted_by state before behind old new says

module _ {M : Type 0} (size : M → ℕ) (state : M → MediaState) (entry : Entry) (events : List MailEvent) (media : M) where
  -- before the first event
  pub first_going : (v : MailView) → v.entry ≡ entry → v.hosts ≡ [] → v.journal ≡ [] → IsFilePlaced (size media) entry → 128 ≤ entry.size → IsNormal (state media).image
      → ((image : Image) → (state media).image ≡ Some image → size media ≡ length image)
      → IfModelled (state media).image (λ image. IsBox (file_line entry) (capacity_of entry.size) (line_at image)) → Going size state entry events 0 media media v
  first_going v entry_is hosts journal placed room normal count is_box =
      let here = fresh v entry entry_is hosts journal in
      record {
        size_is = refl;
        later = omega arith;
        fits = subst (MailWorldFits (size media)) (sym here) (first_ready (size media) entry (lines_within (size media) entry placed room)).fits;
        entry_is = entry_is;
        counted = let none = ap mail_faults journal in omega (arith, none);
        by_words = subst AreByWords (sym journal) tt;
        told = λ start is.
            let b = is_box start is in
            record {
              records = b.0;
              run = subst (λ (w : MailView). HasRunMail start b.0 [] w (state media).image) (sym here)
                  (subst (HasRunMail start b.0 [] (record { entry = entry; hosts = []; journal = [] })) (sym is)
                  (first_run entry start b.0
                  record {
                    apart = lines_apart (size media) entry placed room;
                    place = λ j below. let w = lines_within (size media) entry placed room j below in let c = count start is in omega (arith, w, c);
                    normal = subst IsNormal is normal;
                    reads = b.1;
                  }));
            };
      }

  module _ (count : ℕ) (here next : M) (v w : MailView) (going : Going size state entry events count media here v) (n : Noted state here next v w) where
    pub joined_counted : HasMailCounted (state media).faults (state next).faults w.journal
    joined_counted =
        let x = going.counted in
        let y = n.counted in
        let sum = ap mail_faults n.joined ∙ both_faults v.journal n.notes in
        omega (arith, x, y, sum)

    pub joined_words : AreByWords w.journal
    joined_words = subst AreByWords (sym n.joined) (both_words v.journal n.notes going.by_words n.by_words)

    -- the world is still that of the entry
    pub entry_here : w.entry ≡ entry
    entry_here = n.entry_is ∙ going.entry_is

    -- one event more
    pub goes_on : (e : MailEvent) → slice_get events count ≡ Some e → IsSteady size state here next → MailWorldFits (size next) w
        → ((start : Image) (records : List (List ℕ)) (done : List MailEvent) → HasRunMail start records done v (state here).image → HasRunMail start records (done ++ e ∷ []) w (state next).image)
        → Going size state entry events (count + 1) media next w
    goes_on e is steady fits runs =
        let next_count : count + 1 ≡ suc count = omega arith in
        let one_more : take (count + 1) events ≡ take (suc count) events = ap (λ (n : ℕ). take n events) next_count in
        record {
          size_is = steady.size ∙ going.size_is;
          later = let x = going.later in let y = steady.later in omega (arith, x, y);
          fits = fits;
          entry_is = entry_here;
          counted = joined_counted;
          by_words = joined_words;
          told = λ start is_start.
              let t = going.told start is_start in
              record {
                records = t.records;
                run = subst (λ (es : List MailEvent). HasRunMail start t.records es w (state next).image) (sym (one_more ∙ take_next events count e is))
                    (runs start t.records (take count events) t.run);
              };
        }

    module _ (kept : ℕ) (kept_is : kept ≡ length v.journal) where
      -- the notes of an event stand behind those before
      pub from_within : kept ≤ length w.journal
      from_within =
          let sum = ap (λ (ns : List MailNote). length ns) n.joined ∙ length-append v.journal n.notes in omega (arith, sum, kept_is)

      -- and are what is put of it
      pub rest : drop kept w.journal ≡ n.notes
      rest = ap (λ (k : ℕ). drop k w.journal) kept_is ∙ ap (drop (length v.journal)) n.joined ∙ drop_front v.journal n.notes

      whole : v.journal ++ drop kept w.journal ≡ w.journal
      whole = ap (λ (ns : List MailNote). v.journal ++ ns) rest ∙ sym n.joined

      text_whole : mail_text v.journal ++ mail_text (drop kept w.journal) ≡ mail_text w.journal
      text_whole = sym (text_both v.journal (drop kept w.journal)) ∙ ap mail_text whole

      module _ (old mid new : SinkState) (later : old.faults ≤ mid.faults) (put : PutWhole (mail_text v.journal) (record { old = old; new = mid })) where
        -- its notes were put
        pub text_put : PutWhole (mail_text (drop kept w.journal)) (record { old = mid; new = new }) → PutWhole (mail_text w.journal) (record { old = old; new = new })
        text_put more = subst (λ (t : List ℕ). PutWhole t (record { old = old; new = new })) text_whole (whole_both (mail_text v.journal) (mail_text (drop kept w.journal)) old mid new later put more)

        -- or a part of them
        pub part_put : PutPart (mail_text (drop kept w.journal)) (record { old = mid; new = new }) → PutPart (mail_text w.journal) (record { old = old; new = new })
        part_put more = subst (λ (t : List ℕ). PutPart t (record { old = old; new = new })) text_whole (part_both (mail_text v.journal) (mail_text (drop kept w.journal)) old mid new later put more)

        -- or the first of them, and that no memory is left
        pub short_put : (given : Status) → PutShortMail (drop kept w.journal) (record { old = mid; new = new }) given → PutShortMail w.journal (record { old = old; new = new }) given
        short_put given more =
            subst (λ (ns : List MailNote). PutShortMail ns (record { old = old; new = new }) given) whole (short_behind v.journal (drop kept w.journal) old mid new later given put more)

  -- How the run ends.

  module _ {K : Type 0} (sink_state : K → SinkState) (out last : K) (exact : Bool) where
    ended : (ending : MailEnding) (next : M) (w : MailView) (given : Status) → w.entry ≡ entry
        → HasMailCounted (state media).faults (state next).faults w.journal → AreByWords w.journal
        → (exact ≡ true → (state next).faults ≡ mail_counted (state media).faults w.journal)
        → ((start : Image) → (state media).image ≡ Some start
        → (records : List (List ℕ)) × (box_of (file_line w.entry) (capacity_of w.entry.size) (line_at start) ≡ Ok records)
        × HasDoneMail ending start records events w (state next).image)
        → Rattle.fam_mailbox.specs.Runs.PutsMail ending w.journal (change sink_state out last) given
        → PutsByEvent ending entry events w.journal (change state media next) (change sink_state out last) given
        → MailRan exact entry events (change state media next) (change sink_state out last) given
    ended ending next w given entry_is counted words exactly done puts each = record {
      ending = ending;
      journal = w.journal;
      counted = counted;
      exactly = exactly;
      by_words = words;
      told = λ start is.
          let d = done start is in
          record {
            records = d.0;
            reads = subst (λ (e : Entry). box_of (file_line e) (capacity_of e.size) (line_at start) ≡ Ok d.0) entry_is d.1;
            world = w;
            entry_is = entry_is;
            journal_is = refl;
            done = d.2;
          };
      put = puts;
      each = each;
    }

    -- all events are done
    pub all_ran : (count : ℕ) (next : M) (w : MailView) (given : Status)
        → (exact ≡ true → (state next).faults ≡ mail_counted (state media).faults w.journal) → length events ≤ count
        → Going size state entry events count media next w → given ≡ good_status (is_good_mail w.journal)
        → PutWhole (mail_text w.journal) (change sink_state out last) → MailRan exact entry events (change state media next) (change sink_state out last) given
    all_ran count next w given exactly all going good put =
        ended AllDone next w given going.entry_is going.counted going.by_words exactly
        (λ start is.
        let t = going.told start is in
        (t.records, t.run.reads, subst (λ (es : List MailEvent). HasRunMail start t.records es w (state next).image) (take_all count events all) t.run))
        (good, put) tt

    -- the sink failed behind an event
    pub sink_ran : (count : ℕ) (next : M) (w : MailView) → (exact ≡ true → (state next).faults ≡ mail_counted (state media).faults w.journal)
        → Going size state entry events count media next w → PutPart (mail_text w.journal) (change sink_state out last)
        → EndsIn entry (Ok tt) PutsPart events w.journal (change state media next) (change sink_state out last)
        → MailRan exact entry events (change state media next) (change sink_state out last) status.SinkFault
    sink_ran count next w exactly going put each =
        ended SinkFails next w status.SinkFault going.entry_is going.counted going.by_words exactly
        (λ start is. let t = going.told start is in (t.records, t.run.reads, record { count = count; run = t.run })) (refl, put) each

    -- no memory was left behind an event
    pub short_ran : (count : ℕ) (next : M) (w : MailView) (given : Status)
        → (exact ≡ true → (state next).faults ≡ mail_counted (state media).faults w.journal) → Going size state entry events count media next w
        → PutShortMail w.journal (change sink_state out last) given
        → EndsIn entry (Ok tt) (PutsFirst given) events w.journal (change state media next) (change sink_state out last)
        → MailRan exact entry events (change state media next) (change sink_state out last) given
    short_ran count next w given exactly going put each =
        ended WantsMemory next w given going.entry_is going.counted going.by_words exactly
        (λ start is. let t = going.told start is in (t.records, t.run.reads, inl record { count = count; run = t.run })) put (inl each)

    -- or in it
    pub cut_ran : (count : ℕ) (here next : M) (v w : MailView) (given : Status) (e : MailEvent) (full : OutOfMemory)
        → (exact ≡ true → (state next).faults ≡ mail_counted (state media).faults w.journal) → Going size state entry events count media here v
        → Noted state here next v w
        → slice_get events count ≡ Some e
        → ((start : Image) (records : List (List ℕ)) (done : List MailEvent) → HasRunMail start records done v (state here).image → MailRunsOn start records done e w (state next).image (Err full))
        → PutShortMail w.journal (change sink_state out last) given → EndsIn entry (Err (record {})) (PutsFirst given) events w.journal (change state media next) (change sink_state out last)
        → MailRan exact entry events (change state media next) (change sink_state out last) given
    cut_ran count here next v w given e full exactly going n is runs put each =
        ended WantsMemory next w given (entry_here count here next v w going n) (joined_counted count here next v w going n) (joined_words count here next v w going n) exactly
        (λ start is_start.
        let t = going.told start is_start in
        let part = runs start t.records (take count events) t.run in
        (t.records, part.reads, inr record { count = count; event = e; event_is = is; run = part }))
        put (inr each)
