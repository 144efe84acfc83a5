use Rattle.std.proofs.Common.{◌≡◌, ◌≤◌, ℕ, Bool, true, false, ◌∷◌, [], List, Option, Some, None, inl, inr, refl, sym, ap, ◌∙◌}
use Rattle.std.specs.Prelude.{if◌then◌else◌}
use Rattle.fam_base.specs.declared.entry.Entry.{Entry}
use Rattle.fam_media.specs.States.{MediaChange, change}
use Rattle.fam_rules.specs.Written.{file_line}
use Rattle.fam_mail.specs.Calls.{HostOperates, kept_task, notes_of_turn}
use Rattle.fam_mail.specs.Running.{IsTaskDone}
use Rattle.fam_mail.specs.Tasks.{MailTask, ends_mail_task, next_task}
use Rattle.fam_mail.specs.World.{MailHost, mail_host}
use Rattle.fam_mail.specs.declared.note.MailNote.TheVariants as note
use Rattle.fam_mail.specs.declared.turn.Turn.{Turn}
use Rattle.fam_mail.proofs.Counting.{fault_counted, media_counted, none_counted, turn_counted, unmedia_counted}
use Rattle.fam_mail.proofs.world.steps.step_of.Goals as goal

-- what is left of a task that goes on is its next state
kept_is : (turn : Turn) (left next : MailTask) → (ends_mail_task turn ≡ false → left ≡ next) → kept_task turn left ≡ kept_task turn next
kept_is turn left next goes = go (ends_mail_task turn) refl
  where
    go : (b : Bool) → ends_mail_task turn ≡ b → (if b then None else Some left) ≡ (if b then None else Some next)
    go true is = refl
    go false is = ap (λ (x : MailTask). Some x) (goes is)

-- an operation that the media served, with the notes of its turn
module _ (entry : Entry) (name : List ℕ) (h next : MailHost) (t left : MailTask) (told : MediaChange) (turn : Turn) (over : Bool) where
  served : h.task ≡ Some t → told.old.faults ≤ told.new.faults → over ≡ ends_mail_task turn
      → IsTaskDone (record {
        place = file_line entry;
        task = t;
        next = left;
        old = h.cache;
        new = next.cache;
        told = told.old.image;
        left =
            told.new.image;
        before = told.old.faults;
        now = told.new.faults;
      }) turn
      → next ≡ record h { cache = next.cache; task = kept_task turn left } → HostOperates entry name h told over next (notes_of_turn name turn)
  served is later ends d next_is = record {
    task = t;
    task_is = is;
    how = inl (record {
      word = d.word;
      done = d.done;
      word_is = d.word_is;
      over_is = ends ∙ ap ends_mail_task d.turn_is;
      next_is = next_is ∙ ap (λ (o : Option MailTask). record h { cache = next.cache; task = o })
          (kept_is turn left (next_task d.word t) d.goes ∙ ap (λ (u : Turn). kept_task u (next_task d.word t)) d.turn_is);
      notes_are = ap (notes_of_turn name) d.turn_is;
    });
    later = later;
  }

pub returns-then-over-clause-stepped : goal.returns-then-over-clause-stepped
returns-then-over-clause-stepped g c =
    let h : MailHost = mail_host c.args.host.now in
    let next : MailHost = record h { cache = c.operate.new.cache.lines; task = None } in
    let ends : ends_mail_task c.in-Ok.turn ≡ true = sym c.note_turn-over.ensures.over ∙ c.if-over.true in
    record {
      notes = notes_of_turn c.args.name.now c.in-Ok.turn;
      does = served c.args.entry.now c.args.name.now h next c.in-Some.task c.operate.new.task (change g.M.Media.state c.args.media.now c.operate.new.media) c.in-Ok.turn c.note_turn-over.result
          c.in-Some.is c.operate.ensures.steady.later c.note_turn-over.ensures.over c.in-Ok.ensures.operated
          (ap (λ (b : Bool). record h { cache = c.operate.new.cache.lines; task = if b then None else Some c.operate.new.task }) (sym ends));
      noted = c.note_turn-over.ensures.noted;
    }

pub returns-else-over-clause-stepped : goal.returns-else-over-clause-stepped
returns-else-over-clause-stepped g c =
    let h : MailHost = mail_host c.args.host.now in
    let next : MailHost = record h { cache = c.operate.new.cache.lines; task = Some c.operate.new.task } in
    let on : ends_mail_task c.in-Ok.turn ≡ false = sym c.note_turn-over.ensures.over ∙ c.if-over.false in
    record {
      notes = notes_of_turn c.args.name.now c.in-Ok.turn;
      does = served c.args.entry.now c.args.name.now h next c.in-Some.task c.operate.new.task (change g.M.Media.state c.args.media.now c.operate.new.media) c.in-Ok.turn c.note_turn-over.result
          c.in-Some.is c.operate.ensures.steady.later c.note_turn-over.ensures.over c.in-Ok.ensures.operated
          (ap (λ (b : Bool). record h { cache = c.operate.new.cache.lines; task = if b then None else Some c.operate.new.task }) (sym on));
      noted = c.note_turn-over.ensures.noted;
    }

pub returns-then-over-clause-steady : goal.returns-then-over-clause-steady
returns-then-over-clause-steady g c = c.operate.ensures.steady

pub returns-else-over-clause-steady : goal.returns-else-over-clause-steady
returns-else-over-clause-steady g c = c.operate.ensures.steady

pub returns-in-Err-MediaFault-clause-steady : goal.returns-in-Err-MediaFault-clause-steady
returns-in-Err-MediaFault-clause-steady g c = c.operate.ensures.steady

pub returns-in-Err-OutOfMemory-clause-steady : goal.returns-in-Err-OutOfMemory-clause-steady
returns-in-Err-OutOfMemory-clause-steady g c = c.operate.ensures.steady

pub returns-in-Err-MediaFault-clause-stepped : goal.returns-in-Err-MediaFault-clause-stepped
returns-in-Err-MediaFault-clause-stepped g c =
    let broken = rw c.in-Err-MediaFault.field-0-is at c.in-Err-MediaFault.ensures.operated in
    record {
      notes = note.MediaFault c.args.name.now c.in-Err-MediaFault.line ∷ [];
      does = record {
        task = c.in-Some.task;
        task_is = c.in-Some.is;
        how = inr (record { line = c.in-Err-MediaFault.line; failed = broken.failed; rose = broken.rose; over_is = refl; next_is = refl; notes_are = refl });
        later = c.in-Err-MediaFault.ensures.steady.later;
      };
      noted = c.add.ensures.noted;
    }

pub returns-then-over-clause-counted : goal.returns-then-over-clause-counted
returns-then-over-clause-counted g c exact = turn_counted c.args.name.now c.in-Ok.turn _ _ _ _ c.note_turn-over.ensures.noted (c.in-Ok.ensures.counted exact)

pub returns-else-over-clause-counted : goal.returns-else-over-clause-counted
returns-else-over-clause-counted g c exact = turn_counted c.args.name.now c.in-Ok.turn _ _ _ _ c.note_turn-over.ensures.noted (c.in-Ok.ensures.counted exact)

pub returns-in-Err-MediaFault-clause-counted : goal.returns-in-Err-MediaFault-clause-counted
returns-in-Err-MediaFault-clause-counted g c exact =
    fault_counted _ _ (note.MediaFault c.args.name.now c.in-Err-MediaFault.line) _ _ refl c.add.ensures.noted
    (media_counted _ c.in-Err-MediaFault.line _ _ c.in-Err-MediaFault.field-0-is (c.in-Err-MediaFault.ensures.counted exact))

pub returns-in-Err-OutOfMemory-clause-counted : goal.returns-in-Err-OutOfMemory-clause-counted
returns-in-Err-OutOfMemory-clause-counted g c exact = none_counted _ _ _ _ refl (unmedia_counted _ _ _ c.in-Err-OutOfMemory.field-0-is (c.in-Err-OutOfMemory.ensures.counted exact))
