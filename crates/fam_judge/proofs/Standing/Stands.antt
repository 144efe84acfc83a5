-- What stands in the table some event adds, or a note that tells the same.
use Rattle.std.proofs.Common.{◌≡◌, ◌≤◌, inr, ℕ, Bool, true, false, List, [], ◌∷◌, length, Option, Some, None, refl, ap, ap₂, sym, ◌∙◌}
use Rattle.std.specs.Prelude.{⊤, ◌&&◌, not, nat_le, option_map, slice_get}
use Rattle.fam_base.specs.declared.cmd.Cmd.{Cmd}
use Rattle.fam_commands.specs.Classes.{is_mount}
use Rattle.std.proofs.lemmas.Option.{slice_get-map}
use Rattle.fam_format.specs.Layout.{least_lines}
use Rattle.fam_format.specs.Stop.{or_else}
use Rattle.fam_history.specs.declared.command.ToldCommand.{ToldCommand}
use Rattle.fam_history.specs.Told.{told_of_command}
use Rattle.fam_journal.specs.declared.event.Ask.TheVariants as ask
use Rattle.fam_journal.specs.declared.event.Event.{Event}
use Rattle.fam_journal.specs.declared.event.Event.TheVariants as event
use Rattle.fam_journal.specs.declared.refusal.Refusal.TheVariants as why
use Rattle.fam_journal.specs.Calls as call
use Rattle.fam_journal.specs.Calls.{begins_refusal, host_limit, idle_refusal, number_of, on_host, refusal_of, same_refusal, umounts_refusal, when}
use Rattle.fam_journal.specs.EventShapes.{EventShape}
use Rattle.fam_journal.specs.Laws.{IsValidEvent}
use Rattle.fam_journal.specs.Notes.{Note, Host, Made, Cut, Start, Mark, Found, Writes, Answered, Stop, Halt, Umount, Refused}
use Rattle.fam_journal.specs.Shapes.{AtShape, HostShape, OfRunning, TaskNote, refusal_told, shown_shapes}
use Rattle.fam_judge.specs.Alike.{Begins}
use Rattle.fam_judge.specs.Formed.{HasPlace, IsFormedNote, IsSoundNote}
use Rattle.fam_judge.specs.Standing.{AreDistinctHosts, Face, IsFormedAs, MayDeclare, MayStand, face, faces, is_told_mount}
use Rattle.fam_judge.proofs.Following.{note_runs}
use Rattle.fam_judge.proofs.Forming.{task_formed}
use Rattle.fam_judge.proofs.Standing.Asking.{at_shape, begins_is, free_shape, idle_is, le_fails, on_passes, own_number, shape_of, umounts_is}
use Rattle.fam_judge.proofs.Standing.Faces.{HasFace, count_faced, face_of, same_faced}
use Rattle.fam_judge.proofs.Standing.Making.{cut_formed, made_formed}
use Rattle.fam_judge.proofs.Standing.Refused.{refused_formed}
use Rattle.fam_judge.proofs.Standing.Sound.{SoundAs, sound_told, told_mount}

module _ (lines : ℕ) (hosts : List HostShape) where
  -- a note that an event adds alone
  formed_by : (note : Note) (e : Event) → IsValidEvent e → EventShape e lines hosts (note ∷ []) → IsSoundNote note → HasPlace hosts note → IsFormedNote lines hosts note
  formed_by note e valid shape sound placed = record { event = e; valid = valid; shape = shape; sound = sound; placed = placed }

  -- a note tells the same as itself
  itself : (note : Note) → IsFormedNote lines hosts note → IsFormedAs lines hosts note
  itself note is = record { chosen = note; alike = refl; formed = is }

  -- a host is declared
  host_formed : (name uuid : List ℕ) → MayDeclare (faces hosts) name uuid → IsFormedNote lines hosts (Host name uuid)
  unfolding refusal_of
  host_formed name uuid is =
      formed_by (Host name uuid) (event.Host name uuid) is.0
      (free_shape name (refusal_told (call.Declares name uuid) lines hosts) (Host name uuid ∷ []) (Host name uuid ∷ [] ≡ Host name uuid ∷ [])
      (ap₂ (λ (o : Option ℕ) (b : Bool). or_else (same_refusal o) (when b why.TooManyHosts)) (same_faced lines hosts name uuid ∙ is.1)
      (ap (λ (n : ℕ). nat_le host_limit n) (count_faced lines hosts) ∙ le_fails host_limit (length (faces hosts)) is.2)) refl) tt tt

  module _ (distinct : AreDistinctHosts (faces hosts)) where
    module _ (h : ℕ) (P : Face → Type 0) (own : HasFace (slice_get (faces hosts) h) P) where
      number : number_of own.host.name (shown_shapes lines hosts) ≡ Some h
      number = own_number lines hosts distinct h own.host own.is

      -- the host acts
      acts : (R : ℕ → HostShape → Type 0) → ((host : HostShape) → R h host) → AtShape (number_of own.host.name (shown_shapes lines hosts)) hosts R
      acts R each = let shape = shape_of hosts h own.host own.is in at_shape lines hosts own.host.name h shape.host R number shape.is (each shape.host)

      stop_formed : own.host.runs ≡ true → IsFormedNote lines hosts (Stop h)
      unfolding refusal_of
      stop_formed runs =
          formed_by (Stop h) (event.Stop own.host.name) tt
          (on_passes lines hosts own.host.name h (λ k. idle_refusal k (shown_shapes lines hosts)) (Stop h ∷ []) _ number
          (idle_is lines hosts h own.host own.is ∙ ap (λ (b : Bool). when (not b) why.Idle) runs) (acts _ (λ host. refl))) tt tt

      halt_formed : IsFormedNote lines hosts (Halt h)
      unfolding refusal_of
      halt_formed =
          formed_by (Halt h) (event.Halt own.host.name) tt
          (on_passes lines hosts own.host.name h (λ k. None) (Halt h ∷ []) _ number refl (acts _ (λ host. refl))) tt tt

      umount_formed : own.host.runs ≡ false → own.host.keeps ≡ true → IsFormedNote lines hosts (Umount h)
      unfolding refusal_of
      umount_formed idle keeps =
          formed_by (Umount h) (event.Umount own.host.name) tt
          (on_passes lines hosts own.host.name h (λ k. umounts_refusal k (shown_shapes lines hosts)) (Umount h ∷ []) _ number
          (umounts_is lines hosts h own.host own.is
          ∙ ap₂ (λ (b c : Bool). or_else (when b (why.Busy (record { 0 = h }))) (when (not c) why.NotMounted)) idle keeps) (acts _ (λ host. refl))) tt tt

      -- a sound command that may begin
      start_formed : (c : Cmd) → IsSoundNote (Start h c) → least_lines ≤ lines → own.host.runs ≡ false → (is_mount c && own.host.keeps) ≡ false
          → IsFormedNote lines hosts (Start h c)
      start_formed c sound fits idle free =
          formed_by (Start h c) (event.Begin own.host.name (ask.Plain c)) tt
          (on_passes lines hosts own.host.name h (λ k. begins_refusal k (is_mount c) (shown_shapes lines hosts)) (Start h c ∷ []) _ number
          (begins_is lines hosts h own.host own.is (is_mount c) fits
          ∙ ap₂ (λ (b d : Bool). or_else (when b (why.Busy (record { 0 = h }))) (when d why.Mounted)) idle free)
          (inr (record { host = h; number = number; cmd = c; asked = refl; rest = []; notes_are = refl; follow = refl }))) sound tt

      -- so one that tells the same as a command
      start_as : (c : Cmd) → SoundAs c → least_lines ≤ lines → own.host.runs ≡ false → (is_told_mount (told_of_command c) && own.host.keeps) ≡ false
          → IsFormedAs lines hosts (Start h c)
      start_as c same fits idle free = record {
        chosen = Start h same.chosen;
        alike = ap (λ (t : ToldCommand). Begins h t) same.alike;
        formed = start_formed same.chosen same.sound fits idle
            (ap (λ (b : Bool). b && own.host.keeps) (sym (told_mount same.chosen) ∙ ap is_told_mount same.alike) ∙ free);
      }

    -- a note of a running command
    task_stands : (h : ℕ) (note : Note) → HasPlace hosts note → OfRunning (slice_get hosts h) (λ me t. TaskNote h me t note) → IsFormedNote lines hosts note
    task_stands h note placed is =
        let run = note_runs h hosts note (slice_get hosts h) refl is in
        task_formed lines hosts run.host.name h run.host run.task
        (own_number lines hosts distinct h (face run.host) (slice_get-map face hosts h ∙ ap (option_map face) run.declared))
        run.declared run.runs note run.is placed

    -- whatever the note is
    pub stands_formed : (note : Note) → MayStand lines hosts note → IsFormedAs lines hosts note
    stands_formed (Host name uuid) is = itself (Host name uuid) (host_formed name uuid is)
    stands_formed (Made h p) is = itself (Made h p) (made_formed lines hosts distinct h p is)
    stands_formed (Cut h k) is = itself (Cut h k) (cut_formed lines hosts distinct h k is)
    stands_formed (Start h cmd) is =
        let own = face_of (slice_get (faces hosts) h) _ is.1 in start_as h _ own cmd (sound_told cmd is.2) is.0 own.holds.0 own.holds.1
    stands_formed (Mark h) is = itself (Mark h) (task_stands h (Mark h) tt is)
    stands_formed (Found h n) is = itself (Found h n) (task_stands h (Found h n) tt is)
    stands_formed (Writes h seq entry) is = itself (Writes h seq entry) (task_stands h (Writes h seq entry) tt is)
    stands_formed (Answered h answer) is = itself (Answered h answer) (task_stands h (Answered h answer) is.1 is.0)
    stands_formed (Stop h) is = let own = face_of (slice_get (faces hosts) h) _ is in itself (Stop h) (stop_formed h _ own own.holds)
    stands_formed (Halt h) is = let own = face_of (slice_get (faces hosts) h) (λ f. ⊤) is in itself (Halt h) (halt_formed h (λ f. ⊤) own)
    stands_formed (Umount h) is = let own = face_of (slice_get (faces hosts) h) _ is in itself (Umount h) (umount_formed h _ own own.holds.0 own.holds.1)
    stands_formed (Refused name cause) is = itself (Refused name cause) (refused_formed lines hosts name distinct cause is)
