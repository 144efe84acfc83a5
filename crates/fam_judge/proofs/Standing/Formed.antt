-- A note that some event adds stands in the table.
use Rattle.std.proofs.Common.{◌≡◌, ◌≢◌, ◌<◌, ◌⊎◌, inl, inr, ℕ, Bool, true, false, List, [], ◌∷◌, Option, Some, None, refl, ap, sym, ◌∙◌, subst}
use Rattle.std.specs.Prelude.{⊤, ◌&&◌, option_map, slice_get}
use Rattle.std.proofs.lemmas.List.{length-map}
use Rattle.std.proofs.lemmas.Option.{slice_get-map}
use Rattle.fam_base.specs.declared.cmd.Cmd.{Cmd}
use Rattle.fam_commands.specs.Classes.{is_mount}
use Rattle.fam_machine.specs.declared.request.MkfsRequest.{MkfsRequest}
use Rattle.fam_machine.specs.HostMoves.{Evict, Fetch, Leak, Move}
use Rattle.fam_machine.specs.Mkfs.{asked as asked_params}
use Rattle.fam_journal.specs.declared.event.Ask.{Ask}
use Rattle.fam_journal.specs.declared.event.Ask.TheVariants as ask
use Rattle.fam_journal.specs.declared.event.Event.{Event}
use Rattle.fam_journal.specs.declared.event.Event.TheVariants as event
use Rattle.fam_journal.specs.declared.refusal.Refusal.{Refusal}
use Rattle.fam_journal.specs.declared.refusal.Refusal.TheVariants as why
use Rattle.fam_journal.specs.Calls as call
use Rattle.fam_journal.specs.Calls.{begins_refusal, busy_at, idle_refusal, line_refusal, may_begin, number_of, on_host, refusal_of, umounts_refusal, when}
use Rattle.fam_journal.specs.Events.{mounts}
use Rattle.fam_journal.specs.EventShapes.{AskShape, EventShape, NoMore, StartShape, StepsShape, UnfitNotes, UnfitShape}
use Rattle.fam_journal.specs.Laws.{IsValidEvent}
use Rattle.fam_journal.specs.Notes.{Note, Host, Start, Mark, Found, Writes, Answered, Stop, Halt, Umount, Refused}
use Rattle.fam_journal.specs.Shapes.{ActsShape, AtShape, CompletesShape, DoesShape, FreeShape, HostShape, OfHostShape, OfRunning, ShapeByRefusal, SuperForm, TaskNote, made_note, makes_told, refusal_told}
use Rattle.fam_journal.proofs.Calls.Tests.{no_when}
use Rattle.fam_judge.specs.Formed.{HasPlace, IsFormedNote, IsSoundNote}
use Rattle.fam_judge.specs.Standing.{AtNamed, MayAsk, MayRefuseCall, MayStand, face, faces}
use Rattle.fam_judge.proofs.Following.{note_runs}
use Rattle.fam_judge.proofs.Origins.{none_one, none_running, one_note}
use Rattle.fam_judge.proofs.Standing.Faces.{of_face}
use Rattle.fam_judge.proofs.Standing.Refusals.{MakesFree, asked, begins_free, begins_row, declared, declares_free, declares_row, idle_row, line_free, line_row, m, makes_free, makes_row, not_false, of_asked, on_free, on_row, runs_asked, umounts_free, umounts_row}
use Rattle.fam_judge.proofs.Standing.Sound.{told_mount, told_sound}

-- an ask of a mount comes to one
asked_mount : (what : Ask) (c : Cmd) → AskShape what c → is_mount c ≡ mounts what
asked_mount (ask.Plain own) c e = ap is_mount e
asked_mount (ask.Cp source path attr stripe) c e = ap is_mount e.1
asked_mount (ask.VerifySource path source) c e = ap is_mount e.1
asked_mount (ask.Check source) c e = ap is_mount e.1

module _ (lines : ℕ) (hosts : List HostShape) where
  -- a source is none where a command but a mount may begin
  unfit_row : (name : List ℕ) (what : Ask) (w : Refusal) → UnfitShape what w → MayAsk lines (faces hosts) name → MayRefuseCall lines (faces hosts) name w
  unfit_row name what (why.NoFile source) unfit may = may
  unfit_row name what (why.CopyLimit sum) unfit may = may
  unfit_row name what (why.BadListing line) unfit may = may
  unfit_row name what w unfit may = absurd unfit

  -- a note of a running command
  gives : (y : Note) (k : ℕ) → HasPlace hosts y → OfRunning (slice_get hosts k) (λ me t. TaskNote k me t y) → MayStand lines hosts y
  gives (Mark h) k placed is =
      let run = note_runs k hosts (Mark h) (slice_get hosts k) refl is in subst (λ (n : ℕ). OfRunning (slice_get hosts n) (λ me t. TaskNote n me t (Mark h))) (sym run.is.0) is
  gives (Found h n) k placed is =
      let run = note_runs k hosts (Found h n) (slice_get hosts k) refl is in subst (λ (n : ℕ). OfRunning (slice_get hosts n) (λ me t. TaskNote n me t (Found h n))) (sym run.is.0) is
  gives (Writes h seq entry) k placed is =
      let run = note_runs k hosts (Writes h seq entry) (slice_get hosts k) refl is in
      subst (λ (n : ℕ). OfRunning (slice_get hosts n) (λ me t. TaskNote n me t (Writes h seq entry))) (sym run.is.0) is
  gives (Answered h answer) k placed is =
      let run = note_runs k hosts (Answered h answer) (slice_get hosts k) refl is in
      (subst (λ (n : ℕ). OfRunning (slice_get hosts n) (λ me t. TaskNote n me t (Answered h answer))) (sym run.is.0) is, placed)
  gives y k placed is = absurd (none_running (slice_get hosts k) is)

  -- what the host that was asked did
  record ActedAt (R : ℕ → HostShape → Type 0) (k : ℕ) : Type 0 where
    host : HostShape
    is : slice_get hosts k ≡ Some host
    acts : R k host

  acted : (name : List ℕ) (R : ℕ → HostShape → Type 0) (k : ℕ) → number_of name (m lines hosts) ≡ Some k → AtShape (number_of name (m lines hosts)) hosts R → ActedAt R k
  acted name R k number acts = by (slice_get hosts k) refl (subst (λ (o : Option ℕ). AtShape o hosts R) number acts)
    where
      by : (o : Option HostShape) → slice_get hosts k ≡ o → OfHostShape o (R k) → ActedAt R k
      by None is acts = absurd acts
      by (Some host) is acts = record { host = host; is = is; acts = acts }

  module _ (y : Note) where
    -- a note that is this one
    noted : (z : Note) (rest : List Note) → y ∷ [] ≡ z ∷ rest → MayStand lines hosts z → MayStand lines hosts y
    noted z rest e is = subst (MayStand lines hosts) (sym (one_note y z rest e)) is

    by_refusal : (name : List ℕ) (o : Option Refusal) (free : Type 0) → ((w : Refusal) → o ≡ Some w → MayRefuseCall lines (faces hosts) name w)
        → (o ≡ None → free → MayStand lines hosts y) → ShapeByRefusal name o (y ∷ []) free → MayStand lines hosts y
    by_refusal name None free row next is = next refl is
    by_refusal name (Some w) free row next is = noted (Refused name w) [] is (row w refl)

    -- Calls for a host.

    host_stands : (name uuid : List ℕ) → IsValidEvent (event.Host name uuid) → EventShape (event.Host name uuid) lines hosts (y ∷ []) → MayStand lines hosts y
    host_stands name uuid valid is =
        by_refusal name (refusal_told (call.Declares name uuid) lines hosts) (y ∷ [] ≡ Host name uuid ∷ []) (declares_row lines hosts name uuid)
        (λ e are. let free = declares_free lines hosts name uuid e in noted (Host name uuid) [] are (valid, free.0, free.1)) is

    made_by : (name : List ℕ) (request : MkfsRequest) (k : ℕ) (host : HostShape) → IsValidEvent (event.Mkfs name request) → slice_get hosts k ≡ Some host
        → MakesFree lines hosts request.unit request.log → MayStand lines hosts (made_note request.halt k (asked_params request host.uuid lines))
    made_by name request k host valid is free = by request.halt
      where
        seen : slice_get (faces hosts) k ≡ Some (face host)
        seen = slice_get-map face hosts k ∙ ap (option_map face) is

        by : (halt : Option ℕ) → MayStand lines hosts (made_note halt k (asked_params request host.uuid lines))
        by None = (
          free.may.1,
          of_face (slice_get (faces hosts) k) _ (face host) seen
              (record { format = valid.format; geometry = free.geometry; slots = refl; need = free.fits; device = refl; fs = valid.fs; master = refl }),
        )
        by (Some n) = (free.may, of_face (slice_get (faces hosts) k) _ (face host) seen tt)

    mkfs_stands : (name : List ℕ) (request : MkfsRequest) → IsValidEvent (event.Mkfs name request) → EventShape (event.Mkfs name request) lines hosts (y ∷ [])
        → MayStand lines hosts y
    mkfs_stands name request valid is =
        by_refusal name (refusal_told (call.Makes name request) lines hosts) (FreeShape (call.Makes name request) lines hosts (y ∷ []))
        (on_row lines hosts name (λ k. makes_told request.unit request.log (m lines hosts)) (λ k at. makes_row lines hosts name k at request.unit request.log)) making is
      where
        making : refusal_told (call.Makes name request) lines hosts ≡ None → FreeShape (call.Makes name request) lines hosts (y ∷ []) → MayStand lines hosts y
        making e (inl acts) =
            let at = on_free lines hosts name (λ k. makes_told request.unit request.log (m lines hosts)) e in
            let did = acted name (λ k host. ActsShape (call.Makes name request) k host lines hosts (y ∷ [])) at.number at.is acts in
            by at.number did.host did.is (makes_free lines hosts request.unit request.log at.free) (declared lines hosts name at.number at.at) did.acts
          where
            by : (k : ℕ) (host : HostShape) → slice_get hosts k ≡ Some host → MakesFree lines hosts request.unit request.log → AtNamed name (faces hosts) (λ n f. ⊤)
                → (y ∷ [] ≡ made_note request.halt k (asked_params request host.uuid lines) ∷ []) ⊎ SuperForm request.force name (y ∷ []) → MayStand lines hosts y
            by k host is free named (inl are) = noted _ [] are (made_by name request k host valid is free)
            by k host is free named (inr stands) = noted (Refused name (why.HasSuper stands.fs)) [] stands.notes_are (free.may, named)
        making e (inr dirty) =
            let at = on_free lines hosts name (λ k. makes_told request.unit request.log (m lines hosts)) e in
            noted (Refused name (why.Dirty (record { 0 = dirty.dirty }))) [] dirty.notes_are (
              (makes_free lines hosts request.unit request.log at.free).may,
              subst (λ (n : ℕ). dirty.dirty < n) (sym (length-map hosts face)) dirty.declared,
              of_asked lines hosts name dirty.maker (asked lines hosts name dirty.maker dirty.number) (λ k f. dirty.dirty ≢ k) dirty.other,
            )

    stop_stands : (name : List ℕ) → EventShape (event.Stop name) lines hosts (y ∷ []) → MayStand lines hosts y
    unfolding refusal_of
    stop_stands name is =
        by_refusal name (on_host (number_of name (m lines hosts)) (λ k. idle_refusal k (m lines hosts))) (FreeShape (call.Stops name) lines hosts (y ∷ []))
        (on_row lines hosts name (λ k. idle_refusal k (m lines hosts)) (λ k at. idle_row lines hosts name k at))
        (λ e acts.
        let at = on_free lines hosts name (λ k. idle_refusal k (m lines hosts)) e in
        let did = acted name (λ k host. ActsShape (call.Stops name) k host lines hosts (y ∷ [])) at.number at.is acts in
        noted (Stop at.number) [] did.acts
        (of_face (slice_get (faces hosts) at.number) _ at.at.host at.at.is (runs_asked lines hosts name at.number at.at true (not_false _ (no_when _ _ at.free))))) is

    halt_stands : (name : List ℕ) → EventShape (event.Halt name) lines hosts (y ∷ []) → MayStand lines hosts y
    unfolding refusal_of
    halt_stands name is =
        by_refusal name (on_host (number_of name (m lines hosts)) (λ k. None)) (FreeShape (call.Halts name) lines hosts (y ∷ []))
        (on_row lines hosts name (λ k. None) (λ k at w e. absurd cc))
        (λ e acts.
        let at = on_free lines hosts name (λ k. None) e in
        let did = acted name (λ k host. ActsShape (call.Halts name) k host lines hosts (y ∷ [])) at.number at.is acts in
        noted (Halt at.number) [] did.acts (of_face (slice_get (faces hosts) at.number) _ at.at.host at.at.is tt)) is

    umount_stands : (name : List ℕ) → EventShape (event.Umount name) lines hosts (y ∷ []) → MayStand lines hosts y
    unfolding refusal_of
    umount_stands name is =
        by_refusal name (on_host (number_of name (m lines hosts)) (λ k. umounts_refusal k (m lines hosts))) (FreeShape (call.Umounts name) lines hosts (y ∷ []))
        (on_row lines hosts name (λ k. umounts_refusal k (m lines hosts)) (λ k at. umounts_row lines hosts name k at))
        (λ e acts.
        let at = on_free lines hosts name (λ k. umounts_refusal k (m lines hosts)) e in
        let did = acted name (λ k host. ActsShape (call.Umounts name) k host lines hosts (y ∷ [])) at.number at.is acts in
        noted (Umount at.number) [] did.acts
        (of_face (slice_get (faces hosts) at.number) _ at.at.host at.at.is (umounts_free lines hosts name at.number at.at at.free))) is

    move_stands : (name : List ℕ) (line : ℕ) (move : Move) → DoesShape (call.Moves name line move) lines hosts (y ∷ []) → MayStand lines hosts y
    unfolding refusal_of
    move_stands name line move is =
        by_refusal name (on_host (number_of name (m lines hosts)) (λ k. line_refusal line (m lines hosts))) (FreeShape (call.Moves name line move) lines hosts (y ∷ []))
        (on_row lines hosts name (λ k. line_refusal line (m lines hosts)) (λ k at. line_row lines hosts name k at line))
        (λ e acts.
        let at = on_free lines hosts name (λ k. line_refusal line (m lines hosts)) e in
        let did = acted name (λ k host. ActsShape (call.Moves name line move) k host lines hosts (y ∷ [])) at.number at.is acts in
        by (declared lines hosts name at.number at.at) (line_free lines hosts name at.number at.at line at.free) did.acts) is
      where
        by : AtNamed name (faces hosts) (λ k f. ⊤) → line < lines → (y ∷ [] ≡ []) ⊎ (y ∷ [] ≡ Refused name (why.MediaFault (record { 0 = line })) ∷ []) → MayStand lines hosts y
        by named low (inl none) = absurd (none_one y none)
        by named low (inr fault) = noted (Refused name (why.MediaFault (record { 0 = line }))) [] fault (named, low)

    -- Commands.

    module _ (sound : IsSoundNote y) where
      starts : (Q : ℕ → List HostShape → List Note → Type 0) (name : List ℕ) (what : Ask) → may_begin name (mounts what) (m lines hosts) ≡ None
          → UnfitNotes name what (y ∷ []) ⊎ StartShape Q name what lines hosts (y ∷ []) → MayStand lines hosts y
      starts Q name what e (inl unfit) =
          let at = on_free lines hosts name (λ k. begins_refusal k (mounts what) (m lines hosts)) e in
          let free = begins_free lines hosts name at.number at.at (mounts what) at.free in
          noted (Refused name unfit.why) [] unfit.notes_are
          (unfit_row name what unfit.why unfit.unfit (free.0, of_asked lines hosts name at.number at.at (λ k f. f.runs ≡ false) free.1))
      starts Q name what e (inr start) =
          let at = asked lines hosts name start.host start.number in
          let free = begins_free lines hosts name start.host at (mounts what)
          (sym (ap (λ (o : Option ℕ). on_host o (λ k. begins_refusal k (mounts what) (m lines hosts))) start.number) ∙ e) in
          let own : IsSoundNote (Start start.host start.cmd) = subst IsSoundNote (one_note y (Start start.host start.cmd) start.rest start.notes_are) sound in
          noted (Start start.host start.cmd) start.rest start.notes_are (
            free.0,
            of_face (slice_get (faces hosts) start.host) _ at.host at.is
                (free.1, ap (λ (b : Bool). b && at.host.keeps) (told_mount start.cmd ∙ asked_mount what start.cmd start.asked) ∙ free.2),
            told_sound start.cmd own,
          )

      begin_stands : (Q : ℕ → List HostShape → List Note → Type 0) (name : List ℕ) (what : Ask)
          → ShapeByRefusal name (may_begin name (mounts what) (m lines hosts)) (y ∷ []) (UnfitNotes name what (y ∷ []) ⊎ StartShape Q name what lines hosts (y ∷ []))
          → MayStand lines hosts y
      begin_stands Q name what is =
          by_refusal name (may_begin name (mounts what) (m lines hosts)) (UnfitNotes name what (y ∷ []) ⊎ StartShape Q name what lines hosts (y ∷ []))
          (on_row lines hosts name (λ k. begins_refusal k (mounts what) (m lines hosts)) (λ k at. begins_row lines hosts name k at (mounts what))) (starts Q name what) is

      step_stands : (name : List ℕ) (count : ℕ) → HasPlace hosts y → EventShape (event.Step name count) lines hosts (y ∷ []) → MayStand lines hosts y
      step_stands name count placed is =
          by_refusal name (on_host (number_of name (m lines hosts)) (λ k. idle_refusal k (m lines hosts))) (StepsShape count name lines hosts (y ∷ []))
          (on_row lines hosts name (λ k. idle_refusal k (m lines hosts)) (λ k at. idle_row lines hosts name k at))
          (λ e steps. gives y steps.host placed steps.operations.0) is

      finish_stands : (name : List ℕ) → HasPlace hosts y → EventShape (event.Finish name) lines hosts (y ∷ []) → MayStand lines hosts y
      unfolding refusal_of
      finish_stands name placed is =
          by_refusal name (on_host (number_of name (m lines hosts)) (λ k. idle_refusal k (m lines hosts))) (FreeShape (call.Finishes name) lines hosts (y ∷ []))
          (on_row lines hosts name (λ k. idle_refusal k (m lines hosts)) (λ k at. idle_row lines hosts name k at))
          (λ e acts.
          let at = on_free lines hosts name (λ k. idle_refusal k (m lines hosts)) e in
          let did = acted name (λ k host. CompletesShape k hosts (y ∷ [])) at.number at.is acts in
          gives y at.number placed did.acts.operations.0) is

      -- whichever event adds it
      event_stands : (e : Event) → IsValidEvent e → HasPlace hosts y → EventShape e lines hosts (y ∷ []) → MayStand lines hosts y
      event_stands (event.Host name uuid) valid placed is = host_stands name uuid valid is
      event_stands (event.Mkfs name request) valid placed is = mkfs_stands name request valid is
      event_stands (event.Begin name what) valid placed is = begin_stands NoMore name what is
      event_stands (event.Run name what) valid placed is = begin_stands CompletesShape name what is
      event_stands (event.Step name count) valid placed is = step_stands name count placed is
      event_stands (event.Finish name) valid placed is = finish_stands name placed is
      event_stands (event.Stop name) valid placed is = stop_stands name is
      event_stands (event.Halt name) valid placed is = halt_stands name is
      event_stands (event.Umount name) valid placed is = umount_stands name is
      event_stands (event.Evict name line) valid placed is = move_stands name line.0 Evict is
      event_stands (event.Leak name line mask) valid placed is = move_stands name line.0 (Leak mask.0) is
      event_stands (event.Fetch name line mask) valid placed is = move_stands name line.0 (Fetch mask.0) is

  -- a note that has the form of the tables
  pub formed_stands : (note : Note) → IsFormedNote lines hosts note → MayStand lines hosts note
  formed_stands note is = event_stands note is.sound is.event is.valid is.placed is.shape
