-- Lines that no running command gives.
use Rattle.std.proofs.Common.{◌≡◌, ◌↔◌, ◌*◌, ◌≤◌, ◌&&◌, ℕ, Bool, true, false, IsTrue, List, [], ◌∷◌, length, map, Option, Some, None, refl, sym, ap, ap₂, subst, ◌∙◌, arith}
use Rattle.std.specs.Prelude.{if◌then◌else◌, is_some, option_map, slice_get}
use Rattle.std.proofs.lemmas.Bool.{true≢false}
use Rattle.fam_base.specs.declared.entry.Params.{Params}
use Rattle.fam_base.specs.Image.{Image}
use Rattle.fam_format.specs.Layout.{device_limit}
use Rattle.fam_format.specs.Params.{IsUuid, SoundParams, is_log_length, is_unit}
use Rattle.fam_history.specs.declared.command.ToldCommand.{ToldCommand}
use Rattle.fam_journal.specs.Notes as note
use Rattle.fam_journal.specs.Notes.{Note}
use Rattle.fam_journal.specs.Past.{Past, settled_length, state_after}
use Rattle.fam_journal.specs.Shapes.{HostShape, TaskShape}
use Rattle.fam_judge.specs.Fitting.{FitsNext}
use Rattle.fam_judge.specs.Possible.{Possible, ReachesFor, StepsTo, after_line, giver, past_in, shapes_in}
use Rattle.fam_judge.specs.Standing.{Face, IsMadeBy, OfFace, MayStand, faces, is_own}
use Rattle.fam_judge.proofs.Folding.{shape_in}
use Rattle.fam_lines.specs.declared.host.SeenHost.{SeenHost}
use Rattle.fam_lines.specs.declared.line.Line.{Line}
use Rattle.fam_lines.specs.declared.line.Line.TheVariants as line
use Rattle.fam_lines.specs.Hosts.{faces_of}
use Rattle.fam_lines.specs.Lines.{note_of_line}
use Rattle.fam_rules.specs.Place.{line_bytes}
use Rattle.fam_judging.specs.declared.candidate.Track.{Track}
use Rattle.fam_judging.specs.Candidates.{AreCommanded, HostsFit, IsCandidate, RunsCommand, possible_of, progress_list, settled_state, stage_shape}
use Rattle.fam_judging.specs.Going.{Goes}
use Rattle.fam_judging.specs.Plain.{HasSoundMade, HasUuid, IsPlainLine}
use Rattle.fam_judging.specs.declared.candidate.Candidate.{Candidate}
use Rattle.fam_judging.specs.declared.hosts.Hosts.{Hosts}
use Rattle.fam_judging.specs.After.{commands_after, possible_after, seen_after, tracks_after}
use Rattle.fam_judging.proofs.Goings.{same_possible}
use Rattle.fam_judging.proofs.Lists.{hosts_are, task_at}

-- Faces.

-- a host runs a task where it is seen to
runs_seen : (runs : Bool) (c : Option ToldCommand) (f : ToldCommand → TaskShape) → (c ≡ None → runs ≡ false) → is_some (if runs then option_map f c else None) ≡ runs
runs_seen true None f none = sym (none refl)
runs_seen true (Some cmd) f none = refl
runs_seen false c f none = refl

-- a host that has none runs none
no_command : (s : SeenHost) (c : Option ToldCommand) → RunsCommand s c → c ≡ None → s.runs ≡ false
no_command s None runs is = runs
no_command s (Some cmd) runs is = absurd cc

-- hosts are seen as they are
pub faces_seen : (seen : List SeenHost) (cmds : List (Option ToldCommand)) (tracks : List Track) → AreCommanded seen cmds → length tracks ≡ length seen
    → faces (map shape_in (progress_list seen cmds tracks)) ≡ faces_of seen
faces_seen [] cmds tracks are same = refl
faces_seen (s ∷ seen) [] tracks are same = absurd are
faces_seen (s ∷ seen) (c ∷ cmds) [] are same = absurd (omega (arith, same))
faces_seen (s ∷ seen) (c ∷ cmds) (t ∷ tracks) are same =
    ap₂ (λ (b : Bool) (fs : List Face). (let f : Face = record { name = s.name; uuid = s.uuid; runs = b; keeps = s.keeps } in f) ∷ fs)
    (runs_seen s.runs c (task_at (stage_shape t.stage)) (no_command s c are.0))
    (faces_seen seen cmds tracks are.1 (omega (arith, same)))

-- Lines.

-- no command has come further before it
plain_giver : (n : Note) → is_own n ≡ false → giver n ≡ None
plain_giver (note.Host name uuid) is = refl
plain_giver (note.Made h p) is = refl
plain_giver (note.Cut h k) is = refl
plain_giver (note.Start h cmd) is = refl
plain_giver (note.Mark h) is = absurd (true≢false is)
plain_giver (note.Found h n) is = absurd (true≢false is)
plain_giver (note.Writes h seq e) is = absurd (true≢false is)
plain_giver (note.Answered h answer) is = absurd (true≢false is)
plain_giver (note.Stop h) is = refl
plain_giver (note.Halt h) is = refl
plain_giver (note.Umount h) is = refl
plain_giver (note.Refused name why) is = refl

-- and it fits any past
plain_fits : (n : Note) → is_own n ≡ false → (past : Past) → FitsNext past n
plain_fits (note.Host name uuid) is past = tt
plain_fits (note.Made h p) is past = tt
plain_fits (note.Cut h k) is past = tt
plain_fits (note.Start h cmd) is past = tt
plain_fits (note.Mark h) is past = tt
plain_fits (note.Found h n) is past = absurd (true≢false is)
plain_fits (note.Writes h seq e) is past = absurd (true≢false is)
plain_fits (note.Answered h answer) is past = absurd (true≢false is)
plain_fits (note.Stop h) is past = tt
plain_fits (note.Halt h) is past = tt
plain_fits (note.Umount h) is past = tt
plain_fits (note.Refused name why) is past = tt

-- the line leads to the state behind it, where it stands
pub plain_goes : (start : Image) (x next : Possible) (n : Note) (b : Bool) → is_own n ≡ false → IsTrue b ↔ MayStand (length start) (shapes_in x) n
    → (b ≡ true → next ≡ after_line start x n) → Goes (StepsTo start x n) next b
plain_goes start x next n b plain stand is = record {
  sound = λ h. record {
    now = x;
    reaches = subst (λ (o : Option ℕ). ReachesFor start o x x) (sym (plain_giver n plain)) refl;
    may = stand.0 h;
    fits = plain_fits n plain (past_in start x);
    is = is h;
  };
  complete = λ z s.
      let one : s.now ≡ x = subst (λ (o : Option ℕ). ReachesFor start o x s.now) (plain_giver n plain) s.reaches in
      let may = stand.1 (subst (λ (y : Possible). MayStand (length start) (shapes_in y) n) one s.may) in
      (may, s.is ∙ ap (λ (y : Possible). after_line start y n) one ∙ sym (is may));
}

-- parameters of a file system that was made are sound
pub made_sound : (me : List ℕ) (lines : ℕ) (p : Params) → IsMadeBy me lines p → IsUuid p.master → line_bytes * lines ≤ device_limit → SoundParams p
made_sound me lines p made master few = record {
  format = made.format;
  unit = left (is_unit p.unit) (is_log_length p.unit p.log_length) made.geometry;
  log_length = right (is_unit p.unit) (is_log_length p.unit p.log_length) made.geometry;
  slots = made.slots;
  need = made.need;
  device = subst (λ (n : ℕ). n ≤ device_limit) (sym made.device) few;
  fs = made.fs;
  master = master;
}
  where
    left : (a b : Bool) → (a && b) ≡ true → a ≡ true
    left true b is = refl
    left false b is = is

    right : (a b : Bool) → (a && b) ≡ true → b ≡ true
    right true b is = is
    right false b is = absurd (true≢false (sym is))

-- by the line
pub line_sound : (lines : ℕ) (shapes : List HostShape) (l : Line) → MayStand lines shapes (note_of_line l) → HasUuid l → line_bytes * lines ≤ device_limit → HasSoundMade l
line_sound lines shapes (line.Host name uuid) may has few = tt
line_sound lines shapes (line.Made h p) may has few = by (slice_get (faces shapes) h) may.1
  where
    by : (o : Option Face) → OfFace o (λ f. IsMadeBy f.uuid lines p) → SoundParams p
    by None made = absurd made
    by (Some f) made = made_sound f.uuid lines p made has few
line_sound lines shapes (line.Cut h k) may has few = tt
line_sound lines shapes (line.Start h cmd) may has few = tt
line_sound lines shapes (line.Mark h) may has few = tt
line_sound lines shapes (line.Found h n) may has few = tt
line_sound lines shapes (line.Writes h seq e) may has few = tt
line_sound lines shapes (line.Answered h answer) may has few = tt
line_sound lines shapes (line.Stop h) may has few = tt
line_sound lines shapes (line.Halt h) may has few = tt
line_sound lines shapes (line.Umount h) may has few = tt
line_sound lines shapes (line.Refused name why) may has few = tt

-- the state behind a line that no command gives, as for a journal
pub plain_after : (start : Image) (x : Possible) (l : Line) → IsPlainLine l → (after_line start x (note_of_line l)).state ≡ state_after (past_in start x) (note_of_line l)
plain_after start x (line.Host name uuid) plain = refl
plain_after start x (line.Made h p) plain = refl
plain_after start x (line.Cut h k) plain = refl
plain_after start x (line.Start h cmd) plain = refl
plain_after start x (line.Mark h) plain = refl
plain_after start x (line.Found h n) plain = refl
plain_after start x (line.Writes h seq e) plain = refl
plain_after start x (line.Answered h answer) plain = refl
plain_after start x (line.Stop h) plain = refl
plain_after start x (line.Halt h) plain = refl
plain_after start x (line.Umount h) plain = refl
plain_after start x (line.Refused name why) plain = refl

-- the candidate behind the line
pub plain_next : (start : Image) (hosts : Hosts) (c d : Candidate) (l : Line) → IsPlainLine l → HostsFit hosts → IsCandidate hosts c
    → settled_state start d.settled ≡ state_after (past_in start (possible_of start hosts c)) (note_of_line l)
    → d.tracks.items ≡ tracks_after (settled_length (settled_state start c.settled)) c.tracks.items l
    → possible_after start hosts l d ≡ after_line start (possible_of start hosts c) (note_of_line l)
plain_next start hosts c d l plain are is state tracks =
    same_possible _ _ _ _ (state ∙ sym (plain_after start (possible_of start hosts c) l plain))
    (ap (λ (ts : List Track). progress_list (seen_after hosts.seen.items l) (commands_after hosts.commands.items l) ts) tracks
    ∙ hosts_are start (settled_state start c.settled) hosts.seen.items hosts.commands.items c.tracks.items l are is)
