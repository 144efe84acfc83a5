-- A host that has named an entry runs a command that appends.
use Rattle.std.proofs.Common.{◌≡◌, ℕ, zero, suc, Bool, true, false, if◌then◌else◌, List, [], ◌∷◌, map, Option, Some, None, refl, ap, sym, subst, ◌∙◌}
use Rattle.std.specs.List.{slice_get}
use Rattle.std.specs.Option.{is_some, option_map}
use Rattle.std.proofs.lemmas.Bool.{true≢false}
use Rattle.fam_base.specs.declared.entry.Entry.{Entry}
use Rattle.fam_base.specs.Image.{Image}
use Rattle.fam_commands.specs.Appends.{HasWish}
use Rattle.fam_history.specs.declared.command.ToldCommand.{ToldCommand}
use Rattle.fam_journal.specs.Notes.{Note, Writes}
use Rattle.fam_journal.specs.Shapes.{HostShape, OfRunning, OfTask, TaskNote, TaskShape}
use Rattle.fam_judge.specs.Possible.{MayLead, MeetsEntries, Possible, Progress, WantsToAppend, Wrote, left_out_met, shapes_in, shown_met}
use Rattle.fam_lines.specs.declared.host.SeenHost.{SeenHost}
use Rattle.fam_lines.specs.Lines.{untold_of}
use Rattle.fam_rules.specs.Decide.{Wish}
use Rattle.fam_judging.specs.declared.candidate.Candidate.{Candidate}
use Rattle.fam_judging.specs.declared.candidate.Track.{Track}
use Rattle.fam_judging.specs.declared.hosts.Hosts.{Hosts}
use Rattle.fam_judging.specs.Among.{WritesAmong}
use Rattle.fam_judging.specs.Candidates.{possible_of, progress_list, stage_shape}
use Rattle.fam_judging.specs.Going.{is_appending, running}
use Rattle.fam_judging.proofs.Among.{none_among}

-- a command that names an entry wants to append
names_wish : (h seq : ℕ) (e : Entry) (o : Option HostShape) → OfRunning o (λ me t. TaskNote h me t (Writes h seq e)) → OfRunning o (λ me t. HasWish t.cmd)
names_wish h seq e None may = may
names_wish h seq e (Some host) may = by host.task may
  where
    by : (o : Option TaskShape) → OfTask o (λ t. TaskNote h host.uuid t (Writes h seq e)) → OfTask o (λ t. HasWish t.cmd)
    by None none = none
    by (Some t) note = let shape = note.1 in (shape.0, shape.1)

-- so does a host's
wrote_wants : (start : Image) (h : ℕ) (x w : Possible) → Wrote start h x w → WantsToAppend h x
wrote_wants start h x w wrote = by wrote.met wrote.meets wrote.may
  where
    by : (met : Possible) → MeetsEntries start h x met → OfRunning (slice_get (shapes_in met) h) (λ me t. TaskNote h me t (Writes h wrote.seq wrote.entry)) → WantsToAppend h x
    by met (shown_met n stage same) may =
        subst (λ (p : Possible). WantsToAppend h p) same (names_wish h wrote.seq wrote.entry (slice_get (shapes_in met) h) may)
    by met (left_out_met n head wishes found is) may = wishes

-- the command that a host runs
wants_by : (b : Bool) (cmd : Option ToldCommand) (t : Track)
    → OfTask (if b then option_map (λ (c : ToldCommand). let s : TaskShape = record { cmd = untold_of c; stage = stage_shape t.stage } in s) cmd else None) (λ s. HasWish s.cmd)
    → is_appending (if b then cmd else None) ≡ true
wants_by false cmd t wish = absurd wish
wants_by true None t wish = absurd wish
wants_by true (Some c) t wish = ap (λ (o : Option Wish). is_some o) wish.1

-- by its place
wants_at : (seen : List SeenHost) (cmds : List (Option ToldCommand)) (tracks : List Track) (h : ℕ)
    → OfRunning (slice_get (map (λ (p : Progress). p.shape) (progress_list seen cmds tracks)) h) (λ me t. HasWish t.cmd) → is_appending (running seen cmds h) ≡ true
wants_at [] cmds tracks h wish = absurd wish
wants_at (s ∷ seen) [] tracks h wish = absurd wish
wants_at (s ∷ seen) (c ∷ cmds) [] h wish = absurd wish
wants_at (s ∷ seen) (c ∷ cmds) (t ∷ tracks) zero wish = wants_by s.runs c t wish
wants_at (s ∷ seen) (c ∷ cmds) (t ∷ tracks) (suc h) wish = wants_at seen cmds tracks h wish

-- where a host runs none that appends nothing is put
pub writes_none : (start : Image) (line : Note) (k : ℕ) (hosts : Hosts) (c : Candidate) (Fine : Candidate → Type 0) (see : Candidate → Possible) (old : List Candidate)
    → is_appending (running hosts.seen.items hosts.commands.items k) ≡ false → WritesAmong start line k (possible_of start hosts c) Fine see old old
writes_none start line k hosts c Fine see old none =
    let x = possible_of start hosts c in
    let among = none_among (MayLead start x line) Fine see old old refl in
    record {
      into = record {
        puts = among.puts;
        all = λ w z wrote not steps.
            absurd (true≢false (sym (wants_at hosts.seen.items hosts.commands.items c.tracks.items k (wrote_wants start k x w wrote)) ∙ none));
      };
      fine = among.fine;
    }
