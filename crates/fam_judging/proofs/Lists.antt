-- What hosts and candidates keep behind a line is what `after_line` of fam_judge says.
use Rattle.std.proofs.Common.{◌≡◌, ◌++◌, ℕ, zero, suc, Bool, true, false, List, [], ◌∷◌, length, Option, Some, None, refl, sym, ap, ap₂, ◌∙◌, arith}
use Rattle.std.specs.Prelude.{if◌then◌else◌, option_map}
use Rattle.fam_base.specs.declared.entry.Entry.{Entry}
use Rattle.fam_base.specs.Image.{Image}
use Rattle.fam_history.specs.declared.command.ToldCommand.{ToldCommand}
use Rattle.fam_journal.specs.Members.{changed_at}
use Rattle.fam_journal.specs.Past.{HostPast, State, settled_length}
use Rattle.fam_journal.specs.Shapes.{Begun, CommandStage, Marked, Met, Named, TaskShape, with_stage}
use Rattle.fam_judge.specs.Possible.{Progress, after_line, new_progress}
use Rattle.fam_judge.proofs.Members.{changed_same}
use Rattle.fam_lines.specs.declared.host.SeenHost.{SeenHost}
use Rattle.fam_lines.specs.declared.line.Line.{Line}
use Rattle.fam_lines.specs.declared.line.Line.TheVariants as line
use Rattle.fam_lines.specs.Lines.{note_of_line, untold_of}
use Rattle.fam_judging.specs.declared.candidate.Stage.{Stage}
use Rattle.fam_judging.specs.declared.candidate.Stage.TheVariants as stage
use Rattle.fam_judging.specs.declared.candidate.Track.{Track}
use Rattle.fam_judging.specs.Candidates.{AreCommanded, progress_list, progress_of, stage_shape, task_shape_of}
use Rattle.fam_judging.specs.After.{commands_after, named_track, new_seen, new_track, seen_after, tracks_after}

-- a command at a stage
abbrev pub task_at : CommandStage → ToldCommand → TaskShape
task_at stage cmd = record { cmd = untold_of cmd; stage = stage }

-- one host changes
progress_changed : (f : SeenHost → SeenHost) (g : Option ToldCommand → Option ToldCommand) (k : Track → Track) (F : Progress → Progress)
    → ((s : SeenHost) (c : Option ToldCommand) (t : Track) → progress_of (f s) (g c) (k t) ≡ F (progress_of s c t))
    → (h : ℕ) (seen : List SeenHost) (cmds : List (Option ToldCommand)) (tracks : List Track)
    → progress_list (changed_at h f seen) (changed_at h g cmds) (changed_at h k tracks) ≡ changed_at h F (progress_list seen cmds tracks)
progress_changed f g k F same h [] cmds tracks = refl
progress_changed f g k F same zero (s ∷ seen) [] tracks = refl
progress_changed f g k F same (suc h) (s ∷ seen) [] tracks = refl
progress_changed f g k F same zero (s ∷ seen) (c ∷ cmds) [] = refl
progress_changed f g k F same (suc h) (s ∷ seen) (c ∷ cmds) [] = refl
progress_changed f g k F same zero (s ∷ seen) (c ∷ cmds) (t ∷ tracks) = ap (λ (p : Progress). p ∷ progress_list seen cmds tracks) (same s c t)
progress_changed f g k F same (suc h) (s ∷ seen) (c ∷ cmds) (t ∷ tracks) =
    ap (λ (ps : List Progress). progress_of s c t ∷ ps) (progress_changed f g k F same h seen cmds tracks)

-- what stays as it is
pub kept : {A : Type 0} (h : ℕ) (xs : List A) → changed_at h (λ x. x) xs ≡ xs
kept h xs = changed_same h (λ x. x) xs (λ x is. refl)

-- of what is seen alone
pub seen_changed : (f : SeenHost → SeenHost) (F : Progress → Progress)
    → ((s : SeenHost) (c : Option ToldCommand) (t : Track) → progress_of (f s) c t ≡ F (progress_of s c t))
    → (h : ℕ) (seen : List SeenHost) (cmds : List (Option ToldCommand)) (tracks : List Track)
    → progress_list (changed_at h f seen) cmds tracks ≡ changed_at h F (progress_list seen cmds tracks)
seen_changed f F same h seen cmds tracks =
    ap₂ (λ (cs : List (Option ToldCommand)) (ts : List Track). progress_list (changed_at h f seen) cs ts) (sym (kept h cmds)) (sym (kept h tracks))
    ∙ progress_changed f (λ c. c) (λ t. t) F same h seen cmds tracks

-- of what a candidate keeps alone
pub track_changed : (k : Track → Track) (F : Progress → Progress)
    → ((s : SeenHost) (c : Option ToldCommand) (t : Track) → progress_of s c (k t) ≡ F (progress_of s c t))
    → (h : ℕ) (seen : List SeenHost) (cmds : List (Option ToldCommand)) (tracks : List Track)
    → progress_list seen cmds (changed_at h k tracks) ≡ changed_at h F (progress_list seen cmds tracks)
track_changed k F same h seen cmds tracks =
    ap₂ (λ (ss : List SeenHost) (cs : List (Option ToldCommand)). progress_list ss cs (changed_at h k tracks)) (sym (kept h seen)) (sym (kept h cmds))
    ∙ progress_changed (λ s. s) (λ c. c) k F same h seen cmds tracks

-- one host more
progress_more : (name uuid : List ℕ) (seen : List SeenHost) (cmds : List (Option ToldCommand)) (tracks : List Track) → AreCommanded seen cmds → length tracks ≡ length seen
    → progress_list (seen ++ new_seen name uuid ∷ []) (cmds ++ None ∷ []) (tracks ++ new_track ∷ []) ≡ progress_list seen cmds tracks ++ new_progress name uuid ∷ []
progress_more name uuid [] [] [] are same = refl
progress_more name uuid [] [] (t ∷ tracks) are same = absurd (omega (arith, same))
progress_more name uuid [] (c ∷ cmds) tracks are same = absurd are
progress_more name uuid (s ∷ seen) [] tracks are same = absurd are
progress_more name uuid (s ∷ seen) (c ∷ cmds) [] are same = absurd (omega (arith, same))
progress_more name uuid (s ∷ seen) (c ∷ cmds) (t ∷ tracks) are same =
    ap (λ (ps : List Progress). progress_of s c t ∷ ps) (progress_more name uuid seen cmds tracks are.1 (omega (arith, same)))

-- Lines.

-- two changes of one host are one
pub changed_twice : {A : Type 0} (h : ℕ) (f g : A → A) (xs : List A) → changed_at h g (changed_at h f xs) ≡ changed_at h (λ x. g (f x)) xs
changed_twice h f g [] = refl
changed_twice zero f g (x ∷ xs) = refl
changed_twice {A = A} (suc h) f g (x ∷ xs) = ap (λ (ys : List A). x ∷ ys) (changed_twice h f g xs)

-- a task that has come further
staged : (runs : Bool) (cmd : Option ToldCommand) (old new : CommandStage)
    → (if runs then option_map (task_at new) cmd else None) ≡ option_map (λ (t : TaskShape). record t { stage = new }) (if runs then option_map (task_at old) cmd else None)
staged true None old new = refl
staged true (Some cmd) old new = refl
staged false cmd old new = refl

-- where less is told of a host, and its command has come to a stage
track_staged : (t : Track) (stage : Stage) (told : HostPast → HostPast) (s : SeenHost) (c : Option ToldCommand) (k : Track)
    → k.stage ≡ stage → (progress_of s c k).told ≡ told (progress_of s c t).told
    → progress_of s c k ≡ record { told = told (progress_of s c t).told; shape = with_stage (stage_shape stage) (progress_of s c t).shape }
track_staged t stage told s c k is same =
    ap₂ (λ (h : HostPast) (o : Option TaskShape). record { told = h; shape = record { name = s.name; uuid = s.uuid; task = o; keeps = s.keeps } })
    same
    (ap (λ (g : Stage). task_shape_of s c (record k { stage = g })) is ∙ staged s.runs c (stage_shape t.stage) (stage_shape stage))

-- a command whose mark was told
pub marked_hosts : (n : ℕ) (h : ℕ) (seen : List SeenHost) (cmds : List (Option ToldCommand)) (tracks : List Track)
    → progress_list seen cmds (changed_at h (λ t. record t { stage = stage.Marked; floor = Some n }) tracks)
    ≡ changed_at h (λ p. record { told = record p.told { floor = Some n }; shape = with_stage Marked p.shape }) (progress_list seen cmds tracks)
marked_hosts n h seen cmds tracks = track_changed _ _ (λ s c t. track_staged t stage.Marked (λ told. record told { floor = Some n }) s c _ refl refl) h seen cmds tracks

-- one that has found entries
pub met_hosts : (n : ℕ) (h : ℕ) (seen : List SeenHost) (cmds : List (Option ToldCommand)) (tracks : List Track)
    → progress_list seen cmds (changed_at h (λ t. record t { stage = stage.Met n }) tracks)
    ≡ changed_at h (λ p. record p { shape = with_stage (Met n) p.shape }) (progress_list seen cmds tracks)
met_hosts n h seen cmds tracks = track_changed _ _ (λ s c t. track_staged t (stage.Met n) (λ told. told) s c _ refl refl) h seen cmds tracks

-- one that has named an entry
pub named_hosts : (seq : ℕ) (e : Entry) (h : ℕ) (seen : List SeenHost) (cmds : List (Option ToldCommand)) (tracks : List Track)
    → progress_list seen cmds (changed_at h (named_track seq e) tracks)
    ≡ changed_at h (λ p. record { told = record p.told { wrote = Some (record { seq = seq; entry = e }) }; shape = with_stage (Named seq) p.shape }) (progress_list seen cmds tracks)
named_hosts seq e h seen cmds tracks =
    track_changed _ _ (λ s c t. track_staged t (stage.Named seq) (λ told. record told { wrote = Some (record { seq = seq; entry = e }) }) s c (named_track seq e t) refl refl)
    h seen cmds tracks

-- the hosts behind a line are those that fam_judge says
pub hosts_are : (start : Image) (state : State) (seen : List SeenHost) (cmds : List (Option ToldCommand)) (tracks : List Track) (l : Line)
    → AreCommanded seen cmds → length tracks ≡ length seen
    → progress_list (seen_after seen l) (commands_after cmds l) (tracks_after (settled_length state) tracks l)
    ≡ (after_line start (record { state = state; hosts = progress_list seen cmds tracks }) (note_of_line l)).hosts
hosts_are start state seen cmds tracks (line.Host name uuid) are same = progress_more name uuid seen cmds tracks are same
hosts_are start state seen cmds tracks (line.Made h p) are same = refl
hosts_are start state seen cmds tracks (line.Cut h k) are same = refl
hosts_are start state seen cmds tracks (line.Start h cmd) are same =
    progress_changed _ _ _ (λ (p : Progress). record {
      told = record p.told { cmd = Some (untold_of cmd); floor = Some (settled_length state); wrote = None };
      shape = record p.shape { task = Some (record { cmd = untold_of cmd; stage = Begun }) };
    }) (λ s c t. refl) h seen cmds tracks
    ∙ sym (changed_twice h _ _ (progress_list seen cmds tracks))
hosts_are start state seen cmds tracks (line.Mark h) are same = marked_hosts (settled_length state) h seen cmds tracks
hosts_are start state seen cmds tracks (line.Found h n) are same = met_hosts n h seen cmds tracks
hosts_are start state seen cmds tracks (line.Writes h seq e) are same = named_hosts seq e h seen cmds tracks
hosts_are start state seen cmds tracks (line.Answered h answer) are same = seen_changed _ _ (λ s c t. refl) h seen cmds tracks
hosts_are start state seen cmds tracks (line.Stop h) are same = seen_changed _ _ (λ s c t. refl) h seen cmds tracks
hosts_are start state seen cmds tracks (line.Halt h) are same = seen_changed _ _ (λ s c t. refl) h seen cmds tracks
hosts_are start state seen cmds tracks (line.Umount h) are same = seen_changed _ _ (λ s c t. refl) h seen cmds tracks
hosts_are start state seen cmds tracks (line.Refused name why) are same = refl
