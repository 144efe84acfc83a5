-- Hosts and candidates keep their places behind a line.
use Rattle.std.proofs.Common.{◌≡◌, ◌⊎◌, inl, inr, ◌+◌, ◌++◌, ◌≤◌, ℕ, zero, suc, false, List, [], ◌∷◌, length, set, Option, Some, None, refl, sym, ap, subst, ◌∙◌, arith}
use Rattle.std.specs.Prelude.{slice_get}
use Rattle.std.proofs.lemmas.Option.{same_Some}
use Rattle.fam_history.specs.declared.command.ToldCommand.{ToldCommand}
use Rattle.fam_journal.specs.Members.{changed_at}
use Rattle.fam_journal.specs.Shapes.{keeps_behind}
use Rattle.fam_judge.proofs.Members.{changed_count, count_last}
use Rattle.fam_lines.specs.declared.host.SeenHost.{SeenHost}
use Rattle.fam_lines.specs.declared.line.Line.{Line}
use Rattle.fam_lines.specs.declared.line.Line.TheVariants as line
use Rattle.fam_lines.specs.Lines.{answer_of}
use Rattle.fam_judging.specs.declared.candidate.Track.{Track}
use Rattle.fam_judging.specs.Candidates.{AreCommanded, RunsCommand}
use Rattle.fam_judging.specs.After.{commands_after, new_seen, new_track, seen_after, tracks_after}
use Rattle.fam_judging.specs.Told.{IsToldCommand}
use Rattle.fam_judging.proofs.Lists.{kept}

-- Members that are written.

-- a member is written
pub put : {A : Type 0} (at : ℕ) (f : A → A) (xs : List A) (x y : A) → slice_get xs at ≡ Some x → y ≡ f x → set xs at y ≡ changed_at at f xs
put at f [] x y is new = absurd cc
put zero f (z ∷ xs) x y is new = ap (λ w. w ∷ xs) (new ∙ ap f (sym (same_Some z x is)))
put (suc at) f (z ∷ xs) x y is new = ap (λ ws. z ∷ ws) (put at f xs x y is new)

-- one that stays the same whatever it was
pub put_one : {A : Type 0} (at : ℕ) (xs : List A) (y : A) → set xs at y ≡ changed_at at (λ x. y) xs
put_one at [] y = refl
put_one zero (x ∷ xs) y = refl
put_one {A = A} (suc at) (x ∷ xs) y = ap (λ (ys : List A). x ∷ ys) (put_one at xs y)

-- where there is none, nothing is
pub no_place : {A : Type 0} (at : ℕ) (f : A → A) (xs : List A) → length xs ≤ at → xs ≡ changed_at at f xs
no_place at f [] above = refl
no_place zero f (z ∷ xs) above = absurd (omega (arith, above))
no_place (suc at) f (z ∷ xs) above = ap (λ ws. z ∷ ws) (no_place at f xs (omega (arith, above)))

-- Places.

-- each host keeps its place among the commands
commanded_changed : (f : SeenHost → SeenHost) (g : Option ToldCommand → Option ToldCommand)
    → ((s : SeenHost) (c : Option ToldCommand) → RunsCommand s c → RunsCommand (f s) (g c))
    → (h : ℕ) (seen : List SeenHost) (cmds : List (Option ToldCommand)) → AreCommanded seen cmds → AreCommanded (changed_at h f seen) (changed_at h g cmds)
commanded_changed f g keep h [] [] are = tt
commanded_changed f g keep h [] (c ∷ cmds) are = absurd are
commanded_changed f g keep h (s ∷ seen) [] are = absurd are
commanded_changed f g keep zero (s ∷ seen) (c ∷ cmds) are = (keep s c are.0, are.1)
commanded_changed f g keep (suc h) (s ∷ seen) (c ∷ cmds) are = (are.0, commanded_changed f g keep h seen cmds are.1)

-- where what is seen changes alone
commanded_seen : (f : SeenHost → SeenHost) → ((s : SeenHost) (c : Option ToldCommand) → RunsCommand s c → RunsCommand (f s) c)
    → (h : ℕ) (seen : List SeenHost) (cmds : List (Option ToldCommand)) → AreCommanded seen cmds → AreCommanded (changed_at h f seen) cmds
commanded_seen f keep h seen cmds are =
    subst (λ (cs : List (Option ToldCommand)). AreCommanded (changed_at h f seen) cs) (kept h cmds) (commanded_changed f (λ c. c) keep h seen cmds are)

-- one host more
commanded_more : (new : SeenHost) → new.runs ≡ false → (seen : List SeenHost) (cmds : List (Option ToldCommand)) → AreCommanded seen cmds → AreCommanded (seen ++ new ∷ []) (cmds ++ None ∷ [])
commanded_more new runs [] [] are = (runs, tt)
commanded_more new runs [] (c ∷ cmds) are = absurd are
commanded_more new runs (s ∷ seen) [] are = absurd are
commanded_more new runs (s ∷ seen) (c ∷ cmds) are = (are.0, commanded_more new runs seen cmds are.1)

-- a host that runs none may have any command
idle : (s : SeenHost) (c : Option ToldCommand) → s.runs ≡ false → RunsCommand s c
idle s None runs = runs
idle s (Some cmd) runs = tt

-- so do they behind a line
pub commanded_after : (seen : List SeenHost) (cmds : List (Option ToldCommand)) (l : Line) → AreCommanded seen cmds → AreCommanded (seen_after seen l) (commands_after cmds l)
commanded_after seen cmds (line.Host name uuid) are = commanded_more (new_seen name uuid) refl seen cmds are
commanded_after seen cmds (line.Made h p) are = are
commanded_after seen cmds (line.Cut h k) are = are
commanded_after seen cmds (line.Start h cmd) are = commanded_changed _ _ (λ s c runs. tt) h seen cmds are
commanded_after seen cmds (line.Mark h) are = are
commanded_after seen cmds (line.Found h n) are = are
commanded_after seen cmds (line.Writes h seq e) are = are
commanded_after seen cmds (line.Answered h answer) are =
    commanded_seen _ (λ s c runs. idle (record s { runs = false; keeps = keeps_behind (answer_of answer) s.keeps }) c refl) h seen cmds are
commanded_after seen cmds (line.Stop h) are = commanded_seen _ (λ s c runs. idle (record s { runs = false }) c refl) h seen cmds are
commanded_after seen cmds (line.Halt h) are = commanded_seen _ (λ s c runs. idle (record s { runs = false; keeps = false }) c refl) h seen cmds are
commanded_after seen cmds (line.Umount h) are = commanded_seen _ (λ s c runs. runs_still s c runs) h seen cmds are
  where
    runs_still : (s : SeenHost) (c : Option ToldCommand) → RunsCommand s c → RunsCommand (record s { keeps = false }) c
    runs_still s None runs = runs
    runs_still s (Some cmd) runs = tt
commanded_after seen cmds (line.Refused name why) are = are

-- and each has its place in a candidate
pub placed_after : (settled : ℕ) (seen : List SeenHost) (tracks : List Track) (l : Line) → length tracks ≡ length seen → length (tracks_after settled tracks l) ≡ length (seen_after seen l)
placed_after settled seen tracks (line.Host name uuid) same = count_last tracks new_track ∙ ap (λ (n : ℕ). n + 1) same ∙ sym (count_last seen (new_seen name uuid))
placed_after settled seen tracks (line.Made h p) same = same
placed_after settled seen tracks (line.Cut h k) same = same
placed_after settled seen tracks (line.Start h cmd) same = changed_count h _ tracks ∙ same ∙ sym (changed_count h _ seen)
placed_after settled seen tracks (line.Mark h) same = changed_count h _ tracks ∙ same
placed_after settled seen tracks (line.Found h n) same = changed_count h _ tracks ∙ same
placed_after settled seen tracks (line.Writes h seq e) same = changed_count h _ tracks ∙ same
placed_after settled seen tracks (line.Answered h answer) same = same ∙ sym (changed_count h _ seen)
placed_after settled seen tracks (line.Stop h) same = same ∙ sym (changed_count h _ seen)
placed_after settled seen tracks (line.Halt h) same = same ∙ sym (changed_count h _ seen)
placed_after settled seen tracks (line.Umount h) same = same ∙ sym (changed_count h _ seen)
placed_after settled seen tracks (line.Refused name why) same = same

-- Told commands.

-- a member of a list of which one was written
one_of : {A : Type 0} (h k : ℕ) (x y : A) (xs : List A) → slice_get (changed_at h (λ z. x) xs) k ≡ Some y → (y ≡ x) ⊎ (slice_get xs k ≡ Some y)
one_of h k x y [] at = inr at
one_of zero zero x y (z ∷ xs) at = inl (sym (same_Some x y at))
one_of zero (suc k) x y (z ∷ xs) at = inr at
one_of (suc h) zero x y (z ∷ xs) at = inr at
one_of (suc h) (suc k) x y (z ∷ xs) at = one_of h k x y xs at

-- or that one more joined
one_more : {A : Type 0} (k : ℕ) (x y : A) (xs : List A) → slice_get (xs ++ x ∷ []) k ≡ Some y → (y ≡ x) ⊎ (slice_get xs k ≡ Some y)
one_more zero x y [] at = inl (sym (same_Some x y at))
one_more (suc k) x y [] at = absurd cc
one_more zero x y (z ∷ xs) at = inr at
one_more (suc k) x y (z ∷ xs) at = one_more k x y xs at

-- a line begins only commands of which it tells all
abbrev pub BeginsTold : Line → Type 0
BeginsTold l = (h : ℕ) (cmd : ToldCommand) → l ≡ line.Start h cmd → IsToldCommand cmd

-- so they are told behind it
pub told_after : (cmds : List (Option ToldCommand)) (l : Line) → BeginsTold l → ((k : ℕ) (c : ToldCommand) → slice_get cmds k ≡ Some (Some c) → IsToldCommand c)
    → (k : ℕ) (c : ToldCommand) → slice_get (commands_after cmds l) k ≡ Some (Some c) → IsToldCommand c
told_after cmds (line.Host name uuid) begins told k c at = elim (one_more k None (Some c) cmds at) [
  | inl none ↦ absurd cc
  | inr old ↦ told k c old
]
told_after cmds (line.Made h p) begins told k c at = told k c at
told_after cmds (line.Cut h n) begins told k c at = told k c at
told_after cmds (line.Start h cmd) begins told k c at = elim (one_of h k (Some cmd) (Some c) cmds at) [
  | inl same ↦ subst IsToldCommand (sym (same_Some c cmd same)) (begins h cmd refl)
  | inr old ↦ told k c old
]
told_after cmds (line.Mark h) begins told k c at = told k c at
told_after cmds (line.Found h n) begins told k c at = told k c at
told_after cmds (line.Writes h seq e) begins told k c at = told k c at
told_after cmds (line.Answered h answer) begins told k c at = told k c at
told_after cmds (line.Stop h) begins told k c at = told k c at
told_after cmds (line.Halt h) begins told k c at = told k c at
told_after cmds (line.Umount h) begins told k c at = told k c at
told_after cmds (line.Refused name why) begins told k c at = told k c at
