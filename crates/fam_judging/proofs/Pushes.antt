-- What is pushed behind other candidates.
use Rattle.std.proofs.Common.{◌≡◌, ◌++◌, ℕ, zero, suc, true, false, List, [], ◌∷◌, length, Some, refl, sym, subst}
use Rattle.std.specs.Prelude.{slice_get}
use Rattle.std.proofs.lemmas.Bool.{true≢false}
use Rattle.std.proofs.lemmas.List.{append-nil}
use Rattle.std.proofs.lemmas.Option.{same_Some}
use Rattle.fam_judge.specs.Possible.{Possible}
use Rattle.fam_judge.specs.Standing.{is_own}
use Rattle.fam_judge.proofs.Members.{changed_count}
use Rattle.fam_lines.specs.declared.host.SeenHost.{SeenHost}
use Rattle.fam_lines.specs.declared.line.Line.{Line}
use Rattle.fam_lines.specs.declared.line.Line.TheVariants as line
use Rattle.fam_lines.specs.Lines.{note_of_line}
use Rattle.fam_judging.specs.declared.candidate.Candidate.{Candidate}
use Rattle.fam_judging.specs.After.{seen_after}
use Rattle.fam_judging.specs.Going.{Goes}
use Rattle.fam_judging.specs.Pushing.{Pushes}

-- the hosts of a line that a running command gives stay as many
pub own_count : (seen : List SeenHost) (l : Line) → is_own (note_of_line l) ≡ true → length (seen_after seen l) ≡ length seen
own_count seen (line.Host name uuid) own = absurd (true≢false (sym own))
own_count seen (line.Made h p) own = refl
own_count seen (line.Cut h k) own = refl
own_count seen (line.Start h cmd) own = changed_count h _ seen
own_count seen (line.Mark h) own = refl
own_count seen (line.Found h n) own = refl
own_count seen (line.Writes h seq e) own = refl
own_count seen (line.Answered h answer) own = changed_count h _ seen
own_count seen (line.Stop h) own = changed_count h _ seen
own_count seen (line.Halt h) own = changed_count h _ seen
own_count seen (line.Umount h) own = changed_count h _ seen
own_count seen (line.Refused name why) own = refl

-- the place of one alone
alone : (k : ℕ) (c d : Candidate) → slice_get (c ∷ []) k ≡ Some d → c ≡ d
alone zero c d is = same_Some c d is
alone (suc k) c d is = absurd cc

module _ (P : Possible → Type 0) (Fine : Candidate → Type 0) (see : Candidate → Possible) (old : List Candidate) where
  -- this one is pushed
  pub push_one : (c : Candidate) (new : List Candidate) → new ≡ old ++ c ∷ [] → Goes P (see c) true → Fine c → Pushes P Fine see old new
  push_one c new is goes fine = record {
    news = c ∷ [];
    is = is;
    sound = λ k d at. subst (λ (e : Candidate). P (see e)) (alone k c d at) (goes.sound refl);
    fine = λ k d at. subst Fine (alone k c d at) fine;
    complete = λ z p. record { place = 0; candidate = c; is = refl; state = (goes.complete z p).1 };
  }

  -- none is
  pub push_none : (next : Possible) → Goes P next false → Pushes P Fine see old old
  push_none next goes = record {
    news = [];
    is = sym (append-nil old);
    sound = λ k d at. absurd cc;
    fine = λ k d at. absurd cc;
    complete = λ z p. absurd (true≢false (sym (goes.complete z p).0));
  }
