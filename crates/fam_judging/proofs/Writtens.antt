-- What a command may have named by now.
use Rattle.std.proofs.Common.{◌≡◌, ◌⊎◌, ◌+◌, ◌++◌, inl, inr, ℕ, zero, suc, true, false, List, [], ◌∷◌, length, Option, Some, None, refl, sym, ap, ◌∙◌, append_assoc, arith}
use Rattle.std.specs.Prelude.{is_some, slice_get}
use Rattle.std.proofs.lemmas.Bool.{true≢false}
use Rattle.fam_base.specs.declared.entry.Entry.{Entry}
use Rattle.fam_base.specs.Image.{Image}
use Rattle.fam_judge.specs.Possible.{Possible}
use Rattle.fam_judging.specs.declared.candidate.Candidate.{Candidate}
use Rattle.fam_judging.specs.declared.candidate.Settled.{Settled}
use Rattle.fam_judging.specs.declared.candidate.Track.{Track}
use Rattle.fam_judging.specs.declared.hosts.Hosts.{Hosts}
use Rattle.fam_judging.specs.Candidates.{possible_of, progress_list, settled_state}
use Rattle.fam_judging.specs.Going.{Goes}
use Rattle.fam_judging.specs.Pushing.{Pushes, WrittenAt}
use Rattle.fam_judging.specs.Told.{NamesFrom}
use Rattle.fam_judging.proofs.Goings.{goes_not, goes_there, same_possible}

-- a copy is the same state
pub copied : (start : Image) (hosts : Hosts) (c d : Candidate) → d.settled ≡ c.settled → d.tracks.items ≡ c.tracks.items → possible_of start hosts d ≡ possible_of start hosts c
copied start hosts c d settled tracks =
    same_possible _ _ _ _ (ap (λ (s : Settled). settled_state start s) settled)
    (ap (λ (ts : List Track). progress_list hosts.seen.items hosts.commands.items ts) tracks)

-- a member of two lists is one of the first or one of the second
one_of : (a b : List Candidate) (k : ℕ) (d : Candidate) → slice_get (a ++ b) k ≡ Some d → (slice_get a k ≡ Some d) ⊎ ((j : ℕ) × (slice_get b j ≡ Some d))
one_of [] b k d at = inr (k, at)
one_of (x ∷ a) b zero d at = inl at
one_of (x ∷ a) b (suc k) d at = one_of a b k d at

-- one of the first is one of both
front : (a b : List Candidate) (k : ℕ) (d : Candidate) → slice_get a k ≡ Some d → slice_get (a ++ b) k ≡ Some d
front [] b k d at = absurd cc
front (x ∷ a) b zero d at = at
front (x ∷ a) b (suc k) d at = front a b k d at

-- and so is one of the second
back : (a b : List Candidate) (k : ℕ) (d : Candidate) → slice_get b k ≡ Some d → slice_get (a ++ b) (length a + k) ≡ Some d
back [] b k d at = ap (λ (n : ℕ). slice_get b n) zero_left ∙ at
  where
    zero_left : 0 + k ≡ k
    zero_left = omega arith
back (x ∷ a) b k d at = ap (λ (n : ℕ). slice_get (x ∷ (a ++ b)) n) suc_left ∙ back a b k d at
  where
    suc_left : suc (length a) + k ≡ suc (length a + k)
    suc_left = omega arith

-- none is named
pub written_none : (start : Image) (h n : ℕ) (x y : Possible) (o : Option Entry) → is_some o ≡ false → NamesFrom start h n x y o → Goes (WrittenAt start h n x) y false
written_none start h n x y None is from = goes_not y (λ z w. let r = (from.complete w.0 z w.1).0 in cc)
written_none start h n x y (Some e) is from = absurd (true≢false is)

-- where one is
pub written_some : (start : Image) (h n : ℕ) (x y : Possible) (o : Option Entry) → is_some o ≡ true → NamesFrom start h n x y o → Goes (WrittenAt start h n x) y true
written_some start h n x y None is from = absurd (true≢false (sym is))
written_some start h n x y (Some e) is from = goes_there y (e, from.sound e refl) (λ z w. (from.complete w.0 z w.1).1)

-- Two counts.

-- what comes behind the old ones and then behind those
pub pushes_both : (P Q R : Possible → Type 0) (Fine : Candidate → Type 0) (see : Candidate → Possible) (old mid new : List Candidate)
    → Pushes P Fine see old mid → Pushes Q Fine see mid new → ((z : Possible) → P z → R z) → ((z : Possible) → Q z → R z) → ((z : Possible) → R z → P z ⊎ Q z)
    → Pushes R Fine see old new
pushes_both P Q R Fine see old mid new a b p q r = record {
  news = a.news ++ b.news;
  is = b.is ∙ ap (λ (l : List Candidate). l ++ b.news) a.is ∙ append_assoc old a.news b.news;
  sound = λ k d at. elim (one_of a.news b.news k d at) [
    | inl here ↦ p (see d) (a.sound k d here)
    | inr there ↦ q (see d) (b.sound there.0 d there.1)
  ];
  fine = λ k d at. elim (one_of a.news b.news k d at) [
    | inl here ↦ a.fine k d here
    | inr there ↦ b.fine there.0 d there.1
  ];
  complete = λ z is. elim (r z is) [
    | inl one ↦ let s = a.complete z one in record { place = s.place; candidate = s.candidate; is = front a.news b.news s.place s.candidate s.is; state = s.state }
    | inr one ↦ let s = b.complete z one in record { place = length a.news + s.place; candidate = s.candidate; is = back a.news b.news s.place s.candidate s.is; state = s.state }
  ];
}
