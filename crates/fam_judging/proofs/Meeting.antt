-- What a command has found by now, and what it names behind that.
use Rattle.std.proofs.Common.{◌≡◌, ◌↔◌, inl, inr, ℕ, Bool, true, false, IsTrue, Option, Some, None, refl, sym, ap, subst, ◌∙◌}
use Rattle.std.specs.Prelude.{slice_get}
use Rattle.std.proofs.lemmas.Bool.{true≢false}
use Rattle.fam_base.specs.declared.entry.Entry.{Entry}
use Rattle.fam_base.specs.Image.{Image}
use Rattle.fam_journal.specs.Notes.{Writes}
use Rattle.fam_journal.specs.Shapes.{IsHead, Met}
use Rattle.fam_judge.specs.Possible.{Possible, StepsTo, after_note, shapes_in}
use Rattle.fam_judging.specs.declared.candidate.Candidate.{Candidate}
use Rattle.fam_judging.specs.declared.hosts.Hosts.{Hosts}
use Rattle.fam_judging.specs.Candidates.{possible_of}
use Rattle.fam_judging.specs.Going.{FindsEntries, Goes, MayName, MeetsAt, is_met, stage_of_host}
use Rattle.fam_judging.specs.Told.{NamesFrom, NamesNext}
use Rattle.fam_judging.proofs.Goings.{goes_there}
use Rattle.fam_judging.proofs.Leading.{writes_from, writes_to}
use Rattle.fam_judging.proofs.Reaching.{both, never}
use Rattle.fam_judging.proofs.Tests.{met_tests}

module _ (start : Image) (hosts : Hosts) (c : Candidate) (h n : ℕ) where
  -- what it has found was told
  pub meets_told : true ≡ is_met n (stage_of_host hosts c h) → Goes (MeetsAt start h n (possible_of start hosts c)) (possible_of start hosts c) true
  meets_told is =
      let x = possible_of start hosts c in
      let met = (met_tests n start hosts c h).0 (sym is) in
      goes_there x (inl (met, refl)) (λ z m. elim m [
        | inl told ↦ told.1
        | inr f ↦ absurd (never (slice_get (shapes_in x) h) (λ me t. (t.stage ≡ Met n) × IsHead t.stage) (λ me t two. subst IsHead two.0 two.1)
            (both (slice_get (shapes_in x) h) (λ me t. t.stage ≡ Met n) (λ me t. IsHead t.stage) met f.head))
      ])

  -- or it wasn't
  pub meets_found : false ≡ is_met n (stage_of_host hosts c h) → (y : Possible) (b : Bool) → Goes (FindsEntries start h n (possible_of start hosts c)) y b
      → Goes (MeetsAt start h n (possible_of start hosts c)) y b
  meets_found not y b goes = record {
    sound = λ is. inr (goes.sound is);
    complete = λ z m. elim m [
      | inl told ↦ absurd (true≢false (sym (not ∙ (met_tests n start hosts c h).1 told.0)))
      | inr f ↦ goes.complete z f
    ];
  }

module _ (start : Image) (h n : ℕ) (x : Possible) where
  -- behind what it has found it names an entry
  pub names_from : (met y : Possible) (o : Option Entry) → Goes (MeetsAt start h n x) met true → NamesNext start h n met y o → NamesFrom start h n x y o
  names_from met y o goes next = record {
    sound = λ e is. record { met = met; meets = goes.sound refl; may = next.may e is; is = next.is e is };
    complete = λ e z nm.
        let one = (goes.complete nm.met nm.meets).1 in
        let named = next.complete e (subst (λ (m : Possible). MayName start h n e m) one nm.may) in
        (named, nm.is ∙ ap (λ (m : Possible). after_note start m (Writes h n e)) one ∙ sym (next.is e named));
  }

  -- where it has found other ones it names none
  pub names_from_none : (met y : Possible) → Goes (MeetsAt start h n x) met false → NamesFrom start h n x y None
  names_from_none met y goes = record {
    sound = λ e is. absurd cc;
    complete = λ e z nm. absurd (true≢false (sym (goes.complete nm.met nm.meets).0));
  }

  -- a line that tells of an entry
  pub writes_goes : (e : Entry) (y : Possible) (o : Option Entry) (b : Bool) → NamesFrom start h n x y o → IsTrue b ↔ (o ≡ Some e) → Goes (StepsTo start x (Writes h n e)) y b
  writes_goes e y o b from same = record {
    sound = λ is. writes_to start h x n e y (from.sound e (same.0 is));
    complete = λ z s. let r = from.complete e z (writes_from start h x n e z s) in (same.1 r.0, r.1);
  }
