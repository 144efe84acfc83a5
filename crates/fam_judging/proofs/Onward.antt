-- Loops over hosts and candidates come to all states to which a line leads.
use Rattle.std.proofs.Common.{◌≡◌, ◌≤◌, ℕ, zero, suc, ◌+◌, List, [], ◌∷◌, ◌++◌, length, map, take, Option, Some, ap, sym, ◌∙◌, subst, arith}
use Rattle.std.specs.List.{slice_get}
use Rattle.std.proofs.lemmas.List.{map-append, take_all}
use Rattle.std.proofs.lemmas.Option.{same_Some, slice_get_within}
use Rattle.fam_base.specs.Image.{Image}
use Rattle.fam_history.specs.declared.command.ToldCommand.{ToldCommand}
use Rattle.fam_journal.specs.Notes.{Note}
use Rattle.fam_judge.specs.Covering.{LeadsStates}
use Rattle.fam_judge.specs.Possible.{Possible, Wrote}
use Rattle.fam_lines.specs.declared.host.SeenHost.{SeenHost}
use Rattle.fam_judging.specs.declared.candidate.Candidate.{Candidate}
use Rattle.fam_judging.specs.declared.candidate.Settled.{Settled}
use Rattle.fam_judging.specs.declared.candidate.Track.{Track}
use Rattle.fam_judging.specs.declared.given.GivenImage.{GivenImage}
use Rattle.fam_judging.specs.Among.{AllFine, LeadsAll, LeadsAmong, LeadsBehindAll, LedBehind, StepsAmong, WritesAmong}
use Rattle.fam_judging.specs.Candidates.{progress_list}
use Rattle.fam_judging.specs.Going.{HasGiven}
use Rattle.fam_judging.specs.Pushing.{IsFine, Pushes}
use Rattle.fam_judging.proofs.Into.{leads_first, leads_more, leads_next, leads_none}

-- a copy is fine
pub copy_fine : (start : Image) (given : GivenImage) (seen : List SeenHost) (c d : Candidate) → d.settled ≡ c.settled → d.tracks.items ≡ c.tracks.items
    → IsFine start given seen c → IsFine start given seen d
copy_fine start given seen c d settled tracks fine = record {
  placed = ap (λ (ts : List Track). length ts) tracks ∙ fine.placed;
  said = subst (λ (s : Settled). HasGiven start given s) (sym settled) fine.said;
}

module _ (P : Possible → Type 0) (Fine : Candidate → Type 0) (see : Candidate → Possible) (ws : List Candidate) (pushes : Pushes P Fine see [] ws) where
  -- what is pushed behind none is fine
  pub pushed_fine : AllFine Fine ws
  pushed_fine k d is = pushes.fine k d (subst (λ (l : List Candidate). slice_get l k ≡ Some d) pushes.is is)

  -- and P holds of it
  pub pushed_sound : (k : ℕ) (d : Candidate) → slice_get ws k ≡ Some d → P (see d)
  pushed_sound k d is = pushes.sound k d (subst (λ (l : List Candidate). slice_get l k ≡ Some d) pushes.is is)

module _ (start : Image) (line : Note) (x : Possible) (Fine : Candidate → Type 0) (see : Candidate → Possible) where
  -- behind all states in which a host has named an entry
  pub writes_among : (k : ℕ) (Was : Candidate → Type 0) (at : Candidate → Possible) (ws old new : List Candidate) → Pushes (Wrote start k x) Was at [] ws
      → LeadsBehindAll start line k x at ws (length ws) Fine see old new → WritesAmong start line k x Fine see old new
  writes_among k Was at ws old new pushes behind = record {
    into = record {
      puts = behind.among.puts;
      all = λ w z wrote not steps.
          let h = pushes.complete w wrote in
          let is = subst (λ (l : List Candidate). slice_get l h.place ≡ Some h.candidate) (sym pushes.is) h.is in
          subst (λ (v : Possible). LedBehind start line k x v (map see new)) (sym h.state)
          (behind.all h.place h.candidate (slice_get_within ws h.place h.candidate is) is) z wrote not steps;
    };
    fine = behind.among.fine;
  }

  -- where the line leads from the state at once
  pub among_first : (old new : List Candidate) → StepsAmong start line x Fine see old new → LeadsAmong start line 0 x Fine see old new
  among_first old new steps = record { into = leads_first start line x (map see old) (map see new) steps.into; fine = steps.fine }

  -- where a host more may have named an entry before
  pub among_next : (n : ℕ) (old mid new : List Candidate) → LeadsAmong start line n x Fine see old mid → WritesAmong start line n x Fine see mid new
      → LeadsAmong start line (n + 1) x Fine see old new
  among_next n old mid new a b = record {
    into = leads_next start line n x (map see old) (map see mid) (map see new) a.into b.into;
    fine = λ all. b.fine (a.fine all);
  }

-- one more of a list
take_next : (cs : List Candidate) (n : ℕ) (d : Candidate) → slice_get cs n ≡ Some d → take (suc n) cs ≡ take n cs ++ d ∷ []
take_next [] n d is = absurd cc
take_next (c ∷ cs) zero d is = ap (λ (e : Candidate). e ∷ []) (same_Some c d is)
take_next (c ∷ cs) (suc n) d is = ap (λ (l : List Candidate). c ∷ l) (take_next cs n d is)

take_more : (cs : List Candidate) (n : ℕ) (d : Candidate) → slice_get cs n ≡ Some d → take (n + 1) cs ≡ take n cs ++ d ∷ []
take_more cs n d is = let more : n + 1 ≡ suc n = omega arith in ap (λ (m : ℕ). take m cs) more ∙ take_next cs n d is

module _ (start : Image) (line : Note) (at : Candidate → Possible) (cs : List Candidate) (Fine : Candidate → Type 0) (see : Candidate → Possible) where
  -- from no candidates a line leads nowhere
  pub all_none : LeadsAll start line at cs 0 Fine see []
  all_none = record { leads = leads_none start line; fine = λ k d is. absurd cc }

  -- one candidate more from which the line leads
  pub all_more : (n m : ℕ) (d : Candidate) (old new : List Candidate) → slice_get cs n ≡ Some d → length (at d).hosts ≤ m
      → LeadsAll start line at cs n Fine see old → LeadsAmong start line m (at d) Fine see old new → LeadsAll start line at cs (n + 1) Fine see new
  all_more n m d old new is within on more = record {
    leads = subst (λ (xs : List Possible). LeadsStates start line xs (map see new)) (sym (ap (map at) (take_more cs n d is) ∙ map-append at (take n cs) (d ∷ [])))
        (leads_more start line m (map at (take n cs)) (at d) (map see old) (map see new) within on.leads more.into);
    fine = more.fine on.fine;
  }

  -- behind the last one
  pub all_leads : (n : ℕ) (new : List Candidate) → length cs ≤ n → LeadsAll start line at cs n Fine see new → LeadsStates start line (map at cs) (map see new)
  all_leads n new whole all = subst (λ (l : List Candidate). LeadsStates start line (map at l) (map see new)) (take_all n cs whole) all.leads

-- a state has no more hosts than are declared
pub progress_count : (seen : List SeenHost) (cmds : List (Option ToldCommand)) (tracks : List Track) → length (progress_list seen cmds tracks) ≤ length seen
progress_count [] cmds tracks = omega arith
progress_count (s ∷ seen) [] tracks = omega arith
progress_count (s ∷ seen) (c ∷ cmds) [] = omega arith
progress_count (s ∷ seen) (c ∷ cmds) (t ∷ tracks) = omega (arith, progress_count seen cmds tracks)
