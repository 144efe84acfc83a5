-- Loops over candidates and hosts put states among others.
use Rattle.std.proofs.Common.{◌≡◌, ◌<◌, ◌⊎◌, inl, inr, ℕ, ◌+◌, List, map, Some, refl, sym, ◌∙◌, subst, arith}
use Rattle.std.specs.List.{slice_get}
use Rattle.std.proofs.lemmas.Option.{same_Some}
use Rattle.fam_base.specs.Image.{Image}
use Rattle.fam_journal.specs.Notes.{Note}
use Rattle.fam_judge.specs.Possible.{Elsewhere, MayLead, Possible, Wrote, written}
use Rattle.fam_judging.specs.declared.candidate.Candidate.{Candidate}
use Rattle.fam_judging.specs.Among.{LeadsBehind, LeadsBehindAll, LedBehind, PutAmong, StepsAmong}
use Rattle.fam_judging.proofs.Into.{below_stays, less_or_same, puts_puts}

-- nothing is put
pub none_among : (P : Possible → Type 0) (Fine : Candidate → Type 0) (see : Candidate → Possible) (old new : List Candidate) → new ≡ old → PutAmong P Fine see old new
none_among P Fine see old new same =
    subst (λ (l : List Candidate). PutAmong P Fine see old l) (sym same) (record { puts = record { kept = λ z is. is; sound = λ z is. inl is }; fine = λ all. all })

-- ones behind others
pub among_among : (P : Possible → Type 0) (Fine : Candidate → Type 0) (see : Candidate → Possible) (old mid new : List Candidate)
    → PutAmong P Fine see old mid → PutAmong P Fine see mid new → PutAmong P Fine see old new
among_among P Fine see old mid new a b = record { puts = puts_puts P (map see old) (map see mid) (map see new) a.puts b.puts; fine = λ all. b.fine (a.fine all) }

module _ (start : Image) (line : Note) (k : ℕ) (x w : Possible) (Fine : Candidate → Type 0) (see : Candidate → Possible) (old new : List Candidate) where
  -- where the line tells nothing of the entry nothing is put
  pub behind_none : ((wrote : Wrote start k x w) → Elsewhere k wrote.seq line) → new ≡ old → LeadsBehind start line k x w Fine see old new
  behind_none other same = record { among = none_among (MayLead start x line) Fine see old new same; all = λ z wrote not steps. absurd (not (other wrote)) }

  -- else the states are to which the line leads
  pub behind_steps : Wrote start k x w → StepsAmong start line w Fine see old new → LeadsBehind start line k x w Fine see old new
  behind_steps wrote steps = record {
    among = record {
      puts = record {
        kept = steps.into.puts.kept;
        sound = λ z is. elim (steps.into.puts.sound z is) [ inl h ↦ inl h | inr h ↦ inr (record { first = w; before = written k wrote; steps = h }) ];
      };
      fine = steps.fine;
    };
    all = λ z other not there. steps.into.all z there;
  }

module _ (start : Image) (line : Note) (k : ℕ) (x : Possible) (at : Candidate → Possible) (ws : List Candidate) (Fine : Candidate → Type 0) (see : Candidate → Possible) where
  -- before the first candidate
  pub behind_first : (old : List Candidate) → LeadsBehindAll start line k x at ws 0 Fine see old old
  behind_first old = record { among = none_among (MayLead start x line) Fine see old old refl; all = λ i d less. absurd (omega (arith, less)) }

  -- one candidate more
  pub behind_next : (n : ℕ) (d : Candidate) (old mid new : List Candidate) → slice_get ws n ≡ Some d → LeadsBehindAll start line k x at ws n Fine see old mid
      → LeadsBehind start line k x (at d) Fine see mid new → LeadsBehindAll start line k x at ws (n + 1) Fine see old new
  behind_next n d old mid new is a b = record {
    among = among_among (MayLead start x line) Fine see old mid new a.among b.among;
    all = λ i e less at_i. by i e (less_or_same i n less) at_i;
  }
    where
      by : (i : ℕ) (e : Candidate) → (i < n) ⊎ (i ≡ n) → slice_get ws i ≡ Some e → LedBehind start line k x (at e) (map see new)
      by i e (inl less) at_i = λ z wrote not steps. below_stays (MayLead start x line) (map see mid) (map see new) z b.among.puts (a.all i e less at_i z wrote not steps)
      by i e (inr same) at_i =
          subst (λ (c : Candidate). LedBehind start line k x (at c) (map see new))
          (same_Some d e (sym is ∙ subst (λ (j : ℕ). slice_get ws j ≡ Some e) same at_i)) b.all
