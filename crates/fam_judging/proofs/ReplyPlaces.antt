-- How a command has come to a stage.
use Rattle.std.proofs.Common.{◌≡◌, ◌⊎◌, inl, inr, ℕ, None, refl, ap, sym, ◌∙◌, subst}
use Rattle.fam_journal.specs.Shapes.{Begun, CommandStage, HasMet, Marked, Met, Named}
use Rattle.fam_judging.specs.ReplyKinds.{MayMark}
use Rattle.fam_judging.specs.Replies.{Asker, MeetsAtPoint, NamesAt, Point, ReachesPoint, marked, meets, names, stands, told, unmarked, untold}

-- a command behind its mark has not just begun
pub marked_begun : Marked ≡ Begun → ⊥
marked_begun e = cc

-- nor has one that found entries
pub met_begun : (n : ℕ) → Met n ≡ Begun → ⊥
met_begun n e = cc

-- nor one that named one
pub named_begun : (n : ℕ) → Named n ≡ Begun → ⊥
named_begun n e = cc

-- one that has just begun is not behind its mark
pub begun_marked : Begun ≡ Marked → ⊥
begun_marked e = cc

-- one that found entries is past its mark
pub met_marked : (n : ℕ) → Met n ≡ Marked → ⊥
met_marked n e = cc

-- so is one that named one
pub named_marked : (n : ℕ) → Named n ≡ Marked → ⊥
named_marked n e = cc

-- an entry is named by one number
pub named_seq : (n m : ℕ) → Named n ≡ Named m → n ≡ m
named_seq n m e = cc

-- one that has just begun has named nothing
pub begun_named : (n : ℕ) → Begun ≡ Named n → ⊥
begun_named n e = cc

-- nor has one behind its mark
pub marked_named : (n : ℕ) → Marked ≡ Named n → ⊥
marked_named n e = cc

-- nor one that found entries
pub met_named : (n m : ℕ) → Met m ≡ Named n → ⊥
met_named n m e = cc

no_begun : HasMet Begun → ⊥
no_begun is = is

-- what was found stands there
pub has_met : (stage : CommandStage) → HasMet stage → (n : ℕ) × (stage ≡ Met n)
has_met Begun is = absurd is
has_met Marked is = absurd is
has_met (Met n) is = (n, refl)
has_met (Named seq) is = absurd is

-- a mark that stood is as it was
remark : (at : Point) → at.stage ≡ Marked → at ≡ record at { stage = Marked }
remark at is = ap (λ (s : CommandStage). record at { stage = s }) is

module _ (who : Asker) (at now : Point) where
  stage_at : (p : Point) (s : CommandStage) → now ≡ p → now.stage ≡ s → p.stage ≡ s
  stage_at p s e is = sym (ap (λ (q : Point). q.stage) e) ∙ is

  -- it stands where it began
  pub begun_of : ReachesPoint who at now → now.stage ≡ Begun → (at.stage ≡ Begun) × (now ≡ record at { floor = None })
  begun_of (unmarked begun e) is = (begun, e)
  begun_of (marked begun e) is = absurd (marked_begun (stage_at _ Begun e is))
  begun_of (stands none e) is = absurd (none (stage_at at Begun e is))
  begun_of (meets (told n stage e)) is = absurd (met_begun n (sym stage ∙ stage_at at Begun e is))
  begun_of (meets (untold n head wish found e)) is = absurd (met_begun n (stage_at _ Begun e is))
  begun_of (names named) is = absurd (named_begun named.seq (stage_at _ Begun named.is is))

  -- it has come to its mark
  pub marked_of : ReachesPoint who at now → now.stage ≡ Marked → MayMark at.stage × (now ≡ record at { stage = Marked })
  marked_of (unmarked begun e) is = absurd (begun_marked (sym begun ∙ stage_at _ Marked e is))
  marked_of (marked begun e) is = (inl begun, e)
  marked_of (stands none e) is = let here = stage_at at Marked e is in (inr here, e ∙ remark at here)
  marked_of (meets (told n stage e)) is = absurd (met_marked n (sym stage ∙ stage_at at Marked e is))
  marked_of (meets (untold n head wish found e)) is = absurd (met_marked n (stage_at _ Marked e is))
  marked_of (names named) is = absurd (named_marked named.seq (stage_at _ Marked named.is is))

  -- it has found entries
  pub met_of : ReachesPoint who at now → HasMet now.stage → MeetsAtPoint who at now
  met_of (unmarked begun e) is = absurd (subst HasMet (ap (λ (q : Point). q.stage) e ∙ begun) is)
  met_of (marked begun e) is = absurd (subst HasMet (ap (λ (q : Point). q.stage) e) is)
  met_of (stands none e) is =
      let at_met = has_met at.stage (subst HasMet (ap (λ (q : Point). q.stage) e) is) in told at_met.0 at_met.1 e
  met_of (meets met) is = met
  met_of (names named) is = absurd (subst HasMet (ap (λ (q : Point). q.stage) named.is) is)

  -- it has named an entry
  pub record NamedNow (seq : ℕ) : Type 0 where
    pub names : NamesAt who at now
    pub number : names.seq ≡ seq

  -- an entry is named before or by now
  pub named_of : (seq : ℕ) → ReachesPoint who at now → now.stage ≡ Named seq → ((at.stage ≡ Named seq) × (now ≡ at)) ⊎ NamedNow seq
  named_of seq (unmarked begun e) is = absurd (begun_named seq (sym begun ∙ stage_at _ _ e is))
  named_of seq (marked begun e) is = absurd (marked_named seq (stage_at _ _ e is))
  named_of seq (stands none e) is = inl (stage_at at _ e is, e)
  named_of seq (meets (told n stage e)) is = absurd (met_named seq n (sym stage ∙ stage_at at _ e is))
  named_of seq (meets (untold n head wish found e)) is = absurd (met_named seq n (stage_at _ _ e is))
  named_of seq (names named) is = inr (record { names = named; number = named_seq named.seq seq (stage_at _ _ named.is is) })

  -- it may have come to its mark
  pub comes_marked : MayMark at.stage → now ≡ record at { stage = Marked } → ReachesPoint who at now
  comes_marked (inl begun) e = marked begun e
  comes_marked (inr is) e = stands (λ begun. marked_begun (sym is ∙ begun)) (e ∙ sym (remark at is))
