-- Lists of hosts that are chosen from those of a possible state: where a command's mark hasn't been told, it has come or not.
use Prim.Native.Nat.{zero, suc}
use Rattle.std.proofs.Common.{◌≡◌, ◌⊎◌, inl, inr, ℕ, Bool, List, [], ◌∷◌, ◌++◌, map, Option, Some, None, refl, ap, ap₂, sym, ◌∙◌, subst}
use Rattle.std.specs.Prelude.{⊤, is_some, option_map, slice_get}
use Rattle.std.proofs.lemmas.Option.{same_Some}
use Rattle.fam_journal.specs.Members.{changed_at}
use Rattle.fam_journal.specs.Shapes.{Begun, CommandStage, Marked, Pairs, TaskShape, with_stage, Met, Named}
use Rattle.fam_judge.specs.Possible.{Progress}
use Rattle.fam_judge.specs.Standing.{Face, face, faces}
use Rattle.fam_judge.proofs.Folding.{shape_in}

-- its command has begun, and its mark wasn't told
abbrev pub IsBegun : Progress → Type 0
IsBegun p = (t : TaskShape) × (p.shape.task ≡ Some t) × (t.stage ≡ Begun)

-- without the mark
abbrev pub floorless : Progress → Progress
floorless p = record p { told = record p.told { floor = None } }

-- with it
abbrev pub at_mark : Progress → Progress
at_mark p = record p { shape = with_stage Marked p.shape }

-- what a host may stand for
pub data Chosen (p q : Progress) : Type 0 where
  as_it_is : (IsBegun p → ⊥) → q ≡ p → Chosen p q
  no_mark_came : IsBegun p → q ≡ floorless p → Chosen p q
  mark_came : IsBegun p → q ≡ at_mark p → Chosen p q

-- so do all hosts but one, which is as it is
abbrev pub ButOne : ℕ → List Progress → List Progress → Type 0
ButOne h [] [] = ⊤
ButOne h [] (q ∷ qs) = ⊥
ButOne h (p ∷ ps) [] = ⊥
ButOne zero (p ∷ ps) (q ∷ qs) = (q ≡ p) × Pairs Chosen ps qs
ButOne (suc h) (p ∷ ps) (q ∷ qs) = Chosen p q × ButOne h ps qs

-- that one may be chosen so
pub but_chosen : (h : ℕ) (f : Progress → Progress) (ps qs : List Progress) → ButOne h (changed_at h f ps) qs → ((p : Progress) → slice_get ps h ≡ Some p → Chosen p (f p))
    → Pairs Chosen ps qs
but_chosen h f [] [] but choose = tt
but_chosen h f [] (q ∷ qs) but choose = absurd but
but_chosen zero f (p ∷ ps) [] but choose = absurd but
but_chosen (suc h) f (p ∷ ps) [] but choose = absurd but
but_chosen zero f (p ∷ ps) (q ∷ qs) but choose = (subst (Chosen p) (sym but.0) (choose p refl), but.1)
but_chosen (suc h) f (p ∷ ps) (q ∷ qs) but choose = (but.0, but_chosen h f ps qs but.1 (λ r is. choose r is))

-- hosts before one of them changed
pub record Back (h : ℕ) (g k : Progress → Progress) (ps qs : List Progress) : Type 0 where
  pub old : List Progress
  pub but : ButOne h (changed_at h g ps) old
  pub is : changed_at h k old ≡ qs

-- where the change is made of another one
pub but_back : (h : ℕ) (f g k : Progress → Progress) (ps qs : List Progress) → ((p : Progress) → slice_get ps h ≡ Some p → k (g p) ≡ f p) → ButOne h (changed_at h f ps) qs
    → Back h g k ps qs
but_back h f g k [] [] same but = record { old = []; but = tt; is = refl }
but_back h f g k [] (q ∷ qs) same but = absurd but
but_back zero f g k (p ∷ ps) [] same but = absurd but
but_back (suc h) f g k (p ∷ ps) [] same but = absurd but
but_back zero f g k (p ∷ ps) (q ∷ qs) same but =
    record { old = g p ∷ qs; but = (refl, but.1); is = ap (λ (r : Progress). r ∷ qs) (same p refl ∙ sym but.0) }
but_back (suc h) f g k (p ∷ ps) (q ∷ qs) same but =
    let more = but_back h f g k ps qs (λ r is. same r is) but.1 in
    record { old = q ∷ more.old; but = (but.0, more.but); is = ap (λ (l : List Progress). q ∷ l) more.is }

-- one that hasn't just begun is as it is
pub chosen_but : (h : ℕ) (f : Progress → Progress) (ps qs : List Progress) → ((p : Progress) → slice_get ps h ≡ Some p → IsBegun (f p) → ⊥)
    → Pairs Chosen (changed_at h f ps) qs
    → ButOne h (changed_at h f ps) qs
chosen_but h f [] [] none pairs = tt
chosen_but h f [] (q ∷ qs) none pairs = absurd pairs
chosen_but zero f (p ∷ ps) [] none pairs = absurd pairs
chosen_but (suc h) f (p ∷ ps) [] none pairs = absurd pairs
chosen_but zero f (p ∷ ps) (q ∷ qs) none pairs = (by pairs.0, pairs.1)
  where
    by : Chosen (f p) q → q ≡ f p
    by (as_it_is none_begun e) = e
    by (no_mark_came begun e) = absurd (none p refl begun)
    by (mark_came begun e) = absurd (none p refl begun)
chosen_but (suc h) f (p ∷ ps) (q ∷ qs) none pairs = (pairs.0, chosen_but h f ps qs (λ r is. none r is) pairs.1)

-- the one host in both
pub but_here : (h : ℕ) (ps qs : List Progress) → ButOne h ps qs → slice_get qs h ≡ slice_get ps h
but_here h [] [] but = refl
but_here h [] (q ∷ qs) but = absurd but
but_here zero (p ∷ ps) [] but = absurd but
but_here (suc h) (p ∷ ps) [] but = absurd but
but_here zero (p ∷ ps) (q ∷ qs) but = ap Some but.0
but_here (suc h) (p ∷ ps) (q ∷ qs) but = but_here h ps qs but.1

-- no host is one that changed
pub unchanged_but : (h : ℕ) (ps qs : List Progress) → ButOne h (changed_at h (λ p. p) ps) qs → ButOne h ps qs
unchanged_but h [] [] but = tt
unchanged_but h [] (q ∷ qs) but = absurd but
unchanged_but zero (p ∷ ps) [] but = absurd but
unchanged_but (suc h) (p ∷ ps) [] but = absurd but
unchanged_but zero (p ∷ ps) (q ∷ qs) but = but
unchanged_but (suc h) (p ∷ ps) (q ∷ qs) but = (but.0, unchanged_but h ps qs but.1)

-- Some choice.

begun_or : (p : Progress) → IsBegun p ⊎ (IsBegun p → ⊥)
begun_or p = by p.shape.task refl
  where
    stage_or : (s : CommandStage) → (s ≡ Begun) ⊎ (s ≡ Begun → ⊥)
    stage_or Begun = inl refl
    stage_or Marked = inr (λ e. cc)
    stage_or (Met n) = inr (λ e. cc)
    stage_or (Named n) = inr (λ e. cc)

    of : (t : TaskShape) → p.shape.task ≡ Some t → (t.stage ≡ Begun) ⊎ (t.stage ≡ Begun → ⊥) → IsBegun p ⊎ (IsBegun p → ⊥)
    of t e (inl begun) = inl (t, e, begun)
    of t e (inr none) = inr (λ begun. none (ap (λ (z : TaskShape). z.stage) (same_Some t begun.0 (sym e ∙ begun.1)) ∙ begun.2))

    by : (o : Option TaskShape) → p.shape.task ≡ o → IsBegun p ⊎ (IsBegun p → ⊥)
    by None e = inr (λ begun. let none : None ≡ Some begun.0 = sym e ∙ begun.1 in absurd cc)
    by (Some t) e = of t e (stage_or t.stage)

-- a host may stand for something
pub some_choice : (p : Progress) → (q : Progress) × Chosen p q
some_choice p = by (begun_or p)
  where
    by : IsBegun p ⊎ (IsBegun p → ⊥) → (q : Progress) × Chosen p q
    by (inl begun) = (at_mark p, mark_came begun refl)
    by (inr none) = (p, as_it_is none refl)

-- and so may all
pub some_choices : (ps : List Progress) → (qs : List Progress) × Pairs Chosen ps qs
some_choices [] = ([], tt)
some_choices (p ∷ ps) = let one = some_choice p in let more = some_choices ps in (one.0 ∷ more.0, (one.1, more.1))

-- hosts before one of them changed into one that hasn't begun
pub record Before (h : ℕ) (f : Progress → Progress) (ps qs : List Progress) : Type 0 where
  pub old : List Progress
  pub chosen : Pairs Chosen ps old
  pub is : changed_at h f old ≡ qs

-- a change that makes the same of a host with its mark, and none that has just begun
pub chosen_back : (h : ℕ) (f : Progress → Progress) (ps qs : List Progress) → ((p : Progress) → slice_get ps h ≡ Some p → IsBegun (f p) → ⊥)
    → ((p : Progress) → slice_get ps h ≡ Some p → IsBegun p → f (at_mark p) ≡ f p) → Pairs Chosen (changed_at h f ps) qs → Before h f ps qs
chosen_back h f [] [] none same pairs = record { old = []; chosen = tt; is = refl }
chosen_back h f [] (q ∷ qs) none same pairs = absurd pairs
chosen_back zero f (p ∷ ps) [] none same pairs = absurd pairs
chosen_back (suc h) f (p ∷ ps) [] none same pairs = absurd pairs
chosen_back zero f (p ∷ ps) (q ∷ qs) none same pairs = by (begun_or p)
  where
    last : Chosen (f p) q → q ≡ f p
    last (as_it_is none_begun e) = e
    last (no_mark_came begun e) = absurd (none p refl begun)
    last (mark_came begun e) = absurd (none p refl begun)

    by : IsBegun p ⊎ (IsBegun p → ⊥) → Before zero f (p ∷ ps) (q ∷ qs)
    by (inl begun) = record { old = at_mark p ∷ qs; chosen = (mark_came begun refl, pairs.1); is = ap (λ (r : Progress). r ∷ qs) (same p refl begun ∙ sym (last pairs.0)) }
    by (inr none_begun) = record { old = p ∷ qs; chosen = (as_it_is none_begun refl, pairs.1); is = ap (λ (r : Progress). r ∷ qs) (sym (last pairs.0)) }
chosen_back (suc h) f (p ∷ ps) (q ∷ qs) none same pairs =
    let more = chosen_back h f ps qs (λ r is. none r is) (λ r is. same r is) pairs.1 in
    record { old = q ∷ more.old; chosen = (pairs.0, more.chosen); is = ap (λ (l : List Progress). q ∷ l) more.is }

-- one more host, that hasn't begun
pub record Last (ps : List Progress) (p : Progress) (qs : List Progress) : Type 0 where
  pub front : List Progress
  pub chosen : Pairs Chosen ps front
  pub is : front ++ p ∷ [] ≡ qs

pub chosen_last : (ps : List Progress) (p : Progress) (qs : List Progress) → (IsBegun p → ⊥) → Pairs Chosen (ps ++ p ∷ []) qs → Last ps p qs
chosen_last [] p [] none pairs = absurd pairs
chosen_last [] p (q ∷ []) none pairs = record { front = []; chosen = tt; is = ap (λ (r : Progress). r ∷ []) (sym (by pairs.0)) }
  where
    by : Chosen p q → q ≡ p
    by (as_it_is none_begun e) = e
    by (no_mark_came begun e) = absurd (none begun)
    by (mark_came begun e) = absurd (none begun)
chosen_last [] p (q ∷ r ∷ qs) none pairs = absurd pairs.1
chosen_last (a ∷ ps) p [] none pairs = absurd pairs
chosen_last (a ∷ ps) p (q ∷ qs) none pairs =
    let more = chosen_last ps p qs none pairs.1 in
    record { front = q ∷ more.front; chosen = (pairs.0, more.chosen); is = ap (λ (l : List Progress). q ∷ l) more.is }

-- a host whose command begins: by whether its mark came right then
pub record Begins (h : ℕ) (begin mark : Progress → Progress) (ps qs : List Progress) : Type 0 where
  pub old : List Progress
  pub chosen : Pairs Chosen ps old
  pub is : (changed_at h begin old ≡ qs) ⊎ (changed_at h mark (changed_at h begin old) ≡ qs)

pub chosen_begins : (h : ℕ) (begin mark f : Progress → Progress) (ps qs : List Progress) → ((p : Progress) → slice_get ps h ≡ Some p → IsBegun p → ⊥)
    → ((p : Progress) → IsBegun (f p))
    → ((p : Progress) → floorless (f p) ≡ begin p) → ((p : Progress) → at_mark (f p) ≡ mark (begin p)) → Pairs Chosen (changed_at h f ps) qs → Begins h begin mark ps qs
chosen_begins h begin mark f [] [] idle begun floor came pairs = record { old = []; chosen = tt; is = inl refl }
chosen_begins h begin mark f [] (q ∷ qs) idle begun floor came pairs = absurd pairs
chosen_begins zero begin mark f (p ∷ ps) [] idle begun floor came pairs = absurd pairs
chosen_begins (suc h) begin mark f (p ∷ ps) [] idle begun floor came pairs = absurd pairs
chosen_begins zero begin mark f (p ∷ ps) (q ∷ qs) idle begun floor came pairs = by pairs.0
  where
    by : Chosen (f p) q → Begins zero begin mark (p ∷ ps) (q ∷ qs)
    by (as_it_is none e) = absurd (none (begun p))
    by (no_mark_came is e) = record { old = p ∷ qs; chosen = (as_it_is (idle p refl) refl, pairs.1); is = inl (ap (λ (r : Progress). r ∷ qs) (sym (floor p) ∙ sym e)) }
    by (mark_came is e) = record { old = p ∷ qs; chosen = (as_it_is (idle p refl) refl, pairs.1); is = inr (ap (λ (r : Progress). r ∷ qs) (sym (came p) ∙ sym e)) }
chosen_begins (suc h) begin mark f (p ∷ ps) (q ∷ qs) idle begun floor came pairs = by (chosen_begins h begin mark f ps qs (λ r is. idle r is) begun floor came pairs.1)
  where
    by : Begins h begin mark ps qs → Begins (suc h) begin mark (p ∷ ps) (q ∷ qs)
    by more = record { old = q ∷ more.old; chosen = (pairs.0, more.chosen); is = joined more.is }
      where
        joined : (changed_at h begin more.old ≡ qs) ⊎ (changed_at h mark (changed_at h begin more.old) ≡ qs)
            → (q ∷ changed_at h begin more.old ≡ q ∷ qs) ⊎ (q ∷ changed_at h mark (changed_at h begin more.old) ≡ q ∷ qs)
        joined (inl e) = inl (ap (λ (l : List Progress). q ∷ l) e)
        joined (inr e) = inr (ap (λ (l : List Progress). q ∷ l) e)

-- Faces.

face_chosen : (p q : Progress) → Chosen p q → face q.shape ≡ face p.shape
face_chosen p q (as_it_is none_begun e) = ap (λ (r : Progress). face r.shape) e
face_chosen p q (no_mark_came begun e) = ap (λ (r : Progress). face r.shape) e
face_chosen p q (mark_came begun e) =
    ap (λ (r : Progress). face r.shape) e ∙ ap (λ (b : Bool). let f : Face = record { name = p.shape.name; uuid = p.shape.uuid; runs = b; keeps = p.shape.keeps } in f) (by p.shape.task)
  where
    by : (o : Option TaskShape) → is_some (option_map (λ (t : TaskShape). record t { stage = Marked }) o) ≡ is_some o
    by None = refl
    by (Some t) = refl

-- they look alike
pub faces_chosen : (ps qs : List Progress) → Pairs Chosen ps qs → faces (map shape_in qs) ≡ faces (map shape_in ps)
faces_chosen [] [] pairs = refl
faces_chosen [] (q ∷ qs) pairs = absurd pairs
faces_chosen (p ∷ ps) [] pairs = absurd pairs
faces_chosen (p ∷ ps) (q ∷ qs) pairs = ap₂ (λ (f : Face) (l : List Face). f ∷ l) (face_chosen p q pairs.0) (faces_chosen ps qs pairs.1)
