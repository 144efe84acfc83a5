-- To which states a line of a running command leads.
use Rattle.std.proofs.Common.{◌≡◌, ◌⊎◌, inl, inr, ℕ, zero, suc, List, [], ◌∷◌, Option, Some, None, refl, sym, ap, subst, ◌∙◌}
use Rattle.std.specs.Prelude.{option_map, slice_get}
use Rattle.fam_base.specs.declared.entry.Entry.{Entry}
use Rattle.fam_base.specs.Image.{Image}
use Rattle.fam_commands.specs.Appends.{HasWish}
use Rattle.fam_journal.specs.Legal.{FoundAllowed}
use Rattle.fam_journal.specs.Members.{changed_at}
use Rattle.fam_journal.specs.Notes.{Found, Mark, Writes}
use Rattle.fam_journal.specs.Past.{finds}
use Rattle.fam_journal.specs.Shapes.{Begun, CommandStage, HostShape, IsHead, Marked, Met, Named, OfRunning, OfTask, TaskNote, TaskShape}
use Rattle.fam_judge.specs.Possible.{Possible, Progress, MeetsEntries, StageIs, StepsTo, WantsToAppend, Wrote, after_note, meets, marked, shapes_in, stands, shown_met, unmarked, left_out_met, after_mark, without_mark}
use Rattle.fam_judge.proofs.OverOwn.{marked_begun}
use Rattle.fam_judge.proofs.Places.{changed_twice}
use Rattle.fam_judging.specs.Going.{FindsEntries, MeetsAt, NamesByNow}
use Rattle.fam_judging.proofs.Reaching.{behind_found, behind_mark, both, one_stage, reach_begun, reach_marked, reach_met, weaker, with_its_mark, without_its_mark}

-- two changes that are the same
alike : {A : Type 0} (h : ℕ) (f g : A → A) → ((x : A) → f x ≡ g x) → (xs : List A) → changed_at h f xs ≡ changed_at h g xs
alike h f g same [] = refl
alike zero f g same (x ∷ xs) = ap (λ y. y ∷ xs) (same x)
alike (suc h) f g same (x ∷ xs) = ap (λ ys. x ∷ ys) (alike h f g same xs)

-- what was found comes right behind the start, or behind the mark
head_stage : (o : Option HostShape) → OfRunning o (λ me t. IsHead t.stage) → OfRunning o (λ me t. t.stage ≡ Begun) ⊎ OfRunning o (λ me t. t.stage ≡ Marked)
head_stage None r = absurd r
head_stage (Some host) r = by host.task r
  where
    at : (stage : CommandStage) → IsHead stage → (stage ≡ Begun) ⊎ (stage ≡ Marked)
    at Begun is = inl refl
    at Marked is = inr refl
    at (Met n) is = absurd is
    at (Named seq) is = absurd is

    by : (task : Option TaskShape) → OfTask task (λ t. IsHead t.stage) → OfTask task (λ t. t.stage ≡ Begun) ⊎ OfTask task (λ t. t.stage ≡ Marked)
    by None r = absurd r
    by (Some t) r = at t.stage r

-- what a running command tells of no command is so
always : (o : Option HostShape) (n seq : ℕ) → OfRunning o (λ me t. Met n ≡ Met seq) → n ≡ seq
always None n seq r = absurd r
always (Some host) n seq r = by host.task r
  where
    by : (task : Option TaskShape) → OfTask task (λ t. Met n ≡ Met seq) → n ≡ seq
    by None r = absurd r
    by (Some t) r = cc

module _ (start : Image) (h : ℕ) (x : Possible) where
  -- Marks.

  -- a mark behind none
  mark_twice : after_note start (without_mark h x) (Mark h) ≡ after_note start x (Mark h)
  mark_twice = ap (λ (hosts : List Progress). let y : Possible = record { state = x.state; hosts = hosts } in y) (changed_twice h _ _ x.hosts)

  -- a mark's state
  pub mark_from : (y : Possible) → StepsTo start x (Mark h) y → StageIs (λ stage. stage ≡ Begun) h x × (y ≡ after_note start x (Mark h))
  mark_from y s =
      let r = reach_begun start h x s.now s.reaches (weaker (slice_get (shapes_in s.now) h) (λ me t. TaskNote h me t (Mark h)) (λ me t. t.stage ≡ Begun) (λ me t all. all.1) s.may) in
      (r.0, s.is ∙ ap (λ (z : Possible). after_note start z (Mark h)) r.1 ∙ mark_twice)

  -- and the line leads there
  pub mark_to : StageIs (λ stage. stage ≡ Begun) h x → StepsTo start x (Mark h) (after_note start x (Mark h))
  mark_to begun = record {
    now = without_mark h x;
    reaches = unmarked begun refl;
    may = without_its_mark start h x (λ me t. TaskNote h me t (Mark h)) (weaker (slice_get (shapes_in x) h) (λ me t. t.stage ≡ Begun) (λ me t. TaskNote h me t (Mark h)) (λ me t is. (refl, is)) begun);
    fits = tt;
    is = sym mark_twice;
  }

  -- Founds.

  -- a stage behind another one
  stage_twice : (a b : CommandStage) (o : Option TaskShape)
      → option_map (λ (t : TaskShape). record t { stage = b }) (option_map (λ (t : TaskShape). record t { stage = a }) o) ≡ option_map (λ (t : TaskShape). record t { stage = b }) o
  stage_twice a b None = refl
  stage_twice a b (Some t) = refl

  -- what is found behind a mark that stands with the start
  found_twice : (n : ℕ) → after_note start (after_mark h x) (Found h n) ≡ after_note start x (Found h n)
  found_twice n =
      ap (λ (hosts : List Progress). let y : Possible = record { state = finds n x.state; hosts = hosts } in y)
      (changed_twice h _ _ x.hosts ∙ alike h _ _ (λ p. ap (λ (o : Option TaskShape). record p { shape = record p.shape { task = o } }) (stage_twice Marked (Met n) p.shape.task)) x.hosts)

  -- the state behind a found
  pub found_from : (n : ℕ) (y : Possible) → StepsTo start x (Found h n) y → FindsEntries start h n x y
  found_from n y s =
      let there = slice_get (shapes_in s.now) h in
      let P : List ℕ → TaskShape → Type 0 = λ me t. TaskNote h me t (Found h n) in
      elim (reach_marked start h x s.now s.reaches (weaker there P (λ me t. t.stage ≡ Marked) (λ me t all. all.2) s.may)) [
        | inl back ↦ record {
          head = weaker (slice_get (shapes_in x) h) (λ me t. t.stage ≡ Begun) (λ me t. IsHead t.stage) (λ me t is. subst IsHead (sym is) tt) back.0;
          wishes = weaker (slice_get (shapes_in x) h) (λ me t. P me (record t { stage = Marked })) (λ me t. HasWish t.cmd) (λ me t all. all.1)
              (behind_mark start h x P (subst (λ (z : Possible). OfRunning (slice_get (shapes_in z) h) P) back.1 s.may));
          found = subst (λ (z : Possible). FoundAllowed n z.state) back.1 s.fits;
          is = s.is ∙ ap (λ (z : Possible). after_note start z (Found h n)) back.1 ∙ found_twice n;
        }
        | inr same ↦
            let may = subst (λ (z : Possible). OfRunning (slice_get (shapes_in z) h) P) same s.may in record {
              head = weaker (slice_get (shapes_in x) h) P (λ me t. IsHead t.stage) (λ me t all. subst IsHead (sym all.2) tt) may;
              wishes = weaker (slice_get (shapes_in x) h) P (λ me t. HasWish t.cmd) (λ me t all. all.1) may;
              found = subst (λ (z : Possible). FoundAllowed n z.state) same s.fits;
              is = s.is ∙ ap (λ (z : Possible). after_note start z (Found h n)) same;
            }
      ]

  -- the line leads there from a mark that stands with the start
  found_begun : (n : ℕ) (y : Possible) → StageIs (λ stage. stage ≡ Begun) h x → WantsToAppend h x → FoundAllowed n x.state → y ≡ after_note start x (Found h n) → StepsTo start x (Found h n) y
  found_begun n y begun wishes found is = record {
    now = after_mark h x;
    reaches = marked begun refl;
    may = with_its_mark start h x (λ me t. TaskNote h me t (Found h n)) (weaker (slice_get (shapes_in x) h) (λ me t. HasWish t.cmd) _ (λ me t wish. (refl, wish, refl)) wishes);
    fits = found;
    is = is ∙ sym (found_twice n);
  }

  -- and from a mark that was told
  found_marked : (n : ℕ) (y : Possible) → StageIs (λ stage. stage ≡ Marked) h x → WantsToAppend h x → FoundAllowed n x.state → y ≡ after_note start x (Found h n) → StepsTo start x (Found h n) y
  found_marked n y mark wishes found is = record {
    now = x;
    reaches = stands refl (λ begun. one_stage h x Begun Marked (λ e. marked_begun (sym e)) begun mark);
    may = weaker (slice_get (shapes_in x) h) (λ me t. HasWish t.cmd × (t.stage ≡ Marked)) _ (λ me t two. (refl, two.0, two.1))
        (both (slice_get (shapes_in x) h) (λ me t. HasWish t.cmd) (λ me t. t.stage ≡ Marked) wishes mark);
    fits = found;
    is = is;
  }

  -- the line leads where a command finds so many
  pub found_to : (n : ℕ) (y : Possible) → FindsEntries start h n x y → StepsTo start x (Found h n) y
  found_to n y f = elim (head_stage (slice_get (shapes_in x) h) f.head) [
    | inl begun ↦ found_begun n y begun f.wishes f.found f.is
    | inr mark ↦ found_marked n y mark f.wishes f.found f.is
  ]

  -- Writes.

  -- what it has met
  met_at : (seq : ℕ) (met : Possible) → MeetsEntries start h x met → StageIs (λ stage. stage ≡ Met seq) h met → MeetsAt start h seq x met
  met_at seq met (shown_met n is e) stage = inl (subst (λ (z : Possible). StageIs (λ s. s ≡ Met seq) h z) e stage, e)
  met_at seq met (left_out_met n head wishes found e) stage =
      let same : n ≡ seq = always (slice_get (shapes_in x) h) n seq
      (behind_found start h x n (λ me t. t.stage ≡ Met seq) (subst (λ (z : Possible). StageIs (λ s. s ≡ Met seq) h z) e stage)) in
      inr (record { head = head; wishes = wishes; found = subst (λ (k : ℕ). FoundAllowed k x.state) same found; is = e ∙ ap (λ (k : ℕ). after_note start x (Found h k)) same })

  -- and back
  pub meets_of : (seq : ℕ) (met : Possible) → MeetsAt start h seq x met → MeetsEntries start h x met
  meets_of seq met (inl told) = shown_met seq told.0 told.1
  meets_of seq met (inr f) = left_out_met seq f.head f.wishes f.found f.is

  -- the state behind a writes
  pub writes_from : (seq : ℕ) (e : Entry) (y : Possible) → StepsTo start x (Writes h seq e) y → NamesByNow start h seq e x y
  writes_from seq e y s =
      let stage = weaker (slice_get (shapes_in s.now) h) (λ me t. TaskNote h me t (Writes h seq e)) (λ me t. t.stage ≡ Met seq) (λ me t all. all.2) s.may in
      record {
        met = s.now;
        meets = met_at seq s.now (reach_met start h x s.now seq s.reaches stage) stage;
        may = record { may = s.may; fits = s.fits };
        is = s.is;
      }

  -- the line leads where its command names the entry
  pub writes_to : (seq : ℕ) (e : Entry) (y : Possible) → NamesByNow start h seq e x y → StepsTo start x (Writes h seq e) y
  writes_to seq e y n = record { now = n.met; reaches = meets (meets_of seq n.met n.meets); may = n.may.may; fits = n.may.fits; is = n.is }

  -- a command that has named an entry by now
  pub wrote_from : (y : Possible) (w : Wrote start h x y) → NamesByNow start h w.seq w.entry x y
  wrote_from y w =
      let stage = weaker (slice_get (shapes_in w.met) h) (λ me t. TaskNote h me t (Writes h w.seq w.entry)) (λ me t. t.stage ≡ Met w.seq) (λ me t all. all.2) w.may in
      record { met = w.met; meets = met_at w.seq w.met w.meets stage; may = record { may = w.may; fits = w.fits }; is = w.is }

  -- and back
  pub wrote_to : (seq : ℕ) (e : Entry) (y : Possible) → NamesByNow start h seq e x y → Wrote start h x y
  wrote_to seq e y n = record { met = n.met; meets = meets_of seq n.met n.meets; seq = seq; entry = e; may = n.may.may; fits = n.may.fits; is = n.is }
