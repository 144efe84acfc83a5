-- Each possible state is one that some journal comes to, whatever marks that weren't told have come.
use Rattle.std.proofs.Common.{◌≡◌, inl, ℕ, List, [], ◌∷◌, ◌++◌, length, Option, Some, refl, ap, ap₂, sym, ◌∙◌, subst}
use Rattle.std.specs.Prelude.{IsTrue, option_map, slice_get}
use Rattle.std.proofs.lemmas.List.{append-nil, map-append}
use Rattle.std.proofs.lemmas.Option.{same_Some, slice_get-map}
use Rattle.fam_base.specs.declared.entry.Entry.{Entry}
use Rattle.fam_base.specs.Image.{Image}
use Rattle.fam_journal.specs.Legal.{FoundAllowed, OfHost, WritesAllowed}
use Rattle.fam_journal.specs.Members.{changed_at}
use Rattle.fam_journal.specs.Notes.{Note, Found, Writes}
use Rattle.fam_journal.specs.Past.{HostPast, State, settled_length, state_after, pends, filled_bytes, cmd_of}
use Rattle.fam_journal.specs.Shapes.{Begun, CommandStage, Met, OfRunning, Pairs, TaskNote, TaskShape, with_stage}
use Rattle.fam_judge.specs.Covering.{AreFitting, behind, possible_behind}
use Rattle.fam_judge.specs.Fitting.{FitsNext}
use Rattle.fam_judge.specs.Possible.{Possible, Progress, StageIs, after_note, first_possible, past_in, progress_after, shapes_in, after_mark, without_mark}
use Rattle.fam_judge.specs.Shows.{ShowsJournal, is_inner}
use Rattle.fam_judge.specs.Standing.{MayStand}
use Rattle.fam_judge.specs.Untold.{untold_note, untold_notes}
use Rattle.fam_judge.proofs.Choices.{Back, ButOne, Chosen, IsBegun, at_mark, but_back, but_chosen, but_here, chosen_but, floorless, mark_came, no_mark_came, as_it_is, unchanged_but}
use Rattle.fam_judge.proofs.Folding.{behind_more, told_in}
use Rattle.fam_judge.proofs.Places.{running_at, runs_at}
use Rattle.fam_judge.proofs.Showing.{shows_both}
use Rattle.fam_judge.proofs.Members.{changed_same}

-- Journals.

-- a journal that shows these lines and comes to this
pub record ComesTo (start : Image) (lines : List Note) (c : Possible) : Type 0 where
  pub journal : List Note
  pub shows : ShowsJournal lines journal
  pub told : untold_notes journal ≡ journal
  pub fitting : AreFitting start (first_possible start) journal
  pub is : possible_behind start journal ≡ c

-- notes more fit
fitting_more : (start : Image) (c : Possible) (notes : List Note) (y : Note) → AreFitting start c notes → MayStand (length start) (shapes_in (behind start c notes)) y
    → FitsNext (past_in start (behind start c notes)) y
    → AreFitting start c (notes ++ y ∷ [])
fitting_more start c [] y fitting may fits = (may, fits, tt)
fitting_more start c (first ∷ notes) y fitting may fits = (fitting.0, fitting.1, fitting_more start (after_note start c first) notes y fitting.2 may fits)

untold_more : (notes : List Note) (y : Note) → untold_notes notes ≡ notes → untold_note y ≡ y → untold_notes (notes ++ y ∷ []) ≡ notes ++ y ∷ []
untold_more notes y all one = map-append untold_note notes (y ∷ []) ∙ ap₂ (λ (a : List Note) (b : Note). a ++ b ∷ []) all one

-- a note that the lines leave out
pub hidden_more : (start : Image) (lines : List Note) (c : Possible) (y : Note) → ComesTo start lines c → IsTrue (is_inner y) → untold_note y ≡ y
    → MayStand (length start) (shapes_in c) y → FitsNext (past_in start c) y
    → ComesTo start lines (after_note start c y)
hidden_more start lines c y come inner told may fits = record {
  journal = come.journal ++ y ∷ [];
  shows = subst (λ (l : List Note). ShowsJournal l (come.journal ++ y ∷ [])) (append-nil lines) (shows_both lines [] come.journal (y ∷ []) come.shows (inner, tt));
  told = untold_more come.journal y come.told told;
  fitting = fitting_more start (first_possible start) come.journal y come.fitting (subst (λ (x : Possible). MayStand (length start) (shapes_in x) y) (sym come.is) may)
      (subst (λ (x : Possible). FitsNext (past_in start x) y) (sym come.is) fits);
  is = behind_more start (first_possible start) come.journal y ∙ ap (λ (x : Possible). after_note start x y) come.is;
}

-- a note that is a line more
pub line_more : (start : Image) (lines : List Note) (c : Possible) (y : Note) → ComesTo start lines c → untold_note y ≡ y → MayStand (length start) (shapes_in c) y
    → FitsNext (past_in start c) y
    → ComesTo start (lines ++ y ∷ []) (after_note start c y)
line_more start lines c y come told may fits = record {
  journal = come.journal ++ y ∷ [];
  shows = shows_both lines (y ∷ []) come.journal (y ∷ []) come.shows (inl (refl, tt));
  told = untold_more come.journal y come.told told;
  fitting = fitting_more start (first_possible start) come.journal y come.fitting (subst (λ (x : Possible). MayStand (length start) (shapes_in x) y) (sym come.is) may)
      (subst (λ (x : Possible). FitsNext (past_in start x) y) (sym come.is) fits);
  is = behind_more start (first_possible start) come.journal y ∙ ap (λ (x : Possible). after_note start x y) come.is;
}

-- States.

-- what a possible state stands for
abbrev pub with_hosts : Possible → List Progress → Possible
with_hosts x hosts = record { state = x.state; hosts = hosts }

-- some journal comes to it, whatever marks have come
abbrev pub IsRealized : Image → List Note → Possible → Type 0
IsRealized start lines x = (hosts : List Progress) → Pairs Chosen x.hosts hosts → ComesTo start lines (with_hosts x hosts)

-- where one host is as it is
abbrev pub IsRealizedAt : Image → List Note → ℕ → Possible → Type 0
IsRealizedAt start lines h x = (hosts : List Progress) → ButOne h x.hosts hosts → ComesTo start lines (with_hosts x hosts)

-- a host that runs at this stage
pub stage_at : (x : Possible) (h : ℕ) (P : CommandStage → Type 0) → StageIs P h x → (p : Progress) → slice_get x.hosts h ≡ Some p
    → (t : TaskShape) × (p.shape.task ≡ Some t) × P t.stage
stage_at x h P is p at =
    let r = running_at x h (λ me t. P t.stage) is in
    let one : r.host ≡ p = same_Some r.host p (sym r.is ∙ at) in
    (r.task, ap (λ (z : Progress). z.shape.task) (sym one) ∙ r.runs, r.holds)

pub begun_at : (x : Possible) (h : ℕ) → StageIs (λ stage. stage ≡ Begun) h x → (p : Progress) → slice_get x.hosts h ≡ Some p → IsBegun p
begun_at x h is p at = stage_at x h (λ s. s ≡ Begun) is p at

pub begun_stage : (p : Progress) (t : TaskShape) (s : CommandStage) → p.shape.task ≡ Some t → t.stage ≡ s → (s ≡ Begun → ⊥) → IsBegun p → ⊥
begun_stage p t s runs is none begun =
    none (sym is ∙ ap (λ (z : TaskShape). z.stage) (same_Some t begun.0 (sym runs ∙ begun.1)) ∙ begun.2)

module _ (start : Image) (lines : List Note) where
  -- as it is where its stage is known
  pub real_stands : (h : ℕ) (x : Possible) → IsRealized start lines x → ((p : Progress) → slice_get x.hosts h ≡ Some p → IsBegun p → ⊥) → IsRealizedAt start lines h x
  real_stands h x real none hosts but =
      real hosts (but_chosen h (λ p. p) x.hosts hosts (subst (λ (l : List Progress). ButOne h l hosts) (sym (changed_same h (λ p. p) x.hosts (λ p is. refl))) but)
      (λ p is. as_it_is (none p is) refl))

  -- without its mark, or with it
  pub real_unmarked : (h : ℕ) (x : Possible) → IsRealized start lines x → StageIs (λ stage. stage ≡ Begun) h x → IsRealizedAt start lines h (without_mark h x)
  real_unmarked h x real begun hosts but = real hosts (but_chosen h floorless x.hosts hosts but (λ p is. no_mark_came (begun_at x h begun p is) refl))

  pub real_marked : (h : ℕ) (x : Possible) → IsRealized start lines x → StageIs (λ stage. stage ≡ Begun) h x → IsRealizedAt start lines h (after_mark h x)
  real_marked h x real begun hosts but = real hosts (but_chosen h at_mark x.hosts hosts but (λ p is. mark_came (begun_at x h begun p is) refl))

  -- A note of a host's own, which changes it alone.

  module _ (h : ℕ) (m : Possible) (y : Note) (g : Progress → Progress) (told : untold_note y ≡ y)
      (prog : (old : List Progress) → progress_after (settled_length m.state) old y ≡ changed_at h g old)
      (state : (old : List Progress) → slice_get old h ≡ slice_get m.hosts h → state_after (past_in start (with_hosts m old)) y ≡ state_after (past_in start m) y)
      (may : (old : List Progress) → slice_get old h ≡ slice_get m.hosts h → MayStand (length start) (shapes_in (with_hosts m old)) y)
      (fits : (old : List Progress) → slice_get old h ≡ slice_get m.hosts h → FitsNext (past_in start (with_hosts m old)) y) where
    own_back : (hosts : List Progress) → ButOne h (progress_after (settled_length m.state) m.hosts y) hosts → Back h (λ p. p) g m.hosts hosts
    own_back hosts but = but_back h g (λ p. p) g m.hosts hosts (λ p is. refl) (subst (λ (l : List Progress). ButOne h l hosts) (prog m.hosts) but)

    own_is : (hosts : List Progress) (back : Back h (λ p. p) g m.hosts hosts) → slice_get back.old h ≡ slice_get m.hosts h
        → after_note start (with_hosts m back.old) y ≡ with_hosts (after_note start m y) hosts
    own_is hosts back here =
        ap₂ (λ (s : State) (l : List Progress). let x : Possible = record { state = s; hosts = l } in x) (state back.old here) (prog back.old ∙ back.is)

    -- it is left out
    pub real_hidden : IsTrue (is_inner y) → IsRealizedAt start lines h m → IsRealizedAt start lines h (after_note start m y)
    real_hidden inner real hosts but =
        let back = own_back hosts but in
        let old = unchanged_but h m.hosts back.old back.but in
        let here = but_here h m.hosts back.old old in
        subst (ComesTo start lines) (own_is hosts back here) (hidden_more start lines (with_hosts m back.old) y (real back.old old) inner told (may back.old here) (fits back.old here))

    -- or is a line
    pub real_line : ((p : Progress) → slice_get m.hosts h ≡ Some p → IsBegun (g p) → ⊥) → IsRealizedAt start lines h m → IsRealized start (lines ++ y ∷ []) (after_note start m y)
    real_line none real hosts pairs =
        let but = subst (λ (l : List Progress). ButOne h l hosts) (sym (prog m.hosts)) (chosen_but h g m.hosts hosts none (subst (λ (l : List Progress). Pairs Chosen l hosts) (prog m.hosts) pairs)) in
        let back = own_back hosts but in
        let old = unchanged_but h m.hosts back.old back.but in
        let here = but_here h m.hosts back.old old in
        subst (ComesTo start (lines ++ y ∷ [])) (own_is hosts back here) (line_more start lines (with_hosts m back.old) y (real back.old old) told (may back.old here) (fits back.old here))

  -- Where hosts are the same at one place.

  pub runs_here : (h : ℕ) (m : Possible) (old : List Progress) → slice_get old h ≡ slice_get m.hosts h → (P : List ℕ → TaskShape → Type 0)
      → OfRunning (slice_get (shapes_in m) h) P
      → OfRunning (slice_get (shapes_in (with_hosts m old)) h) P
  runs_here h m old same P is =
      let r = running_at m h P is in runs_at (with_hosts m old) h P r.host r.task (same ∙ r.is) r.runs r.holds

  pub told_here : (h : ℕ) (m : Possible) (old : List Progress) → slice_get old h ≡ slice_get m.hosts h
      → slice_get (past_in start (with_hosts m old)).hosts h ≡ slice_get (past_in start m).hosts h
  told_here h m old same = slice_get-map told_in old h ∙ ap (option_map told_in) same ∙ sym (slice_get-map told_in m.hosts h)

  pub host_here : (h : ℕ) (m : Possible) (old : List Progress) → slice_get old h ≡ slice_get m.hosts h → (P : HostPast → Type 0)
      → OfHost (slice_get (past_in start m).hosts h) P
      → OfHost (slice_get (past_in start (with_hosts m old)).hosts h) P
  host_here h m old same P is = subst (λ (o : Option HostPast). OfHost o P) (sym (told_here h m old same)) is

  -- a count that is found
  pub real_found : (h n : ℕ) (m : Possible) → IsRealizedAt start lines h m → OfRunning (slice_get (shapes_in m) h) (λ me t. TaskNote h me t (Found h n))
      → FoundAllowed n m.state
      → IsRealizedAt start lines h (after_note start m (Found h n))
  real_found h n m real may found =
      real_hidden h m (Found h n) (λ p. record p { shape = with_stage (Met n) p.shape }) refl (λ old. refl) (λ old same. refl)
      (λ old same. runs_here h m old same (λ me t. TaskNote h me t (Found h n)) may) (λ old same. found) refl real

  -- an entry that is named
  pub real_writes : (h seq : ℕ) (e : Entry) (m : Possible) → IsRealizedAt start lines h m → OfRunning (slice_get (shapes_in m) h) (λ me t. TaskNote h me t (Writes h seq e))
      → FitsNext (past_in start m) (Writes h seq e)
      → IsRealizedAt start lines h (after_note start m (Writes h seq e))
  real_writes h seq e m real may fits =
      real_hidden h m (Writes h seq e) _ refl (λ old. refl)
      (λ old same. ap (λ (o : Option HostPast). pends (record { entry = e; bytes = filled_bytes (cmd_of o) e.size }) m.state) (told_here h m old same))
      (λ old same. runs_here h m old same (λ me t. TaskNote h me t (Writes h seq e)) may)
      (λ old same. host_here h m old same (λ host. WritesAllowed seq e host m.state) fits) refl real
