-- Lines that lead from a state that some journal comes to.
use Rattle.std.proofs.Common.{◌≡◌, ◌⊎◌, inl, inr, ℕ, true, false, List, [], ◌∷◌, ◌++◌, length, Option, Some, None, refl, ap, sym, ◌∙◌, subst}
use Rattle.std.specs.Prelude.{⊤, is_some, option_map, slice_get}
use Rattle.std.proofs.lemmas.Option.{same_Some, slice_get-map}
use Rattle.fam_base.specs.declared.cmd.Cmd.{Cmd}
use Rattle.fam_base.specs.Image.{Image}
use Rattle.fam_journal.specs.Legal.{WritesAllowed}
use Rattle.fam_journal.specs.Members.{changed_at}
use Rattle.fam_journal.specs.Notes.{Replied, MediaFault, Note, Host, Made, Cut, Start, Mark, Found, Writes, Answered, Stop, Halt, Umount, Refused}
use Rattle.fam_journal.specs.Past.{HostPast, State, settled_length, pends, filled_bytes, cmd_of, Past}
use Rattle.fam_journal.specs.Shapes.{Begun, CommandStage, Marked, Met, Named, OfRunning, Pairs, TaskNote, TaskShape, with_stage}
use Rattle.fam_judge.specs.Fitting.{AnswerFits, FitsNext}
use Rattle.fam_judge.specs.Formed.{AnswerPlace}
use Rattle.fam_judge.specs.Possible.{MayLead, LeadsTo, Possible, Progress, ReachesFor, StepsTo, after_note, after_line, giver, new_progress, past_in, shapes_in}
use Rattle.fam_judge.specs.Standing.{Face, MayStand, OfFace, face, faces, is_own}
use Rattle.fam_judge.specs.Untold.{untold_note, untold_notes}
use Rattle.fam_judge.proofs.Choices.{Chosen, IsBegun, as_it_is, at_mark, chosen_back, chosen_begins, chosen_last, faces_chosen, mark_came, no_mark_came, Begins}
use Rattle.fam_judge.proofs.Folding.{shape_in}
use Rattle.fam_journal.proofs.Shapes.Pairs.{pairs_at}
use Rattle.fam_judge.proofs.Places.{changed_is, changed_twice, running_at, runs_at, of_told}
use Rattle.fam_judge.proofs.Realized.{real_before, real_reaches}
use Rattle.fam_judge.proofs.Realizing.{ComesTo, IsRealized, IsRealizedAt, hidden_more, host_here, line_more, real_line, runs_here, told_here, with_hosts}
use Rattle.fam_judge.proofs.Standing.Alike.{stands_seen}
use Rattle.std.proofs.lemmas.List.{append-nil}

staged_begun : (stage : CommandStage) → (stage ≡ Begun → ⊥) → (o : Option TaskShape) (t : TaskShape) → option_map (λ (t : TaskShape). record t { stage = stage }) o ≡ Some t
    → t.stage ≡ Begun → ⊥
staged_begun stage ne None t e begun = absurd cc
staged_begun stage ne (Some k) t e begun = ne (ap (λ (z : TaskShape). z.stage) (same_Some (record k { stage = stage }) t e) ∙ begun)

none_begun : (t : TaskShape) → None ≡ Some t → ⊥
none_begun t e = cc

marked_begun : Marked ≡ Begun → ⊥
marked_begun e = cc

met_begun : (n : ℕ) → Met n ≡ Begun → ⊥
met_begun n e = cc

named_begun : (n : ℕ) → Named n ≡ Begun → ⊥
named_begun n e = cc

module _ (start : Image) (lines : List Note) where
  -- Lines of a running command.

  own_line : (h : ℕ) (now : Possible) (y : Note) → giver y ≡ Some h → untold_note y ≡ y → IsRealizedAt start lines h now → MayStand (length start) (shapes_in now) y
      → FitsNext (past_in start now) y
      → IsRealized start (lines ++ y ∷ []) (after_line start now y)
  own_line h now (Mark k) is told real may fits =
      let same : h ≡ k = same_Some h k (sym is) in
      real_line start lines k now (Mark k) _ refl (λ old. refl) (λ old e. refl) (λ old e. runs_here start lines k now old e (λ me t. TaskNote k me t (Mark k)) may) (λ old e. tt)
      (λ p at begun. staged_begun Marked marked_begun p.shape.task begun.0 begun.1 begun.2) (subst (λ (j : ℕ). IsRealizedAt start lines j now) same real)
  own_line h now (Found k n) is told real may fits =
      let same : h ≡ k = same_Some h k (sym is) in
      real_line start lines k now (Found k n) _ refl (λ old. refl) (λ old e. refl) (λ old e. runs_here start lines k now old e (λ me t. TaskNote k me t (Found k n)) may) (λ old e. fits)
      (λ p at begun. staged_begun (Met n) (met_begun n) p.shape.task begun.0 begun.1 begun.2) (subst (λ (j : ℕ). IsRealizedAt start lines j now) same real)
  own_line h now (Writes k seq e) is told real may fits =
      let same : h ≡ k = same_Some h k (sym is) in
      real_line start lines k now (Writes k seq e) _ refl (λ old. refl)
      (λ old at. ap (λ (o : Option HostPast). pends (record { entry = e; bytes = filled_bytes (cmd_of o) e.size }) now.state) (told_here start lines k now old at))
      (λ old at. runs_here start lines k now old at (λ me t. TaskNote k me t (Writes k seq e)) may) (λ old at. host_here start lines k now old at (λ host. WritesAllowed seq e host now.state) fits)
      (λ p at begun. staged_begun (Named seq) (named_begun seq) p.shape.task begun.0 begun.1 begun.2) (subst (λ (j : ℕ). IsRealizedAt start lines j now) same real)
  own_line h now (Answered k (Replied given)) is told real may fits =
      let same : h ≡ k = same_Some h k (sym is) in
      real_line start lines k now (Answered k (Replied given)) _ refl (λ old. refl) (λ old e. refl)
      (λ old e. (
        runs_here start lines k now old e (λ me t. TaskNote k me t (Answered k (Replied given))) may.0,
        runs_here start lines k now old e
            (λ me t. AnswerPlace t.cmd t.stage (Replied given)) may.1,
      ))
      (λ old e. host_here start lines k now old e (λ host. AnswerFits (Replied given) host now.state) fits)
      (λ p at begun. none_begun begun.0 begun.1) (subst (λ (j : ℕ). IsRealizedAt start lines j now) same real)
  own_line h now (Answered k (MediaFault line)) is told real may fits = absurd cc
  own_line h now (Host name uuid) is told real may fits = absurd cc
  own_line h now (Made k p) is told real may fits = absurd cc
  own_line h now (Cut k n) is told real may fits = absurd cc
  own_line h now (Start k cmd) is told real may fits = absurd cc
  own_line h now (Stop k) is told real may fits = absurd cc
  own_line h now (Halt k) is told real may fits = absurd cc
  own_line h now (Umount k) is told real may fits = absurd cc
  own_line h now (Refused name cause) is told real may fits = absurd cc

  -- Lines that speak of faces.

  module _ (x : Possible) (real : IsRealized start lines x) where
    stands_chosen : (old : List Progress) → Pairs Chosen x.hosts old → (y : Note) → is_own y ≡ false → MayStand (length start) (shapes_in x) y
        → MayStand (length start) (shapes_in (with_hosts x old)) y
    stands_chosen old pairs y plain is = stands_seen (length start) (shapes_in x) (shapes_in (with_hosts x old)) y (sym (faces_chosen x.hosts old pairs)) plain is

    -- hosts stay as they are
    same_hosts : (y : Note) (s : State) → untold_note y ≡ y → is_own y ≡ false → MayStand (length start) (shapes_in x) y → ((p : Past) → FitsNext p y)
        → ((old : List Progress) → after_note start (with_hosts x old) y ≡ record { state = s; hosts = old }) → IsRealized start (lines ++ y ∷ []) (record { state = s; hosts = x.hosts })
    same_hosts y s told plain may fits is hosts pairs =
        subst (ComesTo start (lines ++ y ∷ [])) (is hosts) (line_more start lines (with_hosts x hosts) y (real hosts pairs) told (stands_chosen hosts pairs y plain may)
        (fits (past_in start (with_hosts x hosts))))

    -- a host's command ends, or what it keeps
    ended_host : (h : ℕ) (y : Note) (f : Progress → Progress) → untold_note y ≡ y
        → ((old : List Progress) → Pairs Chosen x.hosts old → MayStand (length start) (shapes_in (with_hosts x old)) y)
        → ((old : List Progress) → Pairs Chosen x.hosts old → FitsNext (past_in start (with_hosts x old)) y)
        → ((old : List Progress) → after_note start (with_hosts x old) y ≡ record { state = x.state; hosts = changed_at h f old })
        → ((p : Progress) → slice_get x.hosts h ≡ Some p → IsBegun (f p) → ⊥) → ((p : Progress) → slice_get x.hosts h ≡ Some p → IsBegun p → f (at_mark p) ≡ f p)
        → IsRealized start (lines ++ y ∷ []) (record { state = x.state; hosts = changed_at h f x.hosts })
    ended_host h y f told may fits is none same hosts pairs =
        let back = chosen_back h f x.hosts hosts none same pairs in
        subst (ComesTo start (lines ++ y ∷ [])) (is back.old ∙ ap (λ (l : List Progress). let z : Possible = record { state = x.state; hosts = l } in z) back.is)
        (line_more start lines (with_hosts x back.old) y (real back.old back.chosen) told (may back.old back.chosen) (fits back.old back.chosen))

    -- what is seen of a host
    face_at : (h : ℕ) (P : Face → Type 0) → OfFace (slice_get (faces (shapes_in x)) h) P → (p : Progress) → slice_get x.hosts h ≡ Some p → P (face p.shape)
    face_at h P is p at =
        subst (λ (o : Option Face). OfFace o P) (slice_get-map face (shapes_in x) h ∙ ap (option_map face) (slice_get-map shape_in x.hosts h ∙ ap (option_map shape_in) at)) is

    -- the host of a face
    host_of : (h : ℕ) (P : Face → Type 0) → OfFace (slice_get (faces (shapes_in x)) h) P → (p : Progress) × (slice_get x.hosts h ≡ Some p) × P (face p.shape)
    host_of h P is = by (slice_get x.hosts h) refl (subst (λ (o : Option Face). OfFace o P) (slice_get-map face (shapes_in x) h ∙ ap (option_map face) (slice_get-map shape_in x.hosts h)) is)
      where
        by : (o : Option Progress) → slice_get x.hosts h ≡ o → OfFace (option_map face (option_map shape_in o)) P
            → (p : Progress) × (slice_get x.hosts h ≡ Some p) × P (face p.shape)
        by None e is = absurd is
        by (Some p) e is = (p, e, is)

    idle_begun : (p : Progress) → is_some p.shape.task ≡ false → IsBegun p → ⊥
    idle_begun p e begun = let some : is_some p.shape.task ≡ true = ap is_some begun.1 in cc

    started : (h : ℕ) (cmd : Cmd) → untold_note (Start h cmd) ≡ Start h cmd → MayStand (length start) (shapes_in x) (Start h cmd)
        → IsRealized start (lines ++ Start h cmd ∷ []) (after_line start x (Start h cmd))
    started h cmd told may hosts pairs = by begins
      where
        begin : Progress → Progress
        begin p = record { told = record p.told { cmd = Some cmd; floor = None; wrote = None }; shape = record p.shape { task = Some (record { cmd = cmd; stage = Begun }) } }

        mark : Progress → Progress
        mark p = record { told = record p.told { floor = Some (settled_length x.state) }; shape = with_stage Marked p.shape }

        floor : Progress → Progress
        floor p = record p { told = record p.told { floor = Some (settled_length x.state) } }

        begins : Begins h begin mark x.hosts hosts
        begins =
            chosen_begins h begin mark (λ p. floor (begin p)) x.hosts hosts (λ p at. idle_begun p (face_at h _ may.1 p at).0)
            (λ p. (record { cmd = cmd; stage = Begun }, refl, refl)) (λ p. refl) (λ p. refl)
            (subst (λ (l : List Progress). Pairs Chosen l hosts) (changed_twice h begin floor x.hosts) pairs)

        by : Begins h begin mark x.hosts hosts → ComesTo start (lines ++ Start h cmd ∷ []) (with_hosts x hosts)
        by b = last b.is
          where
            first : ComesTo start (lines ++ Start h cmd ∷ []) (after_note start (with_hosts x b.old) (Start h cmd))
            first = line_more start lines (with_hosts x b.old) (Start h cmd) (real b.old b.chosen) told (stands_chosen b.old b.chosen (Start h cmd) refl may) tt

            running : OfRunning (slice_get (shapes_in (after_note start (with_hosts x b.old) (Start h cmd))) h) (λ me t. TaskNote h me t (Mark h))
            running =
                let p = host_of h _ may.1 in
                let q = pairs_at Chosen x.hosts b.old h p.0 b.chosen p.1 in
                runs_at (after_note start (with_hosts x b.old) (Start h cmd)) h (λ me t. TaskNote h me t (Mark h)) (begin q.0) (record { cmd = cmd; stage = Begun })
                (changed_is h begin b.old q.0 q.1) refl (refl, refl)

            last : (changed_at h begin b.old ≡ hosts) ⊎ (changed_at h mark (changed_at h begin b.old) ≡ hosts) → ComesTo start (lines ++ Start h cmd ∷ []) (with_hosts x hosts)
            last (inl e) = subst (λ (l : List Progress). ComesTo start (lines ++ Start h cmd ∷ []) (with_hosts x l)) e first
            last (inr e) = subst (λ (l : List Progress). ComesTo start (lines ++ Start h cmd ∷ []) (with_hosts x l)) e
                (hidden_more start (lines ++ Start h cmd ∷ []) (after_note start (with_hosts x b.old) (Start h cmd)) (Mark h) first refl refl running tt)

    media_runs : (h line : ℕ) → MayStand (length start) (shapes_in x) (Answered h (MediaFault line)) → (old : List Progress) → Pairs Chosen x.hosts old
        → MayStand (length start) (shapes_in (with_hosts x old)) (Answered h (MediaFault line))
    media_runs h line may old pairs =
        let r = running_at x h (λ me t. TaskNote h me t (Answered h (MediaFault line))) may.0 in
        let q = pairs_at Chosen x.hosts old h r.host pairs r.is in
        let t = runs_still r.host q.0 r.task r.runs q.2 in (
          runs_at (with_hosts x old) h (λ me t. TaskNote h me t (Answered h (MediaFault line))) q.0 t.0 q.1 t.1 (refl, tt),
          runs_at (with_hosts x old) h
              (λ me t. AnswerPlace t.cmd t.stage (MediaFault line)) q.0 t.0 q.1 t.1 tt,
        )
      where
        runs_still : (p q : Progress) (t : TaskShape) → p.shape.task ≡ Some t → Chosen p q → (u : TaskShape) × (q.shape.task ≡ Some u)
        runs_still p q t e (as_it_is none is) = (t, ap (λ (z : Progress). z.shape.task) is ∙ e)
        runs_still p q t e (no_mark_came begun is) = (t, ap (λ (z : Progress). z.shape.task) is ∙ e)
        runs_still p q t e (mark_came begun is) = (record t { stage = Marked }, ap (λ (z : Progress). z.shape.task) is ∙ ap (option_map (λ (t : TaskShape). record t { stage = Marked })) e)

    media_fits : (h line : ℕ) → MayStand (length start) (shapes_in x) (Answered h (MediaFault line)) → (old : List Progress) → Pairs Chosen x.hosts old
        → FitsNext (past_in start (with_hosts x old)) (Answered h (MediaFault line))
    media_fits h line may old pairs =
        let r = running_at x h (λ me t. TaskNote h me t (Answered h (MediaFault line))) may.0 in
        let q = pairs_at Chosen x.hosts old h r.host pairs r.is in
        of_told start (with_hosts x old) h (λ host. ⊤) q.0 q.1 tt

    -- by the line
    plain_line : (y : Note) → giver y ≡ None → untold_note y ≡ y → MayStand (length start) (shapes_in x) y → IsRealized start (lines ++ y ∷ []) (after_line start x y)
    plain_line (Host name uuid) is told may = λ hosts pairs.
        let last = chosen_last x.hosts (new_progress name uuid) hosts (λ begun. none_begun begun.0 begun.1) pairs in
        subst (λ (l : List Progress). ComesTo start (lines ++ Host name uuid ∷ []) (with_hosts x l)) last.is
        (line_more start lines (with_hosts x last.front) (Host name uuid) (real last.front last.chosen) told (stands_chosen last.front last.chosen (Host name uuid) refl may) tt)
    plain_line (Made h p) is told may = same_hosts (Made h p) _ told refl may (λ past. tt) (λ old. refl)
    plain_line (Cut h k) is told may = same_hosts (Cut h k) _ told refl may (λ past. tt) (λ old. refl)
    plain_line (Start h cmd) is told may = started h cmd told may
    plain_line (Stop h) is told may =
        ended_host h (Stop h) _ told (λ old pairs. stands_chosen old pairs (Stop h) refl may) (λ old pairs. tt) (λ old. refl) (λ p at begun. none_begun begun.0 begun.1) (λ p at begun. refl)
    plain_line (Halt h) is told may =
        ended_host h (Halt h) _ told (λ old pairs. stands_chosen old pairs (Halt h) refl may) (λ old pairs. tt) (λ old. refl) (λ p at begun. none_begun begun.0 begun.1) (λ p at begun. refl)
    plain_line (Umount h) is told may =
        ended_host h (Umount h) _ told (λ old pairs. stands_chosen old pairs (Umount h) refl may) (λ old pairs. tt) (λ old. refl)
        (λ p at begun. idle_begun p (face_at h _ may p at).0 begun) (λ p at begun. absurd (idle_begun p (face_at h _ may p at).0 begun))
    plain_line (Refused name cause) is told may = same_hosts (Refused name cause) x.state told refl may (λ past. tt) (λ old. refl)
    plain_line (Answered h (MediaFault line)) is told may =
        ended_host h (Answered h (MediaFault line)) _ told (media_runs h line may) (media_fits h line may) (λ old. refl) (λ p at begun. none_begun begun.0 begun.1) (λ p at begun. refl)
    plain_line (Answered h (Replied given)) is told may = absurd cc
    plain_line (Mark h) is told may = absurd cc
    plain_line (Found h n) is told may = absurd cc
    plain_line (Writes h seq e) is told may = absurd cc

  -- a line that leads on
  steps_real : (x : Possible) → IsRealized start lines x → (y : Note) → untold_note y ≡ y → (z : Possible) → StepsTo start x y z → IsRealized start (lines ++ y ∷ []) z
  steps_real x real y told z steps = by (giver y) refl steps.reaches
    where
      by : (o : Option ℕ) → giver y ≡ o → ReachesFor start o x steps.now → IsRealized start (lines ++ y ∷ []) z
      by None e now =
          subst (IsRealized start (lines ++ y ∷ [])) (ap (λ (n : Possible). after_line start n y) (sym now) ∙ sym steps.is)
          (plain_line x real y e told (subst (λ (n : Possible). MayStand (length start) (shapes_in n) y) now steps.may))
      by (Some h) e reaches =
          subst (IsRealized start (lines ++ y ∷ [])) (sym steps.is)
          (own_line h steps.now y e told (real_reaches start lines h x real steps.now reaches) steps.may steps.fits)

  pub leads_real : (x : Possible) → IsRealized start lines x → (y : Note) → untold_note y ≡ y → (z : Possible) → MayLead start x y z → IsRealized start (lines ++ y ∷ []) z
  leads_real x real y told z leads = steps_real leads.first (real_before start lines x leads.first real leads.before) y told z leads.steps

-- one line more in front
append_one : (before : List Note) (y : Note) (lines : List Note) → (before ++ y ∷ []) ++ lines ≡ before ++ y ∷ lines
append_one [] y lines = refl
append_one (first ∷ before) y lines = ap (λ (l : List Note). first ∷ l) (append_one before y lines)

-- lines that lead on
pub all_real : (start : Image) (before : List Note) (x : Possible) → IsRealized start before x → (lines : List Note) → untold_notes lines ≡ lines → (z : Possible)
    → LeadsTo start x lines z → IsRealized start (before ++ lines) z
all_real start before x real [] told z leads =
    subst (λ (l : List Note). IsRealized start l z) (sym (append-nil before)) (subst (IsRealized start before) (sym leads) real)
all_real start before x real (y ∷ lines) told z leads =
    subst (λ (l : List Note). IsRealized start l z) (append_one before y lines)
    (all_real start (before ++ y ∷ []) leads.0 (leads_real start before x real y (heads y lines told) leads.0 leads.1) lines (tails y lines told) z leads.2)
  where
    heads : (y : Note) (lines : List Note) → untold_note y ∷ untold_notes lines ≡ y ∷ lines → untold_note y ≡ y
    heads y lines e = cc

    tails : (y : Note) (lines : List Note) → untold_note y ∷ untold_notes lines ≡ y ∷ lines → untold_notes lines ≡ lines
    tails y lines e = cc
