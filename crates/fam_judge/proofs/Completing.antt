-- Behind each history that is explained some state is possible.
use Rattle.std.proofs.Common.{◌≡◌, inl, inr, ℕ, List, [], ◌∷◌, length, map, refl, ap, ap₂, sym, ◌∙◌, subst}
use Rattle.std.specs.Prelude.{IsTrue}
use Rattle.fam_base.specs.Image.{Image}
use Rattle.fam_journal.specs.Notes.{Note, Start}
use Rattle.fam_journal.specs.Shapes.{Pairs}
use Rattle.fam_judge.specs.Covering.{AreFitting, Direct, HostOver, Over, direct, late}
use Rattle.fam_judge.specs.Fitting.{FitsNext}
use Rattle.fam_judge.specs.Possible.{MayLead, LeadsTo, Possible, Progress, after_note, as_is, past_in, shapes_in, written}
use Rattle.fam_judge.specs.Shows.{ShowsJournal, is_inner}
use Rattle.fam_judge.specs.Standing.{MayStand}
use Rattle.fam_judge.specs.Untold.{untold_note, untold_notes}
use Rattle.fam_judge.proofs.Goodness.{Each, Wishful, apart_after, each_wishes, wishes_after}
use Rattle.fam_judge.proofs.Masters.{AreApart}
use Rattle.fam_judge.proofs.OverHidden.{late_now}
use Rattle.fam_judge.proofs.OverHosts.{IsApart, uuid_in}
use Rattle.fam_judge.proofs.OverLate.{inner_over}
use Rattle.fam_judge.proofs.OverLines.{line_follows}
use Rattle.fam_judge.proofs.Sizes.{kept_uuids}
use Rattle.fam_judge.proofs.Untelling.{alike_untold}
use Rattle.fam_journal.specs.Past.{State}

-- UUIDs that differ in the one state differ in the other.
uuids_over : (s : State) (xs cs : List Progress) → Pairs (HostOver s) xs cs → map uuid_in xs ≡ map uuid_in cs
uuids_over s [] [] pairs = refl
uuids_over s [] (q ∷ cs) pairs = absurd pairs
uuids_over s (p ∷ xs) [] pairs = absurd pairs
uuids_over s (p ∷ xs) (q ∷ cs) pairs = ap₂ (λ (u : List ℕ) (l : List (List ℕ)). u ∷ l) pairs.0.uuid (uuids_over s xs cs pairs.1)

direct_apart : (x c : Possible) → Direct x c → IsApart c → IsApart x
direct_apart x c d apart = subst AreApart (sym (uuids_over x.state x.hosts c.hosts d.hosts)) apart

pub over_apart : (start : Image) (x c : Possible) → Over start x c → IsApart c → IsApart x
over_apart start x c (direct d) apart = direct_apart x c d apart
over_apart start x c (late l) apart =
    direct_apart x l.pre l.direct
    (subst AreApart (ap (map uuid_in) l.hosts ∙ kept_uuids uuid_in l.host _ (λ p. refl) l.pre.hosts) apart)

-- a state to which the line leads
pub record LeadsIn (start : Image) (x c : Possible) (line : Note) : Type 0 where
  pub next : Possible
  pub leads : MayLead start x line next
  pub over : Direct next (after_note start c line)

-- a line that follows the journal's notes follows the state
pub line_over : (start : Image) (x c : Possible) → Over start x c → IsApart c → Each Wishful c.hosts → (y : Note) → MayStand (length start) (shapes_in c) y
    → FitsNext (past_in start c) y
    → LeadsIn start x c y
line_over start x c (direct d) apart wishes y may fits =
    let next = line_follows start x c d (direct_apart x c d apart) (each_wishes c wishes) y may fits in
    record { next = next.next; leads = record { first = x; before = as_is refl; steps = next.leads }; over = next.over }
line_over start x c (late l) apart wishes y may fits =
    let now = late_now start x c (over_apart start x c (late l) apart) l in
    let next = line_follows start now.now c now.direct (direct_apart now.now c now.direct apart) (each_wishes c wishes) y may fits in
    record { next = next.next; leads = record { first = now.now; before = written l.host now.wrote; steps = next.leads }; over = next.over }

-- a state behind lines, which allows no less than what the journal comes to
pub record Reached (start : Image) (x c : Possible) (lines : List Note) : Type 0 where
  pub state : Possible
  pub leads : LeadsTo start x lines state

inner_is : (y : Note) → IsTrue (is_inner y) → IsTrue (is_inner (untold_note y))
inner_is (Start h cmd) inner = absurd cc
inner_is y inner = inner

-- by the notes of a journal, and the lines that show it
pub shown_reached : (start : Image) (history notes : List Note) → ShowsJournal history notes → (x c : Possible) → Over start x c → IsApart c → Each Wishful c.hosts
    → AreFitting start c (untold_notes notes) → Reached start x c (untold_notes history)
shown_reached start [] [] shows x c over apart wishes fitting = record { state = x; leads = refl }
shown_reached start [] (y ∷ notes) shows x c over apart wishes fitting =
    let more = shown_reached start [] notes shows.1 x (after_note start c (untold_note y)) (inner_over start x c apart over (untold_note y) (inner_is y shows.0) (length start) fitting.0 fitting.1)
    (apart_after start (length start) c (untold_note y) apart fitting.0) (wishes_after start (length start) c (untold_note y) wishes fitting.0) fitting.2 in
    record { state = more.state; leads = more.leads }
shown_reached start (line ∷ history) [] shows x c over apart wishes fitting = absurd shows
shown_reached start (line ∷ history) (y ∷ notes) (inl here) x c over apart wishes fitting =
    let next = line_over start x c over apart wishes (untold_note y) fitting.0 fitting.1 in
    let more = shown_reached start history notes here.1 next.next (after_note start c (untold_note y)) (direct next.over)
    (apart_after start (length start) c (untold_note y) apart fitting.0) (wishes_after start (length start) c (untold_note y) wishes fitting.0) fitting.2 in
    record { state = more.state; leads = (next.next, subst (λ (z : Note). MayLead start x z next.next) (sym (alike_untold line y here.0)) next.leads, more.leads) }
shown_reached start (line ∷ history) (y ∷ notes) (inr out) x c over apart wishes fitting =
    let more = shown_reached start (line ∷ history) notes out.1 x (after_note start c (untold_note y))
    (inner_over start x c apart over (untold_note y) (inner_is y out.0) (length start) fitting.0 fitting.1)
    (apart_after start (length start) c (untold_note y) apart fitting.0) (wishes_after start (length start) c (untold_note y) wishes fitting.0) fitting.2 in
    record { state = more.state; leads = more.leads }
