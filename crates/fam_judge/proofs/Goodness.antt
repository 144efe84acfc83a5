-- What holds of the hosts behind each note that stands: their UUIDs differ, and one that found entries wants to append.
use Rattle.std.proofs.Common.{◌≡◌, inl, inr, ℕ, Bool, true, false, List, [], ◌∷◌, map, Option, Some, None, refl, ap, sym, ◌∙◌, subst}
use Rattle.std.specs.Prelude.{◌||◌, option_map, slice_get}
use Rattle.std.proofs.lemmas.Bool.{cases_eq}
use Rattle.std.proofs.lemmas.List.{map-append}
use Rattle.std.proofs.lemmas.Option.{same_Some, slice_get-map}
use Rattle.fam_base.specs.Image.{Image}
use Rattle.fam_base.specs.PathOrder.{path_eq}
use Rattle.fam_commands.specs.Appends.{HasWish}
use Rattle.fam_journal.specs.Members.{changed_at}
use Rattle.fam_journal.specs.Notes.{Note, Host, Made, Cut, Start, Mark, Found, Writes, Answered, Stop, Halt, Umount, Refused}
use Rattle.fam_journal.specs.Shapes.{Begun, CommandStage, Marked, Met, Named, OfRunning, TaskNote, TaskShape}
use Rattle.fam_journal.proofs.Calls.Declares.{none_passes}
use Rattle.fam_journal.proofs.Calls.Members.{changed_here, changed_other}
use Rattle.fam_judge.specs.Possible.{Possible, Progress, after_note, new_progress, shapes_in}
use Rattle.fam_judge.specs.Standing.{Face, MayStand, face, faces, same_in}
use Rattle.fam_judge.proofs.Folding.{shape_in}
use Rattle.fam_judge.proofs.Masters.{AreApart, apart_last, last_at}
use Rattle.fam_judge.proofs.OverHidden.{task_of}
use Rattle.fam_judge.proofs.OverHosts.{IsApart, uuid_in}
use Rattle.fam_judge.proofs.OverLines.{MetWish}
use Rattle.fam_judge.proofs.Sizes.{kept_uuids}
use Rattle.fam_judge.proofs.Standing.Faces.{text_same}

-- Members of a list of which one changes.

-- of each member this holds
abbrev pub Each : (Progress → Type 0) → List Progress → Type 0
Each P xs = (k : ℕ) (p : Progress) → slice_get xs k ≡ Some p → P p

each_changed : (P : Progress → Type 0) (h : ℕ) (f : Progress → Progress) (xs : List Progress) → Each P xs → ((p : Progress) → slice_get xs h ≡ Some p → P p → P (f p))
    → Each P (changed_at h f xs)
each_changed P h f xs each mine k p is =
    elim (cases_eq k h) [
      | inl e ↦ here (slice_get xs h) refl (sym (changed_here h f xs) ∙ ap (slice_get (changed_at h f xs)) (sym e) ∙ is)
      | inr ne ↦ each k p (sym (changed_other h k f xs ne) ∙ is)
    ]
  where
    here : (o : Option Progress) → slice_get xs h ≡ o → option_map f o ≡ Some p → P p
    here None e is = absurd cc
    here (Some q) e is = subst P (same_Some (f q) p is) (mine q e (each h q e))

-- UUIDs.

same_uuids : (hosts : List Progress) (h : ℕ) (f : Progress → Progress) → ((p : Progress) → uuid_in (f p) ≡ uuid_in p) → AreApart (map uuid_in hosts)
    → AreApart (map uuid_in (changed_at h f hosts))
same_uuids hosts h f same apart = subst AreApart (sym (kept_uuids uuid_in h f same hosts)) apart

-- no host has the UUID of one that is declared
new_uuid : (c : Possible) (name uuid : List ℕ) → same_in name uuid (faces (shapes_in c)) ≡ None → (k : ℕ) → slice_get (map uuid_in c.hosts) k ≡ Some uuid → ⊥
new_uuid c name uuid none k is = by (slice_get c.hosts k) refl (sym (slice_get-map uuid_in c.hosts k) ∙ is)
  where
    or_other : (a b : Bool) → (a || b) ≡ false → b ≡ false
    or_other true b e = absurd cc
    or_other false b e = e

    by : (o : Option Progress) → slice_get c.hosts k ≡ o → option_map uuid_in o ≡ Some uuid → ⊥
    by None e same = absurd cc
    by (Some p) e same =
        let seen : slice_get (faces (shapes_in c)) k ≡ Some (face p.shape) =
        slice_get-map face (shapes_in c) k ∙ ap (option_map face) (slice_get-map shape_in c.hosts k ∙ ap (option_map shape_in) e) in
        let other : path_eq p.shape.uuid uuid ≡ false =
        or_other (path_eq p.shape.name name) (path_eq p.shape.uuid uuid) (none_passes (λ (f : Face). path_eq f.name name || path_eq f.uuid uuid) (faces (shapes_in c)) 0 none k (face p.shape) seen) in
        let one : path_eq p.shape.uuid uuid ≡ true = text_same p.shape.uuid uuid (same_Some p.shape.uuid uuid same) in
        cc

-- behind a note they differ still
pub apart_after : (start : Image) (lines : ℕ) (c : Possible) (y : Note) → IsApart c → MayStand lines (shapes_in c) y → IsApart (after_note start c y)
apart_after start lines c (Host name uuid) apart may =
    subst AreApart (sym (map-append uuid_in c.hosts (new_progress name uuid ∷ []))) (apart_last (map uuid_in c.hosts) uuid apart (new_uuid c name uuid may.1))
apart_after start lines c (Made h p) apart may = apart
apart_after start lines c (Cut h k) apart may = apart
apart_after start lines c (Start h cmd) apart may = same_uuids c.hosts h _ (λ p. refl) apart
apart_after start lines c (Mark h) apart may = same_uuids c.hosts h _ (λ p. refl) apart
apart_after start lines c (Found h n) apart may = same_uuids c.hosts h _ (λ p. refl) apart
apart_after start lines c (Writes h seq e) apart may = same_uuids c.hosts h _ (λ p. refl) apart
apart_after start lines c (Answered h answer) apart may = same_uuids c.hosts h _ (λ p. refl) apart
apart_after start lines c (Stop h) apart may = same_uuids c.hosts h _ (λ p. refl) apart
apart_after start lines c (Halt h) apart may = same_uuids c.hosts h _ (λ p. refl) apart
apart_after start lines c (Umount h) apart may = same_uuids c.hosts h _ (λ p. refl) apart
apart_after start lines c (Refused name cause) apart may = apart

-- Commands.

-- a host that found entries wants to append
abbrev pub Wishful : Progress → Type 0
Wishful p = (t : TaskShape) (n : ℕ) → p.shape.task ≡ Some t → t.stage ≡ Met n → HasWish t.cmd

-- so do all
pub each_wishes : (c : Possible) → Each Wishful c.hosts → MetWish c
each_wishes c each h p t n is runs met = each h p is t n runs met

no_task : (p : Progress) (t : TaskShape) (n : ℕ) → None ≡ Some t → HasWish t.cmd
no_task p t n e = absurd cc

staged_wish : (stage : CommandStage) → ((n : ℕ) → stage ≡ Met n → ⊥) → (o : Option TaskShape) (t : TaskShape) (n : ℕ)
    → option_map (λ (t : TaskShape). record t { stage = stage }) o ≡ Some t → t.stage ≡ Met n → HasWish t.cmd
staged_wish stage ne None t n e met = absurd cc
staged_wish stage ne (Some k) t n e met = absurd (ne n (ap (λ (z : TaskShape). z.stage) (same_Some (record k { stage = stage }) t e) ∙ met))

begun_met : (n : ℕ) → Begun ≡ Met n → ⊥
begun_met n e = cc

marked_met : (n : ℕ) → Marked ≡ Met n → ⊥
marked_met n e = cc

named_met : (seq n : ℕ) → Named seq ≡ Met n → ⊥
named_met seq n e = cc

found_wish : (c : Possible) (h m : ℕ) (p : Progress) → slice_get c.hosts h ≡ Some p → OfRunning (slice_get (shapes_in c) h) (λ me t. TaskNote h me t (Found h m))
    → (o : Option TaskShape) → p.shape.task ≡ o → (t : TaskShape) → option_map (λ (t : TaskShape). record t { stage = Met m }) o ≡ Some t → HasWish t.cmd
found_wish c h m p is may None runs t e = absurd cc
found_wish c h m p is may (Some k) runs t e =
    subst (λ (z : TaskShape). HasWish z.cmd) (same_Some (record k { stage = Met m }) t e) (task_of c h (λ me t. TaskNote h me t (Found h m)) p k may is runs).1

-- behind a note they do still
pub wishes_after : (start : Image) (lines : ℕ) (c : Possible) (y : Note) → Each Wishful c.hosts → MayStand lines (shapes_in c) y → Each Wishful (after_note start c y).hosts
wishes_after start lines c (Host name uuid) each may = λ k p is. elim (last_at c.hosts (new_progress name uuid) k p is) [
  | inl front ↦ each k p front
  | inr last ↦ subst Wishful last.1 (λ t n e met. absurd cc)
]
wishes_after start lines c (Made h p) each may = each
wishes_after start lines c (Cut h k) each may = each
wishes_after start lines c (Start h cmd) each may =
    each_changed Wishful h _ c.hosts each (λ p is old t n e met. absurd (begun_met n (ap (λ (z : TaskShape). z.stage) (same_Some _ t e) ∙ met)))
wishes_after start lines c (Mark h) each may = each_changed Wishful h _ c.hosts each (λ p is old t n e met. staged_wish Marked marked_met p.shape.task t n e met)
wishes_after start lines c (Found h m) each may = each_changed Wishful h _ c.hosts each (λ p is old t n e met. found_wish c h m p is may p.shape.task refl t e)
wishes_after start lines c (Writes h seq e) each may = each_changed Wishful h _ c.hosts each (λ p is old t n runs met. staged_wish (Named seq) (named_met seq) p.shape.task t n runs met)
wishes_after start lines c (Answered h answer) each may = each_changed Wishful h _ c.hosts each (λ p is old t n e met. absurd cc)
wishes_after start lines c (Stop h) each may = each_changed Wishful h _ c.hosts each (λ p is old t n e met. absurd cc)
wishes_after start lines c (Halt h) each may = each_changed Wishful h _ c.hosts each (λ p is old t n e met. absurd cc)
wishes_after start lines c (Umount h) each may = each_changed Wishful h _ c.hosts each (λ p is old t n e met. old t n e met)
wishes_after start lines c (Refused name cause) each may = each
