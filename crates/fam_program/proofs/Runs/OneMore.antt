-- One event more behind others.
use Prim.Native.Nat.{zero, suc}
use Rattle.std.proofs.Common.{◌≡◌, ℕ, List, [], ◌∷◌, ◌++◌, take, Some, refl, ap, sym, ◌∙◌, subst}
use Rattle.std.specs.Prelude.{slice_get}
use Rattle.std.proofs.lemmas.List.{append-nil, append_assoc}
use Rattle.std.proofs.lemmas.Option.{same_Some}
use Rattle.fam_media.specs.Files.{Files}
use Rattle.fam_journal.specs.declared.event.Event.{Event}
use Rattle.fam_journal.specs.EventShapes.{EventShape, FollowsShape}
use Rattle.fam_journal.specs.Events.{DoesEvent, Session}
use Rattle.fam_journal.specs.Follows.{Follows}
use Rattle.fam_journal.specs.Shapes.{HostShape, shapes_behind}
use Rattle.fam_journal.specs.Notes.{Note}
use Rattle.fam_journal.proofs.Shapes.Operations.{shapes_both}

-- the first ones and the next
pub take_next : {A : Type 0} (xs : List A) (k : ℕ) (x : A) → slice_get xs k ≡ Some x → take (suc k) xs ≡ take k xs ++ x ∷ []
take_next [] k x is = absurd cc
take_next (y ∷ xs) zero x is = ap (λ z. z ∷ []) (same_Some y x is)
take_next (y ∷ xs) (suc k) x is = ap (λ zs. y ∷ zs) (take_next xs k x is)

pub follows_more : (files : Files) (events : List Event) (e : Event) (old mid new : Session) (first rest : List Note)
    → Follows files events old first mid → DoesEvent files e mid rest new → Follows files (events ++ e ∷ []) old (first ++ rest) new
follows_more files [] e old mid new first rest follows does =
    let here : mid ≡ old = follows.1 in
    (new, rest, [], subst (λ (s : Session). DoesEvent files e s rest new) here does, (refl, refl), ap (λ (z : List Note). z ++ rest) follows.0 ∙ sym (append-nil rest))
follows_more files (x ∷ events) e old mid new first rest follows does = (
  follows.0,
  follows.1,
  follows.2 ++ rest,
  follows.3,
  follows_more files events e follows.0 mid new follows.2 rest follows.4 does,
  ap (λ (z : List Note). z ++ rest) follows.5 ∙ append_assoc follows.1 follows.2 rest,
)

pub shape_more : (lines : ℕ) (events : List Event) (e : Event) (hosts : List HostShape) (first rest : List Note)
    → FollowsShape lines events hosts first → EventShape e lines (shapes_behind hosts first) rest
    → FollowsShape lines (events ++ e ∷ []) hosts (first ++ rest)
shape_more lines [] e hosts first rest shape next = (
  rest,
  [],
  subst (λ (n : List Note). EventShape e lines (shapes_behind hosts n) rest) shape next,
  refl,
  ap (λ (z : List Note). z ++ rest) shape ∙ sym (append-nil rest),
)
shape_more lines (x ∷ events) e hosts first rest shape next = (
  shape.0,
  shape.1 ++ rest,
  shape.2,
  shape_more lines events e (shapes_behind hosts shape.0) shape.1 rest shape.3
      (subst (λ (h : List HostShape). EventShape e lines h rest) (ap (shapes_behind hosts) shape.4 ∙ shapes_both hosts shape.0 shape.1) next),
  ap (λ (z : List Note). z ++ rest) shape.4 ∙ append_assoc shape.0 shape.1 rest,
)
