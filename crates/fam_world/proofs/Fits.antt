-- What fits a media fits it still behind a call that takes none.
use Rattle.std.proofs.Common.{◌≡◌, ℕ, ◌<◌, inl, inr, List, [], ◌∷◌, ◌++◌, length, Option, Some, None, refl, ap, sym, ◌∙◌, subst}
use Rattle.std.specs.Prelude.{slice_get, option_map}
use Rattle.std.specs.FinMap as finmap
use Rattle.std.proofs.lemmas.Bool.{cases_eq}
use Rattle.std.proofs.lemmas.Option.{same_Some}
use Rattle.fam_machine.specs.declared.cell.Cell.TheVariants.{Absent}
use Rattle.fam_machine.specs.Caches.{cell_at}
use Rattle.fam_machine.specs.OneLine.{IsHeld}
use Rattle.fam_machine.proofs.CacheLemmas.{cell_at-empty}
use Rattle.fam_commands.specs.Task.{mounted}
use Rattle.fam_journal.specs.declared.refusal.Refusal.{Refusal}
use Rattle.fam_journal.specs.Calls as call
use Rattle.fam_journal.specs.Calls.{Call}
use Rattle.fam_journal.specs.CallRecords.{FitsMedia, HostFits}
use Rattle.fam_journal.specs.Members.{changed_at}
use Rattle.fam_journal.specs.Notes.{Note}
use Rattle.fam_journal.specs.View.{HostView, WorldView}
use Rattle.fam_journal.specs.ByWorld.{acted_by, number_in, refusal_in, with_host, world_after}
use Rattle.fam_journal.proofs.Calls.Declares.{member_before, member_last}
use Rattle.fam_journal.proofs.Calls.Members.{changed_here, changed_other}

-- no line is held of an empty cache
none_held : (l : ℕ) (P : Type 0) → IsHeld (cell_at finmap.empty l) → P
none_held l P held = absurd (let none : IsHeld Absent = subst IsHeld (cell_at-empty l) held in cc)

fits_some : (lines : ℕ) (f : HostView → HostView) → ((v : HostView) → HostFits lines v → HostFits lines (f v)) → (o : Option HostView)
    → ((v : HostView) → o ≡ Some v → HostFits lines v) → (view : HostView) → option_map f o ≡ Some view → HostFits lines view
fits_some lines f each None all view is = absurd cc
fits_some lines f each (Some v) all view is = subst (HostFits lines) (same_Some (f v) view is) (each v (all v refl))

-- one host changes
fits_any : (lines h : ℕ) (f : HostView → HostView) → ((v : HostView) → HostFits lines v → HostFits lines (f v)) → (xs : List HostView) → FitsMedia lines xs → FitsMedia lines (changed_at h f xs)
fits_any lines h f each xs all k view is =
    elim (cases_eq k h) [
      | inl e ↦
          fits_some lines f each (slice_get xs h) (λ v v_is. all h v v_is) view
          (sym (changed_here h f xs) ∙ ap (λ (n : ℕ). slice_get (changed_at h f xs) n) (sym e) ∙ is)
      | inr ne ↦ all k view (sym (changed_other h k f xs ne) ∙ is)
    ]

-- one host more
fits_last : (lines : ℕ) (xs : List HostView) (y : HostView) → HostFits lines y → FitsMedia lines xs → FitsMedia lines (xs ++ y ∷ [])
fits_last lines xs y mine all k view is =
    elim (cases_eq k (length xs)) [
      | inl e ↦ subst (HostFits lines) (same_Some y view (sym (member_last xs y) ∙ ap (λ (n : ℕ). slice_get (xs ++ y ∷ []) n) (sym e) ∙ is)) mine
      | inr ne ↦ all k view (sym (member_before xs y k ne) ∙ is)
    ]

fits_hosted : (lines : ℕ) (o : Option ℕ) (f : HostView → HostView) (n : ℕ → Note) (world : WorldView)
    → ((v : HostView) → HostFits lines v → HostFits lines (f v)) → FitsMedia lines world.hosts → FitsMedia lines (with_host o f n world).hosts
fits_hosted lines None f n world each all = all
fits_hosted lines (Some h) f n world each all = fits_any lines h f each world.hosts all

pub world_fits : (c : Call) (lines : ℕ) (old : WorldView) → FitsMedia lines old.hosts → FitsMedia lines (world_after c lines old).hosts
world_fits c lines old all = by_refusal c (refusal_in c old lines)
  where
    by_refusal : (c : Call) (o : Option Refusal) → FitsMedia lines (acted_by o c lines old).hosts
    by_refusal c (Some cause) = all
    by_refusal (call.Declares name uuid) None = fits_last lines old.hosts _ (record { task = tt; cache = λ l held. none_held l (l < lines) held }) all
    by_refusal (call.Makes name request) None = all
    by_refusal (call.Begins name cmd) None = fits_hosted lines (number_in name old) (λ v. record v { task = Some (mounted v.kept cmd v.uuid lines) })
        _ old (λ v was. record { task = refl; cache = was.cache }) all
    by_refusal (call.Steps name) None = all
    by_refusal (call.Finishes name) None = all
    by_refusal (call.Stops name) None = fits_hosted lines (number_in name old) (λ v. record v { task = None }) _ old (λ v was. record { task = tt; cache = was.cache }) all
    by_refusal (call.Halts name) None = fits_hosted lines (number_in name old) (λ v. record v { cache = finmap.empty; task = None; kept = None }) _
        old (λ v was. record { task = tt; cache = λ l held. none_held l (l < lines) held }) all
    by_refusal (call.Umounts name) None = fits_hosted lines (number_in name old) (λ v. record v { kept = None }) _ old (λ v was. record { task = was.task; cache = was.cache }) all
    by_refusal (call.Moves name line move) None = all
    by_refusal (call.Refuses name cause) None = all
