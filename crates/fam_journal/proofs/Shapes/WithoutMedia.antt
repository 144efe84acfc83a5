-- A call that the world alone tells adds notes of its shape, and the world's hosts are what its journal tells again.
use Prim.Native.Nat.{zero, suc}
use Rattle.std.proofs.Common.{◌⊎◌, inl, inr, ◌≡◌, ℕ, ◌+◌, Bool, true, false, List, [], ◌∷◌, ◌++◌, map, Option, Some, None, refl, sym, ◌∙◌, ap, subst, arith}
use Rattle.std.specs.Prelude.{slice_get, if◌then◌else◌}
use Rattle.fam_journal.specs.declared.refusal.Refusal.{Refusal}
use Rattle.fam_base.specs.declared.cmd.Cmd.{Cmd}
use Rattle.fam_commands.specs.Classes.{is_mount}
use Rattle.fam_commands.specs.Task.{mounted}
use Rattle.std.specs.FinMap as finmap
use Rattle.fam_journal.specs.declared.refusal.Refusal.TheVariants as why
use Rattle.fam_journal.specs.Calls as call
use Rattle.fam_journal.proofs.Faces.{IsNoMake}
use Rattle.fam_journal.proofs.Shapes.Pairs.{pairs_last}
use Rattle.fam_journal.specs.Notes as note
use Rattle.fam_journal.specs.Calls.{Call, has_name, asked_name, number_of, on_host, refusal_of}
use Rattle.fam_journal.specs.CallRecords.{HasShape}
use Rattle.fam_journal.specs.Shapes.{ActsShape, AtShape, DoesShape, ShapeByRefusal, FreeShape, HostShape, HostActsShape, HostShaped, IsShaped, OfHostShape, Pairs, shapes_after, shapes_of, refusal_told, shown_shape, shown_shapes}
use Rattle.fam_journal.specs.Members.{changed_at, index_from}
use Rattle.fam_journal.specs.Notes.{Note, Refused}
use Rattle.fam_journal.specs.View.{HostView, WorldView}
use Rattle.fam_journal.specs.ByWorld.{TakesNoMedia, acted_by, number_in, refusal_in, shown_state, with_host, world_after}
use Rattle.fam_journal.proofs.Shapes.Operations.{shapes_both}
use Rattle.fam_journal.proofs.Shapes.Views.{number_shaped, refusal_shaped}

-- all pairs may change
pairs_any : {A B : Type 0} (P : A → B → Type 0) (g : A → A) (k : B → B) → ((x : A) (y : B) → P x y → P (g x) (k y))
    → (h : ℕ) (xs : List A) (ys : List B) → Pairs P xs ys → Pairs P (changed_at h g xs) (changed_at h k ys)
pairs_any P g k each h [] [] all = tt
pairs_any P g k each h [] (y ∷ ys) all = absurd all
pairs_any P g k each h (x ∷ xs) [] all = absurd all
pairs_any P g k each zero (x ∷ xs) (y ∷ ys) all = (each x y all.0, all.1)
pairs_any P g k each (suc h) (x ∷ xs) (y ∷ ys) all = (all.0, pairs_any P g k each h xs ys all.1)

-- the host of a number that a name has, counted from i, is declared
named_here : (name : List ℕ) (P : HostShape → Type 0) → ((f : HostShape) → P f) → (hosts : List HostShape) (i k : ℕ)
    → index_from i (has_name name) (map shown_shape hosts) ≡ Some (i + k) → OfHostShape (slice_get hosts k) P
named_here name P each [] i k is = absurd cc
named_here name P each (f ∷ hosts) i zero is = each f
named_here name P each (f ∷ hosts) i (suc k) is = by_test (has_name name (shown_shape f)) (λ rest. named_here name P each hosts (i + 1) k rest) is
  where
    shift : i + suc k ≡ (i + 1) + k
    shift = omega arith

    by_test : (t : Bool) → (index_from (i + 1) (has_name name) (map shown_shape hosts) ≡ Some ((i + 1) + k) → OfHostShape (slice_get hosts k) P)
        → (if t then Some i else index_from (i + 1) (has_name name) (map shown_shape hosts)) ≡ Some (i + suc k) → OfHostShape (slice_get hosts k) P
    by_test true rest is = absurd (let same : i ≡ i + suc k = Rattle.std.proofs.lemmas.Option.same_Some i (i + suc k) is in omega (arith, same))
    by_test false rest is = rest (is ∙ ap Some shift)

module _ (lines : ℕ) (world : WorldView) (is : IsShaped world) where
  abbrev shapes : List HostShape
  shapes = shapes_of world.journal

  -- one note more
  added : (views : List HostView) (n : Note) → Pairs HostShaped views (shapes_after shapes n) → IsShaped (record { hosts = views; journal = world.journal ++ n ∷ [] })
  added views n all = subst (λ (z : List HostShape). Pairs HostShaped views z) (sym (shapes_both [] world.journal (n ∷ []))) all

  refused : (c : Call) (o : Option Refusal) (cause : Refusal) → refusal_told c lines shapes ≡ Some cause
      → HasShape c lines world (record world { journal = world.journal ++ Refused (asked_name c) cause ∷ [] })
  refused c o cause told = record {
    notes = Refused (asked_name c) cause ∷ [];
    joined = refl;
    shape = subst (λ (r : Option Refusal). ShapeByRefusal (asked_name c) r (Refused (asked_name c) cause ∷ []) (FreeShape c lines shapes (Refused (asked_name c) cause ∷ []))) (sym told) refl;
    shaped = added world.hosts (Refused (asked_name c) cause) is;
  }

  freed : (c : Call) (notes : List Note) → refusal_told c lines shapes ≡ None → FreeShape c lines shapes notes → DoesShape c lines shapes notes
  freed c notes told x = subst (λ (r : Option Refusal). ShapeByRefusal (asked_name c) r notes (FreeShape c lines shapes notes)) (sym told) x

  -- of a declared host
  hosted : (c : Call) (g : HostView → HostView) (n : ℕ → Note) (o : Option ℕ) → number_in (asked_name c) world ≡ o → ((h : ℕ) → o ≡ None → ⊥)
      → ((h : ℕ) → HostActsShape c lines shapes (n h ∷ []) → FreeShape c lines shapes (n h ∷ []))
      → ((h : ℕ) (f : HostShape) → ActsShape c h f lines shapes (n h ∷ [])) → ((h : ℕ) → Pairs HostShaped (changed_at h g world.hosts) (shapes_after shapes (n h)))
      → refusal_told c lines shapes ≡ None → HasShape c lines world (with_host o g n world)
  hosted c g n None number none free acts pairs told = absurd (none 0 refl)
  hosted c g n (Some h) number none free acts pairs told =
      let at_number : number_of (asked_name c) (shown_shapes lines shapes) ≡ Some h = sym (number_shaped lines world is (asked_name c)) ∙ number in
      record {
        notes = n h ∷ [];
        joined = refl;
        shape = freed c (n h ∷ []) told
            (free h (subst (λ (o : Option ℕ). AtShape o shapes (λ k f. ActsShape c k f lines shapes (n h ∷ []))) (sym at_number)
            (named_here (asked_name c) (λ f. ActsShape c h f lines shapes (n h ∷ [])) (acts h) shapes 0 h (at_number ∙ ap Some (omega arith)))));
        shaped = added (changed_at h g world.hosts) (n h) (pairs h);
      }

  told_of : (c : Call) → IsNoMake c → refusal_told c lines shapes ≡ refusal_in c world lines
  told_of (call.Makes name request) other = absurd other
  told_of e other = sym (refusal_shaped lines world is e tt)

  -- an undeclared host is refused
  no_host : (name : List ℕ) (f : ℕ → Option Refusal) → on_host (number_of name (shown_state world lines)) f ≡ None → number_in name world ≡ None → ⊥
  no_host name f free none = absurd (let some : on_host (number_of name (shown_state world lines)) f ≡ Some why.NoHost = ap (λ (o : Option ℕ). on_host o f) none in let both = sym free ∙ some in cc)

  acted_shape : (c : Call) → TakesNoMedia c lines world → refusal_in c world lines ≡ None → HasShape c lines world (acted_by None c lines world)
  unfolding refusal_of
  acted_shape (call.Declares name uuid) takes free = record {
    notes = note.Host name uuid ∷ [];
    joined = refl;
    shape = freed (call.Declares name uuid) (note.Host name uuid ∷ []) (told_of (call.Declares name uuid) tt ∙ free) refl;
    shaped = added _ (note.Host name uuid) (pairs_last HostShaped world.hosts shapes _ _ is record { name = refl; uuid = refl; task = tt; keeps = refl });
  }
  acted_shape (call.Begins name cmd) takes free =
      hosted (call.Begins name cmd) (λ v. record v { task = Some (mounted v.kept cmd v.uuid lines) }) (λ h. note.Start h cmd)
      (number_in name world) refl (λ h none. no_host name _ free none) (λ h x. x) (λ h f. refl)
      (λ h. pairs_any HostShaped _ _ (λ v f at. record { name = at.name; uuid = at.uuid; task = record { cmd = refl; me_is = refl; stage = refl }; keeps = at.keeps }) h world.hosts shapes is)
      (told_of (call.Begins name cmd) tt ∙ free)
  acted_shape (call.Stops name) takes free =
      hosted (call.Stops name) (λ v. record v { task = None }) note.Stop (number_in name world) refl (λ h none. no_host name _ free none) (λ h x. x) (λ h f. refl)
      (λ h. pairs_any HostShaped _ _ (λ v f at. record { name = at.name; uuid = at.uuid; task = tt; keeps = at.keeps }) h world.hosts shapes is)
      (told_of (call.Stops name) tt ∙ free)
  acted_shape (call.Halts name) takes free =
      hosted (call.Halts name) (λ v. record v { cache = finmap.empty; task = None; kept = None }) note.Halt (number_in name world) refl (λ h none. no_host name _ free none) (λ h x. x) (λ h f. refl)
      (λ h. pairs_any HostShaped _ _ (λ v f at. record { name = at.name; uuid = at.uuid; task = tt; keeps = refl }) h world.hosts shapes is)
      (told_of (call.Halts name) tt ∙ free)
  acted_shape (call.Umounts name) takes free =
      hosted (call.Umounts name) (λ v. record v { kept = None }) note.Umount (number_in name world) refl (λ h none. no_host name _ free none) (λ h x. x) (λ h f. refl)
      (λ h. pairs_any HostShaped _ _ (λ v f at. record { name = at.name; uuid = at.uuid; task = at.task; keeps = refl }) h world.hosts shapes is)
      (told_of (call.Umounts name) tt ∙ free)
  acted_shape (call.Refuses name cause) takes free = record {
    notes = Refused name cause ∷ [];
    joined = refl;
    shape = freed (call.Refuses name cause) (Refused name cause ∷ []) (told_of (call.Refuses name cause) tt ∙ free) (refl, by_takes takes);
    shaped = added world.hosts (Refused name cause) is;
  }
    where
      by_takes : call.IsOfSource cause ⊎ ((cmd : Cmd) × (refusal_in (call.Begins name cmd) world lines ≡ Some cause))
          → call.IsOfSource cause ⊎ ((mount : Bool) × (call.may_begin name mount (shown_shapes lines shapes) ≡ Some cause))
      by_takes (inl x) = inl x
      by_takes (inr x) = inr (is_mount x.0, sym (refusal_shaped lines world is (call.Begins name x.0) tt) ∙ x.1)
  acted_shape e takes free = absurd takes

  no_make : (c : Call) → TakesNoMedia c lines world → IsNoMake c
  no_make (call.Makes name request) takes = takes
  no_make e takes = tt

  pub solo_shape : (c : Call) → TakesNoMedia c lines world → HasShape c lines world (world_after c lines world)
  solo_shape c takes = by_refusal (refusal_in c world lines) refl
    where
      by_refusal : (o : Option Refusal) → refusal_in c world lines ≡ o → HasShape c lines world (acted_by o c lines world)
      by_refusal (Some cause) e = refused c (Some cause) cause (told_of c (no_make c takes) ∙ e)
      by_refusal None e = acted_shape c takes e
