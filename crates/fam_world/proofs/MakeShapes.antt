-- The shape of what a mkfs adds, by what the journal tells of the hosts.
use Rattle.std.proofs.Common.{◌≡◌, ℕ, ◌+◌, ◌*◌, ◌<◌, inl, inr, List, [], ◌∷◌, length, map, Option, Some, None, refl, ap, sym, ◌∙◌, subst, arith}
use Rattle.std.specs.Prelude.{slice_get, option_map}
use Rattle.std.proofs.lemmas.List.{length-map}
use Rattle.std.proofs.lemmas.Option.{same_Some}
use Rattle.fam_machine.specs.declared.request.MkfsRequest.{MkfsRequest}
use Rattle.fam_format.specs.Stop.{or_else}
use Rattle.fam_rules.specs.Place.{line_bytes}
use Rattle.fam_machine.specs.Mkfs.{early_refusal}
use Rattle.fam_journal.specs.declared.refusal.Refusal.{Refusal}
use Rattle.fam_journal.specs.declared.refusal.Refusal.TheVariants as why
use Rattle.fam_journal.specs.Calls as call
use Rattle.fam_journal.specs.Calls.{busy_refusal, cause_of, dirty_from, dirty_refusal, is_engaged, number_of, on_host, refusal_of}
use Rattle.fam_journal.specs.CallRecords.{CallShape}
use Rattle.fam_journal.specs.Shapes.{ActsShape, AtShape, ShapeByRefusal, FreeShape, HostShape, HostShaped, IsShaped, OfHostShape, shapes_of, makes_told, refusal_told, shown_shapes}
use Rattle.fam_journal.specs.Members.{index_of}
use Rattle.fam_journal.specs.Notes.{Note, Refused}
use Rattle.fam_journal.specs.View.{HostView, WorldView}
use Rattle.fam_journal.specs.ByWorld.{number_in, refusal_in, shown_host, shown_state}
use Rattle.fam_journal.proofs.Faces.{engaged_place}
use Rattle.fam_journal.proofs.Shapes.Pairs.{dirty_other, pairs_at, pairs_length}
use Rattle.fam_journal.proofs.Shapes.Views.{number_shaped, views_look}

module _ (name : List ℕ) (request : MkfsRequest) (lines : ℕ) (world : WorldView) (is : IsShaped world) where
  abbrev c : call.Call
  c = call.Makes name request

  abbrev shapes : List HostShape
  shapes = shapes_of world.journal

  abbrev early : Option Refusal
  early = option_map cause_of (early_refusal request.unit request.log (line_bytes * length (shown_state world lines).memory))

  abbrev busy : Option Refusal
  busy = busy_refusal (index_of is_engaged (map shown_host world.hosts))

  told_number : number_of name (shown_shapes lines shapes) ≡ number_in name world
  told_number = sym (number_shaped lines world is name)

  told_busy : busy_refusal (index_of is_engaged (shown_shapes lines shapes).hosts) ≡ busy
  told_busy = ap busy_refusal (sym (engaged_place (shown_state world lines) (shown_shapes lines shapes) (views_look world.hosts shapes is)))

  -- what the journal tells, by the world's parts
  told_by : refusal_told c lines shapes ≡ on_host (number_in name world) (λ h. or_else early busy)
  told_by = ap (λ (o : Option ℕ). on_host o (λ h. makes_told request.unit request.log (shown_shapes lines shapes))) told_number
      ∙ ap (λ (b : Option Refusal). on_host (number_in name world) (λ h. or_else early b)) told_busy

  world_by : refusal_in c world lines ≡ on_host (number_in name world) (λ h. or_else early (or_else busy (dirty_refusal (dirty_from h 0 (map shown_host world.hosts)))))
  unfolding refusal_of
  world_by = refl

  -- where the world refuses nothing, the journal tells of no refusal
  free_parts : (o : Option ℕ) (e b : Option Refusal) (d : ℕ → Option Refusal) → on_host o (λ h. or_else e (or_else b (d h))) ≡ None → on_host o (λ h. or_else e b) ≡ None
  free_parts None e b d none = absurd cc
  free_parts (Some h) (Some x) b d none = absurd cc
  free_parts (Some h) None (Some x) d none = absurd cc
  free_parts (Some h) None None d none = refl

  pub told_free : refusal_in c world lines ≡ None → refusal_told c lines shapes ≡ None
  told_free free = told_by ∙ free_parts (number_in name world) early busy (λ h. dirty_refusal (dirty_from h 0 (map shown_host world.hosts))) (sym world_by ∙ free)

  -- of the maker
  pub maker_shape : (at : ℕ) (view : HostView) → number_in name world ≡ Some at → slice_get world.hosts at ≡ Some view → refusal_in c world lines ≡ None → (notes : List Note)
      → ((f : HostShape) → f.uuid ≡ view.uuid → ActsShape c at f lines shapes notes) → CallShape c lines shapes notes
  maker_shape at view number view_is free notes each =
      let found = pairs_at HostShaped world.hosts shapes at view is view_is in
      inl (subst (λ (r : Option Refusal). ShapeByRefusal name r notes (FreeShape c lines shapes notes)) (sym (told_free free))
      (inl
      (subst (λ (o : Option ℕ). AtShape o shapes (λ h f. ActsShape c h f lines shapes notes)) (sym (told_number ∙ number))
      (subst (λ (o : Option HostShape). OfHostShape o (λ f. ActsShape c at f lines shapes notes)) (sym found.1) (each found.0 found.2.uuid)))))

  -- where a media fault cuts it
  pub fault_shape : refusal_in c world lines ≡ None → (line : ℕ) → CallShape c lines shapes (Refused name (why.MediaFault (record { 0 = line })) ∷ [])
  fault_shape free line = inr (told_free free, (line, refl))

  -- a refusal at once: the journal doesn't tell whose lines are dirty
  module _ (cause : Refusal) where
    abbrev notes : List Note
    notes = Refused name cause ∷ []

    by_dirty : (h : ℕ) → number_in name world ≡ Some h → (o : Option ℕ) → dirty_from h 0 (map shown_host world.hosts) ≡ o → dirty_refusal o ≡ Some cause → FreeShape c lines shapes notes
    by_dirty h number None e first = absurd cc
    by_dirty h number (Some k) e first =
        let other = dirty_other h 0 (map shown_host world.hosts) k e in
        let below : k < 0 + length (map shown_host world.hosts) = other.1 in
        let count : length (map shown_host world.hosts) ≡ length world.hosts = length-map world.hosts shown_host in
        let same : length world.hosts ≡ length shapes = pairs_length HostShaped world.hosts shapes is in
        inr record {
          maker = h;
          number = told_number ∙ number;
          dirty = k;
          declared = omega (arith, below, count, same);
          other = other.0;
          notes_are = ap (λ (x : Refusal). Refused name x ∷ []) (sym (same_Some (why.Dirty (record { 0 = k })) cause first));
        }

    by_parts : (o : Option ℕ) → number_in name world ≡ o → (e b : Option Refusal)
        → on_host o (λ h. or_else e (or_else b (dirty_refusal (dirty_from h 0 (map shown_host world.hosts))))) ≡ Some cause
        → ShapeByRefusal name (on_host o (λ h. or_else e b)) notes (FreeShape c lines shapes notes)
    by_parts None number e b first = ap (λ (x : Refusal). Refused name x ∷ []) (sym (same_Some why.NoHost cause first))
    by_parts (Some h) number (Some x) b first = ap (λ (y : Refusal). Refused name y ∷ []) (sym (same_Some x cause first))
    by_parts (Some h) number None (Some x) first = ap (λ (y : Refusal). Refused name y ∷ []) (sym (same_Some x cause first))
    by_parts (Some h) number None None first = by_dirty h number (dirty_from h 0 (map shown_host world.hosts)) refl first

    pub refused_make : refusal_in c world lines ≡ Some cause → CallShape c lines shapes notes
    refused_make first =
        inl (subst (λ (r : Option Refusal). ShapeByRefusal name r notes (FreeShape c lines shapes notes)) (sym told_by) (by_parts (number_in name world) refl early busy (sym world_by ∙ first)))
