-- What a call promises on every media, from its parts.
use Rattle.std.proofs.Common.{◌≡◌, ℕ, ◌≤◌, inl, List, [], ◌∷◌, ◌++◌, length, map, Option, Some, None, refl, ap, sym, ◌∙◌, subst, arith}
use Rattle.std.specs.Prelude.{slice_get}
use Rattle.std.proofs.lemmas.Option.{same_Some}
use Rattle.fam_journal.specs.declared.refusal.Refusal.{Refusal}
use Rattle.fam_journal.specs.Calls as call
use Rattle.fam_journal.specs.Calls.{Call, asked_name}
use Rattle.fam_journal.specs.CallRecords.{Answers, CallShape, FitsMedia, IsLate, heading, refusal_noted}
use Rattle.fam_journal.specs.Ends.{HasCounted}
use Rattle.fam_journal.specs.Shapes.{ActsShape, AtShape, ShapeByRefusal, FreeShape, HostActsShape, HostShape, HostShaped, IsShaped, OfHostShape, Pairs, shapes_behind, shapes_of, refusal_told}
use Rattle.fam_journal.specs.Names.{AreNamed, NamesCause}
use Rattle.fam_journal.specs.Notes.{Note, Refused}
use Rattle.fam_journal.specs.View.{HostView, WorldView}
use Rattle.fam_journal.specs.ByWorld.{number_in, refusal_in}
use Rattle.fam_journal.proofs.Shapes.Operations.{shapes_both}
use Rattle.fam_journal.proofs.Faces.{IsNoMake}
use Rattle.fam_journal.proofs.Shapes.Pairs.{pairs_at}
use Rattle.fam_journal.proofs.Shapes.Views.{number_shaped, refusal_shaped}
use Rattle.fam_world.specs.Answers.{IsRefused}

-- notes that change nothing of what is told of hosts
pub shaped_same : (old new : WorldView) (notes : List Note) → shapes_behind (shapes_of old.journal) notes ≡ shapes_of old.journal → new.journal ≡ old.journal ++ notes
    → ((shapes : List HostShape) → Pairs HostShaped old.hosts shapes → Pairs HostShaped new.hosts shapes) → IsShaped old → IsShaped new
shaped_same old new notes same journal hosts is =
    subst (λ (shapes : List HostShape). Pairs HostShaped new.hosts shapes) (sym (ap shapes_of journal ∙ shapes_both [] old.journal notes ∙ same)) (hosts (shapes_of old.journal) is)

-- the journal tells the first refusal that the world has
told_of : (c : Call) (lines : ℕ) (world : WorldView) → IsNoMake c → IsShaped world → refusal_told c lines (shapes_of world.journal) ≡ refusal_in c world lines
told_of (call.Makes name request) lines world other is = absurd other
told_of rest lines world other is = sym (refusal_shaped lines world is rest tt)

-- the shape of a refusal
pub refused_shape : (c : Call) (lines : ℕ) (world : WorldView) → IsNoMake c → (cause : Refusal) → refusal_in c world lines ≡ Some cause
    → IsShaped world → CallShape c lines (shapes_of world.journal) (Refused (asked_name c) cause ∷ [])
refused_shape c lines world other cause first is =
    let notes : List Note = Refused (asked_name c) cause ∷ [] in
    inl (subst (λ (r : Option Refusal). ShapeByRefusal (asked_name c) r notes (FreeShape c lines (shapes_of world.journal) notes)) (sym (told_of c lines world other is ∙ first)) refl)

-- the shape of what is done at a declared host
pub hosted_shape : (c : Call) (lines : ℕ) (world : WorldView) → IsNoMake c → (at : ℕ) (view : HostView) → number_in (asked_name c) world ≡ Some at
    → slice_get world.hosts at ≡ Some view → refusal_in c world lines ≡ None → (notes : List Note)
    → ((f : HostShape) → ActsShape c at f lines (shapes_of world.journal) notes)
    → (HostActsShape c lines (shapes_of world.journal) notes → FreeShape c lines (shapes_of world.journal) notes) → IsShaped world
    → CallShape c lines (shapes_of world.journal) notes
hosted_shape c lines world other at view number view_is free notes each hosted is =
    let shapes : List HostShape = shapes_of world.journal in
    let found = pairs_at HostShaped world.hosts shapes at view is view_is in
    inl (subst (λ (r : Option Refusal). ShapeByRefusal (asked_name c) r notes (FreeShape c lines shapes notes)) (sym (told_of c lines world other is ∙ free))
    (hosted
    (subst (λ (o : Option ℕ). AtShape o shapes (λ h f. ActsShape c h f lines shapes notes)) (sym (sym (number_shaped lines world is (asked_name c)) ∙ number))
    (subst (λ (o : Option HostShape). OfHostShape o (λ f. ActsShape c at f lines shapes notes)) (sym found.1) (each found.0)))))

-- a call that is refused at once
pub refused_answers : (c : Call) (lines faults : ℕ) (old new : WorldView) (cause : Refusal) → IsRefused c lines old cause → new.hosts ≡ old.hosts
    → new.journal ≡ old.journal ++ Refused (asked_name c) cause ∷ []
    → (IsShaped old → CallShape c lines (shapes_of old.journal) (Refused (asked_name c) cause ∷ [])) → Answers c lines (Some cause) faults faults old new
refused_answers c lines faults old new cause refused hosts journal shape = record {
  adds = record {
    notes = Refused (asked_name c) cause ∷ [];
    joined = journal;
    counted = let none = refused.faultless in omega (arith, none);
    later = omega arith;
    named = (subst (λ (views : List HostView). NamesCause (length views) cause) (sym hosts) refused.named, tt);
    hosts = ap (map heading) hosts;
    fits = λ was. subst (FitsMedia lines) (sym hosts) was;
    shaped = shaped_same old new (Refused (asked_name c) cause ∷ []) refl journal (λ shapes all. subst (λ (views : List HostView). Pairs HostShaped views shapes) (sym hosts) all);
  };
  said = refl;
  refused = λ other is. (ap (λ (k : Refusal). Refused (asked_name c) k ∷ []) (same_Some cause other (sym refused.first ∙ is)), hosts);
  free = λ other none answered. absurd (let some : None ≡ Some cause = sym none ∙ refused.first in cc);
  shape = shape;
}

-- nothing is refused where nothing is
pub not_both : (o : Option Refusal) (cause : Refusal) (P : Type 0) → o ≡ None → o ≡ Some cause → P
not_both o cause P none some = absurd (let same : None ≡ Some cause = sym none ∙ some in cc)

-- a call that isn't
abbrev pub free_answers : (c : Call) (lines before now : ℕ) (answered : Option Refusal) (old new : WorldView) (notes : List Note)
    → new.journal ≡ old.journal ++ notes → HasCounted before now notes → before ≤ now
    → AreNamed (length new.hosts) notes → map heading new.hosts ≡ map heading old.hosts → (FitsMedia lines old.hosts → FitsMedia lines new.hosts) → (IsShaped old → IsShaped new)
    → answered ≡ refusal_noted notes → refusal_in c old lines ≡ None → ((cause : Refusal) → answered ≡ Some cause → IsLate c cause) → (IsShaped old → CallShape c lines (shapes_of old.journal) notes)
    → Answers c lines answered before now old new
free_answers c lines before now answered old new notes joined counted later named hosts fits shaped said free late shape = record {
  adds = record { notes = notes; joined = joined; counted = counted; later = later; named = named; hosts = hosts; fits = fits; shaped = shaped };
  said = said;
  refused = λ cause is. not_both (refusal_in c old lines) cause _ free is;
  free = λ cause none answered. late cause answered;
  shape = shape;
}
