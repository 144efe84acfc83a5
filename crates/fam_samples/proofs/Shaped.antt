-- Host m alone is declared, and has no task: so its journal tells, and what a mkfs adds has its shape.
use Rattle.std.proofs.Common.{◌≡◌, inl, inr, ℕ, ◌*◌, ◌≤◌, Bool, true, false, List, [], ◌∷◌, ◌++◌, length, Option, Some, None, refl, ap, ap₂, sym, ◌∙◌, subst, arith}
use Rattle.std.specs.Prelude.{codes, nat_lt, option_map, if◌then◌else◌}
use Rattle.std.proofs.lemmas.Bool.Decides.{nat_tests}
use Rattle.std.proofs.lemmas.List.{length-replicate}
use Rattle.fam_machine.specs.MkfsRequest.{mkfs_request}
use Rattle.fam_format.specs.Params.{need}
use Rattle.fam_format.specs.Stop.{or_else}
use Rattle.fam_machine.specs.Caches.{Cache}
use Rattle.fam_machine.specs.Mkfs.{TooSmall, asked}
use Rattle.fam_rules.specs.Place.{line_bytes}
use Rattle.fam_journal.specs.declared.refusal.Refusal.{Refusal}
use Rattle.fam_journal.specs.declared.refusal.Refusal.TheVariants as why
use Rattle.fam_journal.specs.Calls.{Call, Makes, cause_of}
use Rattle.fam_journal.specs.CallRecords.{CallShape}
use Rattle.fam_journal.specs.Shapes.{BreaksShape, DoesShape, ShapeByRefusal, FreeShape, HostShape, HostShaped, IsShaped, Pairs, TaskShape, TaskShaped, shapes_after, shapes_of, refusal_told, shown_shapes}
use Rattle.fam_journal.specs.Notes.{Note, Made, Refused}
use Rattle.fam_journal.proofs.Shapes.Operations.{shapes_both}
use Rattle.fam_samples.specs.Bodies.{world_host, world_m}

abbrev pub shape_m : List ℕ → HostShape
shape_m me = record { name = codes "m"; uuid = me; task = None; keeps = false }

no_task : (me : List ℕ) (o : Option TaskShape) → TaskShaped me None o → o ≡ None
no_task me None is = refl
no_task me (Some t) is = absurd is

one_shape : (me : List ℕ) (cache : Cache) (shapes : List HostShape) → Pairs HostShaped (world_host me cache None ∷ []) shapes → shapes ≡ shape_m me ∷ []
one_shape me cache [] all = absurd all
one_shape me cache (f ∷ g ∷ shapes) all = absurd all.1
one_shape me cache (f ∷ []) all =
    ap (λ (z : HostShape). z ∷ [])
    (ap₂ (λ (n u : List ℕ). record { name = n; uuid = u; task = f.task; keeps = f.keeps }) all.0.name all.0.uuid
    ∙ ap₂ (λ (o : Option TaskShape) (k : Bool). record { name = codes "m"; uuid = me; task = o; keeps = k }) (no_task me f.task all.0.task) all.0.keeps)

module _ (me : List ℕ) (journal : List Note) (cache now : Cache) (is : IsShaped (world_m me cache None journal)) where
  told_m : shapes_of journal ≡ shape_m me ∷ []
  told_m = one_shape me cache (shapes_of journal) is

  -- so it is behind a note that changes no host
  pub shaped_m : (note : Note) → shapes_after (shapes_of journal) note ≡ shapes_of journal → IsShaped (world_m me now None (journal ++ note ∷ []))
  shaped_m note same =
      subst (λ (z : List HostShape). Pairs HostShaped (world_host me now None ∷ []) z) (sym (shapes_both [] journal (note ∷ []) ∙ same ∙ told_m))
      (record { name = refl; uuid = refl; task = tt; keeps = refl }, tt)

  module _ (fs : List ℕ) (lines : ℕ) (enough : need 65536 4096 ≤ line_bytes * lines) where
    abbrev call : Call
    call = Makes (codes "m") (mkfs_request fs 4096 65536 1 true None)

    not_small : (n : ℕ) → n ≡ lines → nat_lt (line_bytes * n) (need 65536 4096) ≡ false
    not_small n is = grind (arith, nat_tests, is, enough)

    free_m : refusal_told call lines (shape_m me ∷ []) ≡ None
    free_m = ap (λ (t : Bool). or_else
        (option_map cause_of (if t then Some (TooSmall (need 65536 4096) (line_bytes * length (shown_shapes lines (shape_m me ∷ [])).memory)) else
        None)) None) (not_small (length (shown_shapes lines (shape_m me ∷ [])).memory) (length-replicate lines []))

    made_one : DoesShape call lines (shape_m me ∷ []) (Made 0 (asked (mkfs_request fs 4096 65536 1 true None) me lines) ∷ [])
    made_one =
        subst (λ (o : Option Refusal). ShapeByRefusal (codes "m") o (Made 0 (asked (mkfs_request fs 4096 65536 1 true None) me lines) ∷ [])
        (FreeShape call lines (shape_m me ∷ []) (Made 0 (asked (mkfs_request fs 4096 65536 1 true None) me lines) ∷ []))) (sym free_m)
        (inl (inl refl))

    -- what it adds, and what it adds where a media fault cuts it
    pub made_shape : CallShape call lines (shapes_of journal) (Made 0 (asked (mkfs_request fs 4096 65536 1 true None) me lines) ∷ [])
    made_shape = inl (subst (λ (z : List HostShape). DoesShape call lines z (Made 0 (asked (mkfs_request fs 4096 65536 1 true None) me lines) ∷ [])) (sym told_m) made_one)

    pub cut_shape : (line : ℕ) → CallShape call lines (shapes_of journal) (Refused (codes "m") (why.MediaFault (record { 0 = line })) ∷ [])
    cut_shape line =
        inr (subst (λ (z : List HostShape). BreaksShape call lines z (Refused (codes "m") (why.MediaFault (record { 0 = line })) ∷ [])) (sym told_m) (free_m, (line, refl)))
