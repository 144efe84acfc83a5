-- A copy that was cut at any of its writes.
use Rattle.std.proofs.Common.{◌≡◌, ℕ, ◌*◌, ◌<◌, ◌≤◌, List, ◌∷◌, ◌++◌, length, Option, Some, sym, ap, subst, ◌∙◌, inl, inr, arith}
use Rattle.std.specs.Prelude.{◌≢◌, ◌⊎◌}
use Rattle.std.proofs.lemmas.Option.{same_Some}
use Rattle.fam_base.specs.declared.entry.Params.{Params}
use Rattle.fam_base.specs.declared.entry.Entry.{Entry}
use Rattle.fam_base.specs.Image.{Image, line_at, masked, with_masked}
use Rattle.fam_base.proofs.ImageLemmas.{line_at-with_line_other, with_masked-with_line}
use Rattle.fam_format.specs.Params.{SoundParams}
use Rattle.fam_format.specs.Reading.{reading}
use Rattle.fam_plan.specs.State.{IsHistory}
use Rattle.fam_rules.specs.Place.{line_bytes}
use Rattle.fam_rules.specs.Written.{Put, put_lines}
use Rattle.fam_rules.proofs.CutPuts.{IsPutInPart, Left, cut_left}
use Rattle.fam_rules.proofs.Puts.{AreElsewhere, elsewhere-left, elsewhere-right, put_elsewhere}
use Rattle.fam_dup.specs.Copies.{AreCopies}
use Rattle.fam_dup.specs.Ends.{IsCopied, IsOldOrNone}
use Rattle.fam_dup.specs.Lines.{LinesPartlyPut, IsOffCopy, IsPartlyPut, body_puts, copy_puts}
use Rattle.fam_dup.proofs.Whole.{body_off, enough, off_all, whole_copy}

module _ (q : Params) (es cs : List Entry) (from to : Image) (sound : SoundParams q) (fits : q.device ≤ line_bytes * length to)
    (history : IsHistory (record { params = q; entries = cs })) (copies : AreCopies es cs) where
  some : 0 < length to
  some = omega (arith, enough q es cs from to sound fits history copies)

  -- a put that was cut, of images
  in_part : (put : Put) (before new : Image) → IsPartlyPut put (Some before) (Some new) → IsPutInPart put before new
  in_part put before new (inl same) = inl (same_Some new before same)
  in_part put before new (inr torn) = inr (torn.mask, same_Some new (with_masked put.0 put.1 torn.mask before) torn.written)

  -- old, none or whole
  by_left : (new : Image) → Left (body_puts (line_at from) q es cs) to some (body_off q es cs from to sound fits history copies) new
      → IsOldOrNone (reading to) (reading new) ⊎ IsCopied from to new q es cs
  by_left new (inl same) = inl (inl same)
  by_left new (inr (inl none)) = inl (inr none)
  by_left new (inr (inr made)) =
      inr (subst (λ (i : Image). IsCopied from to i q es cs) (sym made) (whole_copy q es cs from to sound fits history copies))

  pub cut_reads : (new : Image) → LinesPartlyPut (copy_puts (line_at from) q es cs) (Some to) (Some new) → IsOldOrNone (reading to) (reading new) ⊎ IsCopied from to new q es cs
  cut_reads new cut =
      by_left new
      (cut_left (body_puts (line_at from) q es cs) to some (body_off q es cs from to sound fits history copies) cut.done cut.put cut.rest new cut.parts
      (in_part cut.put (put_lines cut.done to) new cut.cut))

  -- of one line
  part_others : (put : Put) (before new : Image) (l : ℕ) → l ≢ put.0 → IsPartlyPut put (Some before) (Some new) → line_at new l ≡ line_at before l
  part_others put before new l other (inl same) = ap (λ (i : Image). line_at i l) (same_Some new before same)
  part_others put before new l other (inr torn) =
      ap (λ (i : Image). line_at i l) (same_Some new (with_masked put.0 put.1 torn.mask before) torn.written ∙ with_masked-with_line before put.0 put.1 torn.mask)
      ∙ line_at-with_line_other before put.0 (masked torn.mask put.1 (line_at before put.0)) l other

  -- lines that hold no part of the copy are as before
  pub cut_others : (new : Image) → LinesPartlyPut (copy_puts (line_at from) q es cs) (Some to) (Some new) → (l : ℕ) → IsOffCopy q cs l → line_at new l ≡ line_at to l
  cut_others new cut l away =
      let all : AreElsewhere l (cut.done ++ cut.put ∷ cut.rest) = subst (AreElsewhere l) cut.parts (off_all q es cs from to sound fits history copies l away) in
      part_others cut.put (put_lines cut.done to) new l (elsewhere-right l cut.done (cut.put ∷ cut.rest) all).0 cut.cut
      ∙ put_elsewhere cut.done to l (elsewhere-left l cut.done (cut.put ∷ cut.rest) all)

part_some : (put : Put) (before : Image) (new : Option Image) → IsPartlyPut put (Some before) new → (after : Image) × (new ≡ Some after)
part_some put before new (inl same) = (before, same)
part_some put before new (inr torn) = (with_masked put.0 put.1 torn.mask before, torn.written)

-- a modelled image is modelled behind a cut
pub cut_some : (puts : List Put) (to : Image) (new : Option Image) → LinesPartlyPut puts (Some to) new → (after : Image) × (new ≡ Some after)
cut_some puts to new cut = part_some cut.put (put_lines cut.done to) new cut.cut
