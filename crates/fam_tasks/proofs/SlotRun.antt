-- Lines of a slot, one behind another: each is dropped, and its words are loaded.
use Rattle.std.proofs.Common.{ℕ, zero, suc, ◌≡◌, ◌+◌, ◌*◌, ◌<◌, ◌≤◌, List, ◌++◌, length, length-append, nat_lt, cond, refl, sym, ap, ap₂, subst, ◌∙◌, arith}
use Rattle.std.proofs.lemmas.Bool.{lt-ltb}
use Rattle.std.proofs.lemmas.List.{append_assoc, append-nil}
use Rattle.fam_base.specs.Image.{line_at}
use Rattle.fam_format.specs.Layout.{geometry, slot_line}
use Rattle.fam_format.proofs.Formats.{IsShape, shape}
use Rattle.fam_machine.specs.Operations.{line_no}
use Rattle.fam_commands.specs.declared.phase.Part.TheVariants.{Slot}
use Rattle.fam_commands.specs.declared.phase.Phase.{Phase}
use Rattle.fam_commands.specs.declared.phase.Phase.TheVariants as at
use Rattle.fam_commands.specs.Task.{Task}
use Rattle.fam_tasks.specs.SlotLines.{IsSlotLine, LoadsSlotLine, LoadsSlotLines, none, more, words_in}
use Rattle.fam_tasks.specs.Sound.{IsLine, IsSound, IsSoundAt}
use Rattle.fam_tasks.proofs.Phases.{same_gate, slots_within}
use Rattle.fam_tasks.proofs.SlotLine.{slot_line_loaded}
use Rattle.fam_tasks.proofs.Slots.{slot_within}

-- so many words
pub words_count : (lines : List (List ℕ)) (n : ℕ) → length (words_in lines n) ≡ 8 * n
words_count lines zero = refl
words_count lines (suc n) = length-append (words_in lines n) (line_at lines n) ∙ omega (arith, words_count lines n)

module _ (t : Task) (slot first : ℕ) (lines : List (List ℕ)) (sound : IsSound t) (phase : t.phase ≡ at.Drop (Slot slot) 0) (is : first ≡ slot_line t.params slot 0) where
  stands : IsSoundAt (at.Drop (Slot slot) 0) t
  stands = subst (λ (p : Phase). IsSoundAt p t) phase sound.stands

  -- behind the first n lines
  abbrev phase_behind : ℕ → Phase
  phase_behind n = cond (nat_lt n (geometry t.params).lines) (at.Drop (Slot slot) n) (at.Check slot)

  abbrev mid : ℕ → Task
  mid n = record t { words = t.words ++ words_in lines n; phase = at.Drop (Slot slot) n }

  pub goes_on : (n : ℕ) → n < (geometry t.params).lines → phase_behind n ≡ at.Drop (Slot slot) n
  goes_on n below = rw (lt-ltb n (geometry t.params).lines below) refl

  mid_line : (n : ℕ) → n < (geometry t.params).lines → IsLine (Slot slot) n (mid n)
  mid_line n below = (same_gate t (mid n) refl refl refl stands.0.line.0, stands.0.line.1, below)

  mid_sound : (n : ℕ) → n < (geometry t.params).lines → IsSound (mid n)
  mid_sound n below =
      let is_shape : IsShape (geometry t.params) = shape t.params in
      record {
        command = sound.command;
        least = sound.least;
        most = sound.most;
        stands = (
          record { line = mid_line n below; few = omega (arith, below, is_shape.lines) },
          omega (arith, stands.1, length-append t.words (words_in lines n), words_count lines n),
        );
        kept = sound.kept;
      }

  mid_here : (n : ℕ) → n < (geometry t.params).lines → IsSlotLine (line_no (first + n)) (mid n)
  mid_here n below = record {
    slot = slot;
    j = n;
    phase = refl;
    is = omega (arith, is);
    within = omega (arith, is, slot_within t slot n stands.0.line.0.super (omega (arith, stands.0.line.1, slots_within t.cmd t.params t.gate stands.0.line.0.gate)) below);
  }

  -- one more line
  line_more : (n : ℕ) → n < (geometry t.params).lines → (next : Task)
      → next ≡ record t { words = t.words ++ words_in lines (suc n); phase = phase_behind (suc n) }
      → LoadsSlotLine (line_no (first + n)) (line_at lines n) (mid n) next
  line_more n below next same =
      let number : suc n ≡ n + 1 = omega arith in
      slot_line_loaded (line_no (first + n)) (line_at lines n) slot n (mid n) (mid_sound n below) refl (mid_here n below) next
      (same ∙ ap₂ (λ (words : List ℕ) (p : Phase). record t { words = words; phase = p }) (sym (append_assoc t.words (words_in lines n) (line_at lines n))) (ap phase_behind number))

  pub slot_lines_loaded : (n : ℕ) → n ≤ (geometry t.params).lines → (next : Task)
      → next ≡ record t { words = t.words ++ words_in lines n; phase = phase_behind n } → LoadsSlotLines first lines t next n
  slot_lines_loaded zero few next same =
      let back : next ≡ t = same ∙ ap₂ (λ (words : List ℕ) (p : Phase). record t { words = words; phase = p }) (append-nil t.words) (goes_on 0 (omega (arith, stands.0.line.2)) ∙ sym phase) in
      subst (λ (task : Task). LoadsSlotLines first lines t task 0) (sym back) none
  slot_lines_loaded (suc n) few next same =
      more (slot_lines_loaded n (omega (arith, few)) (mid n) (ap (λ (p : Phase). record t { words = t.words ++ words_in lines n; phase = p }) (sym (goes_on n (omega (arith, few))))))
      (mid_sound n (omega (arith, few))) (line_more n (omega (arith, few)) next same)
