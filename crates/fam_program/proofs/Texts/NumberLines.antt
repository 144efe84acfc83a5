-- Lines of words and one number, and the last note whose line is one.
use Rattle.std.proofs.Common.{◌≡◌, ℕ, ◌+◌, ◌-◌, ◌≤◌, Bool, false, List, [], ◌∷◌, ◌++◌, length, take, drop, Option, Some, None, refl, ap, sym, ◌∙◌, arith}
use Rattle.std.specs.Prelude.{IfSome}
use Rattle.std.proofs.lemmas.List.{drop-drop, drop_at, length-take-le}
use borrow.Rule.Slice.PartMut.{post_of, put_mid}
use Rattle.fam_journal.specs.Notes.{Note}
use Rattle.fam_outcomes.specs.Programs.{last_passes}
use Rattle.fam_outcomes.specs.Texts.{names_behind, note_text, shown}
use Rattle.fam_notes.specs.declared.note.Note.{Note as Kept}
use Rattle.fam_script.proofs.Printing.{shown_is}
use Rattle.fam_notes.specs.Notes.{note_view, notes_view}
use Rattle.fam_program.specs.declared.numbers.NumberLine.{NumberLine}
use Rattle.fam_program.specs.Shots.{is_short, number_text}

-- words that are written before a tail
pub placed : (words tail xs : List ℕ) (start digits : ℕ) → digits ≤ length xs → start + length words ≡ digits → drop digits xs ≡ tail
    → drop start (put_mid start (digits - start) xs words) ≡ words ++ tail
placed words tail xs start digits within sum is =
    drop_at (take start xs) (words ++ post_of start (digits - start) xs) start (length-take-le start xs (omega arith))
    ∙ ap (λ (ys : List ℕ). words ++ ys) (drop-drop (digits - start) start xs ∙ ap (λ (n : ℕ). drop n xs) (omega arith) ∙ is)

-- The last note.

last_view : (test : Note → Bool) (front : List Kept) (last : Kept) → last_passes test (notes_view (front ++ last ∷ [])) ≡ test (note_view last)
last_view test [] last = refl
last_view test (note ∷ []) last = refl
last_view test (note ∷ next ∷ front) last = last_view test (next ∷ front) last

module _ (front : List Kept) (last : Kept) (notes : List Kept) (is : notes ≡ front ++ last ∷ []) where
  pub last_text : (r : Option NumberLine) → ((names : List (List ℕ)) → IfSome r (λ short. note_text names (note_view last) ≡ number_text short))
      → IfSome r (λ short. shown (notes_view notes) ≡ number_text short)
  last_text None text = tt
  last_text (Some short) text =
      ap (λ (ns : List Kept). shown (notes_view ns)) is ∙ sym (shown_is front last) ∙ text (names_behind [] (notes_view front))

  pub last_long : is_short (note_view last) ≡ false → last_passes is_short (notes_view notes) ≡ false
  last_long long = ap (λ (ns : List Kept). last_passes is_short (notes_view ns)) is ∙ last_view is_short front last ∙ long

-- where there is none
pub none_long : (notes : List Kept) → length notes ≡ 0 → last_passes is_short (notes_view notes) ≡ false
none_long [] none = refl
none_long (note ∷ notes) none = absurd (omega (arith, none))
