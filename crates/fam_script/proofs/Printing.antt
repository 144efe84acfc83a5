-- Kept notes in print, one after another.
use Rattle.std.proofs.Common.{◌≡◌, ℕ, ◌+◌, ◌<◌, List, [], ◌∷◌, ◌++◌, arith, length, get_or, drop, refl, sym, ap, subst, ◌∙◌, append_assoc, length-append}
use Rattle.std.proofs.lemmas.List.{at_drop_more}
use Rattle.fam_crc.specs.Crc.{crc32}
use Rattle.fam_journal.specs.Names.{NamesHost, NameDeclared, declared_after}
use Rattle.fam_journal.specs.Notes.{Note, Host}
use Rattle.fam_outcomes.specs.Texts.{names_after, names_behind, note_line, note_text, render, render_behind, shown, shown_last}
use Rattle.fam_notes.specs.declared.note.Note.{Note as Kept}
use Rattle.fam_notes.specs.Notes.{note_view, notes_view}

-- a note declares as many hosts as it adds names
length_names : (names : List (List ℕ)) (note : Note) → length (names_after names note) ≡ declared_after (length names) note
length_names names (Host name uuid) = length-append names (name ∷ [])
length_names names other = refl

-- The note at a place, and those behind it.

module _ (notes : List Kept) (i : ℕ) (note : Kept) (below : i < length notes) (is : note ≡ get_or notes i note) where
  one_more : drop i notes ≡ note ∷ drop (i + 1) notes
  one_more = at_drop_more (λ (l : List Kept). l) notes i note below ∙ ap (λ (x : Kept). x ∷ drop (i + 1) notes) (sym is)

  module _ (names : List (List ℕ)) (named : NameDeclared (length names) (notes_view (drop i notes))) where
    parts : NameDeclared (length names) (notes_view (note ∷ drop (i + 1) notes))
    parts = subst (λ (l : List Kept). NameDeclared (length names) (notes_view l)) one_more named

    -- it names a declared host
    pub is_named : NamesHost (length names) (note_view note)
    is_named = parts.0

    -- and so do those behind it
    pub are_named : (new : List (List ℕ)) → new ≡ names_after names (note_view note) → NameDeclared (length new) (notes_view (drop (i + 1) notes))
    are_named new names_are =
        subst (λ (n : ℕ). NameDeclared n (notes_view (drop (i + 1) notes))) (sym (ap length names_are ∙ length_names names (note_view note))) parts.1

  -- its line is put behind those before it
  pub line_put : (names after : List (List ℕ)) (lines line new all : List ℕ) → after ≡ names_after names (note_view note) → line ≡ note_line names (note_view note) → new ≡ lines ++ line
      → lines ++ render_behind names (notes_view (drop i notes)) ≡ all → new ++ render_behind after (notes_view (drop (i + 1) notes)) ≡ all
  line_put names after lines line new all names_are line_is put so_far =
      let rest : List ℕ = render_behind (names_after names (note_view note)) (notes_view (drop (i + 1) notes)) in
      ap (λ (n : List (List ℕ)). new ++ render_behind n (notes_view (drop (i + 1) notes))) names_are
      ∙ ap (λ (l : List ℕ). l ++ rest) (put ∙ ap (λ (l : List ℕ). lines ++ l) line_is)
      ∙ append_assoc lines (note_line names (note_view note)) rest
      ∙ ap (λ (l : List Kept). lines ++ render_behind names (notes_view l)) (sym one_more)
      ∙ so_far

-- no bytes have this checksum
pub crc_of_none : crc32 [] ≡ 0
unfolding crc32
crc_of_none = refl

-- the text of a journal begins with no name
pub render_is : (journal : List Note) → render_behind [] journal ≡ render journal
unfolding render
render_is journal = refl

-- The last note alone.

-- it names a host that is declared before it
pub last_named : (names : List (List ℕ)) (front : List Kept) (last : Kept) → NameDeclared (length names) (notes_view (front ++ last ∷ []))
    → NamesHost (length (names_behind names (notes_view front))) (note_view last)
last_named names [] last named = named.0
last_named names (note ∷ front) last named =
    last_named (names_after names (note_view note)) front last (subst (λ (n : ℕ). NameDeclared n (notes_view (front ++ last ∷ []))) (sym (length_names names (note_view note))) named.1)

-- behind the names that the others declare
last_shown : (names : List (List ℕ)) (front : List Kept) (last : Kept) → shown_last names (notes_view (front ++ last ∷ [])) ≡ note_text (names_behind names (notes_view front)) (note_view last)
last_shown names [] last = refl
last_shown names (note ∷ []) last = refl
last_shown names (note ∷ next ∷ front) last = last_shown (names_after names (note_view note)) (next ∷ front) last

pub shown_is : (front : List Kept) (last : Kept) → note_text (names_behind [] (notes_view front)) (note_view last) ≡ shown (notes_view (front ++ last ∷ []))
unfolding shown
shown_is front last = sym (last_shown [] front last)

-- where there is no note, nothing is shown
pub none_shown : (notes : List Kept) → length notes ≡ 0 → [] ≡ shown (notes_view notes)
unfolding shown
none_shown [] none = refl
none_shown (note ∷ notes) none = absurd (omega (arith, none))
