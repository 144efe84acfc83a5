-- What a history shows.
use Rattle.std.specs.Prelude.{IsTrue}
use Rattle.std.proofs.Common.{◌≡◌, ◌≤◌, inl, inr, List, [], ◌∷◌, ◌++◌, length, map, refl, ap, sym, ◌∙◌, arith}
use Rattle.fam_journal.specs.Notes.{Note}
use Rattle.fam_judge.specs.Alike.{AreAlikeNotes, told_note}
use Rattle.fam_judge.specs.Shows.{ShowsJournal, is_inner}
use Rattle.fam_judge.proofs.Telling.{both, heads, none_is_more, more_is_none, tails}

-- a journal shows itself
pub shows_itself : (journal : List Note) → ShowsJournal journal journal
shows_itself [] = tt
shows_itself (note ∷ notes) = inl (refl, shows_itself notes)

-- a history is no longer than what it shows
pub no_longer : (history journal : List Note) → ShowsJournal history journal → length history ≤ length journal
no_longer [] journal shows = omega arith
no_longer (line ∷ lines) [] shows = absurd shows
no_longer (line ∷ lines) (note ∷ notes) (inl here) = let rest : length lines ≤ length notes = no_longer lines notes here.1 in omega arith
no_longer (line ∷ lines) (note ∷ notes) (inr out) = let rest : length (line ∷ lines) ≤ length notes = no_longer (line ∷ lines) notes out.1 in omega arith

-- one that is as long tells the same
pub whole : (history journal : List Note) → ShowsJournal history journal → length history ≡ length journal → AreAlikeNotes history journal
whole [] [] shows same = refl
whole [] (note ∷ notes) shows same = absurd (omega arith)
whole (line ∷ lines) [] shows same = absurd shows
whole (line ∷ lines) (note ∷ notes) (inl here) same = both here.0 (whole lines notes here.1 (omega arith))
whole (line ∷ lines) (note ∷ notes) (inr out) same =
    let rest : length (line ∷ lines) ≤ length notes = no_longer (line ∷ lines) notes out.1 in absurd (omega arith)

-- a history that tells the same shows the same
pub same_shown : (a b journal : List Note) → AreAlikeNotes a b → ShowsJournal a journal → ShowsJournal b journal
same_shown [] [] journal alike shows = shows
same_shown [] (line ∷ b) journal alike shows = absurd (none_is_more (told_note line) (map told_note b) alike)
same_shown (line ∷ a) [] journal alike shows = absurd (more_is_none (told_note line) (map told_note a) alike)
same_shown (line ∷ a) (other ∷ b) [] alike shows = absurd shows
same_shown (line ∷ a) (other ∷ b) (note ∷ notes) alike (inl here) =
    let one : told_note line ≡ told_note other = heads (told_note line) (told_note other) (map told_note a) (map told_note b) alike in
    let more : AreAlikeNotes a b = tails (told_note line) (told_note other) (map told_note a) (map told_note b) alike in
    inl (sym one ∙ here.0, same_shown a b notes more here.1)
same_shown (line ∷ a) (other ∷ b) (note ∷ notes) alike (inr out) = inr (out.0, same_shown (line ∷ a) (other ∷ b) notes alike out.1)

-- a journal whose first part is shown by a history's first lines, and what is left
pub record Parts (first rest journal : List Note) : Type 0 where
  pub front : List Note
  pub back : List Note
  pub whole : journal ≡ front ++ back
  pub shown : ShowsJournal first front
  pub left : ShowsJournal rest back

-- the first lines show a first part
pub parts : (first rest journal : List Note) → ShowsJournal (first ++ rest) journal → Parts first rest journal
parts [] rest journal shows = record { front = []; back = journal; whole = refl; shown = tt; left = shows }
parts (line ∷ lines) rest [] shows = absurd shows
parts (line ∷ lines) rest (note ∷ notes) (inl here) =
    let more = parts lines rest notes here.1 in
    record { front = note ∷ more.front; back = more.back; whole = ap (λ (l : List Note). note ∷ l) more.whole; shown = inl (here.0, more.shown); left = more.left }
parts (line ∷ lines) rest (note ∷ notes) (inr out) =
    let more = parts (line ∷ lines) rest notes out.1 in
    record { front = note ∷ more.front; back = more.back; whole = ap (λ (l : List Note). note ∷ l) more.whole; shown = inr (out.0, more.shown); left = more.left }

-- a note that a history may leave out is left out
pub skipped : (lines : List Note) (note : Note) (notes : List Note) → IsTrue (is_inner note) → ShowsJournal lines notes → ShowsJournal lines (note ∷ notes)
skipped [] note notes inner shows = (inner, shows)
skipped (line ∷ lines) note notes inner shows = inr (inner, shows)

-- two histories one behind the other show the journals one behind the other
pub shows_both : (a b front back : List Note) → ShowsJournal a front → ShowsJournal b back → ShowsJournal (a ++ b) (front ++ back)
shows_both [] b [] back none more = more
shows_both [] b (note ∷ front) back none more = skipped b note (front ++ back) none.0 (shows_both [] b front back none.1 more)
shows_both (line ∷ a) b [] back shows more = absurd shows
shows_both (line ∷ a) b (note ∷ front) back (inl here) more = inl (here.0, shows_both a b front back here.1 more)
shows_both (line ∷ a) b (note ∷ front) back (inr out) more = inr (out.0, shows_both (line ∷ a) b front back out.1 more)

-- a journal that a history's first line and those behind it show: notes that are left out, the line's own, and what is left
pub record FirstLine (line : Note) (lines journal : List Note) : Type 0 where
  pub out : List Note
  pub note : Note
  pub back : List Note
  pub whole : journal ≡ out ++ note ∷ back
  pub left_out : ShowsJournal [] out
  pub told : told_note line ≡ told_note note
  pub left : ShowsJournal lines back

-- where the first line is
pub first_line : (line : Note) (lines journal : List Note) → ShowsJournal (line ∷ lines) journal → FirstLine line lines journal
first_line line lines [] shows = absurd shows
first_line line lines (note ∷ notes) (inl here) =
    record { out = []; note = note; back = notes; whole = refl; left_out = tt; told = here.0; left = here.1 }
first_line line lines (note ∷ notes) (inr out) =
    let more = first_line line lines notes out.1 in
    record {
      out = note ∷ more.out;
      note = more.note;
      back = more.back;
      whole = ap (λ (l : List Note). note ∷ l) more.whole;
      left_out = (out.0, more.left_out);
      told = more.told;
      left = more.left;
    }
