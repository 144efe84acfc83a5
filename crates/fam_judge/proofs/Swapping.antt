-- Journals in which two neighbours change places.
use Rattle.std.proofs.Common.{◌≡◌, List, [], ◌∷◌, ◌++◌, length, map, refl, ap, ap₂, sym, ◌∙◌, subst}
use Rattle.std.proofs.lemmas.List.{append_assoc, append-nil, map-append}
use Rattle.fam_base.specs.Image.{Image}
use Rattle.fam_journal.specs.Legal.{Allowed}
use Rattle.fam_journal.specs.Notes.{Note}
use Rattle.fam_journal.specs.Past.{past_of}
use Rattle.fam_journal.specs.Shapes.{HostShape, shapes_after, shapes_of}
use Rattle.fam_journal.proofs.Shapes.Operations.{shapes_both}
use Rattle.fam_judge.specs.Alike.{AreAlikeNotes, told_note}
use Rattle.fam_judge.specs.Explained.{AreAllowedForSome, IsAllowedForSome}
use Rattle.fam_judge.specs.Formed.{AreFormed, AreSoundNotes}
use Rattle.fam_judge.proofs.Telling.{heads, more_is_none, tails}

-- lists one behind the other
pub behind_both : {A : Type 0} (a b c : List A) → a ++ (b ++ c) ≡ a ++ b ++ c
behind_both a b c = sym (append_assoc a b c)

-- Notes that tell the same.

-- one behind the other
pub alike_both : (a b c d : List Note) → AreAlikeNotes a c → AreAlikeNotes b d → AreAlikeNotes (a ++ b) (c ++ d)
alike_both a b c d first second = map-append told_note a b ∙ ap₂ (λ x y. x ++ y) first second ∙ sym (map-append told_note c d)

-- so of one note
pub one_alike : (m n : Note) → told_note m ≡ told_note n → AreAlikeNotes (m ∷ []) (n ∷ [])
one_alike m n e = ap (λ t. t ∷ []) e

-- what tells the same as two neighbours between other notes
pub record Split (a : List Note) (m n : Note) (b chosen : List Note) : Type 0 where
  pub front : List Note
  pub first : Note
  pub second : Note
  pub back : List Note
  pub whole : chosen ≡ front ++ first ∷ second ∷ back
  pub fronts : AreAlikeNotes a front
  pub firsts : told_note m ≡ told_note first
  pub seconds : told_note n ≡ told_note second
  pub backs : AreAlikeNotes b back

-- where the two are
pub split : (a : List Note) (m n : Note) (b chosen : List Note) → AreAlikeNotes (a ++ m ∷ n ∷ b) chosen → Split a m n b chosen
split [] m n b [] alike = absurd (more_is_none (told_note m) _ alike)
split [] m n b (c ∷ []) alike = absurd (more_is_none (told_note n) _ (tails (told_note m) (told_note c) _ _ alike))
split [] m n b (c ∷ d ∷ back) alike =
    let rest = tails (told_note m) (told_note c) (map told_note (n ∷ b)) (map told_note (d ∷ back)) alike in
    record {
      front = [];
      first = c;
      second = d;
      back = back;
      whole = refl;
      fronts = refl;
      firsts = heads (told_note m) (told_note c) (map told_note (n ∷ b)) (map told_note (d ∷ back)) alike;
      seconds = heads (told_note n) (told_note d) (map told_note b) (map told_note back) rest;
      backs = tails (told_note n) (told_note d) (map told_note b) (map told_note back) rest;
    }
split (x ∷ a) m n b [] alike = absurd (more_is_none (told_note x) _ alike)
split (x ∷ a) m n b (c ∷ chosen) alike =
    let more = split a m n b chosen (tails (told_note x) (told_note c) _ _ alike) in
    record {
      front = c ∷ more.front;
      first = more.first;
      second = more.second;
      back = more.back;
      whole = ap (λ (l : List Note). c ∷ l) more.whole;
      fronts = ap₂ (λ t l. t ∷ l) (heads (told_note x) (told_note c) _ _ alike) more.fronts;
      firsts = more.firsts;
      seconds = more.seconds;
      backs = more.backs;
    }

sound_swapped : (front : List Note) (first second : Note) (back : List Note) → AreSoundNotes (front ++ first ∷ second ∷ back) → AreSoundNotes (front ++ second ∷ first ∷ back)
sound_swapped [] first second back sound = (sound.1.0, (sound.0, sound.1.1))
sound_swapped (x ∷ front) first second back sound = (sound.0, sound_swapped front first second back sound.1)

-- Behind the two.

-- what is allowed behind two notes is allowed behind them in the other order, whatever tells the same as these
abbrev pub Swaps : Image → List Note → Note → Note → Type 0
Swaps start a m n =
    (z : Note) (front : List Note) (first second : Note) (back : List Note) → AreAlikeNotes a front → told_note m ≡ told_note first → told_note n ≡ told_note second
    → Allowed (past_of start (front ++ first ∷ second ∷ back)) z → Allowed (past_of start (front ++ second ∷ first ∷ back)) z

module _ (start : Image) (a : List Note) (m n : Note) (swaps : Swaps start a m n) where
  one_swapped : (b : List Note) (z : Note) → IsAllowedForSome start (a ++ m ∷ n ∷ b) z → IsAllowedForSome start (a ++ n ∷ m ∷ b) z
  one_swapped b z some =
      let s = split a m n b some.chosen some.alike in
      record {
        chosen = s.front ++ s.second ∷ s.first ∷ s.back;
        alike = alike_both a (n ∷ m ∷ b) s.front (s.second ∷ s.first ∷ s.back) s.fronts (ap₂ (λ t l. t ∷ l) s.seconds (ap₂ (λ t l. t ∷ l) s.firsts s.backs));
        sound = sound_swapped s.front s.first s.second s.back (subst AreSoundNotes s.whole some.sound);
        allowed = swaps z s.front s.first s.second s.back s.fronts s.firsts s.seconds (subst (λ (l : List Note). Allowed (past_of start l) z) s.whole some.allowed);
      }

  behind_swapped : (b notes : List Note) → AreAllowedForSome start (a ++ m ∷ n ∷ b) notes → AreAllowedForSome start (a ++ n ∷ m ∷ b) notes
  behind_swapped b [] allowed = tt
  behind_swapped b (z ∷ notes) allowed = (
    one_swapped b z allowed.0,
    subst (λ (l : List Note). AreAllowedForSome start l notes) (sym (append_assoc a (n ∷ m ∷ b) (z ∷ [])))
        (behind_swapped (b ++ z ∷ []) notes (subst (λ (l : List Note). AreAllowedForSome start l notes) (append_assoc a (m ∷ n ∷ b) (z ∷ [])) allowed.1)),
  )

  -- notes behind the two
  pub all_swapped : (notes : List Note) → AreAllowedForSome start ((a ++ m ∷ []) ++ n ∷ []) notes → AreAllowedForSome start ((a ++ n ∷ []) ++ m ∷ []) notes
  all_swapped notes allowed =
      subst (λ (l : List Note). AreAllowedForSome start l notes) (sym (append_assoc a (n ∷ []) (m ∷ [])))
      (behind_swapped [] notes (subst (λ (l : List Note). AreAllowedForSome start l notes) (append_assoc a (m ∷ []) (n ∷ [])) allowed))

-- Parts of a journal.

-- notes that may stand behind others
pub record Stands (start : Image) (before notes : List Note) : Type 0 where
  pub formed : AreFormed (length start) (shapes_of before) notes
  pub allowed : AreAllowedForSome start before notes

-- the shapes behind one note more
pub shapes_one : (before : List Note) (note : Note) → shapes_of (before ++ note ∷ []) ≡ shapes_after (shapes_of before) note
shapes_one before note = shapes_both [] before (note ∷ [])

module _ (start : Image) where
  -- what stands behind the first note
  pub behind_first : (before : List Note) (note : Note) (rest : List Note) → Stands start before (note ∷ rest) → Stands start (before ++ note ∷ []) rest
  behind_first before note rest is =
      record { formed = subst (λ (s : List HostShape). AreFormed (length start) s rest) (sym (shapes_one before note)) is.formed.1; allowed = is.allowed.1 }

  -- one note stays, and what stands behind it changes
  pub behind_one : (before : List Note) (note : Note) (a b : List Note) → (Stands start (before ++ note ∷ []) a → Stands start (before ++ note ∷ []) b)
      → Stands start before (note ∷ a) → Stands start before (note ∷ b)
  behind_one before note a b change is =
      let same = shapes_one before note in
      let next = change (behind_first before note a is) in
      record { formed = (is.formed.0, subst (λ (s : List HostShape). AreFormed (length start) s b) same next.formed); allowed = (is.allowed.0, next.allowed) }

  -- so of some notes
  pub behind_some : (before front a b : List Note) → (Stands start (before ++ front) a → Stands start (before ++ front) b)
      → Stands start before (front ++ a) → Stands start before (front ++ b)
  behind_some before [] a b change is =
      subst (λ (l : List Note). Stands start l b) (append-nil before) (change (subst (λ (l : List Note). Stands start l a) (sym (append-nil before)) is))
  behind_some before (note ∷ front) a b change is =
      behind_one before note (front ++ a) (front ++ b)
      (behind_some (before ++ note ∷ []) front a b
      (subst (λ (l : List Note). Stands start l a → Stands start l b) (sym (append_assoc before (note ∷ []) front)) change))
      is
