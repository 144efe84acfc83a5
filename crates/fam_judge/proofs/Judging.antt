-- A history is explained exactly where some state is possible behind its lines.
use Rattle.std.proofs.Common.{◌≡◌, ℕ, List, [], ◌∷◌, ◌++◌, length, map, refl, ap, ap₂, sym, ◌∙◌, subst}
use Rattle.std.proofs.lemmas.List.{map-append}
use Rattle.fam_base.specs.Image.{Image}
use Rattle.fam_journal.specs.Notes.{Note, Start}
use Rattle.fam_journal.specs.Past.{Past, past_of}
use Rattle.fam_journal.specs.Shapes.{HostShape, shapes_after, shapes_behind, shapes_of}
use Rattle.fam_judge.specs.Covering.{AreFitting, direct, same, possible_behind}
use Rattle.fam_judge.specs.Alike.{AreAlikeNotes, told_note}
use Rattle.fam_judge.specs.Explained.{AreAllowedForSome, IsExplained}
use Rattle.fam_judge.specs.Fitting.{FitsNext}
use Rattle.fam_judge.specs.Formed.{AreFormed, AreSoundNotes}
use Rattle.fam_judge.specs.Possible.{IsPossible, Possible, after_note, first_possible, past_in, shapes_in}
use Rattle.fam_judge.specs.Standing.{AreStanding, MayStand}
use Rattle.fam_judge.specs.ToldHosts.{told_hosts_behind, told_hosts}
use Rattle.fam_judge.specs.Untold.{untold_note, untold_notes}
use Rattle.fam_judge.proofs.Choices.{some_choices}
use Rattle.fam_judge.proofs.Completing.{shown_reached}
use Rattle.fam_judge.proofs.Explaining.{sound-append}
use Rattle.fam_judge.proofs.Fitting.{explained_fits, fits_explained}
use Rattle.fam_judge.proofs.Folding.{behind_more, past_is, shape_after, shapes_are}
use Rattle.fam_judge.proofs.RealLines.{all_real}
use Rattle.fam_judge.proofs.Realizing.{IsRealized}
use Rattle.fam_judge.proofs.Showing.{same_shown}
use Rattle.fam_judge.proofs.Standing.Alike.{stands_alike, stands_told}
use Rattle.fam_judge.proofs.Standing.Journals.{behind_told, explained_stands, journal_formed, shows_alike}
use Rattle.fam_judge.proofs.Untelling.{alike_notes_untold, alike_untold, untold_alike}
use Rattle.fam_judge.proofs.Telling.{none_is_more, more_is_none}

-- What isn't told of a note.

-- it fits all the same
fits_untold : (past : Past) (y : Note) → FitsNext past y → FitsNext past (untold_note y)
fits_untold past (Start h cmd) fits = tt
fits_untold past y fits = fits

-- and the other way about
untold_fits : (past : Past) (y : Note) → FitsNext past (untold_note y) → FitsNext past y
untold_fits past (Start h cmd) fits = tt
untold_fits past y fits = fits

-- what is told of notes is told of them without it
alike_of_untold : (notes : List Note) → map told_note (untold_notes notes) ≡ map told_note notes
alike_of_untold [] = refl
alike_of_untold (y ∷ notes) = ap₂ (λ t l. t ∷ l) (untold_alike y) (alike_of_untold notes)

untold_again : (y : Note) → untold_note (untold_note y) ≡ untold_note y
untold_again y = alike_untold (untold_note y) y (untold_alike y)

pub untold_all_again : (notes : List Note) → untold_notes (untold_notes notes) ≡ untold_notes notes
untold_all_again [] = refl
untold_all_again (y ∷ notes) = ap₂ (λ (t : Note) (l : List Note). t ∷ l) (untold_again y) (untold_all_again notes)

-- A journal that explains fits.

module _ (start : Image) where
  told_same : (before : List Note) → told_hosts (shapes_of (untold_notes before)) ≡ told_hosts (shapes_of before)
  told_same before =
      behind_told (untold_notes before) [] ∙ ap (told_hosts_behind (told_hosts [])) (alike_of_untold before) ∙ sym (behind_told before [])

  pub fitting_from : (before notes : List Note) → AreStanding (length start) (shapes_of before) notes → AreAllowedForSome start before notes
      → AreFitting start (possible_behind start (untold_notes before)) (untold_notes notes)
  fitting_from before [] stands allowed = tt
  fitting_from before (y ∷ notes) stands allowed = (
    subst (λ (s : List HostShape). MayStand (length start) s (untold_note y)) (sym (shapes_are start (untold_notes before)))
        (stands_told (length start) (shapes_of (untold_notes before)) y (untold_note y) (sym (untold_alike y))
        (stands_alike (length start) (shapes_of before) (shapes_of (untold_notes before)) (sym (told_same before)) y stands.0)),
    subst (λ (p : Past). FitsNext p (untold_note y)) (sym (past_is start (untold_notes before)))
        (fits_untold (past_of start (untold_notes before)) y (explained_fits start before y allowed.0)),
    subst (λ (c : Possible). AreFitting start c (untold_notes notes)) more
        (fitting_from (before ++ y ∷ []) notes (subst (λ (s : List HostShape). AreStanding (length start) s notes) shapes stands.1) allowed.1),
  )
    where
      more : possible_behind start (untold_notes (before ++ y ∷ [])) ≡ after_note start (possible_behind start (untold_notes before)) (untold_note y)
      more = ap (possible_behind start) (map-append untold_note before (y ∷ [])) ∙ behind_more start (first_possible start) (untold_notes before) (untold_note y)

      behind_one : (hosts : List HostShape) (before : List Note) → shapes_after (shapes_behind hosts before) y ≡ shapes_behind hosts (before ++ y ∷ [])
      behind_one hosts [] = refl
      behind_one hosts (first ∷ before) = behind_one (shapes_after hosts first) before

      shapes : shapes_after (shapes_of before) y ≡ shapes_of (before ++ y ∷ [])
      shapes = behind_one [] before

  -- so some state is possible
  pub explained_possible : (history : List Note) → IsExplained start history → (x : Possible) × IsPossible start (untold_notes history) x
  explained_possible history is =
      let j = explained_stands start history is in
      let reached = shown_reached start history j.0 j.1 (first_possible start) (first_possible start) (direct (record { state = same refl; hosts = tt })) (λ k l u a b. absurd cc)
      (λ k p at. absurd cc) (fitting_from [] j.0 j.2 j.3) in
      (reached.state, reached.leads)

  -- A journal that fits explains.

  allowed_from : (before notes other rest : List Note) → AreAlikeNotes before other → AreAlikeNotes notes rest → untold_notes before ≡ before → untold_notes notes ≡ notes
      → AreSoundNotes other → AreSoundNotes rest → AreFitting start (possible_behind start before) notes → AreAllowedForSome start other rest
  allowed_from before [] other [] alike more told_before told sound sounds fitting = tt
  allowed_from before [] other (z ∷ rest) alike more told_before told sound sounds fitting = absurd (none_is_more (told_note z) (map told_note rest) more)
  allowed_from before (y ∷ notes) other [] alike more told_before told sound sounds fitting = absurd (more_is_none (told_note y) (map told_note notes) more)
  allowed_from before (y ∷ notes) other (z ∷ rest) alike more told_before told sound sounds fitting = (
    fits_explained start other z sound here,
    allowed_from (before ++ y ∷ []) notes (other ++ z ∷ []) rest alike_more rests told_more (tails told) (sound-append other (z ∷ []) sound (sounds.0, tt)) sounds.1
        (subst (λ (c : Possible). AreFitting start c notes) (sym (behind_more start (first_possible start) before y)) fitting.2),
  )
    where
      first : told_note y ≡ told_note z
      first = Rattle.fam_judge.proofs.Telling.heads (told_note y) (told_note z) (map told_note notes) (map told_note rest) more

      rests : AreAlikeNotes notes rest
      rests = Rattle.fam_judge.proofs.Telling.tails (told_note y) (told_note z) (map told_note notes) (map told_note rest) more

      heads : untold_note y ∷ untold_notes notes ≡ y ∷ notes → untold_note y ≡ y
      heads e = cc

      tails : untold_note y ∷ untold_notes notes ≡ y ∷ notes → untold_notes notes ≡ notes
      tails e = cc

      alike_more : AreAlikeNotes (before ++ y ∷ []) (other ++ z ∷ [])
      alike_more = map-append told_note before (y ∷ []) ∙ ap₂ (λ a b. a ++ b ∷ []) alike first ∙ sym (map-append told_note other (z ∷ []))

      told_more : untold_notes (before ++ y ∷ []) ≡ before ++ y ∷ []
      told_more = map-append untold_note before (y ∷ []) ∙ ap₂ (λ (a : List Note) (b : Note). a ++ b ∷ []) told_before (heads told)

      past_same : past_in start (possible_behind start before) ≡ past_of start (untold_notes other)
      past_same = past_is start before ∙ ap (past_of start) (sym told_before ∙ alike_notes_untold before other alike)

      here : FitsNext (past_of start (untold_notes other)) z
      here =
          untold_fits (past_of start (untold_notes other)) z
          (subst (FitsNext (past_of start (untold_notes other))) (sym (heads told) ∙ alike_untold y z first) (subst (λ (p : Past). FitsNext p y) past_same fitting.1))

  standing_from : (c : Possible) (notes : List Note) → AreFitting start c notes → AreStanding (length start) (shapes_in c) notes
  standing_from c [] fitting = tt
  standing_from c (y ∷ notes) fitting = (fitting.0, subst (λ (s : List HostShape). AreStanding (length start) s notes) (shape_after c y) (standing_from (after_note start c y) notes fitting.2))

  sound_formed : (lines : ℕ) (hosts : List HostShape) (notes : List Note) → AreFormed lines hosts notes → AreSoundNotes notes
  sound_formed lines hosts [] formed = tt
  sound_formed lines hosts (y ∷ notes) formed = (formed.0.sound, sound_formed lines (shapes_after hosts y) notes formed.1)

  -- so what comes to a possible state is explained
  pub possible_explained : (history : List Note) (x : Possible) → IsPossible start (untold_notes history) x → IsExplained start history
  possible_explained history x leads =
      let real = all_real start [] (first_possible start) first (untold_notes history) (untold_all_again history) x leads in
      let choice = some_choices x.hosts in
      let come = real choice.0 choice.1 in
      let formed = journal_formed (length start) come.journal (standing_from (first_possible start) come.journal come.fitting) in (
        formed.0,
        record {
          shown = same_shown (untold_notes history) history formed.0 (alike_of_untold history) (shows_alike (untold_notes history) come.journal formed.0 formed.1 come.shows);
          formed = formed.2;
          allowed = allowed_from [] come.journal [] formed.0 refl formed.1 refl come.told tt (sound_formed (length start) [] formed.0 formed.2) come.fitting;
        },
      )
    where
      first : IsRealized start [] (first_possible start)
      first [] pairs = record { journal = []; shows = tt; told = refl; fitting = tt; is = refl }
      first (p ∷ hosts) pairs = absurd pairs
