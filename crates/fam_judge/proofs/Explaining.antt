-- What explains a history.
use Rattle.std.proofs.Common.{◌≡◌, ℕ, List, [], ◌∷◌, ◌++◌, length, refl, sym, subst}
use Rattle.fam_base.specs.Image.{Image}
use Rattle.fam_journal.specs.Legal.{Allowed, Legal, LegalBehind}
use Rattle.fam_journal.specs.Notes.{Note}
use Rattle.fam_journal.specs.Past.{Past, first_past, past_after, past_behind, past_of}
use Rattle.fam_journal.specs.Shapes.{HostShape, shapes_after}
use Rattle.fam_judge.specs.Alike.{AreAlikeNotes, AreWhollyTold}
use Rattle.fam_judge.specs.Explained.{AreAllowedForSome, IsExplained, IsExplainedBy}
use Rattle.fam_judge.specs.Formed.{AreFormed, AreSoundNotes}
use Rattle.fam_judge.proofs.Showing.{parts, same_shown, shows_itself, whole}
use Rattle.fam_judge.proofs.Telling.{alike_is, told-append}

-- one note more
pub one_more : (past : Past) (before : List Note) (note : Note) → past_behind past (before ++ note ∷ []) ≡ past_after (past_behind past before) note
one_more past [] note = refl
one_more past (first ∷ before) note = one_more (past_after past first) before note

-- so of both parts
pub sound-append : (a b : List Note) → AreSoundNotes a → AreSoundNotes b → AreSoundNotes (a ++ b)
sound-append [] b none more = more
sound-append (note ∷ a) b some more = (some.0, sound-append a b some.1 more)

-- what is legal and formed behind some notes is allowed for the bytes that they have
legal_allowed : (start : Image) (before notes : List Note) (hosts : List HostShape) → AreSoundNotes before → AreFormed (length start) hosts notes
    → LegalBehind (past_of start before) notes → AreAllowedForSome start before notes
legal_allowed start before [] hosts sound formed legal = tt
legal_allowed start before (note ∷ notes) hosts sound formed legal = (
  record { chosen = before; alike = refl; sound = sound; allowed = legal.0 },
  legal_allowed start (before ++ note ∷ []) notes (shapes_after hosts note) (sound-append before (note ∷ []) sound (formed.0.sound, tt)) formed.1
      (subst (λ (past : Past). LegalBehind past notes) (sym (one_more (first_past start) before note)) legal.1),
)

-- a legal journal that is formed explains itself
pub legal_explained : (start : Image) (journal : List Note) → Legal start journal → AreFormed (length start) [] journal → IsExplained start journal
legal_explained start journal legal formed =
    (journal, record { shown = shows_itself journal; formed = formed; allowed = legal_allowed start [] journal [] tt formed legal })

-- a history that tells the same is explained by the same journal
pub same_explained : (start : Image) (a b : List Note) → AreAlikeNotes a b → IsExplained start a → IsExplained start b
same_explained start a b alike is =
    (is.0, record { shown = same_shown a b is.0 alike is.1.shown; formed = is.1.formed; allowed = is.1.allowed })

-- of the first part of a journal
formed_front : (lines : ℕ) (hosts : List HostShape) (front back : List Note) → AreFormed lines hosts (front ++ back) → AreFormed lines hosts front
formed_front lines hosts [] back formed = tt
formed_front lines hosts (note ∷ front) back formed = (formed.0, formed_front lines (shapes_after hosts note) front back formed.1)

allowed_front : (start : Image) (before front back : List Note) → AreAllowedForSome start before (front ++ back) → AreAllowedForSome start before front
allowed_front start before [] back allowed = tt
allowed_front start before (note ∷ front) back allowed = (allowed.0, allowed_front start (before ++ note ∷ []) front back allowed.1)

-- a first part of the journal explains the first lines
pub first_explained : (start : Image) (first rest : List Note) → IsExplained start (first ++ rest) → IsExplained start first
first_explained start first rest is =
    let part = parts first rest is.0 is.1.shown in (
      part.front,
      record {
        shown = part.shown;
        formed = formed_front (length start) [] part.front part.back (subst (λ (l : List Note). AreFormed (length start) [] l) part.whole is.1.formed);
        allowed = allowed_front start [] part.front part.back (subst (λ (l : List Note). AreAllowedForSome start [] l) part.whole is.1.allowed);
      },
    )

-- what is allowed for some bytes is legal where all is told
allowed_legal : (start : Image) (before notes : List Note) → AreWhollyTold before → AreWhollyTold notes → AreAllowedForSome start before notes
    → LegalBehind (past_of start before) notes
allowed_legal start before [] told more allowed = tt
allowed_legal start before (note ∷ notes) told more allowed = (
  subst (λ (chosen : List Note). Allowed (past_of start chosen) note) (sym (alike_is before allowed.0.chosen told allowed.0.alike)) allowed.0.allowed,
  subst (λ (past : Past). LegalBehind past notes) (one_more (first_past start) before note)
      (allowed_legal start (before ++ note ∷ []) notes (told-append before (note ∷ []) told (more.0, tt)) more.1 allowed.1),
)

-- the journal is the history, where this tells all
pub explained_legal : (start : Image) (history journal : List Note) → IsExplainedBy start history journal → length history ≡ length journal → AreWhollyTold history
    → Legal start history × AreFormed (length start) [] history
explained_legal start history journal is same told =
    let one : journal ≡ history = sym (alike_is history journal told (whole history journal is.shown same)) in (
      allowed_legal start [] history tt told (subst (λ (l : List Note). AreAllowedForSome start [] l) one is.allowed),
      subst (λ (l : List Note). AreFormed (length start) [] l) one is.formed,
    )
