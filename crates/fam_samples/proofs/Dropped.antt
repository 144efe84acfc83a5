-- A master that finds one entry more than is settled: the image has that entry.
use Rattle.std.proofs.Common.{◌≡◌, ◌+◌, ◌++◌, ℕ, Bool, true, false, List, [], ◌∷◌, Option, Some, None, inl, inr, ap, subst, ◌∙◌, length, arith}
use Rattle.std.specs.Prelude.{◌==◌, if◌then◌else◌}
use Rattle.std.proofs.lemmas.Bool.Decides.{nat_tests}
use Rattle.std.proofs.lemmas.List.{length-append, length-map}
use Rattle.fam_base.specs.declared.entry.Params.{Params}
use Rattle.fam_base.specs.Image.{Image}
use Rattle.fam_format.specs.Reading as read
use Rattle.fam_format.specs.Reading.{Reading, reading}
use Rattle.fam_rules.specs.Asks.{File}
use Rattle.fam_journal.specs.Ends.{ReadsAs}
use Rattle.fam_journal.specs.Kept.{Held}
use Rattle.fam_journal.specs.View.{WorldView}
use Rattle.fam_journal.specs.Legal.{FoundAllowed, FoundPending, Legal}
use Rattle.fam_journal.specs.Machines.{Machines}
use Rattle.fam_journal.specs.Notes.{Note, Found}
use Rattle.fam_journal.specs.Past.{Sound, State, finds, first_past, past_of, shows}
use Rattle.fam_journal.proofs.JournalLaws.{held_reads_as}
use Rattle.fam_journal.proofs.Settled.Journals.{legal_rest, past_both}
use Rattle.fam_samples.specs.Wrong.{drops_any}

same_test : (n : ℕ) → (n == n) ≡ true
same_test n = grind (arith, nat_tests)

next_test : (n : ℕ) → (n + 1 == n) ≡ false
next_test n = grind (arith, nat_tests)

-- how many entries a reading has
abbrev count_in : Reading → ℕ
count_in (read.NoSuperblock fault) = 0
count_in (read.BadHeader fault) = 0
count_in (read.BadSlot i reason) = 0
count_in (read.Sound p entries) = length entries

-- with nothing pending an image reads as the history alone
solo : (p : Params) (history : List File) (image : Image) → ReadsAs (Sound p history None) image → count_in (reading image) ≡ length history
solo p history image (inl is) = ap count_in is ∙ length-map history (λ (f : File). f.entry)
solo p history image (inr is) = ap count_in is ∙ length-map history (λ (f : File). f.entry)

-- by the right definition the pending entry has joined the history, by the wrong one it is gone
differ : (p : Params) (history : List File) (pending : Option File) (image : Image) → FoundPending (length history + 1) (length history) pending
    → ReadsAs (finds (length history + 1) (Sound p history pending)) image → ReadsAs (drops_any (length history + 1) (Sound p history pending)) image → ⊥
differ p history None image found right wrong = absurd (omega (arith, found))
differ p history (Some f) image found right wrong =
    absurd (omega (arith, longer, shorter))
  where
    found_more : ReadsAs (shows (length history + 1) (Sound p history (Some f))) image
    found_more = subst (λ (b : Bool). ReadsAs (if b then Sound p history None else shows (length history + 1) (Sound p history (Some f))) image) (next_test (length history)) right

    joined : ReadsAs (Sound p (history ++ f ∷ []) None) image
    joined = subst (λ (b : Bool). ReadsAs (if b then Sound p (history ++ f ∷ []) None else Sound p history (Some f)) image) (same_test (length history + 1)) found_more

    dropped : ReadsAs (Sound p history None) image
    dropped = subst (λ (b : Bool). ReadsAs
        (if b then Sound p history None else if length history + 1 == length history then Sound p history None else Sound p history (Some f)) image)
        (same_test (length history + 1)) wrong

    longer : count_in (reading image) ≡ length history + 1
    longer = solo p (history ++ f ∷ []) image joined ∙ length-append history (f ∷ [])

    shorter : count_in (reading image) ≡ length history
    shorter = solo p history image dropped

pub misread : (start : Image) (state : Machines) (world : WorldView) (image : Image) (notes : List Note) (host : ℕ) (p : Params) (history : List File)
    (pending : Option File) → Held start state world image → (past_of start notes).state ≡ Sound p history pending
    → world.journal ≡ notes ++ Found host (length history + 1) ∷ [] → ReadsAs (drops_any (length history + 1) (Sound p history pending)) image → ⊥
misread start state world image notes host p history pending held was is wrong = differ p history pending image found right wrong
  where
    legal : Legal start (notes ++ Found host (length history + 1) ∷ [])
    legal = subst (Legal start) is held.kept.held.legal

    found : FoundPending (length history + 1) (length history) pending
    found = subst (FoundAllowed (length history + 1)) was (legal_rest (first_past start) notes (Found host (length history + 1) ∷ []) legal).0

    behind : (past_of start world.journal).state ≡ finds (length history + 1) (Sound p history pending)
    behind = ap (λ (journal : List Note). (past_of start journal).state) is
        ∙ ap (λ past. Rattle.fam_journal.specs.Past.Past.state past) (past_both (first_past start) notes (Found host (length history + 1) ∷ []))
        ∙ ap (finds (length history + 1)) was

    right : ReadsAs (finds (length history + 1) (Sound p history pending)) image
    right = subst (λ (s : State). ReadsAs s image) behind (held_reads_as start state world image held)
