-- Folds over journals in two parts; and which notes change nothing while nothing is pending.
use Rattle.std.proofs.Common.{◌≡◌, ℕ, ◌+◌, Bool, true, false, List, [], ◌∷◌, ◌++◌, length, Some, None, refl, ap, sym, ◌∙◌}
use Rattle.std.specs.Prelude.{◌==◌, nat_lt, if◌then◌else◌}
use Rattle.std.proofs.lemmas.List.{append_assoc}
use Rattle.fam_base.specs.Image.{Image}
use Rattle.fam_format.specs.declared.faults.SuperFault.TheVariants as super
use Rattle.fam_format.specs.Layout.{least_lines}
use Rattle.fam_format.specs.Reading as read
use Rattle.fam_format.specs.Reading.{Reading, reading}
use Rattle.fam_rules.specs.Reply.{Reply}
use Rattle.fam_commands.specs.Solo.{noted}
use Rattle.fam_commands.specs.Table as row
use Rattle.fam_journal.specs.declared.event.Event.{Event}
use Rattle.fam_journal.specs.Machines.{notes_of}
use Rattle.fam_journal.specs.Notes.{Note}
use Rattle.fam_machine.specs.Mkfs.{first_sent}
use Rattle.fam_journal.specs.Past.{FewLines, Past, State, Bad, Sound, acknowledges, finds, first_state, halted, past_after, past_behind, replied, shows, state_read, Given, Halted, NoSuperblock}
use Rattle.fam_journal.proofs.Settled.ReplyCases.{replied_by}
use Rattle.fam_whole.specs.Whole.{AreWholeNotes, HasNothingPending, image_after, image_behind}

pub image_both : (e : Event) (x : Past) (image : Image) (a b : List Note) → image_behind e x image (a ++ b) ≡ image_behind e (past_behind x a) (image_behind e x image a) b
image_both e x image [] b = refl
image_both e x image (note ∷ a) b = image_both e (past_after x note) (image_after e x image note) a b

pub whole_both : (e : Event) (x : Past) (image : Image) (a b : List Note) → AreWholeNotes e x image a
    → AreWholeNotes e (past_behind x a) (image_behind e x image a) b → AreWholeNotes e x image (a ++ b)
whole_both e x image [] b first second = second
whole_both e x image (note ∷ a) b first second = (first.0, whole_both e (past_after x note) (image_after e x image note) a b first.1 second)

-- what is noted of a command's notes
abbrev pub all_noted : ℕ → List row.RowNote → List Note
all_noted h [] = []
all_noted h (note ∷ notes) = notes_of h note ++ all_noted h notes

pub noted_both : (h : ℕ) (a b : List row.RowNote) → all_noted h (a ++ b) ≡ all_noted h a ++ all_noted h b
noted_both h [] b = refl
noted_both h (note ∷ a) b = ap (λ (z : List Note). notes_of h note ++ z) (noted_both h a b) ∙ sym (append_assoc (notes_of h note) (all_noted h a) (all_noted h b))

pub noted_one : (h : ℕ) (note : row.RowNote) → all_noted h (noted note) ≡ notes_of h note
noted_one h row.Quiet = refl
noted_one h e = refl

-- Where nothing is pending.

either : {A : Type 0} (t : Bool) (a b : A) → a ≡ b → (if t then a else b) ≡ b
either true a b e = e
either false a b e = refl

pub shows_sure : (m : ℕ) (s : State) → HasNothingPending s → shows m s ≡ s
shows_sure m (Bad own damage gate) sure = refl
shows_sure m (Sound p history None) sure = either (m == length history + 1) (Sound p history None) (Sound p history None) refl
shows_sure m (Sound p history (Some f)) sure = absurd cc

pub finds_sure : (n : ℕ) (s : State) → HasNothingPending s → finds n s ≡ s
finds_sure n (Bad own damage gate) sure = refl
finds_sure n (Sound p history None) sure =
    ap (λ (z : State). if n == length history then Sound p history None else z) (shows_sure n (Sound p history None) sure)
    ∙ either (n == length history) (Sound p history None) (Sound p history None) refl
finds_sure n (Sound p history (Some f)) sure = absurd cc

acknowledges_sure : (seq : ℕ) (s : State) → HasNothingPending s → acknowledges seq s ≡ s
acknowledges_sure seq (Bad own damage gate) sure = refl
acknowledges_sure seq (Sound p history None) sure = either (seq == length history) (Sound p history None) (Sound p history None) refl
acknowledges_sure seq (Sound p history (Some f)) sure = absurd cc

pub replied_sure : (given : Reply) (s : State) → HasNothingPending s → replied given s ≡ s
replied_sure = replied_by (λ f. (s : State) → HasNothingPending s → f s ≡ s) (λ s sure. refl) shows_sure acknowledges_sure

-- behind a maker that halted nothing is pending that wasn't before
pub halted_sure : (k : ℕ) (s : State) → HasNothingPending s → HasNothingPending (halted k s)
halted_sure k s sure = go (nat_lt k first_sent)
  where
    go : (early : Bool) → HasNothingPending (if early then s else Bad Halted (NoSuperblock (super.NoSuper 0)) 0)
    go true = sure
    go false = tt

-- an image says of nothing that it is pending
read_sure : (image : Image) (r : Reading) → HasNothingPending (state_read image r)
read_sure image (read.NoSuperblock fault) = tt
read_sure image (read.BadHeader fault) = tt
read_sure image (read.BadSlot i reason) = tt
read_sure image (read.Sound p entries) = refl

pub first_sure : (image : Image) → HasNothingPending (first_state image)
first_sure image = go (nat_lt (length image) least_lines)
  where
    go : (few : Bool) → HasNothingPending (if few then Bad (Given image) (FewLines (length image)) 0 else state_read image (reading image))
    go true = tt
    go false = read_sure image (reading image)
