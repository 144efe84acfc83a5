-- Bytes of sources and a listing that are chosen in notes: these tell the same then.
use Rattle.std.proofs.Common.{◌≡◌, ◌<◌, ◌≤◌, ◌⊎◌, inl, inr, ℕ, Bool, true, false, List, [], ◌∷◌, length, map, get_or, refl, ap, ap₂, sym, ◌∙◌, subst, arith}
use Rattle.std.specs.Prelude.{⊤, ◌==◌, if◌then◌else◌, slice_index}
use Rattle.std.specs.List.{range_with_len}
use Rattle.std.specs.List.Sorted.{IsStrictlySortedBy}
use Rattle.std.proofs.lemmas.Bool.{cases_lt}
use Rattle.std.proofs.lemmas.Bool.Decides.{nat_tests}
use Rattle.std.proofs.lemmas.List.{get_or-replicate, get_or_past, length-replicate}
use Rattle.std.proofs.lemmas.List.FromFn.{get_or-map-range_with_len, length-map-range_with_len}
use Rattle.fam_base.specs.declared.cmd.Cmd.{Cmd}
use Rattle.fam_base.specs.declared.cmd.Cmd.TheVariants as cmd
use Rattle.fam_base.specs.declared.cmd.Content.{Content}
use Rattle.fam_base.specs.declared.cmd.Content.TheVariants as content
use Rattle.fam_base.specs.declared.entry.Entry.{Entry}
use Rattle.fam_rules.specs.Asks.{File}
use Rattle.fam_rules.specs.Content.{HoldsBytes, content_byte}
use Rattle.fam_rules.specs.Decide.{wish_of}
use Rattle.fam_rules.specs.Solo.{content_of}
use Rattle.fam_history.specs.declared.command.ToldCommand.TheVariants as told
use Rattle.fam_history.specs.Told.{told_of_command}
use Rattle.fam_journal.specs.Notes.{Note, Start}
use Rattle.fam_journal.specs.Past.{HostPast, Past, State}
use Rattle.fam_judge.specs.Alike.{AreAlikeNotes, Begins, ToldNote, told_note}
use Rattle.fam_judge.specs.Fitting.{FitsByte}
use Rattle.fam_judge.specs.Formed.{AreSoundNotes, IsSoundCommand, IsSoundNote}
use Rattle.fam_judge.specs.Untold.{untold, untold_bytes, untold_cmd}
use Rattle.fam_judge.proofs.Filling.{FillBytes, FillFiles, FillsCmd, FillsFile, FillsHost, FillsPast, FillsState, StartSuits, StartsSuit}

-- the bytes of files and of verifies at each offset, and a listing
pub record Choice : Type 0 where
  pub source : ℕ → ℕ
  pub wanted : ℕ → ℕ
  pub listing : List Entry
  pub bytes : (i : ℕ) → source i < 256
  pub sound : IsSoundCommand (cmd.Check listing)

none_listed : IsSoundCommand (cmd.Check [])
unfolding IsStrictlySortedBy
none_listed = record { limits = tt; fits = record { wish = λ w e. absurd (cc); content = tt } }

-- where nothing is to choose
pub any : Choice
any = record { source = λ i. 0; wanted = λ i. 0; listing = []; bytes = λ i. omega arith; sound = none_listed }

-- as many bytes
abbrev pub chosen_bytes : (ℕ → ℕ) → List ℕ → List ℕ
chosen_bytes f bytes = map f (range_with_len 0 (length bytes))

-- the listing in place of one as long
abbrev pub chosen_listing : List Entry → List Entry → List Entry
chosen_listing listing old = if length old == length listing then listing else old

-- the command with them
abbrev pub chosen_cmd : Choice → Cmd → Cmd
chosen_cmd ch (cmd.Cp path attr stripe bytes) = cmd.Cp path attr stripe (chosen_bytes ch.source bytes)
chosen_cmd ch (cmd.Verify path content.Zero) = cmd.Verify path content.Zero
chosen_cmd ch (cmd.Verify path (content.Seed seed)) = cmd.Verify path (content.Seed seed)
chosen_cmd ch (cmd.Verify path (content.Bytes bytes)) = cmd.Verify path (content.Bytes (chosen_bytes ch.wanted bytes))
chosen_cmd ch (cmd.Check listing) = cmd.Check (chosen_listing ch.listing listing)
chosen_cmd ch c = c

-- so of a note
abbrev pub chosen_note : Choice → Note → Note
chosen_note ch (Start h c) = Start h (chosen_cmd ch c)
chosen_note ch note = note

-- What is told.

listing_length : (listing old : List Entry) (b : Bool) → (length old == length listing) ≡ b → length (if b then listing else old) ≡ length old
listing_length listing old true same = grind (arith, nat_tests)
listing_length listing old false other = refl

told_chosen : (ch : Choice) (c : Cmd) → told_of_command (chosen_cmd ch c) ≡ told_of_command c
told_chosen ch (cmd.Cp path attr stripe bytes) =
    ap (λ (n : ℕ). told.Cp path n attr stripe) (length-map-range_with_len ch.source 0 (length bytes))
told_chosen ch (cmd.Verify path content.Zero) = refl
told_chosen ch (cmd.Verify path (content.Seed seed)) = refl
told_chosen ch (cmd.Verify path (content.Bytes bytes)) = ap (told.VerifySource path) (length-map-range_with_len ch.wanted 0 (length bytes))
told_chosen ch (cmd.Check listing) = ap told.Check (listing_length ch.listing listing _ refl)
told_chosen ch c = refl

note_told : (ch : Choice) (note : Note) → told_note (chosen_note ch note) ≡ told_note note
note_told ch (Start h c) = ap (Begins h) (told_chosen ch c)
note_told ch note = refl

-- notes tell the same with what is chosen
pub notes_told : (ch : Choice) (notes : List Note) → AreAlikeNotes notes (map (chosen_note ch) notes)
notes_told ch [] = refl
notes_told ch (note ∷ notes) = ap₂ (λ (n : ToldNote) (l : List ToldNote). n ∷ l) (sym (note_told ch note)) (notes_told ch notes)

-- Soundness.

-- a byte that is chosen
pub at_chosen : (f : ℕ → ℕ) (bytes : List ℕ) (i : ℕ) → i < length bytes → get_or (chosen_bytes f bytes) i 0 ≡ f i
at_chosen f bytes i below = get_or-map-range_with_len f 0 (length bytes) i i 0 below (omega arith)

-- where all of them are chosen
pub at_chosen_count : (f : ℕ → ℕ) (bytes : List ℕ) (i : ℕ) → i < length (chosen_bytes f bytes) → get_or (chosen_bytes f bytes) i 0 ≡ f i
at_chosen_count f bytes i below = at_chosen f bytes i (subst (λ (n : ℕ). i < n) (length-map-range_with_len f 0 (length bytes)) below)

chosen_below : (f : ℕ → ℕ) (bytes : List ℕ) → ((i : ℕ) → f i < 256) → (i : ℕ) → get_or (chosen_bytes f bytes) i 0 < 256
chosen_below f bytes low i = by (cases_lt i (length bytes))
  where
    by : (i < length bytes) ⊎ (length bytes ≤ i) → get_or (chosen_bytes f bytes) i 0 < 256
    by (inl below) = subst (λ (b : ℕ). b < 256) (sym (at_chosen f bytes i below)) (low i)
    by (inr past) =
        let count : length (chosen_bytes f bytes) ≡ length bytes = length-map-range_with_len f 0 (length bytes) in
        let none : get_or (chosen_bytes f bytes) i 0 ≡ 0 = get_or_past (chosen_bytes f bytes) i 0 (omega (arith, past, count)) in
        omega (arith, none)

sound_listing : (listing old : List Entry) (b : Bool) → IsSoundCommand (cmd.Check listing) → IsSoundCommand (cmd.Check old)
    → IsSoundCommand (cmd.Check (if b then listing else old))
sound_listing listing old true one other = one
sound_listing listing old false one other = other

sound_chosen : (ch : Choice) (c : Cmd) → IsSoundCommand c → IsSoundCommand (chosen_cmd ch c)
sound_chosen ch (cmd.Cp path attr stripe bytes) sound = record {
  limits = sound.limits;
  fits = record {
    wish = λ w e. sound.fits.wish w
        (ap (λ (n : ℕ). wish_of (cmd.Creat path n attr stripe content.Zero)) (sym (length-map-range_with_len ch.source 0 (length bytes))) ∙ e);
    content = chosen_below ch.source bytes ch.bytes;
  };
}
sound_chosen ch (cmd.Verify path content.Zero) sound = sound
sound_chosen ch (cmd.Verify path (content.Seed seed)) sound = sound
sound_chosen ch (cmd.Verify path (content.Bytes bytes)) sound =
    record { limits = tt; fits = record { wish = λ w e. absurd (cc); content = tt } }
sound_chosen ch (cmd.Check listing) sound = sound_listing ch.listing listing (length listing == length ch.listing) ch.sound sound
sound_chosen ch c sound = sound

sound_note : (ch : Choice) (note : Note) → IsSoundNote note → IsSoundNote (chosen_note ch note)
sound_note ch (Start h c) sound = sound_chosen ch c sound
sound_note ch note sound = sound

-- their commands stay sound
pub sound_notes : (ch : Choice) (notes : List Note) → AreSoundNotes notes → AreSoundNotes (map (chosen_note ch) notes)
sound_notes ch [] sound = tt
sound_notes ch (note ∷ notes) sound = (sound_note ch note sound.0, sound_notes ch notes sound.1)

-- Commands that are chosen.

-- the bytes of a content
abbrev pub IsChosenContent : (ℕ → ℕ) → Content → Type 0
IsChosenContent wanted content.Zero = ⊤
IsChosenContent wanted (content.Seed seed) = ⊤
IsChosenContent wanted (content.Bytes bytes) = (i : ℕ) → i < length bytes → slice_index bytes i ≡ wanted i

-- what a command has of a source is what is chosen
abbrev pub IsChosen : Choice → Cmd → Type 0
IsChosen ch (cmd.Cp path attr stripe bytes) = (i : ℕ) → i < length bytes → slice_index bytes i ≡ ch.source i
IsChosen ch (cmd.Verify path against) = IsChosenContent ch.wanted against
IsChosen ch (cmd.Check listing) = length listing ≡ length ch.listing → listing ≡ ch.listing
IsChosen ch c = ⊤

listing_is : (listing old : List Entry) (b : Bool) → (length old == length listing) ≡ b
    → length (if b then listing else old) ≡ length listing → (if b then listing else old) ≡ listing
listing_is listing old true same count = refl
listing_is listing old false other count = absurd (grind (arith, nat_tests))

chosen_is : (ch : Choice) (c : Cmd) → IsChosen ch (chosen_cmd ch c)
chosen_is ch (cmd.Cp path attr stripe bytes) = at_chosen_count ch.source bytes
chosen_is ch (cmd.Verify path content.Zero) = tt
chosen_is ch (cmd.Verify path (content.Seed seed)) = tt
chosen_is ch (cmd.Verify path (content.Bytes bytes)) = at_chosen_count ch.wanted bytes
chosen_is ch (cmd.Check listing) = listing_is ch.listing listing _ refl
chosen_is ch c = tt

-- and it is sound
pub record SuitsChoice (ch : Choice) (c : Cmd) : Type 0 where
  pub sound : IsSoundCommand c
  pub chosen : IsChosen ch c

start_suits : (ch : Choice) (note : Note) → IsSoundNote note → StartSuits (SuitsChoice ch) (chosen_note ch note)
start_suits ch (Start h c) sound = record { sound = sound_chosen ch c sound; chosen = chosen_is ch c }
start_suits ch note sound = tt

-- so of these notes
pub starts_suit : (ch : Choice) (notes : List Note) → AreSoundNotes notes → StartsSuit (SuitsChoice ch) (map (chosen_note ch) notes)
starts_suit ch [] sound = tt
starts_suit ch (note ∷ notes) sound = (start_suits ch note sound.0, starts_suit ch notes sound.1)

sound_start : (note : Note) → IsSoundNote note → StartSuits IsSoundCommand note
sound_start (Start h c) sound = sound
sound_start note sound = tt

-- sound commands are sound
pub sound_starts : (notes : List Note) → AreSoundNotes notes → StartsSuit IsSoundCommand notes
sound_starts [] sound = tt
sound_starts (note ∷ notes) sound = (sound_start note sound.0, sound_starts notes sound.1)

-- Bytes of files.

-- a content has bytes alone
pub content_below : (c : Content) → HoldsBytes c → (i : ℕ) → content_byte c i < 256
content_below content.Zero holds i = omega arith
content_below (content.Seed seed) holds i = omega arith
content_below (content.Bytes bytes) holds i = holds i

-- a byte is told, or is the one that is chosen
abbrev pub StandsChosen : Choice → ℕ → ℕ → ℕ → Type 0
StandsChosen ch i told byte = (byte < 256) × ((told ≡ byte) ⊎ ((told ≡ untold) × (byte ≡ ch.source i)))

past_told : (bytes : List ℕ) (i : ℕ) → length bytes ≤ i → get_or (untold_bytes bytes) i 0 ≡ get_or bytes i 0
past_told bytes i past =
    let count = length-replicate (length bytes) untold in
    get_or_past (untold_bytes bytes) i 0 (omega (arith, past, count)) ∙ sym (get_or_past bytes i 0 past)

-- what a command fills in
pub chosen_fills : (ch : Choice) (c : Cmd) → SuitsChoice ch c → (i : ℕ)
    → StandsChosen ch i (content_byte (content_of (untold_cmd c)) i) (content_byte (content_of c) i)
chosen_fills ch (cmd.Cp path attr stripe bytes) is i = (is.sound.fits.content i, by (cases_lt i (length bytes)))
  where
    by : (i < length bytes) ⊎ (length bytes ≤ i)
        → (get_or (untold_bytes bytes) i 0 ≡ get_or bytes i 0) ⊎ ((get_or (untold_bytes bytes) i 0 ≡ untold) × (get_or bytes i 0 ≡ ch.source i))
    by (inl below) = inr (get_or-replicate (length bytes) i untold 0 below, is.chosen i below)
    by (inr past) = inl (past_told bytes i past)
chosen_fills ch (cmd.Creat path size attr stripe fill) is i = (content_below fill is.sound.fits.content i, inl refl)
chosen_fills ch c is i = (omega arith, inl refl)

-- what any command fills in
pub any_fills : (c : Cmd) → IsSoundCommand c → (i : ℕ)
    → FitsByte (content_byte (content_of (untold_cmd c)) i) (content_byte (content_of c) i)
any_fills (cmd.Cp path attr stripe bytes) sound i = (sound.fits.content i, by (cases_lt i (length bytes)))
  where
    by : (i < length bytes) ⊎ (length bytes ≤ i)
        → (get_or (untold_bytes bytes) i 0 ≡ get_or bytes i 0) ⊎ (get_or (untold_bytes bytes) i 0 ≡ untold)
    by (inl below) = inr (get_or-replicate (length bytes) i untold 0 below)
    by (inr past) = inl (past_told bytes i past)
any_fills (cmd.Creat path size attr stripe fill) sound i = (content_below fill sound.fits.content i, inl refl)
any_fills c sound i = (omega arith, inl refl)

-- What is filled with what is chosen.

-- bytes
abbrev pub ChosenBytes : Choice → List ℕ → List ℕ → Type 0
ChosenBytes ch told bytes = FillBytes (StandsChosen ch) told bytes

-- a file
abbrev pub ChosenFile : Choice → File → File → Type 0
ChosenFile ch told file = FillsFile (StandsChosen ch) told file

-- files
abbrev pub ChosenFiles : Choice → List File → List File → Type 0
ChosenFiles ch told files = FillFiles (StandsChosen ch) told files

-- a state
abbrev pub ChosenState : Choice → State → State → Type 0
ChosenState ch told state = FillsState (StandsChosen ch) told state

-- a command
abbrev pub ChosenCmd : Choice → Cmd → Cmd → Type 0
ChosenCmd ch told own = FillsCmd (StandsChosen ch) (SuitsChoice ch) told own

-- a host
abbrev pub ChosenHost : Choice → HostPast → HostPast → Type 0
ChosenHost ch told host = FillsHost (StandsChosen ch) (SuitsChoice ch) told host

-- a past
abbrev pub ChosenPast : Choice → Past → Past → Type 0
ChosenPast ch told past = FillsPast (StandsChosen ch) (SuitsChoice ch) told past
