-- Commands that begin are sound where what stands in their asks is: a source holds bytes, or a listing's lines.
use Rattle.std.proofs.Common.{◌≡◌, inl, inr, ℕ, ◌+◌, Bool, true, false, All, List, [], ◌∷◌, length, Option, Some, None, Ok, sym, subst}
use Rattle.std.specs.Prelude.{nat_le}
use Rattle.std.specs.FinMap as finmap
use Rattle.std.proofs.lemmas.List.Elements.{All-cons, All-nil}
use Rattle.fam_base.specs.Commands.{IsListing, IsSoundAttr}
use Rattle.fam_base.specs.declared.cmd.Cmd.{Cmd}
use Rattle.fam_base.specs.declared.cmd.Cmd.TheVariants as cmd
use Rattle.fam_base.specs.declared.cmd.Content.TheVariants as content
use Rattle.fam_base.specs.declared.entry.Entry.{Entry}
use Rattle.fam_base.specs.PathOrder.{path_eq}
use Rattle.fam_grammar.specs.Sound.{IsSoundAsk}
use Rattle.fam_protocol.specs.Tasks.{IsCommand}
use Rattle.fam_tree.proofs.LinesSaid.{listing_said}
use Rattle.fam_tree.specs.Listings.{BodySays, IsListed, LinesSay, TextSays, played_line, text_lines}
use Rattle.fam_journal.specs.declared.event.Ask.{Ask}
use Rattle.fam_journal.specs.declared.event.Ask.TheVariants as ask
use Rattle.fam_journal.specs.declared.event.Event.{Event}
use Rattle.fam_journal.specs.declared.event.Event.TheVariants as event
use Rattle.fam_journal.specs.Events.{BytesSay, ListingIs, Ready, Sourced, WithinSays, copy_limit}
use Rattle.fam_journal.specs.Notes.{Note, Start}
use Rattle.fam_judge.specs.Asks.{AskSoundCommands, AsksSoundCommand, HasListedAsk}
use Rattle.fam_judge.specs.Formed.{AreListedNotes, AreSoundNotes, IsListedCommand, IsListedNote, IsSoundCommand, IsSoundNote}
use Rattle.fam_judge.proofs.Operating.{AllStartAs, StartsAs}
use Rattle.fam_judge.proofs.Running.{AllStart, AskStarts, EventStarts}

-- Listings.

lines_listed : (n : ℕ) (before : Option (List ℕ)) (lines : List (List ℕ)) (entries : List Entry) → LinesSay n before lines (Ok entries) → All IsListed entries
lines_listed n before [] entries says = subst (All IsListed) (sym says) (All-nil IsListed)
lines_listed n before (line ∷ lines) entries says =
    subst (All IsListed) (sym says.4) (All-cons IsListed says.0 says.1 says.2.listed (lines_listed (n + 1) (Some says.0.path) lines says.1 says.3))

-- entries in order, such as lines have
abbrev IsGoodListing : List Entry → Type 0
IsGoodListing entries = IsListing entries × All IsListed entries

good_lines : (n : ℕ) (lines : List (List ℕ)) (entries : List Entry) → LinesSay n None lines (Ok entries) → IsGoodListing entries
good_lines n lines entries says = (listing_said lines n entries says, lines_listed n None lines entries says)

good_body : (b : Bool) (first : List ℕ) (rest : List (List ℕ)) (entries : List Entry) → BodySays b first rest (Ok entries) → IsGoodListing entries
good_body true first rest entries says = good_lines 2 rest entries says
good_body false first rest entries says = good_lines 1 (first ∷ rest) entries says

good_text : (lines : List (List ℕ)) (entries : List Entry) → TextSays lines (Ok entries) → IsGoodListing entries
good_text [] entries says = good_lines 1 [] entries says
good_text (first ∷ rest) entries says = good_body (path_eq first (played_line (length rest))) first rest entries says

-- Sources.

module _ (c : Cmd) (after : ℕ) (P : Type 0) where
  within_ready : (b : Bool) (bytes : List ℕ) (copied : ℕ) (reads : List ℕ → ℕ → Sourced → Type 0)
      → ((bytes : List ℕ) (copied : ℕ) → reads bytes copied (Ready c after) → P) → WithinSays b bytes copied reads (Ready c after) → P
  within_ready true bytes copied reads each says = each bytes (copied + length bytes) says
  within_ready false bytes copied reads each says = absurd cc

  bytes_ready : (name : List ℕ) (o : Option (List ℕ)) (copied : ℕ) (reads : List ℕ → ℕ → Sourced → Type 0)
      → ((bytes : List ℕ) (copied : ℕ) → reads bytes copied (Ready c after) → P) → BytesSay name o copied reads (Ready c after) → P
  bytes_ready name None copied reads each says = absurd cc
  bytes_ready name (Some bytes) copied reads each says = within_ready (nat_le (copied + length bytes) copy_limit) bytes copied reads each says

-- it is the command that is read
ready_is : (c own : Cmd) (after copied : ℕ) → Ready c after ≡ Ready own copied → own ≡ c
ready_is c own after copied e = cc

-- Commands.

-- a command is sound, and its listing has entries such as lines have
pub record IsGoodCommand (c : Cmd) : Type 0 where
  pub sound : IsSoundCommand c
  pub listed : IsListedCommand c

cp_good : (path : _) (attr : _) (stripe : _) (bytes : List ℕ) → IsSoundAttr attr → IsCommand (cmd.Cp path attr stripe bytes) → IsGoodCommand (cmd.Cp path attr stripe bytes)
cp_good path attr stripe bytes mode fits = record { sound = record { limits = mode; fits = fits }; listed = λ entries e. absurd cc }

verify_good : (path : List ℕ) (bytes : List ℕ) → IsCommand (cmd.Verify path (content.Bytes bytes)) → IsGoodCommand (cmd.Verify path (content.Bytes bytes))
verify_good path bytes fits = record { sound = record { limits = tt; fits = fits }; listed = λ entries e. absurd cc }

-- the entries that a check has
same_entries : (own entries : List Entry) → cmd.Check own ≡ cmd.Check entries → own ≡ entries
same_entries own entries e = cc

check_good : (own : List Entry) → IsGoodListing own → IsCommand (cmd.Check own) → IsGoodCommand (cmd.Check own)
check_good own good fits = record {
  sound = record { limits = good.0; fits = fits };
  listed = λ entries e. subst (All IsListed) (same_entries own entries e) good.1;
}

-- as another one that it is
good_as : (own c : Cmd) → own ≡ c → (IsCommand own → IsGoodCommand own) → IsCommand c → IsGoodCommand c
good_as own c is good fits = subst IsGoodCommand is (good (subst IsCommand (sym is) fits))

listing_good : (c : Cmd) (after : ℕ) → IsCommand c → (bytes : List ℕ) (copied : ℕ) → ListingIs bytes copied (Ready c after) → IsGoodCommand c
listing_good c after fits bytes copied (inl x) =
    good_as (cmd.Check x.0) c (ready_is c (cmd.Check x.0) after copied x.2) (check_good x.0 (good_text (text_lines bytes) x.0 x.1)) fits
listing_good c after fits bytes copied (inr x) = absurd (let e = x.2 in cc)

-- of an ask
ask_good : (what : Ask) → IsSoundAsk what → HasListedAsk what → AskStarts IsGoodCommand what
ask_good (ask.Plain own) limits listed files copied after c says fits =
    good_as own c (ready_is c own after copied says) (λ fits. record { sound = record { limits = limits; fits = fits }; listed = listed }) fits
ask_good (ask.Cp source path attr stripe) mode listed files copied after c says fits =
    bytes_ready c after (IsGoodCommand c) source (finmap.get files source) copied _
    (λ bytes copied says. good_as (cmd.Cp path attr stripe bytes) c (ready_is c (cmd.Cp path attr stripe bytes) after copied says)
    (cp_good path attr stripe bytes mode) fits) says
ask_good (ask.VerifySource path source) limits listed files copied after c says fits =
    bytes_ready c after (IsGoodCommand c) source (finmap.get files source) copied _
    (λ bytes copied says. good_as (cmd.Verify path (content.Bytes bytes)) c (ready_is c (cmd.Verify path (content.Bytes bytes)) after copied says)
    (verify_good path bytes) fits) says
ask_good (ask.Check source) limits listed files copied after c says fits =
    bytes_ready c after (IsGoodCommand c) source (finmap.get files source) copied ListingIs (listing_good c after fits) says

event_good : (e : Event) → AsksSoundCommand e → EventStarts IsGoodCommand e
event_good (event.Begin name what) sound = ask_good what sound.0 sound.1
event_good (event.Run name what) sound = ask_good what sound.0 sound.1
event_good other sound = tt

-- of events
pub asks_good : (events : List Event) → AskSoundCommands events → AllStart IsGoodCommand events
asks_good [] sound = tt
asks_good (e ∷ events) sound = (event_good e sound.0, asks_good events sound.1)

-- Notes.

note_sound : (note : Note) → StartsAs IsGoodCommand note → IsSoundNote note
note_sound (Start h c) good = good.sound
note_sound other good = tt

-- commands that begin so are sound in notes
pub notes_sound : (notes : List Note) → AllStartAs IsGoodCommand notes → AreSoundNotes notes
notes_sound [] good = tt
notes_sound (note ∷ notes) good = (note_sound note good.0, notes_sound notes good.1)

note_listed : (note : Note) → StartsAs IsGoodCommand note → IsListedNote note
note_listed (Start h c) good = good.listed
note_listed other good = tt

-- and so are their listings
pub notes_listed : (notes : List Note) → AllStartAs IsGoodCommand notes → AreListedNotes notes
notes_listed [] good = tt
notes_listed (note ∷ notes) good = (note_listed note good.0, notes_listed notes good.1)
