-- Files of a run: their bytes are apart, and stand where the journal has them.
use Rattle.std.proofs.Common.{◌≡◌, ℕ, Bool, true, false, List, length, map, take, Option, Some, None, ap, sym, ◌∙◌, subst}
use Rattle.std.specs.Prelude.{nat_lt, if◌then◌else◌, slice_get}
use Rattle.std.proofs.lemmas.List.{take-map}
use Rattle.fam_base.specs.declared.entry.Params.{Params}
use Rattle.fam_base.specs.declared.entry.Entry.{Entry}
use Rattle.fam_base.specs.Image.{Image, line_at}
use Rattle.fam_format.specs.Layout.{least_lines}
use Rattle.fam_format.specs.Reading as read
use Rattle.fam_format.specs.Reading.{Reading, reading}
use Rattle.fam_format.proofs.JoinLaws.{joins_from}
use Rattle.fam_rules.specs.Asks.{File, entries_of}
use Rattle.fam_rules.specs.Place.{IsLaidOut, StandsAt}
use Rattle.fam_rules.specs.Solo.{held_file}
use Rattle.fam_rules.proofs.AskProofs.{member_from}
use Rattle.fam_rules.proofs.ListPlaces.{bytes_apart, laid_apart}
use Rattle.fam_protocol.specs.Core.{IsHistory}
use Rattle.fam_protocol.specs.Invariant.{InvariantBy, IsKnown}
use Rattle.fam_journal.specs.Kept.{Reached, hosts_of, settled_of, shared_of}
use Rattle.fam_journal.specs.Past.{State, Bad, FewLines, Sound, first_state, past_of, state_read, with_pending, Given}
use Rattle.fam_journal.specs.Notes.{Note}
use Rattle.fam_journal.specs.Machines.{Machines}

-- entries that belong behind each other are laid out one behind the other
laid : (p : Params) (all : List File) → IsHistory p all → IsLaidOut p (entries_of all)
laid p all history i e at =
    let (f, is, same) = member_from (λ (g : File). g.entry) all i e at in
    let belongs = history i f is in
    subst (λ (x : Entry). Rattle.fam_rules.specs.Place.IsFreeAfter p (take i (entries_of all)) x) same
    (subst (λ (l : List Entry). Rattle.fam_rules.specs.Place.IsFreeAfter p l f.entry) (sym (take-map (λ (g : File). g.entry) i all))
    (record { proper = belongs.proper; units = (joins_from p (entries_of (take i all)) f.entry belongs.joins).units }))

module _ (start : Image) (state : Machines) (journal : List Note) (kept : Reached start state journal) (p : Params) (history : List File)
    (pending : Option File) (is : (past_of start journal).state ≡ Sound p history pending) where
  known : IsKnown p (with_pending history pending) (length history) (length start) (hosts_of kept.views (past_of start journal).hosts) (shared_of state.memory kept.views)
  known = subst (λ (s : State). InvariantBy (settled_of s (line_at state.memory)) (length start) (hosts_of kept.views (past_of start journal).hosts)
      (shared_of state.memory kept.views)) is kept.held.invariant.stage

  pub files_apart : (i j a b byte : ℕ) → StandsAt (entries_of (with_pending history pending)) i a byte → StandsAt (entries_of (with_pending history pending)) j b byte → (i ≡ j) × (a ≡ b)
  files_apart i j a b byte one other =
      bytes_apart p (entries_of (with_pending history pending)) i j a b byte known.core.head.sound
      (laid_apart p (entries_of (with_pending history pending)) (laid p (with_pending history pending) known.core.history)) one other

-- what an image reads as has each file's bytes from it
held_of : (image : Image) (p : Params) (history : List File) (r : Reading) → Sound p history None ≡ state_read image r → (i : ℕ) (f : File)
    → slice_get history i ≡ Some f → f ≡ held_file (line_at image) f.entry
held_of image p history (read.NoSuperblock fault) is i f at = absurd cc
held_of image p history (read.BadHeader fault) is i f at = absurd cc
held_of image p history (read.BadSlot k reason) is i f at = absurd cc
held_of image p history (read.Sound q entries) is i f at =
    let all : history ≡ map (held_file (line_at image)) entries = cc in
    let (e, there, same) = member_from (held_file (line_at image)) entries i f (ap (λ (fs : List File). slice_get fs i) (sym all) ∙ at) in
    sym same ∙ ap (held_file (line_at image)) (ap (λ (g : File). g.entry) same)

held_by : (image : Image) (p : Params) (history : List File) (small : Bool) (few : State) → (Sound p history None ≡ few → ⊥)
    → Sound p history None ≡ (if small then few else state_read image (reading image)) → (i : ℕ) (f : File) → slice_get history i ≡ Some f
    → f ≡ held_file (line_at image) f.entry
held_by image p history true few none is i f at = absurd (none is)
held_by image p history false few none is i f at = held_of image p history (reading image) is i f at

pub files_held : (image : Image) (p : Params) (history : List File) → Sound p history None ≡ first_state image → (i : ℕ) (f : File)
    → slice_get history i ≡ Some f → f ≡ held_file (line_at image) f.entry
files_held image p history is i f at = held_by image p history (nat_lt (length image) least_lines) (Bad (Given image) (FewLines (length image)) 0) (λ e. absurd cc) is i f at
