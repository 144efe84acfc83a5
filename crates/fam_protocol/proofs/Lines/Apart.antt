-- The lines of a history's entries are apart, and none of them is a line of the head or the gate's.
use Rattle.std.proofs.Common.{◌≡◌, ℕ, zero, suc, ◌+◌, ◌*◌, ◌/◌, ◌%◌, ◌<◌, ◌≤◌, ◌⊎◌, List, [], ◌∷◌, ◌++◌, length, take, slice_get, Some, inl, inr, refl, sym, ap, subst, ◌∙◌, arith}
use Rattle.std.specs.Prelude.{option_map}
use Rattle.std.proofs.lemmas.List.{take-map, take_all, take-append-le}
use Rattle.std.proofs.lemmas.Option.{slice_get-map, slice_get_within}
use Rattle.fam_base.specs.declared.entry.Params.{Params}
use Rattle.fam_base.specs.declared.entry.Entry.{Entry}
use Rattle.fam_format.specs.Layout.{geometry, gate_line, slot_line, log_end}
use Rattle.fam_format.specs.Params.{SoundParams}
use Rattle.fam_format.specs.Slot.{Proper}
use Rattle.fam_format.specs.ReadingLaws.{Joins}
use Rattle.fam_format.proofs.JoinLaws.{joins_from}
use Rattle.fam_format.proofs.Formats.{shape, times, slot_ends}
use Rattle.fam_rules.specs.Asks.{File, entries_of}
use Rattle.fam_rules.specs.Place.{line_bytes, place, AreApart, IsFreeAfter, IsLaidOut}
use Rattle.fam_rules.specs.Written.{file_line}
use Rattle.fam_rules.proofs.AskProofs.{member_from}
use Rattle.fam_rules.proofs.FilePlaces.{line_place, place_behind}
use Rattle.fam_rules.proofs.ListPlaces.{laid_apart, bytes_apart}
use Rattle.fam_protocol.specs.Core.{Belongs, IsHistory, IsHeadLine, IsSlotLine, IsFileLine, IsEntryLine}

-- Members of lists.

-- a member of a list with one more behind it
pub with_last : {X : Type 0} (xs : List X) (e : X) (k : ℕ) (f : X) → slice_get (xs ++ e ∷ []) k ≡ Some f → ((k < length xs) × (slice_get xs k ≡ Some f)) ⊎ ((k ≡ length xs) × (e ≡ f))
with_last [] e zero f h = inr (refl, cc)
with_last [] e (suc k) f h = absurd (cc)
with_last (x ∷ xs) e zero f h = inl (omega arith, h)
with_last (x ∷ xs) e (suc k) f h =
    elim (with_last xs e k f h) [ inl (below, is) ↦ inl (omega arith, is) | inr (last, same) ↦ inr (ap suc last, same) ]

-- the last member
pub last_member : {X : Type 0} (xs : List X) (e : X) → slice_get (xs ++ e ∷ []) (length xs) ≡ Some e
last_member [] e = refl
last_member (x ∷ xs) e = last_member xs e

-- Bytes and lines of a file.

-- byte o of a file stands at its place in the file's line
pub record IsOnLine (e : Entry) (o : ℕ) : Type 0 where
  pub line : place e o / line_bytes ≡ file_line e (o / line_bytes)
  pub within : place e o % line_bytes ≡ o % line_bytes

-- so it is, for every byte of a proper file
pub byte_on_line : (p : Params) (e : Entry) (o : ℕ) → SoundParams p → Proper p e → o < e.size → IsOnLine e o
byte_on_line p e o sound proper below =
    let whole : line_bytes * (o / line_bytes) + o % line_bytes ≡ o = omega arith in
    let at : place e (line_bytes * (o / line_bytes) + o % line_bytes) ≡ line_bytes * file_line e (o / line_bytes) + o % line_bytes =
    line_place p e (o / line_bytes) (o % line_bytes) sound proper (omega arith) (omega arith) in
    let is : place e o ≡ line_bytes * file_line e (o / line_bytes) + o % line_bytes = sym (ap (place e) whole) ∙ at in
    record { line = omega (arith, is); within = omega (arith, is) }

-- line j begins with its byte 64 j
pub line_begins : (p : Params) (e : Entry) (j : ℕ) → SoundParams p → Proper p e → line_bytes * j < e.size → place e (line_bytes * j) ≡ line_bytes * file_line e j
line_begins p e j sound proper below =
    let whole : line_bytes * j + 0 ≡ line_bytes * j = omega arith in
    let at : place e (line_bytes * j + 0) ≡ line_bytes * file_line e j + 0 = line_place p e j 0 sound proper below (omega arith) in
    sym (ap (place e) whole) ∙ omega (arith, at)

-- Lines of slots.

-- a slot has no line twice, and no line of another slot
pub slots_apart : (p : Params) (i k a b : ℕ) → a < (geometry p).lines → b < (geometry p).lines → slot_line p i a ≡ slot_line p k b → (i ≡ k) × (a ≡ b)
slots_apart p i k a b a_below b_below same =
    let here = times p i in
    let there = times p k in
    (omega (arith, here, there), omega (arith, here, there))

-- slots end where the log ends
pub slot_before : (p : Params) (i a : ℕ) → SoundParams p → i < p.slots → a < (geometry p).lines → line_bytes * slot_line p i a + line_bytes ≤ log_end p
slot_before p i a sound below within = omega (arith, slot_ends p.format p.log_length i (omega (arith, sound.slots)))

-- and files begin behind the log
pub file_behind : (p : Params) (e : Entry) (j : ℕ) → SoundParams p → Proper p e → line_bytes * j < e.size → log_end p ≤ line_bytes * file_line e j
file_behind p e j sound proper below = omega (arith, place_behind p e (line_bytes * j) sound proper below, line_begins p e j sound proper below)

-- a slot's line is no line of a file
pub slot_no_file : (p : Params) (i : ℕ) (e : Entry) (l : ℕ) → SoundParams p → i < p.slots → Proper p e → IsSlotLine p i l → IsFileLine e l → ⊥
slot_no_file p i e l sound below proper (a, a_below, slot) (j, j_below, file) =
    omega (arith, slot_before p i a sound below a_below, file_behind p e j sound proper j_below)

-- a line of an entry is behind the gate's
pub line_behind : (p : Params) (i : ℕ) (e : Entry) (l : ℕ) → SoundParams p → i < p.slots → Proper p e → IsEntryLine p i e l → gate_line < l
line_behind p i e l sound below proper (inl (a, a_below, slot)) = omega (arith, (shape p).lines)
line_behind p i e l sound below proper (inr (j, j_below, file)) =
    omega (arith, (shape p).lines, slot_before p 0 0 sound (omega arith) (omega (arith, (shape p).lines)), file_behind p e j sound proper j_below)

-- so it is none of the head
pub line_no_head : (p : Params) (i : ℕ) (e : Entry) (l : ℕ) → SoundParams p → i < p.slots → Proper p e → IsEntryLine p i e l → IsHeadLine l → ⊥
line_no_head p i e l sound below proper line (inl low) = omega (arith, line_behind p i e l sound below proper line)
line_no_head p i e l sound below proper line (inr log) = omega (arith, line_behind p i e l sound below proper line)

-- Histories.

-- a history's entries are laid out one behind the other
pub history_laid : (p : Params) (all : List File) → IsHistory p all → IsLaidOut p (entries_of all)
history_laid p all history i e at =
    let is = member_from (λ (f : File). f.entry) all i e at in
    let f : File = is.0 in
    let belongs : Belongs p (take i all) f = history i f is.1 in
    let joins : Joins p (entries_of (take i all)) f.entry = joins_from p (entries_of (take i all)) f.entry belongs.joins in
    let here : IsFreeAfter p (entries_of (take i all)) f.entry = record { proper = belongs.proper; units = joins.units } in
    subst (λ (es : List Entry). IsFreeAfter p es e) (sym (take-map (λ (g : File). g.entry) i all))
    (subst (λ (x : Entry). IsFreeAfter p (entries_of (take i all)) x) is.2 here)

-- with an entry that belongs behind them it is a history again
pub history_more : (p : Params) (all : List File) (f : File) → IsHistory p all → Belongs p all f → IsHistory p (all ++ f ∷ [])
history_more p all f history belongs i g at =
    elim (with_last all f i g at) [
      | inl (below, is) ↦ subst (λ (before : List File). Belongs p before g) (sym (take-append-le i all (f ∷ []) (omega arith))) (history i g is)
      | inr (last, same) ↦
          let whole : take i (all ++ f ∷ []) ≡ all = take-append-le i all (f ∷ []) (omega arith) ∙ take_all i all (omega arith) in
          subst (λ (before : List File). Belongs p before g) (sym whole) (subst (λ (x : File). Belongs p all x) same belongs)
    ]

module _ (p : Params) (all : List File) (sound : SoundParams p) (history : IsHistory p all) where
  -- the entries' files are apart
  files_laid : AreApart p (entries_of all)
  files_laid = laid_apart p (entries_of all) (history_laid p all history)

  -- an entry is proper
  pub is_proper : (i : ℕ) (f : File) → slice_get all i ≡ Some f → Proper p f.entry
  is_proper i f at = (history i f at).proper

  -- two lines of files that are one are the same line of the same file
  pub files_apart : (i k a b : ℕ) (f g : File) → slice_get all i ≡ Some f → slice_get all k ≡ Some g → line_bytes * a < f.entry.size → line_bytes * b < g.entry.size
      → file_line f.entry a ≡ file_line g.entry b → (i ≡ k) × (a ≡ b)
  files_apart i k a b f g at_i at_k a_below b_below same =
      let first : place f.entry (line_bytes * a) ≡ line_bytes * file_line f.entry a = line_begins p f.entry a sound (is_proper i f at_i) a_below in
      let second : place g.entry (line_bytes * b) ≡ line_bytes * file_line g.entry b = line_begins p g.entry b sound (is_proper k g at_k) b_below in
      let both = bytes_apart p (entries_of all) i k (line_bytes * a) (line_bytes * b) (line_bytes * file_line g.entry b) sound files_laid
      record { entry = f.entry; at = slice_get-map (λ (h : File). h.entry) all i ∙ ap (option_map (λ (h : File). h.entry)) at_i; below = a_below; place = first ∙ ap (λ (n : ℕ). line_bytes * n) same }
      record { entry = g.entry; at = slice_get-map (λ (h : File). h.entry) all k ∙ ap (option_map (λ (h : File). h.entry)) at_k; below = b_below; place = second } in
      (both.0, omega (arith, both.1))

  -- as many entries as there are slots at most
  module _ (room : length all ≤ p.slots) where
    -- each has its slot
    pub has_slot : (i : ℕ) (f : File) → slice_get all i ≡ Some f → i < p.slots
    has_slot i f at = omega (arith, slice_get_within all i f at)

    -- a line of an entry is one of no other
    pub lines_apart : (i k l : ℕ) (f g : File) → slice_get all i ≡ Some f → slice_get all k ≡ Some g → IsEntryLine p i f.entry l → IsEntryLine p k g.entry l → i ≡ k
    lines_apart i k l f g at_i at_k (inl (a, a_below, is_a)) (inl (b, b_below, is_b)) = (slots_apart p i k a b a_below b_below (sym is_a ∙ is_b)).0
    lines_apart i k l f g at_i at_k (inl slot) (inr file) = absurd (slot_no_file p i g.entry l sound (has_slot i f at_i) (is_proper k g at_k) slot file)
    lines_apart i k l f g at_i at_k (inr file) (inl slot) = absurd (slot_no_file p k f.entry l sound (has_slot k g at_k) (is_proper i f at_i) slot file)
    lines_apart i k l f g at_i at_k (inr (a, a_below, is_a)) (inr (b, b_below, is_b)) = (files_apart i k a b f g at_i at_k a_below b_below (sym is_a ∙ is_b)).0

    -- nor of the head
    pub no_head : (i l : ℕ) (f : File) → slice_get all i ≡ Some f → IsEntryLine p i f.entry l → IsHeadLine l → ⊥
    no_head i l f at line head = line_no_head p i f.entry l sound (has_slot i f at) (is_proper i f at) line head

    -- nor the gate's
    pub no_gate : (i l : ℕ) (f : File) → slice_get all i ≡ Some f → IsEntryLine p i f.entry l → l ≡ gate_line → ⊥
    no_gate i l f at line gate = omega (arith, line_behind p i f.entry l sound (has_slot i f at) (is_proper i f at) line)
